-- No mark of a section lies inside a cut, so that each cut lies between neighbouring marks.
use Rattle.std.proofs.Common.{◌≡◌, ◌⊎◌, inl, inr, ℕ, zero, suc, ◌+◌, ◌<◌, ◌≤◌, max, min, Bool, true, false, not, ◌&&◌, ◌||◌, cond, ⊎_elim, List, [], ◌∷◌, length, get_or, Some, None, refl, sym, ap, ◌∙◌, subst, arith}
use Rattle.std.specs.Prelude.{◌==◌, nat_lt, filter}
use Rattle.std.specs.List.{flat_map, list_any, AllByRecursion, Contains}
use Rattle.std.proofs.lemmas.Bool.{cases_Bool, cases_lt, eqb-true, eqb-false, eq-eqb, ltb-false, lt-ltb, le-ltb, and_parts, and_from, not-true, true≢false}
use Rattle.std.proofs.lemmas.List.{get_or_default}
use Rattle.std.proofs.lemmas.List.Elements.{recursion_from_All}
use Rattle.cap_elf.specs.declared.records.Place.{Place}
use Rattle.cap_elf.specs.declared.records.Place.TheVariants as places
use Rattle.cap_elf.specs.declared.records.Section.{Section}
use Rattle.cap_elf.specs.declared.records.Symbol.{Symbol}
use Rattle.cap_elf.specs.RelObject.{RelObject, section_of}
use Rattle.cap_intervals.specs.declared.interval.Interval.{Interval}
use Rattle.cap_intervals.specs.Clash.{clash, share, is_same}
use Rattle.cap_intervals.specs.Earlier.{NoneAgainst}
use Rattle.cap_layout.specs.Cuts.{marks, cut_at, cut_ends, cut_section, cut_interval, cuts_section, is_one_section, overlaps, splits}
use Rattle.cap_layout.proofs.MarkLists.{two}
use Rattle.cap_layout.proofs.MarkSets.{Above, Ascends, Ascends-fold, list_any-ascending}
use Rattle.cap_layout.proofs.PiecePairs.{pairs}

or_cases : (b c : Bool) → (b || c) ≡ true → (b ≡ true) ⊎ ((b ≡ false) × (c ≡ true))
or_cases true c h = inl refl
or_cases false c h = inr (refl, h)

or_none : (b c : Bool) → (b || c) ≡ false → (b ≡ false) × (c ≡ false)
or_none true c h = absurd cc
or_none false c h = (refl, h)

-- ---- marks that follow one another
abbrev is_inside : ℕ → ℕ → ℕ → Bool
is_inside a b m = nat_lt a m && nat_lt m b

abbrev IsOutside : ℕ → ℕ → ℕ → Type 0
IsOutside a b m = (m ≤ a) ⊎ (b ≤ m)

outside : (a b m : ℕ) → IsOutside a b m → is_inside a b m ≡ false
outside a b m (inl le) = ap (λ t. t && nat_lt m b) (le-ltb a m le)
outside a b m (inr le) = ap (λ t. nat_lt a m && t) (le-ltb m b le) ∙ none (nat_lt a m)
  where
    none : (t : Bool) → (t && false) ≡ false
    none true = refl
    none false = refl

not_inside : (a b m : ℕ) → is_inside a b m ≡ false → a < m → b ≤ m
not_inside a b m h lt =
    ⊎_elim
    (λ (below : m < b). absurd (true≢false (sym (and_from (nat_lt a m) (nat_lt m b) (lt-ltb a m lt) (lt-ltb m b below)) ∙ h)))
    (λ (le : b ≤ m). le)
    (cases_lt m b)

abbrev Has : List ℕ → ℕ → Type 0
Has ms x = list_any (λ k. k == x) ms ≡ true

member_above : (m x : ℕ) (ms : List ℕ) → Above m ms → Has ms x → m < x
member_above m x [] above h = absurd (true≢false (sym h))
member_above m x (y ∷ ms) above h =
    ⊎_elim
    (λ (e : (y == x) ≡ true). subst (λ n. m < n) (eqb-true y x e) above.0)
    (λ (r : ((y == x) ≡ false) × Has ms x). member_above m x ms above.1 r.1)
    (or_cases (y == x) (list_any (λ k. k == x) ms) h)

-- a member that is not the first is among the others
has_later : (m x : ℕ) (ms : List ℕ) → m < x → Has (m ∷ ms) x → Has ms x
has_later m x ms lt h =
    ⊎_elim
    (λ (e : (m == x) ≡ true). let same = eqb-true m x e in absurd (omega (arith, lt, same)))
    (λ (r : ((m == x) ≡ false) × Has ms x). r.1)
    (or_cases (m == x) (list_any (λ k. k == x) ms) h)

later : {X : Type 0} (x y : X) (xs : List X) → Contains xs x → Contains (y ∷ xs) x
later x y xs c = (suc c.0, omega (arith, c.1), c.2)

-- the first of the others, which is not below b, is b
next_is : (b n : ℕ) (ms : List ℕ) → Ascends (n ∷ ms) → Has (n ∷ ms) b → b ≤ n → n ≡ b
next_is b n ms ascends h le =
    ⊎_elim
    (λ (e : (n == b) ≡ true). eqb-true n b e)
    (λ (r : ((n == b) ≡ false) × Has ms b). let lt = member_above n b ms ascends.0 r.1 in absurd (omega (arith, lt, le)))
    (or_cases (n == b) (list_any (λ k. k == b) ms) h)

neighbours : (a b : ℕ) (ms : List ℕ) → Ascends ms → Has ms a → Has ms b → a < b → list_any (is_inside a b) ms ≡ false → Contains (pairs ms) (a, b)
neighbours a b [] ascends x y lt none = absurd (true≢false (sym x))
neighbours a b (m ∷ []) ascends x y lt none =
    ⊎_elim
    (λ (e : (m == a) ≡ true). let same = eqb-true m a e in absurd (true≢false (sym (has_later m b [] (omega (arith, lt, same)) y))))
    (λ (r : ((m == a) ≡ false) × Has [] a). absurd (true≢false (sym r.1)))
    (or_cases (m == a) false x)
neighbours a b (m ∷ n ∷ ms) ascends x y lt none =
    let inner = (or_none (is_inside a b m) (list_any (is_inside a b) (n ∷ ms)) none).1 in
    ⊎_elim
    (λ (e : (m == a) ≡ true).
    let same : m ≡ a = eqb-true m a e in
    let rest : Has (n ∷ ms) b = has_later m b (n ∷ ms) (omega (arith, lt, same)) y in
    let above : a < n = subst (λ k. k < n) same ascends.0.0 in
    let le : b ≤ n = not_inside a b n (or_none (is_inside a b n) (list_any (is_inside a b) ms) inner).0 above in
    let next : n ≡ b = next_is b n ms ascends.1 rest le in
    (0, omega arith, ap (λ k. (k, n)) same ∙ ap (λ k. (a, k)) next))
    (λ (r : ((m == a) ≡ false) × Has (n ∷ ms) a).
    let first : m < a = member_above m a (n ∷ ms) ascends.0 r.1 in
    let rest : Has (n ∷ ms) b = has_later m b (n ∷ ms) (omega (arith, first, lt)) y in
    later (a, b) (m, n) (pairs (n ∷ ms)) (neighbours a b (n ∷ ms) ascends.1 r.1 rest lt inner))
    (or_cases (m == a) (list_any (λ k. k == a) (n ∷ ms)) x)

-- ---- cuts
pub cut_facts : (secs : List Section) (size : ℕ) (p : Place) (n : ℕ) → is_one_section (Some n) (cut_at secs size p) ≡ true → (cut_at secs size p ≡ Some n) × (splits secs n ≡ true) × (0 < size)
cut_facts secs size places.Undefined n h = absurd cc
cut_facts secs size places.Absolute n h = absurd cc
cut_facts secs size places.Common n h = absurd cc
cut_facts secs size (places.Section m) n h = by (splits secs m && not (size == 0)) refl h
  where
    by : (b : Bool) → (splits secs m && not (size == 0)) ≡ b → is_one_section (Some n) (cond b (Some m) None) ≡ true → (cond b (Some m) None ≡ Some n) × (splits secs n ≡ true) × (0 < size)
    by true is one =
        let same : n ≡ m = eqb-true n m one in
        let parts = and_parts (splits secs m) (not (size == 0)) is in
        let some : size ≡ 0 → ⊥ = eqb-false size 0 (not-true (size == 0) parts.1) in
        (ap (λ k. Some k) (sym same), subst (λ k. splits secs k ≡ true) (sym same) parts.0, omega (arith, some))
    by false is one = absurd cc

abbrev AreApart : ℕ → ℕ → ℕ → ℕ → Type 0
AreApart a b c d = (min b d ≤ max a c) ⊎ ((a ≡ c) × (b ≡ d))

turned : (a b c d : ℕ) → AreApart c d a b → AreApart a b c d
turned a b c d (inl h) = inl (omega (arith, h))
turned a b c d (inr h) = inr (sym h.0, sym h.1)

both_outside : (a b c d : ℕ) → a < b → c < d → AreApart a b c d → IsOutside a b c × IsOutside a b d
both_outside a b c d some more (inl h) =
    ⊎_elim
    (λ (lt : c < b). (inl (omega (arith, some, more, h, lt)), inl (omega (arith, some, more, h, lt))))
    (λ (le : b ≤ c). (inr le, inr (omega (arith, le, more))))
    (cases_lt c b)
both_outside a b c d some more (inr h) = (inl (omega (arith, h.0)), inr (omega (arith, h.1)))

clash_not : (x y : Interval) → clash true x y ≡ false → AreApart x.start x.end y.start y.end
clash_not x y h =
    ⊎_elim
    (λ (shared : share x y ≡ true). let same = and_parts (x.start == y.start) (x.end == y.end) (equal (share x y) (is_same x y) shared h) in inr (eqb-true x.start y.start same.0, eqb-true x.end y.end same.1))
    (λ (none : share x y ≡ false). inl (ltb-false (max x.start y.start) (min x.end y.end) none))
    (cases_Bool (share x y))
  where
    equal : (b c : Bool) → b ≡ true → (b && not (true && c)) ≡ false → c ≡ true
    equal true true e h = refl
    equal true false e h = absurd cc
    equal false c e h = absurd cc

module _ (secs : List Section) (n : ℕ) where
  abbrev Cuts : Symbol → Type 0
  Cuts s = is_one_section (Some n) (cut_section secs s) ≡ true

  one_section : (s t : Symbol) → Cuts s → Cuts t → is_one_section (cut_section secs s) (cut_section secs t) ≡ true
  one_section s t h k =
      ap (λ o. is_one_section o (cut_section secs t)) (cut_facts secs s.size s.place n h).0
      ∙ ap (λ o. is_one_section (Some n) o) (cut_facts secs t.size t.place n k).0
      ∙ eq-eqb n n refl

  apart : (s t : Symbol) → Cuts s → Cuts t → overlaps secs s t ≡ false → AreApart s.value (s.value + s.size) t.value (t.value + t.size)
  apart s t h k none =
      clash_not (cut_interval s) (cut_interval t) (second (is_one_section (cut_section secs s) (cut_section secs t)) (clash true (cut_interval s) (cut_interval t)) (one_section s t h k) none)
    where
      second : (b c : Bool) → b ≡ true → (b && c) ≡ false → c ≡ false
      second true c e h = h
      second false c e h = absurd cc

  -- the ends of a cut do not lie inside another
  ends_outside : (ss : List Symbol) (i j : ℕ) (d : Symbol) → NoneAgainst (overlaps secs) ss → i < length ss → j < length ss → Cuts (get_or ss i d) → Cuts (get_or ss j d) → IsOutside (get_or ss i d).value ((get_or ss i d).value + (get_or ss i d).size) (get_or ss j d).value × IsOutside (get_or ss i d).value ((get_or ss i d).value + (get_or ss i d).size) ((get_or ss j d).value + (get_or ss j d).size)
  ends_outside ss i j d none inside known h k =
      let s = get_or ss i d in
      let t = get_or ss j d in
      let some : 0 < s.size = (cut_facts secs s.size s.place n h).2 in
      let more : 0 < t.size = (cut_facts secs t.size t.place n k).2 in
      both_outside s.value (s.value + s.size) t.value (t.value + t.size) (longer s.value s.size some) (longer t.value t.size more)
      (⊎_elim
      (λ (lt : i < j). turned s.value (s.value + s.size) t.value (t.value + t.size) (apart t s k h (none i j d lt known)))
      (λ (le : j ≤ i). ⊎_elim
      (λ (lt : j < i). apart s t h k (none j i d lt inside))
      (λ (le' : i ≤ j). let same : i ≡ j = omega (arith, le, le') in inr (ap (λ m. (get_or ss m d).value) same, ap (λ m. (get_or ss m d).value + (get_or ss m d).size) same))
      (cases_lt j i))
      (cases_lt i j))
    where
      longer : (a b : ℕ) → 0 < b → a < a + b
      longer a b h = omega (arith, h)

-- ---- no end of a cut lies inside
none_inside : (a b : ℕ) (test : Symbol → Bool) (ss : List Symbol) → AllByRecursion (λ t. test t ≡ true → IsOutside a b t.value × IsOutside a b (t.value + t.size)) ss → list_any (is_inside a b) (flat_map two (filter test ss)) ≡ false
none_inside a b test [] h = refl
none_inside a b test (t ∷ ss) h = by (test t) refl (none_inside a b test ss h.1)
  where
    by : (c : Bool) → test t ≡ c → list_any (is_inside a b) (flat_map two (filter test ss)) ≡ false → list_any (is_inside a b) (flat_map two (cond c (t ∷ filter test ss) (filter test ss))) ≡ false
    by true passes rest =
        let both = h.0 passes in
        ap (λ x. x || (is_inside a b (t.value + t.size) || list_any (is_inside a b) (flat_map two (filter test ss)))) (outside a b t.value both.0)
        ∙ ap (λ x. x || list_any (is_inside a b) (flat_map two (filter test ss))) (outside a b (t.value + t.size) both.1)
        ∙ rest
    by false out rest = rest

-- both ends of a cut are among the ends
has_ends : (test : Symbol → Bool) (ss : List Symbol) (i : ℕ) (d : Symbol) → i < length ss → test (get_or ss i d) ≡ true → Has (flat_map two (filter test ss)) (get_or ss i d).value × Has (flat_map two (filter test ss)) ((get_or ss i d).value + (get_or ss i d).size)
has_ends test [] i d lt passes = absurd (omega (arith, lt))
has_ends test (t ∷ ss) zero d lt passes =
    subst (λ c. Has (flat_map two (cond c (t ∷ filter test ss) (filter test ss))) t.value × Has (flat_map two (cond c (t ∷ filter test ss) (filter test ss))) (t.value + t.size)) (sym passes) (
      ap (λ x. x || (((t.value + t.size) == t.value) || list_any (λ k. k == t.value) (flat_map two (filter test ss)))) (eq-eqb t.value t.value refl),
      second (t.value == (t.value + t.size)) ((t.value + t.size) == (t.value + t.size)) (list_any (λ k. k == (t.value + t.size)) (flat_map two (filter test ss))) (eq-eqb (t.value + t.size) (t.value + t.size) refl),
    )
  where
    second : (x y z : Bool) → y ≡ true → (x || (y || z)) ≡ true
    second true y z h = refl
    second false true z h = refl
    second false false z h = absurd cc
has_ends test (t ∷ ss) (suc i) d lt passes = by (test t) (has_ends test ss i d (omega (arith, lt)) passes)
  where
    more : (x y z : Bool) → z ≡ true → (x || (y || z)) ≡ true
    more true y z h = refl
    more false true z h = refl
    more false false z h = h

    by : (c : Bool) → Has (flat_map two (filter test ss)) (get_or ss i d).value × Has (flat_map two (filter test ss)) ((get_or ss i d).value + (get_or ss i d).size) → Has (flat_map two (cond c (t ∷ filter test ss) (filter test ss))) (get_or ss i d).value × Has (flat_map two (cond c (t ∷ filter test ss) (filter test ss))) ((get_or ss i d).value + (get_or ss i d).size)
    by true rest = (
      more (t.value == (get_or ss i d).value) ((t.value + t.size) == (get_or ss i d).value) _ rest.0,
      more (t.value == ((get_or ss i d).value + (get_or ss i d).size)) ((t.value + t.size) == ((get_or ss i d).value + (get_or ss i d).size)) _ rest.1,
    )
    by false rest = rest

-- ---- the marks of a section
-- each cut lies between neighbouring marks
pub between_marks : (object : RelObject) (n i : ℕ) (d : Symbol) → NoneAgainst (overlaps object.sections) object.symbols → i < length object.symbols → cuts_section object n (get_or object.symbols i d) ≡ true → (get_or object.symbols i d).value + (get_or object.symbols i d).size ≤ (section_of object n).size → Contains (pairs (marks object n)) ((get_or object.symbols i d).value, (get_or object.symbols i d).value + (get_or object.symbols i d).size)
between_marks object n i d none inside cuts high =
    let s = get_or object.symbols i d in
    let a = s.value in
    let b = s.value + s.size in
    let size = (section_of object n).size in
    let ends : List ℕ = cut_ends object n in
    let xs : List ℕ = 0 ∷ size ∷ ends in
    let some : 0 < s.size = (cut_facts object.sections s.size s.place n cuts).2 in
    let outsides : AllByRecursion (λ t. cuts_section object n t ≡ true → IsOutside a b t.value × IsOutside a b (t.value + t.size)) object.symbols =
    recursion_from_All (λ t. cuts_section object n t ≡ true → IsOutside a b t.value × IsOutside a b (t.value + t.size)) object.symbols
    (λ j e lt. at_default object.symbols j d e lt (λ t. cuts_section object n t ≡ true → IsOutside a b t.value × IsOutside a b (t.value + t.size)) (λ other. ends_outside object.sections n object.symbols i j d none inside lt cuts other)) in
    let inner : list_any (is_inside a b) ends ≡ false = none_inside a b (cuts_section object n) object.symbols outsides in
    let clear : list_any (is_inside a b) xs ≡ false =
    ap (λ x. x || (is_inside a b size || list_any (is_inside a b) ends)) (outside a b 0 (inl (omega arith)))
    ∙ ap (λ x. x || list_any (is_inside a b) ends) (outside a b size (inr high))
    ∙ inner in
    let has = has_ends (cuts_section object n) object.symbols i d inside cuts in
    neighbours a b (marks object n) (Ascends-fold xs [] tt)
    (list_any-ascending (λ k. k == a) xs ∙ third (0 == a) (size == a) (list_any (λ k. k == a) ends) has.0)
    (list_any-ascending (λ k. k == b) xs ∙ third (0 == b) (size == b) (list_any (λ k. k == b) ends) has.1)
    (longer a s.size some)
    (list_any-ascending (is_inside a b) xs ∙ clear)
  where
    third : (x y z : Bool) → z ≡ true → (x || (y || z)) ≡ true
    third true y z h = refl
    third false true z h = refl
    third false false z h = h

    longer : (a b : ℕ) → 0 < b → a < a + b
    longer a b h = omega (arith, h)

    at_default : {X : Type 0} (xs : List X) (j : ℕ) (d e : X) → j < length xs → (P : X → Type 0) → P (get_or xs j d) → P (get_or xs j e)
    at_default xs j d e lt P h = subst P (get_or_default xs j d e lt) h

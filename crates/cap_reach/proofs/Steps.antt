-- As many steps as there are words lead to all that is reached.
use Rattle.std.proofs.Common.{◌≡◌, ℕ, zero, suc, ◌+◌, ◌<◌, ◌≤◌, Bool, true, false, ◌&&◌, ◌||◌, ◌==◌, ◌⊎◌, ⊎_elim, inl, inr, List, [], ◌∷◌, length, refl, sym, ap, subst, ◌∙◌, arith}
use Rattle.std.specs.Prelude.{filter, All, Contains, slice_index_or}
use Rattle.std.specs.List.{list_any}
use Rattle.std.specs.List.Sorted.{IsStrictlyIncreasing}
use Rattle.std.proofs.lemmas.Bool.{cases_Bool}
use Rattle.std.proofs.lemmas.Bool.Decides.{nat_tests}
use Rattle.std.proofs.lemmas.List.{length-map}
use Rattle.std.proofs.lemmas.List.Kept.{IsStrictlyIncreasing-filter}
use Rattle.std.proofs.lemmas.List.Elements.{All-head, All-tail, All-contains_itself, All-weaker}
use Rattle.cap_image.proofs.Holding.{contains_filter, filter_contains, and_left, and_right, or_left, or_right, or_cases}
use Rattle.cap_reach.specs.Reach.{PlacedWord, Reached, IsReach, granules_of, loads}
use Rattle.cap_reach.specs.Reach.Reached.{at_start, by_load}
use Rattle.cap_reach.specs.Computed.{is_one, is_loaded, with_loaded, after_steps, reach_of, ReachIsComputed}

any_some : {X : Type 0} (p : X → Bool) (xs : List X) → list_any p xs ≡ true → (x : X) × Contains xs x × (p x ≡ true)
any_some p [] e = cc
any_some p (y ∷ ys) e =
    ⊎_elim
    (λ (here : p y ≡ true). (y, (0, omega arith, refl), here))
    (λ (later : list_any p ys ≡ true). let rest = any_some p ys later in let has = rest.1 in let lt = has.1 in (rest.0, (suc has.0, omega arith, has.2), rest.2))
    (or_cases (p y) (list_any p ys) e)

some_at : {X : Type 0} (p : X → Bool) (xs : List X) (k : ℕ) (d : X) → k < length xs → p (slice_index_or xs k d) ≡ true → list_any p xs ≡ true
some_at p [] k d lt passes = absurd (omega (arith, lt))
some_at p (y ∷ ys) zero d lt passes = or_left (p y) (list_any p ys) passes
some_at p (y ∷ ys) (suc k) d lt passes = or_right (p y) (list_any p ys) (some_at p ys k d (omega (arith, lt)) passes)

some_any : {X : Type 0} (p : X → Bool) (xs : List X) (x : X) → Contains xs x → p x ≡ true → list_any p xs ≡ true
some_any p xs x has passes = some_at p xs has.0 x has.1 (ap p has.2 ∙ passes)

one_has : (xs : List ℕ) (g : ℕ) → is_one xs g ≡ true → Contains xs g
one_has xs g one =
    let some = any_some (λ x. x == g) xs one in
    let passes = some.2 in
    let same : some.0 ≡ g = grind (arith, nat_tests) in
    subst (Contains xs) same some.1

has_one : (xs : List ℕ) (g : ℕ) → Contains xs g → is_one xs g ≡ true
has_one xs g has = some_any (λ x. x == g) xs g has (grind (arith, nat_tests))

same_filter : (p q : ℕ → Bool) (xs : List ℕ) → All (λ x. p x ≡ q x) xs → filter p xs ≡ filter q xs
same_filter p q [] same = refl
same_filter p q (x ∷ xs) same =
    let here : p x ≡ q x = All-head (λ y. p y ≡ q y) x xs same in
    let rest = same_filter p q xs (All-tail (λ y. p y ≡ q y) x xs same) in
    ⊎_elim
    (λ (t : q x ≡ true). rw (here ∙ t, t) (ap (λ (ys : List ℕ). x ∷ ys) rest))
    (λ (f : q x ≡ false). rw (here ∙ f, f) rest)
    (cases_Bool (q x))

-- a filter by what it leaves
settled : (p : ℕ → Bool) (xs : List ℕ) → filter p xs ≡ filter (is_one (filter p xs)) xs
settled p xs =
    same_filter p (is_one (filter p xs)) xs
    (All-weaker (Contains xs) (λ x. p x ≡ is_one (filter p xs) x)
    (λ x has.
    ⊎_elim
    (λ (t : p x ≡ true). t ∙ sym (has_one (filter p xs) x (contains_filter p xs x has t)))
    (λ (f : p x ≡ false).
    ⊎_elim
    (λ (one : is_one (filter p xs) x ≡ true). (filter_contains p xs x (one_has (filter p xs) x one)).1 ∙ sym one)
    (λ (none : is_one (filter p xs) x ≡ false). f ∙ sym none)
    (cases_Bool (is_one (filter p xs) x)))
    (cases_Bool (p x)))
    xs (All-contains_itself xs))

-- a weaker test leaves the same, or more
same_or_more : (p q : ℕ → Bool) → ((x : ℕ) → p x ≡ true → q x ≡ true) → (xs : List ℕ) → (filter p xs ≡ filter q xs) ⊎ (length (filter p xs) < length (filter q xs))
same_or_more p q weaker [] = inl refl
same_or_more p q weaker (x ∷ xs) =
    ⊎_elim
    (λ (t : p x ≡ true).
    rw (t, weaker x t) (⊎_elim
    (λ (same : filter p xs ≡ filter q xs). inl (ap (λ (ys : List ℕ). x ∷ ys) same))
    (λ (more : length (filter p xs) < length (filter q xs)). inr (omega arith))
    (same_or_more p q weaker xs)))
    (λ (f : p x ≡ false).
    ⊎_elim
    (λ (t : q x ≡ true).
    rw (f, t) (⊎_elim
    (λ (same : filter p xs ≡ filter q xs). let n = ap length same in inr (omega arith))
    (λ (more : length (filter p xs) < length (filter q xs)). inr (omega arith))
    (same_or_more p q weaker xs)))
    (λ (g : q x ≡ false). rw (f, g) (same_or_more p q weaker xs))
    (cases_Bool (q x)))
    (cases_Bool (p x))

no_more : (p : ℕ → Bool) (xs : List ℕ) → length (filter p xs) ≤ length xs
no_more p [] = omega arith
no_more p (x ∷ xs) =
    let rest = no_more p xs in
    ⊎_elim (λ (t : p x ≡ true). rw t (omega arith)) (λ (f : p x ≡ false). rw f (omega arith)) (cases_Bool (p x))

module _ (words : List PlacedWord) where
  abbrev gs : List ℕ
  gs = granules_of words

  abbrev passes : List ℕ → ℕ → Bool
  passes slots granule = is_one slots granule || is_loaded words slots granule

  whole_if_same : (slots : List ℕ) → with_loaded words slots ≡ slots → (g : ℕ) → Contains gs g → is_loaded words slots g ≡ true → Contains slots g
  whole_if_same slots same g has loaded =
      subst (λ (xs : List ℕ). Contains xs g) same (contains_filter (passes slots) gs g has (or_right (is_one slots g) (is_loaded words slots g) loaded))

  stays : (n : ℕ) (slots : List ℕ) → with_loaded words slots ≡ slots → after_steps n words slots ≡ slots
  stays zero slots same = refl
  stays (suc n) slots same = ap (after_steps n words) same ∙ stays n slots same

  settled_end : (n : ℕ) (slots : List ℕ) → slots ≡ filter (is_one slots) gs → filter (is_one slots) gs ≡ filter (passes slots) gs → with_loaded words (after_steps n words slots) ≡ after_steps n words slots
  settled_end n slots settles same =
      let end : with_loaded words slots ≡ slots = sym same ∙ sym settles in
      subst (λ (xs : List ℕ). with_loaded words xs ≡ xs) (sym (stays n slots end)) end

  grows : (slots : List ℕ) → (filter (is_one slots) gs ≡ filter (passes slots) gs) ⊎ (length (filter (is_one slots) gs) < length (filter (passes slots) gs))
  grows slots = same_or_more (is_one slots) (passes slots) (λ x one. or_left (is_one slots x) (is_loaded words slots x) one) gs

  -- with enough steps none is left to be loaded
  whole : (n : ℕ) (slots : List ℕ) → slots ≡ filter (is_one slots) gs → length gs ≤ n + length slots → with_loaded words (after_steps n words slots) ≡ after_steps n words slots
  whole zero slots settles enough =
      ⊎_elim
      (settled_end zero slots settles)
      (λ (more : length (filter (is_one slots) gs) < length (filter (passes slots) gs)). let size = ap length settles in let few = no_more (passes slots) gs in absurd (omega arith))
      (grows slots)
  whole (suc n) slots settles enough =
      ⊎_elim
      (settled_end (suc n) slots settles)
      (λ (more : length (filter (is_one slots) gs) < length (filter (passes slots) gs)). let size = ap length settles in whole n (with_loaded words slots) (settled (passes slots) gs) (omega arith))
      (grows slots)

  ascends : (n : ℕ) (slots : List ℕ) → IsStrictlyIncreasing gs → IsStrictlyIncreasing slots → IsStrictlyIncreasing (after_steps n words slots)
  ascends zero slots up rises = rises
  ascends (suc n) slots up rises = ascends n (with_loaded words slots) up (IsStrictlyIncreasing-filter (passes slots) gs up)

  keeps : (n : ℕ) (slots : List ℕ) (g : ℕ) → Contains gs g → Contains slots g → Contains (after_steps n words slots) g
  keeps zero slots g listed has = has
  keeps (suc n) slots g listed has = keeps n (with_loaded words slots) g listed (contains_filter (passes slots) gs g listed (or_left (is_one slots g) (is_loaded words slots g) (has_one slots g has)))

  module _ (start : ℕ) where
    one_step : (slots : List ℕ) → ((g : ℕ) → Contains slots g → Reached words start g) → (g : ℕ) → Contains (with_loaded words slots) g → Reached words start g
    one_step slots sound g has =
        let both = filter_contains (passes slots) gs g has in
        ⊎_elim
        (λ (old : is_one slots g ≡ true). sound g (one_has slots g old))
        (λ (new : is_loaded words slots g ≡ true).
        let some = any_some (λ (from : PlacedWord). is_one slots from.granule && loads from.word g) words new in
        let one = and_left (is_one slots some.0.granule) (loads some.0.word g) some.2 in
        let loaded = and_right (is_one slots some.0.granule) (loads some.0.word g) some.2 in
        by_load some.0 g (sound some.0.granule (one_has slots some.0.granule one)) some.1 both.0 loaded)
        (or_cases (is_one slots g) (is_loaded words slots g) both.1)

    sound : (n : ℕ) (slots : List ℕ) → ((g : ℕ) → Contains slots g → Reached words start g) → (g : ℕ) → Contains (after_steps n words slots) g → Reached words start g
    sound zero slots before g has = before g has
    sound (suc n) slots before g has = sound n (with_loaded words slots) (one_step slots before) g has

    complete : (slots : List ℕ) → with_loaded words slots ≡ slots → Contains slots start → (g : ℕ) → Reached words start g → Contains slots g
    complete slots end first _ at_start = first
    complete slots end first _ (by_load from to r here there loaded) =
        let has = complete slots end first from.granule r in
        let both : (is_one slots from.granule && loads from.word to) ≡ true = rw (has_one slots from.granule has, loaded) refl in
        whole_if_same slots end to there (some_any (λ (w : PlacedWord). is_one slots w.granule && loads w.word to) words from here both)

    begins : (g : ℕ) → Contains (start ∷ []) g → Reached words start g
    begins g has =
        let lt = has.1 in
        let first : 0 ≡ has.0 = omega arith in
        let same : start ≡ g = ap (λ (k : ℕ). slice_index_or (start ∷ []) k g) first ∙ has.2 in
        subst (Reached words start) same at_start

    computed : (n : ℕ) → length words ≡ n → IsStrictlyIncreasing gs → Contains gs start → IsReach words start (after_steps n words (start ∷ []))
    computed zero size up listed = let n = length-map words (λ w. w.granule) in let lt = listed.1 in absurd (omega arith)
    computed (suc n) size up listed =
        let count = length-map words (λ w. w.granule) in
        let has : Contains (with_loaded words (start ∷ [])) start = keeps 1 (start ∷ []) start listed (0, omega arith, refl) in
        let some = has.1 in
        let end = whole n (with_loaded words (start ∷ [])) (settled (passes (start ∷ [])) gs) (omega arith) in
        record {
          ascending = ascends (suc n) (start ∷ []) up (λ k lt. absurd (omega arith));
          each = λ g. (
            sound (suc n) (start ∷ []) begins g,
            complete (after_steps (suc n) words (start ∷ [])) end (keeps (suc n) (start ∷ []) start listed (0, omega arith, refl)) g,
          );
        }

pub reach_computed : ReachIsComputed
unfolding reach_of
reach_computed words start up listed = computed words start (length words) refl up listed

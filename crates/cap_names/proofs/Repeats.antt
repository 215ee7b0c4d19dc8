-- What neighbours among the keys of an index tell of names that are defined more than once.
use Rattle.std.proofs.Common.{◌≡◌, ◌⊎◌, inl, inr, ⊎_elim, ℕ, suc, ◌+◌, ◌-◌, ◌/◌, ◌%◌, ◌^◌, ◌<◌, ◌≤◌, List, [], ◌∷◌, Bool, true, false, ◌&&◌, ◌||◌, Option, Some, None, IfSome, length, get_or, take, refl, sym, ap, subst, ◌∙◌, arith}
use Rattle.std.specs.Prelude.{bytes_eq, IsSomeAnd}
use Rattle.std.specs.List.{list_any}
use Rattle.std.proofs.lemmas.Bool.{false_from_ne_true, cases_lt}
use Rattle.std.proofs.lemmas.List.{get_or-take, get_or_default, length-take-le}
use Rattle.std.proofs.lemmas.List.Folds.{list_any_at}
use Rattle.std.proofs.lemmas.Map.Keys.{IsDistinct-from_apart}
use Rattle.std.proofs.lemmas.Slice.Eq.{bytes_eq-Decides}
use Rattle.std.specs.Ordering.{is_gt}
use Rattle.cap_names.specs.Named.{Named, name_at, is_defined_at, is_repeated, AreDistinct, IsLeast}
use Rattle.cap_names.specs.Keys.{Rank, rank_cmp, rank_at, name_of, IsIndexOf, Seen}
use Rattle.cap_names.proofs.Finding.{both_true, are_both}
use Rattle.cap_names.proofs.Making.{defined_inside}
use Rattle.cap_names.proofs.Ranks.{between, ranks_ascend, least_first}

either : (b : Bool) → (b ≡ true) ⊎ (b ≡ false)
either true = inl refl
either false = inr refl

-- an element that passes
passes_at : {X : Type 0} (p : X → Bool) (xs : List X) (d : X) → list_any p xs ≡ true → (i : ℕ) × (i < length xs) × (p (get_or xs i d) ≡ true)
passes_at p [] d h = absurd (cc)
passes_at p (x ∷ xs) d h =
    ⊎_elim (λ (t : p x ≡ true). (0, omega arith, t))
    (λ (f : p x ≡ false). let r = passes_at p xs d (ap (λ (b : Bool). b || list_any p xs) (sym f) ∙ h) in (suc r.0, omega (arith, r.1), r.2)) (either (p x))

abbrev same_as : List Named → ℕ → Named → Bool
same_as names j p = p.1 && bytes_eq p.0 (name_at names j)

module _ (names : List Named) where
  -- an earlier index that is defined and has the same name
  earlier : (j : ℕ) → is_repeated names j ≡ true → (i : ℕ) × (i < j) × (is_defined_at names i ≡ true) × (name_at names i ≡ name_at names j) × (is_defined_at names j ≡ true)
  earlier j h =
      let both = both_true (is_defined_at names j) _ h in
      let below = defined_inside names j both.0 in
      let r = passes_at (same_as names j) (take j names) ([], false) both.1 in
      let less : r.0 < j = omega (arith, r.1, length-take-le j names (omega (arith, below))) in
      let here : same_as names j (get_or names r.0 ([], false)) ≡ true = ap (same_as names j) (sym (get_or-take j names r.0 ([], false) less)) ∙ r.2 in
      let parts = both_true (is_defined_at names r.0) _ here in
      (r.0, less, parts.0, (bytes_eq-Decides _ _).0 parts.1, both.0)

  repeats : (i j : ℕ) → i < j → is_defined_at names i ≡ true → is_defined_at names j ≡ true → name_at names i ≡ name_at names j → is_repeated names j ≡ true
  repeats i j less first second same =
      let below = defined_inside names j second in
      let inside : i < length (take j names) = omega (arith, less, below, length-take-le j names (omega (arith, below))) in
      let here : same_as names j (get_or names i ([], false)) ≡ true = are_both (is_defined_at names i) _ first ((bytes_eq-Decides _ _).1 same) in
      are_both (is_defined_at names j) _ second (list_any_at (same_as names j) (take j names) i ([], false) inside (ap (same_as names j) (get_or-take j names i ([], false) less) ∙ here))

-- where none is repeated, defined names are distinct
pub distinct_from_none : (names : List Named) (least : Option ℕ) → IsLeast (is_repeated names) least → least ≡ None → AreDistinct names
distinct_from_none names least is none =
    let no : (k : ℕ) → is_repeated names k ≡ false = subst (IsLeast (is_repeated names)) none is in
    let same : Named → Named → Bool = λ a b. a.1 && b.1 && bytes_eq a.0 b.0 in
    IsDistinct-from_apart same names (λ i j d order h.
    ap (λ (p : Named). same p (get_or names j d)) (get_or_default names i d ([], false) (omega (arith, order, h)))
    ∙ ap (same (get_or names i ([], false))) (get_or_default names j d ([], false) h)
    ∙ false_from_ne_true _ (λ (t : same (get_or names i ([], false)) (get_or names j ([], false)) ≡ true).
    let both = both_true (is_defined_at names i && is_defined_at names j) (bytes_eq (name_at names i) (name_at names j)) t in
    let parts = both_true (is_defined_at names i) (is_defined_at names j) both.0 in
    let yes = repeats names i j order parts.0 parts.1 ((bytes_eq-Decides _ _).0 both.1) in
    let never = no j in
    absurd (cc (yes, never))))

module _ (names : List Named) (keys : List ℕ) (index : IsIndexOf names keys) where
  abbrev rank : ℕ → Rank
  rank k = rank_at names keys k

  abbrev number : ℕ → ℕ
  number k = get_or keys k 0 % 2 ^ 32

  -- neighbours with one rank: the second is repeated
  pub repeated_here : (k : ℕ) → k + 1 < length keys → rank k ≡ rank (k + 1) → is_repeated names (number (k + 1)) ≡ true
  repeated_here k h same =
      let first = index.sound k (omega (arith, h)) in
      let second = index.sound (k + 1) h in
      let up = least_first names keys index k (k + 1) (omega arith) h (sym same) in
      let other = index.apart k (k + 1) (omega arith) h in
      repeats names (number k) (number (k + 1)) (omega (arith, up, other)) first.defined second.defined (ap (λ (r : Rank). r.1) same)

  -- an index that is repeated stands behind a neighbour with its rank
  neighbour : (j : ℕ) → is_repeated names j ≡ true → (k : ℕ) × (k + 1 < length keys) × (rank k ≡ rank (k + 1)) × (number (k + 1) ≡ j)
  neighbour j h =
      let e = earlier names j h in
      let p = index.complete e.0 e.2 in
      let q = index.complete j e.4 in
      let named : name_of names keys p.0 ≡ name_of names keys q.0 = ap (name_at names) p.2 ∙ e.3 ∙ sym (ap (name_at names) q.2) in
      let same : rank p.0 ≡ rank q.0 =
      ap (λ (n : ℕ). let r : Rank = (n, name_of names keys p.0) in r) (index.agreed p.0 q.0 p.1 q.1 named) ∙ ap (λ (n : List ℕ). let r : Rank = (get_or keys q.0 0 / 2 ^ 32, n) in r) named in
      let order : q.0 ≤ p.0 → j ≤ e.0 = λ le. omega (arith, least_first names keys index q.0 p.0 le p.1 same, p.2, q.2) in
      let before : p.0 < q.0 = grind (arith, order, e.1) in
      let place : (q.0 - 1) + 1 ≡ q.0 = omega (arith, before) in
      let inside : q.0 - 1 < length keys = omega (arith, before, q.1) in
      let low = ranks_ascend names keys index p.0 (q.0 - 1) (omega (arith, before)) inside in
      let low_too : is_gt (rank_cmp (rank q.0) (rank (q.0 - 1))) ≡ false = subst (λ (r : Rank). is_gt (rank_cmp r (rank (q.0 - 1))) ≡ false) same low in
      let high = ranks_ascend names keys index (q.0 - 1) q.0 (omega arith) q.1 in
      (q.0 - 1, omega (arith, before, q.1), between _ _ high low_too ∙ ap rank (sym place), ap number place ∙ q.2)

  pub seen_none : Seen names keys 1 None
  seen_none = record { real = tt; covers = λ k h. absurd (omega (arith, h)) }

  last : (n k : ℕ) → n + 1 < k + 1 + 1 → (n + 1 < k + 1) ⊎ (n ≡ k)
  last n k h = ⊎_elim (λ (l : n < k). inl (omega (arith, l))) (λ (g : k ≤ n). inr (omega (arith, g, h))) (cases_lt n k)

  -- one neighbour more
  seen_next : (k : ℕ) (least next : Option ℕ) → Seen names keys (k + 1) least → IfSome next (λ i. is_repeated names i ≡ true)
      → (rank k ≡ rank (k + 1) → IsSomeAnd next (λ i. i ≤ number (k + 1))) → ((m : ℕ) → IsSomeAnd least (λ i. i ≤ m) → IsSomeAnd next (λ i. i ≤ m)) → Seen names keys (k + 1 + 1) next
  seen_next k least next s real here under = record {
    real = real;
    covers = λ n h same.
        ⊎_elim (λ (less : n + 1 < k + 1). under (number (n + 1)) (s.covers n less same))
        (λ (is : n ≡ k). subst (λ (m : ℕ). rank m ≡ rank (m + 1) → IsSomeAnd next (λ i. i ≤ number (m + 1))) (sym is) here same) (last n k h);
  }

  pub seen_other : (k : ℕ) (least : Option ℕ) → Seen names keys (k + 1) least → (rank k ≡ rank (k + 1) → ⊥) → Seen names keys (k + 1 + 1) least
  seen_other k least s other = seen_next k least least s s.real (λ same. absurd (other same)) (λ m h. h)

  pub seen_first : (k : ℕ) → Seen names keys (k + 1) None → k + 1 < length keys → rank k ≡ rank (k + 1) → Seen names keys (k + 1 + 1) (Some (number (k + 1)))
  seen_first k s h same = seen_next k None (Some (number (k + 1))) s (repeated_here k h same) (λ _. omega arith) (λ m no. absurd no)

  pub seen_less : (k i : ℕ) → Seen names keys (k + 1) (Some i) → k + 1 < length keys → rank k ≡ rank (k + 1) → number (k + 1) ≤ i → Seen names keys (k + 1 + 1) (Some (number (k + 1)))
  seen_less k i s h same less = seen_next k (Some i) (Some (number (k + 1))) s (repeated_here k h same) (λ _. omega arith) (λ m le. omega (arith, less, le))

  pub seen_more : (k i : ℕ) → Seen names keys (k + 1) (Some i) → i ≤ number (k + 1) → Seen names keys (k + 1 + 1) (Some i)
  seen_more k i s more = seen_next k (Some i) (Some i) s s.real (λ _. more) (λ m le. le)

  -- all neighbours
  covered : (n : ℕ) (least : Option ℕ) → Seen names keys n least → length keys ≤ n → (j : ℕ) → is_repeated names j ≡ true → IsSomeAnd least (λ i. i ≤ j)
  covered n least s long j h =
      let r = neighbour j h in
      subst (λ (m : ℕ). IsSomeAnd least (λ i. i ≤ m)) r.3 (s.covers r.0 (omega (arith, r.1, long)) r.2)

  pub seen_all : (n : ℕ) (least : Option ℕ) → Seen names keys n least → length keys ≤ n → IsLeast (is_repeated names) least
  seen_all n None s long = λ k. false_from_ne_true _ (λ (h : is_repeated names k ≡ true). covered n None s long k h)
  seen_all n (Some i) s long = (s.real, λ k less. false_from_ne_true _ (λ (h : is_repeated names k ≡ true). let le : i ≤ k = covered n (Some i) s long k h in absurd (omega (arith, le, less))))

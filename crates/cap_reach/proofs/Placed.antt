-- What is reached by places and by granules is the same.
use Rattle.std.proofs.Common.{◌≡◌, ℕ, zero, suc, ◌+◌, ◌<◌, ◌≤◌, true, ⊎_elim, List, [], ◌∷◌, length, refl, sym, ap, subst, ◌∙◌, arith}
use Rattle.std.specs.Prelude.{map, nat_le, Contains, slice_index, slice_index_or}
use Rattle.std.specs.List.Sorted.{IsStrictlyIncreasing}
use Rattle.std.proofs.lemmas.Bool.{cases_lt}
use Rattle.std.proofs.lemmas.Bool.Decides.{nat_tests}
use Rattle.std.proofs.lemmas.List.{get_or-map, get_or_default, length-map}
use Rattle.std.proofs.lemmas.List.Elements.{Contains-get_or}
use Rattle.std.proofs.lemmas.List.Kept.{AllPairs-from_increasing}
use Rattle.cap_conc.specs.declared.word.Word.{Word}
use Rattle.cap_conc.specs.Computed.{fields_of}
use Rattle.cap_image.proofs.Holding.{and_left, and_right}
use Rattle.cap_reach.specs.Reach.{PlacedWord, Reached, IsReach, granules_of, may_load, is_within, loads}
use Rattle.cap_reach.specs.Reach.Reached.{at_start, by_load}
use Rattle.cap_reach.specs.Places.{Gives, ReachedAt, AreReachedAt, no_word}
use Rattle.cap_reach.specs.Places.ReachedAt.{first_place, by_step}
use Rattle.cap_reach.specs.Collecting.{placed}

-- where a member of a list stands
place_is : (xs : List ℕ) (x : ℕ) (has : Contains xs x) → slice_index xs has.0 ≡ x
place_is xs x has = sym (get_or_default xs has.0 x 0 has.1) ∙ has.2

contains_map : (f : ℕ → ℕ) (xs : List ℕ) (x : ℕ) → Contains xs x → Contains (map f xs) (f x)
contains_map f xs x has =
    let n = length-map xs f in
    let lt : has.0 < length (map f xs) = omega (arith, n, has.1) in
    (has.0, lt, get_or-map f xs has.0 0 (f x) has.1 ∙ ap f (place_is xs x has))

gives_loads : (w : Word) (g : ℕ) → Gives (fields_of w) g → loads w g ≡ true
gives_loads w g gives =
    let low : nat_le (fields_of w).base g ≡ true = let h = gives.1 in grind (arith, nat_tests) in
    let high : nat_le (g + 16) (fields_of w).top ≡ true = let h = gives.2 in grind (arith, nat_tests) in
    rw (gives.0, low, high) refl

loads_gives : (w : Word) (g : ℕ) → loads w g ≡ true → Gives (fields_of w) g
loads_gives w g loaded =
    let may = and_left (may_load (fields_of w)) (is_within (fields_of w) g) loaded in
    let both = and_right (may_load (fields_of w)) (is_within (fields_of w) g) loaded in
    let le = and_left (nat_le (fields_of w).base g) (nat_le (g + 16) (fields_of w).top) both in
    let lt = and_right (nat_le (fields_of w).base g) (nat_le (g + 16) (fields_of w).top) both in
    let low : (fields_of w).base ≤ g = grind (arith, nat_tests) in
    let high : g + 16 ≤ (fields_of w).top = grind (arith, nat_tests) in
    (may, low, high)

pub placed_granules : (granules : List ℕ) (words : List Word) → length words ≡ length granules → granules_of (placed granules words) ≡ granules
placed_granules [] words n = refl
placed_granules (g ∷ granules) [] n = absurd (omega (arith, n))
placed_granules (g ∷ granules) (w ∷ words) n = ap (λ (gs : List ℕ). g ∷ gs) (placed_granules granules words (omega (arith, n)))

abbrev placed_word : List ℕ → List Word → ℕ → PlacedWord
placed_word granules words i = record { granule = slice_index granules i; word = slice_index_or words i no_word }

placed_at : (granules : List ℕ) (words : List Word) (i : ℕ) (d : PlacedWord) → length words ≡ length granules → i < length granules → slice_index_or (placed granules words) i d ≡ placed_word granules words i
placed_at [] words i d n lt = absurd (omega (arith, lt))
placed_at (g ∷ granules) [] i d n lt = absurd (omega (arith, n))
placed_at (g ∷ granules) (w ∷ words) zero d n lt = refl
placed_at (g ∷ granules) (w ∷ words) (suc i) d n lt = placed_at granules words i d (omega (arith, n)) (omega (arith, lt))

module _ (granules : List ℕ) (words : List Word) (start : ℕ) (up : IsStrictlyIncreasing granules) (as_many : length words ≡ length granules) (in_list : start < length granules) where
  abbrev all : List PlacedWord
  all = placed granules words

  all_granules : granules_of all ≡ granules
  all_granules = placed_granules granules words as_many

  all_length : length all ≡ length granules
  all_length = sym (length-map all (λ w. w.granule)) ∙ ap length all_granules

  inside : (k : ℕ) → ReachedAt granules words start k → k < length granules
  inside _ first_place = in_list
  inside _ (by_step i k r loads) = loads.0

  from_place : (k : ℕ) → ReachedAt granules words start k → Reached all (slice_index granules start) (slice_index granules k)
  from_place _ first_place = at_start
  from_place _ (by_step i k r loads) =
      let lt = inside i r in
      let here : i < length all = let n = all_length in omega arith in
      by_load (placed_word granules words i) (slice_index granules k) (from_place i r)
      (i, here, placed_at granules words i (placed_word granules words i) as_many lt)
      (subst (λ (xs : List ℕ). Contains xs (slice_index granules k)) (sym all_granules) (Contains-get_or granules k 0 loads.0))
      (gives_loads (slice_index_or words i no_word) (slice_index granules k) loads.1)

  same_place : (i k : ℕ) → i < length granules → k < length granules → slice_index granules i ≡ slice_index granules k → i ≡ k
  same_place i k a b same =
      ⊎_elim
      (λ (less : i < k). let h = AllPairs-from_increasing granules up i k 0 less b in absurd (omega arith))
      (λ (le : k ≤ i).
      ⊎_elim
      (λ (less : k < i). let h = AllPairs-from_increasing granules up k i 0 less a in absurd (omega arith))
      (λ (back : i ≤ k). omega arith)
      (cases_lt k i))
      (cases_lt i k)

  to_place : (g : ℕ) → Reached all (slice_index granules start) g → (k : ℕ) × (ReachedAt granules words start k) × (slice_index granules k ≡ g)
  to_place _ at_start = (start, first_place, refl)
  to_place _ (by_load from to r here there loaded) =
      let before = to_place from.granule r in
      let n = all_length in
      let lt : here.0 < length granules = omega (arith, here.1, n) in
      let is : placed_word granules words here.0 ≡ from = sym (placed_at granules words here.0 from as_many lt) ∙ here.2 in
      let same : before.0 ≡ here.0 = same_place before.0 here.0 (inside before.0 before.1) lt (before.2 ∙ sym (ap (λ (w : PlacedWord). w.granule) is)) in
      let listed : Contains granules to = subst (λ (xs : List ℕ). Contains xs to) all_granules there in
      let at : slice_index granules listed.0 ≡ to = place_is granules to listed in
      let word : from.word ≡ slice_index_or words before.0 no_word = sym (ap (λ (w : PlacedWord). w.word) is) ∙ ap (λ (i : ℕ). slice_index_or words i no_word) (sym same) in
      let gives : Gives (fields_of (slice_index_or words before.0 no_word)) to = subst (λ (w : Word). Gives (fields_of w) to) word (loads_gives from.word to loaded) in
      let there_too : Gives (fields_of (slice_index_or words before.0 no_word)) (slice_index granules listed.0) = subst (Gives (fields_of (slice_index_or words before.0 no_word))) (sym at) gives in
      (listed.0, by_step before.0 listed.0 before.1 (listed.1, there_too), at)

  pub by_granule : (found : List ℕ) → AreReachedAt granules words start found → IsReach all (slice_index granules start) (map (slice_index granules) found)
  by_granule found are = record {
    ascending = λ k lt.
        let n = length-map found (slice_index granules) in
        let next : k + 1 < length found = omega arith in
        let rises = are.ascending k next in
        let below = inside (slice_index found (k + 1)) ((are.each (slice_index found (k + 1))).0 (Contains-get_or found (k + 1) 0 next)) in
        let more = AllPairs-from_increasing granules up (slice_index found k) (slice_index found (k + 1)) 0 rises below in
        let a = get_or-map (slice_index granules) found k 0 0 (omega arith) in
        let b = get_or-map (slice_index granules) found (k + 1) 0 0 next in
        omega arith;
    each = λ g. (
      λ has.
          let n = length-map found (slice_index granules) in
          let lt : has.0 < length found = omega (arith, n, has.1) in
          let at : slice_index granules (slice_index found has.0) ≡ g = sym (get_or-map (slice_index granules) found has.0 0 g lt) ∙ has.2 in
          subst (Reached all (slice_index granules start)) at
          (from_place (slice_index found has.0) ((are.each (slice_index found has.0)).0 (Contains-get_or found has.0 0 lt))),
      λ r.
          let place = to_place g r in
          subst (Contains (map (slice_index granules) found)) place.2 (contains_map (slice_index granules) found place.0 ((are.each place.0).1 place.1)),
    );
  }

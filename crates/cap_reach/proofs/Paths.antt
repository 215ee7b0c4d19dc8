-- All that is reached is found, and nothing else.
use Rattle.std.proofs.Common.{refl, [], ◌∷◌, ◌++◌, ◌≡◌, ℕ, ◌+◌, ◌-◌, ◌<◌, ◌≤◌, ◌↔◌, ⊎_elim, List, [], length, get_or, sym, ap, subst, ◌∙◌, arith}
use Rattle.std.specs.Prelude.{slice_index, All, Contains}
use Rattle.std.specs.List.Sorted.{IsStrictlyIncreasing}
use Rattle.std.proofs.lemmas.Bool.{cases_lt}
use Rattle.std.proofs.lemmas.List.{length-append, get_or_append_left, get_or_default}
use Rattle.std.proofs.Math.Seq.{get_or-append_right}
use Rattle.std.proofs.lemmas.List.Elements.{Contains-append_left, Contains-get_or, All-from_get_or}
use Rattle.cap_conc.specs.declared.word.Word.{Word}
use Rattle.cap_reach.specs.Places.{LoadsAt, ReachedAt, AreReachedAt, IsSearch}
use Rattle.cap_reach.specs.Places.ReachedAt.{first_place, by_step}
use Rattle.cap_reach.specs.Work.{IsWork, Extends, Grows}

-- what holds of all old ones and of all new ones
pub each_extended : (P Q : ℕ → Type 0) (old new : List ℕ) → Extends P old new → ((k : ℕ) → P k → Q k) → ((q : ℕ) → q < length old → Q (slice_index old q)) → (q : ℕ) → q < length new → Q (slice_index new q)
each_extended P Q old new by weaker before =
    subst (λ (xs : List ℕ). (q : ℕ) → q < length xs → Q (slice_index xs q)) (sym by.behind)
    (λ q lt.
    let n = length-append old by.more in
    ⊎_elim
    (λ (near : q < length old). subst Q (sym (get_or_append_left old by.more 0 q near)) (before q near))
    (λ (far : length old ≤ q). subst Q (sym (get_or-append_right old by.more q 0 far)) (weaker _ (by.only (q - length old) 0 (omega arith))))
    (cases_lt q (length old)))

pub contains_extended : (P : ℕ → Type 0) (old new : List ℕ) (k : ℕ) → Extends P old new → Contains old k → Contains new k
contains_extended P old new k by has = subst (λ (xs : List ℕ). Contains xs k) (sym by.behind) (Contains-append_left old by.more k has)

pub same_below : (P : ℕ → Type 0) (old new : List ℕ) (q : ℕ) → Extends P old new → q < length old → slice_index new q ≡ slice_index old q
same_below P old new q by lt = ap (λ (xs : List ℕ). slice_index xs q) by.behind ∙ get_or_append_left old by.more 0 q lt

module _ (granules : List ℕ) (words : List Word) (start : ℕ) where
  -- the start is found first
  pub begun : (next found old : List ℕ) → old ≡ [] → IsWork next found → length next ≡ length granules → start < length granules → found ≡ old ++ start ∷ [] → IsSearch granules words start next found 0
  begun next found old none work size lt by =
      let one : found ≡ start ∷ [] = by ∙ ap (λ (xs : List ℕ). xs ++ start ∷ []) none in
      let each : (Q : ℕ → Type 0) → Q start → (q : ℕ) → q < length found → Q (slice_index found q) =
      λ Q here. subst (λ (xs : List ℕ). (q : ℕ) → q < length xs → Q (slice_index xs q)) (sym one) (λ q below. let z : 0 ≡ q = omega arith in subst (λ (j : ℕ). Q (slice_index (start ∷ []) j)) z here) in
      record {
        work = work;
        size = size;
        has_start = subst (λ (xs : List ℕ). Contains xs start) (sym one) (0, omega arith, refl);
        inside = each (λ k. k < length granules) lt;
        reached = each (ReachedAt granules words start) first_place;
        closed = λ q lt below. absurd (omega arith);
      }

  -- the next found one is followed
  pub followed : (next found other more : List ℕ) (at x : ℕ) → IsSearch granules words start next found at → at < length found → x ≡ get_or found at x → IsWork other more → length other ≡ length next → Grows (LoadsAt granules words x) (length granules) found more → IsSearch granules words start other more (at + 1)
  followed next found other more at x so_far here read work size by =
      let is : slice_index found at ≡ x = get_or_default found at 0 x here ∙ sym read in
      let reached : ReachedAt granules words start x = subst (ReachedAt granules words start) is (so_far.reached at here) in
      record {
        work = work;
        size = size ∙ so_far.size;
        has_start = contains_extended _ found more start by.extends so_far.has_start;
        inside = each_extended _ (λ k. k < length granules) found more by.extends (λ k p. p.0) so_far.inside;
        reached = each_extended _ (ReachedAt granules words start) found more by.extends (λ k p. by_step x k reached p.1) so_far.reached;
        closed = λ q lt below k loads.
            ⊎_elim
            (λ (near : q < at).
            let same = same_below _ found more q by.extends (omega arith) in
            contains_extended _ found more k by.extends (so_far.closed q near (omega arith) k (subst (λ (i : ℕ). LoadsAt granules words i k) same loads)))
            (λ (le : at ≤ q).
            let at_it : q ≡ at = omega arith in
            let same = ap (slice_index more) at_it ∙ same_below _ found more at by.extends here ∙ is in
            let l = subst (λ (i : ℕ). LoadsAt granules words i k) same loads in
            by.whole k l.0 l)
            (cases_lt q at);
      }

  -- once all are followed, all that is reached is found
  pub all_found : (next found : List ℕ) (at : ℕ) → IsSearch granules words start next found at → length found ≤ at → (k : ℕ) → ReachedAt granules words start k → Contains found k
  all_found next found at done le _ first_place = done.has_start
  all_found next found at done le _ (by_step i k r loads) =
      let has = all_found next found at done le i r in
      let is : slice_index found has.0 ≡ i = sym (get_or_default found has.0 i 0 has.1) ∙ has.2 in
      done.closed has.0 (omega (arith, has.1)) has.1 k (subst (λ (j : ℕ). LoadsAt granules words j k) (sym is) loads)

  pub found_reached : (next found : List ℕ) (at : ℕ) → IsSearch granules words start next found at → (k : ℕ) → Contains found k → ReachedAt granules words start k
  found_reached next found at done k has =
      let is : slice_index found has.0 ≡ k = sym (get_or_default found has.0 k 0 has.1) ∙ has.2 in
      subst (ReachedAt granules words start) is (done.reached has.0 has.1)

  pub are_reached : (next found members : List ℕ) (at : ℕ) → IsSearch granules words start next found at → length found ≤ at → IsStrictlyIncreasing members → ((k : ℕ) → Contains members k ↔ (0 < slice_index next k)) → AreReachedAt granules words start members
  are_reached next found members at done le up each = record {
    ascending = up;
    each = λ k. (
      λ has. found_reached next found at done k ((done.work.same k).0 ((each k).0 has)),
      λ r. (each k).1 ((done.work.same k).1 (all_found next found at done le k r)),
    );
  }

  inside : (k : ℕ) → start < length granules → ReachedAt granules words start k → k < length granules
  inside _ in_list first_place = in_list
  inside _ in_list (by_step i k r loads) = loads.0

  pub places_inside : (places : List ℕ) → start < length granules → AreReachedAt granules words start places → All (λ place. place < length granules) places
  places_inside places in_list are = All-from_get_or (λ place. place < length granules) places 0 (λ q lt. inside (slice_index places q) in_list ((are.each (slice_index places q)).0 (Contains-get_or places q 0 lt)))

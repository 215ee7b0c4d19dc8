-- One more place is found.
use Rattle.std.proofs.Common.{◌≡◌, ℕ, suc, ◌+◌, ◌<◌, ◌≤◌, Bool, ◌==◌, ⊎_elim, List, [], ◌∷◌, ◌++◌, length, refl, sym, ap, subst, ◌∙◌, arith, append_assoc, cond}
use Rattle.std.specs.Prelude.{slice_index, Contains}
use Rattle.std.proofs.Math.ListN.{set}
use Rattle.std.proofs.lemmas.Bool.{cases_lt, cases_eq}
use Rattle.std.proofs.lemmas.Bool.Decides.{nat_tests}
use Rattle.std.proofs.lemmas.List.{length-append, length-set, append-nil}
use Rattle.std.specs.List.{sum_by}
use Rattle.std.proofs.lemmas.List.Sums.{sum_by-cons, sum_by-set}
use Rattle.std.proofs.lemmas.List.Elements.{Contains-append_left, Contains-push, Contains-push_cases, All-push, All-nil}
use Rattle.cap_reach.specs.Jumps.{AreJumps, TakesSame, IsFirstFree}
use Rattle.cap_reach.specs.Work.{IsWork, Extends}
use Rattle.std.specs.List.Sorted.{IsStrictlyIncreasing}
use Rattle.cap_reach.proofs.Rising.{ends_above}
use Rattle.cap_reach.proofs.Hops.{at_same, at_other, still, leads, takes, took}

abbrev pub one_if_free : ℕ → ℕ
one_if_free x = cond (x == 0) 1 0

abbrev pub free_count : List ℕ → ℕ
free_count xs = sum_by one_if_free xs

-- as many are free where the same are
pub same_count : (xs ys : List ℕ) → length ys ≡ length xs → ((k : ℕ) → (slice_index ys k == 0) ≡ (slice_index xs k == 0)) → free_count ys ≡ free_count xs
same_count [] [] n each = refl
same_count [] (y ∷ ys) n each = absurd (omega arith)
same_count (x ∷ xs) [] n each = absurd (omega arith)
same_count (x ∷ xs) (y ∷ ys) n each =
    let here : one_if_free y ≡ one_if_free x = ap (λ (b : Bool). cond b 1 0) (each 0) in
    let rest : free_count ys ≡ free_count xs = same_count xs ys (omega arith) (λ k. each (suc k)) in
    let e = sum_by-cons one_if_free x xs in
    let f = sum_by-cons one_if_free y ys in
    omega arith

-- one is free no more
pub count_taken : (xs : List ℕ) (i v : ℕ) → i < length xs → slice_index xs i ≡ 0 → 0 < v → free_count (set xs i v) + 1 ≡ free_count xs
count_taken xs i v lt free some =
    let e = sum_by-set one_if_free xs i v 0 lt in
    let here : one_if_free (slice_index xs i) ≡ 1 = ap one_if_free free in
    let there : one_if_free v ≡ 0 = grind (arith, nat_tests) in
    omega arith

-- the work is the same, where the same places are taken
pub same_work : (next other found : List ℕ) → IsWork next found → AreJumps other → TakesSame next other → IsWork other found
same_work next other found work jumps same = record {
  few = let few = work.few in let n = same.length in omega arith;
  jumps = jumps;
  same = λ k. (λ here. (work.same k).0 (took next other same k here), λ has. takes next other same k ((work.same k).1 has));
  once = let n = same.length in let e = same_count next other same.length same.each in let once = work.once in omega arith;
}

-- one place more
pub one_more : (next found : List ℕ) (at : ℕ) → IsWork next found → at < length next → slice_index next at ≡ 0 → IsWork (set next at (at + 1)) (found ++ at ∷ [])
one_more next found at work lt free = record {
  few = let few = work.few in let n = length-set next at (at + 1) in omega arith;
  jumps = leads next at (at + 1) work.jumps lt (omega arith) (omega arith) (λ k above below. absurd (omega arith));
  same = λ k. (
    λ here.
        ⊎_elim
        (λ (same : k ≡ at). subst (Contains (found ++ at ∷ [])) (sym same) (Contains-push found at))
        (λ (other : k ≡ at → ⊥). let e = at_other next at (at + 1) k other in Contains-append_left found (at ∷ []) k ((work.same k).0 (omega arith)))
        (cases_eq k at),
    λ has.
        ⊎_elim
        (λ (old : Contains found k). still next at (at + 1) k lt (omega arith) ((work.same k).1 old))
        (λ (same : at ≡ k). let e = ap (slice_index (set next at (at + 1))) same in let f = at_same next at (at + 1) lt in omega arith)
        (Contains-push_cases found at k has),
  );
  once =
      let n = length-set next at (at + 1) in
      let m = length-append found (at ∷ []) in
      let e = count_taken next at (at + 1) lt free (omega arith) in
      let once = work.once in
      omega arith;
}

pub nothing : (P : ℕ → Type 0) (old new : List ℕ) → new ≡ old → Extends P old new
nothing P old new same = record { more = []; behind = same ∙ sym (append-nil old); only = All-nil P }

pub more_by_one : (P : ℕ → Type 0) (old now new : List ℕ) (at : ℕ) → Extends P old now → new ≡ now ++ at ∷ [] → P at → Extends P old new
more_by_one P old now new at before is here = record {
  more = before.more ++ at ∷ [];
  behind = is ∙ ap (λ (xs : List ℕ). xs ++ at ∷ []) before.behind ∙ append_assoc old before.more (at ∷ []);
  only = All-push P before.more at before.only here;
}

-- the first free place after one that was found
not_le : {a b : ℕ} → (a ≤ b → ⊥) → b < a
not_le {a} {b} never = ⊎_elim (λ (lt : b < a). lt) (λ (le : a ≤ b). absurd (never le)) (cases_lt b a)

pub next_free : (next taken other found more : List ℕ) (low at place : ℕ) → IsWork next found → IsWork taken more → more ≡ found ++ at ∷ [] → IsFirstFree next low at → TakesSame taken other → IsFirstFree other (at + 1) place → IsFirstFree other low place
next_free next taken other found more low at place work then is before same after =
    let holds : (k : ℕ) → Contains (found ++ at ∷ []) k → 0 < slice_index other k =
    λ k has. takes taken other same k ((then.same k).1 (subst (λ (xs : List ℕ). Contains xs k) (sym is) has)) in
    record {
      not_before = let a = before.not_before in let b = after.not_before in omega arith;
      within = after.within;
      free = after.free;
      passed = λ k le below.
          ⊎_elim
          (λ (later : at < k). after.passed k (omega arith) below)
          (λ (here : k ≤ at).
          ⊎_elim
          (λ (near : k < at). holds k (Contains-append_left found (at ∷ []) k ((work.same k).0 (before.passed k le near))))
          (λ (end : at ≤ k). let same_place : at ≡ k = omega arith in subst (λ (j : ℕ). 0 < slice_index other j) same_place (holds at (Contains-push found at)))
          (cases_lt k at))
          (cases_lt at k);
    }

-- all in a span are found
pub span_found : (granules next found : List ℕ) (low at top : ℕ) → IsStrictlyIncreasing granules → length next ≡ length granules → IsWork next found → IsFirstFree next low at → ((at < length granules) × (slice_index granules at + 16 ≤ top) → ⊥) → (k : ℕ) → k < length granules → (low ≤ k) × (slice_index granules k + 16 ≤ top) → Contains found k
span_found granules next found low at top up size work first stops k lt within =
    ⊎_elim
    (λ (below : k < at). (work.same k).0 (first.passed k within.0 below))
    (λ (le : at ≤ k). absurd (ends_above granules at top up (not_le (λ ends. stops (omega arith, ends))) k le lt within.1))
    (cases_lt k at)

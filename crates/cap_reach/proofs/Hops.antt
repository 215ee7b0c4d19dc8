-- The places that are taken, and where each leads.
use Rattle.std.proofs.Common.{◌≡◌, ℕ, ◌<◌, ◌≤◌, ⊎_elim, List, length, ap, arith}
use Rattle.std.specs.Prelude.{slice_index}
use Rattle.std.proofs.Math.ListN.{set}
use Rattle.std.proofs.lemmas.Bool.{cases_lt, cases_eq}
use Rattle.std.proofs.lemmas.Bool.Decides.{nat_tests}
use Rattle.std.proofs.lemmas.List.{get_or-set_same, get_or-set_other, get_or_past, length-set}
use Rattle.cap_reach.specs.Jumps.{AreJumps, TakesSame}

pub at_same : (xs : List ℕ) (i v : ℕ) → i < length xs → slice_index (set xs i v) i ≡ v
at_same xs i v lt = get_or-set_same xs i v 0 lt

pub at_other : (xs : List ℕ) (i v k : ℕ) → (k ≡ i → ⊥) → slice_index (set xs i v) k ≡ slice_index xs k
at_other xs i v k ne = get_or-set_other xs i k v 0 ne

-- what is taken stays so
pub still : (xs : List ℕ) (i v k : ℕ) → i < length xs → 0 < v → 0 < slice_index xs k → 0 < slice_index (set xs i v) k
still xs i v k lt some here =
    ⊎_elim
    (λ (same : k ≡ i). let e = ap (slice_index (set xs i v)) same in let f = at_same xs i v lt in omega arith)
    (λ (other : k ≡ i → ⊥). let e = at_other xs i v k other in omega arith)
    (cases_eq k i)

-- a place that is taken may lead to any place up to which all are taken
pub leads : (xs : List ℕ) (i v : ℕ) → AreJumps xs → i < length xs → i < v → v ≤ length xs → ((k : ℕ) → i < k → k < v → 0 < slice_index xs k) → AreJumps (set xs i v)
leads xs i v jumps lt later within all = record {
  after = λ j here.
      ⊎_elim
      (λ (same : j ≡ i). let e = ap (slice_index (set xs i v)) same in let f = at_same xs i v lt in omega arith)
      (λ (other : j ≡ i → ⊥). let e = at_other xs i v j other in let a = jumps.after j (omega arith) in omega arith)
      (cases_eq j i);
  within = λ j.
      let n = length-set xs i v in
      ⊎_elim
      (λ (same : j ≡ i). let e = ap (slice_index (set xs i v)) same in let f = at_same xs i v lt in omega arith)
      (λ (other : j ≡ i → ⊥). let e = at_other xs i v j other in let a = jumps.within j in omega arith)
      (cases_eq j i);
  between = λ j k le below.
      ⊎_elim
      (λ (same : k ≡ i). let e = ap (slice_index (set xs i v)) same in let f = at_same xs i v lt in omega arith)
      (λ (differs : k ≡ i → ⊥).
      let g = at_other xs i v k differs in
      ⊎_elim
      (λ (same : j ≡ i). let e = ap (slice_index (set xs i v)) same in let f = at_same xs i v lt in let a = all k (omega arith) (omega arith) in omega arith)
      (λ (other : j ≡ i → ⊥). let e = at_other xs i v j other in let a = jumps.between j k le (omega arith) in omega arith)
      (cases_eq j i))
      (cases_eq k i);
}

pub past_end : (xs : List ℕ) (k : ℕ) → length xs ≤ k → slice_index xs k ≡ 0
past_end xs k le = get_or_past xs k 0 le

pub inside : (xs : List ℕ) (k : ℕ) → 0 < slice_index xs k → k < length xs
inside xs k here = ⊎_elim (λ (lt : k < length xs). lt) (λ (le : length xs ≤ k). let e = past_end xs k le in absurd (omega arith)) (cases_lt k (length xs))

pub takes : (old new : List ℕ) → TakesSame old new → (k : ℕ) → 0 < slice_index old k → 0 < slice_index new k
takes old new same k here = let e = same.each k in grind (arith, nat_tests)

pub took : (old new : List ℕ) → TakesSame old new → (k : ℕ) → 0 < slice_index new k → 0 < slice_index old k
took old new same k here = let e = same.each k in grind (arith, nat_tests)

-- The order of keys is total, so that a sort by it sorts.
use Rattle.std.proofs.Common.{◌≡◌, ℕ, ◌%◌, ◌^◌, List, Bool, ap}
use denote.Param.Members.{Mut}
use denote.Ref.{Bor}
use Rattle.std.specs.declared.cmp.Ordering.{Ordering}
use Rattle.std.specs.Ordering.{is_lt}
use Rattle.std.specs.Fn.{Called, ComparesAs}
use Rattle.std.specs.List.Sorted.{IsSortedBy}
use Rattle.std.proofs.lemmas.Fn.{always_returns_same}
use Rattle.std.proofs.lemmas.Cmp.{nat_cmp_total, nat_list_cmp_total, on_total, then_total}
use Rattle.std.proofs.lemmas.List.Sorted.{ranks_by}
use Rattle.std.specs.Cmp.{IsTotalOrder, IsStrictWeakOrder}
use Rattle.cap_names.specs.Named.{Named}
use Rattle.cap_names.specs.Keys.{Rank, rank_cmp, rank_of, key_cmp, key_lt}

pub rank_cmp_total : IsTotalOrder rank_cmp
rank_cmp_total = then_total (on_total (λ (r : Rank). r.0) nat_cmp_total) (on_total (λ (r : Rank). r.1) nat_list_cmp_total)

pub key_cmp_total : (names : List Named) → IsTotalOrder (key_cmp names)
key_cmp_total names = then_total (on_total (rank_of names) rank_cmp_total) (on_total (λ (k : ℕ). k % 2 ^ 32) nat_cmp_total)

pub key_lt_weak : (names : List Named) → IsStrictWeakOrder (key_lt names)
key_lt_weak names = ranks_by (key_cmp_total names) (λ (k : ℕ). k)

-- a sort by a closure that answers by the order of keys
pub sorted_by_keys : (names : List Named) {F : Type 0} {g : Mut F (Bor ℕ × (Bor ℕ × Unit {0})) Ordering} {f : F} (xs : List ℕ)
    → ((lt : ℕ → ℕ → Bool) → IsStrictWeakOrder lt → ComparesAs g lt f → IsSortedBy lt xs)
    → ((a : Bor ℕ × (Bor ℕ × Unit {0})) (r : Ordering) (f' : F) → Called g f a r f' → (r ≡ key_cmp names a.0.now a.1.0.now) × (f' ≡ f)) → IsSortedBy (key_lt names) xs
sorted_by_keys names {g = g} {f = f} xs up h =
    up (key_lt names) (key_lt_weak names) (always_returns_same g (λ a r. is_lt r ≡ key_lt names a.0.now a.1.0.now) f (λ a r f' k. (ap is_lt (h a r f' k).0, (h a r f' k).1)))

-- One more slot in such a map.
use Rattle.std.proofs.Common.{◌≡◌, ℕ, ◌+◌, ◌<◌, ◌≤◌, Bool, true, false, ◌||◌, ◌⊎◌, ⊎_elim, inl, inr, List, [], ◌∷◌, Some, refl, sym, ap, ◌∙◌, arith, cond, Option, Result, Ok, Err}
use Rattle.std.specs.List.{list_any}
use Rattle.std.specs.Map.{lookup}
use Rattle.std.specs.Ordering.{nat_cmp, match_ordering, is_eq}
use Rattle.std.specs.declared.cmp.Ordering.{Ordering}
use Rattle.std.specs.declared.cmp.Ordering.TheVariants.{Less, Equal, Greater}
use Rattle.std.specs.BTreeMap.{BTreeMap, IsOrdered, get, insert_entry, is_at, Updates, IsUnchanged}
use Rattle.std.specs.Result.{OnOk, OnErr}
use Rattle.std.proofs.lemmas.Bool.{cases_eq, cond-true, cond-false}
use Rattle.std.proofs.lemmas.Bool.Decides.{nat_tests}
use Rattle.std.proofs.lemmas.Map.Lookups.{exact_unsigned}
use Rattle.cap_base.specs.Lists.{share_byte}
use Rattle.cap_reloc.proofs.Touching.{Solid, AreApart, passes_none, before, after, level}

or_same : (a b : Bool) → (a || b) ≡ (a || (a || b))
or_same true b = refl
or_same false b = refl

or_swap : (a b c : Bool) → (a || (b || c)) ≡ (b || (a || c))
or_swap true true c = refl
or_swap true false c = refl
or_swap false b c = refl

-- the entry at its place, or one that is there already
abbrev Adds : (ℕ × ℕ → Bool) → ℕ → ℕ → List (ℕ × ℕ) → Type 0
Adds p k v es = list_any p (insert_entry nat_cmp es k v) ≡ (p (k, v) || list_any p es)

adds_equal : (p : ℕ × ℕ → Bool) (k v : ℕ) (e : ℕ × ℕ) (es : List (ℕ × ℕ)) → k ≡ e.0 → v ≡ e.1 → (p (e.0, v) || list_any p es) ≡ (p (k, v) || (p e || list_any p es))
adds_equal p k v e es a b =
    let one : p (e.0, v) ≡ p e = ap (λ (w : ℕ). p (e.0, w)) b in
    let two : p (k, v) ≡ p e = ap (λ (j : ℕ). p (j, v)) a ∙ one in
    rw (one, two) (or_same (p e) (list_any p es))

pub any_insert : (p : ℕ × ℕ → Bool) (k v : ℕ) (es : List (ℕ × ℕ)) → ((f : ℕ) → lookup (is_at (nat_cmp k)) es ≡ Some f → v ≡ f) → Adds p k v es
any_insert p k v [] same = refl
any_insert p k v (e ∷ es) same =
    let P : Ordering → Type 0 = λ o. ((f : ℕ) → cond (is_eq o) (Some e.1) (lookup (is_at (nat_cmp k)) es) ≡ Some f → v ≡ f) → (o ≡ Equal → k ≡ e.0) →
    list_any p (match_ordering o ((k, v) ∷ e ∷ es) ((e.0, v) ∷ es) (e ∷ insert_entry nat_cmp es k v)) ≡ (p (k, v) || (p e || list_any p es)) in
    let all : (o : Ordering) → P o = λ o. elim o as P [
      | Less ↦ λ s eq. refl
      | Equal ↦ λ s eq. adds_equal p k v e es (eq refl) (s e.1 refl)
      | Greater ↦ λ s eq. ap (λ b. p e || b) (any_insert p k v es s) ∙ or_swap (p e) (p (k, v)) (list_any p es)
    ] in
    all (nat_cmp k e.0) same (exact_unsigned k e.0)

-- what a look-up finds in a map with one more entry
pub found_new : (m n : BTreeMap ℕ ℕ) (k v : ℕ) → ((q : ℕ) → get nat_cmp n q ≡ cond (is_at (nat_cmp k) q) (Some v) (get nat_cmp m q)) → (a e : ℕ) → get nat_cmp n a ≡ Some e → ((a ≡ k) × (e ≡ v)) ⊎ ((a ≡ k → ⊥) × (get nat_cmp m a ≡ Some e))
found_new m n k v new a e is =
    ⊎_elim
    (λ (same : a ≡ k).
    let at : is_at (nat_cmp k) a ≡ true = grind (arith, nat_tests) in
    let one : Some v ≡ Some e = sym (cond-true (is_at (nat_cmp k) a) (Some v) (get nat_cmp m a) at) ∙ sym (new a) ∙ is in
    let end : e ≡ v = cc in
    inl (same, end))
    (λ (other : a ≡ k → ⊥).
    let at : is_at (nat_cmp k) a ≡ false = grind (arith, nat_tests) in
    inr (other, sym (cond-false (is_at (nat_cmp k) a) (Some v) (get nat_cmp m a) at) ∙ sym (new a) ∙ is))
    (cases_eq a k)

pub solid_more : (m n : BTreeMap ℕ ℕ) (k v : ℕ) → ((q : ℕ) → get nat_cmp n q ≡ cond (is_at (nat_cmp k) q) (Some v) (get nat_cmp m q)) → Solid m → 0 < v → Solid n
solid_more m n k v new solid has a e is =
    ⊎_elim (λ (x : (a ≡ k) × (e ≡ v)). omega arith) (λ (x : (a ≡ k → ⊥) × (get nat_cmp m a ≡ Some e)). solid a e x.1) (found_new m n k v new a e is)

-- a slot that shares no byte with one of the map
abbrev pub IsFree : BTreeMap ℕ ℕ → ℕ × ℕ → Type 0
IsFree m x = (a e : ℕ) → get nat_cmp m a ≡ Some e → share_byte x (a, e) ≡ false

pub free : (m : BTreeMap ℕ ℕ) → IsOrdered nat_cmp m → (x : ℕ × ℕ) → list_any (share_byte x) m.entries ≡ false → IsFree m x
free m s x none = passes_none m s (share_byte x) none

pub apart_more : (m n : BTreeMap ℕ ℕ) (x : ℕ × ℕ) → ((q : ℕ) → get nat_cmp n q ≡ cond (is_at (nat_cmp x.0) q) (Some x.1) (get nat_cmp m q)) → Solid m → AreApart m → 0 < x.1 → IsFree m x → AreApart n
apart_more m n x new solid apart has open_here a e b f ia ib lt =
    ⊎_elim
    (λ (i : (a ≡ x.0) × (e ≡ x.1)). ⊎_elim
    (λ (j : (b ≡ x.0) × (f ≡ x.1)). absurd (omega arith))
    (λ (j : (b ≡ x.0 → ⊥) × (get nat_cmp m b ≡ Some f)).
    let le : x.0 + x.1 ≤ b = before x (b, f) (open_here b f j.1) (omega arith) (solid b f j.1) in omega arith)
    (found_new m n x.0 x.1 new b f ib))
    (λ (i : (a ≡ x.0 → ⊥) × (get nat_cmp m a ≡ Some e)). ⊎_elim
    (λ (j : (b ≡ x.0) × (f ≡ x.1)).
    let le : a + e ≤ x.0 = after x (a, e) (open_here a e i.1) (omega arith) has in omega arith)
    (λ (j : (b ≡ x.0 → ⊥) × (get nat_cmp m b ≡ Some f)). apart a e b f i.1 j.1 lt)
    (found_new m n x.0 x.1 new b f ib))
    (found_new m n x.0 x.1 new a e ia)

pub touched_more : (m : BTreeMap ℕ ℕ) (x : ℕ × ℕ) → Solid m → 0 < x.1 → IsFree m x → (q : ℕ × ℕ) → list_any (share_byte q) (insert_entry nat_cmp m.entries x.0 x.1) ≡ (share_byte q x || list_any (share_byte q) m.entries)
touched_more m x solid has open_here q =
    any_insert (share_byte q) x.0 x.1 m.entries (λ f is. sym (level x (x.0, f) (open_here x.0 f is) refl has (solid x.0 f is)))

-- an insert adds the entry, or fails and leaves all as it was
pub inserted : {E : Type 0} (r : Result (Option ℕ) E) (m n : BTreeMap ℕ ℕ) (k v : ℕ) → OnOk r (Updates nat_cmp m n k (Some v)) → OnErr r (IsUnchanged m n) → ((q : ℕ) → get nat_cmp n q ≡ cond (is_at (nat_cmp k) q) (Some v) (get nat_cmp m q)) ⊎ ((q : ℕ) → get nat_cmp n q ≡ get nat_cmp m q)
inserted (Ok o) m n k v new same = inl new.0
inserted (Err e) m n k v new same = inr (λ q. ap (lookup (is_at (nat_cmp q))) same)

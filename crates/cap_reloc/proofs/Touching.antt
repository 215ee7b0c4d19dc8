-- A map from places to lengths of slots of which no two share a byte.
use Rattle.std.proofs.Common.{◌≡◌, ℕ, ◌+◌, ◌<◌, ◌≤◌, Bool, true, false, ⊎_elim, List, Some, None, refl, sym, ap, ◌∙◌, subst, arith, max, min, Option}
use Rattle.std.specs.Option.{IsSome}
use Rattle.std.specs.List.{list_any}
use Rattle.std.specs.Ordering.{nat_cmp}
use Rattle.std.specs.Cmp.{nat_cmp_total}
use Rattle.std.specs.BTreeMap.{BTreeMap, IsOrdered, get}
use Rattle.std.proofs.lemmas.Bool.{le-ltb, ltb-false, cases_lt, cases_eq, cases_Bool, false_from_ne_true}
use Rattle.std.proofs.lemmas.List.Folds.{list_any_at, list_any_none}
use Rattle.std.proofs.lemmas.Map.Lookups.{exact_unsigned}
use Rattle.std.proofs.lemmas.Map.Views.{btree_map_get_iff, All-found}
use Rattle.cap_base.specs.Lists.{share_byte}

abbrev pub Solid : BTreeMap ℕ ℕ → Type 0
Solid m = (a n : ℕ) → get nat_cmp m a ≡ Some n → 0 < n

abbrev pub AreApart : BTreeMap ℕ ℕ → Type 0
AreApart m = (a n b k : ℕ) → get nat_cmp m a ≡ Some n → get nat_cmp m b ≡ Some k → a < b → a + n ≤ b

-- ---- what an entry that passes a test says of all
pub any_true : (m : BTreeMap ℕ ℕ) → IsOrdered nat_cmp m → (p : ℕ × ℕ → Bool) (a n : ℕ) → get nat_cmp m a ≡ Some n → p (a, n) ≡ true → list_any p m.entries ≡ true
any_true m s p a n is h =
    let place = (btree_map_get_iff nat_cmp_total exact_unsigned m s a n).0 is in
    list_any_at p m.entries place.0 (a, n) place.1 (ap p place.2 ∙ h)

pub any_false : (m : BTreeMap ℕ ℕ) → IsOrdered nat_cmp m → (p : ℕ × ℕ → Bool) → ((a n : ℕ) → get nat_cmp m a ≡ Some n → p (a, n) ≡ false) → list_any p m.entries ≡ false
any_false m s p h = list_any_none p m.entries (λ k d lt. h _ _ (All-found nat_cmp_total m s k d lt))

pub passes_none : (m : BTreeMap ℕ ℕ) → IsOrdered nat_cmp m → (p : ℕ × ℕ → Bool) → list_any p m.entries ≡ false → (a n : ℕ) → get nat_cmp m a ≡ Some n → p (a, n) ≡ false
passes_none m s p none a n is = false_from_ne_true (p (a, n)) (λ t. let found : list_any p m.entries ≡ true = any_true m s p a n is t in cc)

-- ---- two slots
pub share_none : (x y : ℕ × ℕ) → min (x.0 + x.1) (y.0 + y.1) ≤ max x.0 y.0 → share_byte x y ≡ false
share_none x y le = le-ltb _ _ le

pub no_byte : (x y : ℕ × ℕ) → share_byte x y ≡ false → min (x.0 + x.1) (y.0 + y.1) ≤ max x.0 y.0
no_byte x y h = ltb-false _ _ h

-- the order of two that share no byte
pub before : (x y : ℕ × ℕ) → share_byte x y ≡ false → x.0 < y.0 → 0 < y.1 → x.0 + x.1 ≤ y.0
before x y h lt some = let le = no_byte x y h in omega (arith, le)

pub after : (x y : ℕ × ℕ) → share_byte x y ≡ false → y.0 < x.0 → 0 < x.1 → y.0 + y.1 ≤ x.0
after x y h lt some = let le = no_byte x y h in omega (arith, le)

pub low : (x y : ℕ × ℕ) → share_byte x y ≡ false → y.0 < x.0 + x.1 → 0 < y.1 → 0 < x.1 → y.0 ≤ x.0
low x y h lt some has = let le = no_byte x y h in omega (arith, le)

pub level : (x y : ℕ × ℕ) → share_byte x y ≡ false → x.0 ≡ y.0 → 0 < x.1 → 0 < y.1 → y.1 ≡ x.1
level x y h same has some = let le = no_byte x y h in absurd (omega (arith, le))

-- ---- a look-up
-- an empty slot shares none
pub empty_shares : (at len : ℕ) (es : List (ℕ × ℕ)) → len ≡ 0 → list_any (share_byte (at, len)) es ≡ false
empty_shares at len es none = list_any_none (share_byte (at, len)) es (λ k d lt. share_none (at, len) _ (omega arith))

-- where none begins before the end
pub none_decides : (m : BTreeMap ℕ ℕ) → IsOrdered nat_cmp m → (x : ℕ × ℕ) → ((q : ℕ) → q < x.0 + x.1 → get nat_cmp m q ≡ None) → list_any (share_byte x) m.entries ≡ false
none_decides m s x none =
    any_false m s (share_byte x) (λ b k is.
    ⊎_elim
    (λ (lt : b < x.0 + x.1). let no : get nat_cmp m b ≡ None = none b lt in cc)
    (λ (le : x.0 + x.1 ≤ b). share_none x (b, k) (omega arith))
    (cases_lt b (x.0 + x.1)))

pub has_some : (o : Option ℕ) (v : ℕ) → o ≡ Some v → IsSome o
has_some o v e = subst (λ (p : Option ℕ). IsSome p) (sym e) refl

-- one before the last that begins before the end
pub others_apart : (m : BTreeMap ℕ ℕ) → Solid m → AreApart m → (x : ℕ × ℕ) → 0 < x.1 → (a n : ℕ) → get nat_cmp m a ≡ Some n → a < x.0 + x.1 → share_byte x (a, n) ≡ false → (b k : ℕ) → get nat_cmp m b ≡ Some k → b ≤ a → share_byte x (b, k) ≡ false
others_apart m solid apart x has a n is lt free b k at le =
    ⊎_elim
    (λ (same : b ≡ a).
    let one : get nat_cmp m b ≡ Some n = ap (get nat_cmp m) same ∙ is in
    let end : k ≡ n = cc in
    rw (same, end) free)
    (λ (other : b ≡ a → ⊥).
    let below : a ≤ x.0 = low x (a, n) free lt (solid a n is) has in
    let ends : b + k ≤ a = apart b k a n at is (omega (arith, other)) in
    share_none x (b, k) (omega arith))
    (cases_eq b a)

-- the last that begins before the end decides
pub last_decides : (m : BTreeMap ℕ ℕ) → IsOrdered nat_cmp m → Solid m → AreApart m → (x : ℕ × ℕ) → 0 < x.1 → (a n : ℕ) → get nat_cmp m a ≡ Some n → a < x.0 + x.1 → ((q : ℕ) → q < x.0 + x.1 → IsSome (get nat_cmp m q) → q ≤ a) → share_byte x (a, n) ≡ list_any (share_byte x) m.entries
last_decides m s solid apart x has a n is lt last =
    ⊎_elim
    (λ (t : share_byte x (a, n) ≡ true). t ∙ sym (any_true m s (share_byte x) a n is t))
    (λ (f : share_byte x (a, n) ≡ false). f ∙ sym (any_false m s (share_byte x) (λ b k at.
    ⊎_elim
    (λ (below : b < x.0 + x.1). others_apart m solid apart x has a n is lt f b k at (last b below (has_some _ k at)))
    (λ (le : x.0 + x.1 ≤ b). share_none x (b, k) (omega arith))
    (cases_lt b (x.0 + x.1)))))
    (cases_Bool (share_byte x (a, n)))

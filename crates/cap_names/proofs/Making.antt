-- The keys of the defined names, once they are put in order, are an index.
use Rattle.std.proofs.Common.{◌≡◌, ℕ, zero, suc, ◌+◌, ◌*◌, ◌/◌, ◌%◌, ◌^◌, ◌<◌, ◌≤◌, ◌≢◌, ◌==◌, List, [], ◌∷◌, Bool, true, false, length, get_or, refl, sym, ap, subst, ◌∙◌, arith, eq-eqb}
use Rattle.std.proofs.lemmas.List.{get_or_default, get_or_past}
use Rattle.std.proofs.lemmas.List.Sorted.{All-permutation, Contains-permutation, sorted_far}
use Rattle.std.proofs.lemmas.Map.Keys.{IsDistinct-IsPermutation, IsDistinct-from_apart, apart_from_distinct}
use Rattle.std.specs.List.{All, Contains, IsDistinct}
use Rattle.std.specs.List.Sorted.{IsPermutation, IsSortedBy}
use Rattle.cap_names.specs.declared.hashing.NameHash.{NameHash}
use Rattle.cap_names.specs.Named.{Named, name_at, is_defined_at}
use Rattle.cap_names.specs.Keys.{place_of, key_for, key_at, keys_from, key_lt, IsKey, IsIndexOf, IsIndexBy, AreHashed}
use Rattle.cap_names.proofs.KeyOrder.{key_lt_weak}

-- the two parts of a key
pub index_part : (h i : ℕ) → i < 2 ^ 32 → (h * 2 ^ 32 + i) % 2 ^ 32 ≡ i
index_part h i small = omega arith

pub hash_part : (h i : ℕ) → i < 2 ^ 32 → (h * 2 ^ 32 + i) / 2 ^ 32 ≡ h
hash_part h i small = omega arith

pub defined_inside : (names : List Named) (i : ℕ) → is_defined_at names i ≡ true → i < length names
defined_inside names i h =
    let past : length names ≤ i → is_defined_at names i ≡ false = λ out. ap (λ (p : Named). p.1) (get_or_past names i ([], false) out) in
    grind (arith, past, h)

-- a key that is made of the names from an index on
record IsMade (rule : NameHash) (i : ℕ) (ps : List Named) (key : ℕ) : Type 0 where
  pub at : ℕ
  pub inside : at < length ps
  pub defined : is_defined_at ps at ≡ true
  pub is : key ≡ key_for rule (name_at ps at) (i + at)

later : (rule : NameHash) (i : ℕ) (p : Named) (ps : List Named) (key : ℕ) → IsMade rule (i + 1) ps key → IsMade rule i (p ∷ ps) key
later rule i p ps key m = record {
  at = suc m.at;
  inside = omega (arith, m.inside);
  defined = m.defined;
  is = m.is ∙ ap (λ (n : ℕ). key_for rule (name_at ps m.at) n) (omega arith);
}

each_made : (rule : NameHash) (i : ℕ) (ps : List Named) (k : ℕ) → k < length (keys_from rule i ps) → IsMade rule i ps (get_or (keys_from rule i ps) k 0)
unfolding keys_from
each_made rule i [] k h = absurd (omega (arith, h))
each_made rule i ((n, true) ∷ ps) zero h = record { at = 0; inside = omega arith; defined = refl; is = ap (λ (m : ℕ). key_for rule n m) (omega arith) }
each_made rule i ((n, true) ∷ ps) (suc k) h = later rule i (n, true) ps _ (each_made rule (i + 1) ps k (omega (arith, h)))
each_made rule i ((n, false) ∷ ps) k h = later rule i (n, false) ps _ (each_made rule (i + 1) ps k h)

all_made : (rule : NameHash) (i : ℕ) (ps : List Named) (j : ℕ) → is_defined_at ps j ≡ true → (k : ℕ) × (k < length (keys_from rule i ps)) × (get_or (keys_from rule i ps) k 0 ≡ key_for rule (name_at ps j) (i + j))
unfolding keys_from
all_made rule i [] j h = absurd (cc)
all_made rule i ((n, true) ∷ ps) zero h = (0, omega arith, ap (λ (m : ℕ). key_for rule n m) (omega arith))
all_made rule i ((n, false) ∷ ps) zero h = absurd (cc)
all_made rule i ((n, true) ∷ ps) (suc j) h =
    let r = all_made rule (i + 1) ps j h in (suc r.0, omega (arith, r.1), r.2 ∙ ap (λ (m : ℕ). key_for rule (name_at ps j) m) (omega arith))
all_made rule i ((n, false) ∷ ps) (suc j) h =
    let r = all_made rule (i + 1) ps j h in (r.0, r.1, r.2 ∙ ap (λ (m : ℕ). key_for rule (name_at ps j) m) (omega arith))

-- the index of a made key
made_index : (rule : NameHash) (i : ℕ) (ps : List Named) (key : ℕ) → i + length ps < 2 ^ 32 → (m : IsMade rule i ps key) → key % 2 ^ 32 ≡ i + m.at
made_index rule i ps key few m = ap (λ (n : ℕ). n % 2 ^ 32) m.is ∙ index_part (place_of rule (name_at ps m.at)) (i + m.at) (omega (arith, m.inside, few))

rising : (rule : NameHash) (i : ℕ) (ps : List Named) → i + length ps < 2 ^ 32 → (a b : ℕ) → a < b → b < length (keys_from rule i ps) → get_or (keys_from rule i ps) a 0 % 2 ^ 32 < get_or (keys_from rule i ps) b 0 % 2 ^ 32
unfolding keys_from
rising rule i [] few a b order h = absurd (omega (arith, h))
rising rule i ((n, true) ∷ ps) few a zero order h = absurd (omega (arith, order))
rising rule i ((n, true) ∷ ps) few zero (suc b) order h =
    let m = each_made rule (i + 1) ps b (omega (arith, h)) in
    let first : key_for rule n i % 2 ^ 32 ≡ i = index_part (place_of rule n) i (omega (arith, few)) in
    let other : get_or (keys_from rule (i + 1) ps) b 0 % 2 ^ 32 ≡ i + 1 + m.at = made_index rule (i + 1) ps _ (omega (arith, few)) m in
    omega (arith, first, other)
rising rule i ((n, true) ∷ ps) few (suc a) (suc b) order h = rising rule (i + 1) ps (omega (arith, few)) a b (omega (arith, order)) (omega (arith, h))
rising rule i ((n, false) ∷ ps) few a b order h = rising rule (i + 1) ps (omega (arith, few)) a b order h

made_key : (rule : NameHash) (names : List Named) → length names < 2 ^ 32 → (key : ℕ) → IsMade rule 0 names key → IsKey names key × (key / 2 ^ 32 ≡ place_of rule (name_at names (key % 2 ^ 32)))
made_key rule names few key m =
    let at_is : key % 2 ^ 32 ≡ m.at = made_index rule 0 names key (omega (arith, few)) m ∙ omega arith in
    let hash_is : key / 2 ^ 32 ≡ place_of rule (name_at names m.at) = ap (λ (n : ℕ). n / 2 ^ 32) m.is ∙ hash_part (place_of rule (name_at names m.at)) (0 + m.at) (omega (arith, m.inside, few)) in
    (record { inside = omega (arith, at_is, m.inside); defined = ap (is_defined_at names) at_is ∙ m.defined }, hash_is ∙ ap (λ (n : ℕ). place_of rule (name_at names n)) (sym at_is))

abbrev same_index : ℕ → ℕ → Bool
same_index a b = a % 2 ^ 32 == b % 2 ^ 32

same_index-flip : (a b : ℕ) → same_index a b ≡ same_index b a
same_index-flip a b = grind arith

module _ (rule : NameHash) (names : List Named) (made_keys keys : List ℕ) (few : length names < 2 ^ 32) (are : made_keys ≡ keys_from rule 0 names) (moved : IsPermutation made_keys keys) where
  unmoved : IsPermutation (keys_from rule 0 names) keys
  unmoved = subst (λ (xs : List ℕ). IsPermutation xs keys) are moved

  abbrev IsMadeKey : ℕ → Type 0
  IsMadeKey key = IsKey names key × (key / 2 ^ 32 ≡ place_of rule (name_at names (key % 2 ^ 32)))

  all_keys : All IsMadeKey keys
  all_keys = All-permutation IsMadeKey _ _ unmoved (λ k d h. subst IsMadeKey (get_or_default (keys_from rule 0 names) k 0 d h) (made_key rule names few _ (each_made rule 0 names k h)))

  found : (i : ℕ) → is_defined_at names i ≡ true → (k : ℕ) × (k < length keys) × (get_or keys k 0 % 2 ^ 32 ≡ i)
  found i h =
      let r = all_made rule 0 names i h in
      let is : get_or (keys_from rule 0 names) r.0 0 ≡ key_at rule names i = r.2 ∙ ap (λ (m : ℕ). key_for rule (name_at names i) m) (omega arith) in
      let has : Contains keys (key_at rule names i) = Contains-permutation _ _ _ unmoved (r.0, r.1, get_or_default (keys_from rule 0 names) r.0 (key_at rule names i) 0 r.1 ∙ is) in
      let small : i < 2 ^ 32 = omega (arith, few, defined_inside names i h) in
      (has.0, has.1, ap (λ (n : ℕ). n % 2 ^ 32) (get_or_default keys has.0 0 (key_at rule names i) has.1 ∙ has.2) ∙ index_part (place_of rule (name_at names i)) i small)

  distinct : IsDistinct same_index (keys_from rule 0 names)
  distinct = IsDistinct-from_apart same_index (keys_from rule 0 names) (λ a b d order h.
      let first = get_or_default (keys_from rule 0 names) a 0 d (omega (arith, order, h)) in
      let second = get_or_default (keys_from rule 0 names) b 0 d h in
      let up = rising rule 0 names (omega (arith, few)) a b order h in
      ap (λ (x : ℕ). same_index x (get_or (keys_from rule 0 names) b d)) (sym first) ∙ ap (λ (x : ℕ). same_index (get_or (keys_from rule 0 names) a 0) x) (sym second) ∙ grind (arith, up))

  apart_keys : (i j : ℕ) → i < j → j < length keys → get_or keys i 0 % 2 ^ 32 ≢ get_or keys j 0 % 2 ^ 32
  apart_keys i j order h same =
      let other = apart_from_distinct same_index keys i j 0 (IsDistinct-IsPermutation same_index same_index-flip _ _ unmoved distinct) order h in
      let one = eq-eqb _ _ same in
      absurd (cc (one, other))

  hashed_keys : AreHashed rule names keys
  hashed_keys = λ k h. (all_keys k 0 h).1

  index_made : IsSortedBy (key_lt names) keys → IsIndexOf names keys
  index_made sorted = record {
    sound = λ k h. (all_keys k 0 h).0;
    complete = found;
    agreed = λ j k h l same. hashed_keys j h ∙ ap (place_of rule) same ∙ sym (hashed_keys k l);
    ascending = λ i j order h. sorted_far (key_lt names) (key_lt_weak names) keys sorted i j 0 order h;
    apart = apart_keys;
    few = few;
  }

  pub made : IsSortedBy (key_lt names) keys → IsIndexBy rule names keys
  made sorted = record { index = index_made sorted; hashed = hashed_keys }

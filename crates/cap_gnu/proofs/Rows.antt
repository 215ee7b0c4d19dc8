-- Worked tables, by computation.
use Rattle.std.specs.Prelude.{◌≡◌, ℕ, List, [], ◌∷◌, true, false, codes, refl, Some}
use Rattle.std.proofs.Common.{subst, sym}
use Rattle.std.specs.List.{IsDistinct}
use Rattle.cap_names.specs.Hash.{gnu_hash_of}
use Rattle.cap_names.specs.Named.{Named, AreDistinct, first_defined}
use Rattle.cap_gnu.specs.Adopted.{is_sound, walk_of, gnu_table, run_length}

-- published values of the hash
hash-none : gnu_hash_of [] ≡ 0x1505
hash-none = refl

hash-printf : gnu_hash_of (codes "printf") ≡ 0x156B2BB8
hash-printf = refl

hash-syscall : gnu_hash_of (codes "syscall") ≡ 0xBAC212A0
hash-syscall = refl

hash-f : gnu_hash_of (codes "f") ≡ 0x2B60B
hash-f = refl

abbrev no_name : Named
no_name = ([], false)

abbrev defined : List ℕ → Named
defined name = (name, true)

-- one name in one bucket
abbrev one_name : List Named
one_name = no_name ∷ defined (codes "f") ∷ []

abbrev one_words : ℕ → ℕ → List ℕ
one_words filter last = 1 ∷ 1 ∷ 1 ∷ 6 ∷ filter ∷ filter ∷ 1 ∷ last ∷ []

f-adopted : is_sound (one_words 0xFFFFFFFF 0x2B60B) one_name ≡ true
unfolding run_length
f-adopted = refl

f-found : first_defined one_name (codes "f") ≡ Some 1
f-found = refl

f-walk : walk_of (gnu_table (one_words 0xFFFFFFFF 0x2B60B) one_name) (codes "f") ≡ 1
unfolding run_length
f-walk = refl

-- a filter that knows no name hides none
f-unfiltered : is_sound (one_words 0 0x2B60B) one_name ≡ true
unfolding run_length
f-unfiltered = refl

-- another hash
f-other_hash : is_sound (one_words 0xFFFFFFFF 0x2B60D) one_name ≡ false
unfolding run_length
f-other_hash = refl

-- a run without an end
f-endless : is_sound (one_words 0xFFFFFFFF 0x2B60A) one_name ≡ false
unfolding run_length
f-endless = refl

-- two names in one bucket
abbrev two_names : List Named
two_names = no_name ∷ defined (codes "f") ∷ defined (codes "g") ∷ []

abbrev two_words : List ℕ
two_words = 1 ∷ 1 ∷ 1 ∷ 6 ∷ 0 ∷ 0 ∷ 1 ∷ 0x2B60A ∷ 0x2B60D ∷ []

two-adopted : is_sound two_words two_names ≡ true
unfolding run_length
two-adopted = refl

two-walk_f : walk_of (gnu_table two_words two_names) (codes "f") ≡ 1
unfolding run_length
two-walk_f = refl

two-walk_g : walk_of (gnu_table two_words two_names) (codes "g") ≡ 2
unfolding run_length
two-walk_g = refl

-- an absent name passes the whole run
two-walk_h : walk_of (gnu_table two_words two_names) (codes "h") ≡ 2
unfolding run_length
two-walk_h = refl

-- `f` would stand in the second bucket, `g` in the first
abbrev parted_words : ℕ → ℕ → List ℕ
parted_words first second = 2 ∷ 1 ∷ 1 ∷ 6 ∷ 0 ∷ 0 ∷ first ∷ second ∷ 0x2B60B ∷ []

parted-adopted : is_sound (parted_words 0 1) one_name ≡ true
unfolding run_length
parted-adopted = refl

-- an empty bucket passes none
parted-walk_g : walk_of (gnu_table (parted_words 0 1) one_name) (codes "g") ≡ 0
unfolding run_length
parted-walk_g = refl

parted-other_bucket : is_sound (parted_words 1 0) one_name ≡ false
unfolding run_length
parted-other_bucket = refl

-- a bucket that leads before the first index that has a word
below : is_sound (1 ∷ 2 ∷ 1 ∷ 6 ∷ 0 ∷ 0 ∷ 1 ∷ 0x2B60B ∷ []) (no_name ∷ no_name ∷ no_name ∷ []) ≡ false
unfolding run_length
below = refl

pub one_is_distinct : (names : List Named) → names ≡ one_name → AreDistinct names
unfolding IsDistinct
one_is_distinct names e = subst (λ (l : List Named). AreDistinct l) (sym e) these
  where
    these : AreDistinct one_name
    these = ((refl, tt), (tt, tt))

pub two_are_distinct : (names : List Named) → names ≡ two_names → AreDistinct names
unfolding IsDistinct
two_are_distinct names e = subst (λ (l : List Named). AreDistinct l) (sym e) these
  where
    these : AreDistinct two_names
    these = ((refl, (refl, tt)), ((refl, tt), (tt, tt)))

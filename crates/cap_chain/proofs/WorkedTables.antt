-- Worked tables, by computation.
use Rattle.std.specs.Prelude.{◌≡◌, ℕ, List, [], ◌∷◌, true, false, codes, refl, Some}
use Rattle.std.proofs.Common.{subst, sym}
use Rattle.cap_names.specs.Hash.{system_v_hash_of}
use Rattle.cap_chain.specs.Words.{built_words}
use Rattle.std.specs.List.{IsDistinct}
use Rattle.cap_chain.specs.Adopted.{ChainTable, is_sound, walk_of}
use Rattle.cap_names.specs.Named.{AreDistinct, Named, first_defined}

abbrev helper_hash : ℕ
helper_hash = system_v_hash_of (codes "helper")

helper-hash : helper_hash ≡ 0x06EC36C2
helper-hash = refl

abbrev no_name : Named
no_name = ([], false)

abbrev defined : List ℕ → Named
defined name = (name, true)

abbrev helper_names : List Named
helper_names = no_name ∷ defined (codes "helper") ∷ []

helper-words : built_words ([] ∷ codes "helper" ∷ []) ≡ 1 ∷ 2 ∷ 1 ∷ 0 ∷ 0 ∷ []
helper-words = refl

helper-adopted : is_sound (1 ∷ 2 ∷ 1 ∷ 0 ∷ 0 ∷ []) helper_names ≡ true
helper-adopted = refl

helper-hidden : is_sound (1 ∷ 2 ∷ 0 ∷ 0 ∷ 0 ∷ []) helper_names ≡ false
helper-hidden = refl

abbrev two_names : List Named
two_names = no_name ∷ defined (codes "a") ∷ defined (codes "b") ∷ []

abbrev two_words : List ℕ
two_words = 1 ∷ 3 ∷ 2 ∷ 0 ∷ 0 ∷ 1 ∷ []

two-built : built_words ([] ∷ codes "a" ∷ codes "b" ∷ []) ≡ two_words
two-built = refl

two-adopted : is_sound two_words two_names ≡ true
two-adopted = refl

abbrev two_table : ChainTable
two_table = record { words = two_words; names = two_names }

walk-b : walk_of two_table (codes "b") ≡ 1
walk-b = refl

walk-a : walk_of two_table (codes "a") ≡ 2
walk-a = refl

walk-c : walk_of two_table (codes "c") ≡ 2
walk-c = refl

found-b : first_defined two_names (codes "b") ≡ Some 2
found-b = refl

index_two_twice : is_sound (1 ∷ 3 ∷ 2 ∷ 0 ∷ 0 ∷ 2 ∷ []) two_names ≡ false
index_two_twice = refl

bucket_of_three : is_sound (1 ∷ 3 ∷ 3 ∷ 0 ∷ 0 ∷ 1 ∷ []) two_names ≡ false
bucket_of_three = refl

b_hidden : is_sound (1 ∷ 3 ∷ 1 ∷ 0 ∷ 0 ∷ 0 ∷ []) two_names ≡ false
b_hidden = refl

-- the first name isn't defined, and the two others differ
pub two_are_distinct : (names : List Named) → names ≡ two_names → AreDistinct names
unfolding IsDistinct
two_are_distinct names e = subst (λ (l : List Named). AreDistinct l) (sym e) these
  where
    these : AreDistinct two_names
    these = ((refl, (refl, tt)), ((refl, tt), (tt, tt)))

-- the first name isn't defined, and there is one more
pub one_is_distinct : (names : List Named) → names ≡ helper_names → AreDistinct names
unfolding IsDistinct
one_is_distinct names e = subst (λ (l : List Named). AreDistinct l) (sym e) these
  where
    these : AreDistinct helper_names
    these = ((refl, tt), (tt, tt))

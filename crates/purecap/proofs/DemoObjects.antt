-- The objects of a demonstration in their parts, and the words of their links.
use Rattle.std.proofs.Common.{◌≡◌, ℕ, Bool, true, false, List, [], ◌∷◌, codes, Some, None, take, drop, not, refl, arith}
use Rattle.clap.proofs.WalkLemmas.{both}
use Rattle.cap_demo.specs.Objects.{demo_files, objects_from}
use Rattle.cap_link.specs.Linked.{IsInputName}
use Rattle.purecap.specs.Demo.{demo_objects}
use Rattle.purecap.specs.LinkWords.{IsLink}
use Rattle.purecap.specs.Summing.{after_three, is_input, three_objects, two_objects}
use Rattle.purecap.specs.WordRules.{is_long, is_path}
use Rattle.purecap.proofs.LinkAccepted.{input_name, paths_passed}
use Rattle.purecap.proofs.Passing.{path_passed}

pub needed_objects : (number : ℕ) → take 3 (demo_objects number) ≡ three_objects number 0 (codes "d0.o") (codes "d1.o") (codes "d2.o")
unfolding demo_objects demo_files objects_from
needed_objects number = refl

pub program_objects : (number : ℕ) → take 3 (drop 3 (demo_objects number)) ≡ three_objects (after_three number) 3 (codes "d3.o") (codes "d4.o") (codes "d5.o")
unfolding demo_objects demo_files objects_from
program_objects number = refl

pub other_objects : (number : ℕ) → drop 6 (demo_objects number) ≡ two_objects (after_three (after_three number)) 6 (codes "d6.o") (codes "d7.o")
unfolding demo_objects demo_files objects_from
other_objects number = refl

not_true : (b : Bool) → not b ≡ true → b ≡ false
not_true true e = cc
not_true false e = refl

pub input_named : (name : List ℕ) → is_input name ≡ true → IsInputName name
input_named name is =
    let parts = both (is_path name) (not (is_long name)) is in input_name name (path_passed name parts.0 (not_true (is_long name) parts.1))

-- ---- the words of the links

pub needed_link : IsLink (record { output = codes "d.so"; soname = Some (codes "d.so"); inputs = codes "d0.o" ∷ codes "d1.o" ∷ codes "d2.o" ∷ [] })
needed_link = record {
  output = path_passed (codes "d.so") refl refl;
  inputs = paths_passed (codes "d0.o" ∷ codes "d1.o" ∷ codes "d2.o" ∷ []) refl refl;
  few = omega arith;
  soname = (path_passed (codes "d.so") refl refl, refl);
}

pub other_link : IsLink (record { output = codes "e.so"; soname = Some (codes "e.so"); inputs = codes "d6.o" ∷ codes "d7.o" ∷ [] })
other_link = record {
  output = path_passed (codes "e.so") refl refl;
  inputs = paths_passed (codes "d6.o" ∷ codes "d7.o" ∷ []) refl refl;
  few = omega arith;
  soname = (path_passed (codes "e.so") refl refl, refl);
}

pub program_link : IsLink (record { output = codes "d"; soname = None; inputs = codes "d3.o" ∷ codes "d4.o" ∷ codes "d5.o" ∷ codes "d.so" ∷ [] })
program_link = record {
  output = path_passed (codes "d") refl refl;
  inputs = paths_passed (codes "d3.o" ∷ codes "d4.o" ∷ codes "d5.o" ∷ codes "d.so" ∷ []) refl refl;
  few = omega arith;
  soname = tt;
}

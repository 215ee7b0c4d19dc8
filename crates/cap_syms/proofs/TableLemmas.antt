-- The rows of a table, by its names and tallies.
use Rattle.std.proofs.Common.{◌≡◌, ℕ, ◌+◌, ◌<◌, Bool, not, cond, ltb, List, [], ◌∷◌, length, map, get_or, Some, None, refl, sym, ap, ◌∙◌, arith}
use Rattle.std.specs.Prelude.{position, zip}
use Rattle.std.specs.List.{position_or_len}
use Rattle.std.specs.Str.{bytes_eq}
use Rattle.std.proofs.lemmas.List.{get_or-map, length-map}
use Rattle.std.proofs.lemmas.Slice.Zip.{get_or-zip, length-zip}
use Rattle.cap_syms.specs.declared.tally.Tally.{Tally}
use Rattle.cap_syms.specs.Resolved.{Resolved, no_name, row_of, index_of}
use Rattle.cap_syms.specs.Tally.{decided_row}
use Rattle.cap_syms.proofs.Firsts.{bytes_swap}

abbrev pub table_of : Bool → List (List ℕ) → List Tally → List Resolved
table_of program names ts = map (decided_row program) (zip names ts)

module _ (program : Bool) (names : List (List ℕ)) (ts : List Tally) (same : length names ≡ length ts) where
  length-pairs : length (zip names ts) ≡ length ts
  length-pairs = let long = length-zip names ts in omega (arith, long, same)

  pub length-table : length (table_of program names ts) ≡ length ts
  length-table = length-map (zip names ts) (decided_row program) ∙ length-pairs

  pub row-is : (i : ℕ) (t : Tally) → i < length ts → row_of (table_of program names ts) i ≡ decided_row program (get_or names i [], get_or ts i t)
  row-is i t lt =
      let inside : i < length (zip names ts) = (let long = length-pairs in omega (arith, long, lt)) in
      get_or-map (decided_row program) (zip names ts) i ([], t) no_name inside
      ∙ ap (decided_row program) (get_or-zip names ts i ([], t) (omega (arith, same, lt)) lt)

-- the place of a name among the rows
place-is : (q : List ℕ) (program : Bool) (names : List (List ℕ)) (ts : List Tally) → length names ≡ length ts → position_or_len (λ r. bytes_eq r.name q) (table_of program names ts) ≡ position_or_len (bytes_eq q) names
place-is q program [] ts same = refl
place-is q program (n ∷ names) [] same = absurd (omega (arith, same))
place-is q program (n ∷ names) (t ∷ ts) same =
    let rest : position_or_len (λ r. bytes_eq r.name q) (table_of program names ts) ≡ position_or_len (bytes_eq q) names = place-is q program names ts (omega (arith, same)) in
    ap (λ b. cond (not b) (1 + position_or_len (λ r. bytes_eq r.name q) (table_of program names ts)) 0) (bytes_swap n q)
    ∙ ap (λ k. cond (not (bytes_eq q n)) (1 + k) 0) rest

pub index-is : (q : List ℕ) (program : Bool) (names : List (List ℕ)) (ts : List Tally) → length names ≡ length ts → index_of (table_of program names ts) q ≡ position (bytes_eq q) names
index-is q program names ts same =
    let at : position_or_len (λ (r : Resolved). bytes_eq r.name q) (table_of program names ts) ≡ position_or_len (bytes_eq q) names = place-is q program names ts same in
    let long : length (table_of program names ts) ≡ length names = length-table program names ts same ∙ sym same in
    ap (λ n. cond (ltb n (length (table_of program names ts))) (Some n) None) at
    ∙ ap (λ m. cond (ltb (position_or_len (bytes_eq q) names) m) (Some (position_or_len (bytes_eq q) names)) None) long

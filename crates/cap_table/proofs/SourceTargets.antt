-- Where what the symbols of inputs mean stands.
use Rattle.std.specs.List.{range_with_len}
use Rattle.std.specs.Prelude.{slice_get, slice_index_or, Some}
use Rattle.std.proofs.Common.{◌≡◌, ℕ, ◌+◌, ◌<◌, List, [], ◌∷◌, ◌++◌, map, length, get_or, inl, inr, sym, ap, subst, ◌∙◌, arith, length-append}
use Rattle.std.proofs.lemmas.Bool.{cases_lt}
use Rattle.std.proofs.lemmas.List.{get_or_append_left}
use Rattle.std.proofs.Math.Seq.{get_or-append_seam}
use Rattle.std.proofs.lemmas.Option.{slice_get_within, slice_get-get_or, get_or_from_slice_get}
use Rattle.std.proofs.lemmas.List.FromFn.{map-range_with_len_more, length-map-range_with_len, get_or-map-range_with_len}
use Rattle.cap_elf.specs.RelObject.{file_of}
use Rattle.cap_table.specs.declared.target.Target.{Target}
use Rattle.cap_table.specs.Targets.{Named, row_target, target_of}
use Rattle.cap_table.specs.Standing.{Keeps, HaveRows, StandFor, StandForAll}

-- one more number
pub numbered_more : {X : Type 0} (f : ℕ → X) (i : ℕ) → map f (range_with_len 0 (i + 1)) ≡ map f (range_with_len 0 i) ++ f i ∷ []
numbered_more f i = map-range_with_len_more f 0 i i (omega arith)

pub rows_held : (named : Named) (ts : List Target) → ts ≡ map (row_target named) (range_with_len 0 (length named.table)) → HaveRows named ts
rows_held named ts e row lt =
    let all : List Target = map (row_target named) (range_with_len 0 (length named.table)) in
    let long : length all ≡ length named.table = length-map-range_with_len (row_target named) 0 (length named.table) in
    ap (λ xs. slice_get xs row) e
    ∙ slice_get-get_or all row (row_target named row) (omega (arith, long, lt))
    ∙ ap Some (get_or-map-range_with_len (row_target named) 0 (length named.table) row row (row_target named row) lt (omega arith))

-- one target more
pub keeps_more : (ts : List Target) (t : Target) → Keeps ts (ts ++ t ∷ [])
keeps_more ts t i x e =
    let lt : i < length ts = slice_get_within ts i x e in
    slice_get-get_or (ts ++ t ∷ []) i x (omega (arith, lt, length-append ts (t ∷ [])))
    ∙ ap Some (get_or_append_left ts (t ∷ []) x i lt ∙ get_or_from_slice_get ts i x x e)

pub stands_last : (ts : List Target) (t : Target) → slice_get (ts ++ t ∷ []) (length ts) ≡ Some t
stands_last ts t =
    slice_get-get_or (ts ++ t ∷ []) (length ts) t (omega (arith, length-append ts (t ∷ []))) ∙ ap Some (get_or-append_seam ts t [] t)

-- the places of the first symbols of an input
pub record FirstStand (named : Named) (file : ℕ) (targets : List Target) (places : List ℕ) (n : ℕ) : Type 0 where
  pub count : length places ≡ n
  pub each : (symbol : ℕ) → symbol < n → slice_get targets (slice_index_or places symbol 0) ≡ Some (target_of named file symbol)

pub no_first : (named : Named) (file : ℕ) (targets : List Target) → FirstStand named file targets [] 0
no_first named file targets = record { count = omega arith; each = λ symbol lt. absurd (omega (arith, lt)) }

-- one symbol more
pub first_more : (named : Named) (file : ℕ) (old new : List Target) (places : List ℕ) (n place : ℕ) → FirstStand named file old places n → Keeps old new → slice_get new place ≡ Some (target_of named file n) → FirstStand named file new (places ++ place ∷ []) (n + 1)
first_more named file old new places n place first keeps here = record {
  count = omega (arith, length-append places (place ∷ []), first.count);
  each = λ symbol lt. elim (cases_lt symbol n) [
    | inl before ↦
        ap (slice_get new) (get_or_append_left places (place ∷ []) 0 symbol (omega (arith, before, first.count)))
        ∙ keeps (get_or places symbol 0) (target_of named file symbol) (first.each symbol before)
    | inr from ↦
        let same : length places ≡ symbol = omega (arith, lt, from, first.count) in
        let n_is : n ≡ symbol = omega (arith, lt, from) in
        ap (slice_get new) (sym (ap (λ k. get_or (places ++ place ∷ []) k 0) same) ∙ get_or-append_seam places place [] 0)
        ∙ here ∙ ap (λ k. Some (target_of named file k)) n_is
  ];
}

pub first_all : (named : Named) (file : ℕ) (targets : List Target) (places : List ℕ) (n : ℕ) → FirstStand named file targets places n → n ≡ length (file_of named.rels file).symbols → StandFor named file targets places
first_all named file targets places n first e = record { count = first.count ∙ e; each = λ symbol lt. first.each symbol (omega (arith, lt, e)) }

stand_kept : (named : Named) (file : ℕ) (old new : List Target) (places : List ℕ) → StandFor named file old places → Keeps old new → StandFor named file new places
stand_kept named file old new places stand keeps = record {
  count = stand.count;
  each = λ symbol lt. keeps (get_or places symbol 0) (target_of named file symbol) (stand.each symbol lt);
}

-- the places of the first inputs
pub record FilesStand (named : Named) (targets : List Target) (places : List (List ℕ)) (n : ℕ) : Type 0 where
  pub count : length places ≡ n
  pub each : (file : ℕ) → file < n → StandFor named file targets (slice_index_or places file [])

pub no_files : (named : Named) (targets : List Target) → FilesStand named targets [] 0
no_files named targets = record { count = omega arith; each = λ file lt. absurd (omega (arith, lt)) }

-- one input more
pub files_more : (named : Named) (old new : List Target) (places : List (List ℕ)) (n : ℕ) (one : List ℕ) → FilesStand named old places n → Keeps old new → StandFor named n new one → FilesStand named new (places ++ one ∷ []) (n + 1)
files_more named old new places n one files keeps here = record {
  count = omega (arith, length-append places (one ∷ []), files.count);
  each = λ file lt. elim (cases_lt file n) [
    | inl before ↦
        subst (StandFor named file new) (sym (get_or_append_left places (one ∷ []) [] file (omega (arith, before, files.count))))
        (stand_kept named file old new (get_or places file []) (files.each file before) keeps)
    | inr from ↦
        let same : length places ≡ file = omega (arith, lt, from, files.count) in
        let n_is : n ≡ file = omega (arith, lt, from) in
        subst (StandFor named file new) (sym (get_or-append_seam places one [] []) ∙ ap (λ k. get_or (places ++ one ∷ []) k []) same)
        (subst (λ (k : ℕ). StandFor named k new one) n_is here)
  ];
}

pub files_all : (named : Named) (targets : List Target) (places : List (List ℕ)) (n : ℕ) → FilesStand named targets places n → n ≡ length named.rels → StandForAll named targets places
files_all named targets places n files e = record { count = files.count ∙ e; each = λ file lt. files.each file (omega (arith, lt, e)) }

-- The passes over the inputs, symbol by symbol and file by file.
use Rattle.std.proofs.Common.{◌≡◌, ℕ, ◌+◌, ◌<◌, ◌≤◌, List, length, get_or, drop, sym, ap, ◌∙◌, arith}
use Rattle.std.specs.Prelude.{fold}
use Rattle.std.specs.List.{enumerate_from}
use Rattle.std.proofs.lemmas.List.{get_or-map, length-map}
use Rattle.std.proofs.lemmas.List.FromFn.{length-enumerate_from, get_or-enumerate_from}
use Rattle.cap_elf.specs.declared.records.Symbol.{Symbol}
use Rattle.cap_elf.specs.Records.{null_symbol}
use Rattle.cap_elf.specs.RelObject.{RelObject, name_of, symbol_of, no_object}
use Rattle.cap_syms.specs.declared.tally.Tally.{Tally}
use Rattle.cap_syms.specs.Occurrences.{Occurrence}
use Rattle.cap_syms.specs.Tally.{noted_if_outside, symbols_in, with_input}
use Rattle.cap_syms.proofs.Loops.{fold_more, fold_done}

abbrev occurrence_of : ℕ × RelObject → ℕ × Symbol → Occurrence
occurrence_of p s = record { name = name_of p.1 s.0; file = p.0; symbol = s.0; as_is = s.1 }

from_zero : (i : ℕ) → 0 + i ≡ i
from_zero i = omega arith

-- the symbol of this number
abbrev pub occurrence_at : ℕ × RelObject → ℕ → Occurrence
occurrence_at p i = occurrence_of p (i, symbol_of p.1 i)

pub length-symbols_in : (p : ℕ × RelObject) → length (symbols_in p) ≡ length p.1.symbols
length-symbols_in p = length-map (enumerate_from 0 p.1.symbols) (occurrence_of p) ∙ length-enumerate_from 0 p.1.symbols

pub get_or-symbols_in : (p : ℕ × RelObject) (i : ℕ) → i < length p.1.symbols → get_or (symbols_in p) i (occurrence_at p 0) ≡ occurrence_at p i
get_or-symbols_in p i lt =
    let pairs : List (ℕ × Symbol) = enumerate_from 0 p.1.symbols in
    let d : ℕ × Symbol = (0, null_symbol 0) in
    let inside : i < length pairs = (let long = length-enumerate_from 0 p.1.symbols in omega (arith, long, lt)) in
    get_or-map (occurrence_of p) pairs i d (occurrence_at p 0) inside
    ∙ ap (occurrence_of p) (get_or-enumerate_from 0 p.1.symbols i d lt)
    ∙ ap (λ k. occurrence_of p (k, symbol_of p.1 i)) (from_zero i)

abbrev Rows : Type 0
Rows = List (List ℕ × Tally)

pub symbol-more : (p : ℕ × RelObject) (rows next total : Rows) (i : ℕ) → i < length p.1.symbols → next ≡ noted_if_outside rows (occurrence_at p i) → fold noted_if_outside rows (drop i (symbols_in p)) ≡ total → fold noted_if_outside next (drop (i + 1) (symbols_in p)) ≡ total
symbol-more p rows next total i lt e so_far =
    let inside : i < length (symbols_in p) = (let long = length-symbols_in p in omega (arith, long, lt)) in
    fold_more noted_if_outside rows next total (symbols_in p) i (occurrence_at p 0) inside (e ∙ ap (noted_if_outside rows) (sym (get_or-symbols_in p i lt))) so_far

pub symbol-done : (p : ℕ × RelObject) (rows total : Rows) (i : ℕ) → length p.1.symbols ≤ i → fold noted_if_outside rows (drop i (symbols_in p)) ≡ total → rows ≡ total
symbol-done p rows total i le so_far =
    fold_done noted_if_outside rows total (symbols_in p) i (let long = length-symbols_in p in omega (arith, long, le)) so_far

-- the inputs, one after the other
pub input-more : (rels : List RelObject) (rows next total : Rows) (i : ℕ) (rel : RelObject) → i < length rels → get_or rels i no_object ≡ rel → next ≡ with_input rows (i, rel) → fold with_input rows (drop i (enumerate_from 0 rels)) ≡ total → fold with_input next (drop (i + 1) (enumerate_from 0 rels)) ≡ total
input-more rels rows next total i rel lt at e so_far =
    let pairs : List (ℕ × RelObject) = enumerate_from 0 rels in
    let d : ℕ × RelObject = (0, no_object) in
    let inside : i < length pairs = (let long = length-enumerate_from 0 rels in omega (arith, long, lt)) in
    let here : get_or pairs i d ≡ (i, rel) = get_or-enumerate_from 0 rels i d lt ∙ ap (λ k. (k, get_or rels i no_object)) (from_zero i) ∙ ap (λ r. (i, r)) at in
    fold_more with_input rows next total pairs i d inside (e ∙ ap (with_input rows) (sym here)) so_far

pub input-done : (rels : List RelObject) (rows total : Rows) (i : ℕ) → length rels ≤ i → fold with_input rows (drop i (enumerate_from 0 rels)) ≡ total → rows ≡ total
input-done rels rows total i le so_far =
    fold_done with_input rows total (enumerate_from 0 rels) i (let long = length-enumerate_from 0 rels in omega (arith, long, le)) so_far

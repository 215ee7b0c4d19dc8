-- The sizes of data, and the symbols of data of these sizes.
use Rattle.std.proofs.Common.{◌≡◌, ℕ, ◌+◌, ◌≤◌, ◌<◌, List, [], ◌∷◌, ◌++◌, length, map, get_or, take, drop, sym, ap, ◌∙◌, arith, append_assoc, append-nil, length-append}
use Rattle.std.specs.Prelude.{sum}
use Rattle.std.proofs.lemmas.List.{length-map, drop_more, drop_all}
use Rattle.std.proofs.lemmas.List.Elements.{All-map, All-same}
use Rattle.std.proofs.lemmas.List.Sums.{sum_by_more}
use Rattle.cap_demo.specs.declared.symbols.Symbol.{Symbol}
use Rattle.cap_demo.specs.declared.names.SymbolName.{SymbolName}
use Rattle.cap_demo.specs.Numbers.{drawn, after, draws}
use Rattle.cap_demo.specs.Choices.{size_of, data_target, function_target, sizes_of, targets_of, AreSizes}
use Rattle.cap_demo.specs.Symbols.{function_symbol, table_symbol, datum_symbol, data_symbols, own_symbols}
use Rattle.cap_demo.proofs.Drawing.{length_draws}

size_small : (value : ℕ) → size_of value ≤ 9000
unfolding size_of
size_small value = search arith

pub sizes_small : (sizes : List ℕ) (state : ℕ) → sizes ≡ sizes_of state → AreSizes sizes
unfolding sizes_of
sizes_small sizes state e =
    let values = draws 64 state in (
      ap length e ∙ length-map values size_of ∙ length_draws 64 state,
      All-same (λ s. s ≤ 9000) sizes (map size_of values) e (All-map (λ s. s ≤ 9000) size_of values (λ k d lt. size_small (get_or values k d))),
    )

pub targets_count : (targets : List SymbolName) (state number : ℕ) → targets ≡ targets_of state number → length targets ≡ 65
unfolding targets_of
targets_count targets state number e =
    let values = draws 64 state in
    let last = function_target number (drawn (after 64 state)) ∷ [] in
    ap length e ∙ length-append (map (data_target number) values) last ∙ ap (λ n. n + 1) (length-map values (data_target number) ∙ length_draws 64 state)

pub sum_more : (sizes : List ℕ) (i d : ℕ) → i < length sizes → sum (take (i + 1) sizes) ≡ sum (take i sizes) + get_or sizes i d
sum_more sizes i d lt = sum_by_more (λ x. x) sizes i d lt

-- before the data
pub own_first : (number : ℕ) (sizes : List ℕ) (symbols : List Symbol) → symbols ≡ function_symbol number ∷ table_symbol number ∷ [] → symbols ++ data_symbols number 0 1040 (drop 0 sizes) ≡ own_symbols number sizes
unfolding own_symbols
own_first number sizes symbols e = ap (λ ss. ss ++ data_symbols number 0 1040 sizes) e

-- one more datum
pub data_more : (number i at end : ℕ) (symbol : Symbol) (sizes : List ℕ) (symbols more total : List Symbol) (d : ℕ) → i < length sizes → symbol ≡ datum_symbol number i at (get_or sizes i d) → end ≡ at + get_or sizes i d → more ≡ symbols ++ symbol ∷ [] → symbols ++ data_symbols number i at (drop i sizes) ≡ total → more ++ data_symbols number (i + 1) end (drop (i + 1) sizes) ≡ total
unfolding data_symbols
data_more number i at end symbol sizes symbols more total d lt es ee em so_far =
    let size = get_or sizes i d in
    let rest = data_symbols number (i + 1) (at + size) (drop (i + 1) sizes) in
    ap (λ n. more ++ data_symbols number (i + 1) n (drop (i + 1) sizes)) ee
    ∙ ap (λ ss. ss ++ rest) em
    ∙ ap (λ s. symbols ++ s ∷ [] ++ rest) es
    ∙ append_assoc symbols (datum_symbol number i at size ∷ []) rest
    ∙ sym (ap (λ ss. symbols ++ data_symbols number i at ss) (drop_more sizes i d lt))
    ∙ so_far

-- no datum is left
pub data_done : (number i at : ℕ) (sizes : List ℕ) (symbols total : List Symbol) → length sizes ≤ i → symbols ++ data_symbols number i at (drop i sizes) ≡ total → symbols ≡ total
unfolding data_symbols
data_done number i at sizes symbols total le so_far =
    sym (append-nil symbols) ∙ sym (ap (λ ss. symbols ++ data_symbols number i at ss) (drop_all i sizes le)) ∙ so_far

-- What is read of the plan's file is the view of the link.
use Rattle.std.proofs.Common.{◌≡◌, ℕ, ◌+◌, ◌*◌, Bool, true, false, List, [], ◌∷◌, length, map, refl, sym, ap, ◌∙◌, arith}
use Rattle.std.specs.List.{enumerate_from}
use Rattle.std.proofs.lemmas.List.{length-map}
use Rattle.cap_names.specs.Hash.{system_v_hash_of}
use Rattle.cap_elf.specs.declared.records.Symbol.{Symbol}
use Rattle.cap_elf.specs.Records.{null_symbol}
use Rattle.cap_elf.specs.declared.records.Class.TheVariants.{Init, Fini}
use Rattle.cap_layout.specs.declared.piece.Piece.{Piece}
use Rattle.cap_layout.specs.Places.{of_class}
use Rattle.cap_layout.specs.Parts.{has_bytes, array_size, parts_of, slots_end, init_end}
use Rattle.cap_table.specs.Lists.{DynSymbolValue, null_dyn_symbol}
use Rattle.cap_emit.specs.File.{hash_words}
use Rattle.cap_readback.specs.Content.{symbol_read as planned_read}
use Rattle.cap_readback.specs.Lists.{placed}
use Rattle.cap_readback.specs.View.{view_of, words, pair_if}
use Rattle.cap_link.specs.Linked.{Linked}
use Rattle.cap_link.specs.View.{linked_view, symbol_read, array_at}
use Rattle.cap_link.specs.Content.{planned_from, named_symbols, names_of_symbols, own_at, needed_at, content_of}
use Rattle.cap_link.proofs.Made.{AreListed, IsLaidOut}
use Rattle.cap_link.proofs.Naming.{planned-texts, needed-texts, own-text, planned-length}

planned-read : (at from n : ℕ) (ss : List DynSymbolValue) → placed planned_read (at + 24) 24 n (planned_from from ss) ≡ map (symbol_read at) (enumerate_from (n + 1) ss)
planned-read at from n [] = refl
planned-read at from n (s ∷ ss) =
    let e : at + 24 + 24 * n ≡ at + 24 * (n + 1) = omega arith in
    let rest = planned-read at (from + length s.name + 1) (n + 1) ss in
    rw (e, rest) refl

symbols-read : (at : ℕ) (ss : List DynSymbolValue) → null_symbol at ∷ placed planned_read (at + 24) 24 0 (planned_from 1 ss) ≡ map (symbol_read at) (enumerate_from 0 (null_dyn_symbol ∷ ss))
symbols-read at ss =
    let e : at ≡ at + 24 * 0 = omega arith in
    let rest = planned-read at 1 0 ss in
    ap (λ (xs : List Symbol). null_symbol at ∷ xs) rest ∙ ap (λ (k : ℕ). null_symbol k ∷ map (symbol_read at) (enumerate_from (0 + 1) ss)) e

pub length-texts : (ss : List DynSymbolValue) → length (names_of_symbols ss) ≡ length ss
length-texts [] = refl
length-texts (s ∷ ss) = let rest = length-texts ss in omega (arith, rest)

pub length-hashes : (ss : List DynSymbolValue) → length (map system_v_hash_of (names_of_symbols ss)) ≡ length ss
length-hashes ss = length-map (names_of_symbols ss) system_v_hash_of ∙ length-texts ss

-- the words of the hash table
pub words-are : (l : Linked) → AreListed l → words (content_of l) ≡ hash_words l.lists
unfolding content_of
words-are l h =
    let hashes = map system_v_hash_of (names_of_symbols l.lists.symbols) in
    let a : length l.lists.symbols ≡ length hashes = sym (length-hashes l.lists.symbols) in
    let b : 1 + length (planned_from 1 (named_symbols l)) ≡ length hashes =
    omega (arith, planned-length 1 (named_symbols l), ap length h.symbols, a) in
    rw (a, b) refl

array-is : (has : Bool) (at size : ℕ) → (has ≡ false → size ≡ 0) → (pair_if has at size).1 ≡ size
array-is true at size h = refl
array-is false at size h = sym (h refl)

array-place : (has : Bool) (at size : ℕ) → (pair_if has at size).0 ≡ array_at has at
array-place true at size = refl
array-place false at size = refl

no-array : (has : Bool) (end : ℕ) (ps : List Piece) → has ≡ has_bytes ps → has ≡ false → array_size end ps ≡ 0
no-array has end ps e f = let g : has_bytes ps ≡ false = sym e ∙ f in rw g refl

pub no-init : (l : Linked) → IsLaidOut l → l.lists.plan.has_init ≡ false → l.laid.parts.init_size ≡ 0
no-init l h f =
    let at = parts_of l.laid.pieces.all l.lists.plan.sizes in
    ap (λ p. p.init_size) h.parts ∙ no-array l.lists.plan.has_init (slots_end at l.lists.plan.sizes) (of_class Init l.laid.pieces.all) h.has_init f

pub no-fini : (l : Linked) → IsLaidOut l → l.lists.plan.has_fini ≡ false → l.laid.parts.fini_size ≡ 0
no-fini l h f =
    let at = parts_of l.laid.pieces.all l.lists.plan.sizes in
    ap (λ p. p.fini_size) h.parts ∙ no-array l.lists.plan.has_fini (init_end l.laid.pieces.all at l.lists.plan.sizes) (of_class Fini l.laid.pieces.all) h.has_fini f

pub view-is : (l : Linked) → AreListed l → IsLaidOut l → view_of (content_of l) ≡ linked_view l
unfolding content_of linked_view
view-is l h laid =
    let at = l.laid.parts in
    let symbols : null_symbol at.symbols_at ∷ placed planned_read (at.symbols_at + 24) 24 0 (planned_from 1 (named_symbols l)) ≡ map (symbol_read at.symbols_at) (enumerate_from 0 l.lists.symbols) =
    symbols-read at.symbols_at (named_symbols l) ∙ ap (λ (ss : List DynSymbolValue). map (symbol_read at.symbols_at) (enumerate_from 0 ss)) (sym h.symbols) in
    let names : [] ∷ map (λ p. p.name.1) (planned_from 1 (named_symbols l)) ≡ names_of_symbols l.lists.symbols =
    ap (λ (r : List (List ℕ)). [] ∷ r) (planned-texts 1 (named_symbols l)) ∙ ap names_of_symbols (sym h.symbols) in
    let needed : map (λ n. n.1) (content_of l).needed ≡ l.lists.plan.needed = needed-texts (needed_at l) l.lists.plan.needed in
    let own = own-text (own_at l) l.lists.plan.soname in
    let ws = words-are l h in
    let i0 = array-place l.lists.plan.has_init at.init_at at.init_size in
    let i1 = array-is l.lists.plan.has_init at.init_at at.init_size (no-init l laid) in
    let f0 = array-place l.lists.plan.has_fini at.fini_at at.fini_size in
    let f1 = array-is l.lists.plan.has_fini at.fini_at at.fini_size (no-fini l laid) in
    rw (symbols, names, needed, own, ws, i0, i1, f0, f1) refl

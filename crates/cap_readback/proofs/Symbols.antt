-- The symbols and the relocations are read back.
use Rattle.std.proofs.Common.{◌≡◌, ℕ, ◌+◌, ◌*◌, ◌%◌, ◌^◌, ◌<◌, false, List, [], ◌∷◌, ◌++◌, length, Ok, refl, sym, ap, ◌∙◌, arith, append_assoc, length-append}
use Rattle.std.specs.Prelude.{◌&&◌, ◌==◌, bytes_eq}
use Rattle.std.specs.Int.{w64}
use Rattle.std.specs.List.{flat_map, list_any, AllByRecursion}
use Rattle.std.proofs.lemmas.Bool.{le-ltb, lt-leb, ne_eqb, and_right, or_from, or_parts}
use Rattle.std.proofs.lemmas.List.{append-nil}
use Rattle.std.proofs.lemmas.Nat.{div-mul-add, mod-mul-add}
use Rattle.std.proofs.lemmas.Int.{to_z-of_z}
use Rattle.std.proofs.Math.Nat.{mod-eq_of_lt}
use Rattle.cap_base.specs.Field.{number_at}
use Rattle.cap_elf.specs.declared.records.DynReloc.{DynReloc}
use Rattle.cap_elf.specs.declared.records.CapReloc.{CapReloc}
use Rattle.cap_base.specs.Steps.{◌>>=◌, steps}
use Rattle.cap_elf.specs.Records.{table, symbol_entry_at, reloc_at, cap_reloc_at}
use Rattle.cap_elf.specs.Exported.{is_exported, has_exported}
use Rattle.cap_elf.specs.Symbols.{checked_name, symbol_step, null_named}
use Rattle.cap_elf.specs.Relocs.{symbol_fits, symbols_fit}
use Rattle.cap_readback.specs.Stands.{Stands, AreSmall}
use Rattle.cap_readback.specs.Lists.{placed}
use Rattle.cap_readback.specs.Content.{Planned, symbol_fields, symbol_bytes, symbol_of, entry_of, named_of, IsGood, AreNew, reloc_fields, reloc_bytes, reloc_read, IsGoodReloc, cap_fields, cap_bytes, cap_read, word_fields, word_bytes}
use Rattle.cap_readback.proofs.Reading.{stands-fields, table-read}
use Rattle.cap_readback.proofs.Header.{byte-number}
use Rattle.cap_readback.proofs.Names.{name-at, printable-no-zero}
use Rattle.cap_readback.proofs.Dynamic.{placed-append}

-- ---- records
pub symbol-entry-is : (strings bytes : List ℕ) (at : ℕ) (p : Planned) → IsGood strings p → Stands bytes at (symbol_bytes p) → symbol_entry_at bytes at ≡ entry_of at p
unfolding symbol_entry_at
symbol-entry-is strings bytes at p good h =
    let r = stands-fields bytes at (symbol_fields p) good.small h in
    let info = byte-number bytes (at + 4) (p.symbol.binding * 16 + p.symbol.kind) r.1.0 in
    let other = byte-number bytes (at + 5) p.symbol.visibility r.1.1.0 in
    let low : p.symbol.kind < 16 = omega (arith, good.kind) in
    let binding = div-mul-add p.symbol.binding 16 p.symbol.kind low in
    let kind = mod-mul-add p.symbol.binding 16 p.symbol.kind low in
    let visibility : p.symbol.visibility % 4 ≡ p.symbol.visibility = mod-eq_of_lt good.visibility in
    rw (r.0, info, other, binding, kind, visibility, r.1.1.1.0, r.1.1.1.1.0, r.1.1.1.1.1.0) refl

pub reloc-is : (symbols : ℕ) (bytes : List ℕ) (at : ℕ) (p : DynReloc) → IsGoodReloc symbols p → Stands bytes at (reloc_bytes p) → reloc_at bytes at ≡ reloc_read at p
unfolding reloc_at
reloc-is symbols bytes at p good h =
    let r = stands-fields bytes at (reloc_fields p) good.small h in
    rw (r.0, r.1.0, r.1.1.0, r.1.1.1.0, to_z-of_z w64 p.addend good.signed) refl

pub cap-is : (bytes : List ℕ) (at : ℕ) (p : CapReloc) → AreSmall (cap_fields p) → Stands bytes at (cap_bytes p) → cap_reloc_at bytes at ≡ cap_read at p
unfolding cap_reloc_at
cap-is bytes at p small h =
    let r = stands-fields bytes at (cap_fields p) small h in
    rw (r.0, r.1.0, r.1.1.0, r.1.1.1.0, r.1.1.1.1.0) refl

-- ---- symbols
pub checked-name-is : (strings : List ℕ) (at : ℕ) (p : Planned) → IsGood strings p → checked_name strings (entry_of at p) ≡ Ok p.name.1
unfolding checked_name
checked-name-is strings at p good =
    let some : (length p.name.1 == 0) ≡ false = ne_eqb (length p.name.1) 0 (λ (e : length p.name.1 ≡ 0). omega (arith, e, good.some)) in
    rw (name-at strings p.name (printable-no-zero p.name.1 good.printable) good.stands, good.printable, some, le-ltb 255 (length p.name.1) good.short, le-ltb 5 p.symbol.kind good.kind, le-ltb 2 p.symbol.binding good.binding, good.section) refl

not-exported : (base n : ℕ) (before : List Planned) (name : List ℕ) → list_any (λ q. bytes_eq q.name.1 name) before ≡ false → has_exported (placed named_of base 24 n before) name ≡ false
not-exported base n [] name h = refl
not-exported base n (q ∷ qs) name h =
    let parts = or_parts (bytes_eq q.name.1 name) (list_any (λ (x : Planned). bytes_eq x.name.1 name) qs) h in
    or_from (is_exported (symbol_of (base + 24 * n) q.symbol) && bytes_eq q.name.1 name) (has_exported (placed named_of base 24 (n + 1) qs) name)
    (and_right (is_exported (symbol_of (base + 24 * n) q.symbol)) (bytes_eq q.name.1 name) parts.0) (not-exported base (n + 1) qs name parts.1)

symbol-more : (strings : List ℕ) (null base at : ℕ) (before : List Planned) (p : Planned) → IsGood strings p → list_any (λ q. bytes_eq q.name.1 p.name.1) before ≡ false
    → symbol_step strings (null_named null ∷ placed named_of base 24 0 before) (entry_of at p) ≡ Ok ((null_named null ∷ placed named_of base 24 0 before) ++ named_of at p ∷ [])
unfolding symbol_step
symbol-more strings null base at before p good new =
    let clear = and_right (is_exported (symbol_of at p.symbol)) (has_exported (placed named_of base 24 0 before) p.name.1) (not-exported base 0 before p.name.1 new) in
    rw (checked-name-is strings at p good, clear) refl

symbols-from : (strings : List ℕ) (null base : ℕ) (before ps : List Planned) → AllByRecursion (IsGood strings) ps → AreNew before ps
    → steps (symbol_step strings) (null_named null ∷ placed named_of base 24 0 before) (placed entry_of base 24 (0 + length before) ps) ≡ Ok (null_named null ∷ placed named_of base 24 0 (before ++ ps))
symbols-from strings null base before [] good new = ap (λ xs. Ok (null_named null ∷ placed named_of base 24 0 xs)) (sym (append-nil before))
symbols-from strings null base before (p ∷ ps) good new =
    let acc = null_named null ∷ placed named_of base 24 0 before in
    let n = 0 + length before in
    let one = symbol-more strings null base (base + 24 * n) before p good.0 new.0 in
    let grown : acc ++ named_of (base + 24 * n) p ∷ [] ≡ null_named null ∷ placed named_of base 24 0 (before ++ p ∷ []) = ap (λ xs. null_named null ∷ xs) (sym (placed-append named_of base 24 0 before (p ∷ []))) in
    let place : n + 1 ≡ 0 + length (before ++ p ∷ []) = omega (arith, length-append before (p ∷ [])) in
    let rest = symbols-from strings null base (before ++ p ∷ []) ps good.1 new.1 in
    ap (λ r. r >>= λ b. steps (symbol_step strings) b (placed entry_of base 24 (n + 1) ps)) (one ∙ ap Ok grown)
    ∙ ap (λ k. steps (symbol_step strings) (null_named null ∷ placed named_of base 24 0 (before ++ p ∷ [])) (placed entry_of base 24 k ps)) place
    ∙ rest ∙ ap (λ xs. Ok (null_named null ∷ placed named_of base 24 0 xs)) (append_assoc before (p ∷ []) ps)

pub symbols-are : (strings : List ℕ) (null base : ℕ) (ps : List Planned) → AllByRecursion (IsGood strings) ps → AreNew [] ps
    → steps (symbol_step strings) (null_named null ∷ []) (placed entry_of base 24 0 ps) ≡ Ok (null_named null ∷ placed named_of base 24 0 ps)
symbols-are strings null base ps good new = symbols-from strings null base [] ps good new

-- ---- relocations
pub relocs-fit : (symbols base n : ℕ) (rs : List DynReloc) → AllByRecursion (IsGoodReloc symbols) rs → symbols_fit symbols (placed reloc_read base 24 n rs) ≡ Ok tt
unfolding symbol_fits
relocs-fit symbols base n [] h = refl
relocs-fit symbols base n (r ∷ rs) h = rw (lt-leb symbols r.symbol h.0.symbol) (relocs-fit symbols base (n + 1) rs h.1)

-- words without their places
pub placed-same : (base size n : ℕ) (ws : List ℕ) → placed (λ at w. w) base size n ws ≡ ws
placed-same base size n [] = refl
placed-same base size n (w ∷ ws) = ap (λ xs. w ∷ xs) (placed-same base size (n + 1) ws)

pub words-are : (bytes : List ℕ) (at : ℕ) (ws : List ℕ) → AllByRecursion (λ w. w < 2 ^ 32) ws → Stands bytes at (flat_map word_bytes ws) → table (number_at 4 bytes) at 4 (length ws) ≡ ws
words-are bytes at ws small h =
    table-read (number_at 4 bytes) word_bytes (λ (k w : ℕ). w) (λ (w : ℕ). w < 2 ^ 32) bytes at 4 ws (λ w. refl) (λ q w s there. (stands-fields bytes q (word_fields w) (s, tt) there).0) small h
    ∙ placed-same at 4 0 ws

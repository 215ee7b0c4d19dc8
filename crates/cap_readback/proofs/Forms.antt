-- The fields give the same bytes.
use Rattle.std.proofs.Common.{◌≡◌, ℕ, ◌+◌, ◌*◌, ◌/◌, ◌%◌, ◌^◌, ◌<◌, [], ◌∷◌, ◌++◌, refl, ap, ◌∙◌, arith}
use Rattle.std.specs.Int.{cast_unsigned, w64}
use Rattle.byteorder.specs.Endian.{little_bytes}
use Rattle.cap_elf.specs.declared.records.Segment.{Segment}
use Rattle.cap_elf.specs.declared.records.DynReloc.{DynReloc}
use Rattle.cap_elf.specs.declared.records.CapReloc.{CapReloc}
use Rattle.cap_readback.specs.Stands.{fields}
use Rattle.cap_readback.specs.Written.{header_fields, segment_bytes}
use Rattle.cap_readback.specs.Content.{Planned, symbol_bytes, reloc_bytes, cap_bytes}
use Rattle.cap_readback.specs.Forms.{file_header, segment_header, cap_reloc_bytes, symbol_bytes_of, rela_bytes}

pub header-form : (flags entry : ℕ) → file_header flags entry ≡ fields (header_fields flags entry)
header-form flags entry = refl

pub segment-form : (kind : ℕ) (s : Segment) → segment_header kind s ≡ segment_bytes (kind, s)
segment-form kind s = refl

pub cap-form : (c : CapReloc) → cap_reloc_bytes c ≡ cap_bytes c
cap-form c = refl

pub byte-form : (x : ℕ) → x < 256 → x ∷ [] ≡ little_bytes 1 x
byte-form x h =
    let e : x ≡ x % 256 = omega (arith, h) in
    ap (λ y. y ∷ []) e

pub symbol-form : (p : Planned) → p.symbol.binding * 16 + p.symbol.kind < 256 → p.symbol.visibility < 256 → symbol_bytes_of p ≡ symbol_bytes p
symbol-form p a b =
    let s = p.symbol in
    let front = little_bytes 4 p.name.0 in
    let back = little_bytes 2 s.section ++ little_bytes 8 s.value ++ little_bytes 8 s.size in
    ap (λ xs. front ++ (xs ++ (s.visibility ∷ back))) (byte-form (s.binding * 16 + s.kind) a) ∙ ap (λ xs. front ++ (little_bytes 1 (s.binding * 16 + s.kind) ++ (xs ++ back))) (byte-form s.visibility b)

-- two halves of eight bytes
pub halves-form : (low high : ℕ) → low < 2 ^ 32 → little_bytes 8 (high * 2 ^ 32 + low) ≡ little_bytes 4 low ++ little_bytes 4 high
halves-form low high h =
    let b0 : (high * 4294967296 + low) % 256 ≡ low % 256 = omega (arith, h) in
    let b1 : (high * 4294967296 + low) / 256 % 256 ≡ low / 256 % 256 = omega (arith, h) in
    let b2 : (high * 4294967296 + low) / 65536 % 256 ≡ low / 65536 % 256 = omega (arith, h) in
    let b3 : (high * 4294967296 + low) / 16777216 % 256 ≡ low / 16777216 % 256 = omega (arith, h) in
    let b4 : (high * 4294967296 + low) / 4294967296 % 256 ≡ high % 256 = omega (arith, h) in
    let b5 : (high * 4294967296 + low) / 1099511627776 % 256 ≡ high / 256 % 256 = omega (arith, h) in
    let b6 : (high * 4294967296 + low) / 281474976710656 % 256 ≡ high / 65536 % 256 = omega (arith, h) in
    let b7 : (high * 4294967296 + low) / 72057594037927936 % 256 ≡ high / 16777216 % 256 = omega (arith, h) in
    rw (b0, b1, b2, b3, b4, b5, b6, b7) refl

pub rela-form : (r : DynReloc) → r.kind < 2 ^ 32 → rela_bytes r ≡ reloc_bytes r
rela-form r h =
    let front = little_bytes 8 r.slot in
    ap (λ xs. front ++ (xs ++ little_bytes 8 (cast_unsigned w64 r.addend))) (halves-form r.kind r.symbol h)

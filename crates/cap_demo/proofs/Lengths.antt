-- How long the records are.
use Rattle.std.proofs.Common.{◌≡◌, ℕ, ◌+◌, List, ◌++◌, length, refl, ap, ◌∙◌, length-append}
use Rattle.cap_demo.specs.declared.records.Section.{Section}
use Rattle.cap_demo.specs.declared.symbols.Symbol.{Symbol}
use Rattle.cap_demo.specs.Records.{field_bytes, zeros, ident, sizes_header, file_header, section_header, symbol_bytes, capability_bytes}
use Rattle.cap_demo.specs.Sections.{code_bytes}

pub length_header : (sections_at : ℕ) → length (file_header sections_at) ≡ 64
unfolding file_header ident zeros sizes_header field_bytes
length_header sections_at = refl

section_length : (s : Section) (offset size : ℕ) → length (section_header s offset size) ≡ 64
unfolding section_header field_bytes
section_length s offset size = refl

pub length_section : (before after : List ℕ) (s : Section) (offset size : ℕ) → after ≡ before ++ section_header s offset size → length after ≡ length before + 64
length_section before after s offset size e =
    ap length e ∙ length-append before (section_header s offset size) ∙ ap (λ n. length before + n) (section_length s offset size)

symbol_length : (name_at : ℕ) (s : Symbol) → length (symbol_bytes name_at s) ≡ 24
unfolding symbol_bytes field_bytes
symbol_length name_at s = refl

pub length_symbol : (before after : List ℕ) (name_at : ℕ) (s : Symbol) → after ≡ before ++ symbol_bytes name_at s → length after ≡ length before + 24
length_symbol before after name_at s e =
    ap length e ∙ length-append before (symbol_bytes name_at s) ∙ ap (λ n. length before + n) (symbol_length name_at s)

capability_length : (at symbol : ℕ) → length (capability_bytes at symbol) ≡ 24
unfolding capability_bytes field_bytes
capability_length at symbol = refl

pub length_capability : (before after : List ℕ) (at symbol : ℕ) → after ≡ before ++ capability_bytes at symbol → length after ≡ length before + 24
length_capability before after at symbol e =
    ap length e ∙ length-append before (capability_bytes at symbol) ∙ ap (λ n. length before + n) (capability_length at symbol)

pub length_code : length code_bytes ≡ 4
unfolding code_bytes field_bytes
length_code = refl

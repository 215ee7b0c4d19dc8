-- The layout of the inputs, or why there is none.
use Rattle.std.specs.Prelude.{◌≡◌, ℕ, ◌%◌, ◌^◌, not, ◌==◌, ◌≤◌, nat_lt, Bool, false, if◌then◌else◌, List, Result, Ok, Err}
use Rattle.std.specs.List.{enumerate_from}
use Rattle.std.specs.Option.{option_map_or}
use Rattle.cap_base.specs.Steps.{◌>>◌, each, in_file, refuse}
use Rattle.cap_base.specs.declared.check.Check.TheVariants.{CapabilityAlignment}
use Rattle.cap_base.specs.declared.refusal.Fault.{Fault}
use Rattle.cap_base.specs.declared.refusal.Refusal.{Refusal}
use Rattle.cap_base.specs.declared.refusal.Refusal.TheVariants as refusals
use Rattle.cap_elf.specs.declared.records.Reloc.{Reloc}
use Rattle.cap_elf.specs.RelObject.{RelObject}
use Rattle.cap_syms.specs.Resolved.{Resolved}
use Rattle.cap_layout.specs.declared.parts.Sizes.{Sizes}
use Rattle.cap_layout.specs.Pieces.{PieceList, pieces_of}
use Rattle.cap_layout.specs.Parts.{parts_of, addresses_of, padded_ends}
use Rattle.cap_layout.specs.Points.{Laid, place_address}

-- an end beyond this is refused
abbrev pub span_limit : ℕ
span_limit = 2 ^ 26

unfoldable pub ends_low : ℕ → Result (Unit {0}) Refusal
ends_low end = if nat_lt span_limit end then Err (refusals.Full end 0) else Ok tt

abbrev pub laid_as : List RelObject → PieceList → Sizes → Laid
laid_as rels pieces sizes = record {
  rels = rels;
  pieces = pieces;
  addresses = addresses_of pieces.all sizes;
  parts = parts_of pieces.all sizes;
}

-- a relocation that makes a capability (R_RISCV_CHERI_CAPABILITY)
abbrev pub is_capability : Reloc → Bool
is_capability r = r.kind == 193

abbrev pub is_misaligned : Laid → ℕ → Reloc → Bool
is_misaligned laid file r =
    if is_capability r then option_map_or (λ a. not (a % 16 == 0)) (place_address laid file r.section r.offset) false else false

-- a capability stands at a multiple of 16
unfoldable pub is_aligned : Laid → ℕ → Reloc → Result (Unit {0}) Fault
is_aligned laid file r = refuse (is_misaligned laid file r) CapabilityAlignment r.at

abbrev pub file_aligned : Laid → ℕ × RelObject → Result (Unit {0}) Refusal
file_aligned laid p = in_file p.1.number (each (is_aligned laid p.0) p.1.relocs)

-- the first end that is too far refuses, and then the first capability that is misaligned
unfoldable pub lay_of : List RelObject → PieceList → Sizes → Result Laid Refusal
lay_of rels pieces sizes = do
  each ends_low (padded_ends pieces.all sizes)
  let laid = laid_as rels pieces sizes
  each (file_aligned laid) (enumerate_from 0 rels)
  Ok laid

-- counts that do not pass 2 ^ 32
pub record AreSmall (sizes : Sizes) : Type 0 where
  pub symbols : sizes.symbols ≤ 2 ^ 32
  pub relas : sizes.relas ≤ 2 ^ 32
  pub cap_relocs : sizes.cap_relocs ≤ 2 ^ 32
  pub names : sizes.names ≤ 2 ^ 32
  pub slots : sizes.slots ≤ 2 ^ 32
  pub stubs : sizes.stubs ≤ 2 ^ 32
  pub dynamics : sizes.dynamics ≤ 2 ^ 32

-- the pieces are those of these inputs and this table
abbrev pub ArePiecesOf : List RelObject → List Resolved → PieceList → Type 0
ArePiecesOf rels table pieces = pieces_of rels table ≡ Ok pieces

-- the layout is the one of these inputs, pieces and sizes
abbrev pub IsLayoutOf : List RelObject → PieceList → Sizes → Laid → Type 0
IsLayoutOf rels pieces sizes laid = lay_of rels pieces sizes ≡ Ok laid

-- The walk over the relocations in order of files, sections and records, and the checks of each.
use Rattle.std.specs.Prelude.{ℕ, ◌+◌, ◌<◌, Bool, true, not, ◌&&◌, ◌||◌, ◌==◌, nat_lt, nat_le, if◌then◌else◌, ℤ, pos, nat_abs, List, [], ◌∷◌, ◌++◌, length, take, slice_index_or, ok_or, Result, Ok}
use Rattle.std.specs.Int.{is_negative}
use Rattle.std.specs.List.{list_any, enumerate_from}
use Rattle.cap_base.specs.Steps.{◌>>=◌, ◌>>◌, refuse, fault, steps, in_file}
use Rattle.cap_base.specs.declared.check.Check.TheVariants.{RelocationKind, RelocationOffset, RelocationSlot, Addend}
use Rattle.cap_base.specs.declared.refusal.Fault.{Fault}
use Rattle.cap_base.specs.declared.refusal.Refusal.{Refusal}
use Rattle.cap_elf.specs.declared.records.Reloc.{Reloc}
use Rattle.cap_elf.specs.Classes.{is_kept, is_code, is_array}
use Rattle.cap_elf.specs.RelObject.{RelObject, file_of, section_of}
use Rattle.cap_layout.specs.declared.piece.Piece.{Piece}
use Rattle.cap_layout.specs.Pieces.{field_piece}
use Rattle.cap_table.specs.declared.target.Target.{Target}
use Rattle.cap_table.specs.declared.target.Step.{Step}
use Rattle.cap_table.specs.Kinds.{is_passed_over, is_capability, is_slot, is_slot_high, is_low, is_transfer, is_accepted, is_relative, needs_address, width_of}
use Rattle.cap_table.specs.Targets.{Named, target_of, is_fixed, is_dynamic, is_here, is_section_at, is_loose_target, names_place}

abbrev pub no_reloc : Reloc
no_reloc = record { section = 0; offset = 0; kind = 0; symbol = 0; addend = pos 0; at = 0 }

-- the relocation of a step, and what it refers to
abbrev pub reloc_of : List RelObject → Step → Reloc
reloc_of rels s = slice_index_or (file_of rels s.file).relocs s.index no_reloc

abbrev pub target_at : Named → Step → Target
target_at named s = target_of named s.file (reloc_of named.rels s).symbol

-- a target in a dropped section; one without an address that the kind needs; a fixed one, to which nothing is counted;
-- and the section of code or of an array as a whole
unfoldable pub refuses_target : ℕ → Target → Bool
refuses_target kind t =
    (is_section_at t.as_is.place && not (is_kept t.class))
    || (needs_address kind && not (is_here t.bound))
    || (is_relative kind && is_fixed t)
    || ((is_capability kind || is_slot_high kind) && t.as_is.kind == 3 && (is_code t.class || is_array t.class))

-- the fields of two slots of one section share a byte
abbrev pub slots_clash : Reloc → Reloc → Bool
slots_clash r q =
    is_slot r.kind && is_slot q.kind && r.section == q.section && nat_lt r.offset (q.offset + width_of q.kind) && nat_lt q.offset (r.offset + width_of r.kind)

-- the slot of a relocation clashes with that of an earlier one of its file
abbrev pub clashes : List Reloc → ℕ → Reloc → Bool
clashes relocs index r = list_any (slots_clash r) (take index relocs)

abbrev pub is_nothing : ℤ → Bool
is_nothing z = nat_abs z == 0

-- 0 or more, and at most a size
abbrev pub is_within : ℤ → ℕ → Bool
is_within z size = not (is_negative z) && nat_le (nat_abs z) size

-- the addend of a capability: the first of these cases that fits
unfoldable pub capability_addend : Target → ℤ → Bool
capability_addend t addend =
    if is_fixed t || is_dynamic t then true
    else if is_loose_target t then names_place t addend
    else if not (is_code t.class) && not (t.size == 0) then is_within addend t.size
    else is_nothing addend

-- the addend of any other kind
unfoldable pub other_addend : ℕ → Target → ℤ → Bool
other_addend kind t addend =
    if is_slot_high kind || is_low kind then is_nothing addend
    else if is_transfer kind && is_dynamic t then is_nothing addend
    else if is_loose_target t then names_place t addend
    else true

unfoldable pub addend_passes : ℕ → Target → ℤ → Bool
addend_passes kind t addend =
    if is_capability kind then capability_addend t addend else other_addend kind t addend

-- the checks of a relocation of a file that isn't passed over, in order; it gives the piece of its field
unfoldable pub checked_piece : Named → List Piece → ℕ → ℕ × Reloc → Result ℕ Fault
checked_piece named pieces file p = do
  let object = file_of named.rels file
  let t = target_of named file p.1.symbol
  refuse (not (is_accepted (section_of object p.1.section).class p.1.kind)) RelocationKind p.1.at
  piece ← ok_or (field_piece pieces file p.1.section p.1.offset (width_of p.1.kind)) (fault RelocationOffset p.1.at)
  refuse (refuses_target p.1.kind t) RelocationKind p.1.at
  refuse (clashes object.relocs p.0 p.1) RelocationSlot p.1.at
  refuse (not (addend_passes p.1.kind t p.1.addend)) Addend p.1.at
  Ok piece

-- the steps so far, and that of one more relocation
unfoldable pub record_step : Named → List Piece → ℕ → List Step → ℕ × Reloc → Result (List Step) Fault
record_step named pieces file so_far p =
    if is_passed_over p.1.kind then Ok so_far else do
      piece ← checked_piece named pieces file p
      Ok (so_far ++ record { file = file; index = p.0; piece = piece } ∷ [])

-- the steps so far, and those of one more file
unfoldable pub file_steps : Named → List Piece → List Step → ℕ × RelObject → Result (List Step) Refusal
file_steps named pieces so_far f =
    in_file f.1.number (steps (record_step named pieces f.0) so_far (enumerate_from 0 f.1.relocs))

-- the steps of all relocations, or the first check that fails
unfoldable pub walk_of : Named → List Piece → Result (List Step) Refusal
walk_of named pieces = steps (file_steps named pieces) [] (enumerate_from 0 named.rels)

-- a step is a relocation of an input
abbrev pub IsStep : Named → Step → Type 0
IsStep named s = (s.file < length named.rels) × (s.index < length (file_of named.rels s.file).relocs)

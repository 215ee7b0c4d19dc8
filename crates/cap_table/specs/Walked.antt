-- The relocations of an input that were walked so far, and the fields of their slots.
use Rattle.std.specs.Prelude.{◌≡◌, ℕ, ◌+◌, false, true, List, slice_index_or}
use Rattle.std.specs.List.{list_any}
use Rattle.cap_elf.specs.declared.records.Reloc.{Reloc}
use Rattle.cap_intervals.specs.declared.interval.Interval.{Interval}
use Rattle.cap_intervals.specs.declared.groups.Groups.{Groups}
use Rattle.cap_intervals.specs.Groups.{clashes_in}
use Rattle.cap_table.specs.Kinds.{is_slot, width_of}
use Rattle.cap_table.specs.Checks.{slots_clash, no_reloc}

-- the bytes of the field of a relocation, in its section
abbrev pub field_of : Reloc → Interval
field_of r = record { start = r.offset; end = r.offset + width_of r.kind }

-- the taken intervals, a group for each section, are the fields of the slots among these relocations
abbrev pub AreFieldsOf : Groups → List Reloc → Type 0
AreFieldsOf groups relocs =
    (r : Reloc) → is_slot r.kind ≡ true → clashes_in false groups r.section (field_of r) ≡ list_any (slots_clash r) relocs

-- the relocations of an input, how many of them were walked, and how many sections the input has
pub record WalkedValue : Type 0 where
  pub relocs : List Reloc
  pub done : ℕ
  pub sections : ℕ

-- the relocation that is next
abbrev pub next_of : WalkedValue → Reloc
next_of w = slice_index_or w.relocs w.done no_reloc

-- The slots, stubs and entries of the linked file, one step after another.
use Rattle.std.specs.Prelude.{ℕ, Bool, ◌&&◌, if◌then◌else◌, List}
use Rattle.cap_syms.specs.Distinct.{with_new}
use Rattle.cap_table.specs.declared.gathering.Need.{Need}
use Rattle.cap_table.specs.declared.gathering.Need.TheVariants as need
use Rattle.cap_table.specs.declared.gathering.Entries.{Entries}
use Rattle.cap_table.specs.declared.gathering.Entries.TheVariants as entries
use Rattle.cap_table.specs.declared.target.Target.{Target}
use Rattle.cap_table.specs.declared.target.Step.{Step}
use Rattle.cap_table.specs.Targets.{Named, same_target}
use Rattle.cap_table.specs.Checks.{reloc_of, target_at}
use Rattle.cap_table.specs.Planned.{needs_slot, needs_stub, is_field, is_described, is_relocated}

-- the step needs a slot, or a stub
abbrev pub needs : Need → Named → Step → Bool
needs need.Slot named s = needs_slot named s
needs need.Stub named s = needs_stub named s

-- the targets so far, and that of one more step where it needs one
unfoldable pub with_needed : Need → Named → List Target → Step → List Target
with_needed need named ts s = if needs need named s then with_new same_target ts (target_at named s) else ts

-- a field of this kind has an entry among the relocations, or among the descriptions of capabilities
abbrev pub has_entry : Entries → ℕ → Target → Bool
has_entry entries.Relocated kind t = is_relocated kind t
has_entry entries.Described kind t = is_described kind t

abbrev pub field_has_entry : Entries → Named → Step → Bool
field_has_entry entries named s = is_field named s && has_entry entries (reloc_of named.rels s).kind (target_at named s)

-- The value of a relocation of code or of a number, and its checks (RISC-V ELF psABI, "Relocations"). Values are taken
-- modulo 2 ^ 64.
use Rattle.std.specs.Prelude.{ℕ, ◌+◌, ◌-◌, ◌%◌, ◌^◌, Bool, true, not, ◌&&◌, ◌||◌, ◌==◌, nat_lt, if◌then◌else◌, ℤ, List, find, Option, Some, None, ok_or, unwrap_or, Result, Ok}
use Rattle.std.specs.Option.{option_and_then}
use Rattle.cap_base.specs.Steps.{◌>>=◌, ◌>>◌, refuse, fault}
use Rattle.cap_base.specs.declared.check.Check.TheVariants.{BranchRange, NoPartner}
use Rattle.cap_base.specs.declared.refusal.Fault.{Fault}
use Rattle.cap_elf.specs.declared.records.Place.{Place}
use Rattle.cap_elf.specs.declared.records.Place.TheVariants as places
use Rattle.cap_elf.specs.RelObject.{RelObject, file_of, symbol_of}
use Rattle.cap_layout.specs.Points.{Laid, point_of}
use Rattle.cap_table.specs.declared.target.Target.{Target}
use Rattle.cap_table.specs.declared.target.Step.{Step}
use Rattle.cap_table.specs.Kinds.{is_slot, is_distance, is_call, is_high, is_slot_high, is_low, is_transfer}
use Rattle.cap_table.specs.Targets.{Named, is_fixed, is_dynamic, fixed_value}
use Rattle.cap_table.specs.Checks.{reloc_of, target_at}
use Rattle.cap_table.specs.Lists.{CapTableValue, field_address, slot_in, stub_in}

-- the inputs, the layout and the lists
pub record Scene : Type 0 where
  pub named : Named
  pub laid : Laid
  pub lists : CapTableValue

-- the relocations that change code, and whatever else holds a value that is known here
abbrev pub is_patched : Named → Step → Bool
is_patched named s = not (is_slot (reloc_of named.rels s).kind)

-- how far `to` is from `from`
abbrev pub distance : ℕ → ℕ → ℕ
distance to from = (to + 2 ^ 64 - from) % 2 ^ 64

-- the address that a target and an addend name; a fixed target counts by its value
unfoldable pub aim_at : Scene → Target → ℤ → ℕ
aim_at scene t addend =
    if is_fixed t then fixed_value t addend else unwrap_or (point_of scene.laid t.file t.symbol addend) 0

-- the same for the target of a step and its addend
unfoldable pub aim : Scene → Step → ℕ
aim scene s = aim_at scene (target_at scene.named s) (reloc_of scene.named.rels s).addend

-- a call or branch to what is left to load goes to its stub
unfoldable pub transfer_aim : Scene → Step → ℕ
transfer_aim scene s =
    let t = target_at scene.named s in
    if is_dynamic t then unwrap_or (stub_in scene.lists t.file t.symbol) 0 else aim scene s

-- the slot of the target
abbrev pub slot_aim : Scene → Step → ℕ
slot_aim scene s =
    let t = target_at scene.named s in unwrap_or (slot_in scene.lists t.file t.symbol) 0

abbrev pub place_of_field : Scene → Step → ℕ
place_of_field scene s = field_address scene.named scene.laid s

-- the value of a relocation that is not a low part
unfoldable pub own_value : Scene → Step → ℕ
own_value scene s =
    let kind = (reloc_of scene.named.rels s).kind in
    if is_transfer kind then distance (transfer_aim scene s) (place_of_field scene s)
    else if is_slot_high kind then distance (slot_aim scene s) (place_of_field scene s)
    else if is_high kind || is_distance kind then distance (aim scene s) (place_of_field scene s)
    else aim scene s

-- the high part of this section of a file at this offset
unfoldable pub is_high_at : List RelObject → ℕ → ℕ → ℕ → Step → Bool
is_high_at rels file section offset q =
    q.file == file && (reloc_of rels q).section == section && (is_high (reloc_of rels q).kind || is_slot_high (reloc_of rels q).kind) && (reloc_of rels q).offset == offset

-- the offset of a label that is defined in this section
abbrev pub label_in : Place → ℕ → ℕ → Option ℕ
label_in places.Undefined section value = None
label_in places.Absolute section value = None
label_in places.Common section value = None
label_in (places.Section n) section value = if n == section then Some value else None

-- the label that a low part names
abbrev pub label_of : List RelObject → Step → Option ℕ
label_of rels s =
    let label = symbol_of (file_of rels s.file) (reloc_of rels s).symbol in label_in label.place (reloc_of rels s).section label.value

-- the partner of a low part: the first high part in the same section at its label
unfoldable pub partner_of : List RelObject → List Step → Step → Option Step
partner_of rels steps s =
    option_and_then (λ offset. find (is_high_at rels s.file (reloc_of rels s).section offset) steps) (label_of rels s)

-- the relocation whose value a step takes: a low part that of its partner
unfoldable pub giver_of : Scene → Step → Result Step Fault
giver_of scene s =
    if is_low (reloc_of scene.named.rels s).kind then ok_or (partner_of scene.named.rels scene.lists.plan.steps s) (fault NoPartner (reloc_of scene.named.rels s).at) else Ok s

-- read as a signed number, the value is from -low up to high, without high
abbrev pub is_from_to : ℕ → ℕ → ℕ → Bool
is_from_to low high value = nat_lt ((value + low) % 2 ^ 64) (low + high)

abbrev pub is_odd : ℕ → Bool
is_odd value = value % 2 == 1

abbrev pub is_reached : ℕ → ℕ → Bool
is_reached reach value = not (is_odd value) && is_from_to reach reach value

-- the value fits its field: a branch reaches even distances, a pair of high and low parts 2 ^ 31 with the carry
unfoldable pub value_passes : ℕ → ℕ → Bool
value_passes kind value =
    if kind == 17 then is_reached (2 ^ 20) value
    else if kind == 16 then is_reached 4096 value
    else if kind == 44 then is_reached 256 value
    else if kind == 45 then is_reached 2048 value
    else if is_call kind || is_high kind || is_slot_high kind then is_from_to (2 ^ 31 + 2 ^ 11) (2 ^ 31 - 2 ^ 11) value
    else if is_distance kind then is_from_to (2 ^ 31) (2 ^ 31) value
    else true

-- the value of a relocation, which passes its checks
unfoldable pub checked_value : Scene → Step → Result ℕ Fault
checked_value scene s = do
  giver ← giver_of scene s
  let value = own_value scene giver
  refuse (not (value_passes (reloc_of scene.named.rels s).kind value)) BranchRange (reloc_of scene.named.rels s).at
  Ok value

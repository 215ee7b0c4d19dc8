-- What the slot of a relocation is to hold, or the first check that the relocation fails.
use Rattle.std.specs.Prelude.{ℕ, ◌+◌, ◌-◌, ◌%◌, ◌^◌, Bool, true, false, not, ◌&&◌, ◌||◌, ◌==◌, nat_le, ℤ, pos, negsuc, List, [], ◌++◌, map, filter_map, Option, Some, None, unwrap_or, Result, Ok, Err, slice_index, slice_index_or, if◌then◌else◌}
use Rattle.std.specs.Int.{w64, cast_unsigned}
use Rattle.std.specs.List.{list_any}
use Rattle.cap_base.specs.Steps.{◌>>=◌, ◌>>◌, gather}
use Rattle.cap_base.specs.Lists.{share_byte}
use Rattle.cap_base.specs.declared.check.Check.TheVariants.{RelocationKind, RelocationSlot, SymbolInterval, Addend, CapabilityPermissions}
use Rattle.cap_conc.specs.Computed.{is_exact}
use Rattle.cap_own.specs.Cap.{Cap}
use Rattle.cap_elf.specs.declared.records.Symbol.{Symbol}
use Rattle.cap_elf.specs.declared.records.Place.TheVariants.{Undefined}
use Rattle.cap_elf.specs.declared.records.DynReloc.{DynReloc}
use Rattle.cap_elf.specs.declared.records.CapReloc.{CapReloc}
use Rattle.cap_elf.specs.DynView.{DynRecords}
use Rattle.cap_elf.specs.Exported.{is_defined}
use Rattle.cap_fits.specs.Places.{reading, writing, is_in_code, is_in_writable, data_permissions, code_range, is_absolute, is_function}
use Rattle.cap_scope.specs.declared.choice.Hit.{Hit}
use Rattle.cap_scope.specs.declared.choice.Choice.{Choice}
use Rattle.cap_scope.specs.declared.choice.Choice.TheVariants as choices
use Rattle.cap_scope.specs.declared.choice.Rule.{Rule}
use Rattle.cap_scope.specs.Chosen.{object_at, chosen}
use Rattle.cap_reloc.specs.declared.refusal.RelocRefusal.{RelocRefusal}
use Rattle.cap_reloc.specs.declared.refusal.RelocRefusal.TheVariants.{Unresolved, Inexact}
use Rattle.cap_reloc.specs.declared.target.Target.{Target}
use Rattle.cap_reloc.specs.declared.target.Target.TheVariants.{Definition, Zero, Missing}
use Rattle.cap_reloc.specs.Refusing.{refuse, or_refuse, malformed, unsupported, with_earlier}

-- the loaded objects and where they begin, the one of them that is relocated, and how its names are looked up
pub record Setting : Type 0 where
  pub objects : List DynRecords
  pub bases : List ℕ
  pub index : ℕ
  pub scope : List ℕ
  pub rule : Rule

-- the relocated object, and where it begins
abbrev pub own : Setting → DynRecords
own setting = object_at setting.objects setting.index

abbrev pub bias : Setting → ℕ
bias setting = slice_index setting.bases setting.index

-- an entry of __cap_relocs, or a relocation record
pub data Relocation : Type 0 where
  Entry : CapReloc → Relocation
  Record : DynReloc → Relocation

-- the relocations of an object, in order
abbrev pub relocations_of : DynRecords → List Relocation
relocations_of object = map Entry object.cap_relocs ++ map Record object.relocs

-- what a slot is to hold: 8 bytes of a number; a number and 8 bytes of zeros, untagged; a capability, with the index of
-- its definition's symbol in the owner's table, or 0 for an entry
pub data Content : Type 0 where
  Number : ℕ → Content
  Untagged : ℕ → Content
  Tagged : Cap → ℕ → Content

-- the loaded address of a slot, and what it is to hold
pub record Pair : Type 0 where
  pub slot : ℕ
  pub content : Content

-- how many bytes the slot of a kind has: none of NONE, 8 of 64 and RELATIVE, 16 of JUMP_SLOT and CAPABILITY
abbrev pub width_of_kind : ℕ → ℕ
width_of_kind kind =
    if kind == 2 || kind == 3 then 8 else if kind == 5 || kind == 193 then 16 else 0

abbrev pub is_kind : ℕ → Bool
is_kind kind = kind == 0 || kind == 2 || kind == 3 || kind == 5 || kind == 193

-- the slot of a relocation before the bias: its place and its length
abbrev pub slot_of : Relocation → ℕ × ℕ
slot_of (Entry e) = (e.location, 16)
slot_of (Record r) = (r.slot, width_of_kind r.kind)

-- the slot shares a byte with that of one of these relocations
abbrev pub touches : ℕ × ℕ → List Relocation → Bool
touches slot relocations = list_any (λ r. share_byte slot (slot_of r)) relocations

-- the slot is not in one writable segment, or is long and not aligned, or shares a byte with an earlier one
abbrev pub slot_fails : DynRecords → Bool → ℕ × ℕ → Bool
slot_fails object is_touched slot =
    not (is_in_writable object slot.0 slot.1) || (slot.1 == 16 && not (slot.0 % 16 == 0)) || is_touched

-- a number and a signed addend, modulo 2 ^ 64
abbrev pub plus_signed : ℕ → ℤ → ℕ
plus_signed n addend = (n + cast_unsigned w64 addend) % 2 ^ 64

-- the addend as an offset, where it goes from the begin of an interval of this length to its end at most
abbrev pub offset_in : ℤ → ℕ → Option ℕ
offset_in (pos n) len = if nat_le n len then Some n else None
offset_in (negsuc n) len = None

abbrev pub is_zero : ℤ → Bool
is_zero (pos n) = n == 0
is_zero (negsuc n) = false

abbrev pub no_symbol : Symbol
no_symbol = record { binding = 0; kind = 0; visibility = 0; place = Undefined; value = 0; size = 0; at = 0 }

abbrev pub symbol_at : DynRecords → ℕ → Symbol
symbol_at object i = slice_index_or object.symbols i no_symbol

abbrev pub name_at : DynRecords → ℕ → List ℕ
name_at object i = slice_index_or object.names i []

abbrev pub symbol_of : Setting → Hit → Symbol
symbol_of setting hit = symbol_at (object_at setting.objects hit.object) hit.symbol

-- STB_LOCAL, STB_WEAK
abbrev pub is_local : Symbol → Bool
is_local s = s.binding == 0

abbrev pub is_weak : Symbol → Bool
is_weak s = s.binding == 2

-- STT_SECTION, STT_FILE and STT_COMMON: a symbol that stands for no data of its own
abbrev pub is_no_place : Symbol → Bool
is_no_place s = nat_le 3 s.kind && nat_le s.kind 5

-- gABI, "Symbol Table": a symbol that is defined here, and is LOCAL or of a visibility other than DEFAULT, is the one
-- that a reference through it means
abbrev pub is_own : Symbol → Bool
is_own s = is_defined s.place && (is_local s || not (s.visibility == 0))

abbrev pub target_by : Symbol → Choice → Target
target_by s (choices.Strong hit) = Definition hit
target_by s (choices.Weak hit) = Definition hit
target_by s choices.None = if is_weak s then Zero else Missing

-- the meaning of a reference through a symbol of the relocated object
unfoldable pub target_of : Setting → ℕ → Target
target_of setting i =
    let s = symbol_at (own setting) i in
    if i == 0 then Zero else
    if is_own s then Definition (record { object = setting.index; symbol = i }) else
    if is_local s then Zero else
    target_by s (chosen setting.rule setting.objects setting.scope (name_at (own setting) i))

-- the address of a definition, which has 64 bits, or the value of an absolute one
abbrev pub value_of : Setting → Hit → ℕ
value_of setting hit =
    let s = symbol_of setting hit in
    if is_absolute s.place then s.value else (slice_index setting.bases hit.object + s.value) % 2 ^ 64

-- the value of a target
abbrev pub number_for : Setting → ℕ → Target → Result ℕ RelocRefusal
number_for setting i (Definition hit) = Ok (value_of setting hit)
number_for setting i Zero = Ok 0
number_for setting i Missing = Err (Unresolved i)

-- the sentry of a range of code of an object that begins at this base, with its cursor there
abbrev pub code_cap : ℕ → ℕ → ℕ × ℕ → ℕ → Cap
code_cap base owner code at =
    record { base = base + code.0; len = code.1 - code.0; cursor = base + at; perms = 0x17; flag = true; sealed = true; owner = owner }

-- the capability of a function of an object
abbrev pub function_cap : DynRecords → ℕ → ℕ → ℕ → Cap
function_cap object base owner at = code_cap base owner (unwrap_or (code_range object) (0, 0)) at

abbrev pub data_cap : ℕ → ℕ → ℕ → ℕ → ℕ → ℕ → Cap
data_cap base owner at len offset perms =
    record { base = base + at; len = len; cursor = base + at + offset; perms = perms; flag = false; sealed = false; owner = owner }

-- the capability, where its bounds are exact
unfoldable pub exact_cap : Option Hit → ℕ → Cap → Result Content RelocRefusal
exact_cap hit note c = do
  refuse (not (is_exact c.base c.len)) (Inexact hit c.base c.len)
  Ok (Tagged c note)

-- the capability of a function, for a record at this place of the file
unfoldable pub function_content : Setting → Hit → ℤ → ℕ → Result Content RelocRefusal
function_content setting hit addend at = do
  let object = object_at setting.objects hit.object
  let s = symbol_of setting hit
  refuse (not (is_in_code object s.value)) (malformed SymbolInterval at)
  refuse (not (is_zero addend)) (malformed Addend at)
  exact_cap (Some hit) hit.symbol (function_cap object (slice_index setting.bases hit.object) hit.object s.value)

-- the capability of data
unfoldable pub data_content : Setting → Hit → ℤ → ℕ → Result Content RelocRefusal
data_content setting hit addend at = do
  let object = object_at setting.objects hit.object
  let s = symbol_of setting hit
  refuse (is_no_place s) (malformed SymbolInterval at)
  perms ← or_refuse (data_permissions object s.value s.size) (malformed SymbolInterval at)
  offset ← or_refuse (offset_in addend s.size) (malformed Addend at)
  exact_cap (Some hit) hit.symbol (data_cap (slice_index setting.bases hit.object) hit.object s.value s.size offset perms)

unfoldable pub definition_content : Setting → Hit → ℤ → ℕ → Result Content RelocRefusal
definition_content setting hit addend at =
    let s = symbol_of setting hit in
    if is_absolute s.place then Ok (Untagged (plus_signed s.value addend)) else
    if is_function s then function_content setting hit addend at else data_content setting hit addend at

-- the 16 bytes of a target
unfoldable pub capability_for : Setting → DynReloc → Target → Result Content RelocRefusal
capability_for setting r (Definition hit) = definition_content setting hit r.addend r.at
capability_for setting r Zero = Ok (Untagged (plus_signed 0 r.addend))
capability_for setting r Missing = Err (Unresolved r.symbol)

-- what a record of an accepted kind other than NONE holds, once its slot is accepted
unfoldable pub record_content : Setting → DynReloc → Result Content RelocRefusal
record_content setting r =
    if r.kind == 3 then Ok (Number (plus_signed (bias setting) r.addend)) else
    if r.kind == 2 then (number_for setting r.symbol (target_of setting r.symbol) >>= λ n. Ok (Number (plus_signed n r.addend))) else
    capability_for setting r (target_of setting r.symbol)

-- what an entry holds that describes a function
unfoldable pub entry_function : Setting → CapReloc → Result Content RelocRefusal
entry_function setting e = do
  refuse (not (is_in_code (own setting) e.object)) (malformed SymbolInterval e.at)
  refuse (not (e.offset == 0)) (malformed Addend e.at)
  exact_cap None 0 (function_cap (own setting) (bias setting) setting.index e.object)

-- what an entry holds that describes data, for reading alone or for writing too
unfoldable pub entry_data : Setting → CapReloc → Bool → Result Content RelocRefusal
entry_data setting e for_reading = do
  perms ← or_refuse (data_permissions (own setting) e.object e.size) (malformed SymbolInterval e.at)
  refuse (not for_reading && not (perms == writing)) (malformed CapabilityPermissions e.at)
  refuse (not (nat_le e.offset e.size)) (malformed Addend e.at)
  exact_cap None 0 (data_cap (bias setting) setting.index e.object e.size e.offset (if for_reading then reading else writing))

-- what an entry holds, once its slot is accepted
unfoldable pub entry_content : Setting → CapReloc → Result Content RelocRefusal
entry_content setting e =
    if e.permissions == 2 ^ 63 then entry_function setting e else
    if e.permissions == 2 ^ 62 then entry_data setting e true else
    if e.permissions == 0 then entry_data setting e false else Err (malformed CapabilityPermissions e.at)

abbrev pub pair_at : Setting → ℕ → Content → Pair
pair_at setting slot content = record { slot = bias setting + slot; content = content }

-- the pair of an entry, or its refusal, where it is known whether its slot shares a byte with an earlier one
unfoldable pub entry_pair : Setting → Bool → CapReloc → Result Pair RelocRefusal
entry_pair setting is_touched e = do
  refuse (slot_fails (own setting) is_touched (e.location, 16)) (malformed RelocationSlot e.at)
  content ← entry_content setting e
  Ok (pair_at setting e.location content)

-- that pair, as every relocation may have one
abbrev pub wanted_entry : Setting → Bool → CapReloc → Result (Option Pair) RelocRefusal
wanted_entry setting is_touched e = entry_pair setting is_touched e >>= λ pair. Ok (Some pair)

-- the same of a record of an accepted kind other than NONE
unfoldable pub slot_pair : Setting → Bool → DynReloc → Result Pair RelocRefusal
slot_pair setting is_touched r = do
  refuse (slot_fails (own setting) is_touched (r.slot, width_of_kind r.kind)) (malformed RelocationSlot r.at)
  content ← record_content setting r
  Ok (pair_at setting r.slot content)

-- the same of any record; one of the kind NONE has no pair
unfoldable pub record_pair : Setting → Bool → DynReloc → Result (Option Pair) RelocRefusal
record_pair setting is_touched r = do
  refuse (not (is_kind r.kind)) (unsupported RelocationKind r.at)
  if r.kind == 0 then Ok None else (slot_pair setting is_touched r >>= λ pair. Ok (Some pair))

-- the pair of a relocation, where it has one, or its refusal; the relocations before it are given too
abbrev pub wanted : Setting → List Relocation → Relocation → Result (Option Pair) RelocRefusal
wanted setting earlier (Entry e) = wanted_entry setting (touches (slot_of (Entry e)) earlier) e
wanted setting earlier (Record r) = record_pair setting (touches (slot_of (Record r)) earlier) r

-- the pairs of the relocated object in order, or the first refusal
abbrev pub wanted_pairs : Setting → Result (List Pair) RelocRefusal
wanted_pairs setting = do
  pairs ← gather (λ x. wanted setting x.0 x.1) (with_earlier (relocations_of (own setting)))
  Ok (filter_map (λ p. p) pairs)

-- What a relocation means: the mapped definition that it names, and its capability; or a number.
use Rattle.std.specs.Prelude.{◌≡◌, ℕ, ◌+◌, ◌^◌, ◌==◌, ℤ, Bool, List, filter, nat_lt, Option, Some, None, option_map, unwrap_or, slice_index, if◌then◌else◌, Ok}
use Rattle.std.specs.List.{AllZip}
use Rattle.cap_own.specs.Cap.{Cap}
use Rattle.cap_elf.specs.declared.records.DynReloc.{DynReloc}
use Rattle.cap_elf.specs.declared.records.CapReloc.{CapReloc}
use Rattle.cap_fits.specs.Places.{reading, writing, data_permissions, is_absolute, is_function}
use Rattle.cap_scope.specs.declared.choice.Hit.{Hit}
use Rattle.cap_scope.specs.declared.choice.Choice.{Choice}
use Rattle.cap_scope.specs.declared.choice.Choice.TheVariants as choices
use Rattle.cap_scope.specs.Chosen.{object_at, chosen}
use Rattle.cap_reloc.specs.Wanted.{Setting, Relocation, Entry, Record, Content, Number, Untagged, Tagged, Pair, own, bias, relocations_of, slot_of, width_of_kind, plus_signed, offset_in, symbol_at, name_at, symbol_of, is_local, is_own, value_of, function_cap, data_cap, wanted_pairs}

abbrev pub hit_of : Choice → Option Hit
hit_of (choices.Strong hit) = Some hit
hit_of (choices.Weak hit) = Some hit
hit_of choices.None = None

-- the definition that a reference through a symbol means: none for symbol 0; the symbol itself, where it is defined here and
-- is LOCAL or not DEFAULT; none for other LOCAL ones; else the one that is chosen for its name in the scope
abbrev pub meant : Setting → ℕ → Option Hit
meant s i =
    if i == 0 then None else
    if is_own (symbol_at (own s) i) then Some (record { object = s.index; symbol = i }) else
    if is_local (symbol_at (own s) i) then None else hit_of (chosen s.rule s.objects s.scope (name_at (own s) i))

-- the capability of a definition: of a function, or of its interval with the rights of its place and the addend as offset
abbrev pub definition_cap : Setting → ℤ → Hit → Cap
definition_cap s addend hit =
    let d = symbol_of s hit in
    let object = object_at s.objects hit.object in
    let base = slice_index s.bases hit.object in
    if is_function d then function_cap object base hit.object d.value
    else data_cap base hit.object d.value d.size (unwrap_or (offset_in addend d.size) 0) (unwrap_or (data_permissions object d.value d.size) 0)

-- the same of a definition that is mapped: an absolute one is not
abbrev pub mapped_cap : Setting → ℤ → Option Hit → Option Cap
mapped_cap s addend None = None
mapped_cap s addend (Some hit) = if is_absolute (symbol_of s hit).place then None else Some (definition_cap s addend hit)

-- an entry of __cap_relocs describes a function or an interval of its own object
abbrev pub entry_cap : Setting → CapReloc → Cap
entry_cap s e =
    if e.permissions == 2 ^ 63 then function_cap (own s) (bias s) s.index e.object
    else data_cap (bias s) s.index e.object e.size e.offset (if e.permissions == 2 ^ 62 then reading else writing)

-- the capability that a relocation names: an entry has one; a JUMP_SLOT and a CAPABILITY, whose slots have 16 bytes, have that
-- of the mapped definition that is meant; others have none
abbrev pub named_cap : Setting → Relocation → Option Cap
named_cap s (Entry e) = Some (entry_cap s e)
named_cap s (Record r) = if width_of_kind r.kind == 16 then mapped_cap s r.addend (meant s r.symbol) else None

-- the number of any other slot: the base of the object, for RELATIVE (3), or the value that is meant, or 0; plus the addend
abbrev pub named_number : Setting → Relocation → ℕ
named_number s (Entry e) = 0
named_number s (Record r) = plus_signed (if r.kind == 3 then bias s else unwrap_or (option_map (value_of s) (meant s r.symbol)) 0) r.addend

abbrev pub number_content : ℕ → ℕ → Content
number_content width n = if width == 16 then Untagged n else Number n

-- what the slot of a relocation holds, with a note for a capability
abbrev pub content_or : Option Cap → ℕ → ℕ → ℕ → Content
content_or None width n note = number_content width n
content_or (Some c) width n note = Tagged c note

abbrev pub meant_content : Setting → Relocation → ℕ → Content
meant_content s r note = content_or (named_cap s r) (slot_of r).1 (named_number s r) note

-- the pair of a relocation
pub record IsPairOf (s : Setting) (r : Relocation) (p : Pair) : Type 0 where
  pub note : ℕ
  pub slot : p.slot ≡ bias s + (slot_of r).0
  pub content : p.content ≡ meant_content s r note

-- a relocation has a slot unless it is of the kind NONE
abbrev pub has_slot : Relocation → Bool
has_slot r = nat_lt 0 (slot_of r).1

-- what is wanted of an object is what its relocations mean, one pair for each that has a slot, in their order
abbrev pub WantedIsMeant : Type 0
WantedIsMeant =
    (setting : Setting) (pairs : List Pair) → wanted_pairs setting ≡ Ok pairs → AllZip (IsPairOf setting) (filter has_slot (relocations_of (own setting))) pairs

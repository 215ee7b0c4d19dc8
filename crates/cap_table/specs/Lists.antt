-- The lists of the linked file: descriptions of capabilities, relocations, symbols, and the dynamic table.
use Rattle.std.specs.Prelude.{◌≡◌, ℕ, ◌+◌, ◌-◌, ◌*◌, ◌^◌, ◌&&◌, ◌==◌, if◌then◌else◌, ℤ, pos, nat_abs, List, [], ◌∷◌, ◌++◌, map, filter, length, position, take, drop, option_to_list, Option, Some, None, unwrap_or}
use Rattle.std.specs.Int.{cast_signed, w64}
use Rattle.std.specs.List.{enumerate_from}
use Rattle.std.specs.Option.{option_map, option_map_or}
use Rattle.cap_elf.specs.declared.records.Class.{Class}
use Rattle.cap_elf.specs.declared.records.Class.TheVariants.{Data, Bss}
use Rattle.cap_elf.specs.declared.records.CapReloc.{CapReloc}
use Rattle.cap_elf.specs.declared.records.DynReloc.{DynReloc}
use Rattle.cap_elf.specs.declared.records.Place.{Place}
use Rattle.cap_elf.specs.declared.records.Place.TheVariants as places
use Rattle.cap_elf.specs.Classes.{is_code, same_class}
use Rattle.cap_syms.specs.Decisions.{is_present, is_merged, is_weakly_absent}
use Rattle.cap_syms.specs.Resolved.{Resolved, row_of}
use Rattle.cap_layout.specs.declared.parts.Parts.{Parts}
use Rattle.cap_layout.specs.Pieces.{piece_at, piece_of}
use Rattle.cap_layout.specs.Points.{Laid, place_address, point_of, interval_of, offset_of, address_of}
use Rattle.cap_layout.specs.Laid.{IsLayoutOf}
use Rattle.cap_table.specs.declared.records.DynEntry.{DynEntry}
use Rattle.cap_table.specs.declared.target.Target.{Target}
use Rattle.cap_table.specs.declared.target.Step.{Step}
use Rattle.cap_table.specs.declared.describing.Described.{Described}
use Rattle.cap_table.specs.Targets.{Named, row_target, is_dynamic, is_loose_target, is_absolute_at}
use Rattle.cap_table.specs.Checks.{reloc_of, target_at}
use Rattle.cap_table.specs.Planned.{Planned, all_names, symbol_names, name_bytes, tags_of, fields_of, is_described, is_relocated, IsPlanOf}

-- a field of the linked file that wants a value: its type of relocation, its address, and what it refers to
pub record Want : Type 0 where
  pub kind : ℕ
  pub address : ℕ
  pub target : Target
  pub addend : ℤ

-- each slot of the capability table, in order
abbrev pub slot_want : Laid → ℕ × Target → Want
slot_want laid p = record { kind = 193; address = laid.parts.slots_at + 16 * p.0; target = p.1; addend = pos 0 }

abbrev pub slot_wants : Planned → Laid → List Want
slot_wants plan laid = map (slot_want laid) (enumerate_from 0 plan.slots)

-- each field, in order of the walk
abbrev pub field_address : Named → Laid → Step → ℕ
field_address named laid s =
    unwrap_or (place_address laid s.file (reloc_of named.rels s).section (reloc_of named.rels s).offset) 0

abbrev pub field_want : Named → Laid → Step → Want
field_want named laid s = record {
  kind = (reloc_of named.rels s).kind;
  address = field_address named laid s;
  target = target_at named s;
  addend = (reloc_of named.rels s).addend;
}

abbrev pub field_wants : Named → Planned → Laid → List Want
field_wants named plan laid = map (field_want named laid) (fields_of named plan.steps)

abbrev pub wants : Named → Planned → Laid → List Want
wants named plan laid = slot_wants plan laid ++ field_wants named plan laid

-- the permissions of a description: code, read-only data, and other data

abbrev pub permissions_of : Class → ℕ
permissions_of class =
    if is_code class then 2 ^ 63 else if same_class class Data then 0 else if same_class class Bss then 0 else 2 ^ 62

abbrev pub nothing_described : Described
nothing_described = record { object = 0; offset = 0; size = 0 }

-- the piece at a place of a section, and how far the place is from the piece's start
abbrev pub piece_described : Laid → ℕ → ℕ → Described
piece_described laid offset i = record {
  object = address_of laid i;
  offset = offset - (piece_of laid.pieces.all i).start;
  size = (piece_of laid.pieces.all i).padded;
}

abbrev pub section_number : Place → ℕ
section_number places.Undefined = 0
section_number places.Absolute = 0
section_number places.Common = 0
section_number (places.Section n) = n

abbrev pub loose_described : Laid → ℕ → ℕ → ℕ → Described
loose_described laid file section offset =
    option_map_or (piece_described laid offset) (piece_at laid.pieces.all file section offset) nothing_described

-- the interval of a symbol, and the addend in it
abbrev pub interval_described : Laid → ℕ → ℕ → ℤ → Described
interval_described laid file symbol addend =
    option_map_or (λ i. record { object = i.0; offset = nat_abs addend; size = i.1 }) (interval_of laid file symbol) nothing_described

unfoldable pub described : Laid → Target → ℤ → Described
described laid t addend =
    if is_loose_target t then option_map_or (loose_described laid t.file (section_number t.as_is.place)) (offset_of t.as_is.value addend) nothing_described
    else interval_described laid t.file t.symbol addend

unfoldable pub cap_reloc_of : Laid → Want → CapReloc
cap_reloc_of laid w =
    let d = described laid w.target w.addend in
    record { location = w.address; object = d.object; offset = d.offset; size = d.size; permissions = permissions_of w.target.class; at = 0 }

abbrev pub cap_relocs_of : Laid → List Want → List CapReloc
cap_relocs_of laid wants = map (cap_reloc_of laid) (filter (λ w. is_described w.kind w.target) wants)

-- the index of the linked file's symbol of a row; 0 where there is none
abbrev pub symbol_index : List ℕ → Option ℕ → ℕ
symbol_index rows None = 0
symbol_index rows (Some row) = option_map_or (λ i. i + 1) (position (λ r. r == row) rows) 0

-- what is left to load keeps its kind; an address is counted from where the file is loaded (R_RISCV_RELATIVE)
unfoldable pub dyn_reloc_of : List ℕ → Laid → Want → DynReloc
dyn_reloc_of rows laid w =
    if is_dynamic w.target then record { slot = w.address; kind = w.kind; symbol = symbol_index rows w.target.row; addend = w.addend; at = 0 }
    else record { slot = w.address; kind = 3; symbol = 0; addend = cast_signed w64 (unwrap_or (point_of laid w.target.file w.target.symbol w.addend) 0); at = 0 }

abbrev pub relas_of : List ℕ → Laid → List Want → List DynReloc
relas_of rows laid wants = map (dyn_reloc_of rows laid) (filter (λ w. is_relocated w.kind w.target) wants)

-- a symbol of the linked file, with its name
pub record DynSymbolValue : Type 0 where
  pub name : List ℕ
  pub binding : ℕ
  pub kind : ℕ
  pub visibility : ℕ
  pub section : ℕ
  pub value : ℕ
  pub size : ℕ

-- one that is there: a function where it stands in code, else an object
unfoldable pub present_symbol : Laid → Resolved → Target → DynSymbolValue
present_symbol laid r t =
    let absolute = is_absolute_at t.as_is.place in
    let interval = unwrap_or (interval_of laid t.file t.symbol) (0, 0) in
    record {
      name = r.name;
      binding = if is_merged r.entry.shape then 1 else t.as_is.binding;
      kind = if is_code t.class then 2 else 1;
      visibility = r.entry.visibility;
      section = if absolute then 0xfff1 else 1;
      value = if absolute then t.as_is.value else interval.0;
      size = if absolute then t.as_is.size else interval.1;
    }

-- one that is left to load
unfoldable pub absent_symbol : Resolved → DynSymbolValue
absent_symbol r = record {
  name = r.name;
  binding = if is_weakly_absent r.entry.shape then 2 else 1;
  kind = 0;
  visibility = 0;
  section = 0;
  value = 0;
  size = 0;
}

abbrev pub dyn_symbol : Named → Laid → ℕ → DynSymbolValue
dyn_symbol named laid row =
    if is_present (row_of named.table row).entry.shape then present_symbol laid (row_of named.table row) (row_target named row)
    else absent_symbol (row_of named.table row)

abbrev pub null_dyn_symbol : DynSymbolValue
null_dyn_symbol = record { name = []; binding = 0; kind = 0; visibility = 0; section = 0; value = 0; size = 0 }

abbrev pub symbols_of : Named → List ℕ → Laid → List DynSymbolValue
symbols_of named rows laid = null_dyn_symbol ∷ map (dyn_symbol named laid) rows

-- where each name begins, the first at `at`, with a zero byte behind each
abbrev pub name_offsets : ℕ → List (List ℕ) → List ℕ
name_offsets at [] = []
name_offsets at (name ∷ names) = at ∷ name_offsets (at + length name + 1) names

-- the values of the dynamic table's entries, by their tags
unfoldable pub tag_value : Planned → Parts → ℕ → ℕ
tag_value plan at tag =
    if tag == 4 then at.hash_at
    else if tag == 5 then at.names_at
    else if tag == 6 then at.symbols_at
    else if tag == 10 then plan.sizes.names
    else if tag == 11 then 24
    else if tag == 7 then at.relas_at
    else if tag == 8 then 24 * plan.sizes.relas
    else if tag == 9 then 24
    else if tag == 0x7000c000 then at.cap_relocs_at
    else if tag == 0x7000c001 then 40 * plan.sizes.cap_relocs
    else if tag == 25 then at.init_at
    else if tag == 27 then at.init_size
    else if tag == 26 then at.fini_at
    else if tag == 28 then at.fini_size
    else 0

abbrev pub tag_entry : Planned → Parts → ℕ → DynEntry
tag_entry plan at tag = record { tag = tag; value = tag_value plan at tag }

abbrev pub entries_with : ℕ → List ℕ → List DynEntry
entries_with tag values = map (λ value. record { tag = tag; value = value }) values

-- DT_NEEDED of each needed name, DT_SONAME, and the tables. `offsets` are those of all names, the symbols' first
abbrev pub dynamics_of : Planned → List ℕ → Parts → List DynEntry
dynamics_of plan offsets at =
    let own = drop (length plan.symbols) offsets in
    let sonames = length (option_to_list plan.soname) in
    entries_with 1 (drop sonames own) ++ entries_with 14 (take sonames own) ++ map (tag_entry plan at) (tags_of plan)

-- the place of a symbol among targets
abbrev pub index_in : List Target → ℕ → ℕ → Option ℕ
index_in targets file symbol = position (λ t. t.file == file && t.symbol == symbol) targets

-- the lists as they stand in the linked file. `offsets` are where the names of its symbols begin
pub record CapTableValue : Type 0 where
  pub plan : Planned
  pub cap_relocs : List CapReloc
  pub relas : List DynReloc
  pub symbols : List DynSymbolValue
  pub offsets : List ℕ
  pub dynamics : List DynEntry
  pub names : List ℕ
  pub slots_at : ℕ
  pub stubs_at : ℕ

abbrev pub linked_names : Named → Planned → List (List ℕ)
linked_names named plan = all_names (symbol_names named.table plan.symbols) plan.soname plan.needed

unfoldable pub filled : Named → Planned → Laid → CapTableValue
filled named plan laid =
    let ws = wants named plan laid in
    let names = linked_names named plan in
    record {
      plan = plan;
      cap_relocs = cap_relocs_of laid ws;
      relas = relas_of plan.symbols laid ws;
      symbols = symbols_of named plan.symbols laid;
      offsets = 0 ∷ take (length plan.symbols) (name_offsets 1 names);
      dynamics = dynamics_of plan (name_offsets 1 names) laid.parts;
      names = name_bytes names;
      slots_at = laid.parts.slots_at;
      stubs_at = laid.parts.stubs_at;
    }

-- the address of the slot of a target, and of its stub
abbrev pub slot_in : CapTableValue → ℕ → ℕ → Option ℕ
slot_in lists file symbol = option_map (λ k. lists.slots_at + 16 * k) (index_in lists.plan.slots file symbol)

abbrev pub stub_in : CapTableValue → ℕ → ℕ → Option ℕ
stub_in lists file symbol = option_map (λ k. lists.stubs_at + 16 * k) (index_in lists.plan.stubs file symbol)

-- the lists are those of these inputs and this layout, and the layout is that of the plan
pub record AreListsOf (named : Named) (laid : Laid) (lists : CapTableValue) : Type 0 where
  pub plan : IsPlanOf named laid.pieces.all lists.plan
  pub layout : IsLayoutOf named.rels laid.pieces lists.plan.sizes laid
  pub filled_as : lists ≡ filled named lists.plan laid

-- The plan: the slots of the capability table, the stubs, the symbols and the names of the linked file.
use Rattle.std.specs.Prelude.{◌≡◌, ℕ, ◌+◌, ◌^◌, Bool, not, ◌&&◌, ◌||◌, ◌==◌, nat_lt, if◌then◌else◌, List, [], ◌∷◌, ◌++◌, map, filter, length, Option, option_to_list, Result, Ok}
use Rattle.std.specs.List.{enumerate_from}
use Rattle.cap_base.specs.Steps.{◌>>=◌, ◌>>◌, refuse, in_file}
use Rattle.cap_base.specs.declared.check.Check.TheVariants.{SymbolCount, RelocationCount}
use Rattle.cap_base.specs.declared.refusal.Refusal.{Refusal}
use Rattle.cap_elf.specs.declared.records.Class.TheVariants.{Init, Fini}
use Rattle.cap_syms.specs.Distinct.{distinct}
use Rattle.cap_syms.specs.Decisions.{is_present, is_default}
use Rattle.cap_syms.specs.Resolved.{Resolved, row_of}
use Rattle.cap_layout.specs.declared.piece.Piece.{Piece}
use Rattle.cap_layout.specs.declared.parts.Sizes.{Sizes}
use Rattle.cap_layout.specs.Places.{of_class}
use Rattle.cap_layout.specs.Parts.{has_bytes}
use Rattle.cap_table.specs.declared.target.Target.{Target}
use Rattle.cap_table.specs.declared.target.Step.{Step}
use Rattle.cap_table.specs.Kinds.{is_capability, is_word, is_slot, is_slot_high, is_transfer}
use Rattle.cap_table.specs.Targets.{Named, same_target, is_dynamic, is_address, is_left_to_load}
use Rattle.cap_table.specs.Checks.{reloc_of, target_at, walk_of}

-- a call or branch to what is left to load goes through a stub, and the stub reads a slot
abbrev pub needs_stub : Named → Step → Bool
needs_stub named s = is_transfer (reloc_of named.rels s).kind && is_dynamic (target_at named s)

abbrev pub needs_slot : Named → Step → Bool
needs_slot named s = is_slot_high (reloc_of named.rels s).kind || needs_stub named s

-- one slot for each symbol, and one stub for each, in order of the walk
abbrev pub slots_of : Named → List Step → List Target
slots_of named steps = distinct same_target (map (target_at named) (filter (needs_slot named) steps))

abbrev pub stubs_of : Named → List Step → List Target
stubs_of named steps = distinct same_target (map (target_at named) (filter (needs_stub named) steps))

-- the fields that are relocated when the file is loaded, or hold a fixed value
abbrev pub is_field : Named → Step → Bool
is_field named s = is_slot (reloc_of named.rels s).kind

abbrev pub fields_of : Named → List Step → List Step
fields_of named steps = filter (is_field named) steps

-- a name is a symbol of the linked file where it is there and visible (STV_DEFAULT, STV_PROTECTED), or is left to load
abbrev pub is_exported : Resolved → Bool
is_exported r =
    if is_present r.entry.shape then is_default r.entry.visibility || r.entry.visibility == 3 else is_left_to_load r.bound

-- the rows of these names
abbrev pub exported : List Resolved → List ℕ
exported table = map (λ p. p.0) (filter (λ p. is_exported p.1) (enumerate_from 0 table))

-- a capability to an address is described in the file; an address as a number, and what is left to load, is a relocation
abbrev pub is_described : ℕ → Target → Bool
is_described kind t = is_capability kind && is_address t

abbrev pub is_relocated : ℕ → Target → Bool
is_relocated kind t = is_dynamic t || (is_word kind && is_address t)

abbrev pub count : {X : Type 0} → (X → Bool) → List X → ℕ
count p xs = length (filter p xs)

abbrev pub rela_count : Named → List Target → List Step → ℕ
rela_count named slots steps =
    count (is_relocated 193) slots + count (λ s. is_relocated (reloc_of named.rels s).kind (target_at named s)) (fields_of named steps)

abbrev pub cap_reloc_count : Named → List Target → List Step → ℕ
cap_reloc_count named slots steps =
    count (is_described 193) slots + count (λ s. is_described (reloc_of named.rels s).kind (target_at named s)) (fields_of named steps)

-- the names of the linked file: of its symbols, its own, and those of the files that it needs
abbrev pub symbol_names : List Resolved → List ℕ → List (List ℕ)
symbol_names table rows = map (λ row. (row_of table row).name) rows

abbrev pub all_names : List (List ℕ) → Option (List ℕ) → List (List ℕ) → List (List ℕ)
all_names symbols soname needed = symbols ++ option_to_list soname ++ needed

-- a zero byte, and then each name with a zero byte behind it (gABI, "String Table")
abbrev pub terminated : List (List ℕ) → List ℕ
terminated [] = []
terminated (name ∷ names) = name ++ 0 ∷ [] ++ terminated names

abbrev pub name_bytes : List (List ℕ) → List ℕ
name_bytes names = 0 ∷ terminated names

-- the tags of the dynamic table behind the needed names and the own name: DT_HASH, DT_STRTAB, DT_SYMTAB, DT_STRSZ,
-- DT_SYMENT; DT_RELA, DT_RELASZ, DT_RELAENT; those of `__cap_relocs`; DT_INIT_ARRAY, DT_INIT_ARRAYSZ; DT_FINI_ARRAY,
-- DT_FINI_ARRAYSZ; DT_NULL
abbrev pub tags_if : Bool → List ℕ → List ℕ
tags_if b tags = if b then tags else []

abbrev pub table_tags : Bool → Bool → Bool → Bool → List ℕ
table_tags has_relas has_cap_relocs has_init has_fini =
    (4 ∷ 5 ∷ 6 ∷ 10 ∷ 11 ∷ [])
    ++ tags_if has_relas (7 ∷ 8 ∷ 9 ∷ [])
    ++ tags_if has_cap_relocs (0x7000c000 ∷ 0x7000c001 ∷ [])
    ++ tags_if has_init (25 ∷ 27 ∷ [])
    ++ tags_if has_fini (26 ∷ 28 ∷ [])
    ++ (0 ∷ [])

-- what the plan holds. `symbols` are the rows of the linked file's symbols
pub record Planned : Type 0 where
  pub steps : List Step
  pub slots : List Target
  pub stubs : List Target
  pub symbols : List ℕ
  pub needed : List (List ℕ)
  pub soname : Option (List ℕ)
  pub has_init : Bool
  pub has_fini : Bool
  pub sizes : Sizes

abbrev pub tags_of : Planned → List ℕ
tags_of plan = table_tags (not (plan.sizes.relas == 0)) (not (plan.sizes.cap_relocs == 0)) plan.has_init plan.has_fini

-- how many records each table has, and how many bytes the names
unfoldable pub sizes_of : Named → List Piece → List (List ℕ) → Option (List ℕ) → List Step → Sizes
sizes_of named pieces needed soname steps =
    let slots = slots_of named steps in
    let symbols = exported named.table in
    let relas = rela_count named slots steps in
    let cap_relocs = cap_reloc_count named slots steps in
    record {
      symbols = 1 + length symbols;
      relas = relas;
      cap_relocs = cap_relocs;
      names = length (name_bytes (all_names (symbol_names named.table symbols) soname needed));
      slots = length slots;
      stubs = length (stubs_of named steps);
      dynamics = length needed + length (option_to_list soname) + length (table_tags (not (relas == 0)) (not (cap_relocs == 0)) (has_bytes (of_class Init pieces)) (has_bytes (of_class Fini pieces)));
    }

unfoldable pub planned : Named → List Piece → List (List ℕ) → Option (List ℕ) → List Step → Planned
planned named pieces needed soname steps = record {
  steps = steps;
  slots = slots_of named steps;
  stubs = stubs_of named steps;
  symbols = exported named.table;
  needed = needed;
  soname = soname;
  has_init = has_bytes (of_class Init pieces);
  has_fini = has_bytes (of_class Fini pieces);
  sizes = sizes_of named pieces needed soname steps;
}

-- the plan, or the first check that fails: of the relocations in order, and then of the counts
unfoldable pub plan_of : Named → List Piece → List (List ℕ) → Option (List ℕ) → Result Planned Refusal
plan_of named pieces needed soname = do
  steps ← walk_of named pieces
  let plan = planned named pieces needed soname steps
  in_file 0 (refuse (nat_lt (2 ^ 20) plan.sizes.symbols) SymbolCount 0)
  in_file 0 (refuse (nat_lt (2 ^ 20) (plan.sizes.relas + plan.sizes.cap_relocs)) RelocationCount 0)
  Ok plan

-- the plan is the one of these inputs, for some needed names and some own name
abbrev pub IsPlanOf : Named → List Piece → Planned → Type 0
IsPlanOf named pieces plan =
    (needed : List (List ℕ)) × (soname : Option (List ℕ)) × (plan_of named pieces needed soname ≡ Ok plan)

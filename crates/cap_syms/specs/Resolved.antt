-- The names of the relocatable inputs in order of first appearance, each with the decision on it; or why there is none
-- (gABI, "Symbol Table"). The merging of common symbols is this project's own.
use Rattle.std.specs.Prelude.{◌≡◌, ℕ, Bool, ◌&&◌, ◌||◌, ◌==◌, not, if◌then◌else◌, List, [], ◌∷◌, map, zip, position, slice_index_or, Option, Result, Ok, Err}
use Rattle.std.specs.List.{list_any}
use Rattle.std.specs.Str.{bytes_eq}
use Rattle.cap_base.specs.Refusal.{refusal_of}
use Rattle.cap_base.specs.Steps.{◌>>◌, each, fault}
use Rattle.cap_base.specs.declared.check.Check.TheVariants.{DuplicateDefinition}
use Rattle.cap_base.specs.declared.refusal.Refusal.{Refusal}
use Rattle.cap_base.specs.declared.refusal.Refusal.TheVariants as refusals
use Rattle.cap_elf.specs.declared.records.Symbol.{Symbol}
use Rattle.cap_elf.specs.RelObject.{RelObject, file_of}
use Rattle.cap_elf.specs.DynView.{DynRecords, DynValue}
use Rattle.cap_syms.specs.declared.entries.Entry.{Entry}
use Rattle.cap_syms.specs.declared.entries.Bound.{Bound}
use Rattle.cap_syms.specs.declared.entries.Bound.TheVariants as bounds
use Rattle.cap_syms.specs.Occurrences.{Occurrence, occurrences, occurrences_of, names_in_order, is_global, is_weak, is_definition_at}
use Rattle.cap_syms.specs.Decisions.{further_definitions, entry_of, bound_of, is_strongly_absent, is_default, no_entry}

-- a name, the decision on it, and how it is bound
pub record Resolved : Type 0 where
  pub name : List ℕ
  pub entry : Entry
  pub bound : Bound

abbrev pub resolved : List Occurrence → Bool → List ℕ → Resolved
resolved all program name =
    let entry = entry_of (occurrences_of all name) in
    record { name = name; entry = entry; bound = bound_of program entry }

-- a name that is defined twice is refused at the second definition
abbrev pub refuse_second : List RelObject → List Occurrence → Result (Unit {0}) Refusal
refuse_second rels [] = Ok tt
refuse_second rels (o ∷ _) = Err (refusal_of (file_of rels o.file).number (fault DuplicateDefinition o.as_is.at))

abbrev pub defined_once : List RelObject → List Occurrence → List ℕ → Result (Unit {0}) Refusal
defined_once rels all name = refuse_second rels (further_definitions (occurrences_of all name))

-- what a symbol of a shared input can be chosen for
abbrev pub can_be_chosen : Symbol → Bool
can_be_chosen s =
    is_definition_at s.place && (is_global s || is_weak s) && (is_default s.visibility || (s.visibility == 3))

abbrev pub offers : DynRecords → List ℕ → Bool
offers object name = list_any (λ p. bytes_eq p.0 name && can_be_chosen p.1) (zip object.names object.symbols)

abbrev pub is_offered : List DynValue → List ℕ → Bool
is_offered dyns name = list_any (λ d. offers d.records name) dyns

-- an absent name is unresolved where a reference isn't weak, and it cannot be left to load
abbrev pub is_unresolved : List DynValue → Bool → Resolved → Bool
is_unresolved dyns program r =
    is_strongly_absent r.entry.shape && (not (is_default r.entry.visibility) || (program && not (is_offered dyns r.name)))

abbrev pub is_defined_somewhere : List RelObject → List DynValue → Bool → Resolved → Result (Unit {0}) Refusal
is_defined_somewhere rels dyns program r =
    if is_unresolved dyns program r then Err (refusals.Unresolved (file_of rels r.entry.file).number r.entry.symbol) else Ok tt

-- all names are tried for a second definition before any is found unresolved
unfoldable pub resolve_of : List RelObject → List DynValue → Bool → Result (List Resolved) Refusal
resolve_of rels dyns program = do
  let all = occurrences rels
  let names = names_in_order rels
  each (defined_once rels all) names
  let table = map (resolved all program) names
  each (is_defined_somewhere rels dyns program) table
  Ok table

-- a table is the one of these inputs, for some shared inputs
abbrev pub IsTableOf : List RelObject → Bool → List Resolved → Type 0
IsTableOf rels program table = (dyns : List DynValue) × (resolve_of rels dyns program ≡ Ok table)

-- the members of a table; past its end there is no name
abbrev pub no_name : Resolved
no_name = record { name = []; entry = no_entry; bound = bounds.Dynamic }

abbrev pub row_of : List Resolved → ℕ → Resolved
row_of table i = slice_index_or table i no_name

-- the row of a name
abbrev pub index_of : List Resolved → List ℕ → Option ℕ
index_of table name = position (λ r. bytes_eq r.name name) table

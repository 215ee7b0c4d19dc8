-- What is kept of the occurrences of one name, and the decision that it gives. Nothing here is in a public clause.
use Rattle.std.specs.Prelude.{ℕ, Bool, true, false, not, ◌&&◌, ◌||◌, ◌==◌, nat_lt, max, is_some, if◌then◌else◌, List, [], ◌∷◌, ◌++◌, length, map, filter, find, fold, zip, Option, Some, None, Result, Ok, Err, unwrap_or, slice_get, slice_set, slice_index_or}
use Rattle.std.specs.List.{enumerate_from, list_any}
use Rattle.std.specs.Option.{option_or, option_map}
use Rattle.std.specs.Str.{bytes_eq}
use Rattle.cap_base.specs.Refusal.{refusal_of}
use Rattle.cap_base.specs.Steps.{fault}
use Rattle.cap_base.specs.declared.check.Check.TheVariants.{DuplicateDefinition}
use Rattle.cap_base.specs.declared.refusal.Refusal.{Refusal}
use Rattle.cap_base.specs.declared.refusal.Refusal.TheVariants as refusals
use Rattle.cap_elf.specs.declared.records.Symbol.{Symbol}
use Rattle.cap_elf.specs.RelObject.{RelObject, file_of, name_of}
use Rattle.cap_elf.specs.DynView.{DynValue}
use Rattle.cap_syms.specs.declared.entries.Entry.{Entry}
use Rattle.cap_syms.specs.declared.entries.Shape.{Shape}
use Rattle.cap_syms.specs.declared.entries.Shape.TheVariants as shapes
use Rattle.cap_syms.specs.declared.tally.Rank.{Rank}
use Rattle.cap_syms.specs.declared.tally.Rank.TheVariants as ranks
use Rattle.cap_syms.specs.declared.tally.Spot.{Spot}
use Rattle.cap_syms.specs.declared.tally.Second.{Second}
use Rattle.cap_syms.specs.declared.tally.Tally.{Tally}
use Rattle.cap_syms.specs.Distinct.{with_new, distinct}
use Rattle.cap_syms.specs.Occurrences.{Occurrence, occurrences_of, is_local, is_global, is_weak, is_definition_at, is_common_at}
use Rattle.cap_syms.specs.Decisions.{is_global_definition, is_weak_definition, is_common, is_default, is_strongly_absent, further_definitions, largest, visibility_of, bound_of}
use Rattle.cap_syms.specs.Resolved.{Resolved, can_be_chosen}

abbrev pub spot_of : Occurrence → Spot
spot_of o = record { file = o.file; symbol = o.symbol }

abbrev pub second_of : Occurrence → Second
second_of o = record { file = o.file; at = o.as_is.at }

abbrev pub defines : Symbol → Bool
defines s = is_global s && is_definition_at s.place

abbrev pub defines_weakly : Symbol → Bool
defines_weakly s = is_weak s && is_definition_at s.place

-- what an occurrence with this symbol is, and how much that counts
abbrev pub rank_of : Symbol → Rank
rank_of s =
    if defines s then ranks.GlobalDefinition
    else if is_common_at s.place then ranks.Common
    else if defines_weakly s then ranks.WeakDefinition
    else if is_global s then ranks.GlobalReference
    else ranks.WeakReference

abbrev pub rank_number : Rank → ℕ
rank_number ranks.Unseen = 0
rank_number ranks.WeakReference = 1
rank_number ranks.GlobalReference = 2
rank_number ranks.WeakDefinition = 3
rank_number ranks.Common = 4
rank_number ranks.GlobalDefinition = 5

abbrev pub is_highest : Rank → Bool
is_highest ranks.Unseen = false
is_highest ranks.WeakReference = false
is_highest ranks.GlobalReference = false
is_highest ranks.WeakDefinition = false
is_highest ranks.Common = false
is_highest ranks.GlobalDefinition = true

-- the occurrence that decides, and what it is: by the first definition, the first common symbol, and so on
abbrev pub ranked : Rank → Option Occurrence → Option (Spot × Rank)
ranked rank o = option_map (λ o. (spot_of o, rank)) o

abbrev pub none_decides : Spot × Rank
none_decides = (record { file = 0; symbol = 0 }, ranks.Unseen)

abbrev pub deciding_by : Option Occurrence → Option Occurrence → Option Occurrence → Option Occurrence → Option Occurrence → Spot × Rank
deciding_by definition common weak global first =
    unwrap_or
    (option_or (ranked ranks.GlobalDefinition definition)
    (option_or (ranked ranks.Common common)
    (option_or (ranked ranks.WeakDefinition weak)
    (option_or (ranked ranks.GlobalReference global)
    (ranked ranks.WeakReference first)))))
    none_decides

abbrev pub deciding : List Occurrence → Spot × Rank
deciding os =
    deciding_by (find is_global_definition os) (find is_common os) (find is_weak_definition os) (find (λ o. is_global o.as_is) os) (slice_get os 0)

abbrev pub second_definition : List Occurrence → Option Second
second_definition os = option_map second_of (slice_get (further_definitions os) 0)

abbrev pub tally_by : Spot × Rank → Option Second → ℕ → ℕ → ℕ → Tally
tally_by decides second size align visibility = record {
  spot = decides.0;
  size = size;
  align = align;
  second_at = (unwrap_or second (record { file = 0; at = 0 })).at;
  second_file = (unwrap_or second (record { file = 0; at = 0 })).file;
  has_second = is_some second;
  rank = decides.1;
  visibility = visibility;
}

-- the tally of the occurrences of a name, by what each part of it means
abbrev pub tally_of : List Occurrence → Tally
tally_of os =
    tally_by (deciding os) (second_definition os) (largest (map (λ o. o.as_is.size) (filter is_common os))) (largest (map (λ o. o.as_is.value) (filter is_common os))) (visibility_of os)

abbrev pub larger : ℕ → Bool → ℕ → ℕ
larger so_far holds value = if holds then max so_far value else so_far

-- the more constraining of two visibilities
abbrev pub stricter : ℕ → ℕ → ℕ
stricter a b =
    if a == 1 || b == 1 then 1 else if a == 2 || b == 2 then 2 else if a == 3 || b == 3 then 3 else 0

-- no occurrence
abbrev pub no_tally : Tally
no_tally = tally_by none_decides None 0 0 0

-- one more occurrence
unfoldable pub with_symbol : Tally → Spot → Symbol → Tally
with_symbol t spot s =
    let decides = nat_lt (rank_number t.rank) (rank_number (rank_of s)) in
    let is_second = not t.has_second && is_highest t.rank && defines s in
    record {
      spot = if decides then spot else t.spot;
      size = larger t.size (is_common_at s.place) s.size;
      align = larger t.align (is_common_at s.place) s.value;
      second_at = if is_second then s.at else t.second_at;
      second_file = if is_second then spot.file else t.second_file;
      has_second = t.has_second || is_second;
      rank = if decides then rank_of s else t.rank;
      visibility = stricter t.visibility s.visibility;
    }

abbrev pub with_occurrence : Tally → Occurrence → Tally
with_occurrence t o = with_symbol t (spot_of o) o.as_is

-- the tallies of the names so far, with one more occurrence
abbrev pub noted : List (List ℕ × Tally) → Occurrence → List (List ℕ × Tally)
noted [] o = (o.name, with_occurrence no_tally o) ∷ []
noted (row ∷ rows) o =
    if bytes_eq o.name row.0 then (row.0, with_occurrence row.1 o) ∷ rows else row ∷ noted rows o

-- the decision
abbrev pub shape_from : Rank → ℕ → ℕ → Shape
shape_from ranks.Unseen _ _ = shapes.Absent true
shape_from ranks.WeakReference _ _ = shapes.Absent true
shape_from ranks.GlobalReference _ _ = shapes.Absent false
shape_from ranks.WeakDefinition _ _ = shapes.Defined
shape_from ranks.Common size align = shapes.Common size align
shape_from ranks.GlobalDefinition _ _ = shapes.Defined

abbrev pub entry_from : Tally → Entry
entry_from t = record { file = t.spot.file; symbol = t.spot.symbol; shape = shape_from t.rank t.size t.align; visibility = t.visibility }

abbrev pub second_from : Tally → Option Second
second_from t = if t.has_second then Some (record { file = t.second_file; at = t.second_at }) else None

-- the names of occurrences at their first appearance, each with the tally of its own
abbrev pub tallied : List Occurrence → List (List ℕ × Tally)
tallied os = map (λ n. (n, tally_of (occurrences_of os n))) (distinct bytes_eq (map (λ o. o.name) os))

-- all symbols of an input, the local ones too
abbrev pub symbols_in : ℕ × RelObject → List Occurrence
symbols_in p =
    map (λ s. record { name = name_of p.1 s.0; file = p.0; symbol = s.0; as_is = s.1 }) (enumerate_from 0 p.1.symbols)

abbrev pub noted_if_outside : List (List ℕ × Tally) → Occurrence → List (List ℕ × Tally)
noted_if_outside rows o = if is_local o.as_is then rows else noted rows o

unfoldable pub with_input : List (List ℕ × Tally) → ℕ × RelObject → List (List ℕ × Tally)
with_input rows p = fold noted_if_outside rows (symbols_in p)

-- the tallies with one more, at the place of its name
abbrev pub entered : List Tally → ℕ → Occurrence → List Tally
entered tallies row o =
    if row == length tallies then tallies ++ with_occurrence no_tally o ∷ []
    else slice_set tallies row (with_occurrence (slice_index_or tallies row no_tally) o)

-- a second definition refuses
abbrev pub refuse_this : List RelObject → Option Second → Result (Unit {0}) Refusal
refuse_this rels None = Ok tt
refuse_this rels (Some s) = Err (refusal_of (file_of rels s.file).number (fault DuplicateDefinition s.at))

-- the rows of the table, by the tallies
abbrev pub decided_row : Bool → List ℕ × Tally → Resolved
decided_row program row = record { name = row.0; entry = entry_from row.1; bound = bound_of program (entry_from row.1) }

-- an absent name is unresolved, where these are the names that the shared inputs offer
abbrev pub is_missing : Bool → List (List ℕ) → List ℕ → Entry → Bool
is_missing program offered name entry =
    is_strongly_absent entry.shape
    && (not (is_default entry.visibility) || (program && not (list_any (bytes_eq name) offered)))

abbrev pub refuse_name : List RelObject → Bool → List (List ℕ) → List ℕ → Entry → Result (Unit {0}) Refusal
refuse_name rels program offered name entry =
    if is_missing program offered name entry
    then Err (refusals.Unresolved (file_of rels entry.file).number entry.symbol) else Ok tt

abbrev pub refuse_missing : List RelObject → Bool → List (List ℕ) → Resolved → Result (Unit {0}) Refusal
refuse_missing rels program offered r = refuse_name rels program offered r.name r.entry

-- the names with that of a symbol that can be chosen
abbrev pub with_choosable : List (List ℕ) → List ℕ × Symbol → List (List ℕ)
with_choosable names p = if can_be_chosen p.1 then with_new bytes_eq names p.0 else names

unfoldable pub with_choosables : List (List ℕ) → DynValue → List (List ℕ)
with_choosables names d = fold with_choosable names (zip d.records.names d.records.symbols)

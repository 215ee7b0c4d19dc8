-- The laws of linked files.
use Rattle.std.specs.Prelude.{◌≡◌, ◌⊎◌, ◌+◌, ◌<◌, ℕ, Bool, true, false, List, map, zip, length, slice_index, slice_index_or, Ok, Err}
use Rattle.cap_base.specs.declared.check.Check.TheVariants.{NeededName, Array}
use Rattle.cap_base.specs.declared.kind.Kind.{Kind}
use Rattle.cap_base.specs.declared.refusal.Fault.{Fault}
use Rattle.cap_chain.specs.Adopted.{is_sound}
use Rattle.cap_elf.specs.declared.records.Place.TheVariants as places
use Rattle.cap_elf.specs.declared.records.Symbol.{Symbol}
use Rattle.cap_elf.specs.DynView.{DynRecords, dyn_view}
use Rattle.cap_elf.specs.Records.{null_symbol}
use Rattle.cap_fits.specs.Fits.{Fits, Apart, is_data}
use Rattle.cap_syms.specs.Resolved.{can_be_chosen}
use Rattle.cap_table.specs.declared.target.Target.{Target}
use Rattle.cap_table.specs.Targets.{row_target}
use Rattle.cap_link.specs.Inputs.{Input}
use Rattle.cap_link.specs.Linked.{Linked, link_of, file_of_link, linked_file, AreInputs}
use Rattle.cap_link.specs.View.{linked_view, is_plain}

-- the inputs are accepted, and give this link
pub record IsAccepted (inputs : List Input) (kind : Kind) (l : Linked) : Type 0 where
  pub inputs_are : AreInputs inputs kind
  pub link_is : link_of inputs kind ≡ Ok l

-- the names of a shared object, with whether a look-up can find them
abbrev pub offered_names : DynRecords → List (List ℕ × Bool)
offered_names object = map (λ p. (p.0, can_be_chosen p.1)) (zip object.names object.symbols)

-- the linked file of a plain link is read back as it was planned, and its hash table is sound
abbrev pub ReadsBack : Type 0
ReadsBack =
    (inputs : List Input) (kind : Kind) (l : Linked) → IsAccepted inputs kind l → is_plain l ≡ true
    → (dyn_view (file_of_link l) ≡ Ok (linked_view l))
    × (is_sound (linked_view l).hash_words (offered_names (linked_view l)) ≡ true)

-- any other linked file is refused by a needed name or its own name, or by an array
abbrev pub RefusesOthers : Type 0
RefusesOthers =
    (inputs : List Input) (kind : Kind) (l : Linked) → IsAccepted inputs kind l → is_plain l ≡ false
    → (fault : Fault) × ((fault.check ≡ NeededName) ⊎ (fault.check ≡ Array)) × (dyn_view (file_of_link l) ≡ Err fault)

-- these bytes were written by a link
abbrev pub IsLinked : List ℕ → Type 0
IsLinked bytes = (inputs : List Input) × (kind : Kind) × AreInputs inputs kind × (linked_file inputs kind ≡ Ok bytes)

-- whatever is linked has exact bounds wherever it is loaded, and data that lie apart
abbrev pub IsExactAndApart : Type 0
IsExactAndApart =
    (inputs : List Input) (kind : Kind) (l : Linked) → IsAccepted inputs kind l → Fits (linked_view l) × Apart (linked_view l)

-- the symbol of the linked file that stands for the name of a row, behind the null symbol
abbrev pub symbol_of_name : Linked → ℕ → Symbol
symbol_of_name l i = slice_index_or (linked_view l).symbols (i + 1) (null_symbol 0)

abbrev pub target_of_name : Linked → ℕ → Target
target_of_name l i = row_target l.named (slice_index l.lists.plan.symbols i)

-- two definitions are aliases: they cut one section of one file in one interval
pub record AreAliases (t u : Target) : Type 0 where
  pub section : ℕ
  pub file : t.file ≡ u.file
  pub first : t.as_is.place ≡ places.Section section
  pub second : u.as_is.place ≡ places.Section section
  pub value : t.as_is.value ≡ u.as_is.value
  pub size : t.as_is.size ≡ u.as_is.size

-- data symbols of the linked file with one interval that is not empty are one, or stand for aliases
abbrev pub EqualsAreAliases : Type 0
EqualsAreAliases =
    (inputs : List Input) (kind : Kind) (l : Linked) (i j : ℕ) → IsAccepted inputs kind l
    → i < length l.lists.plan.symbols → j < length l.lists.plan.symbols
    → is_data (symbol_of_name l i) ≡ true → is_data (symbol_of_name l j) ≡ true
    → (symbol_of_name l i).value ≡ (symbol_of_name l j).value → (symbol_of_name l i).size ≡ (symbol_of_name l j).size
    → 0 < (symbol_of_name l i).size
    → (i ≡ j) ⊎ AreAliases (target_of_name l i) (target_of_name l j)

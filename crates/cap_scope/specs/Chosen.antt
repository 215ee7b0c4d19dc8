-- Which definition a name has in a scope, and how many entries of hash chains its look-up passes.
use Rattle.std.specs.Prelude.{ℕ, ◌<◌, length, Bool, true, false, ◌==◌, List, [], ◌∷◌, find, flat_map, sum_by, slice_index_or, Option, Some, None, if◌then◌else◌}
use Rattle.std.specs.Option.{option_or}
use Rattle.cap_elf.specs.DynView.{DynRecords, DynValue}
use Rattle.cap_chain.specs.Adopted.{walk_of}
use Rattle.cap_scope.specs.declared.choice.Hit.{Hit}
use Rattle.cap_scope.specs.declared.choice.Candidate.{Candidate}
use Rattle.cap_scope.specs.declared.choice.Rule.{Rule}
use Rattle.cap_scope.specs.declared.choice.Rule.TheVariants.{NonWeak, First}
use Rattle.cap_scope.specs.declared.choice.Choice.{Choice}
use Rattle.cap_scope.specs.declared.choice.Choice.TheVariants as choices
use Rattle.cap_scope.specs.Candidates.{candidates_in, hash_table}

-- an object with nothing in it
abbrev pub no_records : DynRecords
no_records = record {
  flags = 0;
  segments = [];
  relro = None;
  symbols = [];
  names = [];
  relocs = [];
  cap_relocs = [];
  hash_words = [];
  hash_at = 0;
  arrays = record { init_at = 0; init_size = 0; fini_at = 0; fini_size = 0 };
  needed = [];
  soname = None;
  symbolic = false;
  span = 0;
  align = 0;
}

abbrev pub object_at : List DynRecords → ℕ → DynRecords
object_at objects i = slice_index_or objects i no_records

-- the definitions of a name in a scope
abbrev pub candidates : List DynRecords → List ℕ → List ℕ → List Candidate
candidates objects scope name = flat_map (λ i. candidates_in (object_at objects i) i name) scope

-- a definition that ends the search: a GLOBAL one, or under the rule First any
abbrev pub decides : Rule → Candidate → Bool
decides NonWeak c = c.is_strong
decides First c = true

abbrev pub first_of : List Candidate → Option Candidate
first_of [] = None
first_of (c ∷ cs) = Some c

-- a definition by its binding
abbrev pub as_bound : Candidate → Choice
as_bound c = if c.is_strong then choices.Strong c.hit else choices.Weak c.hit

abbrev pub choice_of : Option Candidate → Choice
choice_of None = choices.None
choice_of (Some c) = as_bound c

-- under the rule NonWeak the first GLOBAL one, else the first, which is WEAK then; under the rule First the first
abbrev pub chosen_by : Rule → List Candidate → Choice
chosen_by rule cs = choice_of (option_or (find (decides rule) cs) (first_of cs))

-- the definition of a name in a scope
abbrev pub chosen : Rule → List DynRecords → List ℕ → List ℕ → Choice
chosen rule objects scope name = chosen_by rule (candidates objects scope name)

abbrev pub up_to_first : (ℕ → Bool) → List ℕ → List ℕ
up_to_first p [] = []
up_to_first p (x ∷ xs) = if p x then x ∷ [] else x ∷ up_to_first p xs

-- the members of a scope up to the first that is the hit's object
abbrev pub up_to_hit : Hit → List ℕ → List ℕ
up_to_hit hit scope = up_to_first (λ i. i == hit.object) scope

-- the members of a scope that a look-up passes: up to the hit's object, or all where it ends with none, or under the
-- rule NonWeak with a WEAK one
abbrev pub passed : Rule → Choice → List ℕ → List ℕ
passed rule (choices.Strong hit) scope = up_to_hit hit scope
passed NonWeak (choices.Weak hit) scope = scope
passed First (choices.Weak hit) scope = up_to_hit hit scope
passed rule choices.None scope = scope

-- how many entries of its chain the look-up of a name passes in one object
abbrev pub walk_in : List DynRecords → List ℕ → ℕ → ℕ
walk_in objects name i = walk_of (hash_table (object_at objects i)) name

-- how many entries of chains the look-up of a name passes in a scope
abbrev pub walked : Rule → List DynRecords → List ℕ → List ℕ → ℕ
walked rule objects scope name = sum_by (walk_in objects name) (passed rule (chosen rule objects scope name) scope)

-- an object with nothing in it, which was read from no file
abbrev pub no_file : DynValue
no_file = record { number = 0; records = no_records }

-- the object and its symbol are there
pub record IsHit (objects : List DynValue) (hit : Hit) : Type 0 where
  pub object : hit.object < length objects
  pub symbol : hit.symbol < length (slice_index_or objects hit.object no_file).records.symbols

-- the definition that is chosen, if there is one, is a symbol that is there
abbrev pub IsThere : List DynValue → Choice → Type 0
IsThere objects (choices.Strong hit) = IsHit objects hit
IsThere objects (choices.Weak hit) = IsHit objects hit
IsThere objects choices.None = Unit {0}

-- part way: what is chosen after this definition, which doesn't end the search, and then these
abbrev pub chosen_from : Rule → Option Candidate → List Candidate → Choice
chosen_from rule before cs = choice_of (option_or (find (decides rule) cs) (option_or before (first_of cs)))

-- Worked resolutions, by computation.
use Rattle.std.specs.Prelude.{◌≡◌, ℕ, List, [], ◌∷◌, ◌++◌, true, false, codes, refl, Ok, Err}
use Rattle.cap_base.specs.declared.refusal.Refusal.TheVariants.{Unresolved}
use Rattle.cap_base.specs.declared.check.Check.TheVariants.{DuplicateDefinition}
use Rattle.cap_base.specs.Refusal.{refusal_of}
use Rattle.cap_base.specs.Steps.{fault}
use Rattle.cap_elf.specs.declared.records.Place.{Place}
use Rattle.cap_elf.specs.declared.records.Place.TheVariants as places
use Rattle.cap_elf.specs.declared.records.Symbol.{Symbol}
use Rattle.cap_elf.specs.Records.{null_symbol}
use Rattle.cap_elf.specs.RelObject.{RelObject}
use Rattle.cap_syms.specs.declared.entries.Shape.TheVariants.{Common, Defined, Absent}
use Rattle.cap_syms.specs.declared.entries.Bound.TheVariants.{Local, Zero}
use Rattle.cap_syms.specs.Resolved.{Resolved, resolve_of}

abbrev global : Place → ℕ → ℕ → ℕ → Symbol
global place value size at = record { binding = 1; kind = 0; visibility = 0; place = place; value = value; size = size; at = at }

abbrev object : ℕ → Symbol → List ℕ → RelObject
object number symbol name = record {
  number = number;
  flags = 0;
  sections = [];
  symbols = null_symbol 0 ∷ symbol ∷ [];
  names = [] ∷ name ∷ [];
  relocs = [];
  contents = [];
}

-- a common symbol of size 4 and alignment 4, and then of 8 and 8
abbrev commons : List RelObject
commons =
    object 0 (global places.Common 4 4 0) (codes "count") ∷ object 1 (global places.Common 8 8 0) (codes "count") ∷ []

abbrev count : Resolved
count = record { name = codes "count"; entry = record { file = 0; symbol = 1; shape = Common 8 8; visibility = 0 }; bound = Local }

commons-resolved : resolve_of commons [] true ≡ Ok (count ∷ [])
unfolding resolve_of
commons-resolved = refl

-- two definitions of one name
abbrev doubles : List RelObject
doubles =
    object 0 (global (places.Section 1) 0 4 0x118) (codes "f") ∷ object 1 (global (places.Section 1) 0 4 0x130) (codes "f") ∷ []

doubles-refused : resolve_of doubles [] true ≡ Err (refusal_of 1 (fault DuplicateDefinition 0x130))
unfolding resolve_of
doubles-refused = refl

-- a name that nothing defines
abbrev missing : List RelObject
missing = object 7 (global places.Undefined 0 0 0) (codes "gone") ∷ []

missing-refused : resolve_of missing [] true ≡ Err (Unresolved 7 1)
unfolding resolve_of
missing-refused = refl

-- a name that is missing, and then one that is defined twice: the second definition is refused first
doubles-first : resolve_of (missing ++ doubles) [] true ≡ Err (refusal_of 1 (fault DuplicateDefinition 0x130))
unfolding resolve_of
doubles-first = refl

-- a weak reference to a name of the visibility HIDDEN, and a weak definition of one that is INTERNAL elsewhere
abbrev with : ℕ → ℕ → Place → Symbol
with binding visibility place = record { binding = binding; kind = 0; visibility = visibility; place = place; value = 0; size = 0; at = 0 }

abbrev weak : Resolved
weak = record { name = codes "h"; entry = record { file = 0; symbol = 1; shape = Absent true; visibility = 2 }; bound = Zero }

weak-resolved : resolve_of (object 0 (with 2 2 places.Undefined) (codes "h") ∷ []) [] true ≡ Ok (weak ∷ [])
unfolding resolve_of
weak-resolved = refl

abbrev internal : Resolved
internal = record { name = codes "i"; entry = record { file = 0; symbol = 1; shape = Defined; visibility = 1 }; bound = Local }

internal-resolved : resolve_of (object 0 (with 2 3 (places.Section 1)) (codes "i") ∷ object 1 (with 1 1 places.Undefined) (codes "i") ∷ []) [] false ≡ Ok (internal ∷ [])
unfolding resolve_of
internal-resolved = refl

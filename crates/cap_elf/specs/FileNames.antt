-- The names of the libraries that an object needs, and its own.
use Rattle.std.specs.Prelude.{ℕ, not, ◌==◌, nat_lt, List, [], ◌∷◌, ◌++◌, length, if◌then◌else◌, Option, Some, None, ok_or, Result, Ok}
use Rattle.cap_base.specs.declared.check.Check.TheVariants.{NeededName, NameLength}
use Rattle.cap_base.specs.declared.refusal.Fault.{Fault}
use Rattle.cap_elf.specs.declared.decode.DynEntry.{DynEntry}
use Rattle.cap_elf.specs.Numbers.{DT_NEEDED, DT_SONAME}
use Rattle.cap_elf.specs.declared.names.FileNames.{FileNames}
use Rattle.cap_elf.specs.Names.{name_of, is_file_name}
use Rattle.cap_base.specs.Steps.{◌>>=◌, ◌>>◌, refuse, fault, steps}

-- the needed names in order, and the object's own (DT_NEEDED, DT_SONAME)
pub record NamesView : Type 0 where
  pub needed : List (List ℕ)
  pub soname : Option (List ℕ)

-- the names as contracts see them
abbrev pub names_view : FileNames → NamesView
names_view n = record { needed = n.needed.items; soname = n.soname }

-- the name that an entry gives, which passes each check
unfoldable pub file_name_of : List ℕ → DynEntry → Result (List ℕ) Fault
file_name_of strings e = do
  name ← ok_or (name_of strings e.value) (fault NeededName e.at)
  refuse (not (is_file_name name)) NeededName e.at
  refuse (nat_lt 255 (length name)) NameLength 0
  Ok name

-- the names so far, and those of one more entry
unfoldable pub name_step : List ℕ → NamesView → DynEntry → Result NamesView Fault
name_step strings names e =
    if e.tag == DT_NEEDED then (do
      name ← file_name_of strings e
      Ok (record names { needed = names.needed ++ name ∷ [] }))
    else if e.tag == DT_SONAME then (do
      name ← file_name_of strings e
      Ok (record names { soname = Some name }))
    else Ok names

-- the names of all entries
abbrev pub names_of : List ℕ → List DynEntry → Result NamesView Fault
names_of strings listed = steps (name_step strings) (record { needed = []; soname = None }) listed

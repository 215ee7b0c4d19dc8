-- The inputs of a link, read in order: relocatable objects and shared objects.
use Rattle.std.specs.Prelude.{ℕ, Bool, false, ◌==◌, if◌then◌else◌, List, [], ◌∷◌, ◌++◌, Option, Some, None, Result, Ok}
use Rattle.std.specs.List.{enumerate_from, after_last}
use Rattle.std.specs.Str.{bytes_eq}
use Rattle.cap_base.specs.Field.{field_at}
use Rattle.cap_base.specs.Steps.{◌>>=◌, steps, in_file}
use Rattle.cap_base.specs.declared.refusal.Fault.{Fault}
use Rattle.cap_base.specs.declared.refusal.Refusal.{Refusal}
use Rattle.cap_elf.specs.RelObject.{RelObject}
use Rattle.cap_elf.specs.RelView.{rel_view}
use Rattle.cap_elf.specs.DynView.{DynRecords, DynValue, dyn_view}
use Rattle.cap_syms.specs.Distinct.{with_new}

-- the word by which a file was named, and its bytes
abbrev pub Input : Type 0
Input = List ℕ × List ℕ

-- what was read: the relocatable objects, the shared objects, and the names under which these are needed
pub record FilesRead : Type 0 where
  pub rels : List RelObject
  pub dyns : List DynValue
  pub needed : List (List ℕ)

abbrev pub none_read : FilesRead
none_read = record { rels = []; dyns = []; needed = [] }

-- an input is read as a shared object where its type (e_type) is ET_DYN
abbrev pub is_shared_type : Option ℕ → Bool
is_shared_type None = false
is_shared_type (Some t) = t == 3

abbrev pub is_shared : List ℕ → Bool
is_shared bytes = is_shared_type (field_at 2 bytes 16)

-- a shared object is needed under its own name (DT_SONAME), or else under the part of its file's word behind the last
-- slash
abbrev pub is_slash : ℕ → Bool
is_slash b = b == 0x2f

abbrev pub needed_name : List ℕ → Option (List ℕ) → List ℕ
needed_name word None = after_last is_slash word
needed_name word (Some name) = name

-- a name that is needed twice stands once
abbrev pub with_shared : FilesRead → ℕ → List ℕ → DynRecords → FilesRead
with_shared files number word object = record files {
  dyns = files.dyns ++ record { number = number; records = object } ∷ [];
  needed = with_new bytes_eq files.needed (needed_name word object.soname);
}

abbrev pub with_relocatable : FilesRead → RelObject → FilesRead
with_relocatable files object = record files { rels = files.rels ++ object ∷ [] }

abbrev pub shared_input : FilesRead → ℕ → List ℕ → List ℕ → Result FilesRead Fault
shared_input files number word bytes = dyn_view bytes >>= λ object. Ok (with_shared files number word object)

abbrev pub relocatable_input : FilesRead → ℕ → List ℕ → Result FilesRead Fault
relocatable_input files number bytes = rel_view number bytes >>= λ object. Ok (with_relocatable files object)

abbrev pub read_input : FilesRead → ℕ → Input → Result FilesRead Fault
read_input files number input =
    if is_shared input.1 then shared_input files number input.0 input.1 else relocatable_input files number input.1

-- what was read so far, and one more input
unfoldable pub read_step : FilesRead → ℕ × Input → Result FilesRead Refusal
read_step files p = in_file p.0 (read_input files p.0 p.1)

-- all inputs, or the first refusal among them
abbrev pub files_of : List Input → Result FilesRead Refusal
files_of inputs = steps read_step none_read (enumerate_from 0 inputs)

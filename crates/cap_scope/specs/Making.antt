-- How objects are made.
use Rattle.std.specs.Prelude.{◌≡◌, ◌⊎◌, Bool, true, false, Result, Ok, Err}
use Rattle.cap_base.specs.declared.check.Check.TheVariants.{HashChain}
use Rattle.cap_base.specs.declared.refusal.Refusal.{Refusal}
use Rattle.cap_base.specs.declared.refusal.Refusal.TheVariants.{NoMemory}
use Rattle.cap_base.specs.Refusal.{refusal_of}
use Rattle.cap_base.specs.Steps.{fault}
use Rattle.cap_chain.specs.Adopted.{is_sound}
use Rattle.cap_elf.specs.DynView.{DynValue}
use Rattle.cap_scope.specs.Candidates.{hash_table}

-- the hash table of a file is sound
abbrev pub has_sound_table : DynValue → Bool
has_sound_table file = let table = hash_table file.records in is_sound table.words table.names

-- a file is an object exactly where its hash table is sound; memory may run out instead
abbrev pub MakesObject : DynValue → Result DynValue Refusal → Type 0
MakesObject file (Ok object) = (object ≡ file) × (has_sound_table file ≡ true)
MakesObject file (Err refusal) =
    (refusal ≡ NoMemory)
    ⊎ ((refusal ≡ refusal_of file.number (fault HashChain file.records.hash_at)) × (has_sound_table file ≡ false))

-- The notes of the capabilities that the relocations of an object want.
use Rattle.std.specs.Prelude.{ℕ, ◌<◌, List, length, All}
use Rattle.cap_own.specs.Cap.{Cap}
use Rattle.cap_elf.specs.DynView.{DynRecords}
use Rattle.cap_scope.specs.Chosen.{object_at}
use Rattle.cap_reloc.specs.Wanted.{Setting, Content, Number, Untagged, Tagged, own}

-- the relocated object and those of the scope are there, and so are the symbols that its relocations name
pub record NamesSymbols (setting : Setting) : Type 0 where
  pub index : setting.index < length setting.objects
  pub scope : All (λ i. i < length setting.objects) setting.scope
  pub symbol_some : 0 < length (own setting).symbols
  pub references : All (λ r. r.symbol < length (own setting).symbols) (own setting).relocs

-- the capability's object is there, and the note is the index of one of its symbols
pub record IsNote (objects : List DynRecords) (c : Cap) (note : ℕ) : Type 0 where
  pub object : c.owner < length objects
  pub symbol : note < length (object_at objects c.owner).symbols

-- if it is a capability, it comes with a symbol of its object
abbrev pub IsNoted : List DynRecords → Content → Type 0
IsNoted objects (Number n) = Unit {0}
IsNoted objects (Untagged n) = Unit {0}
IsNoted objects (Tagged c note) = IsNote objects c note

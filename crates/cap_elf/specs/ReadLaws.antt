-- What holds of all files that can be read, said of their bytes.
use Rattle.std.specs.Prelude.{◌≡◌, ℕ, ◌^◌, ◌<◌, ◌≤◌, false, List, length, All, FitsSigned, Ok}
use Rattle.std.specs.Int.{w64}
use Rattle.cap_elf.specs.declared.records.Symbol.{Symbol}
use Rattle.cap_elf.specs.declared.records.Reloc.{Reloc}
use Rattle.cap_elf.specs.Header.{lacks_flags}
use Rattle.cap_elf.specs.RelObject.{RelObject}
use Rattle.cap_elf.specs.RelView.{rel_view}
use Rattle.cap_elf.specs.IsRelRead.{IsRelRead}
use Rattle.cap_elf.specs.DynView.{DynRecords, dyn_view}
use Rattle.cap_elf.specs.IsRead.{IsRead}

-- bytes, and no more of them than a file has
pub record AreFileBytes (bytes : List ℕ) : Type 0 where
  pub bytes_are : All (λ b. b < 256) bytes
  pub long : length bytes ≤ 2 ^ 62

-- the numbers of a symbol and of a relocation fit their fields
pub record SymbolFits (s : Symbol) : Type 0 where
  pub value : s.value < 2 ^ 64
  pub size : s.size < 2 ^ 64

pub record RelocFits (r : Reloc) : Type 0 where
  pub kind : r.kind < 2 ^ 32
  pub offset : r.offset < 2 ^ 64
  pub addend : FitsSigned w64 r.addend

-- the numbers of an object fit their fields, and its flags are those of the pure-capability profile
pub record AreFields (object : RelObject) : Type 0 where
  pub flags : object.flags < 2 ^ 32
  pub pure : lacks_flags object.flags ≡ false
  pub symbols : All SymbolFits object.symbols
  pub relocs : All RelocFits object.relocs

-- what every shared object and every relocatable object has
pub record ReadLaws : Type 0 where
  pub dyn : (bytes : List ℕ) (object : DynRecords) → dyn_view bytes ≡ Ok object → IsRead object
  pub rel : (number : ℕ) (bytes : List ℕ) (object : RelObject) → AreFileBytes bytes → rel_view number bytes ≡ Ok object → IsRelRead object
  pub rel_number : (number : ℕ) (bytes : List ℕ) (object : RelObject) → rel_view number bytes ≡ Ok object → object.number ≡ number
  pub rel_fields : (number : ℕ) (bytes : List ℕ) (object : RelObject) → AreFileBytes bytes → rel_view number bytes ≡ Ok object → AreFields object

-- The intervals of data in a shared object, and when all of them can be bounded exactly and lie apart.
use Rattle.std.specs.Prelude.{◌≡◌, ℕ, ◌+◌, ◌-◌, ◌*◌, ◌^◌, ◌≤◌, ◌⊎◌, Bool, true, false, not, ◌&&◌, nat_lt, List, ◌++◌, map, filter, All, AllPairs, IfSome}
use Rattle.cap_base.specs.Lists.{share_byte}
use Rattle.cap_conc.specs.Computed.{is_exact}
use Rattle.cap_elf.specs.declared.records.CapReloc.{CapReloc}
use Rattle.cap_elf.specs.declared.records.Symbol.{Symbol}
use Rattle.cap_elf.specs.DynView.{DynRecords}
use Rattle.cap_elf.specs.Exported.{is_defined}
use Rattle.cap_fits.specs.Places.{is_absolute, is_function, code_range}

-- a symbol of data: it is defined, not absolute, and no function
abbrev pub is_data : Symbol → Bool
is_data s = is_defined s.place && not (is_absolute s.place) && not (is_function s)

-- an entry of data: its capability is no function
abbrev pub is_data_entry : CapReloc → Bool
is_data_entry e = nat_lt e.permissions (2 ^ 63)

abbrev pub interval_of_symbol : Symbol → ℕ × ℕ
interval_of_symbol s = (s.value, s.size)

abbrev pub interval_of_entry : CapReloc → ℕ × ℕ
interval_of_entry e = (e.object, e.size)

-- the intervals of data, each a place and a length: those of the symbols of data, and those of the entries of data
abbrev pub data_intervals : DynRecords → List (ℕ × ℕ)
data_intervals object =
    map interval_of_symbol (filter is_data object.symbols) ++ map interval_of_entry (filter is_data_entry object.cap_relocs)

-- wherever the object is placed, its intervals of data and its range of code have exact bounds
pub record Fits (object : DynRecords) : Type 0 where
  pub data_exact : (k : ℕ) → All (λ i. is_exact (k * object.align + i.0) i.1 ≡ true) (data_intervals object)
  pub code_exact : (k : ℕ) → IfSome (code_range object) (λ c. is_exact (k * object.align + c.0) (c.1 - c.0) ≡ true)

-- two intervals are one, or share no byte
abbrev pub IsOneOrApart : ℕ × ℕ → ℕ × ℕ → Type 0
IsOneOrApart a b = (a ≡ b) ⊎ (share_byte a b ≡ false)

-- the intervals of data of one object lie apart, and in its span
pub record Apart (object : DynRecords) : Type 0 where
  pub apart : AllPairs IsOneOrApart (data_intervals object)
  pub within : All (λ i. i.0 + i.1 ≤ object.span) (data_intervals object)

-- the intervals of data of an object that begins at an address
abbrev pub loaded_intervals : DynRecords → ℕ → List (ℕ × ℕ)
loaded_intervals object base = map (λ i. (base + i.0, i.1)) (data_intervals object)

-- an object, and where it begins
abbrev pub Placed : Type 0
Placed = DynRecords × ℕ

-- where the intervals of data of each of two objects lie apart, none of one shares a byte with one of the other
abbrev pub ShareNone : Placed → Placed → Type 0
ShareNone a b =
    Apart a.0 → Apart b.0 → All (λ i. All (λ j. share_byte i j ≡ false) (loaded_intervals b.0 b.1)) (loaded_intervals a.0 a.1)

-- the intervals of data of all loaded objects whose own lie apart are one, or share no byte
pub record DataLieApart (objects : List Placed) : Type 0 where
  pub own : All (λ o. Apart o.0 → AllPairs IsOneOrApart (loaded_intervals o.0 o.1)) objects
  pub others : AllPairs ShareNone objects

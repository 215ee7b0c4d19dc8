-- The records of an image's objects, which follow its header: base, size, length of the name, and name.
use Rattle.std.specs.Prelude.{◌≡◌, ℕ, zero, suc, ◌+◌, ◌%◌, ◌<◌, ◌≤◌, Bool, not, ◌==◌, ◌&&◌, nat_le, IsTrue, List, [], ◌∷◌, ◌++◌, length, take, drop, map, All, Result, Ok}
use Rattle.cap_base.specs.Field.{number_at}
use Rattle.cap_base.specs.Steps.{◌>>=◌, ◌>>◌, refuse}
use Rattle.cap_base.specs.Text.{is_plain}
use Rattle.cap_base.specs.declared.check.Check.TheVariants.{ImageObject, ImageName}
use Rattle.cap_base.specs.declared.refusal.Fault.{Fault}
use Rattle.cap_image.specs.declared.records.ObjectRecord.{ObjectRecord}
use Rattle.cap_image.specs.Parts.{space_start, space_end, Ascend}
use Rattle.cap_image.specs.Header.{reaches}

-- some bytes from a place on
abbrev pub piece : List ℕ → ℕ → ℕ → List ℕ
piece bytes at len = take len (drop at bytes)

-- whole pages, at least one, not below the end of the object before, and within the addresses
abbrev pub is_placed : ℕ → ℕ → ℕ → Bool
is_placed floor base size =
    base % 4096 == 0 && size % 4096 == 0 && not (size == 0) && nat_le floor base && nat_le (base + size) space_end

abbrev pub is_name_length : ℕ → Bool
is_name_length len = not (len == 0) && nat_le len 255

-- the record at a place, of an object that isn't below the floor
unfoldable pub record_at : List ℕ → ℕ → ℕ → Result ObjectRecord Fault
record_at bytes floor at = do
  reaches bytes (at + 16)
  refuse (not (is_placed floor (number_at 8 bytes at) (number_at 8 bytes (at + 8)))) ImageObject at
  reaches bytes (at + 18)
  refuse (not (is_name_length (number_at 2 bytes (at + 16)))) ImageName (at + 16)
  reaches bytes (at + 18 + number_at 2 bytes (at + 16))
  refuse (not (is_plain (piece bytes (at + 18) (number_at 2 bytes (at + 16))))) ImageName (at + 16)
  Ok (record { base = number_at 8 bytes at; size = number_at 8 bytes (at + 8); name_at = at + 18; name_len = number_at 2 bytes (at + 16) })

-- the records read so far, the end of the last object, and the place behind the last record
pub record Records : Type 0 where
  pub items : List ObjectRecord
  pub floor : ℕ
  pub at : ℕ

abbrev pub with_record : Records → ObjectRecord → Records
with_record records next = record { items = records.items ++ next ∷ []; floor = next.base + next.size; at = next.name_at + next.name_len }

-- one record more
unfoldable pub add_record : List ℕ → Records → Result Records Fault
add_record bytes records = do
  next ← record_at bytes records.floor records.at
  Ok (with_record records next)

-- a step taken as often as this
abbrev pub repeated : {E A : Type 0} → (A → Result A E) → ℕ → A → Result A E
repeated f zero a = Ok a
repeated f (suc n) a = f a >>= λ b. repeated f n b

abbrev pub no_records : Records
no_records = record { items = []; floor = space_start; at = 16 }

-- the records of as many objects
abbrev pub records_of : List ℕ → ℕ → Result Records Fault
records_of bytes count = repeated (add_record bytes) count no_records

-- whole pages, at least one, within the addresses, and a name of 1 to 255 printable characters inside the image
pub record IsRecord (bytes : List ℕ) (r : ObjectRecord) : Type 0 where
  pub base_in_pages : r.base % 4096 ≡ 0
  pub size_in_pages : r.size % 4096 ≡ 0
  pub some_bytes : 0 < r.size
  pub within : r.base + r.size ≤ space_end
  pub some_name : 0 < r.name_len
  pub short_name : r.name_len ≤ 255
  pub name_inside : r.name_at + r.name_len ≤ length bytes
  pub plain_name : IsTrue (is_plain (piece bytes r.name_at r.name_len))

abbrev pub interval_at : ObjectRecord → ℕ × ℕ
interval_at r = (r.base, r.size)

-- what records that were read have: the objects ascend
pub record AreRecords (bytes : List ℕ) (records : Records) : Type 0 where
  pub each : All (IsRecord bytes) records.items
  pub ascending : Ascend space_start (map interval_at records.items) records.floor
  pub within : records.floor ≤ space_end

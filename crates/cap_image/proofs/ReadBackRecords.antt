-- The header and the records of objects are read back.
use Rattle.std.proofs.Common.{◌≡◌, ℕ, zero, suc, ◌+◌, ◌%◌, ◌^◌, ◌<◌, ◌≤◌, true, List, [], ◌∷◌, ◌++◌, length, take, drop, map, Result, Ok, refl, sym, ap, ◌∙◌, arith, append_assoc, append-nil, length-append}
use Rattle.std.specs.Prelude.{All, flat_map, codes}
use Rattle.std.proofs.lemmas.Bool.{le-leb, le-ltb, eq-eqb, ne_eqb}
use Rattle.cap_base.specs.Steps.{◌>>=◌}
use Rattle.cap_base.specs.Field.{number_at}
use Rattle.cap_base.specs.declared.refusal.Fault.{Fault}
use Rattle.cap_image.specs.declared.header.Version.{Version}
use Rattle.cap_image.specs.declared.header.Version.TheVariants.{One, Two}
use Rattle.cap_image.specs.declared.records.ObjectRecord.{ObjectRecord}
use Rattle.cap_image.specs.Header.{header_of, version_of}
use Rattle.cap_image.specs.Parts.{ImageObject, IsObject, Ascend, interval_of, space_end}
use Rattle.cap_image.specs.Records.{piece, is_placed, is_name_length, record_at, Records, with_record, add_record, repeated}
use Rattle.cap_image.specs.Writing.{field_bytes, name_bytes, object_record, object_bytes, header_bytes, version_number}
use Rattle.cap_image.proofs.ReadBackPlaces.{behind, piece_is, number_is, field_len, behind_number, room}

-- ---- the header

version_is : (version : Version) → version_of (version_number version) ≡ Ok version
version_is One = refl
version_is Two = refl

version_small : (version : Version) → version_number version < 256 ^ 4
version_small One = omega arith
version_small Two = omega arith

header_front : (version : Version) (count : ℕ) (rest : List ℕ) → take 8 (header_bytes version count ++ rest) ≡ codes "PURECAPI"
unfolding header_bytes
header_front version count rest = refl

header_back : (version : Version) (count : ℕ) (rest : List ℕ) → drop 8 (header_bytes version count ++ rest) ≡ field_bytes 4 (version_number version) ++ (field_bytes 4 count ++ rest)
unfolding header_bytes field_bytes
header_back version count rest = refl

header_len : (version : Version) (count : ℕ) → length (header_bytes version count) ≡ 16
unfolding header_bytes field_bytes
header_len version count = refl

module _ (bytes : List ℕ) (version : Version) (count : ℕ) (few : count ≤ 256) (long : 16 ≤ length bytes) (magic : take 8 bytes ≡ codes "PURECAPI")
    (number : number_at 4 bytes 8 ≡ version_number version) (many : number_at 4 bytes 12 ≡ count) where
  header_is : header_of bytes ≡ Ok (record { version = version; count = count })
  unfolding header_of
  header_is = rw (le-leb 8 (length bytes) (omega (arith, long)), magic, le-leb 12 (length bytes) (omega (arith, long)), number, version_is version, le-leb 16 (length bytes) long, many, le-ltb 256 count few) refl

pub header_read : (version : Version) (count : ℕ) (rest : List ℕ) → count ≤ 256 → header_of (header_bytes version count ++ rest) ≡ Ok (record { version = version; count = count })
header_read version count rest few =
    let bytes = header_bytes version count ++ rest in
    let h8 = header_back version count rest in
    let h12 : drop 12 bytes ≡ field_bytes 4 count ++ rest = behind_number bytes 8 12 4 (version_number version) (field_bytes 4 count ++ rest) refl h8 in
    let long : 16 ≤ length bytes = omega (arith, length-append (header_bytes version count) rest, header_len version count) in
    header_is bytes version count few long (header_front version count rest)
    (number_is bytes 8 4 (version_number version) (field_bytes 4 count ++ rest) (version_small version) h8)
    (number_is bytes 12 4 count rest (omega (arith, few)) h12)

pub behind_header : (version : Version) (count : ℕ) (rest : List ℕ) → drop 16 (header_bytes version count ++ rest) ≡ rest
unfolding header_bytes field_bytes
behind_header version count rest = refl

-- ---- the records

-- the record of an object, at a place
abbrev pub record_for : ℕ → ImageObject → ObjectRecord
record_for at o = record { base = o.base; size = length o.bytes; name_at = at + 18; name_len = length o.name }

-- the records of objects, one behind another
abbrev pub records_from : ℕ → List ImageObject → List ObjectRecord
records_from at [] = []
records_from at (o ∷ os) = record_for at o ∷ records_from (at + 18 + length o.name) os

-- the names of the objects stand in their records
abbrev pub NamesStand : List ℕ → ℕ → List ImageObject → Type 0
NamesStand bytes at [] = Unit {0}
NamesStand bytes at (o ∷ os) = (piece bytes (at + 18) (length o.name) ≡ o.name) × NamesStand bytes (at + 18 + length o.name) os

-- a record that stands at a place
record RecordStands (bytes : List ℕ) (at : ℕ) (o : ImageObject) (rest : List ℕ) : Type 0 where
  base : number_at 8 bytes at ≡ o.base
  size : number_at 8 bytes (at + 8) ≡ length o.bytes
  len : number_at 2 bytes (at + 16) ≡ length o.name
  name : piece bytes (at + 18) (length o.name) ≡ o.name
  whole : at + 18 + length o.name ≤ length bytes
  next : drop (at + 18 + length o.name) bytes ≡ rest

record_shape : (o : ImageObject) (rest : List ℕ) → object_bytes o ++ rest ≡ field_bytes 8 o.base ++ (field_bytes 8 (length o.bytes) ++ (field_bytes 2 (length o.name) ++ (o.name ++ rest)))
unfolding object_record name_bytes field_bytes
record_shape o rest = refl

record_len : (o : ImageObject) (rest : List ℕ) → 18 + length o.name ≤ length (object_bytes o ++ rest)
record_len o rest =
    let f8 = field_len 8 o.base in
    let s8 = field_len 8 (length o.bytes) in
    let l2 = field_len 2 (length o.name) in
    let a = length-append (field_bytes 8 o.base) (field_bytes 8 (length o.bytes) ++ (field_bytes 2 (length o.name) ++ (o.name ++ rest))) in
    let b = length-append (field_bytes 8 (length o.bytes)) (field_bytes 2 (length o.name) ++ (o.name ++ rest)) in
    let c = length-append (field_bytes 2 (length o.name)) (o.name ++ rest) in
    let d = length-append o.name rest in
    let e = ap length (record_shape o rest) in
    omega (arith, f8, s8, l2, a, b, c, d, e)

record_stands : (bytes : List ℕ) (at : ℕ) (o : ImageObject) (rest : List ℕ) → IsObject o → drop at bytes ≡ object_bytes o ++ rest → RecordStands bytes at o rest
record_stands bytes at o rest is h =
    let h0 : drop at bytes ≡ field_bytes 8 o.base ++ (field_bytes 8 (length o.bytes) ++ (field_bytes 2 (length o.name) ++ (o.name ++ rest))) = h ∙ record_shape o rest in
    let h8 : drop (at + 8) bytes ≡ field_bytes 8 (length o.bytes) ++ (field_bytes 2 (length o.name) ++ (o.name ++ rest)) = behind_number bytes at (at + 8) 8 o.base _ refl h0 in
    let h16 : drop (at + 16) bytes ≡ field_bytes 2 (length o.name) ++ (o.name ++ rest) = behind_number bytes (at + 8) (at + 16) 8 (length o.bytes) _ (omega arith) h8 in
    let h18 : drop (at + 18) bytes ≡ o.name ++ rest = behind_number bytes (at + 16) (at + 18) 2 (length o.name) _ (omega arith) h16 in
    let long = record_len o rest in
    let all : at + (18 + length o.name) ≤ length bytes = room bytes at (18 + length o.name) (object_bytes o ++ rest) h (omega arith) long in
    let within : o.base + length o.bytes ≤ space_end = is.within in
    let short : length o.name ≤ 255 = is.short_name in
    record {
      base = number_is bytes at 8 o.base _ (omega (arith, within)) h0;
      size = number_is bytes (at + 8) 8 (length o.bytes) _ (omega (arith, within)) h8;
      len = number_is bytes (at + 16) 2 (length o.name) _ (omega (arith, short)) h16;
      name = piece_is bytes (at + 18) (length o.name) o.name rest refl h18;
      whole = omega (arith, all);
      next = behind bytes (at + 18) (at + 18 + length o.name) o.name rest refl h18;
    }

placed_is : (floor : ℕ) (o : ImageObject) → IsObject o → floor ≤ o.base → is_placed floor o.base (length o.bytes) ≡ true
placed_is floor o is above =
    let some : 0 < length o.bytes = is.some_bytes in
    rw (eq-eqb (o.base % 4096) 0 is.base_in_pages, eq-eqb (length o.bytes % 4096) 0 is.size_in_pages, ne_eqb (length o.bytes) 0 (λ e. omega (arith, e, some)), le-leb floor o.base above, le-leb (o.base + length o.bytes) space_end is.within) refl

name_length_is : (o : ImageObject) → IsObject o → is_name_length (length o.name) ≡ true
name_length_is o is =
    let some : 0 < length o.name = is.some_name in
    rw (ne_eqb (length o.name) 0 (λ e. omega (arith, e, some)), le-leb (length o.name) 255 is.short_name) refl

-- as many records were read behind others
pub record RecordsRead (bytes : List ℕ) (at : ℕ) (before : List ObjectRecord) (os : List ImageObject) (rest : List ℕ) (read : Result Records Fault) : Type 0 where
  pub records : Records
  pub is : read ≡ Ok records
  pub items : records.items ≡ before ++ records_from at os
  pub names : NamesStand bytes at os
  pub next : drop records.at bytes ≡ rest

module _ (bytes : List ℕ) where
  one_read : (floor at : ℕ) (o : ImageObject) (rest : List ℕ) → IsObject o → floor ≤ o.base → RecordStands bytes at o rest → record_at bytes floor at ≡ Ok (record_for at o)
  unfolding record_at
  one_read floor at o rest is above s =
      let whole : at + 18 + length o.name ≤ length bytes = s.whole in
      rw (le-leb (at + 16) (length bytes) (omega (arith, whole)), s.base, s.size, placed_is floor o is above, le-leb (at + 18) (length bytes) (omega (arith, whole)), s.len, name_length_is o is, le-leb (at + 18 + length o.name) (length bytes) whole, s.name, is.plain_name) refl

  added : (acc : Records) (o : ImageObject) (rest : List ℕ) → IsObject o → acc.floor ≤ o.base → RecordStands bytes acc.at o rest → add_record bytes acc ≡ Ok (with_record acc (record_for acc.at o))
  unfolding add_record
  added acc o rest is above s = ap (λ (r : Result ObjectRecord Fault). r >>= λ next. Ok (with_record acc next)) (one_read acc.floor acc.at o rest is above s)

  pub all_read : (os : List ImageObject) (acc : Records) (rest : List ℕ) → All IsObject os → Ascend acc.floor (map interval_of os) space_end
      → drop acc.at bytes ≡ flat_map object_bytes os ++ rest → RecordsRead bytes acc.at acc.items os rest (repeated (add_record bytes) (length os) acc)
  unfolding Ascend
  all_read [] acc rest are up h = record { records = acc; is = refl; items = sym (append-nil acc.items); names = tt; next = h }
  all_read (o ∷ os) acc rest are up h =
      let shape : drop acc.at bytes ≡ object_bytes o ++ (flat_map object_bytes os ++ rest) = h ∙ append_assoc (object_bytes o) (flat_map object_bytes os) rest in
      let is : IsObject o = are zero o (omega arith) in
      let s = record_stands bytes acc.at o (flat_map object_bytes os ++ rest) is shape in
      let after = with_record acc (record_for acc.at o) in
      let step : add_record bytes acc ≡ Ok after = added acc o (flat_map object_bytes os ++ rest) is up.0 s in
      let rest_read = all_read os after rest (λ k d lt. are (suc k) d (omega (arith, lt))) up.1 s.next in
      record {
        records = rest_read.records;
        is = ap (λ (r : Result Records Fault). r >>= λ b. repeated (add_record bytes) (length os) b) step ∙ rest_read.is;
        items = rest_read.items ∙ append_assoc acc.items (record_for acc.at o ∷ []) (records_from (acc.at + 18 + length o.name) os);
        names = (s.name, rest_read.names);
        next = rest_read.next;
      }

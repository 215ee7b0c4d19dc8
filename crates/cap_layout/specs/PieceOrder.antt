-- The order of the pieces of sections, by which they are found.
use Rattle.std.specs.Prelude.{◌≡◌, ◌⊎◌, ℕ, ◌+◌, ◌<◌, ◌≤◌, Bool, true, false, ◌&&◌, nat_lt, nat_le, ◌==◌, if◌then◌else◌, List, [], map, length, slice_index_or, All}
use Rattle.cap_elf.specs.declared.records.Class.{Class}
use Rattle.cap_elf.specs.declared.records.Class.TheVariants.{Ro, Code, Init, Fini, Relro, Data, Bss, Dropped}
use Rattle.cap_elf.specs.RelObject.{RelObject}
use Rattle.cap_layout.specs.declared.piece.Piece.{Piece}
use Rattle.cap_layout.specs.Pieces.{piece_of, is_of_section}
use Rattle.cap_layout.specs.IsPiece.{IsPiece}
use Rattle.cap_layout.specs.Places.{InClassOrder}

-- the place of a class in the order of the pieces
abbrev pub rank : Class → ℕ
rank Ro = 0
rank Code = 1
rank Init = 2
rank Fini = 3
rank Relro = 4
rank Data = 5
rank Bss = 6
rank Dropped = 7

abbrev pub section_classes : RelObject → List Class
section_classes object = map (λ s. s.class) object.sections

-- the class of a section of a file; past the ends none is kept
abbrev pub class_at : List (List Class) → ℕ → ℕ → Class
class_at classes file section = slice_index_or (slice_index_or classes file []) section Dropped

-- by class, file and section; in one section a piece ends where a later one begins, or before
abbrev pub Before : Piece → Piece → Type 0
Before p q =
    (rank p.class < rank q.class)
    ⊎ ((rank p.class ≡ rank q.class)
    × ((p.file < q.file)
    ⊎ ((p.file ≡ q.file)
    × ((p.place < q.place)
    ⊎ ((p.place ≡ q.place) × (p.start + p.size ≤ q.start) × (p.start < q.start))))))

-- the piece begins at this offset of this section, or stands before it
abbrev pub is_up_to : ℕ → ℕ → ℕ → ℕ → Piece → Bool
is_up_to order file section offset p =
    if rank p.class == order then (if p.file == file then (if p.place == section then nat_le p.start offset else nat_lt p.place section) else nat_lt p.file file) else nat_lt (rank p.class) order

-- so many pieces of sections, class by class and in order, each of the class of its section, and then those of common symbols
pub record AreOrdered (all : List Piece) (sections : ℕ) (classes : List (List Class)) : Type 0 where
  pub few : sections ≤ length all
  pub pieces_are : All IsPiece all
  pub grouped : InClassOrder all
  pub front : (k : ℕ) → k < sections → (piece_of all k).common ≡ false
  pub back : (k : ℕ) → sections ≤ k → k < length all → (piece_of all k).common ≡ true
  pub classes_are : (k : ℕ) → k < sections → (piece_of all k).class ≡ class_at classes (piece_of all k).file (piece_of all k).place
  pub ordered : (i j : ℕ) → i < j → j < sections → Before (piece_of all i) (piece_of all j)

abbrev pub end_of : Piece → ℕ
end_of p = p.start + p.size

-- of the pieces of a section, this is the last that begins at an offset or before it; the earlier ones end at its start at
-- most
pub record IsLastFrom (all : List Piece) (file section offset i : ℕ) : Type 0 where
  pub inside : i < length all
  pub here : is_of_section file section (piece_of all i) ≡ true
  pub begins : (piece_of all i).start ≤ offset
  pub behind : (k : ℕ) → i < k → k < length all → is_of_section file section (piece_of all k) ≡ true → offset < (piece_of all k).start
  pub before : (k : ℕ) → k < i → is_of_section file section (piece_of all k) ≡ true → end_of (piece_of all k) ≤ (piece_of all i).start

-- no piece of the section begins at the offset or before it
abbrev pub NoneFrom : List Piece → ℕ → ℕ → ℕ → Type 0
NoneFrom all file section offset =
    (k : ℕ) → k < length all → is_of_section file section (piece_of all k) ≡ true → offset < (piece_of all k).start

-- among the pieces of sections, that of this number is of this section, and begins at the offset or before it
abbrev pub begins_by : List Piece → ℕ → ℕ → ℕ → ℕ → ℕ → Bool
begins_by all sections file section offset i =
    nat_lt i sections && (piece_of all i).file == file && (piece_of all i).place == section && nat_le (piece_of all i).start offset

-- The bytes of pieces, stubs and slots before code is relocated.
use Rattle.std.specs.Prelude.{◌≡◌, ℕ, ◌+◌, ◌-◌, ◌*◌, ◌<◌, if◌then◌else◌, ℤ, pos, List, [], ◌++◌, map, fold, length, slice_range, slice_index_or, slice_set, replicate, take, drop}
use Rattle.std.specs.List.{flat_map}
use Rattle.cap_base.specs.Field.{number_bytes}
use Rattle.cap_elf.specs.Classes.{is_bss}
use Rattle.cap_elf.specs.RelObject.{RelObject, file_of, bytes_of}
use Rattle.cap_layout.specs.declared.piece.Piece.{Piece}
use Rattle.cap_layout.specs.Pieces.{piece_of}
use Rattle.cap_table.specs.declared.target.Target.{Target}
use Rattle.cap_table.specs.declared.target.Step.{Step}
use Rattle.cap_table.specs.Kinds.{width_of}
use Rattle.cap_table.specs.Targets.{Named, is_fixed, fixed_value}
use Rattle.cap_table.specs.Checks.{reloc_of, target_at}
use Rattle.cap_table.specs.Planned.{Planned, fields_of}

-- the bytes of every piece, of the stubs and of the slots
pub record BodiesValue : Type 0 where
  pub pieces : List (List ℕ)
  pub stubs : List ℕ
  pub slots : List ℕ

abbrev pub zeros : ℕ → List ℕ
zeros n = replicate n 0

-- the bytes with others in the place of some, from `at` on
abbrev pub put : List ℕ → ℕ → List ℕ → List ℕ
put bytes at with = take at bytes ++ with ++ drop (at + length with) bytes

abbrev pub piece_bytes : List (List ℕ) → ℕ → List ℕ
piece_bytes pieces k = slice_index_or pieces k []

-- the same in the piece of a number
abbrev pub put_in : List (List ℕ) → ℕ → ℕ → List ℕ → List (List ℕ)
put_in pieces k offset with = slice_set pieces k (put (piece_bytes pieces k) offset with)

-- what a relocated field holds in the file: a fixed value, and else zeros
unfoldable pub held : ℕ → Target → ℤ → List ℕ
held kind t addend =
    if is_fixed t then number_bytes 8 (fixed_value t addend) ++ zeros (width_of kind - 8) else zeros (width_of kind)

-- the bytes of a piece in its section, with zeros up to its padded size; none where it has none in the file
abbrev pub source_bytes : List RelObject → Piece → List ℕ
source_bytes rels p =
    if is_bss p.class then [] else slice_range (bytes_of (file_of rels p.file) p.place) p.start (p.start + p.size) ++ zeros (p.padded - p.size)

-- where the field of a step begins in its piece
abbrev pub offset_in_piece : List RelObject → List Piece → Step → ℕ
offset_in_piece rels pieces s = (reloc_of rels s).offset - (piece_of pieces s.piece).start

-- the pieces with one more field
unfoldable pub with_held : Named → List Piece → List (List ℕ) → Step → List (List ℕ)
with_held named pieces bodies s =
    put_in bodies s.piece (offset_in_piece named.rels pieces s) (held (reloc_of named.rels s).kind (target_at named s) (reloc_of named.rels s).addend)

abbrev pub slot_held : Target → List ℕ
slot_held t = held 193 t (pos 0)

unfoldable pub plain_of : Named → Planned → List Piece → BodiesValue
plain_of named plan pieces = record {
  pieces = fold (with_held named pieces) (map (source_bytes named.rels) pieces) (fields_of named plan.steps);
  stubs = zeros (16 * length plan.stubs);
  slots = flat_map slot_held plan.slots;
}

-- how long the bytes are
abbrev pub body_length : Piece → ℕ
body_length p = if is_bss p.class then 0 else p.padded

pub record AreLong (pieces : List Piece) (plan : Planned) (bodies : BodiesValue) : Type 0 where
  pub count : length bodies.pieces ≡ length pieces
  pub each : (k : ℕ) → k < length pieces → length (piece_bytes bodies.pieces k) ≡ body_length (piece_of pieces k)
  pub stubs : length bodies.stubs ≡ 16 * length plan.stubs
  pub slots : length bodies.slots ≡ 16 * length plan.slots

-- The layout: pieces that follow one another, and the parts of the file.
use Rattle.std.specs.Prelude.{◌≡◌, ℕ, ◌+◌, ◌-◌, ◌*◌, ◌≤◌, ◌^◌, true, List, [], ◌∷◌, ◌++◌, length}
use Rattle.std.specs.Int.{next_multiple_of, is_power_of_two}
use Rattle.std.specs.List.{AllByRecursion}
use Rattle.cap_readback.specs.Spread.{Chunk}
use Rattle.cap_readback.specs.View.{Content, strings, symbol_count, dynamics}
use Rattle.cap_readback.specs.File.{Bodies}

-- a piece: its alignment, its padded size, and its bytes
pub record Piece : Type 0 where
  pub align : ℕ
  pub padded : ℕ
  pub bytes : List ℕ

abbrev pub address_after : ℕ → Piece → ℕ
address_after end p = next_multiple_of end p.align

abbrev pub end_after : ℕ → Piece → ℕ
end_after end p = address_after end p + p.padded

abbrev pub last_end : ℕ → List Piece → ℕ
last_end end [] = end
last_end end (p ∷ ps) = last_end (end_after end p) ps

-- the pieces at their addresses
abbrev pub pieces_at : ℕ → List Piece → List Chunk
pieces_at end [] = []
pieces_at end (p ∷ ps) = (address_after end p, p.bytes) ∷ pieces_at (end_after end p) ps

abbrev pub AreFilled : List Piece → Type 0
AreFilled ps = AllByRecursion (λ p. length p.bytes ≡ p.padded) ps

-- an array begins at a multiple of 16, and the pieces after it follow it only if it has any
abbrev pub array_start : ℕ → List Piece → ℕ
array_start end [] = end
array_start end (p ∷ ps) = next_multiple_of end 16

abbrev pub array_end : ℕ → List Piece → ℕ
array_end end ps = last_end (array_start end ps) ps

-- the pieces of each class
pub record Pieces : Type 0 where
  pub ro : List Piece
  pub code : List Piece
  pub init : List Piece
  pub fini : List Piece
  pub relro : List Piece
  pub written : List Piece
  pub zero : List Piece
  pub stubs : List ℕ
  pub slots : List ℕ

abbrev pub slots_end : Content → Pieces → ℕ
slots_end c p = c.at.slots_at + length p.slots

abbrev pub init_end : Content → Pieces → ℕ
init_end c p = array_end (slots_end c p) p.init

abbrev pub fini_end : Content → Pieces → ℕ
fini_end c p = array_end (init_end c p) p.fini

abbrev pub relro_end : Content → Pieces → ℕ
relro_end c p = last_end (fini_end c p) p.relro

-- the parts are these
pub record IsLayout (c : Content) (p : Pieces) : Type 0 where
  pub symbols_at : c.at.symbols_at ≡ 400
  pub relas_at : c.at.relas_at ≡ c.at.symbols_at + 24 * symbol_count c
  pub caps_at : c.at.cap_relocs_at ≡ c.at.relas_at + 24 * length c.relas
  pub hash_at : c.at.hash_at ≡ c.at.cap_relocs_at + 40 * length c.caps
  pub names_at : c.at.names_at ≡ c.at.hash_at + 4 * (2 + c.buckets + symbol_count c)
  pub ro_end : c.at.ro_end ≡ last_end (c.at.names_at + length (strings c)) p.ro
  pub code_start : c.at.code_start ≡ next_multiple_of c.at.ro_end 4096
  pub stubs_at : c.at.stubs_at ≡ c.at.code_start
  pub code_end : c.at.code_end ≡ last_end (c.at.stubs_at + length p.stubs) p.code
  pub table_start : c.at.table_start ≡ next_multiple_of c.at.code_end 4096
  pub dynamic_at : c.at.dynamic_at ≡ c.at.table_start
  pub slots_at : c.at.slots_at ≡ c.at.dynamic_at + 16 * length (dynamics c)
  pub init_at : c.at.init_at ≡ next_multiple_of (slots_end c p) 16
  pub init_size : c.at.init_size ≤ init_end c p - next_multiple_of (slots_end c p) 16
  pub fini_at : c.at.fini_at ≡ next_multiple_of (init_end c p) 16
  pub fini_size : c.at.fini_size ≤ fini_end c p - next_multiple_of (init_end c p) 16
  pub table_end : next_multiple_of (relro_end c p) 4096 ≤ c.at.table_end
  pub data_start : c.at.data_start ≡ c.at.table_end
  pub file_end : c.at.file_end ≡ last_end c.at.table_end p.written
  pub mem_end : c.at.mem_end ≡ last_end c.at.file_end p.zero
  pub low : c.at.mem_end ≤ 2 ^ 26
  pub power : is_power_of_two c.at.align ≡ true
  pub page : 4096 ≤ c.at.align
  pub small : c.at.align ≤ 2 ^ 26
  pub word_count : length c.more ≡ c.buckets + symbol_count c
  pub ro : AreFilled p.ro
  pub code : AreFilled p.code
  pub init : AreFilled p.init
  pub fini : AreFilled p.fini
  pub relro : AreFilled p.relro
  pub written : AreFilled p.written

abbrev pub bodies_of : Content → Pieces → Bodies
bodies_of c p = record {
  ro = pieces_at (c.at.names_at + length (strings c)) p.ro;
  stubs = p.stubs;
  code = pieces_at (c.at.stubs_at + length p.stubs) p.code;
  slots = p.slots;
  tables = pieces_at (array_start (slots_end c p) p.init) p.init ++ (pieces_at (array_start (init_end c p) p.fini) p.fini ++ pieces_at (fini_end c p) p.relro);
  written = pieces_at c.at.table_end p.written;
}

-- The parts of a linked file, each at its address.
use Rattle.std.specs.Prelude.{◌≡◌, ℕ, List, [], ◌∷◌, ◌++◌, length, map, replicate, option_to_list}
use Rattle.std.specs.List.{flat_map}
use Rattle.cap_readback.specs.Stands.{fields}
use Rattle.cap_readback.specs.Spread.{Chunk}
use Rattle.cap_readback.specs.Written.{header_fields, segment_bytes, headers_of_file}
use Rattle.cap_readback.specs.Lists.{entry_bytes}
use Rattle.cap_readback.specs.Content.{symbol_bytes, reloc_bytes, cap_bytes, word_bytes, names_from}
use Rattle.cap_readback.specs.View.{Content, strings, dynamics, words}

-- what stands between the tables: pieces at their addresses, stubs and slots
pub record Bodies : Type 0 where
  pub ro : List Chunk
  pub stubs : List ℕ
  pub code : List Chunk
  pub slots : List ℕ
  pub tables : List Chunk
  pub written : List Chunk

abbrev pub chunks : Content → Bodies → List Chunk
chunks c b =
    (0, fields (header_fields c.flags c.entry))
    ∷ (64, flat_map segment_bytes (headers_of_file c.at (length (dynamics c))))
    ∷ (c.at.symbols_at, replicate 24 0 ++ flat_map symbol_bytes c.symbols)
    ∷ (c.at.relas_at, flat_map reloc_bytes c.relas)
    ∷ (c.at.cap_relocs_at, flat_map cap_bytes c.caps)
    ∷ (c.at.hash_at, flat_map word_bytes (words c))
    ∷ (c.at.names_at, strings c)
    ∷ (b.ro ++ ((c.at.stubs_at, b.stubs) ∷ (b.code ++ ((c.at.dynamic_at, flat_map entry_bytes (dynamics c)) ∷ (c.at.slots_at, b.slots) ∷ (b.tables ++ ((c.at.table_end, []) ∷ b.written))))))

-- the names of the symbols, the own name and the needed names are those of the string table, in order
abbrev pub AreNamed : Content → Type 0
AreNamed c = map (λ p. p.name) c.symbols ++ (option_to_list c.own ++ c.needed) ≡ names_from 1 c.names

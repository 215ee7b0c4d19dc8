-- A link as the plan of a file that can be read back.
use Rattle.std.specs.Prelude.{ℕ, ◌+◌, List, [], ◌∷◌, ◌++◌, map, filter, zip, length, drop, Option, Some, None, option_to_list}
use Rattle.cap_chain.specs.Words.{bucket_count}
use Rattle.cap_elf.specs.declared.records.Class.{Class}
use Rattle.cap_elf.specs.declared.records.Class.TheVariants.{Ro, Code, Init, Fini, Relro, Data, Bss}
use Rattle.cap_elf.specs.Classes.{same_class}
use Rattle.cap_layout.specs.declared.piece.Piece.{Piece as PieceOfSection}
use Rattle.cap_table.specs.Lists.{DynSymbolValue}
use Rattle.cap_emit.specs.File.{hash_words}
use Rattle.cap_readback.specs.Content.{Name, Planned, names_from}
use Rattle.cap_readback.specs.View.{Content}
use Rattle.cap_readback.specs.Layout.{Piece, Pieces}
use Rattle.cap_link.specs.Linked.{Linked}

-- a symbol whose name begins at an offset of the string table
abbrev pub planned_symbol : ℕ → DynSymbolValue → Planned
planned_symbol at s = record {
  name = (at, s.name);
  symbol = record { binding = s.binding; kind = s.kind; visibility = s.visibility; section = s.section; value = s.value; size = s.size };
}

-- symbols whose names follow one another
abbrev pub planned_from : ℕ → List DynSymbolValue → List Planned
planned_from at [] = []
planned_from at (s ∷ ss) = planned_symbol at s ∷ planned_from (at + length s.name + 1) ss

-- where the next name begins
abbrev pub names_end : ℕ → List (List ℕ) → ℕ
names_end at [] = at
names_end at (name ∷ names) = names_end (at + length name + 1) names

abbrev pub own_from : ℕ → Option (List ℕ) → Option Name
own_from at None = None
own_from at (Some name) = Some (at, name)

abbrev pub names_of_symbols : List DynSymbolValue → List (List ℕ)
names_of_symbols symbols = map (λ s. s.name) symbols

-- the symbols after the null symbol
abbrev pub named_symbols : Linked → List DynSymbolValue
named_symbols l = drop 1 l.lists.symbols

abbrev pub string_names : Linked → List (List ℕ)
string_names l = names_of_symbols (named_symbols l) ++ (option_to_list l.lists.plan.soname ++ l.lists.plan.needed)

-- where the file's own name begins, and the first needed name
abbrev pub own_at : Linked → ℕ
own_at l = names_end 1 (names_of_symbols (named_symbols l))

abbrev pub needed_at : Linked → ℕ
needed_at l = names_end (own_at l) (option_to_list l.lists.plan.soname)

unfoldable pub content_of : Linked → Content
content_of l = record {
  at = l.laid.parts;
  flags = l.flags;
  entry = l.entry;
  symbols = planned_from 1 (named_symbols l);
  relas = l.lists.relas;
  caps = l.lists.cap_relocs;
  buckets = bucket_count (length l.lists.symbols);
  more = drop 2 (hash_words l.lists);
  names = string_names l;
  needed = names_from (needed_at l) l.lists.plan.needed;
  own = own_from (own_at l) l.lists.plan.soname;
  has_init = l.lists.plan.has_init;
  has_fini = l.lists.plan.has_fini;
}

-- the pieces of a class with their bytes
abbrev pub piece_with : PieceOfSection × List ℕ → Piece
piece_with p = record { align = p.0.align; padded = p.0.padded; bytes = p.1 }

abbrev pub filled_of : Class → List PieceOfSection → List (List ℕ) → List Piece
filled_of class pieces bodies = map piece_with (filter (λ p. same_class p.0.class class) (zip pieces bodies))

abbrev pub filled_in : Linked → Class → List Piece
filled_in l class = filled_of class l.laid.pieces.all l.bodies.pieces

unfoldable pub pieces_by_class : Linked → Pieces
pieces_by_class l = record {
  ro = filled_in l Ro;
  code = filled_in l Code;
  init = filled_in l Init;
  fini = filled_in l Fini;
  relro = filled_in l Relro;
  written = filled_in l Data;
  zero = filled_in l Bss;
  stubs = l.bodies.stubs;
  slots = l.bodies.slots;
}

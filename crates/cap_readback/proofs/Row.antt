-- A worked file: one symbol, one capability in data. The plan has all that the law asks.
use Rattle.std.proofs.Common.{◌≡◌, false, [], ◌∷◌, replicate, None, Ok, refl, arith}
use Rattle.cap_elf.specs.DynView.{dyn_view}
use Rattle.cap_layout.specs.declared.parts.Parts.{Parts}
use Rattle.cap_readback.specs.Content.{Planned}
use Rattle.cap_readback.specs.View.{Content, view_of}
use Rattle.cap_readback.specs.Layout.{Pieces, IsLayout}
use Rattle.cap_readback.specs.Law.{file_of, IsPlan}
use Rattle.cap_readback.proofs.Law.{link-reads-back}

abbrev row_parts : Parts
row_parts = record {
  ro_end = 0x1FF;
  code_start = 0x1000;
  code_end = 0x1000;
  table_start = 0x1000;
  table_end = 0x2000;
  data_start = 0x2000;
  file_end = 0x2010;
  mem_end = 0x2010;
  symbols_at = 0x190;
  relas_at = 0x1C0;
  cap_relocs_at = 0x1C0;
  hash_at = 0x1E8;
  names_at = 0x1FC;
  stubs_at = 0x1000;
  dynamic_at = 0x1000;
  slots_at = 0x1080;
  init_at = 0x1080;
  init_size = 0;
  fini_at = 0x1080;
  fini_size = 0;
  align = 4096;
}

abbrev row_symbol : Planned
row_symbol = record { name = (1, 0x71 ∷ []); symbol = record { binding = 1; kind = 1; visibility = 0; section = 1; value = 0x2000; size = 16 } }

abbrev row : Content
row = record {
  at = row_parts;
  flags = 0x30000;
  entry = 0;
  symbols = row_symbol ∷ [];
  relas = [];
  caps = (record { location = 0x2000; object = 0x2000; offset = 16; size = 16; permissions = 0; at = 0 }) ∷ [];
  buckets = 1;
  more = 1 ∷ 0 ∷ 0 ∷ [];
  names = (0x71 ∷ []) ∷ [];
  needed = [];
  own = None;
  has_init = false;
  has_fini = false;
}

abbrev row_pieces : Pieces
row_pieces = record { ro = []; code = []; init = []; fini = []; relro = []; written = (record { align = 16; padded = 16; bytes = replicate 16 0 }) ∷ []; zero = []; stubs = []; slots = [] }

row-layout : IsLayout row row_pieces
unfolding lib.Count.ones
row-layout = record {
  symbols_at = refl;
  relas_at = refl;
  caps_at = refl;
  hash_at = refl;
  names_at = refl;
  ro_end = refl;
  code_start = refl;
  stubs_at = refl;
  code_end = refl;
  table_start = refl;
  dynamic_at = refl;
  slots_at = refl;
  init_at = refl;
  init_size = omega arith;
  fini_at = refl;
  fini_size = omega arith;
  table_end = omega arith;
  data_start = refl;
  file_end = refl;
  mem_end = refl;
  low = omega arith;
  power = refl;
  page = omega arith;
  small = omega arith;
  word_count = refl;
  ro = tt;
  code = tt;
  init = tt;
  fini = tt;
  relro = tt;
  written = (refl, tt);
}

row-plan : IsPlan row row_pieces
row-plan = record {
  layout = row-layout;
  named = refl;
  flags = omega arith;
  pure = refl;
  entry = omega arith;
  few_symbols = omega arith;
  few_relocs = omega arith;
  some_bucket = omega arith;
  words = (omega arith, (omega arith, (omega arith, tt)));
  symbols = (record { printable = refl; some = omega arith; short = omega arith; kind = omega arith; binding = omega arith; visibility = omega arith; section = refl; section_fits = omega arith; value_fits = omega arith; size_fits = omega arith }, tt);
  new = (refl, tt);
  relas = tt;
  caps = ((omega arith, (omega arith, (omega arith, (omega arith, (omega arith, tt))))), tt);
  own = tt;
  needed = tt;
}

pub row-reads-back : dyn_view (file_of row row_pieces) ≡ Ok (view_of row)
row-reads-back = link-reads-back row row_pieces row-plan refl

-- The shared object that a linked file is, record by record as planned.
use Rattle.std.specs.Prelude.{ℕ, ◌+◌, ◌*◌, ◌%◌, Bool, false, ◌&&◌, ◌==◌, nat_le, if◌then◌else◌, List, ◌++◌, map, length, option_to_list, Some}
use Rattle.std.specs.Int.{next_multiple_of}
use Rattle.std.specs.List.{enumerate_from, list_all}
use Rattle.cap_elf.specs.declared.records.Symbol.{Symbol}
use Rattle.cap_elf.specs.declared.records.CapReloc.{CapReloc}
use Rattle.cap_elf.specs.declared.records.DynReloc.{DynReloc}
use Rattle.cap_elf.specs.Names.{is_file_name}
use Rattle.cap_elf.specs.Records.{place_of}
use Rattle.cap_elf.specs.DynView.{DynRecords}
use Rattle.cap_table.specs.Lists.{DynSymbolValue}
use Rattle.cap_emit.specs.Records.{segments_of}
use Rattle.cap_emit.specs.File.{hash_words}
use Rattle.cap_link.specs.Linked.{Linked}

-- each record as it is read back, with the offset at which it stands
abbrev pub symbol_read : ℕ → ℕ × DynSymbolValue → Symbol
symbol_read symbols_at p = record {
  binding = p.1.binding;
  kind = p.1.kind;
  visibility = p.1.visibility;
  place = place_of p.1.section;
  value = p.1.value;
  size = p.1.size;
  at = symbols_at + 24 * p.0;
}

abbrev pub rela_read : ℕ → ℕ × DynReloc → DynReloc
rela_read relas_at p = record p.1 { at = relas_at + 24 * p.0 }

abbrev pub cap_reloc_read : ℕ → ℕ × CapReloc → CapReloc
cap_reloc_read cap_relocs_at p = record p.1 { at = cap_relocs_at + 40 * p.0 }

-- an array is there where its class has bytes
abbrev pub array_at : Bool → ℕ → ℕ
array_at has at = if has then at else 0

unfoldable pub linked_view : Linked → DynRecords
linked_view l =
    let at = l.laid.parts in
    record {
      flags = l.flags;
      segments = segments_of at;
      relro = Some (at.table_start, at.table_end);
      symbols = map (symbol_read at.symbols_at) (enumerate_from 0 l.lists.symbols);
      names = map (λ s. s.name) l.lists.symbols;
      relocs = map (rela_read at.relas_at) (enumerate_from 0 l.lists.relas);
      cap_relocs = map (cap_reloc_read at.cap_relocs_at) (enumerate_from 0 l.lists.cap_relocs);
      hash_words = hash_words l.lists;
      hash_at = at.hash_at;
      arrays = record {
        init_at = array_at l.lists.plan.has_init at.init_at;
        init_size = at.init_size;
        fini_at = array_at l.lists.plan.has_fini at.fini_at;
        fini_size = at.fini_size;
      };
      needed = l.lists.plan.needed;
      soname = l.lists.plan.soname;
      symbolic = false;
      span = next_multiple_of at.mem_end 4096;
      align = at.align;
    }

-- a link whose file a reader takes: its arrays have whole capabilities, and its names are those of libraries
abbrev pub is_library_name : List ℕ → Bool
is_library_name name = is_file_name name && nat_le (length name) 255

abbrev pub is_plain : Linked → Bool
is_plain l =
    l.laid.parts.init_size % 16 == 0 && l.laid.parts.fini_size % 16 == 0 && list_all is_library_name (l.lists.plan.needed ++ option_to_list l.lists.plan.soname)

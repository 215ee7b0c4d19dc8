-- The tags of the dynamic table.
use Rattle.std.specs.Prelude.{ℕ, Bool, ◌&&◌, ◌||◌, ◌==◌, bit_and}
use Rattle.cap_elf.specs.declared.decode.DynEntry.{DynEntry}
use Rattle.cap_elf.specs.Numbers.{DT_HASH, DT_STRTAB, DT_SYMTAB, DT_RELA, DT_RELASZ, DT_RELAENT, DT_STRSZ, DT_SYMENT, DT_SONAME, DT_SYMBOLIC, DT_PLTRELSZ, DT_PLTREL, DT_JMPREL, DT_INIT_ARRAY, DT_FINI_ARRAY, DT_INIT_ARRAYSZ, DT_FINI_ARRAYSZ, DT_CAP_RELOCS, DT_CAP_RELOCSZ, DT_REL, DT_TEXTREL, DT_PREINIT_ARRAY, DT_RELR, DT_VERSYM, DT_VERDEF, DT_VERNEED, DT_FLAGS, DF_TEXTREL}

-- the tags that stand once at most
unfoldable pub is_single : ℕ → Bool
is_single tag = tag == DT_HASH || tag == DT_STRTAB || tag == DT_SYMTAB || tag == DT_RELA || tag == DT_RELASZ || tag == DT_RELAENT || tag == DT_STRSZ || tag == DT_SYMENT || tag == DT_SONAME || tag == DT_SYMBOLIC || tag == DT_PLTRELSZ || tag == DT_PLTREL || tag == DT_JMPREL || tag == DT_INIT_ARRAY || tag == DT_FINI_ARRAY || tag == DT_INIT_ARRAYSZ || tag == DT_FINI_ARRAYSZ || tag == DT_CAP_RELOCS || tag == DT_CAP_RELOCSZ

-- entries that ask for what is not supported
unfoldable pub is_refused : DynEntry → Bool
is_refused e = e.tag == DT_REL || e.tag == DT_TEXTREL || e.tag == DT_PREINIT_ARRAY || e.tag == DT_RELR || e.tag == DT_VERSYM || e.tag == DT_VERDEF || e.tag == DT_VERNEED || (e.tag == DT_FLAGS && (bit_and e.value DF_TEXTREL == DF_TEXTREL))

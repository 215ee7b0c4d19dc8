-- The numbers of the standards, under their names there. Nothing here comes from the code.
use Rattle.std.specs.Prelude.{ℕ}

-- p_type (gABI, "Program Header")
abbrev pub PT_LOAD : ℕ
PT_LOAD = 1

abbrev pub PT_DYNAMIC : ℕ
PT_DYNAMIC = 2

abbrev pub PT_TLS : ℕ
PT_TLS = 7

-- p_type of GNU (Linux Standard Base, "Program Header")
abbrev pub PT_GNU_RELRO : ℕ
PT_GNU_RELRO = 0x6474e552

-- sh_type (gABI, "Sections")
abbrev pub SHT_PROGBITS : ℕ
SHT_PROGBITS = 1

abbrev pub SHT_SYMTAB : ℕ
SHT_SYMTAB = 2

abbrev pub SHT_STRTAB : ℕ
SHT_STRTAB = 3

abbrev pub SHT_RELA : ℕ
SHT_RELA = 4

abbrev pub SHT_NOTE : ℕ
SHT_NOTE = 7

abbrev pub SHT_NOBITS : ℕ
SHT_NOBITS = 8

abbrev pub SHT_REL : ℕ
SHT_REL = 9

abbrev pub SHT_INIT_ARRAY : ℕ
SHT_INIT_ARRAY = 14

abbrev pub SHT_FINI_ARRAY : ℕ
SHT_FINI_ARRAY = 15

abbrev pub SHT_PREINIT_ARRAY : ℕ
SHT_PREINIT_ARRAY = 16

abbrev pub SHT_GROUP : ℕ
SHT_GROUP = 17

abbrev pub SHT_SYMTAB_SHNDX : ℕ
SHT_SYMTAB_SHNDX = 18

-- sh_flags (gABI, "Sections")
abbrev pub SHF_WRITE : ℕ
SHF_WRITE = 0x1

abbrev pub SHF_ALLOC : ℕ
SHF_ALLOC = 0x2

abbrev pub SHF_EXECINSTR : ℕ
SHF_EXECINSTR = 0x4

abbrev pub SHF_TLS : ℕ
SHF_TLS = 0x400

abbrev pub SHF_COMPRESSED : ℕ
SHF_COMPRESSED = 0x800

-- d_tag (gABI, "Dynamic Section")
abbrev pub DT_NEEDED : ℕ
DT_NEEDED = 1

abbrev pub DT_PLTRELSZ : ℕ
DT_PLTRELSZ = 2

abbrev pub DT_HASH : ℕ
DT_HASH = 4

abbrev pub DT_STRTAB : ℕ
DT_STRTAB = 5

abbrev pub DT_SYMTAB : ℕ
DT_SYMTAB = 6

abbrev pub DT_RELA : ℕ
DT_RELA = 7

abbrev pub DT_RELASZ : ℕ
DT_RELASZ = 8

abbrev pub DT_RELAENT : ℕ
DT_RELAENT = 9

abbrev pub DT_STRSZ : ℕ
DT_STRSZ = 10

abbrev pub DT_SYMENT : ℕ
DT_SYMENT = 11

abbrev pub DT_SONAME : ℕ
DT_SONAME = 14

abbrev pub DT_SYMBOLIC : ℕ
DT_SYMBOLIC = 16

abbrev pub DT_REL : ℕ
DT_REL = 17

abbrev pub DT_PLTREL : ℕ
DT_PLTREL = 20

abbrev pub DT_TEXTREL : ℕ
DT_TEXTREL = 22

abbrev pub DT_JMPREL : ℕ
DT_JMPREL = 23

abbrev pub DT_INIT_ARRAY : ℕ
DT_INIT_ARRAY = 25

abbrev pub DT_FINI_ARRAY : ℕ
DT_FINI_ARRAY = 26

abbrev pub DT_INIT_ARRAYSZ : ℕ
DT_INIT_ARRAYSZ = 27

abbrev pub DT_FINI_ARRAYSZ : ℕ
DT_FINI_ARRAYSZ = 28

abbrev pub DT_FLAGS : ℕ
DT_FLAGS = 30

abbrev pub DT_PREINIT_ARRAY : ℕ
DT_PREINIT_ARRAY = 32

abbrev pub DT_RELR : ℕ
DT_RELR = 36

-- d_tag of GNU (Linux Standard Base, "Symbol Versioning")
abbrev pub DT_VERSYM : ℕ
DT_VERSYM = 0x6ffffff0

abbrev pub DT_VERDEF : ℕ
DT_VERDEF = 0x6ffffffc

abbrev pub DT_VERNEED : ℕ
DT_VERNEED = 0x6ffffffe

-- d_tag of the pure-capability profile, in the range of the processor (gABI, DT_LOPROC): the address and the size of
-- `__cap_relocs` (CheriABI)
abbrev pub DT_CAP_RELOCS : ℕ
DT_CAP_RELOCS = 0x7000c000

abbrev pub DT_CAP_RELOCSZ : ℕ
DT_CAP_RELOCSZ = 0x7000c001

-- the values of DT_FLAGS (gABI, "Dynamic Section")
abbrev pub DF_SYMBOLIC : ℕ
DF_SYMBOLIC = 0x2

abbrev pub DF_TEXTREL : ℕ
DF_TEXTREL = 0x4

-- What the type, the flags and the name of a section say of it (gABI, "Sections"). `name` is what stands in the table of
-- names from the section's name on, so that no name is walked to its end.
use Rattle.std.specs.Prelude.{ℕ, Bool, not, ◌&&◌, ◌||◌, ◌==◌, nat_eq, List, [], ◌∷◌, ◌++◌, bit_and, codes, if◌then◌else◌}
use Rattle.std.specs.List.{starts_with}
use Rattle.cap_elf.specs.declared.records.Class.{Class}
use Rattle.cap_elf.specs.declared.records.Class.TheVariants.{Ro, Code, Init, Fini, Relro, Data, Bss, Dropped}
use Rattle.cap_elf.specs.Numbers.{SHT_PROGBITS, SHT_NOTE, SHT_NOBITS, SHT_INIT_ARRAY, SHT_FINI_ARRAY, SHT_REL, SHT_PREINIT_ARRAY, SHT_GROUP, SHT_SYMTAB_SHNDX, SHF_WRITE, SHF_ALLOC, SHF_EXECINSTR, SHF_TLS, SHF_COMPRESSED}
use Rattle.cap_elf.specs.declared.sections.SectionHeader.{SectionHeader}

-- the section has this flag
abbrev pub has_flag : SectionHeader → ℕ → Bool
has_flag h flag = bit_and h.flags flag == flag

-- an array of calls
abbrev pub is_calls : SectionHeader → Bool
is_calls h = h.kind == SHT_INIT_ARRAY || h.kind == SHT_FINI_ARRAY

-- the types of what a program may have in memory
unfoldable pub is_loadable : SectionHeader → Bool
is_loadable h = h.kind == SHT_PROGBITS || h.kind == SHT_NOTE || h.kind == SHT_NOBITS || is_calls h

-- a type that isn't supported: relocations without addends, early calls, groups and long section indices, and in memory
-- any other than the loadable ones
unfoldable pub type_fails : SectionHeader → Bool
type_fails h =
    h.kind == SHT_REL || h.kind == SHT_PREINIT_ARRAY || h.kind == SHT_GROUP || h.kind == SHT_SYMTAB_SHNDX || (has_flag h SHF_ALLOC && not (is_loadable h))

-- a name that gives an array of calls a priority
unfoldable pub has_priority : List ℕ → Bool
has_priority name = starts_with nat_eq name (codes ".init_array.") || starts_with nat_eq name (codes ".fini_array.")

-- in memory: thread-local or compressed, or code that may be written, or zeros that may not
unfoldable pub memory_fails : SectionHeader → Bool
memory_fails h =
    has_flag h SHF_TLS || has_flag h SHF_COMPRESSED || (has_flag h SHF_WRITE && has_flag h SHF_EXECINSTR) || (h.kind == SHT_NOBITS && not (has_flag h SHF_WRITE))

-- flags that aren't supported: of what is in memory, or of an array of calls that may not be written or has a priority
unfoldable pub flags_fail : List ℕ → SectionHeader → Bool
flags_fail name h = (has_flag h SHF_ALLOC && memory_fails h) || (is_calls h && (not (has_flag h SHF_WRITE) || has_priority name))

-- the name of data that is read alone once it is relocated: `.data.rel.ro`, or one that goes on with a dot
unfoldable pub is_relro_name : List ℕ → Bool
is_relro_name name = starts_with nat_eq name (codes ".data.rel.ro" ++ 0 ∷ []) || starts_with nat_eq name (codes ".data.rel.ro.")

-- what a section holds: nothing that a program has in memory, where it has no SHF_ALLOC or is a note
unfoldable pub class_of : List ℕ → SectionHeader → Class
class_of name h =
    if not (has_flag h SHF_ALLOC) || h.kind == SHT_NOTE then Dropped
    else if h.kind == SHT_NOBITS then Bss
    else if has_flag h SHF_EXECINSTR then Code
    else if h.kind == SHT_INIT_ARRAY then Init
    else if h.kind == SHT_FINI_ARRAY then Fini
    else if not (has_flag h SHF_WRITE) then Ro
    else if is_relro_name name then Relro
    else Data

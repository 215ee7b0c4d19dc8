-- Worked rows: which kinds are accepted where, how wide their fields are, what they may refer to, and which slots clash.
use Rattle.std.proofs.Common.{◌≡◌, ℕ, true, false, pos, None, refl}
use Rattle.cap_elf.specs.declared.records.Class.{Class}
use Rattle.cap_elf.specs.declared.records.Class.TheVariants.{Ro, Code, Init, Data, Bss, Dropped}
use Rattle.cap_elf.specs.declared.records.Place.{Place}
use Rattle.cap_elf.specs.declared.records.Place.TheVariants as places
use Rattle.cap_elf.specs.declared.records.Reloc.{Reloc}
use Rattle.cap_syms.specs.declared.entries.Bound.{Bound}
use Rattle.cap_syms.specs.declared.entries.Bound.TheVariants as bounds
use Rattle.cap_table.specs.declared.target.Target.{Target}
use Rattle.cap_table.specs.Kinds.{is_accepted, width_of}
use Rattle.cap_table.specs.Checks.{refuses_target, capability_addend, slots_clash}

-- ---- widths: a capability, an address, a distance, SET16, SET32, ADD64, SUB6, a call, a short branch, a hint to relax
pub capability_wide : width_of 193 ≡ 16
capability_wide = refl

word_wide : width_of 2 ≡ 8
word_wide = refl

distance_wide : width_of 57 ≡ 4
distance_wide = refl

set16_wide : width_of 55 ≡ 2
set16_wide = refl

set32_wide : width_of 56 ≡ 4
set32_wide = refl

add64_wide : width_of 36 ≡ 8
add64_wide = refl

sub6_wide : width_of 52 ≡ 1
sub6_wide = refl

call_wide : width_of 198 ≡ 8
call_wide = refl

short_branch_wide : width_of 44 ≡ 2
short_branch_wide = refl

relax_wide : width_of 51 ≡ 0
relax_wide = refl

-- ---- classes
capability_in_init : is_accepted Init 193 ≡ true
capability_in_init = refl

word_in_init : is_accepted Init 2 ≡ false
word_in_init = refl

capability_in_ro : is_accepted Ro 193 ≡ false
capability_in_ro = refl

sum_in_ro : is_accepted Ro 35 ≡ true
sum_in_ro = refl

distance_in_bss : is_accepted Bss 57 ≡ false
distance_in_bss = refl

relax_in_bss : is_accepted Bss 51 ≡ true
relax_in_bss = refl

branch_in_data : is_accepted Data 16 ≡ false
branch_in_data = refl

slot_high_in_code : is_accepted Code 192 ≡ true
slot_high_in_code = refl

-- a distance to the global offset table, which there is none of
got_in_code : is_accepted Code 20 ≡ false
got_in_code = refl

-- ---- targets: 16 bytes of data at 0 of section 1, an absolute symbol, and the symbol of a section of initial calls
target : ℕ → Place → Class → ℕ → Bound → Target
target kind place class size bound = record {
  file = 0;
  symbol = 1;
  row = None;
  as_is = record { binding = 1; kind = kind; visibility = 0; place = place; value = 0; size = size; at = 0 };
  class = class;
  section_size = size;
  size = size;
  bound = bound;
}

data_target : Target
unfolding target
data_target = target 1 (places.Section 1) Data 16 bounds.Local

absolute_target : Target
unfolding target
absolute_target = target 0 places.Absolute Dropped 0 bounds.Local

init_target : Target
unfolding target
init_target = target 3 (places.Section 2) Init 16 bounds.Local

distance_to_data : refuses_target 57 data_target ≡ false
unfolding refuses_target target data_target
distance_to_data = refl

distance_to_absolute : refuses_target 57 absolute_target ≡ true
unfolding refuses_target target absolute_target
distance_to_absolute = refl

word_of_absolute : refuses_target 2 absolute_target ≡ false
unfolding refuses_target target absolute_target
word_of_absolute = refl

capability_to_array : refuses_target 193 init_target ≡ true
unfolding refuses_target target init_target
capability_to_array = refl

word_to_array : refuses_target 2 init_target ≡ false
unfolding refuses_target target init_target
word_to_array = refl

-- ---- addends: up to the size of the data, which is its end
end_of_data : capability_addend data_target (pos 16) ≡ true
unfolding capability_addend target data_target
end_of_data = refl

behind_data : capability_addend data_target (pos 17) ≡ false
unfolding capability_addend target data_target
behind_data = refl

-- ---- slots
slot : ℕ → ℕ → ℕ → Reloc
slot section offset kind = record { section = section; offset = offset; kind = kind; symbol = 1; addend = pos 0; at = 0 }

apart : slots_clash (slot 1 16 2) (slot 1 0 193) ≡ false
unfolding slot
apart = refl

sharing : slots_clash (slot 1 8 2) (slot 1 0 193) ≡ true
unfolding slot
sharing = refl

in_other_section : slots_clash (slot 2 8 2) (slot 1 0 193) ≡ false
unfolding slot
in_other_section = refl

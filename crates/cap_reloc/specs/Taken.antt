-- What a set of taken slots says of a further one.
use Rattle.std.specs.Prelude.{ℕ, Bool}
use Rattle.std.specs.List.{list_any}
use Rattle.cap_base.specs.Lists.{share_byte}
use Rattle.cap_reloc.specs.declared.taken.Taken.{Taken}

-- the slot, a place and a length, shares a byte with a taken one
abbrev pub is_touched : Taken → ℕ × ℕ → Bool
is_touched taken slot = list_any (share_byte slot) taken.lens.entries

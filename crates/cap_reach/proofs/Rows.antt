-- What is reached from some tagged words.
use Rattle.std.specs.Prelude.{◌≡◌, ℕ, List, [], ◌∷◌, refl}
use Rattle.cap_conc.specs.Computed.{fields_of}
use Rattle.cap_reach.specs.Reach.{PlacedWord}
use Rattle.cap_reach.specs.Computed.{reach_of}

abbrev word : ℕ → ℕ → ℕ → PlacedWord
word granule address meta = record { granule = granule; word = record { address = address; meta = meta } }

-- a program with two libraries: a pointer to a table, a sentry of a function, the two pointers in the table, and a pointer
-- of a library
abbrev five : List PlacedWord
five =
    word 0x400020C0 0x40003000 0x007D00000409B004
    ∷ word 0x400020D0 0x40006000 0x001720000801A805
    ∷ word 0x40003000 0x4000032E 0x0015000004CC832A
    ∷ word 0x40003010 0x400043B0 0x007D000004EF83B4
    ∷ word 0x4000A000 0x400043B0 0x007D000004EF83B4
    ∷ []

-- the sentry, whose bounds end at 0x40008000, and a word on each side of that end
abbrev library : List PlacedWord
library =
    word 0x400020D0 0x40006000 0x001720000801A805
    ∷ word 0x40007FF0 0x4000032E 0x0015000004CC832A
    ∷ word 0x40008000 0x4000032E 0x0015000004CC832A
    ∷ []

-- each has the bounds of the 32 bytes from its address on: the second loads the third, and the third the second
abbrev chain : List PlacedWord
chain =
    word 0x40002000 0x40003000 0x007D00000409B004
    ∷ word 0x40003000 0x40007000 0x007D00000409B004
    ∷ word 0x40007010 0x40003000 0x007D00000409B004
    ∷ word 0x40007020 0x40003000 0x007D00000409B004
    ∷ []

-- a word with this metadata that has another in its bounds
abbrev two : ℕ → List PlacedWord
two meta = word 0x400020C0 0x40003000 meta ∷ word 0x40003000 0x4000032E 0x0015000004CC832A ∷ []

pub record AreReached : Type 0 where
  from_table : reach_of five 0x400020C0 ≡ 0x400020C0 ∷ 0x40003000 ∷ 0x40003010 ∷ []
  from_sentry : reach_of five 0x400020D0 ≡ 0x400020D0 ∷ []
  through_sentry : reach_of library 0x400020D0 ≡ 0x400020D0 ∷ 0x40007FF0 ∷ []
  from_first : reach_of chain 0x40002000 ≡ 0x40002000 ∷ 0x40003000 ∷ 0x40007010 ∷ []
  from_third : reach_of chain 0x40007010 ≡ 0x40003000 ∷ 0x40007010 ∷ []
  both_permissions : reach_of (two 0x007D00000409B004) 0x400020C0 ≡ 0x400020C0 ∷ 0x40003000 ∷ []
  without_load : reach_of (two 0x007900000409B004) 0x400020C0 ≡ 0x400020C0 ∷ []
  without_load_cap : reach_of (two 0x006D00000409B004) 0x400020C0 ≡ 0x400020C0 ∷ []

pub worked_rows : AreReached
unfolding reach_of fields_of
worked_rows = record {
  from_table = refl;
  from_sentry = refl;
  through_sentry = refl;
  from_first = refl;
  from_third = refl;
  both_permissions = refl;
  without_load = refl;
  without_load_cap = refl;
}

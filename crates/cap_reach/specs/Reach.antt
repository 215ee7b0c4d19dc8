-- Which tagged words of an image can be loaded, step by step, from one of them.
use Rattle.std.specs.Prelude.{◌≡◌, ◌↔◌, ℕ, ◌+◌, ◌-◌, Bool, true, ◌&&◌, ◌||◌, ◌==◌, nat_le, bit_and, List, map, flat_map, Contains}
use Rattle.std.specs.List.Sorted.{IsStrictlyIncreasing}
use Rattle.cap_conc.specs.declared.word.Word.{Word}
use Rattle.cap_conc.specs.declared.word.Fields.{Fields}
use Rattle.cap_conc.specs.Computed.{fields_of}
use Rattle.cap_image.specs.Parts.{ImageParts, ImageObject, tagged_granules}
use Rattle.cap_image.specs.Report.{word_in}

-- a tagged word: its granule, and its 16 bytes
pub record PlacedWord : Type 0 where
  pub granule : ℕ
  pub word : Word

-- the tagged words of an image, in ascending order
abbrev pub placed_in : ImageObject → ℕ → PlacedWord
placed_in o granule = record { granule = granule; word = word_in o.bytes (granule - o.base) }

abbrev pub words_in : ImageObject → List PlacedWord
words_in o = map (placed_in o) (tagged_granules o)

abbrev pub words_of : ImageParts → List PlacedWord
words_of image = flat_map words_in image.objects

abbrev pub granules_of : List PlacedWord → List ℕ
granules_of words = map (λ w. w.granule) words

-- CHERI ISA v9: a capability loads others where it isn't sealed, object type -1 in 18 bits, and has the permissions LOAD
-- and LOAD_CAP; a sealed entry, object type -2, does so once it is entered
abbrev pub may_load : Fields → Bool
may_load f = (f.otype == 262143 || f.otype == 262142) && bit_and f.perms 0x4 == 0x4 && bit_and f.perms 0x10 == 0x10

-- a granule, which has 16 bytes, lies within the bounds
abbrev pub is_within : Fields → ℕ → Bool
is_within f granule = nat_le f.base granule && nat_le (granule + 16) f.top

-- a word loads what stands at a granule
abbrev pub loads : Word → ℕ → Bool
loads word granule = may_load (fields_of word) && is_within (fields_of word) granule

-- the least set of granules that has the first one, and with the granule of each word those tagged ones that it loads
pub data Reached (words : List PlacedWord) (start : ℕ) : ℕ → Type 0 where
  at_start : Reached words start start
  by_load : (from : PlacedWord) (to : ℕ) → Reached words start from.granule → Contains words from → Contains (granules_of words) to → loads from.word to ≡ true → Reached words start to

-- the granules of that set, in ascending order
pub record IsReach (words : List PlacedWord) (start : ℕ) (slots : List ℕ) : Type 0 where
  pub ascending : IsStrictlyIncreasing slots
  pub each : (granule : ℕ) → Contains slots granule ↔ Reached words start granule

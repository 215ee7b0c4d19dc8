-- The words of an image without their granules, and the two put together.
use Rattle.std.specs.Prelude.{ℕ, ◌-◌, List, [], ◌∷◌, map, flat_map}
use Rattle.cap_conc.specs.declared.word.Word.{Word}
use Rattle.cap_image.specs.Parts.{ImageParts, ImageObject, tagged_granules}
use Rattle.cap_image.specs.Report.{word_in}
use Rattle.cap_reach.specs.Reach.{PlacedWord}

abbrev pub word_in_object : ImageObject → ℕ → Word
word_in_object o granule = word_in o.bytes (granule - o.base)

abbrev pub raw_words_in : ImageObject → List Word
raw_words_in o = map (word_in_object o) (tagged_granules o)

abbrev pub raw_words_of : ImageParts → List Word
raw_words_of image = flat_map raw_words_in image.objects

-- granules, each with its word
abbrev pub placed : List ℕ → List Word → List PlacedWord
placed [] words = []
placed (g ∷ granules) [] = []
placed (g ∷ granules) (w ∷ words) = record { granule = g; word = w } ∷ placed granules words

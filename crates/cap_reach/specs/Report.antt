-- The report of what is reached: the line of each word, and a last line with how many they are, of how many in the image.
use Rattle.std.specs.Prelude.{ℕ, List, ◌++◌, length, codes, decimal}
use Rattle.cap_image.specs.Parts.{ImageParts}
use Rattle.cap_image.specs.Report.{word_count}
use Rattle.cap_image.specs.Granules.{word_lines}

abbrev pub reached_line : ℕ → ℕ → List ℕ
reached_line reached words = codes "reached " ++ decimal reached ++ codes " of " ++ decimal words ++ codes "\n"

unfoldable pub reach_report : ImageParts → List ℕ → List ℕ
reach_report image slots = word_lines image slots ++ reached_line (length slots) (word_count image)

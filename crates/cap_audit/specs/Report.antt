-- The findings in words: a line each, and a last line.
use Rattle.std.specs.Prelude.{ℕ, List, ◌++◌, length, flat_map, codes, decimal}
use Rattle.cap_image.specs.Report.{hex}
use Rattle.cap_audit.specs.declared.finding.Finding.{Finding}
use Rattle.cap_audit.specs.declared.finding.What.{What}
use Rattle.cap_audit.specs.declared.finding.What.TheVariants.{Version, Object, Tag, Word, Bytes, Owner, Order}

abbrev pub what_text : What → List ℕ
what_text Version = codes "version"
what_text Object = codes "object"
what_text Tag = codes "tag"
what_text Word = codes "word"
what_text Bytes = codes "bytes"
what_text Owner = codes "owner"
what_text Order = codes "order"

unfoldable pub finding_line : Finding → List ℕ
finding_line f =
    codes "finding " ++ what_text f.what ++ codes " object " ++ decimal f.object ++ codes " at 0x" ++ hex 16 f.at ++ codes "\n"

abbrev pub last_line : ℕ → List ℕ
last_line count = codes "findings " ++ decimal count ++ codes "\n"

unfoldable pub report_of : List Finding → List ℕ
report_of found = flat_map finding_line found ++ last_line (length found)

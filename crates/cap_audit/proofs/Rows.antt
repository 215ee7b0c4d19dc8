-- Differences that are known, on an object of eight granules.
use Rattle.std.specs.Prelude.{◌≡◌, ℕ, List, [], ◌∷◌, ◌++◌, codes, replicate, refl}
use Rattle.cap_base.specs.Field.{number_bytes}
use Rattle.cap_image.specs.declared.header.Version.TheVariants.{One, Two}
use Rattle.cap_image.specs.Parts.{ImageParts, ImageObject, WordRecord}
use Rattle.cap_audit.specs.declared.finding.What.TheVariants.{Version, Object, Tag, Word, Bytes, Owner, Order}
use Rattle.cap_audit.specs.Findings.{objects_below, difference_at, findings_below, have_same_records, tell_of_records, granules_below, orders_below, findings}
use Rattle.cap_audit.specs.Report.{finding_line, report_of}
use Rattle.std.specs.Fmt.{digits}
use Rattle.cap_image.specs.Report.{hex}

-- the upper half of the first word, a byte of the second granule, the tags, and the word records
abbrev object : ℕ → ℕ → ℕ → List WordRecord → ImageObject
object meta byte tags words = record {
  base = 0x40003000;
  name = codes "a";
  bytes = number_bytes 8 0x4000032E ++ number_bytes 8 meta ++ byte ∷ replicate 111 0;
  tags = tags ∷ [];
  words = words;
}

abbrev image : ImageObject → ImageParts
image o = record { version = Two; objects = o ∷ [] }

abbrev word : ℕ → List ℕ → WordRecord
word granule name = record { granule = granule; owner = 0; name = name }

abbrev wanted : ImageParts
wanted = image (object 0x0015000004CC832A 0 1 (word 0x40003000 [] ∷ []))

nothing : findings wanted wanted ≡ []
unfolding findings objects_below difference_at findings_below have_same_records tell_of_records granules_below orders_below
nothing = refl

-- the permissions 0x007D in place of 0x0015
other_permissions : findings (image (object 0x007D000004CC832A 0 1 (word 0x40003000 [] ∷ []))) wanted ≡ record { what = Word; object = 0; at = 0x40003000 } ∷ []
unfolding findings objects_below difference_at findings_below have_same_records tell_of_records granules_below orders_below
other_permissions = refl

other_byte : findings (image (object 0x0015000004CC832A 7 1 (word 0x40003000 [] ∷ []))) wanted ≡ record { what = Bytes; object = 0; at = 0x40003010 } ∷ []
unfolding findings objects_below difference_at findings_below have_same_records tell_of_records granules_below orders_below
other_byte = refl

-- a tag stands before the bytes of its granule, and before the order of the word records
other_tag : findings (image (object 0x0015000004CC832A 7 3 (word 0x40003000 [] ∷ word 0x40003010 [] ∷ []))) wanted ≡ record { what = Tag; object = 0; at = 0x40003010 } ∷ []
unfolding findings objects_below difference_at findings_below have_same_records tell_of_records granules_below orders_below
other_tag = refl

other_name : findings (image (object 0x0015000004CC832A 0 1 (word 0x40003000 (codes "x") ∷ []))) wanted ≡ record { what = Owner; object = 0; at = 0x40003000 } ∷ []
unfolding findings objects_below difference_at findings_below have_same_records tell_of_records granules_below orders_below
other_name = refl

other_order : findings (image (object 0x0015000004CC832A 0 3 (word 0x40003000 [] ∷ word 0x40003010 [] ∷ []))) (image (object 0x0015000004CC832A 0 3 (word 0x40003010 [] ∷ word 0x40003000 [] ∷ []))) ≡ record { what = Order; object = 0; at = 0x40003000 } ∷ []
unfolding findings objects_below difference_at findings_below have_same_records tell_of_records granules_below orders_below
other_order = refl

other_version : findings (record wanted { version = One }) wanted ≡ record { what = Version; object = 0; at = 8 } ∷ []
unfolding findings objects_below
other_version = refl

-- where an object differs, nothing is said of granules
one_object_more : findings (record wanted { objects = object 0x0015000004CC832A 0 1 [] ∷ object 0 0 0 [] ∷ [] }) wanted ≡ record { what = Object; object = 1; at = 0 } ∷ []
unfolding findings objects_below
one_object_more = refl

text : report_of (record { what = Word; object = 0; at = 0x40003000 } ∷ []) ≡ codes "finding word object 0 at 0x0000000040003000\nfindings 1\n"
unfolding report_of finding_line hex digits
text = refl

no_text : report_of [] ≡ codes "findings 0\n"
unfolding report_of digits
no_text = refl

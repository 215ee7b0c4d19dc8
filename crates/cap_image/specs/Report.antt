-- The report of an image: a line for each object, a line for each tagged granule, and a last line.
use Rattle.std.specs.Prelude.{◌≡◌, ℕ, zero, suc, ◌+◌, ◌-◌, ◌/◌, ◌%◌, ◌≤◌, Bool, false, ◌==◌, List, [], ◌∷◌, ◌++◌, length, find, flat_map, codes, decimal, Option, Some, None, if◌then◌else◌}
use Rattle.std.specs.Fmt.{digit_glyph}
use Rattle.cap_base.specs.Field.{number_at}
use Rattle.cap_conc.specs.declared.word.Word.{Word}
use Rattle.cap_conc.specs.declared.word.Fields.{Fields}
use Rattle.cap_conc.specs.Computed.{fields_of}
use Rattle.cap_image.specs.Parts.{WordRecord, ImageObject, ImageParts, tagged_granules}

-- the lowest digits of a number in base 16, as many as this
unfoldable pub hex : ℕ → ℕ → List ℕ
hex zero n = []
hex (suc k) n = hex k (n / 16) ++ digit_glyph false (n % 16) ∷ []

abbrev pub object_line : ImageObject → List ℕ
object_line o =
    codes "object 0x" ++ hex 16 o.base ++ codes " 0x" ++ hex 16 (length o.bytes) ++ codes " " ++ o.name ++ codes "\n"

-- CHERI ISA v9: the object type of a capability that isn't sealed is -1, that of a sealed entry -2, in 18 bits
abbrev pub seal_text : ℕ → List ℕ
seal_text object_type =
    if object_type == 262143 then codes "unsealed" else
    if object_type == 262142 then codes "sentry" else codes "sealed " ++ decimal object_type

abbrev pub flag_text : Bool → List ℕ
flag_text flag = if flag then codes "1" else codes "0"

-- what a capability word means
unfoldable pub fields_text : Fields → List ℕ
fields_text f =
    codes " base 0x" ++ hex 16 f.base ++ codes " top 0x" ++ hex 17 f.top ++ codes " cursor 0x" ++ hex 16 f.cursor
    ++ codes " perms " ++ hex 4 f.perms ++ codes " flag " ++ flag_text f.flag ++ codes " " ++ seal_text f.otype

-- the capability word in the 16 bytes from a place on
abbrev pub word_in : List ℕ → ℕ → Word
word_in bytes at = record { address = number_at 8 bytes at; meta = number_at 8 bytes (at + 8) }

-- the word record of a granule
abbrev pub word_of : ImageObject → ℕ → Option WordRecord
word_of o granule = find (λ w. w.granule == granule) o.words

-- a symbol without a name shows as `-`
abbrev pub name_text : List ℕ → List ℕ
name_text [] = codes "-"
name_text (byte ∷ name) = byte ∷ name

-- what a word record says; an image of version 1 has none
abbrev pub record_text : Option WordRecord → List ℕ
record_text None = []
record_text (Some w) = codes " owner " ++ decimal w.owner ++ codes " symbol " ++ name_text w.name

-- what the word of a granule is made from
unfoldable pub source_text : ImageObject → ℕ → List ℕ
source_text o granule = record_text (word_of o granule)

-- the line of a tagged granule
unfoldable pub cap_line : ImageObject → ℕ → List ℕ
cap_line o granule =
    codes "cap 0x" ++ hex 16 granule ++ fields_text (fields_of (word_in o.bytes (granule - o.base)))
    ++ source_text o granule ++ codes "\n"

-- a granule of 16 bytes, one of those that lie in this interval
abbrev pub IsGranule : ℕ → ℕ → ℕ → Type 0
IsGranule base size granule = (base ≤ granule) × (granule + 16 ≤ base + size) × ((granule - base) % 16 ≡ 0)

abbrev pub IsGranuleOf : ImageObject → ℕ → Type 0
IsGranuleOf o granule = IsGranule o.base (length o.bytes) granule

abbrev pub cap_lines : ImageObject → List ℕ
cap_lines o = flat_map (cap_line o) (tagged_granules o)

-- how many words of an image are tagged
abbrev pub word_count : ImageParts → ℕ
word_count image = length (flat_map tagged_granules image.objects)

abbrev pub last_line : ℕ → ℕ → List ℕ
last_line objects words = codes "objects " ++ decimal objects ++ codes " words " ++ decimal words ++ codes "\n"

-- objects ascend, so all tagged granules do
unfoldable pub report_of : ImageParts → List ℕ
report_of image =
    flat_map object_line image.objects ++ flat_map cap_lines image.objects ++ last_line (length image.objects) (word_count image)

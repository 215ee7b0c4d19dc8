-- How many bytes the parts of an image have.
use Rattle.std.proofs.Common.{◌≡◌, ℕ, ◌+◌, ◌*◌, ◌/◌, ◌<◌, Bool, false, List, [], ◌∷◌, ◌++◌, length, get_or, refl, ap, ◌∙◌, arith, length-append}
use Rattle.std.specs.Prelude.{flat_map, codes}
use Rattle.std.proofs.lemmas.List.FromFn.{length-map-range_with_len}
use Rattle.byteorder.specs.Numbers.{length-bytes_low_first}
use Rattle.cap_mem.specs.Tagged.{TaggedMemory, TaggedWord}
use Rattle.cap_image.specs.declared.header.Version.TheVariants.{Two}
use Rattle.cap_image.specs.declared.word_walk.FoundWord.{FoundWord}
use Rattle.cap_image.specs.WordWalk.{founds_of}
use Rattle.cap_image.specs.Writing.{field_bytes, name_bytes, header_bytes, object_record, word_bytes, words_bytes, records_of, first_tag_bytes, tag_byte, image_bytes, image_of}
use Rattle.cap_image.specs.MemoryParts.{record_found, founds_bytes, body_for, symbol_length, records_below, bodies_below}
use Rattle.cap_image.proofs.MemoryBytes.{words_are, records_more, bodies_more, records_none, bodies_none, image_is}

field_size : (n x : ℕ) → length (field_bytes n x) ≡ n
unfolding field_bytes
field_size n x = length-bytes_low_first 0 n x

name_size : (name : List ℕ) → length (name_bytes name) ≡ 2 + length name
unfolding name_bytes
name_size name = omega (arith, length-append (field_bytes 2 (length name)) name, field_size 2 (length name))

header_size : (count : ℕ) → length (header_bytes Two count) ≡ 16
unfolding header_bytes
header_size count =
    let first = length-append (codes "PURECAPI" ++ field_bytes 4 2) (field_bytes 4 count) in
    let front = length-append (codes "PURECAPI") (field_bytes 4 2) in
    omega (arith, first, front, field_size 4 2, field_size 4 count)

record_size : (base size : ℕ) (name : List ℕ) → length (object_record base size name) ≡ 18 + length name
unfolding object_record
record_size base size name =
    omega (arith, length-append (field_bytes 8 base ++ field_bytes 8 size) (name_bytes name), length-append (field_bytes 8 base) (field_bytes 8 size), field_size 8 base, field_size 8 size, name_size name)

word_size : (symbols : List (List (List ℕ × Bool))) (f : FoundWord) → length (word_bytes (record_found symbols f)) ≡ 12 + symbol_length symbols f
unfolding word_bytes symbol_length
word_size symbols f =
    let w = record_found symbols f in
    omega (arith, length-append (field_bytes 8 w.granule ++ field_bytes 2 w.owner) (name_bytes w.name), length-append (field_bytes 8 w.granule) (field_bytes 2 w.owner), field_size 8 w.granule, field_size 2 w.owner, name_size w.name)

-- one word more
pub words_size : (symbols : List (List (List ℕ × Bool))) (f : FoundWord) (fs : List FoundWord) → length (founds_bytes symbols (f ∷ fs)) ≡ 12 + symbol_length symbols f + length (founds_bytes symbols fs)
unfolding founds_bytes
words_size symbols f fs =
    omega (arith, length-append (word_bytes (record_found symbols f)) (flat_map (λ g. word_bytes (record_found symbols g)) fs), word_size symbols f)

pub no_words_size : (symbols : List (List (List ℕ × Bool))) → length (founds_bytes symbols []) ≡ 0
unfolding founds_bytes
no_words_size symbols = refl

tags_size : (memory : TaggedMemory) (n : ℕ) → length (first_tag_bytes memory n) ≡ n
unfolding first_tag_bytes
tags_size memory n = length-map-range_with_len (λ j. tag_byte memory (memory.base + 128 * j)) 0 n

words_part : (symbols : List (List (List ℕ × Bool))) (ws : List TaggedWord) → length (words_bytes Two (records_of symbols ws)) ≡ 4 + length (founds_bytes symbols (founds_of ws))
words_part symbols ws =
    ap length (words_are symbols [] ws)
    ∙ (let parts = length-append (field_bytes 4 (length ws)) (founds_bytes symbols (founds_of ws)) in omega (arith, parts, field_size 4 (length ws)))

pub body_size : (symbols : List (List (List ℕ × Bool))) (memory : TaggedMemory) → length (body_for symbols memory) ≡ length (founds_bytes symbols (founds_of memory.words)) + (length memory.bytes + length memory.bytes / 128 + 4)
unfolding body_for
body_size symbols memory =
    let tags = first_tag_bytes memory (length memory.bytes / 128) in
    let words = words_bytes Two (records_of symbols memory.words) in
    omega (arith, length-append (memory.bytes ++ first_tag_bytes memory (length memory.bytes / 128)) (words_bytes Two (records_of symbols memory.words)), length-append memory.bytes (first_tag_bytes memory (length memory.bytes / 128)), tags_size memory (length memory.bytes / 128), words_part symbols memory.words)

-- no memory, and one more
pub nothing_size : (names : List (List ℕ × Bool)) (symbols : List (List (List ℕ × Bool))) (memories : List TaggedMemory) → length (records_below names memories 0) + length (bodies_below symbols memories 0) ≡ 0
nothing_size names symbols memories =
    let records : length (records_below names memories 0) ≡ 0 = ap length (records_none [] names memories) in
    let bodies : length (bodies_below symbols memories 0) ≡ 0 = ap length (bodies_none [] symbols memories) in
    omega (arith, records, bodies)

pub object_size : (names : List (List ℕ × Bool)) (symbols : List (List (List ℕ × Bool))) (memories : List TaggedMemory) (n m : ℕ) (memory : TaggedMemory)
    → m ≡ n + 1 → n < length names → n < length memories → memory ≡ get_or memories n memory
    → length (records_below names memories m) + length (bodies_below symbols memories m)
    ≡ length (records_below names memories n) + length (bodies_below symbols memories n) + (18 + length (get_or names n ([], false)).0 + length (body_for symbols memory))
object_size names symbols memories n m memory next of within is =
    let name = (get_or names n ([], false)).0 in
    let records = ap length (records_more [] names memories n m memory next of within is) in
    let bodies = ap length (bodies_more [] symbols memories n m memory next within is) in
    omega (
      arith,
      records,
      bodies,
      length-append (records_below names memories n) (object_record memory.base (length memory.bytes) (get_or names n ([], false)).0),
      length-append (bodies_below symbols memories n) (body_for symbols memory),
      record_size memory.base (length memory.bytes) (get_or names n ([], false)).0,
    )

-- the whole
pub image_size : (names : List (List ℕ × Bool)) (symbols : List (List (List ℕ × Bool))) (memories : List TaggedMemory) → length names ≡ length memories
    → length (image_bytes (image_of names symbols memories)) ≡ 16 + (length (records_below names memories (length memories)) + length (bodies_below symbols memories (length memories)))
image_size names symbols memories same =
    ap length (image_is names symbols memories same)
    ∙ (let all = length-append (header_bytes Two (length memories) ++ records_below names memories (length memories)) (bodies_below symbols memories (length memories)) in
    let front = length-append (header_bytes Two (length memories)) (records_below names memories (length memories)) in
    omega (arith, all, front, header_size (length memories)))

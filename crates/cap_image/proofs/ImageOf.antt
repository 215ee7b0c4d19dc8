-- The image of memories has their tags and their words.
use Rattle.std.proofs.Common.{◌≡◌, ℕ, zero, suc, ◌+◌, ◌-◌, ◌*◌, ◌/◌, ◌%◌, ◌^◌, ◌<◌, ◌≤◌, Bool, true, false, ◌||◌, ◌&&◌, List, [], ◌∷◌, length, map, get_or, refl, sym, ap, ◌∙◌, arith, nat_eq, subst, cond, ⊎_elim}
use Rattle.std.specs.Prelude.{◌≢◌, nat_le, nat_lt, All, AllPairs, find, is_some, Some, slice_index, slice_index_or}
use Rattle.std.specs.List.{list_any, range_with_len, zip}
use Rattle.std.specs.Int.{from_bool}
use Rattle.std.proofs.lemmas.List.{get_or-map}
use Rattle.std.proofs.lemmas.List.FromFn.{get_or-map-range_with_len}
use Rattle.std.proofs.lemmas.Slice.Zip.{get_or-zip, length-zip}
use Rattle.std.proofs.lemmas.Bool.{cases_lt, lt-leb, le-leb, lt-ltb, le-ltb}
use Rattle.std.proofs.Math.Bool.{or-false}
use Rattle.std.proofs.lemmas.List.Kept.{AllPairs-cons}
use Rattle.std.proofs.lemmas.List.Elements.{All-map}
use Rattle.cap_mem.specs.Ascending.{Ascend}
use Rattle.cap_image.proofs.WordOrder.{Distinct, rest_apart, first_apart}
use Rattle.std.proofs.Math.Nat.{add-mul-div_right, div-eq_of_lt}
use Rattle.std.proofs.lemmas.Nat.{pow-add, pow_pos}
use Rattle.cap_mem.specs.IsMemory.{IsMemory}
use Rattle.cap_mem.specs.Tagged.{TaggedMemory, TaggedWord, is_tagged, stands_at}
use Rattle.cap_image.specs.Parts.{WordRecord, ImageObject, no_object, has_tag, is_tagged_in}
use Rattle.cap_image.specs.Writing.{tags_number, tag_byte, first_tag_bytes, tag_bytes, record_of, records_of, object_of, IsWritable}
use Rattle.cap_image.proofs.TagBytes.{tags_low}
use Rattle.cap_image.specs.ImageLaws.{ListsWordsOf, ObjectsAreOfMemories, TagsAreOfMemories, TagsAreRead, WordsAreOfMemories}

-- the highest bit of a number, and one below it
top : (t b p : ℕ) → t < p → b ≤ 1 → (t + b * p) / p % 2 ≡ b
top t b p low one =
    let pos : 0 < p = omega (arith, low) in
    let split : (t + b * p) / p ≡ t / p + b = add-mul-div_right t b pos in
    let none : t / p ≡ 0 = div-eq_of_lt low in
    omega (arith, split, none, one)

below : (t b n i : ℕ) → i < n → (t + b * 2 ^ n) / 2 ^ i % 2 ≡ t / 2 ^ i % 2
below t b n i lt =
    let same : n ≡ n - (i + 1) + (1 + i) = omega (arith, lt) in
    let power : 2 ^ n ≡ 2 ^ (n - (i + 1)) * (2 * 2 ^ i) = ap (λ (k : ℕ). 2 ^ k) same ∙ pow-add 2 (n - (i + 1)) (1 + i) ∙ ap (λ (q : ℕ). 2 ^ (n - (i + 1)) * q) (pow-add 2 1 i) in
    let moved : t + b * 2 ^ n ≡ t + b * (2 ^ (n - (i + 1))) * 2 * 2 ^ i = ap (λ (q : ℕ). t + b * q) power ∙ shift t b (2 ^ (n - (i + 1))) (2 ^ i) in
    let split : (t + b * (2 ^ (n - (i + 1))) * 2 * 2 ^ i) / 2 ^ i ≡ t / 2 ^ i + b * (2 ^ (n - (i + 1))) * 2 = add-mul-div_right t (b * (2 ^ (n - (i + 1))) * 2) (pow_pos i) in
    ap (λ (q : ℕ). q / 2 ^ i % 2) moved ∙ ap (λ (q : ℕ). q % 2) split ∙ even (t / 2 ^ i) (b * (2 ^ (n - (i + 1))))
  where
    shift : (u c x y : ℕ) → u + c * (x * (2 * y)) ≡ u + c * x * 2 * y
    shift u c x y = omega arith

    even : (q x : ℕ) → (q + x * 2) % 2 ≡ q % 2
    even q x = omega arith

bool_low : (b : Bool) → from_bool b ≤ 1
bool_low true = omega arith
bool_low false = omega arith

is_one : (b : Bool) → nat_eq (from_bool b) 1 ≡ b
is_one true = refl
is_one false = refl

-- bit i of the tags of n granules is the tag of granule i
at_bit : (m : TaggedMemory) (at n i : ℕ) → i < n → tags_number m at n / 2 ^ i % 2 ≡ from_bool (is_tagged m (at + 16 * i))
unfolding tags_number
at_bit m at zero i lt = absurd (omega (arith, lt))
at_bit m at (suc n) i lt = ⊎_elim
    (λ (l : i < n). below (tags_number m at n) (from_bool (is_tagged m (at + 16 * n))) n i l ∙ at_bit m at n i l)
    (λ (g : n ≤ i).
    let same : n ≡ i = omega (arith, lt, g) in
    ap (λ (k : ℕ). (tags_number m at n + from_bool (is_tagged m (at + 16 * n)) * 2 ^ n) / 2 ^ k % 2) (sym same)
    ∙ top (tags_number m at n) (from_bool (is_tagged m (at + 16 * n))) (2 ^ n) (tags_low m at n) (bool_low (is_tagged m (at + 16 * n)))
    ∙ ap (λ (k : ℕ). from_bool (is_tagged m (at + 16 * k))) same)
    (cases_lt i n)

-- a memory's tag bytes have its tags
pub tags_of : (m : TaggedMemory) (k : ℕ) → length m.bytes % 4096 ≡ 0 → 16 * k < length m.bytes → has_tag (first_tag_bytes m (length m.bytes / 128)) (16 * k) ≡ is_tagged m (m.base + 16 * k)
unfolding first_tag_bytes
tags_of m k pages lt =
    let j = 16 * k / 128 in
    let i = 16 * k / 16 % 8 in
    let inside : 16 * k / 128 < length m.bytes / 128 = omega (arith, pages, lt) in
    let eight : 16 * k / 16 % 8 < 8 = omega arith in
    let byte : slice_index (map (λ q. tag_byte m (m.base + 128 * q)) (range_with_len 0 (length m.bytes / 128))) (16 * k / 128) ≡ tag_byte m (m.base + 128 * (16 * k / 128)) =
    get_or-map-range_with_len (λ q. tag_byte m (m.base + 128 * q)) 0 (length m.bytes / 128) (16 * k / 128) (16 * k / 128) 0 inside (omega arith) in
    let place : m.base + 128 * (16 * k / 128) + 16 * (16 * k / 16 % 8) ≡ m.base + 16 * k = omega arith in
    ap (λ (b : ℕ). nat_eq (b / 2 ^ (16 * k / 16 % 8) % 2) 1) byte
    ∙ ap (λ (b : ℕ). nat_eq b 1) (at_bit m (m.base + 128 * (16 * k / 128)) 8 (16 * k / 16 % 8) eight)
    ∙ is_one (is_tagged m (m.base + 128 * (16 * k / 128) + 16 * (16 * k / 16 % 8)))
    ∙ ap (is_tagged m) place

-- the records of words stand at their granules
records_at : (symbols : List (List (List ℕ × Bool))) (ws : List TaggedWord) (granule : ℕ) → list_any (λ r. nat_eq r.granule granule) (map (record_of symbols) ws) ≡ is_some (find (stands_at granule) ws)
records_at symbols [] granule = refl
records_at symbols (w ∷ ws) granule = go (nat_eq w.granule granule) (records_at symbols ws granule)
  where
    go : (b : Bool) → list_any (λ r. nat_eq r.granule granule) (map (record_of symbols) ws) ≡ is_some (find (stands_at granule) ws)
        → (b || list_any (λ r. nat_eq r.granule granule) (map (record_of symbols) ws)) ≡ is_some (cond b (Some w) (find (stands_at granule) ws))
    go true e = refl
    go false e = e

once : (symbols : List (List (List ℕ × Bool))) (ws : List TaggedWord) → Distinct ws → AllPairs (λ v w. v.granule ≢ w.granule) (map (record_of symbols) ws)
once symbols [] apart = λ i j d a l. absurd (omega (arith, l))
once symbols (w ∷ ws) apart =
    AllPairs-cons (λ (u v : WordRecord). u.granule ≢ v.granule) (record_of symbols w) (map (record_of symbols) ws)
    (All-map (λ (r : WordRecord). w.granule ≢ r.granule) (record_of symbols) ws (first_apart w ws apart))
    (once symbols ws (rest_apart w ws apart))

words_of : (symbols : List (List (List ℕ × Bool))) (m : TaggedMemory) → IsMemory m → ListsWordsOf m (records_of symbols m.words)
unfolding records_of
words_of symbols m is = record { each = records_at symbols m.words; once = once symbols m.words is.distinct }

-- memories that ascend begin at the first address, or above it
base_from : (from : ℕ) (memories : List TaggedMemory) (limit i : ℕ) (d : TaggedMemory) → Ascend from memories limit → i < length memories → from ≤ (get_or memories i d).base
base_from from [] limit i d h lt = absurd (omega (arith, lt))
base_from from (m ∷ ms) limit zero d h lt = h.0
base_from from (m ∷ ms) limit (suc i) d h lt =
    let later : m.base + length m.bytes ≤ (get_or ms i d).base = base_from (m.base + length m.bytes) ms limit i d h.1 (omega (arith, lt)) in
    omega (arith, h.0, later)

module _ (symbols : List (List (List ℕ × Bool))) (limit : ℕ) where
  abbrev objects : List (List ℕ × Bool) → List TaggedMemory → List ImageObject
  objects names memories = map (object_of symbols) (zip names memories)

  -- no object holds an address below all
  none_at : (at from : ℕ) (names : List (List ℕ × Bool)) (memories : List TaggedMemory) → at < from → Ascend from memories limit → list_any (is_tagged_in at) (objects names memories) ≡ false
  none_at at from [] ms low up = refl
  none_at at from (n ∷ ns) [] low up = refl
  none_at at from (n ∷ ns) (m ∷ ms) low up =
      let under : at < m.base = omega (arith, low, up.0) in
      rw (lt-leb m.base at under) (none_at at (m.base + length m.bytes) ns ms (omega (arith, under)) up.1)

  read_at : (from : ℕ) (names : List (List ℕ × Bool)) (memories : List TaggedMemory) (i : ℕ) (d : TaggedMemory) (k : ℕ)
      → length names ≡ length memories → Ascend from memories limit → All (IsWritable symbols) memories → i < length memories → 16 * k < length (get_or memories i d).bytes
      → list_any (is_tagged_in ((get_or memories i d).base + 16 * k)) (objects names memories) ≡ is_tagged (get_or memories i d) ((get_or memories i d).base + 16 * k)
  read_at from names [] i d k count up can lt inside = absurd (omega (arith, lt))
  read_at from [] (m ∷ ms) i d k count up can lt inside = absurd (omega (arith, count))
  read_at from (n ∷ ns) (m ∷ ms) zero d k count up can lt inside =
      let above : m.base ≤ m.base + 16 * k = omega arith in
      let under : m.base + 16 * k < m.base + length m.bytes = omega (arith, inside) in
      let offset : m.base + 16 * k - m.base ≡ 16 * k = omega arith in
      let pages : length m.bytes % 4096 ≡ 0 = (can 0 m (omega arith)).pages in
      let rest = none_at (m.base + 16 * k) (m.base + length m.bytes) ns ms under up.1 in
      rw (le-leb m.base (m.base + 16 * k) above, lt-ltb (m.base + 16 * k) (m.base + length m.bytes) under, offset, rest, tags_of m k pages inside) (or-false (is_tagged m (m.base + 16 * k)))
  read_at from (n ∷ ns) (m ∷ ms) (suc i) d k count up can lt inside =
      let later : m.base + length m.bytes ≤ (get_or ms i d).base = base_from (m.base + length m.bytes) ms limit i d up.1 (omega (arith, lt)) in
      let past : m.base + length m.bytes ≤ (get_or ms i d).base + 16 * k = omega (arith, later) in
      let rest = read_at (m.base + length m.bytes) ns ms i d k (omega (arith, count)) up.1 (λ q e l. can (suc q) e (omega (arith, l))) (omega (arith, lt)) inside in
      passed (nat_le m.base ((get_or ms i d).base + 16 * k)) (has_tag (tag_bytes m) ((get_or ms i d).base + 16 * k - m.base)) (le-ltb ((get_or ms i d).base + 16 * k) (m.base + length m.bytes) past) ∙ rest
    where
      passed : (a c : Bool) → nat_lt ((get_or ms i d).base + 16 * k) (m.base + length m.bytes) ≡ false
          → (a && nat_lt ((get_or ms i d).base + 16 * k) (m.base + length m.bytes) && c || list_any (is_tagged_in ((get_or ms i d).base + 16 * k)) (objects ns ms)) ≡ list_any (is_tagged_in ((get_or ms i d).base + 16 * k)) (objects ns ms)
      passed true c e = rw e refl
      passed false c e = refl

pub objects_are : ObjectsAreOfMemories
objects_are names symbols memories i d can lt =
    let pair : length (zip names memories) ≡ length memories = omega (arith, length-zip names memories, can.name_count) in
    get_or-map (object_of symbols) (zip names memories) i (([], false), d) no_object (omega (arith, pair, lt))
    ∙ ap (object_of symbols) (get_or-zip names memories i (([], false), d) (omega (arith, can.name_count, lt)) lt)

pub tags_are : TagsAreOfMemories
tags_are names symbols memories i d can lt = λ k inside.
    ap (λ (o : ImageObject). has_tag o.tags (16 * k)) (objects_are names symbols memories i d can lt)
    ∙ tags_of (slice_index_or memories i d) k (can.writable i d lt).pages inside

pub words_are : WordsAreOfMemories
words_are names symbols memories i d can lt is =
    subst (λ (o : ImageObject). ListsWordsOf (slice_index_or memories i d) o.words) (sym (objects_are names symbols memories i d can lt)) (words_of symbols (slice_index_or memories i d) is)

pub tags_read : TagsAreRead
tags_read names symbols memories i d can lt = λ k inside. read_at symbols (2 ^ 64) 0 names memories i d k can.name_count can.ascending can.writable lt inside

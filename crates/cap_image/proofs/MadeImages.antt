-- The image of memories that can be read is an image.
use Rattle.std.proofs.Common.{◌≡◌, ℕ, zero, suc, ◌+◌, ◌-◌, ◌*◌, ◌/◌, ◌%◌, ◌<◌, ◌≤◌, ◌==◌, Bool, true, false, cond, List, [], ◌∷◌, length, map, get_or, Some, refl, sym, ap, ◌∙◌, subst, arith, ⊎_elim}
use Rattle.std.specs.Prelude.{◌≢◌, All, AllPairs, IsTrue, find, is_some}
use Rattle.std.specs.List.{range_with_len, zip}
use Rattle.std.proofs.lemmas.Bool.{le-leb, lt-ltb, eq-eqb, ne_eqb, cases_eq, cases_lt}
use Rattle.std.proofs.lemmas.List.{length-map, get_or_past}
use Rattle.std.proofs.lemmas.List.Elements.{All-map}
use Rattle.std.proofs.lemmas.List.FromFn.{length-map-range_with_len, get_or-map-range_with_len}
use Rattle.std.proofs.lemmas.Slice.Zip.{get_or-zip, length-zip}
use Rattle.cap_base.specs.Text.{is_plain}
use Rattle.cap_mem.specs.Ascending.{Ascend as MemoriesAscend}
use Rattle.cap_mem.specs.IsMemory.{IsHeld}
use Rattle.cap_mem.specs.Tagged.{TaggedMemory, TaggedWord, is_tagged, stands_at}
use Rattle.cap_image.specs.declared.header.Version.TheVariants.{Two}
use Rattle.cap_image.specs.Parts.{ImageObject, IsObject, IsWord, FollowsWord, HasWords, Ascend, interval_of, has_tag, is_tagged_granule, space_start, space_end}
use Rattle.cap_image.specs.Words.{count_below}
use Rattle.cap_image.specs.Writing.{tag_byte, tag_bytes, first_tag_bytes, record_of, records_of, object_of, objects_of, IsWritable, IsObjectName, AreShort}
use Rattle.cap_image.specs.ReadBack.{IsMapped, ArePlain, MemoriesAreImages, MemoriesAreRead}
use Rattle.cap_image.specs.Accepted.{AreBytes}
use Rattle.cap_image.proofs.ImageOf.{tags_of}
use Rattle.cap_image.proofs.TagBytes.{tags_low}
use Rattle.cap_image.proofs.Listing.{pairs_of_map}
use Rattle.cap_image.proofs.TagCounts.{one_counted, granules_counted}
use Rattle.cap_image.proofs.WordOrder.{Distinct, rest_apart, first_apart}

-- ---- tagged granules and words

-- a word stands where it stands
word_found : (ws : List TaggedWord) (k : ℕ) (d : TaggedWord) → k < length ws → is_some (find (stands_at (get_or ws k d).granule) ws) ≡ true
word_found [] k d lt = absurd (omega (arith, lt))
word_found (w ∷ ws) zero d lt = rw (eq-eqb w.granule w.granule refl) refl
word_found (w ∷ ws) (suc k) d lt = either (w.granule == (get_or ws k d).granule) (word_found ws k d (omega (arith, lt)))
  where
    either : (b : Bool) → is_some (find (stands_at (get_or ws k d).granule) ws) ≡ true → is_some (cond b (Some w) (find (stands_at (get_or ws k d).granule) ws)) ≡ true
    either true e = refl
    either false e = e

-- no word stands where none does
none_found : (g : ℕ) (ws : List TaggedWord) → All (λ v. g ≢ v.granule) ws → is_some (find (stands_at g) ws) ≡ false
none_found g [] apart = refl
none_found g (w ∷ ws) apart = rw (ne_eqb w.granule g (λ e. apart zero w (omega arith) (sym e))) (none_found g ws (λ k d lt. apart (suc k) d (omega (arith, lt))))

-- how many of the first granules from a base on have words
abbrev with_words : ℕ → List TaggedWord → ℕ → ℕ
with_words base ws zero = 0
with_words base ws (suc n) = with_words base ws n + cond (is_some (find (stands_at (base + 16 * n)) ws)) 1 0

none_with : (base n : ℕ) → with_words base [] n ≡ 0
none_with base zero = refl
none_with base (suc n) = let before = none_with base n in omega (arith, before)

module _ (base : ℕ) (w : TaggedWord) (ws : List TaggedWord) (q : ℕ) (at : w.granule ≡ base + 16 * q) (new : All (λ v. w.granule ≢ v.granule) ws) where
  elsewhere : (n : ℕ) → (q ≡ n → ⊥) → is_some (find (stands_at (base + 16 * n)) (w ∷ ws)) ≡ is_some (find (stands_at (base + 16 * n)) ws)
  elsewhere n other = rw (ne_eqb w.granule (base + 16 * n) (λ e. other (omega (arith, at, e)))) refl

  -- a word behind these granules
  before_it : (n : ℕ) → n ≤ q → with_words base (w ∷ ws) n ≡ with_words base ws n
  before_it zero le = refl
  before_it (suc n) le =
      ap (λ b. with_words base (w ∷ ws) n + cond b 1 0) (elsewhere n (λ e. omega (arith, e, le))) ∙ ap (λ k. k + cond (is_some (find (stands_at (base + 16 * n)) ws)) 1 0) (before_it n (omega (arith, le)))

  here : (n : ℕ) → q ≡ n → (is_some (find (stands_at (base + 16 * n)) (w ∷ ws)) ≡ true) × (is_some (find (stands_at (base + 16 * n)) ws) ≡ false)
  here n e =
      let same : w.granule ≡ base + 16 * n = omega (arith, at, e) in
      (rw (eq-eqb w.granule (base + 16 * n) same) refl, subst (λ (g : ℕ). is_some (find (stands_at g) ws) ≡ false) same (none_found w.granule ws new))

  -- and one of them
  behind_it : (n : ℕ) → q < n → with_words base (w ∷ ws) n ≡ with_words base ws n + 1
  behind_it zero lt = absurd (omega (arith, lt))
  behind_it (suc n) lt = ⊎_elim
      (λ (e : q ≡ n).
      let found = here n e in
      let before : with_words base (w ∷ ws) n ≡ with_words base ws n = before_it n (omega (arith, e)) in
      rw (found.0, found.1) (omega (arith, before)))
      (λ (other : q ≡ n → ⊥).
      let before : with_words base (w ∷ ws) n ≡ with_words base ws n + 1 = behind_it n (omega (arith, lt, other)) in
      rw (elsewhere n other) (omega (arith, before)))
      (cases_eq q n)

-- a word stands at a granule, one of so many from a base on
record StandsIn (base n : ℕ) (w : TaggedWord) : Type 0 where
  number : ℕ
  at : w.granule ≡ base + 16 * number
  low : number < n

all_counted : (base n : ℕ) (ws : List TaggedWord) → All (StandsIn base n) ws → Distinct ws → with_words base ws n ≡ length ws
all_counted base n [] stand apart = none_with base n
all_counted base n (w ∷ ws) stand apart =
    let s = stand zero w (omega arith) in
    let rest : with_words base ws n ≡ length ws = all_counted base n ws (λ k d lt. stand (suc k) d (omega (arith, lt))) (rest_apart w ws apart) in
    let more = behind_it base w ws s.number s.at (first_apart w ws apart) n s.low in
    omega (arith, rest, more)

module _ (m : TaggedMemory) (is : IsMapped m) (pages : length m.bytes % 4096 ≡ 0) where
  number_of : TaggedWord → ℕ
  number_of w = (w.granule - m.base) / 16

  stand_in : All (StandsIn m.base (length m.bytes / 16)) m.words
  stand_in k d lt =
      let w = get_or m.words k d in
      let held : IsHeld m w = is.sound.held k d lt in
      let base : m.base % 4096 ≡ 0 = is.base_in_pages in
      let aligned : w.granule % 16 ≡ 0 = held.aligned in
      let from : m.base ≤ w.granule = held.from in
      let to : w.granule + 16 ≤ m.base + length m.bytes = held.to in
      record {
        number = (w.granule - m.base) / 16;
        at = omega (arith, base, aligned, from);
        low = omega (arith, base, aligned, from, to, pages);
      }

  tags_counted : (n : ℕ) → n ≤ length m.bytes / 16 → count_below (tag_bytes m) n ≡ with_words m.base m.words n
  tags_counted zero le = refl
  tags_counted (suc n) le =
      let next : suc n ≡ n + 1 = omega arith in
      let one = one_counted (tag_bytes m) n in
      let tag : has_tag (tag_bytes m) (16 * n) ≡ is_tagged m (m.base + 16 * n) = tags_of m n pages (omega (arith, le, pages)) in
      ap (count_below (tag_bytes m)) next ∙ one ∙ ap (λ b. count_below (tag_bytes m) n + cond b 1 0) tag ∙ ap (λ k. k + cond (is_tagged m (m.base + 16 * n)) 1 0) (tags_counted n (omega (arith, le)))

  -- there are as many tagged granules as words
  as_many : count_below (tag_bytes m) (length m.bytes / 16) ≡ length m.words
  as_many = tags_counted (length m.bytes / 16) (omega arith) ∙ all_counted m.base (length m.bytes / 16) m.words stand_in is.sound.distinct

  -- the granule of a word is tagged
  tagged : (k : ℕ) (d : TaggedWord) → k < length m.words → IsTrue (is_tagged_granule m.base (length m.bytes) (tag_bytes m) (get_or m.words k d).granule)
  tagged k d lt =
      let w = get_or m.words k d in
      let held : IsHeld m w = is.sound.held k d lt in
      let s = stand_in k d lt in
      let at : w.granule ≡ m.base + 16 * s.number = s.at in
      let low : s.number < length m.bytes / 16 = s.low in
      let to : w.granule + 16 ≤ m.base + length m.bytes = held.to in
      let offset : w.granule - m.base ≡ 16 * s.number = omega (arith, at) in
      let tag : has_tag (tag_bytes m) (w.granule - m.base) ≡ true =
      ap (has_tag (tag_bytes m)) offset ∙ tags_of m s.number pages (omega (arith, low)) ∙ ap (is_tagged m) (sym at) ∙ word_found m.words k d lt in
      rw (eq-eqb (w.granule % 16) 0 held.aligned, le-leb m.base w.granule held.from, lt-ltb w.granule (m.base + length m.bytes) (omega (arith, to)), tag) refl

-- ---- the object of a memory

module _ (symbols : List (List (List ℕ × Bool))) (short : All AreShort symbols) (plain : All ArePlain symbols) (name : List ℕ × Bool) (m : TaggedMemory) (is : IsMapped m) (can : IsWritable symbols m) where
  word_is : (k : ℕ) (d : TaggedWord) → k < length m.words → IsWord (length symbols) m.base (length m.bytes) (tag_bytes m) (record_of symbols (get_or m.words k d))
  word_is k d lt =
      let w = get_or m.words k d in
      let has = can.words k d lt in
      record {
        granule = tagged m is can.pages k d lt;
        owner = has.owner_is;
        short_name = short w.cap.owner [] has.owner_is w.note ([], false) has.note_is;
        plain_name = plain w.cap.owner [] has.owner_is w.note ([], false) has.note_is;
      }

  follow : AllPairs (λ v w. FollowsWord (record_of symbols v) (record_of symbols w)) m.words
  follow i j d less lt = record { granule = is.sound.distinct i j d less lt; owner = is.sound.ascending i j d less lt }

  words_are : HasWords Two (length symbols) (object_of symbols (name, m))
  unfolding HasWords records_of
  words_are = record {
    each = All-map (IsWord (length symbols) m.base (length m.bytes) (tag_bytes m)) (record_of symbols) m.words word_is;
    apart = pairs_of_map FollowsWord (record_of symbols) m.words follow;
    as_many = length-map m.words (record_of symbols) ∙ sym (as_many m is can.pages) ∙ sym (granules_counted m.base (tag_bytes m) (length m.bytes / 16));
  }

tag_bytes_len : (m : TaggedMemory) (n : ℕ) → length (first_tag_bytes m n) ≡ n
unfolding first_tag_bytes
tag_bytes_len m n = length-map-range_with_len _ 0 n

object_is : (symbols : List (List (List ℕ × Bool))) (name : List ℕ × Bool) (m : TaggedMemory) → IsMapped m → IsWritable symbols m → IsObjectName name → IsTrue (is_plain name.0) → m.base + length m.bytes ≤ space_end
    → IsObject (object_of symbols (name, m))
object_is symbols name m is can named plain within = record {
  base_in_pages = is.base_in_pages;
  size_in_pages = can.pages;
  some_bytes = is.some_bytes;
  within = within;
  some_name = named.some;
  short_name = named.short;
  plain_name = plain;
  tag_count = tag_bytes_len m (length m.bytes / 128);
}

-- ---- all objects

limit_from : (from : ℕ) (memories : List TaggedMemory) (limit : ℕ) → MemoriesAscend from memories limit → from ≤ limit
limit_from from [] limit up = up
limit_from from (m ∷ ms) limit up = let rest = limit_from (m.base + length m.bytes) ms limit up.1 in omega (arith, rest, up.0)

-- each memory ends at the limit at most
ends_within : (from : ℕ) (memories : List TaggedMemory) (limit k : ℕ) (d : TaggedMemory) → MemoriesAscend from memories limit → k < length memories
    → (get_or memories k d).base + length (get_or memories k d).bytes ≤ limit
ends_within from [] limit k d up lt = absurd (omega (arith, lt))
ends_within from (m ∷ ms) limit zero d up lt = limit_from (m.base + length m.bytes) ms limit up.1
ends_within from (m ∷ ms) limit (suc k) d up lt = ends_within (m.base + length m.bytes) ms limit k d up.1 (omega (arith, lt))

-- the objects stand where their memories do
ascend : (symbols : List (List (List ℕ × Bool))) (from : ℕ) (names : List (List ℕ × Bool)) (memories : List TaggedMemory) (limit : ℕ) → length names ≡ length memories → MemoriesAscend from memories limit
    → Ascend from (map interval_of (objects_of names symbols memories)) limit
unfolding Ascend
ascend symbols from [] [] limit count up = up
ascend symbols from [] (m ∷ ms) limit count up = absurd (omega (arith, count))
ascend symbols from (n ∷ ns) [] limit count up = absurd (omega (arith, count))
ascend symbols from (n ∷ ns) (m ∷ ms) limit count up = (up.0, ascend symbols (m.base + length m.bytes) ns ms limit (omega (arith, count)) up.1)

-- what holds of the object of each name and its memory
all_objects : (P : ImageObject → Type 0) (names : List (List ℕ × Bool)) (symbols : List (List (List ℕ × Bool))) (memories : List TaggedMemory) → length names ≡ length memories
    → ((k : ℕ) (n : List ℕ × Bool) (m : TaggedMemory) → k < length memories → P (object_of symbols (get_or names k n, get_or memories k m))) → All P (objects_of names symbols memories)
all_objects P names symbols memories count each =
    All-map P (object_of symbols) (zip names memories) (λ k d lt.
    let pairs : length (zip names memories) ≡ length memories = omega (arith, length-zip names memories, count) in
    let inside : k < length memories = omega (arith, pairs, lt) in
    subst (λ (p : (List ℕ × Bool) × TaggedMemory). P (object_of symbols p)) (sym (get_or-zip names memories k d (omega (arith, count, inside)) inside)) (each k d.0 d.1 inside))

pub are_images : MemoriesAreImages
are_images names symbols memories can =
    let written = can.can_be_written in
    let count : length names ≡ length memories = written.name_count in
    let objects : length (objects_of names symbols memories) ≡ length memories =
    length-map (zip names memories) (object_of symbols) ∙ length-zip names memories ∙ omega (arith, count) in
    record {
      few = omega (arith, objects, written.few);
      objects =
          all_objects IsObject names symbols memories count
          (λ k n m lt. object_is symbols (get_or names k n) (get_or memories k m) (can.mapped k m lt) (written.writable k m lt) (written.object_names k n (omega (arith, count, lt))) (can.object_names k n (omega (arith, count, lt))) (ends_within space_start memories space_end k m can.ascending lt));
      ascending = ascend symbols space_start names memories space_end count can.ascending;
      words =
          subst (λ (total : ℕ). All (HasWords Two total) (objects_of names symbols memories)) (written.symbol_count ∙ sym objects)
          (all_objects (HasWords Two (length symbols)) names symbols memories count
          (λ k n m lt. words_are symbols written.symbol_names can.symbol_names (get_or names k n) (get_or memories k m) (can.mapped k m lt) (written.writable k m lt)));
    }

-- ---- objects as those of a file that was read

tag_bytes_are : (m : TaggedMemory) (n : ℕ) → AreBytes (first_tag_bytes m n)
unfolding first_tag_bytes
tag_bytes_are m n i = ⊎_elim
    (λ (here : i < n).
    let byte : get_or (map (λ j. tag_byte m (m.base + 128 * j)) (range_with_len 0 n)) i 0 ≡ tag_byte m (m.base + 128 * i) =
    get_or-map-range_with_len (λ j. tag_byte m (m.base + 128 * j)) 0 n i i 0 here (omega arith) in
    let low : tag_byte m (m.base + 128 * i) < 256 = tags_low m (m.base + 128 * i) 8 in
    omega (arith, byte, low))
    (λ (past : n ≤ i).
    let none : get_or (map (λ j. tag_byte m (m.base + 128 * j)) (range_with_len 0 n)) i 0 ≡ 0 =
    get_or_past (map (λ j. tag_byte m (m.base + 128 * j)) (range_with_len 0 n)) i 0 (omega (arith, past, length-map-range_with_len (λ j. tag_byte m (m.base + 128 * j)) 0 n)) in
    omega (arith, none))
    (cases_lt i n)

pub are_read : MemoriesAreRead
are_read names symbols memories can =
    let count : length names ≡ length memories = can.can_be_written.name_count in
    let is = are_images names symbols memories can in
    λ k d lt. record {
      object = is.objects k d lt;
      tags = all_objects (λ o. AreBytes o.tags) names symbols memories count (λ j n m inside. tag_bytes_are (get_or memories j m) (length (get_or memories j m).bytes / 128)) k d lt;
    }

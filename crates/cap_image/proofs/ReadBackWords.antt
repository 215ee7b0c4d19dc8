-- The word records of an object are read back.
use Rattle.std.proofs.Common.{◌≡◌, ℕ, zero, suc, ◌+◌, ◌-◌, ◌*◌, ◌%◌, ◌^◌, ◌<◌, ◌≤◌, ◌==◌, true, false, ◌&&◌, ◌||◌, List, [], ◌∷◌, ◌++◌, length, get_or, drop, map, Result, Ok, refl, sym, ap, ◌∙◌, subst, arith, append_assoc, append-nil, length-append}
use Rattle.std.specs.Prelude.{◌≢◌, All, AllPairs, IsTrue, nat_lt, nat_le, flat_map}
use Rattle.std.proofs.lemmas.Bool.{le-leb, le-ltb, lt-ltb, eq-eqb, ne_eqb, and_parts, ltb-true}
use Rattle.std.proofs.lemmas.List.{map-append}
use Rattle.std.proofs.lemmas.List.Folds.{list_any-append}
use Rattle.cap_base.specs.Steps.{◌>>=◌}
use Rattle.cap_base.specs.Field.{number_at}
use Rattle.cap_base.specs.declared.refusal.Fault.{Fault}
use Rattle.cap_image.specs.declared.header.Version.{Version}
use Rattle.cap_image.specs.declared.header.Version.TheVariants.{One, Two}
use Rattle.cap_image.specs.declared.records.ObjectRecord.{ObjectRecord}
use Rattle.cap_image.specs.declared.words.WordPlace.{WordPlace}
use Rattle.cap_image.specs.Parts.{WordRecord, ImageObject, IsObject, IsWord, FollowsWord, HasWords, is_tagged_granule, has_tag, space_end}
use Rattle.cap_image.specs.Records.{piece, repeated}
use Rattle.cap_image.specs.Words.{Words, no_words, with_word, word_in, is_listed, is_next, word_at, add_word, words_at, words_of, tag_count}
use Rattle.cap_image.specs.Writing.{field_bytes, name_bytes, word_bytes, words_bytes}
use Rattle.cap_image.proofs.ReadBackPlaces.{behind, piece_is, number_is, field_len, behind_number, room}
use Rattle.cap_image.proofs.TagCounts.{tags_counted, count_few}
use Rattle.cap_image.proofs.TagLemmas.{bytes_tagged}

-- a word record that stands at a place
record WordStands (bytes : List ℕ) (at : ℕ) (w : WordRecord) (rest : List ℕ) : Type 0 where
  granule : number_at 8 bytes at ≡ w.granule
  owner : number_at 2 bytes (at + 8) ≡ w.owner
  len : number_at 2 bytes (at + 10) ≡ length w.name
  name : piece bytes (at + 12) (length w.name) ≡ w.name
  head : at + 12 ≤ length bytes
  whole : at + 12 + length w.name ≤ length bytes
  next : drop (at + 12 + length w.name) bytes ≡ rest

word_shape : (w : WordRecord) (rest : List ℕ) → word_bytes w ++ rest ≡ field_bytes 8 w.granule ++ (field_bytes 2 w.owner ++ (field_bytes 2 (length w.name) ++ (w.name ++ rest)))
unfolding word_bytes name_bytes field_bytes
word_shape w rest = refl

word_len : (w : WordRecord) (rest : List ℕ) → 12 + length w.name ≤ length (word_bytes w ++ rest)
word_len w rest =
    let f8 = field_len 8 w.granule in
    let f2 = field_len 2 w.owner in
    let l2 = field_len 2 (length w.name) in
    let a = length-append (field_bytes 8 w.granule) (field_bytes 2 w.owner ++ (field_bytes 2 (length w.name) ++ (w.name ++ rest))) in
    let b = length-append (field_bytes 2 w.owner) (field_bytes 2 (length w.name) ++ (w.name ++ rest)) in
    let c = length-append (field_bytes 2 (length w.name)) (w.name ++ rest) in
    let d = length-append w.name rest in
    let e = ap length (word_shape w rest) in
    omega (arith, f8, f2, l2, a, b, c, d, e)

word_stands : (bytes : List ℕ) (at : ℕ) (w : WordRecord) (rest : List ℕ) → w.granule < 2 ^ 64 → w.owner < 2 ^ 16 → length w.name ≤ 255 → drop at bytes ≡ word_bytes w ++ rest → WordStands bytes at w rest
word_stands bytes at w rest g o l h =
    let h0 : drop at bytes ≡ field_bytes 8 w.granule ++ (field_bytes 2 w.owner ++ (field_bytes 2 (length w.name) ++ (w.name ++ rest))) = h ∙ word_shape w rest in
    let h8 : drop (at + 8) bytes ≡ field_bytes 2 w.owner ++ (field_bytes 2 (length w.name) ++ (w.name ++ rest)) = behind_number bytes at (at + 8) 8 w.granule _ refl h0 in
    let h10 : drop (at + 10) bytes ≡ field_bytes 2 (length w.name) ++ (w.name ++ rest) = behind_number bytes (at + 8) (at + 10) 2 w.owner _ (omega arith) h8 in
    let h12 : drop (at + 12) bytes ≡ w.name ++ rest = behind_number bytes (at + 10) (at + 12) 2 (length w.name) _ (omega arith) h10 in
    let long = word_len w rest in
    let all : at + (12 + length w.name) ≤ length bytes = room bytes at (12 + length w.name) (word_bytes w ++ rest) h (omega arith) long in
    record {
      granule = number_is bytes at 8 w.granule _ (omega (arith, g)) h0;
      owner = number_is bytes (at + 8) 2 w.owner _ (omega (arith, o)) h8;
      len = number_is bytes (at + 10) 2 (length w.name) _ (omega (arith, l)) h10;
      name = piece_is bytes (at + 12) (length w.name) w.name rest refl h12;
      head = omega (arith, all);
      whole = omega (arith, all);
      next = behind bytes (at + 12) (at + 12 + length w.name) w.name rest refl h12;
    }

abbrev place_of : ℕ → WordRecord → WordPlace
place_of at w = record { granule = w.granule; owner = w.owner; name_at = at + 12; name_len = length w.name }

-- so many word records were read behind others
pub record WordsRead (bytes : List ℕ) (before : List WordPlace) (ws : List WordRecord) (rest : List ℕ) (read : Result Words Fault) : Type 0 where
  pub words : Words
  pub is : read ≡ Ok words
  pub items : map (word_in bytes) words.items ≡ map (word_in bytes) before ++ ws
  pub next : drop words.at bytes ≡ rest

module _ (bytes : List ℕ) (count : ℕ) (of : ObjectRecord) (tags : List ℕ) (few : count ≤ 256) (within : of.base + of.size ≤ space_end) where
  abbrev Good : WordRecord → Type 0
  Good w = IsWord count of.base of.size tags w

  next_is : (acc : Words) (w : WordRecord) → IsTrue (is_tagged_granule of.base of.size tags w.granule) → is_listed acc.items w.granule ≡ false → w.owner < count → acc.owner ≤ w.owner
      → is_next count of tags acc w.granule w.owner ≡ true
  next_is acc w tagged new owner above = rw (tagged, new, lt-ltb w.owner count owner, le-leb acc.owner w.owner above) refl

  granule_low : (w : WordRecord) → Good w → w.granule < 2 ^ 64
  granule_low w good =
      let from_base = w.granule % 16 == 0 && nat_le of.base w.granule in
      let front = and_parts (from_base && nat_lt w.granule (of.base + of.size)) (has_tag tags (w.granule - of.base)) good.granule in
      let inside = and_parts from_base (nat_lt w.granule (of.base + of.size)) front.0 in
      let low : w.granule < of.base + of.size = ltb-true w.granule (of.base + of.size) inside.1 in
      omega (arith, low, within)

  pub one_read : (acc : Words) (w : WordRecord) (rest : List ℕ) → Good w → is_listed acc.items w.granule ≡ false → acc.owner ≤ w.owner → drop acc.at bytes ≡ word_bytes w ++ rest
      → word_at bytes count of tags acc ≡ Ok (place_of acc.at w)
  unfolding word_at
  one_read acc w rest good new above h =
      let s = word_stands bytes acc.at w rest (granule_low w good) (omega (arith, few, good.owner)) good.short_name h in
      rw (le-leb (acc.at + 12) (length bytes) s.head, s.granule, s.owner, next_is acc w good.granule new good.owner above, s.len, le-ltb 255 (length w.name) good.short_name, le-leb (acc.at + 12 + length w.name) (length bytes) s.whole, s.name, good.plain_name) refl

  -- one more behind others
  pub added : (acc : Words) (w : WordRecord) (rest : List ℕ) → Good w → is_listed acc.items w.granule ≡ false → acc.owner ≤ w.owner → drop acc.at bytes ≡ word_bytes w ++ rest
      → add_word bytes count of tags acc ≡ Ok (with_word acc (place_of acc.at w))
  unfolding add_word
  added acc w rest good new above h = ap (λ (r : Result WordPlace Fault). r >>= λ next. Ok (with_word acc next)) (one_read acc w rest good new above h)

  abbrev named : WordRecord → List ℕ → WordRecord
  named w name = record { granule = w.granule; owner = w.owner; name = name }

  placed : (at : ℕ) (w : WordRecord) → piece bytes (at + 12) (length w.name) ≡ w.name → word_in bytes (place_of at w) ≡ w
  placed at w e = ap (named w) e

  still_new : (items : List WordPlace) (at : ℕ) (w v : WordRecord) → w.granule ≢ v.granule → is_listed items v.granule ≡ false → is_listed (items ++ place_of at w ∷ []) v.granule ≡ false
  still_new items at w v other new =
      list_any-append (λ u. u.granule == v.granule) items (place_of at w ∷ [])
      ∙ ap (λ b. b || ((w.granule == v.granule) || false)) new
      ∙ ap (λ b. b || false) (ne_eqb w.granule v.granule other)

  pub all_read : (ws : List WordRecord) (acc : Words) (rest : List ℕ) → All Good ws → AllPairs FollowsWord ws → All (λ w. acc.owner ≤ w.owner) ws → All (λ w. is_listed acc.items w.granule ≡ false) ws
      → drop acc.at bytes ≡ flat_map word_bytes ws ++ rest → WordsRead bytes acc.items ws rest (repeated (add_word bytes count of tags) (length ws) acc)
  all_read [] acc rest good apart above new h = record { words = acc; is = refl; items = sym (append-nil (map (word_in bytes) acc.items)); next = h }
  all_read (w ∷ ws) acc rest good apart above new h =
      let shape : drop acc.at bytes ≡ word_bytes w ++ (flat_map word_bytes ws ++ rest) = h ∙ append_assoc (word_bytes w) (flat_map word_bytes ws) rest in
      let is : Good w = good zero w (omega arith) in
      let s = word_stands bytes acc.at w (flat_map word_bytes ws ++ rest) (granule_low w is) (omega (arith, few, is.owner)) is.short_name shape in
      let place = place_of acc.at w in
      let after = with_word acc place in
      let step : add_word bytes count of tags acc ≡ Ok after = added acc w (flat_map word_bytes ws ++ rest) is (new zero w (omega arith)) (above zero w (omega arith)) shape in
      let rest_read = all_read ws after rest
      (λ k d lt. good (suc k) d (omega (arith, lt)))
      (λ i j d less lt. apart (suc i) (suc j) d (omega (arith, less)) (omega (arith, lt)))
      (λ k d lt. (apart zero (suc k) d (omega arith) (omega (arith, lt))).owner)
      (λ k d lt. still_new acc.items acc.at w (get_or ws k d) (apart zero (suc k) d (omega arith) (omega (arith, lt))).granule (new (suc k) d (omega (arith, lt))))
      s.next in
      record {
        words = rest_read.words;
        is = ap (λ (r : Result Words Fault). r >>= λ b. repeated (add_word bytes count of tags) (length ws) b) step ∙ rest_read.is;
        items =
            rest_read.items ∙ ap (λ (xs : List WordRecord). xs ++ ws) (map-append (word_in bytes) acc.items (place ∷ [])) ∙ append_assoc (map (word_in bytes) acc.items) (word_in bytes place ∷ []) ws
            ∙ ap (λ (v : WordRecord). map (word_in bytes) acc.items ++ v ∷ ws) (placed acc.at w s.name);
        next = rest_read.next;
      }

-- the word records of an object, of either version
module _ (bytes : List ℕ) (count : ℕ) (few : count ≤ 256) (o : ImageObject) (is : IsObject o) (of : ObjectRecord) (base : of.base ≡ o.base) (size : of.size ≡ length o.bytes) where
  many : length o.words ≡ tag_count o.tags → length o.words < 2 ^ 32
  many e =
      let counted : tag_count o.tags ≤ 8 * length o.tags = count_few o.tags (8 * length o.tags) in
      let tagged = bytes_tagged o is in
      let within : o.base + length o.bytes ≤ space_end = is.within in
      omega (arith, e, counted, tagged, within)

  counted : (at : ℕ) (more : List ℕ) → length o.words ≡ tag_count o.tags → drop at bytes ≡ field_bytes 4 (length o.words) ++ more
      → words_at bytes count of o.tags at ≡ repeated (add_word bytes count of o.tags) (length o.words) (no_words (at + 4))
  unfolding words_at
  counted at more e h =
      let number : number_at 4 bytes at ≡ length o.words = number_is bytes at 4 (length o.words) more (omega (arith, many e)) h in
      let long : 4 ≤ length (field_bytes 4 (length o.words) ++ more) = omega (arith, length-append (field_bytes 4 (length o.words)) more, field_len 4 (length o.words)) in
      let head : at + 4 ≤ length bytes = room bytes at 4 (field_bytes 4 (length o.words) ++ more) h (omega arith) long in
      rw (le-leb (at + 4) (length bytes) head, number, eq-eqb (length o.words) (tag_count o.tags) e) refl

  two_read : (at : ℕ) (rest : List ℕ) → HasWords Two count o → drop at bytes ≡ words_bytes Two o.words ++ rest → WordsRead bytes [] o.words rest (words_at bytes count of o.tags at)
  unfolding HasWords words_bytes
  two_read at rest has h =
      let shape : drop at bytes ≡ field_bytes 4 (length o.words) ++ (flat_map word_bytes o.words ++ rest) = h ∙ append_assoc (field_bytes 4 (length o.words)) (flat_map word_bytes o.words) rest in
      let number_of_words : length o.words ≡ tag_count o.tags = has.as_many ∙ tags_counted o is in
      let next : drop (at + 4) bytes ≡ flat_map word_bytes o.words ++ rest = behind_number bytes at (at + 4) 4 (length o.words) (flat_map word_bytes o.words ++ rest) refl shape in
      let within : o.base + length o.bytes ≤ space_end = is.within in
      subst (WordsRead bytes [] o.words rest) (sym (counted at (flat_map word_bytes o.words ++ rest) number_of_words shape))
      (all_read bytes count of o.tags few (omega (arith, base, size, within)) o.words (no_words (at + 4)) rest
      (λ k d lt. subst (λ (n : ℕ). IsWord count of.base n o.tags (get_or o.words k d)) (sym size) (subst (λ (n : ℕ). IsWord count n (length o.bytes) o.tags (get_or o.words k d)) (sym base) (has.each k d lt)))
      has.apart
      (λ k d lt. omega arith)
      (λ k d lt. refl)
      next)

  pub words_read : (version : Version) (at : ℕ) (rest : List ℕ) → HasWords version count o → drop at bytes ≡ words_bytes version o.words ++ rest → WordsRead bytes [] o.words rest (words_of version bytes count of o.tags at)
  unfolding HasWords words_bytes words_of
  words_read One at rest has h = record { words = no_words at; is = refl; items = sym has; next = h }
  words_read Two at rest has h = two_read at rest has h

-- An accepted file is the bytes of its parts.
use Rattle.std.proofs.Common.{◌≡◌, ℕ, zero, suc, ◌+◌, ◌/◌, ◌%◌, ◌<◌, ◌≤◌, Bool, true, false, not, ◌&&◌, ◌==◌, List, [], ◌∷◌, ◌++◌, length, map, take, Ok, Err, refl, sym, ap, subst, ◌∙◌, get_or, append_assoc, append-nil, length-append, arith}
use Rattle.std.specs.Prelude.{nat_le, nat_lt, All, flat_map, codes, bytes_eq, if◌then◌else◌}
use Rattle.std.proofs.lemmas.Bool.{leb-true, ltb-false, not-false, and_parts}
use Rattle.std.proofs.lemmas.Bool.Decides.{Decides-eqb}
use Rattle.std.proofs.lemmas.Slice.Eq.{bytes_eq-Decides}
use Rattle.std.proofs.lemmas.List.{length-map, get_or-map, take_all, map-append}
use Rattle.std.proofs.lemmas.List.Folds.{flat_map-map}
use Rattle.std.proofs.lemmas.List.Elements.{All-push, All-map}
use Rattle.std.proofs.lemmas.Grind.{flat_map-append}
use Rattle.cap_base.specs.Field.{number_at}
use Rattle.cap_base.specs.Steps.{fault}
use Rattle.cap_base.specs.Text.{is_plain}
use Rattle.cap_base.specs.declared.refusal.Fault.{Fault}
use Rattle.cap_base.specs.declared.check.Check.TheVariants as checks
use Rattle.cap_image.specs.declared.header.Version.{Version}
use Rattle.cap_image.specs.declared.header.Version.TheVariants.{One, Two}
use Rattle.cap_image.specs.declared.header.Header.{Header}
use Rattle.cap_image.specs.declared.records.ObjectRecord.{ObjectRecord}
use Rattle.cap_image.specs.declared.words.WordPlace.{WordPlace}
use Rattle.cap_image.specs.Parts.{ImageParts, space_end}
use Rattle.cap_image.specs.Header.{version_of, header_of}
use Rattle.cap_image.specs.Records.{Records, IsRecord, piece, is_placed, is_name_length, record_at, add_record, with_record, no_records, records_of}
use Rattle.cap_image.specs.Words.{Words, no_words, with_word, tag_count, is_next, word_at, add_word, words_at, words_of, word_in}
use Rattle.cap_image.specs.Bodies.{BodyParts, Bodies, tags_end, tags_at, body_at, add_body, bodies_of, object_in}
use Rattle.cap_image.specs.Reading.{read_image, parts_in}
use Rattle.cap_image.specs.Writing.{field_bytes, version_number, header_bytes, name_bytes, object_record, object_bytes, word_bytes, words_bytes, body_bytes, image_bytes}
use Rattle.cap_image.specs.Accepted.{AreBytes, IsReadObject, AcceptedIsWritten, AcceptedHasObjects}
use Rattle.cap_image.proofs.Passed.{bind_passed, check_passed, reach_passed, repeated_keep, steps_keep}
use Rattle.cap_image.proofs.FieldBytes.{piece_bytes, up_to_piece, to_field}
use Rattle.cap_image.proofs.Listing.{piece_len, is_object}

-- two texts, one behind the other
behind : (bytes : List ℕ) (at mid end : ℕ) (xs ys : List ℕ) → take mid bytes ≡ take at bytes ++ xs → take end bytes ≡ take mid bytes ++ ys → take end bytes ≡ take at bytes ++ (xs ++ ys)
behind bytes at mid end xs ys first second = second ∙ ap (λ (front : List ℕ). front ++ ys) first ∙ append_assoc (take at bytes) xs ys

-- ---- the header
record IsHeader (bytes : List ℕ) (h : Header) : Type 0 where
  is : take 16 bytes ≡ header_bytes h.version h.count
  within : 16 ≤ length bytes

chosen : (one two : Bool) (number : ℕ) (f : Fault) (v : Version) → (one ≡ true → number ≡ 1) → (two ≡ true → number ≡ 2) → (if one then Ok One else if two then Ok Two else Err f) ≡ Ok v → version_number v ≡ number
chosen true two number f v is_one is_two h = let same : One ≡ v = cc in subst (λ (w : Version). version_number w ≡ number) same (sym (is_one refl))
chosen false true number f v is_one is_two h = let same : Two ≡ v = cc in subst (λ (w : Version). version_number w ≡ number) same (sym (is_two refl))
chosen false false number f v is_one is_two h = absurd (cc)

numbered : (number : ℕ) (v : Version) → version_of number ≡ Ok v → version_number v ≡ number
numbered number v h = chosen (number == 1) (number == 2) number (fault checks.ImageVersion 8) v (Decides-eqb number 1).0 (Decides-eqb number 2).0 h

header_made : (bytes : List ℕ) (v : Version) → AreBytes bytes → take 8 bytes ≡ codes "PURECAPI" → version_number v ≡ number_at 4 bytes 8 → 16 ≤ length bytes
    → take 16 bytes ≡ header_bytes v (number_at 4 bytes 12)
unfolding header_bytes
header_made bytes v are magic version inside =
    let first : take 12 bytes ≡ take 8 bytes ++ field_bytes 4 (number_at 4 bytes 8) = to_field bytes 8 4 12 refl are (omega (arith, inside)) in
    let second : take 16 bytes ≡ take 12 bytes ++ field_bytes 4 (number_at 4 bytes 12) = to_field bytes 12 4 16 refl are inside in
    second
    ∙ ap (λ (xs : List ℕ). xs ++ field_bytes 4 (number_at 4 bytes 12)) (first ∙ ap (λ (xs : List ℕ). xs ++ field_bytes 4 (number_at 4 bytes 8)) magic ∙ ap (λ (n : ℕ). codes "PURECAPI" ++ field_bytes 4 n) (sym version))

header_passed : (bytes : List ℕ) (h : Header) → AreBytes bytes → header_of bytes ≡ Ok h → IsHeader bytes h
unfolding header_of
header_passed bytes h are read =
    let eight = reach_passed bytes 8 _ h read in
    let magic = check_passed (not (bytes_eq (take 8 bytes) (codes "PURECAPI"))) checks.ImageMagic 0 _ h eight.1 in
    let twelve = reach_passed bytes 12 _ h magic.1 in
    let version = bind_passed (version_of (number_at 4 bytes 8)) _ h twelve.1 in
    let sixteen = reach_passed bytes 16 _ h version.2 in
    let few = check_passed (nat_lt 256 (number_at 4 bytes 12)) checks.ImageObjects 12 _ h sixteen.1 in
    let made : Header = record { version = version.0; count = number_at 4 bytes 12 } in
    let same : made ≡ h = cc in
    let text : take 8 bytes ≡ codes "PURECAPI" = (bytes_eq-Decides (take 8 bytes) (codes "PURECAPI")).0 (not-false _ magic.0) in
    subst (IsHeader bytes) same (record { is = header_made bytes version.0 are text (numbered (number_at 4 bytes 8) version.0 version.1) sixteen.0; within = sixteen.0 })

-- ---- names
named : (bytes : List ℕ) (at name_at : ℕ) → AreBytes bytes → name_at ≡ at + 2 → name_at + number_at 2 bytes at ≤ length bytes
    → take (name_at + number_at 2 bytes at) bytes ≡ take at bytes ++ name_bytes (piece bytes name_at (number_at 2 bytes at))
unfolding name_bytes
named bytes at name_at are place inside =
    let len = number_at 2 bytes at in
    let name = piece bytes name_at len in
    let count : length name ≡ len = piece_len bytes name_at len inside in
    let first : take name_at bytes ≡ take at bytes ++ field_bytes 2 (length name) = to_field bytes at 2 name_at place are (omega (arith, inside)) ∙ ap (λ (n : ℕ). take at bytes ++ field_bytes 2 n) (sym count) in
    behind bytes at name_at (name_at + len) (field_bytes 2 (length name)) name first (up_to_piece bytes name_at len)

-- ---- the records of objects
abbrev record_text : List ℕ → ObjectRecord → List ℕ
record_text bytes r = object_record r.base r.size (piece bytes r.name_at r.name_len)

record RecordRead (bytes : List ℕ) (at : ℕ) (r : ObjectRecord) : Type 0 where
  is : take (r.name_at + r.name_len) bytes ≡ take at bytes ++ record_text bytes r
  sound : IsRecord bytes r

record_made : (bytes : List ℕ) (at : ℕ) → AreBytes bytes → at + 18 + number_at 2 bytes (at + 16) ≤ length bytes
    → take (at + 18 + number_at 2 bytes (at + 16)) bytes ≡ take at bytes ++ object_record (number_at 8 bytes at) (number_at 8 bytes (at + 8)) (piece bytes (at + 18) (number_at 2 bytes (at + 16)))
unfolding object_record
record_made bytes at are inside =
    let base = to_field bytes at 8 (at + 8) refl are (omega (arith, inside)) in
    let size = to_field bytes (at + 8) 8 (at + 16) (omega arith) are (omega (arith, inside)) in
    let name = named bytes (at + 16) (at + 18) are (omega arith) inside in
    behind bytes at (at + 16) (at + 18 + number_at 2 bytes (at + 16)) (field_bytes 8 (number_at 8 bytes at) ++ field_bytes 8 (number_at 8 bytes (at + 8))) (name_bytes (piece bytes (at + 18) (number_at 2 bytes (at + 16))))
    (behind bytes at (at + 8) (at + 16) (field_bytes 8 (number_at 8 bytes at)) (field_bytes 8 (number_at 8 bytes (at + 8))) base size) name

some_from : (n : ℕ) → not (n == 0) ≡ true → 0 < n
some_from zero h = absurd (cc)
some_from (suc n) h = omega arith

record_passed : (bytes : List ℕ) (floor at : ℕ) (r : ObjectRecord) → AreBytes bytes → record_at bytes floor at ≡ Ok r → RecordRead bytes at r
unfolding record_at
record_passed bytes floor at r are read =
    let base = number_at 8 bytes at in
    let size = number_at 8 bytes (at + 8) in
    let len = number_at 2 bytes (at + 16) in
    let fields = reach_passed bytes (at + 16) _ r read in
    let placed = check_passed (not (is_placed floor base size)) checks.ImageObject at _ r fields.1 in
    let counted = reach_passed bytes (at + 18) _ r placed.1 in
    let short = check_passed (not (is_name_length len)) checks.ImageName (at + 16) _ r counted.1 in
    let whole = reach_passed bytes (at + 18 + len) _ r short.1 in
    let plain = check_passed (not (is_plain (piece bytes (at + 18) len))) checks.ImageName (at + 16) _ r whole.1 in
    let made : ObjectRecord = record { base = base; size = size; name_at = at + 18; name_len = len } in
    let same : made ≡ r = cc in
    let five = and_parts (base % 4096 == 0 && size % 4096 == 0 && not (size == 0) && nat_le floor base) (nat_le (base + size) space_end) (not-false _ placed.0) in
    let four = and_parts (base % 4096 == 0 && size % 4096 == 0 && not (size == 0)) (nat_le floor base) five.0 in
    let three = and_parts (base % 4096 == 0 && size % 4096 == 0) (not (size == 0)) four.0 in
    let two = and_parts (base % 4096 == 0) (size % 4096 == 0) three.0 in
    let length_is = and_parts (not (len == 0)) (nat_le len 255) (not-false _ short.0) in
    subst (RecordRead bytes at) same (record {
      is = record_made bytes at are whole.0;
      sound = record {
        base_in_pages = (Decides-eqb (base % 4096) 0).0 two.0;
        size_in_pages = (Decides-eqb (size % 4096) 0).0 two.1;
        some_bytes = some_from size three.1;
        within = leb-true (base + size) space_end five.1;
        some_name = some_from len length_is.0;
        short_name = leb-true len 255 length_is.1;
        name_inside = whole.0;
        plain_name = not-false _ plain.0;
      };
    })

flat_push : {X : Type 0} (f : X → List ℕ) (xs : List X) (x : X) → flat_map f (xs ++ x ∷ []) ≡ flat_map f xs ++ f x
flat_push f xs x = flat_map-append f xs (x ∷ []) ∙ ap (λ (ys : List ℕ). flat_map f xs ++ ys) (append-nil (f x))

-- the first records
record RecordsRead (bytes : List ℕ) (k : ℕ) (records : Records) : Type 0 where
  is : take records.at bytes ≡ take 16 bytes ++ flat_map (record_text bytes) records.items
  sound : All (IsRecord bytes) records.items
  count : length records.items ≡ k

record_more : (bytes : List ℕ) → AreBytes bytes → (k : ℕ) (a b : Records) → RecordsRead bytes k a → add_record bytes a ≡ Ok b → RecordsRead bytes (suc k) b
unfolding add_record
record_more bytes are k a b h step =
    let one = bind_passed (record_at bytes a.floor a.at) _ b step in
    let next = one.0 in
    let read = record_passed bytes a.floor a.at next are one.1 in
    let same : with_record a next ≡ b = cc in
    let grown = behind bytes 16 a.at (next.name_at + next.name_len) (flat_map (record_text bytes) a.items) (record_text bytes next) h.is read.is in
    let longer = length-append a.items (next ∷ []) in
    let counted : length a.items ≡ k = h.count in
    subst (RecordsRead bytes (suc k)) same (record {
      is = grown ∙ ap (λ (xs : List ℕ). take 16 bytes ++ xs) (sym (flat_push (record_text bytes) a.items next));
      sound = All-push (IsRecord bytes) a.items next h.sound read.sound;
      count = omega (arith, longer, counted);
    })

no_records_read : (bytes : List ℕ) → RecordsRead bytes 0 no_records
no_records_read bytes = record { is = sym (append-nil (take 16 bytes)); sound = λ k d lt. absurd (omega (arith, lt)); count = refl }

records_passed : (bytes : List ℕ) (count : ℕ) (records : Records) → AreBytes bytes → records_of bytes count ≡ Ok records → RecordsRead bytes (count + 0) records
records_passed bytes count records are read = repeated_keep (RecordsRead bytes) (add_record bytes) (record_more bytes are) count 0 no_records records (no_records_read bytes) read

-- ---- word records
abbrev word_text : List ℕ → WordPlace → List ℕ
word_text bytes w = word_bytes (word_in bytes w)

word_made : (bytes : List ℕ) (at : ℕ) → AreBytes bytes → at + 12 + number_at 2 bytes (at + 10) ≤ length bytes
    → take (at + 12 + number_at 2 bytes (at + 10)) bytes ≡ take at bytes ++ word_bytes (record { granule = number_at 8 bytes at; owner = number_at 2 bytes (at + 8); name = piece bytes (at + 12) (number_at 2 bytes (at + 10)) })
unfolding word_bytes
word_made bytes at are inside =
    let granule = to_field bytes at 8 (at + 8) refl are (omega (arith, inside)) in
    let owner = to_field bytes (at + 8) 2 (at + 10) (omega arith) are (omega (arith, inside)) in
    let name = named bytes (at + 10) (at + 12) are (omega arith) inside in
    behind bytes at (at + 10) (at + 12 + number_at 2 bytes (at + 10)) (field_bytes 8 (number_at 8 bytes at) ++ field_bytes 2 (number_at 2 bytes (at + 8))) (name_bytes (piece bytes (at + 12) (number_at 2 bytes (at + 10))))
    (behind bytes at (at + 8) (at + 10) (field_bytes 8 (number_at 8 bytes at)) (field_bytes 2 (number_at 2 bytes (at + 8))) granule owner) name

module _ (bytes : List ℕ) (count : ℕ) (of : ObjectRecord) (tags : List ℕ) (are : AreBytes bytes) where
  abbrev WordRead : Words → WordPlace → Type 0
  WordRead words w = take (w.name_at + w.name_len) bytes ≡ take words.at bytes ++ word_text bytes w

  word_passed : (words : Words) (w : WordPlace) → word_at bytes count of tags words ≡ Ok w → WordRead words w
  unfolding word_at
  word_passed words w read =
      let at = words.at in
      let granule = number_at 8 bytes at in
      let owner = number_at 2 bytes (at + 8) in
      let len = number_at 2 bytes (at + 10) in
      let fields = reach_passed bytes (at + 12) _ w read in
      let next = check_passed (not (is_next count of tags words granule owner)) checks.WordRecord at _ w fields.1 in
      let short = check_passed (nat_lt 255 len) checks.WordName (at + 10) _ w next.1 in
      let whole = reach_passed bytes (at + 12 + len) _ w short.1 in
      let plain = check_passed (not (is_plain (piece bytes (at + 12) len))) checks.WordName (at + 10) _ w whole.1 in
      let made : WordPlace = record { granule = granule; owner = owner; name_at = at + 12; name_len = len } in
      let same : made ≡ w = cc in
      subst (WordRead words) same (word_made bytes at are whole.0)

  -- the first word records from a place on
  record WordsRead (from k : ℕ) (words : Words) : Type 0 where
    is : take words.at bytes ≡ take from bytes ++ flat_map (word_text bytes) words.items
    as_many : length words.items ≡ k

  word_more : (from k : ℕ) (a b : Words) → WordsRead from k a → add_word bytes count of tags a ≡ Ok b → WordsRead from (suc k) b
  unfolding add_word
  word_more from k a b h step =
      let one = bind_passed (word_at bytes count of tags a) _ b step in
      let next = one.0 in
      let same : with_word a next ≡ b = cc in
      let grown = behind bytes from a.at (next.name_at + next.name_len) (flat_map (word_text bytes) a.items) (word_text bytes next) h.is (word_passed a next one.1) in
      let longer = length-append a.items (next ∷ []) in
      let counted : length a.items ≡ k = h.as_many in
      subst (WordsRead from (suc k)) same (record {
        is = grown ∙ ap (λ (xs : List ℕ). take from bytes ++ xs) (sym (flat_push (word_text bytes) a.items next));
        as_many = omega (arith, longer, counted);
      })

  no_words_read : (from : ℕ) → WordsRead from 0 (no_words from)
  no_words_read from = record { is = sym (append-nil (take from bytes)); as_many = refl }

  abbrev AreWordsRead : Version → ℕ → Words → Type 0
  AreWordsRead version at words = take words.at bytes ≡ take at bytes ++ words_bytes version (map (word_in bytes) words.items)

  words_at_passed : (at : ℕ) (words : Words) → words_at bytes count of tags at ≡ Ok words → AreWordsRead Two at words
  unfolding words_at words_bytes
  words_at_passed at words read =
      let len = number_at 4 bytes at in
      let field = reach_passed bytes (at + 4) _ words read in
      let tagged = check_passed (not (len == tag_count tags)) checks.WordRecord at _ words field.1 in
      let all = repeated_keep (WordsRead (at + 4)) (add_word bytes count of tags) (word_more (at + 4)) len 0 (no_words (at + 4)) words (no_words_read (at + 4)) tagged.1 in
      let items = length-map words.items (word_in bytes) in
      let counted : length words.items ≡ len + 0 = all.as_many in
      let number : len ≡ length (map (word_in bytes) words.items) = omega (arith, items, counted) in
      let first : take (at + 4) bytes ≡ take at bytes ++ field_bytes 4 (length (map (word_in bytes) words.items)) = to_field bytes at 4 (at + 4) refl are field.0 ∙ ap (λ (n : ℕ). take at bytes ++ field_bytes 4 n) number in
      behind bytes at (at + 4) words.at (field_bytes 4 (length (map (word_in bytes) words.items))) (flat_map word_bytes (map (word_in bytes) words.items)) first
      (all.is ∙ ap (λ (xs : List ℕ). take (at + 4) bytes ++ xs) (sym (flat_map-map word_bytes (word_in bytes) words.items)))

  words_passed : (version : Version) (at : ℕ) (words : Words) → words_of version bytes count of tags at ≡ Ok words → AreWordsRead version at words
  unfolding words_of words_bytes
  words_passed One at words read =
      let same : no_words at ≡ words = cc in
      subst (AreWordsRead One at) same (sym (append-nil (take at bytes)))
  words_passed Two at words read = words_at_passed at words read

-- ---- bodies
abbrev body_text : Version → List ℕ → BodyParts → List ℕ
body_text version bytes body = body_bytes version (object_in bytes body)

record BodyRead (version : Version) (bytes : List ℕ) (of : ObjectRecord) (at : ℕ) (body : BodyParts) : Type 0 where
  is : take body.ends_at bytes ≡ take at bytes ++ body_text version bytes body
  within : tags_end body.bytes_at body.of.size ≤ length bytes
  same : body.of ≡ of

body_made : (version : Version) (bytes : List ℕ) (of : ObjectRecord) (at : ℕ) (words : Words) → take words.at bytes ≡ take (tags_end at of.size) bytes ++ words_bytes version (map (word_in bytes) words.items)
    → take words.at bytes ≡ take at bytes ++ body_text version bytes (record { of = of; bytes_at = at; words = words.items; ends_at = words.at })
unfolding body_bytes
body_made version bytes of at words h =
    behind bytes at (tags_end at of.size) words.at (piece bytes at of.size ++ tags_at bytes at of.size) (words_bytes version (map (word_in bytes) words.items))
    (behind bytes at (at + of.size) (tags_end at of.size) (piece bytes at of.size) (tags_at bytes at of.size) (up_to_piece bytes at of.size) (up_to_piece bytes (at + of.size) (of.size / 128))) h

body_passed : (version : Version) (bytes : List ℕ) (count : ℕ) (of : ObjectRecord) (at : ℕ) (body : BodyParts) → AreBytes bytes → body_at version bytes count of at ≡ Ok body → BodyRead version bytes of at body
unfolding body_at
body_passed version bytes count of at body are read =
    let tags = tags_at bytes at of.size in
    let whole = reach_passed bytes (tags_end at of.size) _ body read in
    let words = bind_passed (words_of version bytes count of tags (tags_end at of.size)) _ body whole.1 in
    let made : BodyParts = record { of = of; bytes_at = at; words = words.0.items; ends_at = words.0.at } in
    let same : made ≡ body = cc in
    subst (BodyRead version bytes of at) same (record {
      is = body_made version bytes of at words.0 (words_passed bytes count of tags are version (tags_end at of.size) words.0 words.1);
      within = whole.0;
      same = refl;
    })

abbrev Ends : List ℕ → BodyParts → Type 0
Ends bytes body = tags_end body.bytes_at body.of.size ≤ length bytes

-- the bodies of the first objects
record BodiesRead (version : Version) (bytes : List ℕ) (start : ℕ) (done : List ObjectRecord) (bodies : Bodies) : Type 0 where
  is : take bodies.at bytes ≡ take start bytes ++ flat_map (body_text version bytes) bodies.items
  within : All (Ends bytes) bodies.items
  of : map (λ (body : BodyParts). body.of) bodies.items ≡ done

body_more : (version : Version) (bytes : List ℕ) (count start : ℕ) → AreBytes bytes → (done : List ObjectRecord) (of : ObjectRecord) (a b : Bodies)
    → BodiesRead version bytes start done a → add_body version bytes count a of ≡ Ok b → BodiesRead version bytes start (done ++ of ∷ []) b
unfolding add_body
body_more version bytes count start are done of a b h step =
    let one = bind_passed (body_at version bytes count of a.at) _ b step in
    let next = one.0 in
    let read = body_passed version bytes count of a.at next are one.1 in
    let made : Bodies = record { items = a.items ++ next ∷ []; at = next.ends_at } in
    let same : made ≡ b = cc in
    let grown = behind bytes start a.at next.ends_at (flat_map (body_text version bytes) a.items) (body_text version bytes next) h.is read.is in
    subst (BodiesRead version bytes start (done ++ of ∷ [])) same (record {
      is = grown ∙ ap (λ (xs : List ℕ). take start bytes ++ xs) (sym (flat_push (body_text version bytes) a.items next));
      within = All-push (Ends bytes) a.items next h.within read.within;
      of = map-append (λ (body : BodyParts). body.of) a.items (next ∷ []) ∙ ap (λ xs. xs ++ next.of ∷ []) h.of ∙ ap (λ x. done ++ x ∷ []) read.same;
    })

no_bodies_read : (version : Version) (bytes : List ℕ) (start : ℕ) → BodiesRead version bytes start [] (record { items = []; at = start })
no_bodies_read version bytes start = record { is = sym (append-nil (take start bytes)); within = λ k d lt. absurd (omega (arith, lt)); of = refl }

bodies_passed : (version : Version) (bytes : List ℕ) (count : ℕ) (records : List ObjectRecord) (start : ℕ) (bodies : Bodies) → AreBytes bytes → bodies_of version bytes count records start ≡ Ok bodies → BodiesRead version bytes start records bodies
bodies_passed version bytes count records start bodies are read =
    steps_keep (BodiesRead version bytes start) (add_body version bytes count) (body_more version bytes count start are) records [] (record { items = []; at = start }) bodies (no_bodies_read version bytes start) read

-- ---- the whole file
same_records : (bytes : List ℕ) (bodies : List BodyParts) → All (Ends bytes) bodies → flat_map (record_text bytes) (map (λ (body : BodyParts). body.of) bodies) ≡ flat_map object_bytes (map (object_in bytes) bodies)
same_records bytes [] h = refl
same_records bytes (body ∷ bodies) h =
    let here : tags_end body.bytes_at body.of.size ≤ length bytes = h 0 body (omega arith) in
    let size : length (piece bytes body.bytes_at body.of.size) ≡ body.of.size = piece_len bytes body.bytes_at body.of.size (omega (arith, here)) in
    ap (λ (n : ℕ). object_record body.of.base n (piece bytes body.of.name_at body.of.name_len) ++ flat_map (record_text bytes) (map (λ (b : BodyParts). b.of) bodies)) (sym size)
    ∙ ap (λ (xs : List ℕ). object_bytes (object_in bytes body) ++ xs) (same_records bytes bodies (λ k d lt. h (suc k) d (omega (arith, lt))))

-- what each stage gave
record Read (bytes : List ℕ) (image : ImageParts) : Type 0 where
  header : Header
  records : Records
  bodies : Bodies
  headed : IsHeader bytes header
  recorded : RecordsRead bytes (header.count + 0) records
  bodied : BodiesRead header.version bytes records.at records.items bodies
  ended : length bytes ≤ bodies.at
  is : image ≡ parts_in bytes header.version bodies.items

read_passed : (bytes : List ℕ) (image : ImageParts) → AreBytes bytes → read_image bytes ≡ Ok image → Read bytes image
unfolding read_image
read_passed bytes image are read =
    let header = bind_passed (header_of bytes) _ image read in
    let records = bind_passed (records_of bytes header.0.count) _ image header.2 in
    let bodies = bind_passed (bodies_of header.0.version bytes header.0.count records.0.items records.0.at) _ image records.2 in
    let tail = check_passed (nat_lt bodies.0.at (length bytes)) checks.ImageTail bodies.0.at _ image bodies.2 in
    let same : parts_in bytes header.0.version bodies.0.items ≡ image = cc in
    record {
      header = header.0;
      records = records.0;
      bodies = bodies.0;
      headed = header_passed bytes header.0 are header.1;
      recorded = records_passed bytes header.0.count records.0 are records.1;
      bodied = bodies_passed header.0.version bytes header.0.count records.0.items records.0.at bodies.0 are bodies.1;
      ended = ltb-false bodies.0.at (length bytes) tail.0;
      is = sym same;
    }

count_of : (bytes : List ℕ) (image : ImageParts) (r : Read bytes image) → r.header.count ≡ length (map (object_in bytes) r.bodies.items)
count_of bytes image r =
    let objects = length-map r.bodies.items (object_in bytes) in
    let records = length-map r.bodies.items (λ (body : BodyParts). body.of) in
    let same = ap length r.bodied.of in
    let count : length r.records.items ≡ r.header.count + 0 = r.recorded.count in
    omega (arith, objects, records, same, count)

bytes_are : (bytes : List ℕ) (image : ImageParts) (r : Read bytes image) → bytes ≡ image_bytes (parts_in bytes r.header.version r.bodies.items)
unfolding image_bytes
bytes_are bytes image r =
    let version = r.header.version in
    let items = r.bodies.items in
    let objects = map (object_in bytes) items in
    let records : flat_map (record_text bytes) r.records.items ≡ flat_map object_bytes objects = ap (flat_map (record_text bytes)) (sym r.bodied.of) ∙ same_records bytes items r.bodied.within in
    let bodies : flat_map (body_text version bytes) items ≡ flat_map (body_bytes version) objects = sym (flat_map-map (body_bytes version) (object_in bytes) items) in
    let head : take 16 bytes ≡ header_bytes version (length objects) = r.headed.is ∙ ap (header_bytes version) (count_of bytes image r) in
    let front : take r.records.at bytes ≡ header_bytes version (length objects) ++ flat_map object_bytes objects = r.recorded.is ∙ ap (λ (xs : List ℕ). take 16 bytes ++ xs) records ∙ ap (λ (xs : List ℕ). xs ++ flat_map object_bytes objects) head in
    sym (take_all r.bodies.at bytes r.ended) ∙ r.bodied.is ∙ ap (λ (xs : List ℕ). take r.records.at bytes ++ xs) bodies ∙ ap (λ (xs : List ℕ). xs ++ flat_map (body_bytes version) objects) front

pub accepted_written : AcceptedIsWritten
accepted_written bytes image are read =
    let r = read_passed bytes image are read in
    bytes_are bytes image r ∙ ap image_bytes (sym r.is)

of_record : (bytes : List ℕ) (bodies : List BodyParts) (records : List ObjectRecord) → map (λ (body : BodyParts). body.of) bodies ≡ records → All (IsRecord bytes) records → (k : ℕ) (d : BodyParts) → k < length bodies → IsRecord bytes (get_or bodies k d).of
of_record bytes bodies records same sound k d lt =
    let count = length-map bodies (λ (body : BodyParts). body.of) in
    let each : IsRecord bytes (get_or (map (λ (body : BodyParts). body.of) bodies) k d.of) = subst (All (IsRecord bytes)) (sym same) sound k d.of (omega (arith, count, lt)) in
    subst (IsRecord bytes) (get_or-map (λ (body : BodyParts). body.of) bodies k d d.of lt) each

objects_read : (bytes : List ℕ) (bodies : List BodyParts) → AreBytes bytes → All (Ends bytes) bodies → ((k : ℕ) (d : BodyParts) → k < length bodies → IsRecord bytes (get_or bodies k d).of) → All IsReadObject (map (object_in bytes) bodies)
objects_read bytes bodies are ends sound = All-map IsReadObject (object_in bytes) bodies (λ k d lt. record {
  object = is_object bytes (get_or bodies k d) (sound k d lt) (ends k d lt);
  tags = piece_bytes bytes ((get_or bodies k d).bytes_at + (get_or bodies k d).of.size) ((get_or bodies k d).of.size / 128) are;
})

pub accepted_objects : AcceptedHasObjects
accepted_objects bytes image are read =
    let r = read_passed bytes image are read in
    subst (λ (i : ImageParts). All IsReadObject i.objects) (sym r.is)
    (objects_read bytes r.bodies.items are r.bodied.within (of_record bytes r.bodies.items r.records.items r.bodied.of r.recorded.sound))

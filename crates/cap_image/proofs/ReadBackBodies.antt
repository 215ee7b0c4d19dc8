-- The bodies of objects are read back.
use Rattle.std.proofs.Common.{◌≡◌, ℕ, zero, suc, ◌+◌, ◌/◌, ◌<◌, ◌≤◌, List, [], ◌∷◌, ◌++◌, length, drop, map, Result, Ok, refl, sym, ap, ◌∙◌, arith, append_assoc, append-nil, length-append}
use Rattle.std.specs.Prelude.{All, flat_map}
use Rattle.std.proofs.lemmas.Bool.{le-leb}
use Rattle.std.proofs.lemmas.List.{map-append}
use Rattle.cap_base.specs.Steps.{◌>>=◌, steps}
use Rattle.cap_base.specs.declared.refusal.Fault.{Fault}
use Rattle.cap_image.specs.declared.header.Version.{Version}
use Rattle.cap_image.specs.declared.records.ObjectRecord.{ObjectRecord}
use Rattle.cap_image.specs.Parts.{WordRecord, ImageObject, IsObject, HasWords}
use Rattle.cap_image.specs.Records.{piece}
use Rattle.cap_image.specs.Words.{Words, words_of, word_in}
use Rattle.cap_image.specs.Bodies.{BodyParts, Bodies, body_at, add_body, object_in, tags_at, tags_end}
use Rattle.cap_image.specs.Writing.{body_bytes, words_bytes}
use Rattle.cap_image.proofs.ReadBackPlaces.{behind, piece_is, room}
use Rattle.cap_image.proofs.ReadBackRecords.{record_for, records_from, NamesStand}
use Rattle.cap_image.proofs.ReadBackWords.{words_read}

-- a body that was read
record BodyRead (bytes : List ℕ) (o : ImageObject) (rest : List ℕ) (read : Result BodyParts Fault) : Type 0 where
  body : BodyParts
  is : read ≡ Ok body
  object : object_in bytes body ≡ o
  next : drop body.ends_at bytes ≡ rest

-- bodies that were read behind others
pub record BodiesRead (bytes : List ℕ) (before : List BodyParts) (os : List ImageObject) (rest : List ℕ) (read : Result Bodies Fault) : Type 0 where
  pub bodies : Bodies
  pub is : read ≡ Ok bodies
  pub objects : map (object_in bytes) bodies.items ≡ map (object_in bytes) before ++ os
  pub next : drop bodies.at bytes ≡ rest

abbrev made : ℕ → List ℕ → List ℕ → List ℕ → List WordRecord → ImageObject
made base name bytes tags words = record { base = base; name = name; bytes = bytes; tags = tags; words = words }

body_shape : (version : Version) (o : ImageObject) (rest : List ℕ) → body_bytes version o ++ rest ≡ o.bytes ++ (o.tags ++ (words_bytes version o.words ++ rest))
unfolding body_bytes
body_shape version o rest =
    append_assoc (o.bytes ++ o.tags) (words_bytes version o.words) rest ∙ append_assoc o.bytes o.tags (words_bytes version o.words ++ rest)

module _ (bytes : List ℕ) (version : Version) (count : ℕ) (few : count ≤ 256) where
  abbrev part : ObjectRecord → ℕ → Words → BodyParts
  part of at words = record { of = of; bytes_at = at; words = words.items; ends_at = words.at }

  checked : (of : ObjectRecord) (at : ℕ) (tags : List ℕ) → at + of.size + of.size / 128 ≤ length bytes → tags_at bytes at of.size ≡ tags
      → body_at version bytes count of at ≡ words_of version bytes count of tags (tags_end at of.size) >>= λ words. Ok (part of at words)
  unfolding body_at
  checked of at tags inside e = rw (le-leb (at + of.size + of.size / 128) (length bytes) inside, e) refl

  one_read : (from at : ℕ) (o : ImageObject) (rest : List ℕ) → IsObject o → HasWords version count o → piece bytes (from + 18) (length o.name) ≡ o.name
      → drop at bytes ≡ body_bytes version o ++ rest → BodyRead bytes o rest (body_at version bytes count (record_for from o) at)
  one_read from at o rest is has name h =
      let size = length o.bytes in
      let tail = words_bytes version o.words ++ rest in
      let h0 : drop at bytes ≡ o.bytes ++ (o.tags ++ tail) = h ∙ body_shape version o rest in
      let h1 : drop (at + size) bytes ≡ o.tags ++ tail = behind bytes at (at + size) o.bytes (o.tags ++ tail) refl h0 in
      let tag_count : length o.tags ≡ size / 128 = is.tag_count in
      let h2 : drop (at + size + size / 128) bytes ≡ tail = behind bytes (at + size) (at + size + size / 128) o.tags tail (omega (arith, tag_count)) h1 in
      let some : 0 < size = is.some_bytes in
      let long : size + size / 128 ≤ length (o.bytes ++ (o.tags ++ tail)) = omega (arith, length-append o.bytes (o.tags ++ tail), length-append o.tags tail, tag_count) in
      let all : at + (size + size / 128) ≤ length bytes = room bytes at (size + size / 128) (o.bytes ++ (o.tags ++ tail)) h0 (omega (arith, some)) long in
      let tags : tags_at bytes at size ≡ o.tags = piece_is bytes (at + size) (size / 128) o.tags tail tag_count h1 in
      let r = words_read bytes count few o is (record_for from o) refl refl version (at + size + size / 128) rest has h2 in
      let body = part (record_for from o) at r.words in
      record {
        body = body;
        is = checked (record_for from o) at o.tags (omega (arith, all)) tags ∙ ap (λ (w : Result Words Fault). w >>= λ words. Ok (part (record_for from o) at words)) r.is;
        object =
            ap (λ n. made o.base n (piece bytes at size) (tags_at bytes at size) (map (word_in bytes) r.words.items)) name
            ∙ ap (λ b. made o.base o.name b (tags_at bytes at size) (map (word_in bytes) r.words.items)) (piece_is bytes at size o.bytes (o.tags ++ tail) refl h0)
            ∙ ap (λ t. made o.base o.name o.bytes t (map (word_in bytes) r.words.items)) tags
            ∙ ap (made o.base o.name o.bytes o.tags) r.items;
        next = r.next;
      }

  abbrev grown : Bodies → BodyParts → Bodies
  grown bodies next = record { items = bodies.items ++ next ∷ []; at = next.ends_at }

  added : (acc : Bodies) (of : ObjectRecord) (body : BodyParts) → body_at version bytes count of acc.at ≡ Ok body → add_body version bytes count acc of ≡ Ok (grown acc body)
  unfolding add_body
  added acc of body e = ap (λ (r : Result BodyParts Fault). r >>= λ next. Ok (grown acc next)) e

  pub all_read : (os : List ImageObject) (from : ℕ) (acc : Bodies) (rest : List ℕ) → All IsObject os → All (HasWords version count) os → NamesStand bytes from os
      → drop acc.at bytes ≡ flat_map (body_bytes version) os ++ rest → BodiesRead bytes acc.items os rest (steps (add_body version bytes count) acc (records_from from os))
  all_read [] from acc rest are have names h = record { bodies = acc; is = refl; objects = sym (append-nil (map (object_in bytes) acc.items)); next = h }
  all_read (o ∷ os) from acc rest are have names h =
      let shape : drop acc.at bytes ≡ body_bytes version o ++ (flat_map (body_bytes version) os ++ rest) = h ∙ append_assoc (body_bytes version o) (flat_map (body_bytes version) os) rest in
      let one = one_read from acc.at o (flat_map (body_bytes version) os ++ rest) (are zero o (omega arith)) (have zero o (omega arith)) names.0 shape in
      let step = added acc (record_for from o) one.body one.is in
      let rest_read = all_read os (from + 18 + length o.name) (grown acc one.body) rest (λ k d lt. are (suc k) d (omega (arith, lt))) (λ k d lt. have (suc k) d (omega (arith, lt))) names.1 one.next in
      record {
        bodies = rest_read.bodies;
        is = ap (λ (r : Result Bodies Fault). r >>= λ b. steps (add_body version bytes count) b (records_from (from + 18 + length o.name) os)) step ∙ rest_read.is;
        objects =
            rest_read.objects ∙ ap (λ xs. xs ++ os) (map-append (object_in bytes) acc.items (one.body ∷ [])) ∙ append_assoc (map (object_in bytes) acc.items) (object_in bytes one.body ∷ []) os
            ∙ ap (λ x. map (object_in bytes) acc.items ++ x ∷ os) one.object;
        next = rest_read.next;
      }

-- An image that was read is one.
use Rattle.std.specs.Prelude.{All, slice_index_or}
use Rattle.std.proofs.Common.{◌≡◌, ℕ, ◌+◌, ◌<◌, ◌≤◌, List, [], ◌∷◌, length, map, ap, sym, subst, ◌∙◌, arith}
use Rattle.std.proofs.lemmas.List.{length-map}
use Rattle.std.proofs.lemmas.List.Elements.{All-map}
use Rattle.cap_image.specs.declared.header.Version.{Version}
use Rattle.cap_image.specs.declared.header.Version.TheVariants.{One, Two}
use Rattle.cap_image.specs.Parts.{ImageObject, ImageParts, IsWord, no_object, no_word, Ascend, IsObject, HasWords, IsImage, interval_of, space_start, space_end}
use Rattle.cap_image.specs.Records.{Records, AreRecords, interval_at}
use Rattle.cap_image.specs.Bodies.{BodyParts, IsInside, AreBodies, object_in}
use Rattle.cap_image.specs.Reading.{parts_in}

objects_are : (bytes : List ℕ) (bodies : List BodyParts) → All (IsInside bytes) bodies → All IsObject (map (object_in bytes) bodies)
objects_are bytes bodies h = All-map IsObject (object_in bytes) bodies (λ k d l. (h k d l).object)

widened : (from to limit : ℕ) (xs : List (ℕ × ℕ)) → to ≤ limit → Ascend from xs to → Ascend from xs limit
unfolding Ascend
widened from to limit [] le h = omega (arith, h)
widened from to limit (x ∷ xs) le h = (h.0, widened (x.0 + x.1) to limit xs le h.1)

module _ (bytes : List ℕ) (version : Version) (count : ℕ) (records : Records) (bodies : List BodyParts) (as_many : length records.items ≡ count) (few : count ≤ 256) (are : AreRecords bytes records) (bodied : AreBodies version bytes count records.items bodies) where
  objects_count : length (map (object_in bytes) bodies) ≡ count
  objects_count = sym (length-map (map (object_in bytes) bodies) interval_of) ∙ ap length bodied.intervals ∙ length-map records.items interval_at ∙ as_many

  have_words : All (HasWords version (length (map (object_in bytes) bodies))) (map (object_in bytes) bodies)
  have_words = subst (λ (n : ℕ). All (HasWords version n) (map (object_in bytes) bodies)) (sym objects_count) (All-map (HasWords version count) (object_in bytes) bodies bodied.words)

  pub is_image : IsImage (parts_in bytes version bodies)
  is_image = record {
    few = omega (arith, objects_count, few);
    objects = objects_are bytes bodies bodied.inside;
    ascending = subst (λ xs. Ascend space_start xs space_end) (sym bodied.intervals) (widened space_start records.floor space_end _ are.within are.ascending);
    words = have_words;
  }

words_are : (version : Version) (count : ℕ) (o : ImageObject) (k : ℕ) → HasWords version count o → k < length o.words → IsWord count o.base (length o.bytes) o.tags (slice_index_or o.words k no_word)
unfolding HasWords
words_are One count o k h lt = let none : length o.words ≡ 0 = ap length h in absurd (omega (arith, none, lt))
words_are Two count o k h lt = h.each k no_word lt

-- a word record of an image
pub is_word : (image : ImageParts) (i k : ℕ) → IsImage image → i < length image.objects → k < length (slice_index_or image.objects i no_object).words → IsWord (length image.objects) (slice_index_or image.objects i no_object).base (length (slice_index_or image.objects i no_object).bytes) (slice_index_or image.objects i no_object).tags (slice_index_or (slice_index_or image.objects i no_object).words k no_word)
is_word image i k is lt inside = words_are image.version (length image.objects) (slice_index_or image.objects i no_object) k (is.words i no_object lt) inside

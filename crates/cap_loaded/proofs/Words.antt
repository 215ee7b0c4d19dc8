-- An image of memories holds their words.
use Rattle.std.proofs.Common.{◌≡◌, ℕ, zero, suc, ◌+◌, ◌-◌, ◌*◌, ◌/◌, ◌<◌, Bool, true, false, List, [], ◌∷◌, length, get_or, Some, refl, sym, ap, ◌∙◌, arith}
use Rattle.std.specs.Prelude.{◌==◌, All, find, is_some, if◌then◌else◌}
use Rattle.std.specs.List.{zip}
use Rattle.std.proofs.lemmas.Bool.{eq-eqb, le-leb, lt-ltb}
use Rattle.std.proofs.lemmas.List.{length-map}
use Rattle.std.proofs.lemmas.Slice.Zip.{length-zip}
use Rattle.cap_mem.specs.IsMemory.{IsMemory, IsHeld}
use Rattle.cap_mem.specs.Tagged.{TaggedMemory, TaggedWord, is_tagged, stands_at}
use Rattle.cap_image.specs.GranuleLaws.{HeldHaveObjects}
use Rattle.cap_image.specs.Granules.{is_held, object_at}
use Rattle.cap_image.specs.ImageLaws.{ObjectsAreOfMemories, TagsAreRead}
use Rattle.cap_image.specs.Parts.{ImageObject, ImageParts, IsImage, no_object, tag_in}
use Rattle.cap_image.specs.ReadBack.{CanBeRead}
use Rattle.cap_image.specs.Writing.{image_of, object_of, objects_of}
use Rattle.cap_loaded.specs.Images.{HoldsWord}

-- a word is found at its granule
word-found : (words : List TaggedWord) (k : ℕ) (d : TaggedWord) → k < length words → is_some (find (stands_at (get_or words k d).granule) words) ≡ true
word-found [] k d lt = absurd (omega (arith, lt))
word-found (w ∷ words) zero d lt = rw (eq-eqb w.granule w.granule refl) refl
word-found (w ∷ words) (suc k) d lt = either (w.granule == (get_or words k d).granule) (word-found words k d (omega (arith, lt)))
  where
    either : (b : Bool) → is_some (find (stands_at (get_or words k d).granule) words) ≡ true → is_some (if b then Some w else find (stands_at (get_or words k d).granule) words) ≡ true
    either true e = refl
    either false e = e

-- an object that has the bytes of a memory holds the word that stands in it
holds-by : (image : ImageParts) (o : ImageObject) (m : TaggedMemory) (w : TaggedWord) → IsHeld m w → object_at image w.granule ≡ o → o.base ≡ m.base → o.bytes ≡ m.bytes → tag_in image w.granule ≡ true → HoldsWord image w
holds-by image o m w is found base bytes tagged =
    let there : (object_at image w.granule).base ≡ m.base = ap (λ (o : ImageObject). o.base) found ∙ base in
    let same : (object_at image w.granule).bytes ≡ m.bytes = ap (λ (o : ImageObject). o.bytes) found ∙ bytes in
    record {
      tagged = rw (is.aligned, tagged) refl;
      word = rw (there, same) is.bytes_are;
      decodes = rw (there, same) is.decodes;
    }

pub held-words : ObjectsAreOfMemories → TagsAreRead → HeldHaveObjects → (names : List (List ℕ × Bool)) (symbols : List (List (List ℕ × Bool))) (memories : List TaggedMemory)
    → CanBeRead names symbols memories → IsImage (image_of names symbols memories) → All (λ (m : TaggedMemory). All (HoldsWord (image_of names symbols memories)) m.words) memories
held-words objects_are tags_read found names symbols memories can is k d below j e inside =
    let m : TaggedMemory = get_or memories k d in
    let w : TaggedWord = get_or m.words j e in
    let sound : IsMemory m = (can.mapped k d below).sound in
    let held : IsHeld m w = sound.held j e inside in
    let number : ℕ = (w.granule - m.base) / 16 in
    let aligned = held.aligned in
    let begins = sound.aligned in
    let from = held.from in
    let to = held.to in
    let place : m.base + 16 * number ≡ w.granule = omega (arith, aligned, begins, from) in
    let low : 16 * number < length m.bytes = omega (arith, place, to) in
    let object : get_or (objects_of names symbols memories) k no_object ≡ object_of symbols (get_or names k ([], false), m) = objects_are names symbols memories k d can.can_be_written below in
    let zipped = length-zip names memories in
    let count = can.can_be_written.name_count in
    let many : length (objects_of names symbols memories) ≡ length memories = omega (arith, length-map (zip names memories) (object_of symbols), zipped, count) in
    let under : w.granule < m.base + length m.bytes = omega (arith, to) in
    let in_memory : is_held w.granule (object_of symbols (get_or names k ([], false), m)) ≡ true = rw (le-leb m.base w.granule from, lt-ltb w.granule (m.base + length m.bytes) under) refl in
    let in_object : is_held w.granule (get_or (objects_of names symbols memories) k no_object) ≡ true = ap (is_held w.granule) object ∙ in_memory in
    let here : object_at (image_of names symbols memories) w.granule ≡ object_of symbols (get_or names k ([], false), m) = found (image_of names symbols memories) k w.granule is (omega (arith, many, below)) in_object ∙ object in
    let read : tag_in (image_of names symbols memories) (m.base + 16 * number) ≡ is_tagged m (m.base + 16 * number) = tags_read names symbols memories k d can.can_be_written below number low in
    let tagged : tag_in (image_of names symbols memories) w.granule ≡ true = ap (tag_in (image_of names symbols memories)) (sym place) ∙ read ∙ ap (is_tagged m) place ∙ word-found m.words j e inside in
    holds-by (image_of names symbols memories) (object_of symbols (get_or names k ([], false), m)) m w held here refl refl tagged

-- The words of an image are those that were collected, and all that is reached is tagged.
use Rattle.std.proofs.Common.{◌≡◌, ℕ, ◌<◌, true, List, [], ◌∷◌, ◌++◌, length, map, refl, sym, ap, subst, ◌∙◌, arith}
use Rattle.std.specs.Prelude.{flat_map, Contains, slice_index}
use Rattle.std.proofs.lemmas.List.{length-map, length-append}
use Rattle.std.proofs.lemmas.List.Concat.{flat_map-cons}
use Rattle.std.proofs.lemmas.List.Elements.{Contains-get_or, All-from_get_or}
use Rattle.cap_conc.specs.declared.word.Word.{Word}
use Rattle.cap_image.specs.Parts.{ImageObject, ImageParts, IsImage, tagged_granules}
use Rattle.cap_image.specs.Granules.{tagged_of, is_tagged_at}
use Rattle.cap_image.specs.GranuleLaws.{GranulesAreTagged, GranulesAscend}
use Rattle.cap_reach.specs.Reach.{PlacedWord, Reached, IsReach, granules_of, words_in, words_of, placed_in}
use Rattle.cap_reach.specs.Reach.Reached.{at_start, by_load}
use Rattle.cap_reach.specs.Computed.{reach_of}
use Rattle.cap_reach.specs.Ending.{AreTagged}
use Rattle.cap_reach.specs.Collecting.{word_in_object, raw_words_in, raw_words_of, placed}
use Rattle.cap_reach.proofs.Placed.{placed_granules}
use Rattle.cap_reach.proofs.Same.{one_reach}
use Rattle.cap_reach.proofs.Steps.{reach_computed}
use Rattle.std.specs.List.Sorted.{IsStrictlyIncreasing}

placed_append : (gs hs : List ℕ) (vs ws : List Word) → length vs ≡ length gs → placed (gs ++ hs) (vs ++ ws) ≡ placed gs vs ++ placed hs ws
placed_append [] hs [] ws n = refl
placed_append [] hs (v ∷ vs) ws n = absurd (omega (arith, n))
placed_append (g ∷ gs) hs [] ws n = absurd (omega (arith, n))
placed_append (g ∷ gs) hs (v ∷ vs) ws n = ap (λ (xs : List PlacedWord). record { granule = g; word = v } ∷ xs) (placed_append gs hs vs ws (omega (arith, n)))

placed_map : (o : ImageObject) (gs : List ℕ) → placed gs (map (word_in_object o) gs) ≡ map (placed_in o) gs
placed_map o [] = refl
placed_map o (g ∷ gs) = ap (λ (xs : List PlacedWord). placed_in o g ∷ xs) (placed_map o gs)

as_many_in : (os : List ImageObject) → length (flat_map raw_words_in os) ≡ length (flat_map tagged_granules os)
as_many_in [] = refl
as_many_in (o ∷ os) =
    let a = ap length (flat_map-cons raw_words_in o os) ∙ length-append (raw_words_in o) (flat_map raw_words_in os) in
    let b = ap length (flat_map-cons tagged_granules o os) ∙ length-append (tagged_granules o) (flat_map tagged_granules os) in
    let c = length-map (tagged_granules o) (word_in_object o) in
    let d = as_many_in os in
    omega arith

placed_all : (os : List ImageObject) → placed (flat_map tagged_granules os) (flat_map raw_words_in os) ≡ flat_map words_in os
placed_all [] = refl
placed_all (o ∷ os) =
    ap (λ (gs : List ℕ). placed gs (flat_map raw_words_in (o ∷ os))) (flat_map-cons tagged_granules o os)
    ∙ ap (placed (tagged_granules o ++ flat_map tagged_granules os)) (flat_map-cons raw_words_in o os)
    ∙ placed_append (tagged_granules o) (flat_map tagged_granules os) (raw_words_in o) (flat_map raw_words_in os) (length-map (tagged_granules o) (word_in_object o))
    ∙ ap (λ (xs : List PlacedWord). xs ++ placed (flat_map tagged_granules os) (flat_map raw_words_in os)) (placed_map o (tagged_granules o))
    ∙ ap (λ (xs : List PlacedWord). words_in o ++ xs) (placed_all os)
    ∙ sym (flat_map-cons words_in o os)

pub as_many_words : (image : ImageParts) → length (raw_words_of image) ≡ length (tagged_of image)
as_many_words image = as_many_in image.objects

pub words_placed : (image : ImageParts) → placed (tagged_of image) (raw_words_of image) ≡ words_of image
words_placed image = placed_all image.objects

pub granules_are : (image : ImageParts) → granules_of (words_of image) ≡ tagged_of image
granules_are image = ap granules_of (sym (words_placed image)) ∙ placed_granules (tagged_of image) (raw_words_of image) (as_many_words image)

reached_tagged : (image : ImageParts) (start : ℕ) → GranulesAreTagged → IsImage image → is_tagged_at image start ≡ true → (g : ℕ) → Reached (words_of image) start g → is_tagged_at image g ≡ true
reached_tagged image start law is first _ at_start = first
reached_tagged image start law is first _ (by_load from to r here there loaded) = (law image to is).0 (subst (λ (xs : List ℕ). Contains xs to) (granules_are image) there)

pub all_tagged : (image : ImageParts) (start : ℕ) (slots : List ℕ) → GranulesAreTagged → IsImage image → is_tagged_at image start ≡ true → IsReach (words_of image) start slots → AreTagged image slots
all_tagged image start slots law is first are =
    All-from_get_or (λ slot. is_tagged_at image slot ≡ true) slots 0 (λ q lt. reached_tagged image start law is first (slice_index slots q) ((are.each (slice_index slots q)).0 (Contains-get_or slots q 0 lt)))

-- a slot that is found among the granules is tagged
pub slot_tagged : (image : ImageParts) (granules : List ℕ) (start slot : ℕ) → GranulesAreTagged → IsImage image → granules ≡ tagged_of image → start < length granules → slice_index granules start ≡ slot → is_tagged_at image slot ≡ true
slot_tagged image granules start slot law is same lt at =
    (law image slot is).0 (subst (λ (xs : List ℕ). Contains xs slot) same (subst (Contains granules) at (Contains-get_or granules start 0 lt)))

pub words_reached : (image : ImageParts) (gs hs : List ℕ) (ws : List Word) (start slot : ℕ) (slots : List ℕ) → gs ≡ tagged_of image → hs ≡ tagged_of image → ws ≡ raw_words_of image → slice_index gs start ≡ slot → IsReach (placed hs ws) (slice_index hs start) slots → IsReach (words_of image) slot slots
words_reached image gs hs ws start slot slots g h w at are =
    let words : placed hs ws ≡ words_of image = ap (λ (xs : List ℕ). placed xs ws) h ∙ ap (placed (tagged_of image)) w ∙ words_placed image in
    let first : slice_index hs start ≡ slot = ap (λ (xs : List ℕ). slice_index xs start) (h ∙ sym g) ∙ at in
    subst (λ (s : ℕ). IsReach (words_of image) s slots) first (subst (λ (xs : List PlacedWord). IsReach xs (slice_index hs start) slots) words are)

-- what is reached is what is computed
pub reach_is : (image : ImageParts) (slot : ℕ) (slots : List ℕ) → GranulesAreTagged → GranulesAscend → IsImage image → is_tagged_at image slot ≡ true → IsReach (words_of image) slot slots → slots ≡ reach_of (words_of image) slot
reach_is image slot slots law ascend is first are =
    let same = sym (granules_are image) in
    one_reach (words_of image) slot slots (reach_of (words_of image) slot) are
    (reach_computed (words_of image) slot (subst IsStrictlyIncreasing same (ascend image is)) (subst (λ (xs : List ℕ). Contains xs slot) same ((law image slot is).1 first)))

-- The granules that stand in one object, among ascending ones.
use Rattle.std.proofs.Common.{◌≡◌, ℕ, suc, ◌+◌, ◌-◌, ◌%◌, ◌<◌, ◌≤◌, ◌↔◌, true, ⊎_elim, List, [], ◌∷◌, ◌++◌, length, get_or, take, drop, refl, sym, ap, ◌∙◌, arith, subst, append-nil, append_assoc}
use Rattle.std.specs.Prelude.{flat_map, All, slice_index, slice_index_or}
use Rattle.std.specs.List.{list_any}
use Rattle.std.proofs.lemmas.Bool.{cases_lt}
use Rattle.std.proofs.lemmas.List.{get_or-take, get_or-drop, get_or_default, length-take-le, length-drop, take_all}
use Rattle.std.proofs.Math.Seq.{take-add}
use Rattle.std.proofs.lemmas.List.Elements.{All-head, All-tail}
use Rattle.std.proofs.lemmas.List.Concat.{flat_map-cons}
use Rattle.std.proofs.lemmas.Grind.{flat_map-append}
use Rattle.cap_image.specs.Parts.{ImageObject, ImageParts, IsImage, IsObject, no_object, is_tagged_in}
use Rattle.cap_image.specs.Report.{cap_line, IsGranuleOf}
use Rattle.cap_image.specs.Granules.{is_tagged_at, word_line, word_lines}
use Rattle.cap_image.proofs.GranuleList.{IsWithin, inside_one, tagged_parts, object_is, objects_apart}
use Rattle.cap_image.proofs.Holding.{or_cases}

abbrev pub object_of : ImageParts → ℕ → ImageObject
object_of image i = slice_index_or image.objects i no_object

abbrev pub end_of : ImageObject → ℕ
end_of o = o.base + length o.bytes

lines_same : (f g : ℕ → List ℕ) (xs : List ℕ) → All (λ x. f x ≡ g x) xs → flat_map f xs ≡ flat_map g xs
lines_same f g [] same = refl
lines_same f g (x ∷ xs) same =
    flat_map-cons f x xs ∙ ap (λ ys. ys ++ flat_map f xs) (All-head (λ x. f x ≡ g x) x xs same)
    ∙ ap (λ ys. g x ++ ys) (lines_same f g xs (All-tail (λ x. f x ≡ g x) x xs same)) ∙ sym (flat_map-cons g x xs)

-- the lines of granules of one object
pub lines_in : (image : ImageParts) (i : ℕ) (granules : List ℕ) → IsImage image → i < length image.objects → All (IsGranuleOf (object_of image i)) granules → flat_map (cap_line (object_of image i)) granules ≡ word_lines image granules
unfolding word_lines
lines_in image i granules is lt inside =
    lines_same (cap_line (object_of image i)) (word_line image) granules
    (λ k d below.
    let one = inside k d below in
    let low : (object_of image i).base ≤ slice_index_or granules k d = one.0 in
    let high : slice_index_or granules k d + 16 ≤ end_of (object_of image i) = one.1 in
    ap (λ (o : ImageObject). cap_line o (slice_index_or granules k d)) (sym (object_is image i (slice_index_or granules k d) is lt (omega arith, omega arith))))

-- the lines of the granules up to a later place
lines_up_to : (image : ImageParts) (granules : List ℕ) (at to : ℕ) → at ≤ to → word_lines image (take to granules) ≡ word_lines image (take at granules) ++ word_lines image (take (to - at) (drop at granules))
unfolding word_lines
lines_up_to image granules at to le =
    let whole : to ≡ at + (to - at) = omega arith in
    ap (λ (n : ℕ). flat_map (word_line image) (take n granules)) whole ∙ ap (flat_map (word_line image)) (take-add at (to - at) granules)
    ∙ flat_map-append (word_line image) (take at granules) (take (to - at) (drop at granules))

some_object : (objects : List ImageObject) (g : ℕ) → list_any (is_tagged_in g) objects ≡ true → (j : ℕ) × (j < length objects) × (is_tagged_in g (slice_index_or objects j no_object) ≡ true)
some_object [] g tagged = cc
some_object (o ∷ os) g tagged =
    ⊎_elim
    (λ (here : is_tagged_in g o ≡ true). (0, omega arith, here))
    (λ (later : list_any (is_tagged_in g) os ≡ true). let rest = some_object os g later in let lt = rest.1 in (suc rest.0, omega arith, rest.2))
    (or_cases (is_tagged_in g o) (list_any (is_tagged_in g) os) tagged)

granule_in : (o : ImageObject) (g : ℕ) → IsObject o → IsWithin o g → g % 16 ≡ 0 → IsGranuleOf o g
granule_in o g is inside even =
    let base : o.base % 4096 ≡ 0 = is.base_in_pages in
    let size : length o.bytes % 4096 ≡ 0 = is.size_in_pages in
    let low = inside.0 in
    let high = inside.1 in
    (low, omega arith, omega arith)

-- the granules before a place stand below the objects from one on, and none from the place on in the objects before it
pub record ArePassed (image : ImageParts) (granules : List ℕ) (i at : ℕ) : Type 0 where
  pub within : at ≤ length granules
  pub below : (j k : ℕ) → i ≤ j → j < length image.objects → k < at → slice_index granules k < (object_of image j).base
  pub above : (j k : ℕ) → j < i → at ≤ k → k < length granules → end_of (object_of image j) ≤ slice_index granules k

pub none_passed : (image : ImageParts) (granules : List ℕ) → ArePassed image granules 0 0
none_passed image granules = record {
  within = omega arith;
  below = λ j k le lt before. absurd (omega arith);
  above = λ j k before le lt. absurd (omega arith);
}

module _ (image : ImageParts) (granules : List ℕ) (i at to end : ℕ) (is : IsImage image) (tagged : All (λ granule. is_tagged_at image granule ≡ true) granules) (lt : i < length image.objects) (at_end : end ≡ end_of (object_of image i)) (passed : ArePassed image granules i at) (within : to ≤ length granules) (each : (k : ℕ) → k < length granules → (end ≤ slice_index granules k) ↔ (to ≤ k)) where
  pub not_back : at ≤ to
  not_back =
      ⊎_elim
      (λ (less : to < at).
      let inside = passed.within in
      let here = passed.below i to (omega arith) lt less in
      let past = (each to (omega arith)).1 (omega arith) in
      absurd (omega arith))
      (λ (le : at ≤ to). le)
      (cases_lt to at)

  pub passed_next : ArePassed image granules (i + 1) to
  passed_next = record {
    within = within;
    below = λ j k le inside before.
        let apart = objects_apart image i j is (omega arith) inside in
        ⊎_elim
        (λ (less : slice_index granules k < end). omega arith)
        (λ (more : end ≤ slice_index granules k). let past = (each k (omega arith)).0 more in absurd (omega arith))
        (cases_lt (slice_index granules k) end);
    above = λ j k before le inside.
        ⊎_elim
        (λ (earlier : j < i). let back = not_back in passed.above j k earlier (omega arith) inside)
        (λ (same : i ≤ j).
        let one : j ≡ i = omega arith in
        let past = (each k inside).1 le in
        subst (λ (n : ℕ). end_of (object_of image n) ≤ slice_index granules k) (sym one) (omega arith))
        (cases_lt j i);
  }

  same_object : (j g : ℕ) → j < length image.objects → IsWithin (object_of image j) g → g < end → ((n : ℕ) → n < i → end_of (object_of image n) ≤ g) → IsWithin (object_of image i) g
  same_object j g inside in_j below above =
      ⊎_elim
      (λ (earlier : j < i). let past = above j earlier in let high = in_j.1 in absurd (omega arith))
      (λ (le : i ≤ j).
      ⊎_elim
      (λ (later : i < j). let apart = objects_apart image i j is later inside in let low = in_j.0 in absurd (omega arith))
      (λ (back : j ≤ i). let same : j ≡ i = omega arith in subst (λ (n : ℕ). IsWithin (object_of image n) g) same in_j)
      (cases_lt i j))
      (cases_lt j i)

  inside_run : (k : ℕ) → at ≤ k → k < to → IsGranuleOf (object_of image i) (slice_index granules k)
  inside_run k le before =
      let both = tagged_parts image (slice_index granules k) (tagged k 0 (omega arith)) in
      let some = some_object image.objects (slice_index granules k) both.1 in
      let below : slice_index granules k < end =
      ⊎_elim
      (λ (less : slice_index granules k < end). less)
      (λ (more : end ≤ slice_index granules k). let past = (each k (omega arith)).0 more in absurd (omega arith))
      (cases_lt (slice_index granules k) end) in
      granule_in (object_of image i) (slice_index granules k) (is.objects i no_object lt)
      (same_object some.0 (slice_index granules k) some.1 (inside_one (object_of image some.0) (slice_index granules k) some.2) below (λ n earlier. passed.above n k earlier le (omega arith))) both.0

  pub run_inside : All (IsGranuleOf (object_of image i)) (take (to - at) (drop at granules))
  run_inside k d below =
      let len : length (take (to - at) (drop at granules)) ≡ to - at = length-take-le (to - at) (drop at granules) (let n = length-drop at granules in omega arith) in
      let lt_run : k < to - at = omega arith in
      let at_it : get_or (take (to - at) (drop at granules)) k d ≡ slice_index granules (at + k) =
      get_or-take (to - at) (drop at granules) k d lt_run ∙ get_or-drop at granules k d ∙ get_or_default granules (at + k) d 0 (omega arith) in
      subst (IsGranuleOf (object_of image i)) (sym at_it) (inside_run (at + k) (omega arith) (omega arith))

-- at the end all are passed
pub all_passed : (image : ImageParts) (granules : List ℕ) (i at : ℕ) → IsImage image → All (λ granule. is_tagged_at image granule ≡ true) granules → length image.objects ≤ i → ArePassed image granules i at → take at granules ≡ granules
all_passed image granules i at is tagged done passed =
    take_all at granules
    (⊎_elim
    (λ (more : at < length granules).
    let both = tagged_parts image (slice_index granules at) (tagged at 0 more) in
    let some = some_object image.objects (slice_index granules at) both.1 in
    let inside = inside_one (object_of image some.0) (slice_index granules at) some.2 in
    let high = inside.1 in
    let known = some.1 in
    let past = passed.above some.0 at (omega arith) (omega arith) more in
    absurd (omega arith))
    (λ (le : length granules ≤ at). le)
    (cases_lt at (length granules)))

pub no_lines : (image : ImageParts) (text : List ℕ) → text ++ word_lines image [] ≡ text
unfolding word_lines
no_lines image text = append-nil text

pub lines_more : (image : ImageParts) (granules text now new : List ℕ) (at to : ℕ) → at ≤ to → now ≡ text ++ word_lines image (take at granules) → new ≡ now ++ word_lines image (take (to - at) (drop at granules)) → new ≡ text ++ word_lines image (take to granules)
lines_more image granules text now new at to le before by =
    by ∙ ap (λ (xs : List ℕ). xs ++ word_lines image (take (to - at) (drop at granules))) before
    ∙ append_assoc text (word_lines image (take at granules)) (word_lines image (take (to - at) (drop at granules)))
    ∙ ap (λ (xs : List ℕ). text ++ xs) (sym (lines_up_to image granules at to le))

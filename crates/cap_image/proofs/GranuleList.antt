-- The tagged granules of an image.
use Rattle.std.proofs.Common.{false, zero, suc, Some, ◌≡◌, ℕ, ◌+◌, ◌-◌, ◌*◌, ◌/◌, ◌%◌, ◌<◌, ◌≤◌, ◌==◌, true, ⊎_elim, List, [], ◌∷◌, length, refl, sym, subst, arith, ap, ◌∙◌}
use Rattle.std.specs.Prelude.{find, flat_map, slice_index_or, map, nat_le, nat_lt, All, Contains, unwrap_or}
use Rattle.std.specs.List.{list_any, range_with_len}
use Rattle.std.proofs.lemmas.Bool.Decides.{nat_tests}
use Rattle.std.proofs.lemmas.List.{length-append}
use Rattle.std.proofs.lemmas.List.Concat.{flat_map-cons}
use Rattle.std.proofs.lemmas.List.Kept.{AllPairs-from_increasing, IsStrictlyIncreasing-filter}
use Rattle.std.proofs.lemmas.List.Elements.{All-contains, All-weaker, All-append, All-nil, All-head, All-tail, All-contains_itself, Contains-append_left, Contains-append_right, Contains-append_cases}
use Rattle.cap_image.specs.Parts.{ImageObject, ImageParts, IsImage, IsObject, no_object, has_tag, is_tagged_in, tag_in, tagged_below, tagged_granules, Ascend, interval_of, space_start, space_end}
use Rattle.cap_image.specs.Words.{count_below}
use Rattle.cap_image.specs.Granules.{is_tagged_at, is_held, object_at}
use Rattle.cap_image.specs.GranuleLaws.{GranulesAscend, GranulesAreFew, GranulesAreTagged, GranulesHaveObjects, HeldHaveObjects}
use Rattle.cap_image.proofs.TagCounts.{granules_counted, count_few}
use Rattle.cap_image.proofs.Holding.{contains_filter, filter_contains, in_range, range_has, range_rises, Rises, rises_append, and_left, and_right, or_left, or_right, or_cases}

-- a listed granule, by its number, and its tag
listed : (base : ℕ) (tags : List ℕ) (count g : ℕ) → Contains (tagged_below base tags count) g → ((i : ℕ) × (i < count) × (base + 16 * i ≡ g)) × (has_tag tags (g - base) ≡ true)
unfolding tagged_below
listed base tags count g has =
    let both = filter_contains (λ granule. has_tag tags (granule - base)) (map (λ i. base + 16 * i) (range_with_len 0 count)) g has in
    (in_range (λ i. base + 16 * i) count g both.0, both.1)

lists : (base : ℕ) (tags : List ℕ) (count i : ℕ) → i < count → has_tag tags (base + 16 * i - base) ≡ true → Contains (tagged_below base tags count) (base + 16 * i)
unfolding tagged_below
lists base tags count i lt tagged =
    contains_filter (λ granule. has_tag tags (granule - base)) (map (λ i. base + 16 * i) (range_with_len 0 count)) (base + 16 * i) (range_has (λ i. base + 16 * i) count i lt) tagged

rises : (base : ℕ) (tags : List ℕ) (count : ℕ) → Rises (tagged_below base tags count)
unfolding tagged_below
rises base tags count =
    AllPairs-from_increasing _
    (IsStrictlyIncreasing-filter (λ granule. has_tag tags (granule - base)) (map (λ i. base + 16 * i) (range_with_len 0 count))
    (range_rises (λ i. base + 16 * i) count (λ i. omega arith)))

sixteenths : (i n : ℕ) → i < n / 16 → 16 * i < n
sixteenths i n lt = omega arith

abbrev pub IsWithin : ImageObject → ℕ → Type 0
IsWithin o g = (o.base ≤ g) × (g < o.base + length o.bytes)

-- all granules of an object are within it
within : (o : ImageObject) → All (IsWithin o) (tagged_granules o)
within o =
    All-weaker (Contains (tagged_granules o)) (IsWithin o)
    (λ g has.
    let at = (listed o.base o.tags (length o.bytes / 16) g has).0 in
    let lt = sixteenths at.0 (length o.bytes) at.1 in
    let is = at.2 in
    (omega arith, omega arith))
    (tagged_granules o) (All-contains_itself (tagged_granules o))

ascend : (objects : List ImageObject) (from to : ℕ) → Ascend from (map interval_of objects) to → Rises (flat_map tagged_granules objects) × All (λ g. from ≤ g) (flat_map tagged_granules objects)
unfolding Ascend
ascend [] from to a = (λ i j d lt below. absurd (omega arith), All-nil (λ g. from ≤ g))
ascend (o ∷ os) from to a =
    let later = ascend os (o.base + length o.bytes) to a.1 in
    let low = a.0 in
    rw (flat_map-cons tagged_granules o os) (
      rises_append (tagged_granules o) (flat_map tagged_granules os) (o.base + length o.bytes) (rises o.base o.tags (length o.bytes / 16)) later.0
          (All-weaker (IsWithin o) (λ g. g < o.base + length o.bytes) (λ g p. p.1) (tagged_granules o) (within o)) later.1,
      All-append (λ g. from ≤ g) (tagged_granules o) (flat_map tagged_granules os)
          (All-weaker (IsWithin o) (λ g. from ≤ g) (λ g p. let h = p.0 in omega arith) (tagged_granules o) (within o))
          (All-weaker (λ g. o.base + length o.bytes ≤ g) (λ g. from ≤ g) (λ g p. omega arith) (flat_map tagged_granules os) later.1),
    )

pub granules_ascend : GranulesAscend
granules_ascend image is k lt = (ascend image.objects space_start space_end is.ascending).0 k (k + 1) 0 (omega arith) lt

pub few_in : (o : ImageObject) → length (tagged_granules o) ≤ length o.bytes / 16
few_in o =
    let count : length (tagged_granules o) ≡ count_below o.tags (length o.bytes / 16) = granules_counted o.base o.tags (length o.bytes / 16) in
    let few : count_below o.tags (length o.bytes / 16) ≤ length o.bytes / 16 = count_few o.tags (length o.bytes / 16) in
    omega (arith, count, few)

few : (objects : List ImageObject) (from to : ℕ) → Ascend from (map interval_of objects) to → from + 16 * length (flat_map tagged_granules objects) ≤ to
unfolding Ascend
few [] from to a = omega (arith, a)
few (o ∷ os) from to a =
    let later = few os (o.base + length o.bytes) to a.1 in
    let low = a.0 in
    let here = few_in o in
    let count : length (flat_map tagged_granules (o ∷ os)) ≡ length (tagged_granules o) + length (flat_map tagged_granules os) = ap length (flat_map-cons tagged_granules o os) ∙ length-append (tagged_granules o) (flat_map tagged_granules os) in
    omega arith

pub granules_are_few : GranulesAreFew
granules_are_few image is = let all = few image.objects space_start space_end is.ascending in omega (arith, all)

multiple : (base i : ℕ) → base % 4096 ≡ 0 → (base + 16 * i) % 16 ≡ 0
multiple base i h = omega arith

one_tagged : (o : ImageObject) (g : ℕ) → IsObject o → Contains (tagged_granules o) g → (is_tagged_in g o ≡ true) × (g % 16 ≡ 0)
one_tagged o g is_object has =
    let both = listed o.base o.tags (length o.bytes / 16) g has in
    let at = both.0 in
    let is = at.2 in
    let lt = sixteenths at.0 (length o.bytes) at.1 in
    let a : nat_le o.base g ≡ true = grind (arith, nat_tests) in
    let b : nat_lt g (o.base + length o.bytes) ≡ true = grind (arith, nat_tests) in
    let tagged = both.1 in
    (rw (a, b, tagged) refl, subst (λ (x : ℕ). x % 16 ≡ 0) is (multiple o.base at.0 is_object.base_in_pages))

numbered : (base size g : ℕ) → base % 4096 ≡ 0 → size % 4096 ≡ 0 → g % 16 ≡ 0 → base ≤ g → g < base + size → (base + 16 * ((g - base) / 16) ≡ g) × ((g - base) / 16 < size / 16)
numbered base size g a b c low high = (omega arith, omega arith)

-- an object that holds an address has it within
held_within : (o : ImageObject) (g : ℕ) → is_held g o ≡ true → IsWithin o g
held_within o g holds =
    let le = and_left (nat_le o.base g) (nat_lt g (o.base + length o.bytes)) holds in
    let lt = and_right (nat_le o.base g) (nat_lt g (o.base + length o.bytes)) holds in
    let low : o.base ≤ g = grind (arith, nat_tests) in
    let high : g < o.base + length o.bytes = grind (arith, nat_tests) in
    (low, high)

-- a tagged address is one of the object's
pub inside_one : (o : ImageObject) (g : ℕ) → is_tagged_in g o ≡ true → IsWithin o g
inside_one o g tagged = held_within o g (and_left (is_held g o) (has_tag o.tags (g - o.base)) tagged)

tagged_one : (o : ImageObject) (g : ℕ) → IsObject o → is_tagged_in g o ≡ true → g % 16 ≡ 0 → Contains (tagged_granules o) g
tagged_one o g is_object tagged even =
    let inside = inside_one o g tagged in
    let bit = and_right _ (has_tag o.tags (g - o.base)) tagged in
    let number = numbered o.base (length o.bytes) g is_object.base_in_pages is_object.size_in_pages even inside.0 inside.1 in
    let here : has_tag o.tags (o.base + 16 * ((g - o.base) / 16) - o.base) ≡ true = subst (λ (x : ℕ). has_tag o.tags (x - o.base) ≡ true) (sym number.0) bit in
    subst (Contains (tagged_granules o)) number.0 (lists o.base o.tags (length o.bytes / 16) ((g - o.base) / 16) number.1 here)

to_tag : (objects : List ImageObject) (g : ℕ) → All IsObject objects → Contains (flat_map tagged_granules objects) g → (list_any (is_tagged_in g) objects ≡ true) × (g % 16 ≡ 0)
to_tag [] g are has = let lt = has.1 in absurd (omega arith)
to_tag (o ∷ os) g are has =
    ⊎_elim
    (λ (here : Contains (tagged_granules o) g).
    let one = one_tagged o g (All-head IsObject o os are) here in
    (or_left (is_tagged_in g o) (list_any (is_tagged_in g) os) one.0, one.1))
    (λ (later : Contains (flat_map tagged_granules os) g).
    let rest = to_tag os g (All-tail IsObject o os are) later in
    (or_right (is_tagged_in g o) (list_any (is_tagged_in g) os) rest.0, rest.1))
    (Contains-append_cases (tagged_granules o) (flat_map tagged_granules os) g (subst (λ (xs : List ℕ). Contains xs g) (flat_map-cons tagged_granules o os) has))

from_tag : (objects : List ImageObject) (g : ℕ) → All IsObject objects → list_any (is_tagged_in g) objects ≡ true → g % 16 ≡ 0 → Contains (flat_map tagged_granules objects) g
from_tag [] g are tagged even = cc
from_tag (o ∷ os) g are tagged even =
    subst (λ (xs : List ℕ). Contains xs g) (sym (flat_map-cons tagged_granules o os))
    (⊎_elim
    (λ (here : is_tagged_in g o ≡ true). Contains-append_left (tagged_granules o) (flat_map tagged_granules os) g (tagged_one o g (All-head IsObject o os are) here even))
    (λ (later : list_any (is_tagged_in g) os ≡ true). Contains-append_right (tagged_granules o) (flat_map tagged_granules os) g (from_tag os g (All-tail IsObject o os are) later even))
    (or_cases (is_tagged_in g o) (list_any (is_tagged_in g) os) tagged))

-- a tagged granule stands at a multiple of 16, and its tag is found
pub tagged_parts : (image : ImageParts) (g : ℕ) → is_tagged_at image g ≡ true → (g % 16 ≡ 0) × (tag_in image g ≡ true)
tagged_parts image g tagged =
    let test = and_left (g % 16 == 0) (tag_in image g) tagged in
    let even : g % 16 ≡ 0 = grind (arith, nat_tests) in
    (even, and_right (g % 16 == 0) (tag_in image g) tagged)

tagged_whole : (image : ImageParts) (g : ℕ) → g % 16 ≡ 0 → tag_in image g ≡ true → is_tagged_at image g ≡ true
tagged_whole image g even tagged =
    let test : (g % 16 == 0) ≡ true = grind (arith, nat_tests) in
    rw (test, tagged) refl

pub granules_are_tagged : GranulesAreTagged
granules_are_tagged image g is = (
  λ has. let both = to_tag image.objects g is.objects has in tagged_whole image g both.1 both.0,
  λ tagged. let both = tagged_parts image g tagged in from_tag image.objects g is.objects both.1 both.0,
)

inside_low : (o : ImageObject) (g : ℕ) → IsWithin o g → nat_le o.base g ≡ true
inside_low o g inside = let h = inside.0 in grind (arith, nat_tests)

inside_high : (o : ImageObject) (g : ℕ) → IsWithin o g → nat_lt g (o.base + length o.bytes) ≡ true
inside_high o g inside = let h = inside.1 in grind (arith, nat_tests)

outside : (o : ImageObject) (g : ℕ) → o.base + length o.bytes ≤ g → is_held g o ≡ false
outside o g le =
    let low : nat_le o.base g ≡ true = grind (arith, nat_tests) in
    let high : nat_lt g (o.base + length o.bytes) ≡ false = grind (arith, nat_tests) in
    rw (low, high) refl

-- no object begins below the first place
not_before : (objects : List ImageObject) (from to i : ℕ) → Ascend from (map interval_of objects) to → i < length objects → from ≤ (slice_index_or objects i no_object).base
unfolding Ascend
not_before [] from to i a lt = absurd (omega arith)
not_before (o ∷ os) from to zero a lt = a.0
not_before (o ∷ os) from to (suc i) a lt =
    let low = a.0 in
    let later = not_before os (o.base + length o.bytes) to i a.1 (omega arith) in
    omega arith

-- an object ends before the later ones begin
apart : (objects : List ImageObject) (from to i j : ℕ) → Ascend from (map interval_of objects) to → i < j → j < length objects → (slice_index_or objects i no_object).base + length (slice_index_or objects i no_object).bytes ≤ (slice_index_or objects j no_object).base
unfolding Ascend
apart [] from to i j a lt within = absurd (omega arith)
apart (o ∷ os) from to i zero a lt within = absurd (omega arith)
apart (o ∷ os) from to zero (suc j) a lt within = not_before os (o.base + length o.bytes) to j a.1 (omega arith)
apart (o ∷ os) from to (suc i) (suc j) a lt within = apart os (o.base + length o.bytes) to i j a.1 (omega arith) (omega arith)

pub objects_apart : (image : ImageParts) (i j : ℕ) → IsImage image → i < j → j < length image.objects → (slice_index_or image.objects i no_object).base + length (slice_index_or image.objects i no_object).bytes ≤ (slice_index_or image.objects j no_object).base
objects_apart image i j is lt within = apart image.objects space_start space_end i j is.ascending lt within

held : (objects : List ImageObject) (from to i g : ℕ) → Ascend from (map interval_of objects) to → i < length objects → IsWithin (slice_index_or objects i no_object) g → find (is_held g) objects ≡ Some (slice_index_or objects i no_object)
unfolding Ascend
held [] from to i g a lt inside = absurd (omega arith)
held (o ∷ os) from to zero g a lt inside =
    let low : nat_le o.base g ≡ true = inside_low o g inside in
    let high : nat_lt g (o.base + length o.bytes) ≡ true = inside_high o g inside in
    rw (low, high) refl
held (o ∷ os) from to (suc i) g a lt inside =
    let later = not_before os (o.base + length o.bytes) to i a.1 (omega arith) in
    let out : is_held g o ≡ false = outside o g (let low = inside.0 in omega arith) in
    rw out (held os (o.base + length o.bytes) to i g a.1 (omega arith) inside)

-- an address is held by the object that it is within
pub object_is : (image : ImageParts) (i g : ℕ) → IsImage image → i < length image.objects → IsWithin (slice_index_or image.objects i no_object) g → object_at image g ≡ slice_index_or image.objects i no_object
object_is image i g is lt inside = ap (λ o. unwrap_or o no_object) (held image.objects space_start space_end i g is.ascending lt inside)

pub granules_have_objects : GranulesHaveObjects
granules_have_objects image i g is lt has =
    object_is image i g is lt (All-contains (IsWithin (slice_index_or image.objects i no_object)) (tagged_granules (slice_index_or image.objects i no_object)) g (within (slice_index_or image.objects i no_object)) has)

pub held_have_objects : HeldHaveObjects
held_have_objects image i g is lt holds = object_is image i g is lt (held_within (slice_index_or image.objects i no_object) g holds)

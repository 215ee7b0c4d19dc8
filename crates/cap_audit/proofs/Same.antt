-- What is the same has no findings, and what has none is the same.
use Rattle.std.proofs.Common.{◌≡◌, ℕ, zero, suc, ◌+◌, ◌*◌, ◌/◌, ◌%◌, ◌^◌, ◌<◌, max, Bool, true, false, ◌||◌, ◌==◌, List, [], ◌∷◌, ◌++◌, length, get_or, drop, Option, Some, None, Ok, refl, sym, ap, subst, ◌∙◌, append-nil, arith}
use Rattle.std.specs.Prelude.{flat_map, filter_map, slice_get, slice_index, bytes_eq, if◌then◌else◌, All}
use Rattle.std.specs.List.{cons_option, range_with_len}
use Rattle.std.proofs.lemmas.Bool.{and_parts}
use Rattle.std.proofs.lemmas.Bool.Decides.{Decides-eqb}
use Rattle.std.proofs.lemmas.Slice.Eq.{bytes_eq-Decides}
use Rattle.std.proofs.lemmas.Option.{slice_get-get_or}
use Rattle.std.proofs.Math.Nat.{div-div-eq-div-mul}
use Rattle.std.proofs.lemmas.Grind.{same_number_lists}
use Rattle.std.proofs.lemmas.List.{get_or-take, get_or-drop, ext_get_or}
use Rattle.cap_image.specs.declared.header.Version.{Version}
use Rattle.cap_image.specs.Parts.{WordRecord, ImageObject, ImageParts, no_object, has_tag}
use Rattle.cap_image.specs.Records.{piece}
use Rattle.cap_image.specs.Reading.{read_image}
use Rattle.cap_image.specs.Writing.{version_number, image_bytes}
use Rattle.cap_image.specs.Accepted.{AreBytes, IsReadObject, AcceptedIsWritten, AcceptedHasObjects}
use Rattle.cap_audit.specs.declared.finding.Finding.{Finding}
use Rattle.cap_audit.specs.declared.finding.What.{What}
use Rattle.cap_audit.specs.declared.finding.What.TheVariants.{Object, Order, Version as Versions}
use Rattle.cap_audit.specs.Findings.{have_same_head, is_same_object, object_finding, objects_below, version_findings, head_findings, tag_of, bytes_of, record_of, is_same_source, what_differs, difference_at, finding_at, granule_finding, findings_below, granule_findings, have_same_records, tell_of_records, order_finding, object_at, granules_below, orders_below, body_findings, or_else, findings}
use Rattle.cap_audit.specs.Alike.{AreAlike, have_same_memory}
use Rattle.cap_audit.specs.AuditLaws.{NoneWhereSame, NoneWhereWritten}
use Rattle.cap_audit.proofs.Below.{granules_more, orders_more}
use Rattle.cap_audit.proofs.Heads.{no_front, none_kept, flat_none, true_if, same_version, same_objects}
use Rattle.cap_audit.proofs.Records.{records_decide}
use Rattle.cap_audit.proofs.Granules.{no_findings, one_less}

-- ---- what is the same has no findings
same_source : (o : Option WordRecord) → is_same_source o o ≡ true
same_source None = refl
same_source (Some w) =
    let owner : (w.owner == w.owner) ≡ true = (Decides-eqb w.owner w.owner).1 refl in
    let name : bytes_eq w.name w.name ≡ true = (bytes_eq-Decides w.name w.name).1 refl in
    rw (owner, name) refl

same_granule : (t s r : Bool) → s ≡ true → r ≡ true → what_differs t t s r ≡ None
same_granule true s r a b = rw (a, b) refl
same_granule false s r a b = rw a refl

no_difference : (a : ImageObject) (n : ℕ) → difference_at a a n ≡ None
unfolding difference_at
no_difference a n = same_granule (tag_of a n) (bytes_eq (bytes_of a n) (bytes_of a n)) (is_same_source (record_of a n) (record_of a n)) ((bytes_eq-Decides (bytes_of a n) (bytes_of a n)).1 refl) (same_source (record_of a n))

none_of_granules : (k : ℕ) (a : ImageObject) (n : ℕ) → findings_below k a a n ≡ []
none_of_granules k a zero = sym (no_findings k a a)
none_of_granules k a (suc n) = let next : suc n ≡ n + 1 = omega arith in one_less k a a n (suc n) next (sym (no_difference a n)) ∙ none_of_granules k a n

or_true : (b c : Bool) → c ≡ true → (b || c) ≡ true
or_true true c e = refl
or_true false c e = e

-- the records are in the same order
pub none_of_order : (k : ℕ) (a b : ImageObject) → have_same_records a b ≡ true → order_finding k a b ≡ None
none_of_order k a b e =
    ap (λ (c : Bool). if c then None else Some (record { what = Order; object = k; at = a.base })) (or_true (tell_of_records (granule_findings k a b)) (have_same_records a b) e)

abbrev made : ℕ → List ℕ → List ℕ → List ℕ → List WordRecord → ImageObject
made base name bytes tags words = record { base = base; name = name; bytes = bytes; tags = tags; words = words }

object_is : (a b : ImageObject) → a.base ≡ b.base → a.name ≡ b.name → a.bytes ≡ b.bytes → a.tags ≡ b.tags → a.words ≡ b.words → a ≡ b
object_is a b p q r s t = let h : made a.base a.name a.bytes a.tags a.words ≡ made b.base b.name b.bytes b.tags b.words = cc in h

whole : (a b : ImageObject) → AreAlike a b → have_same_records a b ≡ true → have_same_memory a b ≡ true → a ≡ b
whole a b alike records memory =
    let both = and_parts (bytes_eq a.bytes b.bytes) (bytes_eq a.tags b.tags) memory in
    object_is a b alike.base alike.name ((bytes_eq-Decides a.bytes b.bytes).0 both.0) ((bytes_eq-Decides a.tags b.tags).0 both.1) ((records_decide a b).0 records)

-- the object of this number adds nothing
pub no_granules : (image wanted : ImageParts) (k m : ℕ) → m ≡ k + 1 → AreAlike (object_at image k) (object_at wanted k) → have_same_records (object_at image k) (object_at wanted k) ≡ true → have_same_memory (object_at image k) (object_at wanted k) ≡ true
    → granules_below image wanted m ≡ granules_below image wanted k
no_granules image wanted k m next alike records memory =
    let a = object_at image k in
    let b = object_at wanted k in
    let same : a ≡ b = whole a b alike records memory in
    let none : granule_findings k a b ≡ [] = subst (λ (c : ImageObject). granule_findings k a c ≡ []) same (none_of_granules k a (length a.bytes / 16)) in
    granules_more image wanted k m next ∙ ap (λ (xs : List Finding). granules_below image wanted k ++ xs) none ∙ append-nil (granules_below image wanted k)

pub no_order : (image wanted : ImageParts) (k m : ℕ) → m ≡ k + 1 → have_same_records (object_at image k) (object_at wanted k) ≡ true → orders_below image wanted m ≡ orders_below image wanted k
no_order image wanted k m next records =
    orders_more image wanted k m next ∙ ap (λ (o : Option Finding). orders_below image wanted k ++ cons_option o []) (none_of_order k (object_at image k) (object_at wanted k) records) ∙ append-nil (orders_below image wanted k)

-- an image has no findings beside itself
kept_none : {Y : Type 0} (h : ℕ → Option Y) (a n : ℕ) → ((k : ℕ) → k < n → h (a + k) ≡ None) → filter_map h (range_with_len a n) ≡ []
kept_none h a zero none = refl
kept_none h a (suc n) none =
    let here : a ≡ a + 0 = omega arith in
    ap (λ o. cons_option o (filter_map h (range_with_len (a + 1) n))) (ap h here ∙ none 0 (omega arith))
    ∙ kept_none h (a + 1) n (λ k lt. let there : a + 1 + k ≡ a + suc k = omega arith in ap h there ∙ none (suc k) (omega (arith, lt)))

none_flat : {Y : Type 0} (f : ℕ → List Y) (a n : ℕ) → ((k : ℕ) → f k ≡ []) → flat_map f (range_with_len a n) ≡ []
none_flat f a zero none = refl
none_flat f a (suc n) none = ap (λ ys. ys ++ flat_map f (range_with_len (a + 1) n)) (none a) ∙ none_flat f (a + 1) n none

same_head : (a : ImageObject) → have_same_head a a ≡ true
same_head a =
    let base : (a.base == a.base) ≡ true = (Decides-eqb a.base a.base).1 refl in
    let size : (length a.bytes == length a.bytes) ≡ true = (Decides-eqb (length a.bytes) (length a.bytes)).1 refl in
    let name : bytes_eq a.name a.name ≡ true = (bytes_eq-Decides a.name a.name).1 refl in
    rw (base, size, name) refl

same_slot : (objects : List ImageObject) (k : ℕ) → k < length objects → is_same_object (slice_get objects k) (slice_get objects k) ≡ true
same_slot objects k lt = ap (λ (o : Option ImageObject). is_same_object o o) (slice_get-get_or objects k no_object lt) ∙ same_head (get_or objects k no_object)

same_found : (image : ImageParts) → or_else (head_findings image image) (body_findings image image) ≡ []
unfolding objects_below granules_below orders_below
same_found image =
    let version : version_findings image image ≡ [] = ap (λ (b : Bool). if b then [] else record { what = Versions; object = 0; at = 8 } ∷ []) ((Decides-eqb (version_number image.version) (version_number image.version)).1 refl) in
    let count : max (length image.objects) (length image.objects) ≡ length image.objects = omega arith in
    let objects : objects_below image image (max (length image.objects) (length image.objects)) ≡ [] =
    kept_none (object_finding image image) 0 (max (length image.objects) (length image.objects)) (λ k lt.
    let here : 0 + k ≡ k = omega arith in
    ap (object_finding image image) here ∙ ap (λ (b : Bool). if b then None else Some (record { what = Object; object = k; at = 0 })) (same_slot image.objects k (omega (arith, lt, count)))) in
    let granules : granules_below image image (length image.objects) ≡ [] =
    none_flat (λ k. granule_findings k (object_at image k) (object_at image k)) 0 (length image.objects) (λ k. none_of_granules k (object_at image k) (length (object_at image k).bytes / 16)) in
    let orders : orders_below image image (length image.objects) ≡ [] =
    kept_none (λ k. order_finding k (object_at image k) (object_at image k)) 0 (length image.objects) (λ k lt.
    none_of_order (0 + k) (object_at image (0 + k)) (object_at image (0 + k)) ((records_decide (object_at image (0 + k)) (object_at image (0 + k))).1 refl)) in
    rw (version, objects) (rw (granules, orders) refl)

pub itself : (image : ImageParts) → findings image image ≡ []
unfolding findings
itself image = same_found image

-- ---- what has no findings is the same
or_none : (heads rest : List Finding) → or_else heads rest ≡ [] → (heads ≡ []) × (rest ≡ [])
or_none [] rest e = (refl, e)
or_none (f ∷ heads) rest e = absurd (cc)

told : (t u s r : Bool) → what_differs t u s r ≡ None → (t ≡ u) × (s ≡ true)
told true false s r e = absurd (cc)
told false true s r e = absurd (cc)
told true true false r e = absurd (cc)
told false false false r e = absurd (cc)
told true true true r e = (refl, refl)
told false false true r e = (refl, refl)

no_finding : (k at : ℕ) (o : Option What) → finding_at k at o ≡ None → o ≡ None
no_finding k at None e = refl
no_finding k at (Some what) e = absurd (cc)

left_true : (b c : Bool) → b ≡ false → (b || c) ≡ true → c ≡ true
left_true true c f e = absurd (cc)
left_true false c f e = e

nothing_told : (found : List Finding) → found ≡ [] → tell_of_records found ≡ false
unfolding tell_of_records
nothing_told found e = ap tell_of_records e

bit_of : (p q : ℕ) → p < 2 → q < 2 → (p == 1) ≡ (q == 1) → p ≡ q
bit_of zero zero a b e = refl
bit_of zero (suc zero) a b e = absurd (cc)
bit_of (suc zero) zero a b e = absurd (cc)
bit_of (suc zero) (suc zero) a b e = refl
bit_of zero (suc (suc q)) a b e = absurd (omega (arith, b))
bit_of (suc zero) (suc (suc q)) a b e = absurd (omega (arith, b))
bit_of (suc (suc p)) q a b e = absurd (omega (arith, a))

halves : (u v : ℕ) → u / 2 ≡ v / 2 → u % 2 ≡ v % 2 → u ≡ v
halves u v e f = omega (arith, e, f)

top : (x : ℕ) → x < 256 → x / 128 / 2 ≡ 0
top x h = omega (arith, h)

-- a byte is its bits
byte_of : (x y : ℕ) → x < 256 → y < 256 → ((i : ℕ) → i < 8 → x / 2 ^ i % 2 ≡ y / 2 ^ i % 2) → x ≡ y
byte_of x y a b bits =
    let q7 : x / 128 ≡ y / 128 = halves (x / 128) (y / 128) (top x a ∙ sym (top y b)) (bits 7 (omega arith)) in
    let q6 : x / 64 ≡ y / 64 = halves (x / 64) (y / 64) (div-div-eq-div-mul x 64 2 ∙ q7 ∙ sym (div-div-eq-div-mul y 64 2)) (bits 6 (omega arith)) in
    let q5 : x / 32 ≡ y / 32 = halves (x / 32) (y / 32) (div-div-eq-div-mul x 32 2 ∙ q6 ∙ sym (div-div-eq-div-mul y 32 2)) (bits 5 (omega arith)) in
    let q4 : x / 16 ≡ y / 16 = halves (x / 16) (y / 16) (div-div-eq-div-mul x 16 2 ∙ q5 ∙ sym (div-div-eq-div-mul y 16 2)) (bits 4 (omega arith)) in
    let q3 : x / 8 ≡ y / 8 = halves (x / 8) (y / 8) (div-div-eq-div-mul x 8 2 ∙ q4 ∙ sym (div-div-eq-div-mul y 8 2)) (bits 3 (omega arith)) in
    let q2 : x / 4 ≡ y / 4 = halves (x / 4) (y / 4) (div-div-eq-div-mul x 4 2 ∙ q3 ∙ sym (div-div-eq-div-mul y 4 2)) (bits 2 (omega arith)) in
    let q1 : x / 2 ≡ y / 2 = halves (x / 2) (y / 2) (div-div-eq-div-mul x 2 2 ∙ q2 ∙ sym (div-div-eq-div-mul y 2 2)) (bits 1 (omega arith)) in
    let q0 : x / 1 ≡ y / 1 = halves (x / 1) (y / 1) (div-div-eq-div-mul x 1 2 ∙ q1 ∙ sym (div-div-eq-div-mul y 1 2)) (bits 0 (omega arith)) in
    omega (arith, q0)

low_bit : (n : ℕ) → n % 2 < 2
low_bit n = omega arith

-- the tag of granule i of the eight that share tag byte j
tag_at : (tags : List ℕ) (j i : ℕ) → i < 8 → has_tag tags (16 * (8 * j + i)) ≡ (slice_index tags j / 2 ^ i % 2 == 1)
tag_at tags j i lt =
    let place : 16 * (8 * j + i) / 128 ≡ j = omega (arith, lt) in
    let bit : 16 * (8 * j + i) / 16 % 8 ≡ i = omega (arith, lt) in
    ap (λ (q : ℕ). slice_index tags q / 2 ^ (16 * (8 * j + i) / 16 % 8) % 2 == 1) place ∙ ap (λ (q : ℕ). slice_index tags j / 2 ^ q % 2 == 1) bit

same_tags : (tags others : List ℕ) → AreBytes tags → AreBytes others → length tags ≡ length others → ((n : ℕ) → n < 8 * length tags → has_tag tags (16 * n) ≡ has_tag others (16 * n)) → tags ≡ others
same_tags tags others are these count each = same_number_lists tags others count (λ j lt. byte_of (get_or tags j 0) (get_or others j 0) (are j) (these j) (λ i low.
    bit_of (get_or tags j 0 / 2 ^ i % 2) (get_or others j 0 / 2 ^ i % 2) (low_bit (get_or tags j 0 / 2 ^ i)) (low_bit (get_or others j 0 / 2 ^ i))
    (sym (tag_at tags j i low) ∙ each (8 * j + i) (omega (arith, lt, low)) ∙ tag_at others j i low)))

-- a byte of a granule
granule_byte : (xs : List ℕ) (p : ℕ) → get_or (piece xs (16 * (p / 16)) 16) (p % 16) 0 ≡ get_or xs p 0
granule_byte xs p =
    let here : 16 * (p / 16) + p % 16 ≡ p = omega arith in
    get_or-take 16 (drop (16 * (p / 16)) xs) (p % 16) 0 (omega arith) ∙ get_or-drop (16 * (p / 16)) xs (p % 16) 0 ∙ ap (λ (q : ℕ). get_or xs q 0) here

same_bytes : (xs ys : List ℕ) → length xs ≡ length ys → length xs % 16 ≡ 0 → ((n : ℕ) → n < length xs / 16 → piece xs (16 * n) 16 ≡ piece ys (16 * n) 16) → xs ≡ ys
same_bytes xs ys count even each = same_number_lists xs ys count (λ p lt.
    sym (granule_byte xs p) ∙ ap (λ (zs : List ℕ). get_or zs (p % 16) 0) (each (p / 16) (omega (arith, lt, even))) ∙ granule_byte ys p)

module _ (k : ℕ) (a b : ImageObject) (alike : AreAlike a b) (one : IsReadObject a) (other : IsReadObject b) (granules : granule_findings k a b ≡ []) (order : order_finding k a b ≡ None) where
  no_differences : (n : ℕ) → n < length a.bytes / 16 → difference_at a b n ≡ None
  unfolding findings_below
  no_differences n lt = no_finding k (a.base + 16 * n) (difference_at a b n) (none_kept (granule_finding k a b) (length a.bytes / 16) n granules lt)

  told_of : (n : ℕ) → n < length a.bytes / 16 → (tag_of a n ≡ tag_of b n) × (bytes_eq (bytes_of a n) (bytes_of b n) ≡ true)
  unfolding difference_at
  told_of n lt = told (tag_of a n) (tag_of b n) (bytes_eq (bytes_of a n) (bytes_of b n)) (is_same_source (record_of a n) (record_of b n)) (no_differences n lt)

  bytes : a.bytes ≡ b.bytes
  bytes =
      let pages : length a.bytes % 4096 ≡ 0 = one.object.size_in_pages in
      same_bytes a.bytes b.bytes alike.size (omega (arith, pages)) (λ n lt. (bytes_eq-Decides (bytes_of a n) (bytes_of b n)).0 (told_of n lt).1)

  tags : a.tags ≡ b.tags
  tags =
      let pages : length a.bytes % 4096 ≡ 0 = one.object.size_in_pages in
      let count : length a.tags ≡ length a.bytes / 128 = one.object.tag_count in
      let other_count : length b.tags ≡ length b.bytes / 128 = other.object.tag_count in
      let size : length a.bytes ≡ length b.bytes = alike.size in
      same_tags a.tags b.tags one.tags other.tags (omega (arith, count, other_count, size)) (λ n lt. (told_of n (omega (arith, lt, pages, count))).0)

  words : a.words ≡ b.words
  words =
      (records_decide a b).0
      (left_true (tell_of_records (granule_findings k a b)) (have_same_records a b) (nothing_told (granule_findings k a b) granules)
      (true_if (tell_of_records (granule_findings k a b) || have_same_records a b) (record { what = Order; object = k; at = a.base }) order))

  same_object : a ≡ b
  same_object = object_is a b alike.base alike.name bytes tags words

abbrev built : Version → List ImageObject → ImageParts
built version objects = record { version = version; objects = objects }

image_is : (a b : ImageParts) → a.version ≡ b.version → a.objects ≡ b.objects → a ≡ b
image_is a b p q = let h : built a.version a.objects ≡ built b.version b.objects = cc in h

module _ (image wanted : ImageParts) (each : All IsReadObject image.objects) (others : All IsReadObject wanted.objects) where
  without_findings : or_else (head_findings image wanted) (body_findings image wanted) ≡ [] → image ≡ wanted
  unfolding granules_below orders_below
  without_findings none =
      let parts = or_none (head_findings image wanted) (body_findings image wanted) none in
      let bodies = no_front (granules_below image wanted (length image.objects)) (orders_below image wanted (length image.objects)) parts.1 in
      let alike = same_objects image wanted parts.0 in
      let count : length image.objects ≡ length wanted.objects = alike.count in
      image_is image wanted (same_version image wanted parts.0)
      (ext_get_or no_object image.objects wanted.objects count (λ k lt.
      same_object k (object_at image k) (object_at wanted k) (alike.each k lt) (each k no_object lt) (others k no_object (omega (arith, count, lt)))
      (flat_none (λ k. granule_findings k (object_at image k) (object_at wanted k)) (length image.objects) k bodies.0 lt)
      (none_kept (λ k. order_finding k (object_at image k) (object_at wanted k)) (length image.objects) k bodies.1 lt)))

  pub same_images : findings image wanted ≡ [] → image ≡ wanted
  unfolding findings
  same_images none = without_findings none

-- images that were read from the same bytes have no findings
of_same_bytes : (bytes others : List ℕ) (image wanted : ImageParts) → read_image bytes ≡ Ok image → read_image others ≡ Ok wanted → bytes ≡ others → findings image wanted ≡ []
of_same_bytes bytes others image wanted read wanted_read e =
    let both : Ok image ≡ Ok wanted = sym read ∙ ap read_image e ∙ wanted_read in
    let same : image ≡ wanted = cc in
    subst (λ (w : ImageParts). findings image w ≡ []) same (itself image)

-- there are no findings exactly where the bytes are those that are written of the wanted image
pub none_where_written : AcceptedIsWritten → AcceptedHasObjects → NoneWhereWritten
none_where_written written objects bytes image wanted are read wanted_read wanted_objects = (
  λ none. written bytes image are read ∙ ap image_bytes (same_images image wanted (objects bytes image are read) wanted_objects none),
  of_same_bytes bytes (image_bytes wanted) image wanted read wanted_read,
)

-- there are no findings exactly where the bytes are the same
pub none_where_same : AcceptedIsWritten → AcceptedHasObjects → NoneWhereSame
none_where_same written objects bytes others image wanted are these read wanted_read = (
  λ none. written bytes image are read ∙ ap image_bytes (same_images image wanted (objects bytes image are read) (objects others wanted these wanted_read) none) ∙ sym (written others wanted these wanted_read),
  of_same_bytes bytes others image wanted read wanted_read,
)

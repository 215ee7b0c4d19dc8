-- The addresses of tagged words: those of an image are those of its memories.
use Rattle.std.proofs.Common.{◌≡◌, ℕ, zero, suc, ◌+◌, ◌*◌, ◌/◌, ◌<◌, ◌≤◌, Bool, true, false, cond, List, [], ◌∷◌, ◌++◌, length, map, get_or, refl, sym, ap, ◌∙◌, append-nil, arith}
use Rattle.std.specs.Prelude.{slice_index_or}
use Rattle.std.specs.List.{flat_map}
use Rattle.std.proofs.lemmas.List.{length-append}
use Rattle.cap_mem.specs.Tagged.{TaggedMemory, is_tagged}
use Rattle.cap_image.specs.ImageLaws.{TagsAreOfMemories, ObjectsAreOfMemories}
use Rattle.cap_image.specs.Parts.{ImageObject, ImageParts, no_object, has_tag, tagged_below, tagged_granules}
use Rattle.cap_image.specs.Report.{word_count}
use Rattle.cap_image.specs.Writing.{objects_of, image_of, CanBeWritten}
use Rattle.cap_image.proofs.TagLemmas.{tagged_none, tagged_more, tagged_less}
use Rattle.purecap.specs.Demo.{address_at, object_addresses, word_addresses}
use Rattle.purecap.specs.Summing.{address_if, first_addresses, memory_addresses, word_address}

pub tagged_address : (memory : TaggedMemory) (k : ℕ) → is_tagged memory (memory.base + 16 * k) ≡ true → address_if memory k ≡ word_address memory (memory.base + 16 * k) ∷ []
unfolding address_if
tagged_address memory k is = ap (λ (b : Bool). cond b (word_address memory (memory.base + 16 * k) ∷ []) []) is

pub no_address : (memory : TaggedMemory) (k : ℕ) → is_tagged memory (memory.base + 16 * k) ≡ false → address_if memory k ≡ []
unfolding address_if
no_address memory k is = ap (λ (b : Bool). cond b (word_address memory (memory.base + 16 * k) ∷ []) []) is

pub first_none : (memory : TaggedMemory) → first_addresses memory 0 ≡ []
unfolding first_addresses
first_none memory = refl

pub first_more : (memory : TaggedMemory) (n : ℕ) → first_addresses memory (n + 1) ≡ first_addresses memory n ++ address_if memory n
unfolding first_addresses
first_more memory n = ap (first_addresses memory) one ∙ refl
  where
    one : n + 1 ≡ suc n
    one = omega arith

-- ---- one object

map-append_one : {A B : Type 0} (f : A → B) (xs : List A) (x : A) → map f (xs ++ x ∷ []) ≡ map f xs ++ f x ∷ []
map-append_one f [] x = refl
map-append_one f (y ∷ xs) x = ap (λ ys. f y ∷ ys) (map-append_one f xs x)

module _ (memory : TaggedMemory) (o : ImageObject) (base_is : o.base ≡ memory.base) (bytes_are : o.bytes ≡ memory.bytes)
    (tags : (k : ℕ) → 16 * k < length memory.bytes → has_tag o.tags (16 * k) ≡ is_tagged memory (memory.base + 16 * k)) where
  addresses_below : ℕ → List ℕ
  addresses_below n = map (address_at o) (tagged_below o.base o.tags n)

  same_address : (k : ℕ) → address_at o (o.base + 16 * k) ≡ word_address memory (memory.base + 16 * k)
  same_address k =
      ap (λ (b : ℕ). address_at (record o { base = b }) (b + 16 * k)) base_is
      ∙ ap (λ (bs : List ℕ). address_at (record o { base = memory.base; bytes = bs }) (memory.base + 16 * k)) bytes_are

  one_granule : (n : ℕ) (tag : Bool) → has_tag o.tags (16 * n) ≡ tag → is_tagged memory (memory.base + 16 * n) ≡ tag → addresses_below (n + 1) ≡ addresses_below n ++ address_if memory n
  unfolding addresses_below
  one_granule n true has is =
      ap (map (address_at o)) (tagged_more o.base o.tags n (n + 1) (16 * n) refl refl has)
      ∙ map-append_one (address_at o) (tagged_below o.base o.tags n) (o.base + 16 * n)
      ∙ ap (λ (a : ℕ). addresses_below n ++ a ∷ []) (same_address n)
      ∙ ap (λ (more : List ℕ). addresses_below n ++ more) (sym (tagged_address memory n is))
  one_granule n false has is =
      ap (map (address_at o)) (tagged_less o.base o.tags n (n + 1) (16 * n) refl refl has)
      ∙ sym (append-nil (addresses_below n))
      ∙ ap (λ (more : List ℕ). addresses_below n ++ more) (sym (no_address memory n is))

  granules : (n : ℕ) → 16 * n ≤ length memory.bytes → addresses_below n ≡ first_addresses memory n
  unfolding addresses_below tagged_below
  granules zero le = ap (map (address_at o)) (tagged_none o.base o.tags) ∙ sym (first_none memory)
  granules (suc n) le =
      let next : suc n ≡ n + 1 = omega arith in
      ap addresses_below next
      ∙ one_granule n (is_tagged memory (memory.base + 16 * n)) (tags n (omega (arith, le))) refl
      ∙ ap (λ (front : List ℕ). front ++ address_if memory n) (granules n (omega (arith, le)))
      ∙ sym (first_more memory n)
      ∙ ap (first_addresses memory) (sym next)

  object_is : object_addresses o ≡ memory_addresses memory
  unfolding object_addresses tagged_below addresses_below
  object_is =
      ap (λ (bs : List ℕ). addresses_below (length bs / 16)) bytes_are ∙ granules (length memory.bytes / 16) (omega arith)

-- ---- all objects

flat_map-each : {X Y : Type 0} (f : X → List ℕ) (g : Y → List ℕ) (d : X) (e : Y) (xs : List X) (ys : List Y) → length xs ≡ length ys → ((i : ℕ) → i < length ys → f (get_or xs i d) ≡ g (get_or ys i e)) → flat_map f xs ≡ flat_map g ys
flat_map-each f g d e [] [] same each = refl
flat_map-each f g d e [] (y ∷ ys) same each = absurd (omega (arith, same))
flat_map-each f g d e (x ∷ xs) [] same each = absurd (omega (arith, same))
flat_map-each f g d e (x ∷ xs) (y ∷ ys) same each =
    ap (λ (zs : List ℕ). zs ++ flat_map f xs) (each 0 (omega arith))
    ∙ ap (λ (zs : List ℕ). g y ++ zs) (flat_map-each f g d e xs ys (omega (arith, same)) (λ i below. each (suc i) (omega (arith, below))))

pub objects_count : (names : List (List ℕ × Bool)) (symbols : List (List (List ℕ × Bool))) (memories : List TaggedMemory) → length names ≡ length memories → length (objects_of names symbols memories) ≡ length memories
objects_count [] symbols [] same = refl
objects_count [] symbols (m ∷ ms) same = absurd (omega (arith, same))
objects_count (n ∷ ns) symbols [] same = absurd (omega (arith, same))
objects_count (n ∷ ns) symbols (m ∷ ms) same = let rest = objects_count ns symbols ms (omega (arith, same)) in omega (arith, rest)

no_memory : TaggedMemory
no_memory = record { base = 0; bytes = []; words = [] }

module _ (objects : ObjectsAreOfMemories) (tags : TagsAreOfMemories) (names : List (List ℕ × Bool)) (symbols : List (List (List ℕ × Bool))) (memories : List TaggedMemory) (can : CanBeWritten names symbols memories) where
  each_object : (i : ℕ) → i < length memories → object_addresses (get_or (objects_of names symbols memories) i no_object) ≡ memory_addresses (get_or memories i no_memory)
  each_object i below =
      let made = objects names symbols memories i no_memory can below in
      object_is (slice_index_or memories i no_memory) (slice_index_or (objects_of names symbols memories) i no_object)
      (ap (λ (o : ImageObject). o.base) made) (ap (λ (o : ImageObject). o.bytes) made)
      (tags names symbols memories i no_memory can below)

  pub image_addresses : word_addresses (image_of names symbols memories) ≡ flat_map memory_addresses memories
  image_addresses =
      flat_map-each object_addresses memory_addresses no_object no_memory (objects_of names symbols memories) memories
      (objects_count names symbols memories can.name_count) each_object

length-each : (objects : List ImageObject) → length (flat_map object_addresses objects) ≡ length (flat_map tagged_granules objects)
unfolding object_addresses
length-each [] = refl
length-each (o ∷ objects) =
    length-append (map (address_at o) (tagged_granules o)) (flat_map object_addresses objects)
    ∙ ap (λ (n : ℕ). n + length (flat_map object_addresses objects)) (length-map (address_at o) (tagged_granules o))
    ∙ ap (λ (n : ℕ). length (tagged_granules o) + n) (length-each objects)
    ∙ sym (length-append (tagged_granules o) (flat_map tagged_granules objects))
  where
    length-map : {A B : Type 0} (f : A → B) (xs : List A) → length (map f xs) ≡ length xs
    length-map f [] = refl
    length-map f (x ∷ xs) = let rest = length-map f xs in omega (arith, rest)

-- there is an address for each tagged word
pub words_counted : (image : ImageParts) → length (word_addresses image) ≡ word_count image
words_counted image = length-each image.objects

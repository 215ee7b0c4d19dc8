-- What the findings of versions and objects say.
use Rattle.std.proofs.Common.{◌≡◌, ℕ, zero, suc, ◌+◌, ◌<◌, ◌≤◌, max, Bool, true, false, ◌&&◌, ◌==◌, List, [], ◌∷◌, ◌++◌, length, Option, Some, None, refl, sym, ap, ◌∙◌, ⊎_elim, arith}
use Rattle.std.specs.Prelude.{flat_map, filter_map, slice_get, bytes_eq, if◌then◌else◌}
use Rattle.std.specs.List.{range_with_len, cons_option}
use Rattle.std.proofs.lemmas.Bool.{and_parts, cases_lt}
use Rattle.std.proofs.lemmas.Bool.Decides.{Decides-eqb}
use Rattle.std.proofs.lemmas.Slice.Eq.{bytes_eq-Decides}
use Rattle.std.proofs.lemmas.Option.{slice_get-get_or, slice_get_past}
use Rattle.cap_image.specs.declared.header.Version.{Version}
use Rattle.cap_image.specs.declared.header.Version.TheVariants.{One, Two}
use Rattle.cap_image.specs.Parts.{ImageObject, ImageParts, no_object}
use Rattle.cap_image.specs.Writing.{version_number}
use Rattle.cap_audit.specs.declared.finding.Finding.{Finding}
use Rattle.cap_audit.specs.declared.finding.What.TheVariants.{Version as Versions, Object}
use Rattle.cap_audit.specs.Findings.{have_same_head, is_same_object, object_finding, objects_below, version_findings, head_findings, or_else, object_at}
use Rattle.cap_audit.specs.Alike.{AreAlike, HaveSameObjects, is_same_object_at}

-- the findings of heads alone, where there is one, and of bodies where there is none
pub heads_first : (heads rest : List Finding) → (length heads == 0) ≡ false → heads ≡ or_else heads rest
heads_first [] rest some = absurd (cc)
heads_first (f ∷ fs) rest some = refl

pub bodies_after : (heads rest found : List Finding) → (length heads == 0) ≡ true → found ≡ rest → found ≡ or_else heads rest
bodies_after [] rest found none e = e
bodies_after (f ∷ fs) rest found none e = absurd (omega (arith, (Decides-eqb (length (f ∷ fs)) 0).0 none))

pub no_heads : (heads : List Finding) → (length heads == 0) ≡ true → heads ≡ []
no_heads [] none = refl
no_heads (f ∷ fs) none = absurd (omega (arith, (Decides-eqb (length (f ∷ fs)) 0).0 none))

module _ (image wanted : ImageParts) (k : ℕ) where
  -- both images have the object
  pub in_both : k < length image.objects → k < length wanted.objects → is_same_object_at image wanted k ≡ have_same_head (object_at image k) (object_at wanted k)
  in_both own other =
      ap (λ (o : Option ImageObject). is_same_object o (slice_get wanted.objects k)) (slice_get-get_or image.objects k no_object own)
      ∙ ap (λ (o : Option ImageObject). is_same_object (Some (object_at image k)) o) (slice_get-get_or wanted.objects k no_object other)

  -- one image has it not
  pub in_one : length image.objects ≤ k → is_same_object_at image wanted k ≡ false
  in_one past = ap (λ (o : Option ImageObject). is_same_object o (slice_get wanted.objects k)) (slice_get_past image.objects k past) ∙ none (slice_get wanted.objects k)
    where
      none : (o : Option ImageObject) → is_same_object None o ≡ false
      none (Some b) = refl
      none None = refl

  pub in_other : length wanted.objects ≤ k → is_same_object_at image wanted k ≡ false
  in_other past = ap (is_same_object (slice_get image.objects k)) (slice_get_past wanted.objects k past) ∙ none (slice_get image.objects k)
    where
      none : (o : Option ImageObject) → is_same_object o None ≡ false
      none (Some b) = refl
      none None = refl

-- one head
pub alike : (a b : ImageObject) → have_same_head a b ≡ true → AreAlike a b
alike a b h =
    let most = and_parts (a.base == b.base && length a.bytes == length b.bytes) (bytes_eq a.name b.name) h in
    let first = and_parts (a.base == b.base) (length a.bytes == length b.bytes) most.0 in
    record {
      base = (Decides-eqb a.base b.base).0 first.0;
      size = (Decides-eqb (length a.bytes) (length b.bytes)).0 first.1;
      name = (bytes_eq-Decides a.name b.name).0 most.1;
    }

-- lists that are empty together
pub no_front : {X : Type 0} (xs ys : List X) → xs ++ ys ≡ [] → (xs ≡ []) × (ys ≡ [])
no_front [] ys h = (refl, h)
no_front (x ∷ xs) ys h = absurd (cc)

none_first : {Y : Type 0} (o : Option Y) (ys : List Y) → cons_option o ys ≡ [] → (o ≡ None) × (ys ≡ [])
none_first (Some y) ys e = absurd (cc)
none_first None ys e = (refl, e)

none_from : {Y : Type 0} (h : ℕ → Option Y) (a n k : ℕ) → filter_map h (range_with_len a n) ≡ [] → k < n → h (a + k) ≡ None
none_from h a zero k e lt = absurd (omega (arith, lt))
none_from h a (suc n) zero e lt =
    let first = none_first (h a) (filter_map h (range_with_len (a + 1) n)) e in
    let here : a + zero ≡ a = omega arith in
    ap h here ∙ first.0
none_from h a (suc n) (suc k) e lt =
    let first = none_first (h a) (filter_map h (range_with_len (a + 1) n)) e in
    let there : a + suc k ≡ a + 1 + k = omega arith in
    ap h there ∙ none_from h (a + 1) n k first.1 (omega (arith, lt))

-- nothing is kept of the numbers below n
pub none_kept : {Y : Type 0} (h : ℕ → Option Y) (n k : ℕ) → filter_map h (range_with_len 0 n) ≡ [] → k < n → h k ≡ None
none_kept h n k e lt = let here : 0 + k ≡ k = omega arith in ap h (sym here) ∙ none_from h 0 n k e lt

flat_from : {Y : Type 0} (f : ℕ → List Y) (a n k : ℕ) → flat_map f (range_with_len a n) ≡ [] → k < n → f (a + k) ≡ []
flat_from f a zero k e lt = absurd (omega (arith, lt))
flat_from f a (suc n) zero e lt =
    let first = no_front (f a) (flat_map f (range_with_len (a + 1) n)) e in
    let here : a + zero ≡ a = omega arith in
    ap f here ∙ first.0
flat_from f a (suc n) (suc k) e lt =
    let first = no_front (f a) (flat_map f (range_with_len (a + 1) n)) e in
    let there : a + suc k ≡ a + 1 + k = omega arith in
    ap f there ∙ flat_from f (a + 1) n k first.1 (omega (arith, lt))

pub flat_none : {Y : Type 0} (f : ℕ → List Y) (n k : ℕ) → flat_map f (range_with_len 0 n) ≡ [] → k < n → f k ≡ []
flat_none f n k e lt = let here : 0 + k ≡ k = omega arith in ap f (sym here) ∙ flat_from f 0 n k e lt

pub true_if : {Y : Type 0} (b : Bool) (y : Y) → (if b then None else Some y) ≡ None → b ≡ true
true_if true y e = refl
true_if false y e = absurd (cc)

empty_if : {Y : Type 0} (b : Bool) (y : Y) → (if b then [] else y ∷ []) ≡ [] → b ≡ true
empty_if true y e = refl
empty_if false y e = absurd (cc)

one_version : (v w : Version) → (version_number v == version_number w) ≡ true → v ≡ w
one_version One One e = refl
one_version One Two e = absurd (cc)
one_version Two One e = absurd (cc)
one_version Two Two e = refl

module _ (image wanted : ImageParts) (none : head_findings image wanted ≡ []) where
  pub same_version : image.version ≡ wanted.version
  same_version =
      one_version image.version wanted.version
      (empty_if (version_number image.version == version_number wanted.version) (record { what = Versions; object = 0; at = 8 }) (no_front (version_findings image wanted) (objects_below image wanted (max (length image.objects) (length wanted.objects))) none).0)

  same_object : (k : ℕ) → k < max (length image.objects) (length wanted.objects) → is_same_object_at image wanted k ≡ true
  unfolding objects_below
  same_object k lt =
      true_if (is_same_object_at image wanted k) (record { what = Object; object = k; at = 0 })
      (none_kept (object_finding image wanted) (max (length image.objects) (length wanted.objects)) k (no_front (version_findings image wanted) (objects_below image wanted (max (length image.objects) (length wanted.objects))) none).1 lt)

  not_more : length wanted.objects ≤ length image.objects
  not_more = ⊎_elim
      (λ (h : length image.objects < length wanted.objects).
      let yes : is_same_object_at image wanted (length image.objects) ≡ true = same_object (length image.objects) (omega (arith, h)) in
      let no : is_same_object_at image wanted (length image.objects) ≡ false = in_one image wanted (length image.objects) (omega arith) in
      absurd (cc (yes, no)))
      (λ (h : length wanted.objects ≤ length image.objects). h)
      (cases_lt (length image.objects) (length wanted.objects))

  not_fewer : length image.objects ≤ length wanted.objects
  not_fewer = ⊎_elim
      (λ (h : length wanted.objects < length image.objects).
      let yes : is_same_object_at image wanted (length wanted.objects) ≡ true = same_object (length wanted.objects) (omega (arith, h)) in
      let no : is_same_object_at image wanted (length wanted.objects) ≡ false = in_other image wanted (length wanted.objects) (omega arith) in
      absurd (cc (yes, no)))
      (λ (h : length image.objects ≤ length wanted.objects). h)
      (cases_lt (length wanted.objects) (length image.objects))

  pub same_objects : HaveSameObjects image wanted
  same_objects = record {
    count = let more = not_more in let fewer = not_fewer in omega (arith, more, fewer);
    each = λ k lt.
        let more = not_more in
        let fewer = not_fewer in
        alike (object_at image k) (object_at wanted k)
        (sym (in_both image wanted k lt (omega (arith, more, fewer, lt))) ∙ same_object k (omega (arith, lt)));
  }

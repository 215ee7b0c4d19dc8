-- Lists of word records, compared one by one.
use Rattle.std.proofs.Common.{◌≡◌, ◌≢◌, ℕ, ◌+◌, ◌<◌, ◌≤◌, Bool, true, false, ◌&&◌, ◌==◌, List, [], ◌∷◌, length, get_or, drop, refl, sym, ap, ◌∙◌}
use Rattle.std.specs.Prelude.{bytes_eq, Decides}
use lib.Pointwise.{pointwise, pointwise_long}
use Rattle.std.proofs.lemmas.Bool.{and_parts}
use Rattle.std.proofs.lemmas.Bool.Decides.{Decides-eqb}
use Rattle.std.proofs.lemmas.Slice.Eq.{bytes_eq-Decides, slice_eq-Decides}
use Rattle.std.proofs.lemmas.List.{drop_more, drop_all}
use Rattle.cap_image.specs.Parts.{WordRecord, ImageObject, no_word}
use Rattle.cap_audit.specs.Findings.{is_same_record, have_same_records}

abbrev same : List WordRecord → List WordRecord → Bool
same xs ys = pointwise is_same_record xs ys

-- as many records are needed
pub other_count : (xs ys : List WordRecord) → length xs ≢ length ys → false ≡ same xs ys
other_count xs ys differ = no (same xs ys) refl
  where
    no : (b : Bool) → same xs ys ≡ b → false ≡ same xs ys
    no true e = absurd (differ (pointwise_long is_same_record xs ys e))
    no false e = sym e

front : (xs ys : List WordRecord) (i : ℕ) → i < length xs → i < length ys → same (drop i xs) (drop i ys) ≡ (is_same_record (get_or xs i no_word) (get_or ys i no_word) && same (drop (i + 1) xs) (drop (i + 1) ys))
front xs ys i one other = ap (λ zs. same zs (drop i ys)) (drop_more xs i no_word one) ∙ ap (same (get_or xs i no_word ∷ drop (i + 1) xs)) (drop_more ys i no_word other)

-- none was compared
pub first_records : (xs ys : List WordRecord) → same (drop 0 xs) (drop 0 ys) ≡ same xs ys
first_records xs ys = refl

-- one record is the same, or another
pub same_record : (xs ys : List WordRecord) (i m : ℕ) (total : Bool) → m ≡ i + 1 → i < length xs → i < length ys → is_same_record (get_or xs i no_word) (get_or ys i no_word) ≡ true → same (drop i xs) (drop i ys) ≡ total → same (drop m xs) (drop m ys) ≡ total
same_record xs ys i m total next one other e so_far =
    ap (λ (n : ℕ). same (drop n xs) (drop n ys)) next ∙ sym (front xs ys i one other ∙ ap (λ (b : Bool). b && same (drop (i + 1) xs) (drop (i + 1) ys)) e) ∙ so_far

pub other_record : (xs ys : List WordRecord) (i : ℕ) (total : Bool) → i < length xs → i < length ys → is_same_record (get_or xs i no_word) (get_or ys i no_word) ≡ false → same (drop i xs) (drop i ys) ≡ total → false ≡ total
other_record xs ys i total one other e so_far = sym (front xs ys i one other ∙ ap (λ (b : Bool). b && same (drop (i + 1) xs) (drop (i + 1) ys)) e) ∙ so_far

-- none is left
pub all_records : (xs ys : List WordRecord) (i : ℕ) (total : Bool) → length xs ≤ i → length ys ≤ i → same (drop i xs) (drop i ys) ≡ total → true ≡ total
all_records xs ys i total one other so_far = sym (ap (λ zs. same zs (drop i ys)) (drop_all i xs one) ∙ ap (same []) (drop_all i ys other)) ∙ so_far

abbrev made : ℕ → ℕ → List ℕ → WordRecord
made granule owner name = record { granule = granule; owner = owner; name = name }

record_is : (v w : WordRecord) → v.granule ≡ w.granule → v.owner ≡ w.owner → v.name ≡ w.name → v ≡ w
record_is v w a b c = let h : made v.granule v.owner v.name ≡ made w.granule w.owner w.name = cc in h

record_decides : (v w : WordRecord) → Decides (is_same_record v w) (v ≡ w)
record_decides v w = (
  λ h.
      let most = and_parts (v.granule == w.granule && v.owner == w.owner) (bytes_eq v.name w.name) h in
      let first = and_parts (v.granule == w.granule) (v.owner == w.owner) most.0 in
      record_is v w ((Decides-eqb v.granule w.granule).0 first.0) ((Decides-eqb v.owner w.owner).0 first.1) ((bytes_eq-Decides v.name w.name).0 most.1),
  λ e.
      let granule : (v.granule == w.granule) ≡ true = (Decides-eqb v.granule w.granule).1 (ap (λ (x : WordRecord). x.granule) e) in
      let owner : (v.owner == w.owner) ≡ true = (Decides-eqb v.owner w.owner).1 (ap (λ (x : WordRecord). x.owner) e) in
      let name : bytes_eq v.name w.name ≡ true = (bytes_eq-Decides v.name w.name).1 (ap (λ (x : WordRecord). x.name) e) in
      rw (granule, owner, name) refl,
)

-- the lists are the same exactly where their comparison says so
pub records_decide : (a b : ImageObject) → Decides (have_same_records a b) (a.words ≡ b.words)
unfolding have_same_records
records_decide a b = slice_eq-Decides record_decides a.words b.words (have_same_records a b) refl

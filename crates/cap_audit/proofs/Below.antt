-- Lists of what there is below a number, and one more.
use Rattle.std.proofs.Common.{◌≡◌, ℕ, zero, suc, ◌+◌, ◌<◌, List, [], ◌∷◌, ◌++◌, length, take, get_or, Option, refl, sym, ap, ◌∙◌, append_assoc, append-nil, arith}
use Rattle.std.specs.Prelude.{flat_map, filter_map}
use Rattle.std.specs.List.{range_with_len, cons_option}
use Rattle.std.proofs.lemmas.List.{take_more}
use Rattle.std.proofs.lemmas.List.Elements.{filter_map-append}
use Rattle.std.proofs.lemmas.Grind.{flat_map-append}
use Rattle.cap_image.specs.Parts.{ImageParts}
use Rattle.cap_audit.specs.declared.finding.Finding.{Finding}
use Rattle.cap_audit.specs.Findings.{object_finding, objects_below, granule_findings, granules_below, order_finding, orders_below, object_at}
use Rattle.cap_audit.specs.Report.{finding_line}

range_more : (a n : ℕ) → range_with_len a (suc n) ≡ range_with_len a n ++ (a + n) ∷ []
range_more a zero = let e : a ≡ a + zero = omega arith in ap (λ (x : ℕ). x ∷ []) e
range_more a (suc n) =
    let e : a + 1 + n ≡ a + suc n = omega arith in
    ap (λ (xs : List ℕ). a ∷ xs) (range_more (a + 1) n ∙ ap (λ (x : ℕ). range_with_len (a + 1) n ++ x ∷ []) e)

below_more : (n m : ℕ) → m ≡ n + 1 → range_with_len 0 m ≡ range_with_len 0 n ++ n ∷ []
below_more n m e =
    let next : m ≡ suc n = omega (arith, e) in
    let here : 0 + n ≡ n = omega arith in
    ap (range_with_len 0) next ∙ range_more 0 n ∙ ap (λ (x : ℕ). range_with_len 0 n ++ x ∷ []) here

pub filter_more : {Y : Type 0} (h : ℕ → Option Y) (n m : ℕ) → m ≡ n + 1 → filter_map h (range_with_len 0 m) ≡ filter_map h (range_with_len 0 n) ++ cons_option (h n) []
filter_more h n m e = ap (filter_map h) (below_more n m e) ∙ filter_map-append h (range_with_len 0 n) (n ∷ [])

pub flat_more : {Y : Type 0} (f : ℕ → List Y) (n m : ℕ) → m ≡ n + 1 → flat_map f (range_with_len 0 m) ≡ flat_map f (range_with_len 0 n) ++ f n
flat_more f n m e =
    ap (flat_map f) (below_more n m e) ∙ flat_map-append f (range_with_len 0 n) (n ∷ []) ∙ ap (λ ys. flat_map f (range_with_len 0 n) ++ ys) (append-nil (f n))

module _ (image wanted : ImageParts) where
  -- no objects yet
  pub objects_none : (front : List Finding) → front ≡ front ++ objects_below image wanted 0
  unfolding objects_below
  objects_none front = sym (append-nil front)

  objects_one : (n m : ℕ) → m ≡ n + 1 → objects_below image wanted m ≡ objects_below image wanted n ++ cons_option (object_finding image wanted n) []
  unfolding objects_below
  objects_one n m e = filter_more (object_finding image wanted) n m e

  -- one object more
  pub objects_more : (front old more : List Finding) (n m : ℕ) → m ≡ n + 1 → more ≡ old ++ cons_option (object_finding image wanted n) [] → old ≡ front ++ objects_below image wanted n → more ≡ front ++ objects_below image wanted m
  objects_more front old more n m next grown e =
      grown ∙ ap (λ (xs : List Finding). xs ++ cons_option (object_finding image wanted n) []) e
      ∙ append_assoc front (objects_below image wanted n) (cons_option (object_finding image wanted n) [])
      ∙ ap (λ (xs : List Finding). front ++ xs) (sym (objects_one n m next))

  -- nothing of the first 0 objects
  pub granules_none : granules_below image wanted 0 ≡ []
  unfolding granules_below
  granules_none = refl

  pub orders_none : orders_below image wanted 0 ≡ []
  unfolding orders_below
  orders_none = refl

  -- one object more
  pub granules_more : (n m : ℕ) → m ≡ n + 1 → granules_below image wanted m ≡ granules_below image wanted n ++ granule_findings n (object_at image n) (object_at wanted n)
  unfolding granules_below
  granules_more n m e = flat_more (λ k. granule_findings k (object_at image k) (object_at wanted k)) n m e

  pub orders_more : (n m : ℕ) → m ≡ n + 1 → orders_below image wanted m ≡ orders_below image wanted n ++ cons_option (order_finding n (object_at image n) (object_at wanted n)) []
  unfolding orders_below
  orders_more n m e = filter_more (λ k. order_finding k (object_at image k) (object_at wanted k)) n m e

-- the lines of the first findings, and of one more
pub lines_none : (found : List Finding) → [] ≡ flat_map finding_line (take 0 found)
lines_none found = refl

pub lines_more : (text : List ℕ) (found : List Finding) (i m : ℕ) (d : Finding) → m ≡ i + 1 → i < length found → text ≡ flat_map finding_line (take i found) ++ finding_line (get_or found i d) → text ≡ flat_map finding_line (take m found)
lines_more text found i m d next lt e =
    e ∙ sym (ap (λ (n : ℕ). flat_map finding_line (take n found)) next ∙ ap (flat_map finding_line) (take_more found i d lt) ∙ flat_map-append finding_line (take i found) (get_or found i d ∷ []) ∙ ap (λ ys. flat_map finding_line (take i found) ++ ys) (append-nil (finding_line (get_or found i d))))

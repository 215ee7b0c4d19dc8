-- The findings of the first granules of an object, and of one or eight more.
use Rattle.std.proofs.Common.{◌≡◌, ℕ, zero, suc, ◌+◌, ◌-◌, ◌*◌, ◌/◌, ◌%◌, ◌^◌, ◌<◌, ◌≤◌, Bool, true, false, ◌&&◌, ◌==◌, List, [], ◌∷◌, ◌++◌, length, take, drop, Option, Some, None, refl, sym, ap, ◌∙◌, append-nil, arith}
use Rattle.std.specs.Prelude.{slice_index, bytes_eq}
use Rattle.std.specs.List.{cons_option}
use Rattle.std.proofs.Math.Nat.{zero-div}
use Rattle.std.proofs.lemmas.Bool.{and_parts}
use Rattle.std.proofs.lemmas.Bool.Decides.{Decides-eqb}
use Rattle.std.proofs.lemmas.Slice.Eq.{bytes_eq-Decides}
use Rattle.std.proofs.lemmas.List.{drop-drop, drop-take, take-take}
use Rattle.cap_image.specs.Parts.{ImageObject, IsObject, has_tag}
use Rattle.cap_image.specs.Records.{piece}
use Rattle.cap_audit.specs.declared.finding.What.{What}
use Rattle.cap_audit.specs.Findings.{tag_of, bytes_of, record_of, is_same_source, what_differs, difference_at, finding_at, granule_finding, findings_below, granule_findings}
use Rattle.cap_audit.specs.Alike.{are_same_eight}
use Rattle.cap_audit.proofs.Below.{filter_more}

module _ (k : ℕ) (a b : ImageObject) where
  -- none yet
  pub no_findings : [] ≡ findings_below k a b 0
  unfolding findings_below
  no_findings = refl

  one : (n m : ℕ) → m ≡ n + 1 → findings_below k a b m ≡ findings_below k a b n ++ cons_option (granule_finding k a b n) []
  unfolding findings_below
  one n m e = filter_more (granule_finding k a b) n m e

  -- one granule more, which differs, or doesn't
  pub one_more : (n m at : ℕ) (what : What) → m ≡ n + 1 → at ≡ a.base + 16 * n → Some what ≡ difference_at a b n → findings_below k a b m ≡ findings_below k a b n ++ record { what = what; object = k; at = at } ∷ []
  one_more n m at what e place differs =
      one n m e ∙ ap (λ (o : Option What). findings_below k a b n ++ cons_option (finding_at k (a.base + 16 * n) o) []) (sym differs)
      ∙ ap (λ (p : ℕ). findings_below k a b n ++ record { what = what; object = k; at = p } ∷ []) (sym place)

  pub one_less : (n m : ℕ) → m ≡ n + 1 → None ≡ difference_at a b n → findings_below k a b m ≡ findings_below k a b n
  one_less n m e same =
      one n m e ∙ ap (λ (o : Option What). findings_below k a b n ++ cons_option (finding_at k (a.base + 16 * n) o) []) (sym same)
      ∙ append-nil (findings_below k a b n)

-- no granule is tagged in a byte that is 0
no_tag : (tags : List ℕ) (j i : ℕ) → slice_index tags j ≡ 0 → i < 8 → has_tag tags (16 * (8 * j + i)) ≡ false
no_tag tags j i e lt =
    let same : 16 * (8 * j + i) / 128 ≡ j = omega arith in
    let byte : slice_index tags (16 * (8 * j + i) / 128) ≡ 0 = ap (slice_index tags) same ∙ e in
    let zero_bit : 0 / 2 ^ (16 * (8 * j + i) / 16 % 8) ≡ 0 = zero-div (2 ^ (16 * (8 * j + i) / 16 % 8)) in
    ap (λ (b : ℕ). b / 2 ^ (16 * (8 * j + i) / 16 % 8) % 2 == 1) byte ∙ ap (λ (b : ℕ). b % 2 == 1) zero_bit

-- a granule among eight
part : (xs : List ℕ) (j i : ℕ) → i < 8 → piece xs (16 * (8 * j + i)) 16 ≡ piece (piece xs (128 * j) 128) (16 * i) 16
part xs j i lt =
    let place : 128 * j + 16 * i ≡ 16 * (8 * j + i) = omega arith in
    let whole : 16 * i + (128 - 16 * i) ≡ 128 = omega (arith, lt) in
    let ys = drop (128 * j) xs in
    let cut : drop (16 * i) (take 128 ys) ≡ take (128 - 16 * i) (drop (16 * i) ys) = ap (λ (n : ℕ). drop (16 * i) (take n ys)) (sym whole) ∙ drop-take (16 * i) (128 - 16 * i) ys in
    let moved : drop (16 * i) ys ≡ drop (16 * (8 * j + i)) xs = drop-drop (16 * i) (128 * j) xs ∙ ap (λ (n : ℕ). drop n xs) place in
    sym (ap (take 16) cut ∙ take-take 16 (128 - 16 * i) (drop (16 * i) ys) (omega (arith, lt)) ∙ ap (take 16) moved)

untagged : (t u s r : Bool) → t ≡ false → u ≡ false → s ≡ true → what_differs t u s r ≡ None
untagged t u s r a b c = rw (a, b, c) refl

module _ (k : ℕ) (a b : ImageObject) (j : ℕ) (same : are_same_eight a b j ≡ true) where
  most : ((slice_index a.tags j == 0 && slice_index b.tags j == 0) ≡ true) × (bytes_eq (piece a.bytes (128 * j) 128) (piece b.bytes (128 * j) 128) ≡ true)
  most = and_parts (slice_index a.tags j == 0 && slice_index b.tags j == 0) (bytes_eq (piece a.bytes (128 * j) 128) (piece b.bytes (128 * j) 128)) same

  tags : (slice_index a.tags j ≡ 0) × (slice_index b.tags j ≡ 0)
  tags =
      let both = and_parts (slice_index a.tags j == 0) (slice_index b.tags j == 0) most.0 in
      ((Decides-eqb (slice_index a.tags j) 0).0 both.0, (Decides-eqb (slice_index b.tags j) 0).0 both.1)

  none_of_eight : (i : ℕ) → i < 8 → difference_at a b (8 * j + i) ≡ None
  unfolding difference_at
  none_of_eight i lt =
      let n = 8 * j + i in
      let pieces : piece a.bytes (128 * j) 128 ≡ piece b.bytes (128 * j) 128 = (bytes_eq-Decides (piece a.bytes (128 * j) 128) (piece b.bytes (128 * j) 128)).0 most.1 in
      let bytes : bytes_of a n ≡ bytes_of b n = part a.bytes j i lt ∙ ap (λ (xs : List ℕ). piece xs (16 * i) 16) pieces ∙ sym (part b.bytes j i lt) in
      untagged (tag_of a n) (tag_of b n) (bytes_eq (bytes_of a n) (bytes_of b n)) (is_same_source (record_of a n) (record_of b n)) (no_tag a.tags j i tags.0 lt) (no_tag b.tags j i tags.1 lt) ((bytes_eq-Decides (bytes_of a n) (bytes_of b n)).1 bytes)

  some_less : (i : ℕ) → i ≤ 8 → findings_below k a b (8 * j + i) ≡ findings_below k a b (8 * j)
  some_less zero le = let here : 8 * j + zero ≡ 8 * j = omega arith in ap (findings_below k a b) here
  some_less (suc i) le =
      let next : 8 * j + suc i ≡ 8 * j + i + 1 = omega arith in
      one_less k a b (8 * j + i) (8 * j + suc i) next (sym (none_of_eight i (omega (arith, le)))) ∙ some_less i (omega (arith, le))

  -- eight granules more, none of which differs
  pub eight_less : (m : ℕ) → m ≡ 8 * (j + 1) → findings_below k a b m ≡ findings_below k a b (8 * j)
  eight_less m e = let next : m ≡ 8 * j + 8 = omega (arith, e) in ap (findings_below k a b) next ∙ some_less 8 (omega arith)

-- the granules of all tag bytes
pub all_findings : (k : ℕ) (a b : ImageObject) (m : ℕ) → IsObject a → m ≡ 8 * length a.tags → findings_below k a b m ≡ granule_findings k a b
all_findings k a b m is e =
    let count : length a.tags ≡ length a.bytes / 128 = is.tag_count in
    let pages : length a.bytes % 4096 ≡ 0 = is.size_in_pages in
    let same : m ≡ length a.bytes / 16 = omega (arith, e, count, pages) in
    ap (findings_below k a b) same

-- The tagged granules among the first ones.
use Rattle.std.proofs.Common.{◌≡◌, ℕ, zero, suc, ◌+◌, ◌-◌, ◌*◌, ◌/◌, ◌%◌, ◌^◌, ◌<◌, ◌≤◌, ◌==◌, List, [], ◌∷◌, ◌++◌, length, Bool, true, false, cond, refl, sym, ap, ◌∙◌, append-nil, arith}
use Rattle.std.proofs.Math.Nat.{zero-div}
use Rattle.std.specs.Prelude.{slice_index}
use Rattle.std.proofs.lemmas.List.FromFn.{filter_of_map_range_with_len_more}
use Rattle.cap_image.specs.Parts.{ImageObject, IsObject, has_tag}
use Rattle.cap_image.specs.Parts.{tagged_below}

-- none
pub tagged_none : (base : ℕ) (tags : List ℕ) → tagged_below base tags 0 ≡ []
unfolding tagged_below
tagged_none base tags = refl

-- one granule more
pub one_more : (base : ℕ) (tags : List ℕ) (n : ℕ) → tagged_below base tags (n + 1) ≡ tagged_below base tags n ++ cond (has_tag tags (16 * n)) ((base + 16 * n) ∷ []) []
unfolding tagged_below
one_more base tags n =
    let offset : base + 16 * n - base ≡ 16 * n = omega arith in
    let start : 0 + n ≡ n = omega arith in
    filter_of_map_range_with_len_more (λ granule. has_tag tags (granule - base)) (λ i. base + 16 * i) 0 n n start ∙ ap (λ (o : ℕ). tagged_below base tags n ++ cond (has_tag tags o) ((base + 16 * n) ∷ []) []) offset

module _ (base : ℕ) (tags : List ℕ) (n m offset : ℕ) (next : m ≡ n + 1) (at : offset ≡ 16 * n) where
  -- one granule more, which is tagged
  pub tagged_more : has_tag tags offset ≡ true → tagged_below base tags m ≡ tagged_below base tags n ++ (base + offset) ∷ []
  tagged_more h =
      ap (tagged_below base tags) next ∙ one_more base tags n
      ∙ ap (λ (b : Bool). tagged_below base tags n ++ cond b ((base + 16 * n) ∷ []) []) (ap (has_tag tags) (sym at) ∙ h)
      ∙ ap (λ (o : ℕ). tagged_below base tags n ++ (base + o) ∷ []) (sym at)

  -- one granule more, which isn't
  pub tagged_less : has_tag tags offset ≡ false → tagged_below base tags m ≡ tagged_below base tags n
  tagged_less h =
      ap (tagged_below base tags) next ∙ one_more base tags n
      ∙ ap (λ (b : Bool). tagged_below base tags n ++ cond b ((base + 16 * n) ∷ []) []) (ap (has_tag tags) (sym at) ∙ h)
      ∙ append-nil (tagged_below base tags n)

-- no tag in a byte that is 0
no_tag : (tags : List ℕ) (j k : ℕ) → slice_index tags j ≡ 0 → k < 8 → has_tag tags (16 * (8 * j + k)) ≡ false
no_tag tags j k e lt =
    let same : 16 * (8 * j + k) / 128 ≡ j = omega arith in
    let byte : slice_index tags (16 * (8 * j + k) / 128) ≡ 0 = ap (slice_index tags) same ∙ e in
    let zero_bit : 0 / 2 ^ (16 * (8 * j + k) / 16 % 8) ≡ 0 = zero-div (2 ^ (16 * (8 * j + k) / 16 % 8)) in
    ap (λ (b : ℕ). b / 2 ^ (16 * (8 * j + k) / 16 % 8) % 2 == 1) byte ∙ ap (λ (b : ℕ). b % 2 == 1) zero_bit

skipped : (base : ℕ) (tags : List ℕ) (j k : ℕ) → slice_index tags j ≡ 0 → k ≤ 8 → tagged_below base tags (8 * j + k) ≡ tagged_below base tags (8 * j)
skipped base tags j zero e le = let same : 8 * j + zero ≡ 8 * j = omega arith in ap (tagged_below base tags) same
skipped base tags j (suc k) e le =
    let next : 8 * j + suc k ≡ 8 * j + k + 1 = omega arith in
    tagged_less base tags (8 * j + k) (8 * j + suc k) (16 * (8 * j + k)) next refl (no_tag tags j k e (omega arith)) ∙ skipped base tags j k e (omega arith)

-- eight granules more, none of them tagged
pub tagged_skip : (base : ℕ) (tags : List ℕ) (j m n : ℕ) → slice_index tags j ≡ 0 → n ≡ 8 * j → m ≡ n + 8 → tagged_below base tags m ≡ tagged_below base tags n
tagged_skip base tags j m n e at next =
    let same : m ≡ 8 * j + 8 = omega arith in
    ap (tagged_below base tags) same ∙ skipped base tags j 8 e (omega arith) ∙ ap (tagged_below base tags) (sym at)

-- each granule has a tag
pub bytes_tagged : (o : ImageObject) → IsObject o → 128 * length o.tags ≡ length o.bytes
bytes_tagged o is = let count : length o.tags ≡ length o.bytes / 128 = is.tag_count in let pages : length o.bytes % 4096 ≡ 0 = is.size_in_pages in omega (arith, count, pages)

pub granules_tagged : (o : ImageObject) → IsObject o → tagged_below o.base o.tags (8 * length o.tags) ≡ tagged_below o.base o.tags (length o.bytes / 16)
granules_tagged o is =
    let whole : 128 * length o.tags ≡ length o.bytes = bytes_tagged o is in
    let same : 8 * length o.tags ≡ length o.bytes / 16 = omega (arith, whole) in
    ap (tagged_below o.base o.tags) same

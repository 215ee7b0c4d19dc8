-- What is computed is what the relations allow, and nothing else.
use Rattle.std.proofs.Common.{bit_and, ◌≡◌, ℕ, ◌+◌, ◌-◌, ◌*◌, ◌/◌, ◌%◌, ◌^◌, ◌<◌, ◌≤◌, ◌==◌, ◌&&◌, ◌↔◌, true, inl, inr, refl, sym, subst, ◌∙◌, ap, arith, ⊎_elim}
use Rattle.std.proofs.Math.Nat.{div-add-mod', mod-lt, mul-add-mod_self_right, add-mod-mod, mul-le-mul_right}
use Rattle.std.proofs.lemmas.Nat.{pow_pos}
use Rattle.std.proofs.lemmas.Bool.{cases_lt}
use Rattle.std.proofs.lemmas.Bool.Decides.{nat_tests}
use Rattle.cap_conc.specs.Metadata.{exponent_of, architectural}
use Rattle.cap_conc.specs.Bounds.{IsRegion, IsMeant}
use Rattle.cap_conc.specs.Decoding.{DecodesTo}
use Rattle.cap_conc.specs.Exact.{IsExact, IsRepresentableLength, IsRepresentableAlignment}
use Rattle.cap_conc.specs.Encoding.{highest_bit}
use Rattle.cap_conc.specs.Computed.{region_start, meant_place, fields_of, grain_of, is_exact, representable_length, representable_alignment}
use Rattle.cap_conc.specs.declared.word.Fields.{Fields}
use Rattle.cap_conc.proofs.Unique.{DecodesTo-unique}
use Rattle.cap_conc.proofs.ExactLemmas.{grain_mask, IsHighestBit-highest_bit, IsExact-of_grain, grain-IsExact, rounded-same, IsRepresentableLength-rounded, IsRepresentableLength-unique, IsRepresentableLength-mono, IsRepresentableAlignment-divides, IsRepresentableAlignment-exact, IsRepresentableAlignment-mono}
use Rattle.cap_conc.specs.declared.word.Word.{Word}
use Rattle.cap_conc.proofs.Places.{size, eighth, pow_le}

IsRegion-region_start : (e limit place : ℕ) → limit < 8 → 2 ^ (e + 14) ≤ place → IsRegion e limit place (region_start e limit place)
IsRegion-region_start e limit place few large =
    let p = pow_pos (e + 14) in
    let n = place + (8 - limit) * 2 ^ (e + 11) in
    let d : n / 2 ^ (e + 14) * 2 ^ (e + 14) + n % 2 ^ (e + 14) ≡ n = div-add-mod' n (2 ^ (e + 14)) in
    let l : n % 2 ^ (e + 14) < 2 ^ (e + 14) = mod-lt n p in
    let q : 1 ≤ n / 2 ^ (e + 14) = ⊎_elim
    (λ (h : n / 2 ^ (e + 14) < 1). let k : n / 2 ^ (e + 14) * 2 ^ (e + 14) ≤ 0 * 2 ^ (e + 14) = mul-le-mul_right (2 ^ (e + 14)) (omega arith) in absurd (omega arith))
    (λ (h : 1 ≤ n / 2 ^ (e + 14)). h)
    (cases_lt (n / 2 ^ (e + 14)) 1) in
    let m = size e in
    let u = eighth e in
    let x : (8 - limit + limit) * 2 ^ (e + 11) ≡ 8 * 2 ^ (e + 11) = ap (λ x. x * 2 ^ (e + 11)) (omega arith) in
    let y : (n / 2 ^ (e + 14) - 1 + 1) * 2 ^ (e + 14) ≡ n / 2 ^ (e + 14) * 2 ^ (e + 14) = ap (λ x. x * 2 ^ (e + 14)) (omega arith) in
    let s : region_start e limit place ≡ (n / 2 ^ (e + 14) - 1) * 2 ^ (e + 14) + limit * 2 ^ (e + 11) = omega arith in
    record {
      from = omega arith;
      until = omega arith;
      aligned = ap (λ x. x % 2 ^ (e + 14)) s ∙ mul-add-mod_self_right (n / 2 ^ (e + 14) - 1) (2 ^ (e + 14)) (limit * 2 ^ (e + 11));
    }

IsMeant-meant_place : (e s v : ℕ) → IsMeant e s v (meant_place e s v)
IsMeant-meant_place e s v =
    let p = pow_pos (e + 14) in
    let m = 2 ^ (e + 14) in
    let r = mod-lt s p in
    let n = v * 2 ^ e + m - s % m in
    let d = div-add-mod' s m in
    let l : n % m < m = mod-lt n p in
    let x : s + n ≡ (s / m + 1) * m + v * 2 ^ e = omega (arith, d, r) in
    record {
      from = omega arith;
      until = omega (arith, l);
      congruent = add-mod-mod s n m ∙ ap (λ x. x % m) x ∙ mul-add-mod_self_right (s / m + 1) m (v * 2 ^ e);
    }

exponent_of-le : (m : ℕ) → exponent_of m ≤ 52
exponent_of-le m = grind (arith, nat_tests)

pub DecodesTo-fields_of : (w : Word) → DecodesTo w (fields_of w)
unfolding fields_of
DecodesTo-fields_of w =
    let m = architectural w.meta in
    let few = exponent_of-le m in
    let large : 2 ^ (exponent_of m + 14) ≤ 2 ^ 66 = pow_le (exponent_of m + 14) 66 (omega arith) in
    record {
      cursor = refl;
      permissions = refl;
      flag = refl;
      object_type = refl;
      bounds = record {
        start = _;
        base_place = _;
        top_place = _;
        region = IsRegion-region_start (exponent_of m) _ (2 ^ 66 + w.address) (omega arith) (omega arith);
        base_meant = IsMeant-meant_place (exponent_of m) _ _;
        top_meant = IsMeant-meant_place (exponent_of m) _ _;
        base_is = refl;
        top_is = refl;
      };
    }

pub DecodesTo-only : (w : Word) (f : Fields) → DecodesTo w f ↔ (f ≡ fields_of w)
DecodesTo-only w f = (
  λ h. DecodesTo-unique w f (fields_of w) h (DecodesTo-fields_of w),
  λ e. subst (DecodesTo w) (sym e) (DecodesTo-fields_of w),
)

-- ---- exact bounds

pub is_exact-short : (base length : ℕ) → length < 4096 → is_exact base length ≡ true
unfolding is_exact
is_exact-short base length h = grind (arith, nat_tests)

pub is_exact-long : (base length : ℕ) → 4096 ≤ length → is_exact base length ≡ (base % grain_of length == 0 && length % grain_of length == 0)
unfolding is_exact
is_exact-long base length h = grind (arith, nat_tests)

-- the test of both bounds with the mask below the grain
pub is_exact-masked : (base length g : ℕ) → 4096 ≤ length → g ≡ grain_of length → is_exact base length ≡ (bit_and base (g - 1) == 0 && bit_and length (g - 1) == 0)
is_exact-masked base length g h is =
    is_exact-long base length h ∙ ap (λ v. base % v == 0 && length % v == 0) (sym is) ∙ ap (λ v. v == 0 && length % g == 0) (sym (grain_mask base (highest_bit length) g is)) ∙ ap (λ v. bit_and base (g - 1) == 0 && v == 0) (sym (grain_mask length (highest_bit length) g is))

both-true : (m n : ℕ) → ((m == 0 && n == 0) ≡ true) ↔ ((m ≡ 0) × (n ≡ 0))
both-true m n = (λ e. grind (arith, nat_tests), λ h. grind (arith, nat_tests))

pub is_exact-IsExact : (base length : ℕ) → (is_exact base length ≡ true) ↔ IsExact base length
is_exact-IsExact base length = (
  λ e. ⊎_elim
      (λ (h : length < 4096). inl h)
      (λ (h : 4096 ≤ length).
      let t = (both-true _ _).0 (sym (is_exact-long base length h) ∙ e) in
      IsExact-of_grain base length (highest_bit length) (grain_of length) (IsHighestBit-highest_bit length (omega arith)) refl t.0 t.1)
      (cases_lt length 4096),
  λ x. ⊎_elim
      (λ (h : length < 4096). is_exact-short base length h)
      (λ (h : 4096 ≤ length).
      let t = grain-IsExact base length (highest_bit length) (grain_of length) h (IsHighestBit-highest_bit length (omega arith)) refl x in
      is_exact-long base length h ∙ (both-true _ _).1 t)
      (cases_lt length 4096),
)

-- ---- representable lengths and alignments

short_length : (n : ℕ) → n < 4096 → IsRepresentableLength n n
short_length n h = record { exact = inl h; enough = omega arith; least = λ k le _. le }

representable_length-short : (n : ℕ) → n < 4096 → representable_length n ≡ n
unfolding representable_length
representable_length-short n h = grind (arith, nat_tests)

pub representable_length-long : (n : ℕ) → 4096 ≤ n → representable_length n ≡ (n + (grain_of n - 1)) / grain_of n * grain_of n
unfolding representable_length
representable_length-long n h =
    let s = rounded-same n (grain_of n) (pow_pos (highest_bit n - 9)) in
    grind (arith, nat_tests)

pub IsRepresentableLength-computed : (n : ℕ) → IsRepresentableLength n (representable_length n)
IsRepresentableLength-computed n =
    ⊎_elim
    (λ (h : n < 4096). subst (IsRepresentableLength n) (sym (representable_length-short n h)) (short_length n h))
    (λ (h : 4096 ≤ n). IsRepresentableLength-rounded n (highest_bit n) (grain_of n) (representable_length n) h (IsHighestBit-highest_bit n (omega arith)) refl (representable_length-long n h))
    (cases_lt n 4096)

pub IsRepresentableLength-only : (wanted length : ℕ) → IsRepresentableLength wanted length ↔ (length ≡ representable_length wanted)
IsRepresentableLength-only wanted length = (
  λ h. IsRepresentableLength-unique wanted length (representable_length wanted) h (IsRepresentableLength-computed wanted),
  λ e. subst (IsRepresentableLength wanted) (sym e) (IsRepresentableLength-computed wanted),
)

representable_alignment-short : (n : ℕ) → representable_length n < 4096 → representable_alignment n ≡ 1
unfolding representable_alignment
representable_alignment-short n h = grind (arith, nat_tests)

representable_alignment-long : (n : ℕ) → 4096 ≤ representable_length n → representable_alignment n ≡ grain_of (representable_length n)
unfolding representable_alignment
representable_alignment-long n h = grind (arith, nat_tests)

pub IsRepresentableAlignment-computed : (n : ℕ) → IsRepresentableAlignment n (representable_alignment n)
IsRepresentableAlignment-computed n =
    let length = representable_length n in (
      length,
      IsRepresentableLength-computed n,
      ⊎_elim
          (λ (h : length < 4096). inl (h, representable_alignment-short n h))
          (λ (h : 4096 ≤ length). inr (highest_bit length, IsHighestBit-highest_bit length (omega arith), h, representable_alignment-long n h))
          (cases_lt length 4096),
    )

pub IsRepresentableAlignment-only : (wanted alignment : ℕ) → IsRepresentableAlignment wanted alignment ↔ (alignment ≡ representable_alignment wanted)
IsRepresentableAlignment-only wanted alignment = (
  λ h.
      let c = IsRepresentableAlignment-computed wanted in
      let a = IsRepresentableAlignment-mono wanted wanted alignment (representable_alignment wanted) (omega arith) h c in
      let b = IsRepresentableAlignment-mono wanted wanted (representable_alignment wanted) alignment (omega arith) c h in
      omega arith,
  λ e. subst (IsRepresentableAlignment wanted) (sym e) (IsRepresentableAlignment-computed wanted),
)

-- ---- the laws of rounding

pub representable_length-divides : (wanted : ℕ) → representable_length wanted % representable_alignment wanted ≡ 0
representable_length-divides wanted =
    IsRepresentableAlignment-divides wanted _ _ (IsRepresentableAlignment-computed wanted) (IsRepresentableLength-computed wanted)

pub is_exact-representable : (base wanted : ℕ) → (is_exact base (representable_length wanted) ≡ true) ↔ (base % representable_alignment wanted ≡ 0)
is_exact-representable base wanted =
    let a = is_exact-IsExact base (representable_length wanted) in
    let b = IsRepresentableAlignment-exact wanted _ base _ (IsRepresentableAlignment-computed wanted) (IsRepresentableLength-computed wanted) in
    (λ e. b.0 (a.0 e), λ h. a.1 (b.1 h))

pub representable_length-mono : (less more : ℕ) → less ≤ more → representable_length less ≤ representable_length more
representable_length-mono less more h =
    IsRepresentableLength-mono less more _ _ h (IsRepresentableLength-computed less) (IsRepresentableLength-computed more)

pub representable_alignment-mono : (less more : ℕ) → less ≤ more → representable_alignment less ≤ representable_alignment more
representable_alignment-mono less more h =
    IsRepresentableAlignment-mono less more _ _ h (IsRepresentableAlignment-computed less) (IsRepresentableAlignment-computed more)

-- A walk in a group goes no deeper than the group has objects: from that depth on more depth changes nothing.
use Rattle.std.proofs.Common.{◌≡◌, inl, inr, ℕ, zero, suc, ◌+◌, ◌-◌, ◌<◌, ◌≤◌, Bool, true, false, not, ◌||◌, cond, List, [], ◌∷◌, ◌++◌, length, refl, sym, ap, ◌∙◌, arith}
use Rattle.std.specs.Prelude.{◌==◌, nat_le, nat_lt, fold}
use Rattle.std.specs.List.{range_with_len}
use Rattle.std.proofs.lemmas.Bool.{and_parts, cases_Bool, cases_eq, eqb-true, eq-eqb, leb-true, ltb-true, or_cases, or_left, or_right, or_parts, not-false, not_from_false, both_ways}
use Rattle.std.proofs.lemmas.List.FromFn.{length-range_with_len}
use Rattle.cap_chain.specs.Adopted.{has}
use Rattle.cap_init.specs.Post.{is_member, is_passed, needs, visited}
use Rattle.cap_init.specs.Walking.{visit}

-- how many of these numbers don't stand on a path
abbrev pub others : List ℕ → List ℕ → ℕ
others path [] = 0
others path (k ∷ ks) = cond (has k path) 0 1 + others path ks

pub others-le : (path ks : List ℕ) → others path ks ≤ length ks
others-le path [] = omega arith
others-le path (k ∷ ks) =
    let rest = others-le path ks in
    elim (cases_Bool (has k path)) [
      | inl h ↦ rw h (omega arith)
      | inr h ↦ rw h (omega arith)
    ]

-- a path that is longer by one leaves no more of them
others-mono : (i : ℕ) (path ks : List ℕ) → others (i ∷ path) ks ≤ others path ks
others-mono i path [] = omega arith
others-mono i path (k ∷ ks) =
    let rest = others-mono i path ks in
    elim (cases_Bool (has k path)) [
      | inl h ↦ rw (or_right (i == k) (has k path) h, h) (omega arith)
      | inr h ↦ elim (cases_Bool (i == k)) [
        | inl e ↦ rw (or_left (i == k) (has k path) e, h) (omega arith)
        | inr e ↦ rw (e, h) (omega arith)
      ]
    ]

-- and fewer, where it is longer by one of them
pub others-less : (i : ℕ) (path ks : List ℕ) → has i ks ≡ true → has i path ≡ false → others (i ∷ path) ks < others path ks
others-less i path [] h new = absurd (both_ways false refl h)
others-less i path (k ∷ ks) h new = elim (or_cases (k == i) (has i ks) h) [
  | inl same ↦
      let e : k ≡ i = eqb-true k i same in
      let old : has k path ≡ false = ap (λ j. has j path) e ∙ new in
      let on : has k (i ∷ path) ≡ true = or_left (i == k) (has k path) (eq-eqb i k (sym e)) in
      let rest = others-mono i path ks in
      rw (on, old) (omega arith)
  | inr later ↦
      let rest = others-less i path ks later new in
      elim (cases_Bool (has k path)) [
        | inl o ↦ rw (or_right (i == k) (has k path) o, o) (omega arith)
        | inr o ↦ elim (cases_Bool (i == k)) [
          | inl e ↦ rw (or_left (i == k) (has k path) e, o) (omega arith)
          | inr e ↦ rw (e, o) (omega arith)
        ]
      ]
]

-- none is left where all of them stand on the path
others-none : (i : ℕ) (path ks : List ℕ) → others path ks ≤ 0 → has i ks ≡ true → has i path ≡ true
others-none i path [] none h = absurd (both_ways false refl h)
others-none i path (k ∷ ks) none h = elim (cases_Bool (has k path)) [
  | inr o ↦ let bad : cond false 0 1 + others path ks ≤ 0 = rw o at none in absurd (omega arith)
  | inl o ↦
      let rest : cond true 0 1 + others path ks ≤ 0 = rw o at none in
      elim (or_cases (k == i) (has i ks) h) [
        | inl same ↦ ap (λ j. has j path) (sym (eqb-true k i same)) ∙ o
        | inr later ↦ others-none i path ks (omega arith) later
      ]
]

has-range : (i a n : ℕ) → a ≤ i → i < a + n → has i (range_with_len a n) ≡ true
has-range i a zero low high = absurd (omega arith)
has-range i a (suc n) low high = elim (cases_eq a i) [
  | inl e ↦ or_left (a == i) (has i (range_with_len (a + 1) n)) (eq-eqb a i e)
  | inr e ↦ or_right (a == i) (has i (range_with_len (a + 1) n)) (has-range i (a + 1) n (omega (arith, e)) (omega arith))
]

fold-same : (f g : List ℕ → ℕ → List ℕ) → ((e : List ℕ) (j : ℕ) → f e j ≡ g e j) → (e : List ℕ) (js : List ℕ) → fold f e js ≡ fold g e js
fold-same f g same e [] = refl
fold-same f g same e (j ∷ js) = ap (λ x. fold f x js) (same e j) ∙ fold-same f g same (g e j) js

-- what is not passed over is of the group, and was not begun
pub new_parts : (from to : ℕ) (path ended : List ℕ) (i : ℕ) → is_passed from to path ended i ≡ false → (is_member from to i ≡ true) × (has i path ≡ false) × (has i ended ≡ false)
new_parts from to path ended i new =
    let a = or_parts (not (is_member from to i) || has i path) (has i ended) new in
    let b = or_parts (not (is_member from to i)) (has i path) a.0 in
    (not-false _ b.0, b.1, a.1)

pub member_parts : (from to i : ℕ) → is_member from to i ≡ true → (from ≤ i) × (i < to)
member_parts from to i h = let p = and_parts (nat_le from i) (nat_lt i to) h in (leb-true from i p.0, ltb-true i to p.1)

module _ (deps : List (List ℕ)) (from to : ℕ) where
  abbrev pub members : List ℕ
  members = range_with_len from (to - from)

  pub has-member : (i : ℕ) → is_member from to i ≡ true → has i members ≡ true
  has-member i h = let p = member_parts from to i h in has-range i from (to - from) p.0 (omega (arith, p.0, p.1))

  pub begun_passed : (path ended : List ℕ) (i : ℕ) → others path members ≤ 0 → is_passed from to path ended i ≡ true
  begun_passed path ended i none = elim (cases_Bool (is_member from to i)) [
    | inl m ↦
        let h : has i path ≡ true = others-none i path members none (has-member i m) in
        or_left (not (is_member from to i) || has i path) (has i ended) (or_right (not (is_member from to i)) (has i path) h)
    | inr m ↦
        or_left (not (is_member from to i) || has i path) (has i ended) (or_left (not (is_member from to i)) (has i path) (not_from_false _ m))
  ]

  -- what a visit gives, by whether the walk passes over the object
  abbrev pub split : ℕ → List ℕ → List ℕ → ℕ → Bool → List ℕ
  split n path ended i b = elim b [
    | true ↦ ended
    | false ↦ fold (λ e j. visited n deps from to (i ∷ path) e j) ended (needs deps i) ++ i ∷ []
  ]

  -- one more is deep enough where no more objects are left than that
  deeper : (n : ℕ) (path ended : List ℕ) (i : ℕ) → others path members ≤ n → visited n deps from to path ended i ≡ visited (suc n) deps from to path ended i
  deeper zero path ended i few = sym (ap (split zero path ended i) (begun_passed path ended i few))
  deeper (suc n) path ended i few = elim (cases_Bool (is_passed from to path ended i)) [
    | inl p ↦ ap (split n path ended i) p ∙ sym (ap (split (suc n) path ended i) p)
    | inr p ↦
        let new = new_parts from to path ended i p in
        let less : others (i ∷ path) members < others path members = others-less i path members (has-member i new.0) new.1 in
        ap (split n path ended i) p
        ∙ ap (λ e. e ++ i ∷ []) (fold-same (λ e j. visited n deps from to (i ∷ path) e j) (λ e j. visited (suc n) deps from to (i ∷ path) e j) (λ e j. deeper n (i ∷ path) e j (omega (arith, less, few))) ended (needs deps i))
        ∙ sym (ap (split (suc n) path ended i) p)
  ]

  pub visit_passed : (path ended : List ℕ) (i : ℕ) → is_passed from to path ended i ≡ true → visit deps from to path ended i ≡ ended
  unfolding visit
  visit_passed path ended i p = deeper (to - from) path ended i (enough path) ∙ ap (split (to - from) path ended i) p
    where
      enough : (path : List ℕ) → others path members ≤ to - from
      enough path = omega (arith, others-le path members, length-range_with_len from (to - from))

  pub visit_new : (path ended : List ℕ) (i : ℕ) → is_passed from to path ended i ≡ false → visit deps from to path ended i ≡ fold (λ e j. visit deps from to (i ∷ path) e j) ended (needs deps i) ++ i ∷ []
  unfolding visit
  visit_new path ended i p = deeper (to - from) path ended i (enough path) ∙ ap (split (to - from) path ended i) p
    where
      enough : (path : List ℕ) → others path members ≤ to - from
      enough path = omega (arith, others-le path members, length-range_with_len from (to - from))

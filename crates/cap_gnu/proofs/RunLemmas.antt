-- Runs by their lengths.
use Rattle.std.proofs.Common.{◌≡◌, ℕ, zero, suc, ◌+◌, ◌-◌, ◌%◌, ◌^◌, ◌<◌, ◌≤◌, ◌==◌, List, [], ◌∷◌, Bool, true, false, cond, not, Some, None, length, get_or, set, drop, replicate, refl, sym, ap, ◌∙◌, inl, inr, arith}
use Rattle.std.specs.Prelude.{nat_lt, slice_index}
use Rattle.std.specs.List.{position_or_len, range_with_len}
use Rattle.std.specs.Option.{option_map_or}
use Rattle.std.proofs.lemmas.Bool.{cases_Bool, cases_eq, lt-ltb, ltb-true, ltb-false, false_from_ne_true}
use Rattle.std.proofs.lemmas.List.{drop_more, drop_all, length-drop, get_or-set_same, get_or-set_other}
use Rattle.std.proofs.lemmas.List.Sums.{position_or_len_is}
use Rattle.std.proofs.lemmas.List.FromFn.{length-range_with_len, get_or-range_with_len}
use Rattle.cap_gnu.specs.Adopted.{run_length, place_of}
use Rattle.cap_gnu.specs.Lengths.{length_with, AreLengthsFrom}

abbrev odd : ℕ → Bool
odd w = w % 2 == 1

-- one word more
run_more : (w : ℕ) (ws : List ℕ) → run_length (w ∷ ws) ≡ length_with w (run_length ws)
unfolding run_length
run_more w ws =
    let p : ℕ = position_or_len odd ws in
    let shown : ℕ → ℕ = λ n. option_map_or (λ k. k + 1) (cond (nat_lt n (suc (length ws))) (Some n) None) 0 in
    let rest : Bool → ℕ = λ b. option_map_or (λ k. k + 1) (cond b (Some p) None) 0 in
    elim (cases_Bool (odd w)) [
      | inl hit ↦
          let some : nat_lt 0 (suc (length ws)) ≡ true = lt-ltb _ _ (omega arith) in
          ap (λ (b : Bool). shown (cond (not b) (1 + p) 0)) hit
          ∙ ap (λ (b : Bool). option_map_or (λ k. k + 1) (cond b (Some 0) None) 0) some
          ∙ sym (ap (λ (b : Bool). cond b 1 (cond (run_length ws == 0) 0 (run_length ws + 1))) hit)
      | inr miss ↦
          ap (λ (b : Bool). shown (cond (not b) (1 + p) 0)) miss
          ∙ elim (cases_Bool (nat_lt p (length ws))) [
            | inl inside ↦
                let more : nat_lt (1 + p) (suc (length ws)) ≡ true = lt-ltb _ _ (omega (arith, ltb-true p (length ws) inside)) in
                let here : run_length ws ≡ p + 1 = ap rest inside in
                ap (λ (b : Bool). option_map_or (λ k. k + 1) (cond b (Some (1 + p)) None) 0) more
                ∙ (let sum : 1 + p + 1 ≡ cond (p + 1 == 0) 0 (p + 1 + 1) = grind arith in sum)
                ∙ sym (ap (λ (n : ℕ). cond (n == 0) 0 (n + 1)) here)
            | inr outside ↦
                let more : nat_lt (1 + p) (suc (length ws)) ≡ false = false_from_ne_true _ (λ (h : nat_lt (1 + p) (suc (length ws)) ≡ true). absurd (omega (arith, ltb-true _ _ h, ltb-false p (length ws) outside))) in
                let here : run_length ws ≡ 0 = ap rest outside in
                ap (λ (b : Bool). option_map_or (λ k. k + 1) (cond b (Some (1 + p)) None) 0) more ∙ sym (ap (λ (n : ℕ). cond (n == 0) 0 (n + 1)) here)
          ]
          ∙ sym (ap (λ (b : Bool). cond b 1 (cond (run_length ws == 0) 0 (run_length ws + 1))) miss)
    ]

run_none : run_length [] ≡ 0
unfolding run_length
run_none = refl

run_le : (ws : List ℕ) → run_length ws ≤ length ws
unfolding run_length
run_le ws =
    let p : ℕ = position_or_len odd ws in
    elim (cases_Bool (nat_lt p (length ws))) [
      | inl inside ↦
          let is : run_length ws ≡ p + 1 = ap (λ (b : Bool). option_map_or (λ k. k + 1) (cond b (Some p) None) 0) inside in omega (arith, is, ltb-true p (length ws) inside)
      | inr outside ↦ let is : run_length ws ≡ 0 = ap (λ (b : Bool). option_map_or (λ k. k + 1) (cond b (Some p) None) 0) outside in omega (arith, is)
    ]

-- before any length is entered
pub none_entered : (words : List ℕ) (n : ℕ) (lengths : List ℕ) → lengths ≡ replicate n 0 → n ≡ length words → AreLengthsFrom n words lengths
none_entered words n lengths is long = λ k h.
    ap (λ (xs : List ℕ). get_or xs k 0) is ∙ all_zero n k ∙ sym run_none ∙ sym (ap run_length (drop_all k words (omega (arith, h, long))))
  where
    all_zero : (n k : ℕ) → slice_index (replicate n 0) k ≡ zero
    all_zero zero k = refl
    all_zero (suc n) zero = refl
    all_zero (suc n) (suc k) = all_zero n k

module _ (words old : List ℕ) (k next : ℕ) (inside : k < length words) (later : AreLengthsFrom (k + 1) words old) (is : next ≡ slice_index old (k + 1)) where
  next_is : next ≡ run_length (drop (k + 1) words)
  next_is = is ∙ later (k + 1) (omega arith)

  pub next_fits : length words < 2 ^ 32 → next + 1 < 2 ^ 32
  next_fits few = omega (arith, next_is, run_le (drop (k + 1) words), length-drop (k + 1) words, few, inside)

  -- one length more
  pub entered : (new : List ℕ) (word : ℕ) → word ≡ get_or words k 0 → length old ≡ length words → new ≡ set old k (length_with word next) → AreLengthsFrom k words new
  entered new word read long made = λ j h.
      ap (λ (xs : List ℕ). get_or xs j 0) made
      ∙ elim (cases_eq j k) [
        | inl same ↦
            ap (λ (n : ℕ). get_or (set old k (length_with word next)) n 0) same
            ∙ get_or-set_same old k (length_with word next) 0 (omega (arith, inside, long))
            ∙ ap (λ (n : ℕ). length_with n next) read
            ∙ ap (λ (n : ℕ). length_with (get_or words k 0) n) next_is
            ∙ sym (run_more (get_or words k 0) (drop (k + 1) words))
            ∙ sym (ap run_length (drop_more words k 0 inside))
            ∙ sym (ap (λ (n : ℕ). run_length (drop n words)) same)
        | inr other ↦ get_or-set_other old k j (length_with word next) 0 other ∙ later j (omega (arith, h, other))
      ]

pub run_long : (first n : ℕ) → length (range_with_len first n) ≡ n
run_long first n = length-range_with_len first n

-- an index among those from one on
module _ (first n i : ℕ) where
  abbrev is_it : ℕ → Bool
  is_it j = j == i

  abbrev run : List ℕ
  run = range_with_len first n

  place : first ≤ i → i - first < n → position_or_len is_it run ≡ i - first
  place low high =
      position_or_len_is is_it run (i - first) 0 (omega (arith, high, run_long first n))
      (λ k h. let at : get_or run k 0 ≡ first + k = get_or-range_with_len first n k 0 (omega (arith, h, high)) in ap is_it at ∙ (let no : (first + k == i) ≡ false = grind (arith, h) in no))
      (λ _. let at : get_or run (i - first) 0 ≡ first + (i - first) = get_or-range_with_len first n (i - first) 0 high in ap is_it at ∙ (let yes : (first + (i - first) == i) ≡ true = grind (arith, low) in yes))

  no_place : (first ≤ i → n ≤ i - first) → position_or_len is_it run ≡ n
  no_place out =
      position_or_len_is is_it run n 0 (omega (arith, run_long first n))
      (λ k h. let at : get_or run k 0 ≡ first + k = get_or-range_with_len first n k 0 h in ap is_it at ∙ (let no : (first + k == i) ≡ false = grind (arith, h, out) in no))
      (λ h. absurd (omega (arith, h, run_long first n)))

  pub place_here : first ≤ i → i - first < n → place_of i run ≡ Some (i - first)
  place_here low high =
      let inside : nat_lt (i - first) (length run) ≡ true = lt-ltb _ _ (omega (arith, high, run_long first n)) in
      ap (λ (p : ℕ). cond (nat_lt p (length run)) (Some p) None) (place low high) ∙ ap (λ (b : Bool). cond b (Some (i - first)) None) inside

  nowhere : (first ≤ i → n ≤ i - first) → place_of i run ≡ None
  nowhere out =
      let outside : nat_lt n (length run) ≡ false = false_from_ne_true _ (λ (h : nat_lt n (length run) ≡ true). absurd (omega (arith, ltb-true _ _ h, run_long first n))) in
      ap (λ (p : ℕ). cond (nat_lt p (length run)) (Some p) None) (no_place out) ∙ ap (λ (b : Bool). cond b (Some n) None) outside

  pub place_before : i < first → place_of i run ≡ None
  place_before low = nowhere (λ h. absurd (omega (arith, low, h)))

  pub place_behind : first ≤ i → n ≤ i - first → place_of i run ≡ None
  place_behind low high = nowhere (λ _. high)

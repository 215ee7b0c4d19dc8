-- What is entered while chains are gone through is the place of each index on its chain.
use Rattle.std.proofs.Common.{◌≡◌, ℕ, zero, suc, ◌+◌, ◌-◌, ◌<◌, Bool, true, false, not, cond, List, [], ◌∷◌, length, get_or, set, map, take, drop, Some, None, inl, inr, refl, sym, ap, subst, ◌∙◌, arith, length-set, length-drop, get_or-set_same, get_or-set_other, drop-cons, add-one}
use Rattle.std.specs.Prelude.{◌==◌, ◌||◌, nat_lt, slice_index, flat_map}
use Rattle.std.specs.List.{position_or_len}
use Rattle.std.specs.Option.{option_map_or}
use Rattle.std.proofs.lemmas.Bool.{eq-eqb, eqb-true, lt-ltb, ltb-true, and_parts, or_parts, cases_Bool, true≢false, not-true}
use Rattle.std.proofs.lemmas.List.{take_all, length-take-le, get_or-map}
use Rattle.cap_names.specs.Named.{Named}
use Rattle.cap_chain.specs.Adopted.{IsTableOf, is_sound, bucket_words_of, name_words_of, chain_from, chain_at, has, is_distinct, passed}
use Rattle.cap_chain.specs.Counted.{AreCounted, lists_of, entered, entered_all}
use Rattle.cap_chain.proofs.MarkLemmas.{chain_stop, chain_more}
use Rattle.cap_chain.proofs.SoundLemmas.{all_below, all_take, all_rest, chain_inside, has-append, distinct_left, distinct_right, distinct_apart}

-- one index more, or none
module _ (links : List ℕ) where
  pub length_stop : (m i step total : ℕ) → i ≡ 0 → step + length (chain_from links m i) ≡ total → step ≡ total
  length_stop m i step total e so_far = let none : length (chain_from links m i) ≡ 0 = ap length (chain_stop links m i e) in omega (arith, so_far, none)

  pub length_more : (n m i step total : ℕ) → n ≡ suc m → (i ≡ 0 → ⊥) → step + length (chain_from links n i) ≡ total → step + 1 + length (chain_from links m (slice_index links i)) ≡ total
  length_more n m i step total one some so_far =
      let more : length (chain_from links n i) ≡ suc (length (chain_from links m (slice_index links i))) = ap length (chain_more links n m i one some) in omega (arith, so_far, more)

  pub places_stop : (m i first : ℕ) (places total : List ℕ) → i ≡ 0 → entered first places (chain_from links m i) ≡ total → places ≡ total
  places_stop m i first places total e so_far = sym (ap (entered first places) (chain_stop links m i e)) ∙ so_far

  pub places_more : (n m i first : ℕ) (places total : List ℕ) → n ≡ suc m → (i ≡ 0 → ⊥) → entered first places (chain_from links n i) ≡ total → entered (first + 1) (set places i first) (chain_from links m (slice_index links i)) ≡ total
  places_more n m i first places total one some so_far = sym (ap (entered first places) (chain_more links n m i one some)) ∙ so_far

-- one chain more
pub all_places_more : (chain : ℕ → List ℕ) (places ws total : List ℕ) (b : ℕ) → b < length ws → entered_all chain places (drop b ws) ≡ total → entered_all chain (entered 1 places (chain (get_or ws b 0))) (drop (b + 1) ws) ≡ total
all_places_more chain places ws total b lt so_far =
    let front : drop b ws ≡ get_or ws b 0 ∷ drop (b + 1) ws = rw (add-one, drop-cons ws b 0) in
    sym (ap (entered_all chain places) front) ∙ so_far

pub entered-length : (xs : List ℕ) (first : ℕ) (places : List ℕ) → length (entered first places xs) ≡ length places
entered-length [] first places = refl
entered-length (x ∷ xs) first places = entered-length xs (first + 1) (set places x first) ∙ length-set places x first

module _ (j : ℕ) where
  abbrev is_it : ℕ → Bool
  is_it i = i == j

  entered_miss : (xs : List ℕ) (first : ℕ) (places : List ℕ) → has j xs ≡ false → get_or (entered first places xs) j 0 ≡ get_or places j 0
  entered_miss [] first places h = refl
  entered_miss (x ∷ xs) first places h =
      let parts = or_parts (x == j) (has j xs) h in
      entered_miss xs (first + 1) (set places x first) parts.1
      ∙ get_or-set_other places x j first 0 (λ same. true≢false (sym (eq-eqb x j (sym same)) ∙ parts.0))

  entered_hit : (n : ℕ) (xs : List ℕ) (first : ℕ) (places : List ℕ) → length places ≡ n → all_below n xs ≡ true → is_distinct xs ≡ true → has j xs ≡ true → (get_or (entered first places xs) j 0 ≡ first + position_or_len is_it xs) × (position_or_len is_it xs < length xs)
  entered_hit n [] first places long below distinct h = absurd (true≢false (sym h))
  entered_hit n (x ∷ xs) first places long below distinct h =
      let low = and_parts (nat_lt x n) (all_below n xs) below in
      let fresh = and_parts (not (has x xs)) (is_distinct xs) distinct in
      let shown : Bool → ℕ = λ b. cond (not b) (1 + position_or_len is_it xs) 0 in
      elim (cases_Bool (x == j)) [
        | inl here ↦
            let same : x ≡ j = eqb-true x j here in
            let place : position_or_len is_it (x ∷ xs) ≡ 0 = ap shown here in
            let later : has j xs ≡ false = ap (λ i. has i xs) (sym same) ∙ not-true _ fresh.0 in
            let value : get_or (set places x first) j 0 ≡ first = ap (λ i. get_or (set places x first) i 0) (sym same) ∙ get_or-set_same places x first 0 (omega (arith, long, ltb-true x n low.0)) in
            let all : get_or (entered (first + 1) (set places x first) xs) j 0 ≡ first = entered_miss xs (first + 1) (set places x first) later ∙ value in
            (omega (arith, all, place), omega (arith, place))
        | inr other ↦
            let later : has j xs ≡ true = sym (ap (λ b. b || has j xs) other) ∙ h in
            let place : position_or_len is_it (x ∷ xs) ≡ 1 + position_or_len is_it xs = ap shown other in
            let rest = entered_hit n xs (first + 1) (set places x first) (length-set places x first ∙ long) low.1 fresh.1 later in
            (omega (arith, rest.0, place), omega (arith, rest.1, place))
      ]

  -- where a number stands in a list, up to it so many are passed
  passed_at : (xs : List ℕ) → position_or_len is_it xs < length xs → passed xs (Some j) ≡ position_or_len is_it xs + 1
  passed_at xs lt = ap (λ b. option_map_or (λ k. k + 1) (cond b (Some (position_or_len is_it xs)) None) (length xs)) (lt-ltb _ _ lt)

  module _ (chain : ℕ → List ℕ) where
    all_miss : (ws places : List ℕ) → has j (flat_map chain ws) ≡ false → get_or (entered_all chain places ws) j 0 ≡ get_or places j 0
    all_miss [] places h = refl
    all_miss (w ∷ ws) places h =
        let parts = or_parts (has j (chain w)) (has j (flat_map chain ws)) (sym (has-append j (chain w) (flat_map chain ws)) ∙ h) in
        all_miss ws (entered 1 places (chain w)) parts.1 ∙ entered_miss (chain w) 1 places parts.0

    all_hit : (n : ℕ) → ((w : ℕ) → w < n → all_below n (chain w) ≡ true) → (ws places : List ℕ) → length places ≡ n → all_below n ws ≡ true → is_distinct (flat_map chain ws) ≡ true → (b : ℕ) → b < length ws → has j (chain (get_or ws b 0)) ≡ true → get_or (entered_all chain places ws) j 0 ≡ passed (chain (get_or ws b 0)) (Some j)
    all_hit n inside [] places long below distinct b lt h = absurd (omega (arith, lt))
    all_hit n inside (w ∷ ws) places long below distinct zero lt h =
        let low = and_parts (nat_lt w n) (all_below n ws) below in
        let here = entered_hit n (chain w) 1 places long (inside w (ltb-true w n low.0)) (distinct_left (chain w) (flat_map chain ws) distinct) h in
        let one : 1 + position_or_len is_it (chain w) ≡ position_or_len is_it (chain w) + 1 = omega arith in
        all_miss ws (entered 1 places (chain w)) (distinct_apart (chain w) (flat_map chain ws) distinct j h) ∙ here.0 ∙ one ∙ sym (passed_at (chain w) here.1)
    all_hit n inside (w ∷ ws) places long below distinct (suc b) lt h =
        let low = and_parts (nat_lt w n) (all_below n ws) below in
        all_hit n inside ws (entered 1 places (chain w)) (entered-length (chain w) 1 places ∙ long) low.1 (distinct_right (chain w) (flat_map chain ws) distinct) b (omega (arith, lt)) h

-- the counts of a sound table
module _ (words : List ℕ) (names : List Named) (table : IsTableOf words names) (sound : is_sound words names ≡ true) where
  abbrev firsts : List ℕ
  firsts = bucket_words_of words

  abbrev links : List ℕ
  links = name_words_of words

  abbrev rest : List ℕ
  rest = take (length words - (2 + slice_index words 0)) (drop (2 + slice_index words 0) words)

  pub rest-is : rest ≡ links
  rest-is = take_all _ _ (omega (arith, length-drop (2 + slice_index words 0) words))

  length-links : length links ≡ length names
  length-links = omega (arith, length-drop (2 + slice_index words 0) words, table.long)

  length-firsts : length firsts ≡ slice_index words 0
  length-firsts = length-take-le (2 + slice_index words 0 - 2) (drop 2 words) (omega (arith, length-drop 2 words, table.long)) ∙ omega arith

  below : all_below (length names) (drop 2 words) ≡ true
  below = (and_parts _ _ (and_parts _ _ sound).0).0

  distinct : is_distinct (flat_map (chain_at words) firsts) ≡ true
  distinct = (and_parts _ _ (and_parts _ _ sound).0).1

  links-below : all_below (length names) links ≡ true
  links-below = subst (λ (l : List ℕ). all_below (length names) l ≡ true) rest-is (all_rest (length names) (slice_index words 0) (length words - (2 + slice_index words 0)) words below)

  length-rest : length names ≡ length rest
  length-rest = sym (ap length rest-is ∙ length-links)

  pub firsts_below : all_below (length rest) firsts ≡ true
  firsts_below = subst (λ (n : ℕ). all_below n firsts ≡ true) length-rest (all_take (length names) _ _ below)

  pub rest_below : all_below (length rest) rest ≡ true
  rest_below = subst (λ (n : ℕ). all_below n rest ≡ true) length-rest (all_rest (length names) (slice_index words 0) (length words - (2 + slice_index words 0)) words below)

  pub counted : (lengths places old : List ℕ) → length old ≡ length names → lengths ≡ map (λ w. length (chain_from rest (length rest) w)) firsts → places ≡ entered_all (λ w. chain_from rest (length rest) w) old firsts → AreCounted words (lists_of places lengths)
  counted lengths places old many long at = record {
    lengths = λ b lt.
        ap (λ ls. slice_index ls b) (long ∙ ap (λ ls. map (λ w. length (chain_from ls (length ls) w)) firsts) rest-is)
        ∙ get_or-map (λ w. length (chain_at words w)) firsts b 0 0 (omega (arith, lt, length-firsts));
    places = λ b i lt h.
        ap (λ ls. slice_index ls i) (at ∙ ap (λ ls. entered_all (λ w. chain_from ls (length ls) w) old firsts) rest-is)
        ∙ all_hit i (chain_at words) (length names) (λ w low. chain_inside links (length names) links-below length-links (length links) w low) firsts old many (all_take (length names) _ _ below) distinct b (omega (arith, lt, length-firsts)) h;
  }

-- Keys that ascend by hash are put in order run by run.
use Rattle.std.proofs.Common.{◌≡◌, ⊎_elim, ℕ, ◌+◌, ◌-◌, ◌/◌, ◌%◌, ◌^◌, ◌<◌, ◌≤◌, List, ◌++◌, false, length, get_or, take, drop, append-nil, length-drop, refl, sym, ap, subst, ◌∙◌, arith}
use Rattle.std.proofs.lemmas.Bool.{cases_lt}
use Rattle.std.proofs.lemmas.List.{get_or_default, get_or_append_left, get_or-append_right, get_or-take, get_or-drop, length-take-le, drop_all}
use Rattle.std.proofs.Math.Seq.{take-length}
use Rattle.std.specs.List.{All}
use Rattle.std.proofs.lemmas.List.Sorted.{IsPermutation-refl, IsPermutation-put_mid, All-permutation, length_permutation}
use Rattle.std.specs.List.Sorted.{IsPermutation, IsSortedBy, IsNonDecreasing}
use Rattle.std.specs.Cmp.Lexicographic.{slice_cmp}
use Rattle.std.specs.declared.cmp.Ordering.{Ordering}
use Rattle.std.specs.declared.cmp.Ordering.TheVariants.{Greater}
use Rattle.std.specs.Ordering.{nat_cmp, ordering_then, is_lt}
use Rattle.cap_names.specs.Named.{Named, name_at}
use Rattle.cap_names.specs.Keys.{key_lt}
use Rattle.cap_names.specs.Runs.{hash_at, IsRun, AscendsIn, Settles, IsSettled}

-- a key with a lesser hash is before
hash_orders : (names : List Named) (a b : ℕ) → a / 2 ^ 32 < b / 2 ^ 32 → key_lt names b a ≡ false
hash_orders names a b less =
    let one : nat_cmp (b / 2 ^ 32) (a / 2 ^ 32) ≡ Greater = grind (arith, less) in
    ap (λ (o : Ordering). is_lt (ordering_then (ordering_then o (slice_cmp nat_cmp (name_at names (b % 2 ^ 32)) (name_at names (a % 2 ^ 32)))) (nat_cmp (b % 2 ^ 32) (a % 2 ^ 32)))) one

module _ (names : List Named) where
  pub none_settled : (keys : List ℕ) → IsNonDecreasing keys → IsSettled names keys 0
  none_settled keys up = record {
    inside = omega arith;
    ascend = λ i j order h. let le = up i j 0 order h in omega (arith, le);
    sorted = λ k _ h. absurd (omega (arith, h));
    parted = λ h. absurd (omega (arith, h));
  }

  pub all_settled : (keys : List ℕ) (at : ℕ) → IsSettled names keys at → length keys ≤ at → IsSortedBy (key_lt names) keys
  all_settled keys at s long = λ k d low h.
      let first = get_or_default keys k 0 d (omega (arith, h)) in
      let second = get_or_default keys (k + 1) 0 d h in
      ap (λ (x : ℕ). key_lt names x (get_or keys k d)) (sym second) ∙ ap (λ (x : ℕ). key_lt names (get_or keys (k + 1) 0) x) (sym first) ∙ s.sorted k low (omega (arith, h, long))

  module _ (old new : List ℕ) (at end : ℕ) (run : IsRun old at end) (s : IsSettled names old at) (t : Settles names old new at end) where
    long : length new ≡ length old
    long = length_permutation old new t.moved

    up : (i j : ℕ) → i ≤ j → j < length new → hash_at new i ≤ hash_at new j
    up i j order h = let le = s.ascend i j order (omega (arith, h, long)) in omega (arith, le, t.hashes i, t.hashes j)

    -- the key before the run has a lesser hash than each of it
    at_seam : (k : ℕ) → k + 1 ≡ at → key_lt names (get_or new (k + 1) 0) (get_or new k 0) ≡ false
    at_seam k is =
        let before : at - 1 ≡ k = omega (arith, is) in
        let parted : hash_at old k < hash_at old (k + 1) = subst (λ (m : ℕ). hash_at old k < hash_at old m) (sym is) (subst (λ (m : ℕ). hash_at old m < hash_at old at) before (s.parted (omega (arith, is)) (omega (arith, run.some, run.inside)))) in
        hash_orders names (get_or new k 0) (get_or new (k + 1) 0) (omega (arith, parted, t.hashes k, t.hashes (k + 1)))

    inside_front : (k : ℕ) → k + 1 < at → key_lt names (get_or new (k + 1) 0) (get_or new k 0) ≡ false
    inside_front k h =
        ap (λ (x : ℕ). key_lt names x (get_or new k 0)) (t.before (k + 1) h) ∙ ap (λ (x : ℕ). key_lt names (get_or old (k + 1) 0) x) (t.before k (omega (arith, h))) ∙ s.sorted k (omega arith) h

    sorted_front : AscendsIn names new 0 end
    sorted_front = λ k _ h.
        ⊎_elim (λ (less : k < at).
        ⊎_elim (λ (less_too : k + 1 < at). inside_front k less_too) (λ (more : at ≤ k + 1). at_seam k (omega (arith, less, more))) (cases_lt (k + 1) at))
        (λ (more : at ≤ k). t.sorted k more h) (cases_lt k at)

    pub more_settled : IsSettled names new end
    more_settled = record {
      inside = omega (arith, run.inside, long);
      ascend = up;
      sorted = sorted_front;
      parted = λ _ h.
          let below : end < length old = omega (arith, h, long) in
          let first = run.same (end - 1) (omega (arith, run.some)) (omega (arith, run.some)) in
          let le = s.ascend (end - 1) end (omega arith) below in
          let other = run.other below in
          omega (arith, first, le, other, t.hashes (end - 1), t.hashes end);
    }

  -- a run of one key is in order
  pub one_settles : (keys : List ℕ) (at end : ℕ) → end ≤ at + 1 → Settles names keys keys at end
  one_settles keys at end short = record {
    moved = IsPermutation-refl keys;
    before = λ k _. refl;
    behind = λ k _. refl;
    hashes = λ k. refl;
    sorted = λ k low h. absurd (omega (arith, short, low, h));
  }

-- a part of a list is put in order
module _ (names : List Named) (old ys : List ℕ) (at end : ℕ) (run : IsRun old at end) (moved : IsPermutation (take (end - at) (drop at old)) ys) where
  abbrev new : List ℕ
  new = take at old ++ (ys ++ drop (end - at) (drop at old))

  front_long : length (take at old) ≡ at
  front_long = length-take-le at old (omega (arith, run.some, run.inside))

  part_long : length ys ≡ end - at
  part_long = length_permutation _ _ moved ∙ length-take-le (end - at) (drop at old) (omega (arith, length-drop at old, run.inside))

  new_before : (k : ℕ) → k < at → get_or new k 0 ≡ get_or old k 0
  new_before k h = get_or_append_left (take at old) _ 0 k (omega (arith, front_long, h)) ∙ get_or-take at old k 0 h

  new_after : (k : ℕ) → at ≤ k → get_or new k 0 ≡ get_or (ys ++ drop (end - at) (drop at old)) (k - at) 0
  new_after k h = get_or-append_right (take at old) _ at k 0 front_long h

  new_within : (k : ℕ) → at ≤ k → k < end → get_or new k 0 ≡ get_or ys (k - at) 0
  new_within k low high = new_after k low ∙ get_or_append_left ys _ 0 (k - at) (omega (arith, part_long, low, high))

  new_behind : (k : ℕ) → end ≤ k → get_or new k 0 ≡ get_or old k 0
  new_behind k h =
      new_after k (omega (arith, h, run.some)) ∙ get_or-append_right ys _ (end - at) (k - at) 0 part_long (omega (arith, h))
      ∙ get_or-drop (end - at) (drop at old) (k - at - (end - at)) 0 ∙ get_or-drop at old (end - at + (k - at - (end - at))) 0
      ∙ ap (λ (m : ℕ). get_or old m 0) (omega (arith, h, run.some))

  part_hashes : All (λ x. x / 2 ^ 32 ≡ hash_at old at) ys
  part_hashes =
      All-permutation (λ x. x / 2 ^ 32 ≡ hash_at old at) (take (end - at) (drop at old)) ys moved (λ k d h.
      let less : k < end - at = omega (arith, h, length-take-le (end - at) (drop at old) (omega (arith, length-drop at old, run.inside))) in
      let is : get_or (take (end - at) (drop at old)) k d ≡ get_or old (at + k) d = get_or-take (end - at) (drop at old) k d less ∙ get_or-drop at old k d in
      let same : get_or old (at + k) d ≡ get_or old (at + k) 0 = get_or_default old (at + k) d 0 (omega (arith, less, run.inside)) in
      ap (λ (x : ℕ). x / 2 ^ 32) (is ∙ same) ∙ run.same (at + k) (omega arith) (omega (arith, less)))

  new_hashes : (k : ℕ) → hash_at new k ≡ hash_at old k
  new_hashes k =
      ⊎_elim (λ (h : k < at). ap (λ (x : ℕ). x / 2 ^ 32) (new_before k h))
      (λ (low : at ≤ k). ⊎_elim
      (λ (high : k < end). ap (λ (x : ℕ). x / 2 ^ 32) (new_within k low high) ∙ part_hashes (k - at) 0 (omega (arith, part_long, low, high)) ∙ sym (run.same k low high))
      (λ (h : end ≤ k). ap (λ (x : ℕ). x / 2 ^ 32) (new_behind k h)) (cases_lt k end)) (cases_lt k at)

  pub settles_part : IsSortedBy (key_lt names) ys → Settles names old new at end
  settles_part sorted = record {
    moved = IsPermutation-put_mid at (end - at) old ys moved;
    before = new_before;
    behind = new_behind;
    hashes = new_hashes;
    sorted = λ k low h.
        let up = sorted (k - at) 0 (omega arith) (omega (arith, part_long, low, h)) in
        let place : k - at + 1 ≡ k + 1 - at = omega (arith, low) in
        ap (λ (x : ℕ). key_lt names x (get_or new k 0)) (new_within (k + 1) (omega (arith, low)) h)
        ∙ ap (λ (x : ℕ). key_lt names (get_or ys (k + 1 - at) 0) x) (new_within k low (omega (arith, h)))
        ∙ ap (λ (m : ℕ). key_lt names (get_or ys m 0) (get_or ys (k - at) 0)) (sym place) ∙ up;
  }

-- what a slice of a vector holds, as the vector has it again
pub written_back : (old new : List ℕ) (n : ℕ) → n ≡ length old → length new ≡ length old → take n (new ++ drop (length new) old) ≡ new
written_back old new n is same =
    ap (λ (xs : List ℕ). take n (new ++ xs)) (drop_all (length new) old (omega (arith, same))) ∙ ap (take n) (append-nil new) ∙ ap (λ (m : ℕ). take m new) (is ∙ sym same) ∙ take-length new

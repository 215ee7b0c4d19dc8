-- The ranks of the keys of an index ascend: what a place says of those before it and behind it.
use Rattle.std.proofs.Common.{◌≡◌, ℕ, ◌%◌, ◌^◌, ◌<◌, ◌≤◌, List, true, false, length, get_or, refl, sym, ap, subst, ◌∙◌, arith}
use Rattle.std.proofs.lemmas.Bool.{true_from_ne_false}
use Rattle.std.proofs.lemmas.Cmp.{upto, tied_itself}
use Rattle.std.proofs.lemmas.Map.Text.{is_eq-slice_cmp}
use Rattle.std.proofs.lemmas.Slice.Eq.{bytes_eq-Decides}
use Rattle.std.specs.Cmp.Lexicographic.{slice_cmp}
use Rattle.std.specs.declared.cmp.Ordering.{Ordering}
use Rattle.std.specs.declared.cmp.Ordering.TheVariants.{Less, Equal, Greater}
use Rattle.std.specs.Ordering.{nat_cmp, ordering_then, ordering_reverse, is_lt, is_gt, is_eq}
use Rattle.cap_names.specs.Named.{Named}
use Rattle.cap_names.specs.Keys.{Rank, rank_cmp, rank_of, is_below, IsIndexOf}
use Rattle.cap_names.proofs.KeyOrder.{rank_cmp_total}

gt_back : (o : Ordering) → is_gt (ordering_reverse o) ≡ is_lt o
gt_back Less = refl
gt_back Equal = refl
gt_back Greater = refl

lt_back : (o : Ordering) → is_lt (ordering_reverse o) ≡ is_gt o
lt_back Less = refl
lt_back Equal = refl
lt_back Greater = refl

first_lt : (o p : Ordering) → is_lt (ordering_then o p) ≡ false → is_lt o ≡ false
first_lt Less p h = h
first_lt Equal p h = refl
first_lt Greater p h = refl

second_lt : (o p : Ordering) → o ≡ Equal → is_lt (ordering_then o p) ≡ false → is_lt p ≡ false
second_lt o p tie h = subst (λ (q : Ordering). is_lt (ordering_then q p) ≡ false) tie h

neither : (o : Ordering) → is_gt o ≡ false → is_gt (ordering_reverse o) ≡ false → o ≡ Equal
neither Less h k = absurd (cc)
neither Equal h k = refl
neither Greater h k = absurd (cc)

number_order : (x y : ℕ) → is_lt (nat_cmp x y) ≡ false → y ≤ x
number_order x y h = grind arith

-- the first is not above the second
abbrev pub UpTo : Rank → Rank → Type 0
UpTo x y = is_gt (rank_cmp x y) ≡ false

pub turned : (x y : Rank) → is_lt (rank_cmp y x) ≡ false → UpTo x y
turned x y h = ap is_gt (rank_cmp_total.antisymm x y) ∙ gt_back (rank_cmp y x) ∙ h

pub chained : (x y z : Rank) → UpTo x y → UpTo y z → UpTo x z
chained x y z h k = upto rank_cmp_total x y z h k

number_tie : (x y : ℕ) → nat_cmp x y ≡ Equal → x ≡ y
number_tie x y h = grind arith

then_ties : (o p : Ordering) → ordering_then o p ≡ Equal → (o ≡ Equal) × (p ≡ Equal)
then_ties Less p h = absurd (cc)
then_ties Equal p h = (refl, h)
then_ties Greater p h = absurd (cc)

name_tie : (x y : List ℕ) → slice_cmp nat_cmp x y ≡ Equal → x ≡ y
name_tie x y h = (bytes_eq-Decides x y).0 (sym (is_eq-slice_cmp x y) ∙ ap is_eq h)

-- ranks that tie are equal
pub tie_is_equal : (x y : Rank) → rank_cmp x y ≡ Equal → x ≡ y
tie_is_equal (h, n) (k, m) tie =
    let both = then_ties (nat_cmp h k) (slice_cmp nat_cmp n m) tie in
    ap (λ (a : ℕ). let r : Rank = (a, n) in r) (number_tie h k both.0) ∙ ap (λ (a : List ℕ). let r : Rank = (k, a) in r) (name_tie n m both.1)

pub between : (x y : Rank) → UpTo x y → UpTo y x → x ≡ y
between x y h k = tie_is_equal x y (neither (rank_cmp x y) h (ap is_gt (sym (rank_cmp_total.antisymm y x)) ∙ k))

module _ (names : List Named) (keys : List ℕ) (index : IsIndexOf names keys) where
  abbrev rank : ℕ → Rank
  rank k = rank_of names (get_or keys k 0)

  pub ranks_ascend : (i j : ℕ) → i ≤ j → j < length keys → UpTo (rank i) (rank j)
  ranks_ascend i j order h = turned (rank i) (rank j) (first_lt _ _ (index.ascending i j order h))

  -- of keys with one rank, the first has the least index
  pub least_first : (i j : ℕ) → i ≤ j → j < length keys → rank j ≡ rank i → get_or keys i 0 % 2 ^ 32 ≤ get_or keys j 0 % 2 ^ 32
  least_first i j order h same =
      number_order _ _ (second_lt (rank_cmp (rank j) (rank i)) _ (ap (λ (r : Rank). rank_cmp r (rank i)) same ∙ tied_itself rank_cmp_total (rank i)) (index.ascending i j order h))

  module _ (target : Rank) where
    -- the keys behind one that isn't below the target are not below it, and those before one that is are
    pub not_below : (i j : ℕ) → i ≤ j → j < length keys → is_below (rank i) target ≡ false → is_below (rank j) target ≡ false
    not_below i j order h high =
        ap is_lt (rank_cmp_total.antisymm (rank j) target) ∙ lt_back (rank_cmp target (rank j)) ∙ chained target (rank i) (rank j) (turned target (rank i) high) (ranks_ascend i j order h)

    pub below_before : (i j : ℕ) → i ≤ j → j < length keys → is_below (rank j) target ≡ true → is_below (rank i) target ≡ true
    below_before i j order h low =
        true_from_ne_false (is_below (rank i) target) (λ (not : is_below (rank i) target ≡ false). let high = not_below i j order h not in absurd (cc (low, high)))

  pub same_not_below : (r target : Rank) → r ≡ target → is_below r target ≡ false
  same_not_below r target is = ap (λ (x : Rank). is_below x target) is ∙ ap is_lt (tied_itself rank_cmp_total target)

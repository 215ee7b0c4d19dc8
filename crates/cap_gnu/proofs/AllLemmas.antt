-- A test of all items, one after the other.
use Rattle.std.proofs.Common.{◌≡◌, ℕ, ◌+◌, ◌<◌, ◌≤◌, List, [], Bool, true, false, ◌&&◌, length, get_or, drop, sym, ap, ◌∙◌, arith}
use Rattle.std.specs.List.{list_all, enumerate_from}
use Rattle.std.proofs.lemmas.List.{drop_more, drop_all}
use Rattle.std.proofs.lemmas.List.FromFn.{length-enumerate_from, get_or-enumerate_from}
use Rattle.cap_names.specs.Named.{Named}
use Rattle.cap_gnu.specs.Adopted.{is_held}

module _ {X : Type 0} (p : X → Bool) (xs : List X) (i : ℕ) (d : X) (total : Bool) (rest : list_all p (drop i xs) ≡ total) where
  at_more : i < length xs → (p (get_or xs i d) && list_all p (drop (i + 1) xs)) ≡ total
  at_more below = sym (ap (list_all p) (drop_more xs i d below)) ∙ rest

  pub all_more : i < length xs → p (get_or xs i d) ≡ true → list_all p (drop (i + 1) xs) ≡ total
  all_more below passes = sym (ap (λ (b : Bool). b && list_all p (drop (i + 1) xs)) passes) ∙ at_more below

  pub all_fails : i < length xs → p (get_or xs i d) ≡ false → false ≡ total
  all_fails below fails = sym (ap (λ (b : Bool). b && list_all p (drop (i + 1) xs)) fails) ∙ at_more below

  pub all_done : length xs ≤ i → true ≡ total
  all_done long = sym (ap (list_all p) (drop_all i xs long)) ∙ rest

-- names with their indices
module _ (words : List ℕ) (names : List Named) (i : ℕ) (total : Bool) (rest : list_all (is_held words) (drop i (enumerate_from 0 names)) ≡ total) where
  long : length (enumerate_from 0 names) ≡ length names
  long = length-enumerate_from 0 names

  at : i < length names → is_held words (get_or (enumerate_from 0 names) i (0, ([], false))) ≡ is_held words (i, get_or names i ([], false))
  at below =
      let zero_more : 0 + i ≡ i = omega arith in
      ap (is_held words) (get_or-enumerate_from 0 names i (0, ([], false)) below) ∙ ap (λ (n : ℕ). is_held words (n, get_or names i ([], false))) zero_more

  pub held_more : i < length names → is_held words (i, get_or names i ([], false)) ≡ true → list_all (is_held words) (drop (i + 1) (enumerate_from 0 names)) ≡ total
  held_more below passes = all_more (is_held words) (enumerate_from 0 names) i (0, ([], false)) total rest (omega (arith, long, below)) (at below ∙ passes)

  pub held_fails : i < length names → is_held words (i, get_or names i ([], false)) ≡ false → false ≡ total
  held_fails below fails = all_fails (is_held words) (enumerate_from 0 names) i (0, ([], false)) total rest (omega (arith, long, below)) (at below ∙ fails)

  pub held_done : length names ≤ i → true ≡ total
  held_done past = all_done (is_held words) (enumerate_from 0 names) i (0, ([], false)) total rest (omega (arith, long, past))

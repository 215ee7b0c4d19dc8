-- Names at their first appearance.
use Rattle.std.proofs.Common.{◌≡◌, ◌≢◌, ℕ, suc, ◌+◌, ◌<◌, ◌≤◌, Bool, true, false, cond, ◌||◌, List, [], ◌∷◌, ◌++◌, length, get_or, inl, inr, refl, sym, ap, subst, ◌∙◌, arith, length-append}
use Rattle.std.specs.Prelude.{fold}
use Rattle.std.specs.List.{list_any, AllPairs}
use Rattle.std.specs.Str.{bytes_eq}
use Rattle.std.proofs.lemmas.Cmp.{nat_list_eq_equiv}
use Rattle.std.proofs.lemmas.Bool.{cases_Bool, both_ways, false_from_ne_true}
use Rattle.std.proofs.lemmas.List.Quantifiers.{all_pairs_push}
use Rattle.std.proofs.lemmas.List.Folds.{list_any-append, list_any_at}
use Rattle.std.proofs.lemmas.Map.Steps.{list_any_congr}
use Rattle.std.proofs.lemmas.Slice.Eq.{bytes_eq-Decides}
use Rattle.cap_syms.specs.Distinct.{with_new, distinct}

-- equality of bytes, as a test and as a fact
pub bytes_same : (a b : List ℕ) → bytes_eq a b ≡ true → a ≡ b
bytes_same a b h = (bytes_eq-Decides a b).0 h

pub bytes_refl : (a : List ℕ) → bytes_eq a a ≡ true
bytes_refl a = (bytes_eq-Decides a a).1 refl

pub bytes_swap : (a b : List ℕ) → bytes_eq a b ≡ bytes_eq b a
bytes_swap a b = elim (cases_Bool (bytes_eq a b)) [
  | inl e ↦ e ∙ sym ((bytes_eq-Decides b a).1 (sym (bytes_same a b e)))
  | inr e ↦ e ∙ sym (false_from_ne_true _ (λ h. both_ways (bytes_eq a b) e ((bytes_eq-Decides a b).1 (sym (bytes_same b a h)))))
]

abbrev grown : List (List ℕ) → List ℕ → Bool → List (List ℕ)
grown ns x b = cond b ns (ns ++ x ∷ [])

or_last : (a b : Bool) → (a || (b || false)) ≡ (a || b)
or_last true b = refl
or_last false true = refl
or_last false false = refl

or_known : (a b : Bool) → (b ≡ true → a ≡ true) → a ≡ (a || b)
or_known true b h = refl
or_known false true h = h refl
or_known false false h = refl

-- the names, with one more, have what they had and it
pub any-with_new : (q : List ℕ) (ns : List (List ℕ)) (x : List ℕ) → list_any (bytes_eq q) (with_new bytes_eq ns x) ≡ (list_any (bytes_eq q) ns || bytes_eq q x)
any-with_new q ns x = elim (cases_Bool (list_any (bytes_eq x) ns)) [
  | inl e ↦
      ap (λ b. list_any (bytes_eq q) (grown ns x b)) e
      ∙ or_known (list_any (bytes_eq q) ns) (bytes_eq q x) (λ h. list_any_congr nat_list_eq_equiv q x ns h ∙ e)
  | inr e ↦
      ap (λ b. list_any (bytes_eq q) (grown ns x b)) e
      ∙ list_any-append (bytes_eq q) ns (x ∷ [])
      ∙ or_last (list_any (bytes_eq q) ns) (bytes_eq q x)
]

or_assoc : (a b c : Bool) → ((a || b) || c) ≡ (a || (b || c))
or_assoc true b c = refl
or_assoc false b c = refl

any-fold : (q : List ℕ) (ns xs : List (List ℕ)) → list_any (bytes_eq q) (fold (with_new bytes_eq) ns xs) ≡ (list_any (bytes_eq q) ns || list_any (bytes_eq q) xs)
any-fold q ns [] = sym (or_false (list_any (bytes_eq q) ns))
  where
    or_false : (b : Bool) → (b || false) ≡ b
    or_false true = refl
    or_false false = refl
any-fold q ns (x ∷ xs) =
    any-fold q (with_new bytes_eq ns x) xs
    ∙ ap (λ b. b || list_any (bytes_eq q) xs) (any-with_new q ns x)
    ∙ or_assoc (list_any (bytes_eq q) ns) (bytes_eq q x) (list_any (bytes_eq q) xs)

-- they are all there
pub any-distinct : (q : List ℕ) (xs : List (List ℕ)) → list_any (bytes_eq q) (distinct bytes_eq xs) ≡ list_any (bytes_eq q) xs
any-distinct q xs = any-fold q [] xs

abbrev pub Apart : List (List ℕ) → Type 0
Apart ns = AllPairs (λ a b. a ≢ b) ns

apart-with_new : (ns : List (List ℕ)) (x : List ℕ) → Apart ns → Apart (with_new bytes_eq ns x)
apart-with_new ns x h = elim (cases_Bool (list_any (bytes_eq x) ns)) [
  | inl e ↦ subst Apart (sym (ap (grown ns x) e)) h
  | inr e ↦
      let new : (k : ℕ) (d : List ℕ) → k < length ns → get_or ns k d ≢ x =
      λ k d lt same. both_ways (list_any (bytes_eq x) ns) e (list_any_at (bytes_eq x) ns k d lt ((bytes_eq-Decides x (get_or ns k d)).1 (sym same))) in
      subst Apart (sym (ap (grown ns x) e)) (all_pairs_push (λ a b. a ≢ b) ns x h new)
]

apart-fold : (ns xs : List (List ℕ)) → Apart ns → Apart (fold (with_new bytes_eq) ns xs)
apart-fold ns [] h = h
apart-fold ns (x ∷ xs) h = apart-fold (with_new bytes_eq ns x) xs (apart-with_new ns x h)

-- each once
pub apart-distinct : (xs : List (List ℕ)) → Apart (distinct bytes_eq xs)
apart-distinct xs = apart-fold [] xs (λ i j d lt inside. absurd (omega (arith, inside)))

few-with_new : (ns : List (List ℕ)) (x : List ℕ) → length (with_new bytes_eq ns x) ≤ length ns + 1
few-with_new ns x = elim (cases_Bool (list_any (bytes_eq x) ns)) [
  | inl e ↦ let at : length (with_new bytes_eq ns x) ≡ length ns = ap (λ b. length (grown ns x b)) e in omega (arith, at)
  | inr e ↦
      let at : length (with_new bytes_eq ns x) ≡ length ns + 1 = ap (λ b. length (grown ns x b)) e ∙ length-append ns (x ∷ []) in omega (arith, at)
]

few-fold : (ns xs : List (List ℕ)) → length (fold (with_new bytes_eq) ns xs) ≤ length ns + length xs
few-fold ns [] = omega arith
few-fold ns (x ∷ xs) =
    let rest : length (fold (with_new bytes_eq) (with_new bytes_eq ns x) xs) ≤ length (with_new bytes_eq ns x) + length xs = few-fold (with_new bytes_eq ns x) xs in
    let one : length (with_new bytes_eq ns x) ≤ length ns + 1 = few-with_new ns x in
    omega (arith, rest, one)

pub few-distinct : (xs : List (List ℕ)) → length (distinct bytes_eq xs) ≤ length xs
few-distinct xs = let h : length (distinct bytes_eq xs) ≤ 0 + length xs = few-fold [] xs in omega (arith, h)

abbrev pub NoneIs : List ℕ → List (List ℕ) → Type 0
NoneIs q ns = (k : ℕ) (d : List ℕ) → k < length ns → q ≢ get_or ns k d

-- a name that none of these is
pub none_is : (q : List ℕ) (ns : List (List ℕ)) → NoneIs q ns → list_any (bytes_eq q) ns ≡ false
none_is q [] h = refl
none_is q (n ∷ ns) h =
    let here : bytes_eq q n ≡ false = false_from_ne_true _ (λ e. h 0 [] (omega arith) (bytes_same q n e)) in
    let rest : list_any (bytes_eq q) ns ≡ false = none_is q ns (λ k d lt. h (suc k) d (omega (arith, lt))) in
    ap (λ b. b || list_any (bytes_eq q) ns) here ∙ rest

-- the first of names that are apart is none of the others
pub first_alone : (n : List ℕ) (ns : List (List ℕ)) → Apart (n ∷ ns) → list_any (bytes_eq n) ns ≡ false
first_alone n ns apart = none_is n ns (λ k d lt. apart 0 (suc k) d (omega arith) (omega (arith, lt)))

pub apart-tail : (n : List ℕ) (ns : List (List ℕ)) → Apart (n ∷ ns) → Apart ns
apart-tail n ns h i j d lt inside = h (suc i) (suc j) d (omega (arith, lt)) (omega (arith, inside))

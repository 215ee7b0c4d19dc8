-- Lists that grow by what is new, and why the queue gives the levels one after another.
use Rattle.std.proofs.Common.{◌≡◌, ℕ, zero, suc, ◌+◌, ◌-◌, ◌<◌, ◌≤◌, true, false, not, cond, List, [], ◌∷◌, ◌++◌, length, get_or, take, drop, inl, inr, refl, sym, ap, ◌∙◌, arith, add-one, drop-cons, append_assoc, length-append, length-drop}
use Rattle.std.specs.Prelude.{◌==◌, nat_lt, nat_eq, slice_index, slice_index_or, flat_map, All}
use Rattle.std.specs.List.{list_any, IsDistinct, AllByRecursion}
use Rattle.std.proofs.lemmas.Bool.{eq-eqb, eqb-true, ne_eqb, lt-ltb, le-ltb, ltb-true, and_parts, and_from, or_cases, or_parts, both_ways, cases_Bool, cases_lt, true≢false, not-true, false_from_ne_true}
use Rattle.std.proofs.lemmas.List.{append-nil, take_all, drop_all, take-append-le, drop-append-le, take-append-drop}
use Rattle.std.proofs.lemmas.List.Sums.{list_all-from_AllPass}
use Rattle.std.proofs.lemmas.List.Elements.{All-get_or}
use Rattle.std.proofs.lemmas.Map.Steps.{length-le_from_distinct_below}
use Rattle.cap_chain.specs.Adopted.{has, is_distinct}
use Rattle.cap_chain.proofs.SoundLemmas.{all_below, distinct-append}
use Rattle.cap_scope.specs.Tree.{fresh, next_level, levels_from}
use Rattle.cap_scope.specs.Queue.{grown, queue}

grown-nil : (seen : List ℕ) → grown seen [] ≡ seen
grown-nil seen = append-nil seen

pub grown-old : (seen : List ℕ) (n : ℕ) (ns : List ℕ) → has n seen ≡ true → grown seen (n ∷ ns) ≡ grown seen ns
grown-old seen n ns h = ap (λ b. seen ++ cond b (fresh seen ns) (n ∷ fresh (seen ++ n ∷ []) ns)) h

pub grown-new : (seen : List ℕ) (n : ℕ) (ns : List ℕ) → has n seen ≡ false → grown seen (n ∷ ns) ≡ grown (seen ++ n ∷ []) ns
grown-new seen n ns h =
    ap (λ b. seen ++ cond b (fresh seen ns) (n ∷ fresh (seen ++ n ∷ []) ns)) h
    ∙ sym (append_assoc seen (n ∷ []) (fresh (seen ++ n ∷ []) ns))

pub grown-append : (ms ns seen : List ℕ) → grown seen (ms ++ ns) ≡ grown (grown seen ms) ns
grown-append [] ns seen = ap (λ s. grown s ns) (sym (grown-nil seen))
grown-append (m ∷ ms) ns seen =
    elim (cases_Bool (has m seen)) [
      | inl old ↦ grown-old seen m (ms ++ ns) old ∙ grown-append ms ns seen ∙ ap (λ s. grown s ns) (sym (grown-old seen m ms old))
      | inr new ↦ grown-new seen m (ms ++ ns) new ∙ grown-append ms ns (seen ++ m ∷ []) ∙ ap (λ s. grown s ns) (sym (grown-new seen m ms new))
    ]

pub grown-one : (seen : List ℕ) (n : ℕ) (ns : List ℕ) → grown (grown seen (n ∷ [])) ns ≡ grown seen (n ∷ ns)
grown-one seen n ns = sym (grown-append (n ∷ []) ns seen)

all_join : (n : ℕ) (xs ys : List ℕ) → all_below n xs ≡ true → all_below n ys ≡ true → all_below n (xs ++ ys) ≡ true
all_join n [] ys a b = b
all_join n (x ∷ xs) ys a b = let parts = and_parts (nat_lt x n) (all_below n xs) a in and_from _ _ parts.0 (all_join n xs ys parts.1 b)

pub grown-below : (n : ℕ) (ns seen : List ℕ) → all_below n seen ≡ true → all_below n ns ≡ true → all_below n (grown seen ns) ≡ true
grown-below n [] seen a b = ap (all_below n) (grown-nil seen) ∙ a
grown-below n (m ∷ ns) seen a b =
    let parts = and_parts (nat_lt m n) (all_below n ns) b in
    elim (cases_Bool (has m seen)) [
      | inl old ↦ ap (all_below n) (grown-old seen m ns old) ∙ grown-below n ns seen a parts.1
      | inr new ↦ ap (all_below n) (grown-new seen m ns new) ∙ grown-below n ns (seen ++ m ∷ []) (all_join n seen (m ∷ []) a (and_from _ _ parts.0 refl)) parts.1
    ]

grown-distinct : (ns seen : List ℕ) → is_distinct seen ≡ true → is_distinct (grown seen ns) ≡ true
grown-distinct [] seen d = ap is_distinct (grown-nil seen) ∙ d
grown-distinct (m ∷ ns) seen d =
    elim (cases_Bool (has m seen)) [
      | inl old ↦ ap is_distinct (grown-old seen m ns old) ∙ grown-distinct ns seen d
      | inr new ↦
          let more : is_distinct (seen ++ m ∷ []) ≡ true = distinct-append seen (m ∷ []) d refl (λ j h. false_from_ne_true _ (λ g. elim (or_cases (m == j) false g) [
            | inl same ↦ both_ways (has m seen) new (ap (λ k. has k seen) (eqb-true m j same) ∙ h)
            | inr never ↦ true≢false (sym never)
          ])) in
          ap is_distinct (grown-new seen m ns new) ∙ grown-distinct ns (seen ++ m ∷ []) more
    ]

-- distinct numbers below n are at most n
apart_from : (x : ℕ) (xs : List ℕ) → has x xs ≡ false → AllByRecursion (λ y. nat_eq x y ≡ false) xs
apart_from x [] h = tt
apart_from x (y ∷ ys) h =
    let parts = or_parts (y == x) (has x ys) h in
    (ne_eqb x y (λ same. both_ways (y == x) parts.0 (eq-eqb y x (sym same))), apart_from x ys parts.1)

distinct-is : (xs : List ℕ) → is_distinct xs ≡ true → IsDistinct nat_eq xs
unfolding IsDistinct
distinct-is [] d = tt
distinct-is (x ∷ xs) d = let parts = and_parts (not (has x xs)) (is_distinct xs) d in (apart_from x xs (not-true _ parts.0), distinct-is xs parts.1)

member-below : (n : ℕ) (xs : List ℕ) → all_below n xs ≡ true → (q : ℕ) → list_any (nat_eq q) xs ≡ true → q < n
member-below n [] a q h = absurd (true≢false (sym h))
member-below n (x ∷ xs) a q h =
    let parts = and_parts (nat_lt x n) (all_below n xs) a in
    elim (or_cases (nat_eq q x) (list_any (nat_eq q) xs) h) [
      | inl same ↦ let e : q ≡ x = eqb-true q x same in let lt : x < n = ltb-true x n parts.0 in omega (arith, e, lt)
      | inr later ↦ member-below n xs parts.1 q later
    ]

few : (n : ℕ) (xs : List ℕ) → is_distinct xs ≡ true → all_below n xs ≡ true → length xs ≤ n
few n xs d a = length-le_from_distinct_below xs n (distinct-is xs d) (member-below n xs a)

module _ (deps : List (List ℕ)) where
  abbrev of : ℕ → List ℕ
  of i = slice_index_or deps i []

  pub queue_end : (m : ℕ) (order : List ℕ) (k : ℕ) → length order ≤ k → queue deps m order k ≡ order
  queue_end zero order k past = refl
  queue_end (suc m) order k past = ap (λ b. cond b (queue deps m (grown order (of (slice_index order k))) (k + 1)) order) (le-ltb k (length order) past)

  pub queue_more : (n m : ℕ) (order : List ℕ) (k : ℕ) → n ≡ suc m → k < length order → queue deps n order k ≡ queue deps m (grown order (of (slice_index order k))) (k + 1)
  queue_more n m order k one lt =
      ap (λ i. queue deps i order k) one ∙ ap (λ b. cond b (queue deps m (grown order (of (slice_index order k))) (k + 1)) order) (lt-ltb k (length order) lt)

  -- a level is gone through
  queue_level : (l f : ℕ) (order : List ℕ) (k : ℕ) → k + l ≤ length order → queue deps (l + f) order k ≡ queue deps f (grown order (flat_map of (take l (drop k order)))) (k + l)
  queue_level zero f order k le =
      let a : 0 + f ≡ f = omega arith in
      let b : k ≡ k + 0 = omega arith in
      ap (λ i. queue deps i order k) a ∙ ap (queue deps f order) b ∙ ap (λ o. queue deps f o (k + 0)) (sym (grown-nil order))
  queue_level (suc l) f order k le =
      let i : ℕ = get_or order k 0 in
      let order2 : List ℕ = grown order (of i) in
      let rest : List ℕ = take l (drop (k + 1) order) in
      let kept : take l (drop (k + 1) order2) ≡ rest =
      ap (take l) (drop-append-le (k + 1) order (fresh order (of i)) (omega (arith, le))) ∙ take-append-le l (drop (k + 1) order) (fresh order (of i)) (omega (arith, le, length-drop (k + 1) order)) in
      let long : k + 1 + l ≤ length order2 = omega (arith, le, length-append order (fresh order (of i))) in
      let here : drop k order ≡ i ∷ drop (k + 1) order = (let lt : k < length order = omega (arith, le) in rw (add-one, drop-cons order k 0)) in
      let place : k + 1 + l ≡ k + suc l = omega arith in
      queue_more (suc l + f) (l + f) order k (omega arith) (omega (arith, le))
      ∙ queue_level l f order2 (k + 1) long
      ∙ ap (λ r. queue deps f (grown order2 (flat_map of r)) (k + 1 + l)) kept
      ∙ ap (queue deps f (grown order2 (flat_map of rest))) place
      ∙ ap (λ o. queue deps f o (k + suc l)) (sym (grown-append (of i) (flat_map of rest) order))
      ∙ sym (ap (λ d. queue deps f (grown order (flat_map of (take (suc l) d))) (k + suc l)) here)

  levels_empty : (m : ℕ) (seen : List ℕ) → levels_from m deps seen [] ≡ []
  levels_empty zero seen = refl
  levels_empty (suc m) seen = levels_empty m (seen ++ [])

  module _ (inside : (i : ℕ) → i < length deps → all_below (length deps) (of i) ≡ true) where
    flat-below : (level : List ℕ) → all_below (length deps) level ≡ true → all_below (length deps) (flat_map of level) ≡ true
    flat-below [] a = refl
    flat-below (i ∷ level) a =
        let parts = and_parts (nat_lt i (length deps)) (all_below (length deps) level) a in
        all_join (length deps) (of i) (flat_map of level) (inside i (ltb-true i (length deps) parts.0)) (flat-below level parts.1)

    drop-below : (k : ℕ) (xs : List ℕ) → all_below (length deps) xs ≡ true → all_below (length deps) (drop k xs) ≡ true
    drop-below zero xs a = a
    drop-below (suc k) [] a = refl
    drop-below (suc k) (x ∷ xs) a = drop-below k xs (and_parts (nat_lt x (length deps)) (all_below (length deps) xs) a).1

    queue_levels : (m f k : ℕ) (order : List ℕ) → k ≤ length order → is_distinct order ≡ true → all_below (length deps) order ≡ true → length deps ≤ m + k → length deps ≤ f + k → queue deps f order k ≡ take k order ++ levels_from m deps order (drop k order)
    queue_levels zero f k order le d a fm ff =
        queue_end f order k (omega (arith, few (length deps) order d a, fm)) ∙ sym (take-append-drop k order)
    queue_levels (suc m) f k order le d a fm ff =
        let level : List ℕ = drop k order in
        let small : length order ≤ length deps = few (length deps) order d a in
        elim (cases_lt k (length order)) [
          | inl more ↦
              let l : ℕ = length order - k in
              let next : List ℕ = next_level deps order level in
              let order2 : List ℕ = order ++ next in
              let count : f ≡ l + (f - l) = omega (arith, le, ff, small) in
              let place : k + l ≡ length order = omega (arith, le) in
              let whole : take l level ≡ level = take_all l level (omega (arith, length-drop k order)) in
              let below2 : all_below (length deps) order2 ≡ true = grown-below (length deps) (flat_map of level) order a (flat-below level (drop-below k order a)) in
              let front : take (length order) order2 ≡ order = take-append-le (length order) order next (omega arith) ∙ take_all (length order) order (omega arith) in
              let back : drop (length order) order2 ≡ next = drop-append-le (length order) order next (omega arith) ∙ ap (λ l. l ++ next) (drop_all (length order) order (omega arith)) in
              let rest = queue_levels m (f - l) (length order) order2 (omega (arith, length-append order next)) (grown-distinct (flat_map of level) order d) below2 (omega (arith, fm, more)) (omega (arith, ff, count, place)) in
              ap (λ i. queue deps i order k) count
              ∙ queue_level l (f - l) order k (omega (arith, place))
              ∙ ap (λ r. queue deps (f - l) (grown order (flat_map of r)) (k + l)) whole
              ∙ ap (queue deps (f - l) order2) place
              ∙ rest
              ∙ ap (λ t. t ++ levels_from m deps order2 (drop (length order) order2)) (front ∙ sym (take-append-drop k order))
              ∙ ap (λ t. (take k order ++ level) ++ levels_from m deps order2 t) back
              ∙ append_assoc (take k order) level (levels_from m deps order2 next)
          | inr past ↦
              let none : drop k order ≡ [] = drop_all k order past in
              queue_end f order k past
              ∙ sym (append-nil order)
              ∙ ap (λ o. o ++ []) (sym (take_all k order past))
              ∙ ap (λ t. take k order ++ t) (sym (levels_empty (suc m) order))
              ∙ ap (λ t. take k order ++ levels_from (suc m) deps order t) (sym none)
        ]

    pub queue_is_tree : (root : ℕ) → root < length deps → queue deps (length deps) (root ∷ []) 0 ≡ levels_from (length deps) deps (root ∷ []) (root ∷ [])
    queue_is_tree root lt = queue_levels (length deps) (length deps) 0 (root ∷ []) (omega arith) refl (and_from _ _ (lt-ltb root (length deps) lt) refl) (omega arith) (omega arith)

pub inside_of : (n : ℕ) (deps : List (List ℕ)) → All (λ of. All (λ i. i < n) of) deps → (i : ℕ) → i < length deps → all_below n (slice_index_or deps i []) ≡ true
inside_of n deps all i lt =
    list_all-from_AllPass (λ w. nat_lt w n) (slice_index_or deps i []) (λ k d inside. lt-ltb _ _ (All-get_or (λ j. j < n) (slice_index_or deps i []) k d inside (All-get_or (λ of. All (λ j. j < n) of) deps i [] lt all)))

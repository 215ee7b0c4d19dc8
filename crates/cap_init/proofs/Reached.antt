-- Laws of the order of a group, over its dependencies alone.
use Rattle.std.proofs.Common.{◌≡◌, ◌⊎◌, inl, inr, ℕ, zero, suc, ◌-◌, ◌<◌, ◌≤◌, true, false, not, ◌||◌, cond, List, [], ◌∷◌, ◌++◌, All, AllPairs, length, get_or, refl, sym, ap, ◌∙◌, arith, subst}
use Rattle.std.specs.Prelude.{◌==◌, ◌≢◌, fold}
use Rattle.std.proofs.lemmas.Bool.{and_from, cases_Bool, eqb-true, eq-eqb, le-leb, lt-ltb, not_from_true, or_cases, or_left, or_parts, or_right, both_ways, false_from_ne_true}
use Rattle.std.proofs.lemmas.List.FromFn.{length-range_with_len}
use Rattle.std.proofs.lemmas.List.Quantifiers.{all_pairs_push}
use Rattle.cap_chain.specs.Adopted.{has}
use Rattle.cap_chain.proofs.SoundLemmas.{has-append}
use Rattle.cap_init.specs.Laws.{IsRoute, Reaches, before}
use Rattle.cap_init.specs.Post.{is_member, is_passed, needs, post_of, visited}
use Rattle.cap_init.proofs.Depth.{begun_passed, has-member, member_parts, members, new_parts, others, others-le, others-less, split}

has-left : (k : ℕ) (xs ys : List ℕ) → has k xs ≡ true → has k (xs ++ ys) ≡ true
has-left k xs ys h = has-append k xs ys ∙ or_left (has k xs) (has k ys) h

has-last : (k : ℕ) (xs : List ℕ) → has k (xs ++ k ∷ []) ≡ true
has-last k xs = has-append k xs (k ∷ []) ∙ or_right (has k xs) (has k (k ∷ [])) (or_left (k == k) false (eq-eqb k k refl))

has-push : (k i : ℕ) (xs : List ℕ) → has k (xs ++ i ∷ []) ≡ true → (has k xs ≡ true) ⊎ (i ≡ k)
has-push k i xs h = elim (or_cases (has k xs) (has k (i ∷ [])) (sym (has-append k xs (i ∷ [])) ∙ h)) [
  | inl old ↦ inl old
  | inr last ↦ elim (or_cases (i == k) false last) [
    | inl same ↦ inr (eqb-true i k same)
    | inr never ↦ absurd (both_ways false refl never)
  ]
]

has-at : (xs : List ℕ) (k d : ℕ) → k < length xs → has (get_or xs k d) xs ≡ true
has-at [] k d lt = absurd (omega arith)
has-at (x ∷ xs) zero d lt = or_left (x == x) (has x xs) (eq-eqb x x refl)
has-at (x ∷ xs) (suc k) d lt = or_right (x == get_or xs k d) (has (get_or xs k d) xs) (has-at xs k d (omega arith))

before-append : (k : ℕ) (xs ys : List ℕ) → has k xs ≡ true → before k (xs ++ ys) ≡ before k xs
before-append k [] ys h = absurd (both_ways false refl h)
before-append k (x ∷ xs) ys h = elim (cases_Bool (x == k)) [
  | inl here ↦ ap (λ b. cond b [] (x ∷ before k (xs ++ ys))) here ∙ sym (ap (λ b. cond b [] (x ∷ before k xs)) here)
  | inr there ↦
      let later : has k xs ≡ true = sym (ap (λ b. b || has k xs) there) ∙ h in
      ap (λ b. cond b [] (x ∷ before k (xs ++ ys))) there ∙ ap (λ zs. x ∷ zs) (before-append k xs ys later) ∙ sym (ap (λ b. cond b [] (x ∷ before k xs)) there)
]

before-last : (k : ℕ) (xs : List ℕ) → has k xs ≡ false → before k (xs ++ k ∷ []) ≡ xs
before-last k [] h = ap (λ b. cond b [] (k ∷ [])) (eq-eqb k k refl)
before-last k (x ∷ xs) h =
    let p = or_parts (x == k) (has k xs) h in
    ap (λ b. cond b [] (x ∷ before k (xs ++ k ∷ []))) p.0 ∙ ap (λ zs. x ∷ zs) (before-last k xs p.1)

once-push : (i : ℕ) (xs : List ℕ) → AllPairs (λ a b. a ≢ b) xs → has i xs ≡ false → AllPairs (λ a b. a ≢ b) (xs ++ i ∷ [])
once-push i xs once new = all_pairs_push (λ a b. a ≢ b) xs i once (λ k d lt e. both_ways (has i xs) new (ap (λ j. has j xs) (sym e) ∙ has-at xs k d lt))

module _ (deps : List (List ℕ)) (from to : ℕ) where
  abbrev IsNeeded : ℕ → ℕ → Type 0
  IsNeeded i j = (has j (needs deps i) ≡ true) × (is_member from to j ≡ true)

  route-more : (i j k : ℕ) (route : List ℕ) → IsRoute deps from to i route j → IsNeeded j k → Reaches deps from to i k
  route-more i j k [] is needed = (k ∷ [], (ap (λ n. has k (needs deps n)) is ∙ needed.0, needed.1, refl))
  route-more i j k (r ∷ route) is needed = let rest = route-more r j k route is.2 needed in (r ∷ rest.0, (is.0, is.1, rest.1))

  -- the objects of a path lead to an object, if it is of the group
  abbrev Leads : List ℕ → ℕ → Type 0
  Leads path i = (p : ℕ) → has p path ≡ true → is_member from to i ≡ true → Reaches deps from to p i

  -- what holds of the ended objects, with those of a path begun: each stands once; what each needs of its group was
  -- begun, and stands before it or needs it in turn
  record Good (path ended : List ℕ) : Type 0 where
    once : AllPairs (λ a b. a ≢ b) ended
    closed : (k j : ℕ) → has k ended ≡ true → IsNeeded k j → (has j ended ≡ true) ⊎ (has j path ≡ true)
    settled : (k j : ℕ) → has k ended ≡ true → IsNeeded k j → (has j (before k ended) ≡ true) ⊎ Reaches deps from to j k

  -- what visiting an object changes
  record Visits (path ended : List ℕ) (i : ℕ) (after : List ℕ) : Type 0 where
    old : (k : ℕ) → has k ended ≡ true → has k after ≡ true
    new : (k : ℕ) → has k after ≡ true → (has k ended ≡ true) ⊎ ((has k path ≡ false) × (is_member from to i ≡ true) × Reaches deps from to i k)
    was : is_member from to i ≡ true → (has i after ≡ true) ⊎ (has i path ≡ true)
    good : Good path after

  -- what visiting some of what an object needs changes
  record VisitsAll (path ended : List ℕ) (i : ℕ) (js after : List ℕ) : Type 0 where
    old : (k : ℕ) → has k ended ≡ true → has k after ≡ true
    new : (k : ℕ) → has k after ≡ true → (has k ended ≡ true) ⊎ ((has k (i ∷ path) ≡ false) × Reaches deps from to i k)
    were : (j : ℕ) → has j js ≡ true → is_member from to j ≡ true → (has j after ≡ true) ⊎ (has j (i ∷ path) ≡ true)
    good : Good (i ∷ path) after

  passed-over : (path ended : List ℕ) (i : ℕ) → is_passed from to path ended i ≡ true → Good path ended → Visits path ended i ended
  passed-over path ended i p good = record {
    old = λ k h. h;
    new = λ k h. inl h;
    was = λ m. elim (or_cases (not (is_member from to i) || has i path) (has i ended) p) [
      | inr h ↦ inl h
      | inl h ↦ elim (or_cases (not (is_member from to i)) (has i path) h) [
        | inr on ↦ inr on
        | inl out ↦ absurd (both_ways (not (is_member from to i)) (not_from_true _ m) out)
      ]
    ];
    good = good;
  }

  wider : (path ended : List ℕ) (i : ℕ) → Good path ended → Good (i ∷ path) ended
  wider path ended i good = record {
    once = good.once;
    closed = λ k j h needed. elim (good.closed k j h needed) [
      | inl e ↦ inl e
      | inr p ↦ inr (or_right (i == j) (has j path) p)
    ];
    settled = good.settled;
  }

  -- an object that was begun is ended
  ended-good : (path ended : List ℕ) (i : ℕ) (after : List ℕ) → is_passed from to path ended i ≡ false → Leads path i → VisitsAll path ended i (needs deps i) after → Visits path ended i (after ++ i ∷ [])
  ended-good path ended i after p leads all =
      let fresh = new_parts from to path ended i p in
      let unended : has i after ≡ false = false_from_ne_true (has i after) (λ h. elim (all.new i h) [
        | inl e ↦ both_ways (has i ended) fresh.2 e
        | inr n ↦ both_ways (has i (i ∷ path)) n.0 (or_left (i == i) (has i path) (eq-eqb i i refl))
      ]) in
      let begun : (j : ℕ) → (has j after ≡ true) ⊎ (has j (i ∷ path) ≡ true) → (has j (after ++ i ∷ []) ≡ true) ⊎ (has j path ≡ true) = λ j h. elim h [
        | inl e ↦ inl (has-left j after (i ∷ []) e)
        | inr on ↦ elim (or_cases (i == j) (has j path) on) [
          | inl same ↦ inl (ap (λ n. has n (after ++ i ∷ [])) (sym (eqb-true i j same)) ∙ has-last i after)
          | inr p ↦ inr p
        ]
      ] in
      let needed_by : (j : ℕ) → IsNeeded i j → (has j after ≡ true) ⊎ (has j (i ∷ path) ≡ true) = λ j needed. all.were j needed.0 needed.1 in
      record {
        old = λ k h. has-left k after (i ∷ []) (all.old k h);
        new = λ k h. elim (has-push k i after h) [
          | inl a ↦ elim (all.new k a) [
            | inl e ↦ inl e
            | inr n ↦ inr ((or_parts (i == k) (has k path) n.0).1, fresh.0, n.1)
          ]
          | inr same ↦ inr (ap (λ n. has n path) (sym same) ∙ fresh.1, fresh.0, ([], same))
        ];
        was = λ m. inl (has-last i after);
        good = record {
          once = once-push i after all.good.once unended;
          closed = λ k j h needed. elim (has-push k i after h) [
            | inl a ↦ begun j (all.good.closed k j a needed)
            | inr same ↦ begun j (needed_by j (subst (λ (n : ℕ). IsNeeded n j) (sym same) needed))
          ];
          settled = λ k j h needed. elim (has-push k i after h) [
            | inl a ↦ elim (all.good.settled k j a needed) [
              | inl b ↦ inl (ap (has j) (before-append k after (i ∷ []) a) ∙ b)
              | inr r ↦ inr r
            ]
            | inr same ↦ subst (λ (n : ℕ). (has j (before n (after ++ i ∷ [])) ≡ true) ⊎ Reaches deps from to j n) same (elim (needed_by j (subst (λ (n : ℕ). IsNeeded n j) (sym same) needed)) [
              | inl e ↦ inl (ap (has j) (before-last i after unended) ∙ e)
              | inr on ↦ elim (or_cases (i == j) (has j path) on) [
                | inl own ↦ inr ([], sym (eqb-true i j own))
                | inr p ↦ inr (leads j p fresh.0)
              ]
            ])
          ];
        };
      }

  -- visits in turn
  visits-all : (path : List ℕ) (i : ℕ) (f : List ℕ → ℕ → List ℕ) → ((ended : List ℕ) (j : ℕ) → has j (needs deps i) ≡ true → Good (i ∷ path) ended → Visits (i ∷ path) ended j (f ended j))
      → (js : List ℕ) → ((j : ℕ) → has j js ≡ true → has j (needs deps i) ≡ true) → (ended : List ℕ) → Good (i ∷ path) ended → VisitsAll path ended i js (fold f ended js)
  visits-all path i f each [] inside ended good = record {
    old = λ k h. h;
    new = λ k h. inl h;
    were = λ j h m. absurd (both_ways false refl h);
    good = good;
  }
  visits-all path i f each (j ∷ js) inside ended good =
      let needed : has j (needs deps i) ≡ true = inside j (or_left (j == j) (has j js) (eq-eqb j j refl)) in
      let one = each ended j needed good in
      let rest = visits-all path i f each js (λ n h. inside n (or_right (j == n) (has n js) h)) (f ended j) one.good in
      record {
        old = λ k h. rest.old k (one.old k h);
        new = λ k h. elim (rest.new k h) [
          | inr n ↦ inr n
          | inl a ↦ elim (one.new k a) [
            | inl e ↦ inl e
            | inr n ↦ inr (n.0, (j ∷ n.2.0, (needed, n.1, n.2.1)))
          ]
        ];
        were = λ n h m. elim (or_cases (j == n) (has n js) h) [
          | inr later ↦ rest.were n later m
          | inl same ↦
              let e : j ≡ n = eqb-true j n same in
              elim (one.was (ap (is_member from to) e ∙ m)) [
                | inl a ↦ inl (rest.old n (ap (λ x. has x (f ended j)) (sym e) ∙ a))
                | inr p ↦ inr (ap (λ x. has x (i ∷ path)) (sym e) ∙ p)
              ]
        ];
        good = rest.good;
      }

  visits : (n : ℕ) (path ended : List ℕ) (i : ℕ) → others path (members deps from to) ≤ n → Leads path i → Good path ended → Visits path ended i (visited n deps from to path ended i)
  visits zero path ended i few leads good = passed-over path ended i (begun_passed deps from to path ended i few) good
  visits (suc n) path ended i few leads good = elim (cases_Bool (is_passed from to path ended i)) [
    | inl p ↦ subst (λ (after : List ℕ). Visits path ended i after) (sym (ap (split deps from to n path ended i) p)) (passed-over path ended i p good)
    | inr p ↦
        let fresh = new_parts from to path ended i p in
        let less : others (i ∷ path) (members deps from to) < others path (members deps from to) = others-less i path (members deps from to) (has-member deps from to i fresh.0) fresh.1 in
        let leads_on : (j : ℕ) → has j (needs deps i) ≡ true → Leads (i ∷ path) j = λ j h q on m. elim (or_cases (i == q) (has q path) on) [
          | inl own ↦ subst (λ (n : ℕ). Reaches deps from to n j) (eqb-true i q own) (route-more i i j [] refl (h, m))
          | inr up ↦ let r = leads q up fresh.0 in route-more q i j r.0 r.1 (h, m)
        ] in
        let each : (e : List ℕ) (j : ℕ) → has j (needs deps i) ≡ true → Good (i ∷ path) e → Visits (i ∷ path) e j (visited n deps from to (i ∷ path) e j) =
        λ e j h g. visits n (i ∷ path) e j (omega (arith, less, few)) (leads_on j h) g in
        let all = visits-all path i (λ e j. visited n deps from to (i ∷ path) e j) each (needs deps i) (λ j h. h) ended (wider path ended i good) in
        subst (λ (after : List ℕ). Visits path ended i after) (sym (ap (split deps from to n path ended i) p)) (ended-good path ended i _ p leads all)
  ]

  nothing : Good [] []
  nothing = record {
    once = λ i j d lt in_it same. absurd (omega (arith, in_it));
    closed = λ k j h needed. absurd (both_ways false refl h);
    settled = λ k j h needed. absurd (both_ways false refl h);
  }

  post-visits : Visits [] [] from (post_of deps from to)
  post-visits = visits (to - from) [] [] from (omega (arith, others-le [] (members deps from to), length-range_with_len from (to - from))) (λ p h m. absurd (both_ways false refl h)) nothing

  pub stands_once : AllPairs (λ a b. a ≢ b) (post_of deps from to)
  stands_once = post-visits.good.once

  pub stands_before : (i j : ℕ) → has i (post_of deps from to) ≡ true → has j (needs deps i) ≡ true → is_member from to j ≡ true → (has j (before i (post_of deps from to)) ≡ true) ⊎ Reaches deps from to j i
  stands_before i j h needed m = post-visits.good.settled i j h (needed, m)

  along : (i k : ℕ) (route : List ℕ) → IsRoute deps from to i route k → has i (post_of deps from to) ≡ true → has k (post_of deps from to) ≡ true
  along i k [] is h = ap (λ n. has n (post_of deps from to)) (sym is) ∙ h
  along i k (j ∷ route) is h = along j k route is.2 (elim (post-visits.good.closed i j h (is.0, is.1)) [
    | inl e ↦ e
    | inr never ↦ absurd (both_ways false refl never)
  ])

  pub is_reached : (i : ℕ) → has i (post_of deps from to) ≡ true → Reaches deps from to from i
  is_reached i h = elim (post-visits.new i h) [
    | inl never ↦ absurd (both_ways false refl never)
    | inr n ↦ n.2
  ]

  pub stands : (i : ℕ) → from < to → Reaches deps from to from i → has i (post_of deps from to) ≡ true
  stands i some r =
      let in_group : is_member from to from ≡ true = and_from _ _ (le-leb from from (omega arith)) (lt-ltb from to some) in
      along from i r.0 r.1 (elim (post-visits.was in_group) [
        | inl e ↦ e
        | inr never ↦ absurd (both_ways false refl never)
      ])

  route-inside : (i k : ℕ) (route : List ℕ) → is_member from to i ≡ true → IsRoute deps from to i route k → is_member from to k ≡ true
  route-inside i k [] m is = ap (is_member from to) (sym is) ∙ m
  route-inside i k (j ∷ route) m is = route-inside j k route is.1 is.2

  pub post_inside : (n : ℕ) → from < to → to ≤ n → All (λ i. i < n) (post_of deps from to)
  post_inside n some le k d lt =
      let in_group : is_member from to from ≡ true = and_from _ _ (le-leb from from (omega arith)) (lt-ltb from to some) in
      let r = is_reached (get_or (post_of deps from to) k d) (has-at (post_of deps from to) k d lt) in
      omega (arith, (member_parts from to (get_or (post_of deps from to) k d) (route-inside from (get_or (post_of deps from to) k d) r.0 in_group r.1)).1, le)

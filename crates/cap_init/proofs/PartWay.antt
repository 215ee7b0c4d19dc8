-- What a step of a walk changes, and that fewer are left after it.
use Rattle.std.proofs.Common.{◌≡◌, inl, inr, ℕ, zero, suc, ◌+◌, ◌-◌, ◌<◌, ◌≤◌, Bool, true, false, not, ◌||◌, cond, Some, List, [], ◌∷◌, ◌++◌, length, get_or, set, drop, replicate, All, refl, sym, ap, ◌∙◌, arith, length-set, get_or-set_same, get_or-set_other}
use Rattle.std.specs.Prelude.{◌==◌, fold, slice_index_or}
use Rattle.std.proofs.lemmas.Bool.{and_from, cases_Bool, cases_eq, eq-eqb, ne_eqb, le-leb, lt-ltb, or_left, or_from, or_parts, not-false, not_from_true, not_from_false}
use Rattle.std.proofs.lemmas.List.{drop_all, drop_more, get_or-replicate, length-replicate}
use Rattle.std.proofs.lemmas.List.Elements.{All-nil, All-cons, All-pop, All-push}
use Rattle.cap_chain.specs.Adopted.{has}
use Rattle.cap_chain.proofs.SoundLemmas.{has-append}
use Rattle.cap_init.specs.declared.walk.Frame.{Frame}
use Rattle.cap_init.specs.Post.{is_member, is_passed, needs, post_of, visited}
use Rattle.cap_init.specs.Walking.{climbed, visit, left_of, finished, IsWalk, is_begun, unbegun_steps, path_steps, steps_left}
use Rattle.cap_init.proofs.Depth.{member_parts, new_parts, visit_passed, visit_new}

climbed-push : (path : List ℕ) (fs : List Frame) (f : Frame) → climbed path (fs ++ f ∷ []) ≡ f.object ∷ climbed path fs
climbed-push path [] f = refl
climbed-push path (g ∷ fs) f = climbed-push (g.object ∷ path) fs f

abbrev next_frame : Frame → Frame
next_frame f = record { object = f.object; next = f.next + 1 }

abbrev first_frame : ℕ → Frame
first_frame i = record { object = i; next = 0 }

module _ (deps : List (List ℕ)) (from to : ℕ) where
  finished-append : (path : List ℕ) (fs gs : List Frame) (ended : List ℕ) → finished deps from to path (fs ++ gs) ended ≡ finished deps from to path fs (finished deps from to (climbed path fs) gs ended)
  unfolding finished
  finished-append path [] gs ended = refl
  finished-append path (f ∷ fs) gs ended = ap (left_of deps from to path f) (finished-append (f.object ∷ path) fs gs ended)

  finished-push : (fs : List Frame) (f : Frame) (ended : List ℕ) → finished deps from to [] (fs ++ f ∷ []) ended ≡ finished deps from to [] fs (left_of deps from to (climbed [] fs) f ended)
  unfolding finished
  finished-push fs f ended = finished-append [] fs (f ∷ []) ended

  -- an object is ended
  finished-end : (fs : List Frame) (f : Frame) (ended : List ℕ) → length (needs deps f.object) ≤ f.next → finished deps from to [] (fs ++ f ∷ []) ended ≡ finished deps from to [] fs (ended ++ f.object ∷ [])
  unfolding left_of
  finished-end fs f ended past =
      finished-push fs f ended
      ∙ ap (λ js. finished deps from to [] fs (fold (λ e j. visit deps from to (f.object ∷ climbed [] fs) e j) ended js ++ f.object ∷ [])) (drop_all f.next (needs deps f.object) past)

  left-more : (path : List ℕ) (f : Frame) (ended : List ℕ) (i : ℕ) → f.next < length (needs deps f.object) → i ≡ get_or (needs deps f.object) f.next 0 → left_of deps from to path f ended ≡ left_of deps from to path (next_frame f) (visit deps from to (f.object ∷ path) ended i)
  unfolding left_of
  left-more path f ended i lt e =
      let front : drop f.next (needs deps f.object) ≡ i ∷ drop (f.next + 1) (needs deps f.object) = drop_more (needs deps f.object) f.next 0 lt ∙ ap (λ j. j ∷ drop (f.next + 1) (needs deps f.object)) (sym e) in
      ap (λ js. fold (λ e j. visit deps from to (f.object ∷ path) e j) ended js ++ f.object ∷ []) front

  -- an object that is passed over
  finished-passed : (fs : List Frame) (f : Frame) (ended : List ℕ) (i : ℕ) → f.next < length (needs deps f.object) → i ≡ get_or (needs deps f.object) f.next 0 → is_passed from to (f.object ∷ climbed [] fs) ended i ≡ true
      → finished deps from to [] (fs ++ f ∷ []) ended ≡ finished deps from to [] (fs ++ next_frame f ∷ []) ended
  finished-passed fs f ended i lt e p =
      finished-push fs f ended
      ∙ ap (finished deps from to [] fs) (left-more (climbed [] fs) f ended i lt e ∙ ap (left_of deps from to (climbed [] fs) (next_frame f)) (visit_passed deps from to (f.object ∷ climbed [] fs) ended i p))
      ∙ sym (finished-push fs (next_frame f) ended)

  left-first : (path : List ℕ) (i : ℕ) (ended : List ℕ) → is_passed from to path ended i ≡ false → left_of deps from to path (first_frame i) ended ≡ visit deps from to path ended i
  unfolding left_of
  left-first path i ended p = sym (visit_new deps from to path ended i p)

  -- an object that is begun
  finished-begun : (fs : List Frame) (f : Frame) (ended : List ℕ) (i : ℕ) → f.next < length (needs deps f.object) → i ≡ get_or (needs deps f.object) f.next 0 → is_passed from to (f.object ∷ climbed [] fs) ended i ≡ false
      → finished deps from to [] (fs ++ f ∷ []) ended ≡ finished deps from to [] ((fs ++ next_frame f ∷ []) ++ first_frame i ∷ []) ended
  finished-begun fs f ended i lt e p =
      finished-push fs f ended
      ∙ ap (finished deps from to [] fs) (left-more (climbed [] fs) f ended i lt e ∙ ap (left_of deps from to (climbed [] fs) (next_frame f)) (sym (left-first (f.object ∷ climbed [] fs) i ended p)))
      ∙ sym (finished-push fs (next_frame f) (left_of deps from to (f.object ∷ climbed [] fs) (first_frame i) ended))
      ∙ ap (λ p. finished deps from to [] (fs ++ next_frame f ∷ []) (left_of deps from to p (first_frame i) ended)) (sym (climbed-push [] fs (next_frame f)))
      ∙ sym (finished-push (fs ++ next_frame f ∷ []) (first_frame i) ended)

  finished-none : (ended : List ℕ) → finished deps from to [] [] ended ≡ ended
  unfolding finished
  finished-none ended = refl

  -- the first object is begun
  finished-first : from < to → finished deps from to [] (first_frame from ∷ []) [] ≡ post_of deps from to
  unfolding visit
  finished-first some =
      let in_group : is_member from to from ≡ true = and_from _ _ (le-leb from from (omega arith)) (lt-ltb from to some) in
      let new : is_passed from to [] [] from ≡ false = or_from _ _ (or_from _ _ (not_from_true _ in_group) refl) refl in
      finished-push [] (first_frame from) [] ∙ ap (finished deps from to [] []) (left-first [] from [] new) ∙ finished-none (visited (to - from) deps from to [] [] from)

  -- the path is empty
  pub walk_over : (begun : List Bool) (ended : List ℕ) → IsWalk deps from to begun [] ended → ended ≡ post_of deps from to
  walk_over begun ended w = sym (finished-none ended) ∙ w.rest

  -- the object at the end of the path is ended
  pub walk_ended : (begun : List Bool) (fs : List Frame) (f : Frame) (ended : List ℕ) → IsWalk deps from to begun (fs ++ f ∷ []) ended → length (needs deps f.object) ≤ f.next → IsWalk deps from to begun fs (ended ++ f.object ∷ [])
  walk_ended begun fs f ended w past = record {
    long = w.long;
    flags = λ k lt. w.flags k lt ∙ ap (λ path. has (from + k) path || has (from + k) ended) (climbed-push [] fs f)
        ∙ moved (f.object == from + k) (has (from + k) (climbed [] fs)) (has (from + k) ended)
        ∙ ap (λ b. has (from + k) (climbed [] fs) || b) (sym (has-append (from + k) ended (f.object ∷ [])));
    inside = (All-pop (λ f. f.object < length deps) (fs ++ f ∷ []) fs (Some f) refl w.inside).0;
    rest = sym (finished-end fs f ended past) ∙ w.rest;
  }
    where
      moved : (o c e : Bool) → ((o || c) || e) ≡ (c || (e || (o || false)))
      moved true true e = refl
      moved true false true = refl
      moved true false false = refl
      moved false c true = refl
      moved false c false = refl

  -- the flags tell what the walk passes over
  begun_is_passed : (begun : List Bool) (fs : List Frame) (f : Frame) (ended : List ℕ) (i : ℕ) → IsWalk deps from to begun (fs ++ f ∷ []) ended → is_begun from to begun i ≡ is_passed from to (f.object ∷ climbed [] fs) ended i
  begun_is_passed begun fs f ended i w = elim (cases_Bool (is_member from to i)) [
    | inl m ↦
        let p = member_parts from to i m in
        let place : from + (i - from) ≡ i = omega (arith, p.0) in
        let flag : slice_index_or begun (i - from) false ≡ (has i (f.object ∷ climbed [] fs) || has i ended) =
        w.flags (i - from) (omega (arith, w.long, p.0, p.1))
        ∙ ap (λ path. has (from + (i - from)) path || has (from + (i - from)) ended) (climbed-push [] fs f)
        ∙ ap (λ j. has j (f.object ∷ climbed [] fs) || has j ended) place in
        ap (λ b. b || slice_index_or begun (i - from) false) (not_from_true _ m)
        ∙ flag
        ∙ sym (ap (λ b. b || has i (f.object ∷ climbed [] fs) || has i ended) (not_from_true _ m))
    | inr m ↦
        ap (λ b. b || slice_index_or begun (i - from) false) (not_from_false _ m)
        ∙ sym (ap (λ b. b || has i (f.object ∷ climbed [] fs) || has i ended) (not_from_false _ m))
  ]

  -- the next object that the one at the end of the path needs is visited
  pub walk_visited : (begun more : List Bool) (fs gs : List Frame) (f : Frame) (ended : List ℕ) (i : ℕ) → IsWalk deps from to begun (fs ++ f ∷ []) ended → f.next < length (needs deps f.object) → i ≡ get_or (needs deps f.object) f.next 0 → to ≤ length deps
      → more ≡ cond (is_begun from to begun i) begun (set begun (i - from) true)
      → gs ≡ cond (is_begun from to begun i) (fs ++ next_frame f ∷ []) ((fs ++ next_frame f ∷ []) ++ first_frame i ∷ [])
      → IsWalk deps from to more gs ended
  walk_visited begun more fs gs f ended i w lt e le flags path =
      let same = begun_is_passed begun fs f ended i w in
      let front = All-pop (λ f. f.object < length deps) (fs ++ f ∷ []) fs (Some f) refl w.inside in
      let inside : All (λ f. f.object < length deps) (fs ++ next_frame f ∷ []) = All-push (λ f. f.object < length deps) fs (next_frame f) front.0 front.1 in
      let flags_were : (k : ℕ) → k < length begun → slice_index_or begun k false ≡ (has (from + k) (f.object ∷ climbed [] fs) || has (from + k) ended) =
      λ k lt. w.flags k lt ∙ ap (λ path. has (from + k) path || has (from + k) ended) (climbed-push [] fs f) in
      elim (cases_Bool (is_begun from to begun i)) [
        | inl p ↦
            let more_is : more ≡ begun = flags ∙ ap (λ b. cond b begun (set begun (i - from) true)) p in
            let gs_is : gs ≡ fs ++ next_frame f ∷ [] = path ∙ ap (λ b. cond b (fs ++ next_frame f ∷ []) ((fs ++ next_frame f ∷ []) ++ first_frame i ∷ [])) p in
            rw (more_is, gs_is) (record {
              long = w.long;
              flags = λ k lt. flags_were k lt ∙ ap (λ path. has (from + k) path || has (from + k) ended) (sym (climbed-push [] fs (next_frame f)));
              inside = inside;
              rest = sym (finished-passed fs f ended i lt e (sym same ∙ p)) ∙ w.rest;
            })
        | inr p ↦
            let passed : is_passed from to (f.object ∷ climbed [] fs) ended i ≡ false = sym same ∙ p in
            let new = new_parts from to (f.object ∷ climbed [] fs) ended i passed in
            let m = member_parts from to i new.0 in
            let more_is : more ≡ set begun (i - from) true = flags ∙ ap (λ b. cond b begun (set begun (i - from) true)) p in
            let gs_is : gs ≡ (fs ++ next_frame f ∷ []) ++ first_frame i ∷ [] = path ∙ ap (λ b. cond b (fs ++ next_frame f ∷ []) ((fs ++ next_frame f ∷ []) ++ first_frame i ∷ [])) p in
            let climbed_is : climbed [] ((fs ++ next_frame f ∷ []) ++ first_frame i ∷ []) ≡ i ∷ f.object ∷ climbed [] fs = climbed-push [] (fs ++ next_frame f ∷ []) (first_frame i) ∙ ap (λ p. i ∷ p) (climbed-push [] fs (next_frame f)) in
            let flags_are : (k : ℕ) → k < length (set begun (i - from) true) → slice_index_or (set begun (i - from) true) k false ≡ (has (from + k) (i ∷ f.object ∷ climbed [] fs) || has (from + k) ended) =
            λ k lt. elim (cases_eq k (i - from)) [
              | inl here ↦
                  let place : i ≡ from + k = omega (arith, here, m.0) in
                  let on : has (from + k) (i ∷ f.object ∷ climbed [] fs) ≡ true = or_left _ _ (eq-eqb i (from + k) place) in
                  ap (λ n. slice_index_or (set begun (i - from) true) n false) here
                  ∙ get_or-set_same begun (i - from) true false (omega (arith, w.long, m.0, m.1))
                  ∙ sym (or_left (has (from + k) (i ∷ f.object ∷ climbed [] fs)) (has (from + k) ended) on)
              | inr there ↦
                  let other : (i == from + k) ≡ false = ne_eqb i (from + k) (λ same. there (omega (arith, same))) in
                  let short : k < length begun = omega (arith, lt, length-set begun (i - from) true) in
                  get_or-set_other begun (i - from) k true false there
                  ∙ flags_were k short
                  ∙ sym (ap (λ b. (b || has (from + k) (f.object ∷ climbed [] fs)) || has (from + k) ended) other)
            ] in
            rw (more_is, gs_is) (record {
              long = ap (λ n. from + n) (length-set begun (i - from) true) ∙ w.long;
              flags = λ k lt. flags_are k lt ∙ ap (λ path. has (from + k) path || has (from + k) ended) (sym climbed_is);
              inside = All-push (λ f. f.object < length deps) (fs ++ next_frame f ∷ []) (first_frame i) inside (omega (arith, m.1, le));
              rest = sym (finished-begun fs f ended i lt e passed) ∙ w.rest;
            })
      ]

  -- the walk begins
  pub walk_begun : (begun : List Bool) (path : List Frame) → from < to → to ≤ length deps
      → begun ≡ cond (is_begun from to (replicate (to - from) false) from) (replicate (to - from) false) (set (replicate (to - from) false) (from - from) true)
      → path ≡ cond (is_begun from to (replicate (to - from) false) from) [] (first_frame from ∷ [])
      → IsWalk deps from to begun path []
  walk_begun begun path some le flags frames =
      let none : List Bool = replicate (to - from) false in
      let in_group : is_member from to from ≡ true = and_from _ _ (le-leb from from (omega arith)) (lt-ltb from to some) in
      let unset : slice_index_or none (from - from) false ≡ false = get_or-replicate (to - from) (from - from) false false (omega arith) in
      let p : is_begun from to none from ≡ false = or_from _ _ (not_from_true _ in_group) unset in
      let long : length (set none (from - from) true) ≡ to - from = length-set none (from - from) true ∙ length-replicate (to - from) false in
      let begun_is : begun ≡ set none (from - from) true = flags ∙ ap (λ b. cond b none (set none (from - from) true)) p in
      let path_is : path ≡ first_frame from ∷ [] = frames ∙ ap (λ b. cond b [] (first_frame from ∷ [])) p in
      rw (begun_is, path_is) (record {
        long = omega (arith, long);
        flags = λ k lt. elim (cases_eq k (from - from)) [
          | inl here ↦
              ap (λ n. slice_index_or (set none (from - from) true) n false) here
              ∙ get_or-set_same none (from - from) true false (omega (arith, length-replicate (to - from) false))
              ∙ sym (or_left _ _ (or_left _ _ (eq-eqb from (from + k) (omega (arith, here)))))
          | inr there ↦
              get_or-set_other none (from - from) k true false there
              ∙ get_or-replicate (to - from) k false false (omega (arith, lt, long))
              ∙ sym (or_from _ _ (or_from _ _ (ne_eqb from (from + k) (λ same. there (omega (arith, same)))) refl) refl)
        ];
        inside = All-cons (λ f. f.object < length deps) (first_frame from) [] (omega (arith, le)) (All-nil (λ f. f.object < length deps));
        rest = finished-first some;
      })

path_steps-push : (deps : List (List ℕ)) (fs : List Frame) (f : Frame) → path_steps deps (fs ++ f ∷ []) ≡ path_steps deps fs + (length (needs deps f.object) - f.next + 1)
unfolding path_steps
path_steps-push deps [] f = omega arith
path_steps-push deps (g ∷ fs) f = omega (arith, path_steps-push deps fs f)

-- an object that is begun leaves its steps to the path
unbegun_steps-set : (deps : List (List ℕ)) (from : ℕ) (begun : List Bool) (k : ℕ) → k < length begun → get_or begun k false ≡ false → unbegun_steps deps from (set begun k true) + (length (needs deps (from + k)) + 2) ≡ unbegun_steps deps from begun
unfolding unbegun_steps
unbegun_steps-set deps from [] k lt h = absurd (omega arith)
unbegun_steps-set deps from (b ∷ begun) zero lt h =
    let place : from + 0 ≡ from = omega arith in
    rw (h, place) (omega arith)
unbegun_steps-set deps from (b ∷ begun) (suc k) lt h =
    let place : from + 1 + k ≡ from + suc k = omega arith in
    let rest : unbegun_steps deps (from + 1) (set begun k true) + (length (needs deps (from + suc k)) + 2) ≡ unbegun_steps deps (from + 1) begun = ap (λ i. unbegun_steps deps (from + 1) (set begun k true) + (length (needs deps i) + 2)) (sym place) ∙ unbegun_steps-set deps (from + 1) begun k (omega arith) h in
    omega (arith, rest)

pub steps_ended : (deps : List (List ℕ)) (from : ℕ) (begun : List Bool) (fs : List Frame) (f : Frame) → steps_left deps from begun fs < steps_left deps from begun (fs ++ f ∷ [])
steps_ended deps from begun fs f = omega (arith, path_steps-push deps fs f)

pub steps_visited : (deps : List (List ℕ)) (from to : ℕ) (begun more : List Bool) (fs gs : List Frame) (f : Frame) (i : ℕ) → from + length begun ≡ to → f.next < length (needs deps f.object)
    → more ≡ cond (is_begun from to begun i) begun (set begun (i - from) true)
    → gs ≡ cond (is_begun from to begun i) (fs ++ next_frame f ∷ []) ((fs ++ next_frame f ∷ []) ++ first_frame i ∷ [])
    → steps_left deps from more gs < steps_left deps from begun (fs ++ f ∷ [])
steps_visited deps from to begun more fs gs f i long lt flags path =
    let old = path_steps-push deps fs f in
    let next = path_steps-push deps fs (next_frame f) in
    elim (cases_Bool (is_begun from to begun i)) [
      | inl p ↦
          let more_is : more ≡ begun = flags ∙ ap (λ b. cond b begun (set begun (i - from) true)) p in
          let gs_is : gs ≡ fs ++ next_frame f ∷ [] = path ∙ ap (λ b. cond b (fs ++ next_frame f ∷ []) ((fs ++ next_frame f ∷ []) ++ first_frame i ∷ [])) p in
          rw (more_is, gs_is) (omega (arith, old, next))
      | inr p ↦
          let parts = or_parts (not (is_member from to i)) (slice_index_or begun (i - from) false) p in
          let m = member_parts from to i (not-false _ parts.0) in
          let more_is : more ≡ set begun (i - from) true = flags ∙ ap (λ b. cond b begun (set begun (i - from) true)) p in
          let gs_is : gs ≡ (fs ++ next_frame f ∷ []) ++ first_frame i ∷ [] = path ∙ ap (λ b. cond b (fs ++ next_frame f ∷ []) ((fs ++ next_frame f ∷ []) ++ first_frame i ∷ [])) p in
          let last = path_steps-push deps (fs ++ next_frame f ∷ []) (first_frame i) in
          let place : from + (i - from) ≡ i = omega (arith, m.0) in
          let less : unbegun_steps deps from (set begun (i - from) true) + (length (needs deps i) + 2) ≡ unbegun_steps deps from begun = ap (λ j. unbegun_steps deps from (set begun (i - from) true) + (length (needs deps j) + 2)) (sym place) ∙ unbegun_steps-set deps from begun (i - from) (omega (arith, long, m.0, m.1)) parts.1 in
          rw (more_is, gs_is) (omega (arith, old, next, last, less))
    ]

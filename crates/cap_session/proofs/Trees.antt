-- Trees, dependencies and scopes are numbers of objects.
use Rattle.std.proofs.Common.{◌≡◌, ℕ, suc, zero, ◌+◌, ◌-◌, ◌<◌, ◌≤◌, min, Bool, true, false, List, [], ◌∷◌, ◌++◌, length, get_or, refl, ap, sym, ◌∙◌, subst, ⊎_elim, arith}
use Rattle.std.specs.Prelude.{All, Option, Some, None, option_map, map, zip, filter, flat_map, take, slice_index_or, unwrap_or, if◌then◌else◌}
use Rattle.std.specs.List.{range_with_len}
use Rattle.std.proofs.lemmas.Bool.{cases_lt}
use Rattle.std.proofs.lemmas.List.{get_or_past, length-map}
use Rattle.std.proofs.lemmas.List.Elements.{All-nil, All-cons, All-head, All-tail, All-append, All-filter, All-get_or}
use Rattle.std.proofs.lemmas.List.FromFn.{length-enumerate_from}
use Rattle.std.proofs.lemmas.Slice.Zip.{length-zip}
use Rattle.cap_chain.specs.Adopted.{has}
use Rattle.cap_elf.specs.DynView.{DynRecords}
use Rattle.cap_scope.specs.Tree.{fresh, next_level, levels_from, tree_of}
use Rattle.cap_session.specs.Loading.{is_answer, numbered, place_of_first}
use Rattle.cap_session.specs.Roster.{RosterValue, IsRoster, IsClosed, called_in, answerer_in, records_in, DepsAnswer}
use Rattle.cap_session.specs.Scope.{Opening, is_global_opening, reaches, scope_of}

either : {A : Type 0} (P : A → Type 0) (b : Bool) (x y : A) → P x → P y → P (if b then x else y)
either P true x y p q = p
either P false x y p q = q

abbrev Below : ℕ → ℕ → Type 0
Below n i = i < n

fresh-below : (n : ℕ) (seen ns : List ℕ) → All (Below n) ns → All (Below n) (fresh seen ns)
fresh-below n seen [] h = h
fresh-below n seen (m ∷ ns) h =
    either (λ xs. All (Below n) xs) (has m seen) (fresh seen ns) (m ∷ fresh (seen ++ m ∷ []) ns)
    (fresh-below n seen ns (All-tail (Below n) m ns h))
    (All-cons (Below n) m (fresh (seen ++ m ∷ []) ns) (All-head (Below n) m ns h) (fresh-below n (seen ++ m ∷ []) ns (All-tail (Below n) m ns h)))

at-below : (n : ℕ) (deps : List (List ℕ)) (i : ℕ) → All (λ of. All (Below n) of) deps → All (Below n) (get_or deps i [])
at-below n deps i h =
    ⊎_elim (λ (lt : i < length deps). All-get_or (λ of. All (Below n) of) deps i [] lt h)
    (λ (ge : length deps ≤ i). rw (get_or_past deps i [] ge) (All-nil (Below n))) (cases_lt i (length deps))

next-below : (n : ℕ) (deps : List (List ℕ)) (level : List ℕ) → All (λ of. All (Below n) of) deps → All (Below n) (flat_map (λ i. slice_index_or deps i []) level)
next-below n deps [] h = All-nil (Below n)
next-below n deps (i ∷ level) h =
    All-append (Below n) (get_or deps i []) (flat_map (λ i. slice_index_or deps i []) level) (at-below n deps i h) (next-below n deps level h)

levels-below : (k n : ℕ) (deps : List (List ℕ)) (seen level : List ℕ) → All (λ of. All (Below n) of) deps → All (Below n) level → All (Below n) (levels_from k deps seen level)
levels-below zero n deps seen level h l = l
levels-below (suc k) n deps seen level h l =
    let next = next_level deps seen level in
    let below : All (Below n) next = fresh-below n seen (flat_map (λ i. slice_index_or deps i []) level) (next-below n deps level h) in
    All-append (Below n) level (levels_from k deps (seen ++ next) next) l (levels-below k n deps (seen ++ next) next h below)

pub tree-below : (n : ℕ) (deps : List (List ℕ)) (root : ℕ) → All (λ of. All (λ i. i < n) of) deps → root < n → All (λ i. i < n) (tree_of deps root)
tree-below n deps root h r =
    levels-below (length deps) n deps (root ∷ []) (root ∷ []) h (All-cons (Below n) root [] r (All-nil (Below n)))

range-below : (n a len : ℕ) → a + len ≤ n → All (Below n) (range_with_len a len)
range-below n a zero h = All-nil (Below n)
range-below n a (suc len) h =
    let lt : a < n = omega arith in
    let rest : (a + 1) + len ≤ n = omega arith in
    All-cons (Below n) a (range_with_len (a + 1) len) lt (range-below n (a + 1) len rest)

trees-below : (n : ℕ) (openings : List Opening) → All (λ o. All (Below n) o.tree) openings → All (Below n) (flat_map (λ o. o.tree) openings)
trees-below n [] h = All-nil (Below n)
trees-below n (o ∷ openings) h =
    All-append (Below n) o.tree (flat_map (λ o. o.tree) openings) (All-head (λ o. All (Below n) o.tree) o openings h) (trees-below n openings (All-tail (λ o. All (Below n) o.tree) o openings h))

pub scope-below : (n : ℕ) (symbolic : Bool) (start_count : ℕ) (openings : List Opening) (i : ℕ) → i < n → start_count ≤ n → All (λ o. All (λ j. j < n) o.tree) openings → All (λ j. j < n) (scope_of symbolic start_count openings i)
scope-below n symbolic start_count openings i lt few h =
    let P : Opening → Type 0 = λ o. All (Below n) o.tree in
    let itself : All (Below n) (if symbolic then i ∷ [] else []) = either (λ xs. All (Below n) xs) symbolic (i ∷ []) [] (All-cons (Below n) i [] lt (All-nil (Below n))) (All-nil (Below n)) in
    let start : All (Below n) (range_with_len 0 (start_count - 0)) = range-below n 0 (start_count - 0) (omega arith) in
    let globals : All (Below n) (flat_map (λ o. o.tree) (filter is_global_opening openings)) = trees-below n (filter is_global_opening openings) (All-filter is_global_opening P openings h) in
    let locals : All (Below n) (flat_map (λ o. o.tree) (filter (reaches i) openings)) = trees-below n (filter (reaches i) openings) (All-filter (reaches i) P openings h) in
    All-append (Below n) (((if symbolic then i ∷ [] else []) ++ range_with_len 0 (start_count - 0)) ++ flat_map (λ o. o.tree) (filter is_global_opening openings)) (flat_map (λ o. o.tree) (filter (reaches i) openings))
    (All-append (Below n) ((if symbolic then i ∷ [] else []) ++ range_with_len 0 (start_count - 0)) (flat_map (λ o. o.tree) (filter is_global_opening openings)) (All-append (Below n) (if symbolic then i ∷ [] else []) (range_with_len 0 (start_count - 0)) itself start) globals)
    locals

-- the place of a first element is in the list
mapped-below : (n : ℕ) (o : Option ℕ) (i : ℕ) → ((j : ℕ) → o ≡ Some j → j < n) → option_map (λ j. j + 1) o ≡ Some i → i < suc n
mapped-below n None i h e = absurd cc
mapped-below n (Some j) i h e = let same : j + 1 ≡ i = cc in let lt : j < n = h j refl in omega arith

place-step : (b : Bool) (n : ℕ) (o : Option ℕ) (i : ℕ) → ((j : ℕ) → o ≡ Some j → j < n) → (if b then Some 0 else option_map (λ j. j + 1) o) ≡ Some i → i < suc n
place-step true n o i h e = let same : 0 ≡ i = cc in omega arith
place-step false n o i h e = mapped-below n o i h e

pub place-below : {X : Type 0} (p : X → Bool) (xs : List X) (i : ℕ) → place_of_first p xs ≡ Some i → i < length xs
place-below p [] i e = absurd cc
place-below p (x ∷ xs) i e = place-step (p x) (length xs) (place_of_first p xs) i (λ j h. place-below p xs j h) e

pub answerer-below : (r : RosterValue) (name : List ℕ) (i : ℕ) → answerer_in r name ≡ Some i → i < length r.objects
answerer-below r name i e =
    let lt = place-below (is_answer name) (numbered (called_in r)) i e in
    let count : length (numbered (called_in r)) ≡ min (length (map (λ n. n.0) r.names)) (length (map (λ o. o.records) r.objects)) =
    length-enumerate_from 0 (called_in r) ∙ length-zip (map (λ n. n.0) r.names) (map (λ o. o.records) r.objects) in
    omega (arith, lt, count, length-map r.objects (λ o. o.records))

answers-below : (f : List ℕ → Option ℕ) (n : ℕ) → ((name : List ℕ) (i : ℕ) → f name ≡ Some i → i < n) → (names : List (List ℕ)) (of : List ℕ) → map f names ≡ map Some of → All (Below n) of
answers-below f n h [] [] e = All-nil (Below n)
answers-below f n h [] (i ∷ of) e = absurd cc
answers-below f n h (name ∷ names) [] e = absurd cc
answers-below f n h (name ∷ names) (i ∷ of) e =
    let first : f name ≡ Some i = cc in
    let rest : map f names ≡ map Some of = cc in
    All-cons (Below n) i of (h name i first) (answers-below f n h names of rest)

lists-below : (f : List ℕ → Option ℕ) (n : ℕ) → ((name : List ℕ) (i : ℕ) → f name ≡ Some i → i < n) → (rs : List DynRecords) (deps : List (List ℕ)) → map (λ o. map f o.needed) rs ≡ map (map Some) deps → All (λ of. All (Below n) of) deps
lists-below f n h [] [] e = All-nil (λ of. All (Below n) of)
lists-below f n h [] (of ∷ deps) e = absurd cc
lists-below f n h (r ∷ rs) [] e = absurd cc
lists-below f n h (r ∷ rs) (of ∷ deps) e =
    let first : map f r.needed ≡ map Some of = cc in
    let rest : map (λ o. map f o.needed) rs ≡ map (map Some) deps = cc in
    All-cons (λ of. All (Below n) of) of deps (answers-below f n h r.needed of first) (lists-below f n h rs deps rest)

pub deps-below : (r : RosterValue) → IsRoster r → All (λ of. All (λ i. i < length r.objects) of) r.deps
deps-below r h = lists-below (answerer_in r) (length r.objects) (answerer-below r) (take (length r.deps) (records_in r)) r.deps h.deps_answer

-- the same where each object has its list
pub closed-below : (r : RosterValue) → IsRoster r → IsClosed r → All (λ of. All (λ i. i < length r.deps) of) r.deps
closed-below r h closed = subst (λ (n : ℕ). All (λ of. All (λ i. i < n) of) r.deps) (sym closed) (deps-below r h)

pub root-below : (n : ℕ) (o : Option ℕ) → ((i : ℕ) → o ≡ Some i → i < n) → 0 < n → unwrap_or o 0 < n
root-below n None h some = some
root-below n (Some i) h some = h i refl

-- the tree of a library that is loaded
pub opening-below : (r : RosterValue) (name : List ℕ) → IsRoster r → 0 < length r.objects → All (λ i. i < length r.objects) (tree_of r.deps (unwrap_or (answerer_in r name) 0))
opening-below r name h some =
    tree-below (length r.objects) r.deps (unwrap_or (answerer_in r name) 0) (deps-below r h) (root-below (length r.objects) (answerer_in r name) (answerer-below r name) some)

-- The first needed name to which no object answers.
use Rattle.std.proofs.Common.{◌≡◌, ℕ, zero, suc, ◌+◌, ◌-◌, ◌<◌, ◌≤◌, Bool, true, false, cond, List, [], ◌∷◌, ◌++◌, length, get_or, map, take, drop, zip, Option, Some, None, refl, sym, ap, ◌∙◌, subst, arith}
use Rattle.std.specs.Prelude.{find, flat_map, is_none}
use Rattle.std.specs.Option.{option_or}
use Rattle.std.proofs.lemmas.List.{drop_more, get_or-map, length-map, take_all, take-append-drop}
use Rattle.std.proofs.lemmas.List.Folds.{find-append}
use Rattle.std.proofs.lemmas.Grind.{flat_map-append}
use Rattle.cap_elf.specs.DynView.{DynRecords, DynValue}
use Rattle.cap_scope.specs.Chosen.{no_records, object_at}
use Rattle.cap_session.specs.Closing.{is_unanswered, needed_by}
use Rattle.cap_session.specs.Loading.{Called, Loaded, answer_among, answerer, called, first_unanswered, needed_names, records_of}
use Rattle.cap_session.specs.Roster.{RosterValue, IsClosed, IsRoster, Lists, answerer_in, called_in, records_in}
use Rattle.cap_session.proofs.Answering.{names_first}
use Rattle.cap_session.proofs.Answerers.{head_same, tail_same, zip_called}

abbrev needed : DynRecords → List (List ℕ)
needed o = o.needed

-- the first name that is not answered, among those that the objects of a roster need
abbrev pub unanswered_in : RosterValue → Option (List ℕ)
unanswered_in r = find (is_unanswered r) (flat_map needed (records_in r))

names_skip : (a : List ℕ → Option ℕ) (n : List ℕ) (ns : List (List ℕ)) (i : ℕ) → a n ≡ Some i → find (λ m. is_none (a m)) (n ∷ ns) ≡ find (λ m. is_none (a m)) ns
names_skip a n ns i e = ap (λ o. cond (is_none o) (Some n) (find (λ m. is_none (a m)) ns)) e

pub none_unanswered : (a : List ℕ → Option ℕ) (ns : List (List ℕ)) (is : List ℕ) → map a ns ≡ map Some is → find (λ m. is_none (a m)) ns ≡ None
none_unanswered a [] is e = refl
none_unanswered a (n ∷ ns) [] e = absurd cc
none_unanswered a (n ∷ ns) (i ∷ is) e =
    names_skip a n ns i (head_same (a n) (Some i) (map a ns) (map Some is) e) ∙ none_unanswered a ns is (tail_same (a n) (Some i) (map a ns) (map Some is) e)

pub find_past : {X : Type 0} (p : X → Bool) (xs ys : List X) → find p xs ≡ None → find p (xs ++ ys) ≡ find p ys
find_past p xs ys e = find-append p xs ys ∙ ap (λ o. option_or o (find p ys)) e

pub none_in_lists : (a : List ℕ → Option ℕ) (os : List DynRecords) (ds : List (List ℕ)) → map (λ o. map a o.needed) os ≡ map (map Some) ds → find (λ m. is_none (a m)) (flat_map needed os) ≡ None
none_in_lists a [] ds e = refl
none_in_lists a (o ∷ os) [] e = absurd cc
none_in_lists a (o ∷ os) (d ∷ ds) e =
    find_past (λ m. is_none (a m)) o.needed (flat_map needed os) (none_unanswered a o.needed d (head_same (map a o.needed) (map Some d) (map (λ o. map a o.needed) os) (map (map Some) ds) e))
    ∙ none_in_lists a os ds (tail_same (map a o.needed) (map Some d) (map (λ o. map a o.needed) os) (map (map Some) ds) e)

-- every name is answered where each object has its list
pub none_left : (r : RosterValue) → IsRoster r → IsClosed r → unanswered_in r ≡ None
none_left r h all =
    let count = length-map r.objects (λ (o : DynValue). o.records) in
    ap (λ os. find (is_unanswered r) (flat_map needed os)) (sym (take_all (length r.deps) (records_in r) (omega (arith, count, all))))
    ∙ none_in_lists (answerer_in r) (take (length r.deps) (records_in r)) r.deps h.deps_answer

-- a name of the first object without a list, where those before it are answered and it is not
pub first_here : (r : RosterValue) (i k : ℕ) → IsRoster r → i ≡ length r.deps → i < length r.objects → k < length (needed_by r i)
    → find (is_unanswered r) (take k (needed_by r i)) ≡ None → answerer_in r (get_or (needed_by r i) k []) ≡ None
    → unanswered_in r ≡ Some (get_or (needed_by r i) k [])
first_here r i k h at inside low before here =
    let count = length-map r.objects (λ (o : DynValue). o.records) in
    let p = is_unanswered r in
    let os = records_in r in
    let ns = needed_by r i in
    let name = get_or ns k [] in
    let front = take i os in
    let rest = drop (i + 1) os in
    let split : flat_map needed os ≡ flat_map needed front ++ (ns ++ flat_map needed rest) =
    ap (flat_map needed) (sym (take-append-drop i os) ∙ ap (λ zs. front ++ zs) (drop_more os i no_records (omega (arith, count, inside))))
    ∙ flat_map-append needed front (object_at os i ∷ rest) in
    let answered : find p (flat_map needed front) ≡ None =
    ap (λ n. find p (flat_map needed (take n os))) at ∙ none_in_lists (answerer_in r) (take (length r.deps) os) r.deps h.deps_answer in
    let names : ns ≡ take k ns ++ (name ∷ drop (k + 1) ns) = sym (take-append-drop k ns) ∙ ap (λ zs. take k ns ++ zs) (drop_more ns k [] low) in
    let found : find p ns ≡ Some name =
    ap (find p) names ∙ find_past p (take k ns) (name ∷ drop (k + 1) ns) before
    ∙ ap (λ o. cond (is_none o) (Some name) (find p (drop (k + 1) ns))) here in
    ap (find p) split ∙ find_past p (flat_map needed front) (ns ++ flat_map needed rest) answered
    ∙ find-append p ns (flat_map needed rest) ∙ ap (λ o. option_or o (find p (flat_map needed rest))) found

flat_map_map : (objects : List Loaded) → flat_map (λ o. (records_of o).needed) objects ≡ flat_map needed (map records_of objects)
flat_map_map [] = refl
flat_map_map (o ∷ objects) = ap (λ ns. (records_of o).needed ++ ns) (flat_map_map objects)

-- what the objects that a roster lists are called
pub called_same : (r : RosterValue) (objects : List Loaded) → Lists r objects → map called objects ≡ called_in r
called_same r objects h =
    sym (zip_called objects) ∙ ap (λ (ns : List (List ℕ)). zip ns (map records_of objects)) (sym (names_first r objects h)) ∙ ap (zip (map (λ (n : List ℕ × Bool). n.0) r.names)) (sym h.records_are)

pub first_is : (r : RosterValue) (objects : List Loaded) → Lists r objects → first_unanswered objects ≡ unanswered_in r
first_is r objects h =
    ap (λ cs. find (λ name. is_none (answer_among cs name)) (needed_names objects)) (called_same r objects h)
    ∙ ap (find (is_unanswered r)) (flat_map_map objects ∙ ap (flat_map needed) (sym h.records_are))

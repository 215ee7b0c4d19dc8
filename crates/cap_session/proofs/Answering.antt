-- The objects of a roster answer to names as those of the definition do.
use Rattle.std.proofs.Common.{◌≡◌, ℕ, suc, zero, ◌+◌, ◌≤◌, Bool, true, false, List, [], ◌∷◌, ◌++◌, length, take, refl, ap, sym, ◌∙◌, subst, arith}
use Rattle.std.specs.Prelude.{Option, Some, None, map, zip, filter_map, if◌then◌else◌}
use Rattle.std.specs.List.{cons_option}
use Rattle.std.proofs.lemmas.List.{take_all, length-map}
use Rattle.cap_elf.specs.DynView.{DynRecords}
use Rattle.cap_session.specs.Binding.{Objects, objects_in, objects_of}
use Rattle.cap_session.specs.Loading.{Called, Loaded, answer_among, answerer, called, dependencies, records_of}
use Rattle.cap_session.specs.Roster.{RosterValue, IsRoster, IsClosed, Lists, answerer_in, called_in, records_in, empty_roster}

abbrev made : List DynRecords → List ℕ → List (List ℕ) → Objects
made records bases names = record { records = records; bases = bases; names = names }

words_first : (objects : List Loaded) → map (λ (n : List ℕ × Bool). n.0) (map (λ (o : Loaded). (o.name, true)) objects) ≡ map (λ (o : Loaded). o.name) objects
words_first [] = refl
words_first (o ∷ objects) = ap (λ (words : List (List ℕ)). o.name ∷ words) (words_first objects)

-- the words of a roster are those of the objects that it lists
pub names_first : (r : RosterValue) (objects : List Loaded) → Lists r objects → map (λ (n : List ℕ × Bool). n.0) r.names ≡ map (λ (o : Loaded). o.name) objects
names_first r objects h = ap (map (λ (n : List ℕ × Bool). n.0)) h.names_are ∙ words_first objects

pub objects_same : (r : RosterValue) (objects : List Loaded) → Lists r objects → objects_in r ≡ objects_of objects
objects_same r objects h =
    let records = h.records_are in
    let bases = h.bases_are in
    let names = names_first r objects h in
    let e : made (records_in r) (map (λ m. m.base) r.roots) (map (λ n. n.0) r.names) ≡ made (map records_of objects) (map (λ o. o.base) objects) (map (λ o. o.name) objects) = cc in
    e

called-same : (objects : List Loaded) → zip (map (λ o. o.name) objects) (map records_of objects) ≡ map called objects
called-same [] = refl
called-same (o ∷ objects) = ap (λ (rest : List Called). called o ∷ rest) (called-same objects)

pub answerer-same : (r : RosterValue) (objects : List Loaded) → Lists r objects → (name : List ℕ) → answerer_in r name ≡ answerer objects name
answerer-same r objects h name =
    ap (λ (names : List (List ℕ)). answer_among (zip names (records_in r)) name) (names_first r objects h)
    ∙ (ap (λ (records : List DynRecords). answer_among (zip (map (λ o. o.name) objects) records) name) h.records_are
    ∙ ap (λ (all : List Called). answer_among all name) (called-same objects))

answers-same : (f g : List ℕ → Option ℕ) → ((name : List ℕ) → f name ≡ g name) → (names : List (List ℕ)) (of : List ℕ) → map f names ≡ map Some of → filter_map g names ≡ of
answers-same f g h [] [] e = refl
answers-same f g h [] (i ∷ of) e = absurd cc
answers-same f g h (name ∷ names) [] e = absurd cc
answers-same f g h (name ∷ names) (i ∷ of) e =
    let first : f name ≡ Some i = cc in
    let rest : map f names ≡ map Some of = cc in
    ap (λ (o : Option ℕ). cons_option o (filter_map g names)) (sym (h name) ∙ first) ∙ ap (λ (xs : List ℕ). i ∷ xs) (answers-same f g h names of rest)

lists-same : (f g : List ℕ → Option ℕ) → ((name : List ℕ) → f name ≡ g name) → (rs : List DynRecords) (deps : List (List ℕ)) → map (λ o. map f o.needed) rs ≡ map (map Some) deps → map (λ o. filter_map g o.needed) rs ≡ deps
lists-same f g h [] [] e = refl
lists-same f g h [] (of ∷ deps) e = absurd cc
lists-same f g h (r ∷ rs) [] e = absurd cc
lists-same f g h (r ∷ rs) (of ∷ deps) e =
    let first : map f r.needed ≡ map Some of = cc in
    let rest : map (λ o. map f o.needed) rs ≡ map (map Some) deps = cc in
    let head = answers-same f g h r.needed of first in
    let tail = lists-same f g h rs deps rest in
    ap (λ (x : List ℕ). x ∷ map (λ o. filter_map g o.needed) rs) head ∙ ap (λ (xs : List (List ℕ)). of ∷ xs) tail

by-records : (g : List ℕ → Option ℕ) (objects : List Loaded) → map (λ o. filter_map g o.needed) (map records_of objects) ≡ map (λ o. filter_map g (records_of o).needed) objects
by-records g [] = refl
by-records g (o ∷ objects) = ap (λ (xs : List (List ℕ)). filter_map g (records_of o).needed ∷ xs) (by-records g objects)

-- the lists of a roster are the dependencies of its objects
pub deps-same : (r : RosterValue) (objects : List Loaded) → IsRoster r → IsClosed r → Lists r objects → r.deps ≡ dependencies objects
deps-same r objects h closed lists =
    let whole : take (length r.deps) (records_in r) ≡ records_in r =
    (let count = length-map r.objects (λ o. o.records) in take_all (length r.deps) (records_in r) (omega (arith, count, closed))) in
    let said = subst (λ (rs : List DynRecords). map (λ o. map (answerer_in r) o.needed) rs ≡ map (map Some) r.deps) whole h.deps_answer in
    let g : List ℕ → Option ℕ = answerer objects in
    sym (lists-same (answerer_in r) (answerer objects) (answerer-same r objects lists) (records_in r) r.deps said)
    ∙ (ap (λ (rs : List DynRecords). map (λ o. filter_map (answerer objects) o.needed) rs) lists.records_are
    ∙ by-records (answerer objects) objects)

-- a roster without objects has none
pub lists-none : (r : RosterValue) (dir : List ℕ) → r ≡ empty_roster dir → Lists r []
lists-none r dir e = record {
  records_are = ap records_in e;
  names_are = ap (λ (r : RosterValue). r.names) e;
  bases_are = ap (λ (r : RosterValue). map (λ m. m.base) r.roots) e;
}

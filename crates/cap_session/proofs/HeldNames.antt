-- The words under which objects are loaded are names.
use Rattle.std.proofs.Common.{◌≡◌, ℕ, suc, zero, ◌+◌, ◌-◌, Bool, true, false, List, [], ◌∷◌, ◌++◌, length, map, refl, ap, sym, ◌∙◌, subst}
use Rattle.std.specs.Prelude.{All, Option, Some, None, Result, Ok, is_none, nat_le, nat_lt, if◌then◌else◌}
use Rattle.std.specs.Int.{next_multiple_of}
use Rattle.std.proofs.lemmas.List.Elements.{All-append, All-head, All-nil, All-push, All-tail, All-weaker}
use Rattle.cap_base.specs.Check.{number_of}
use Rattle.cap_base.specs.Steps.{◌>>=◌}
use Rattle.cap_base.specs.declared.check.Check.TheVariants.{ObjectCount}
use Rattle.cap_elf.specs.IsRead.{IsFileName, IsRead}
use Rattle.cap_elf.proofs.Passing.{find_all}
use Rattle.cap_session.specs.declared.refusal.OpenCause.TheVariants.{Full, Limit}
use Rattle.cap_session.specs.declared.refusal.OpenRefusal.{OpenRefusal}
use Rattle.cap_session.specs.Exact.{GivesRead}
use Rattle.cap_session.specs.Loading.{Fetch, Loaded, Source, answerer, at_path, closed, closed_by, first_unanswered, loaded_next, needed_names, next_free, next_object, one_more, path_of, records_of, with_needed}
use Rattle.cap_session.specs.Mappings.{IsName}
use Rattle.cap_session.proofs.Begins.{bind_ok, cause_ok_same, ok_same, seen_ok}
use Rattle.cap_session.proofs.ReadObjects.{AreLoaded, loaded_next-loads, object_same, placing, unrefused}

abbrev pub AreNamed : List Loaded → Type 0
AreNamed objects = All (λ (o : Loaded). IsName o.name) objects

file-named : (name : List ℕ) → IsFileName name → IsName name
file-named name h = (h.some, record { plain = h.plain; short = h.short })

needed-named : (objects : List Loaded) → All IsRead (map records_of objects) → All IsName (needed_names objects)
needed-named [] h = All-nil IsName
needed-named (o ∷ objects) h =
    let read : IsRead (records_of o) = All-head IsRead (records_of o) (map records_of objects) h in
    All-append IsName (records_of o).needed (needed_names objects) (All-weaker IsFileName IsName file-named (records_of o).needed read.needed_are)
    (needed-named objects (All-tail IsRead (records_of o) (map records_of objects) h))

unanswered-named : (objects : List Loaded) (name : List ℕ) → All IsRead (map records_of objects) → first_unanswered objects ≡ Some name → IsName name
unanswered-named objects name h e = find_all (λ word. is_none (answerer objects word)) IsName (needed_names objects) name e (needed-named objects h)

next-named : (fetch : Fetch) (dir : List ℕ) (objects : List Loaded) (name : List ℕ) (more : List Loaded) → AreNamed objects → IsName name → loaded_next fetch dir objects name ≡ Ok more → AreNamed more
next-named fetch dir objects name more h is-name e =
    let path = path_of dir (length objects) name in
    let one = seen_ok (at_path path) (one_more fetch path objects name) more e in
    let found = bind_ok (next_object fetch path (length objects) (next_free objects) name) (λ object. Ok (objects ++ object ∷ [])) more one in
    let few = unrefused (nat_le 256 (length objects)) (Limit (number_of ObjectCount)) (fetch path >>= placing (next_free objects) name) found.0 found.1 in
    let read = bind_ok (fetch path) (placing (next_free objects) name) found.0 few in
    let source : Source = read.0 in
    let base = next_multiple_of (next_free objects) source.records.align in
    let o : Loaded = record { name = name; source = source; base = base } in
    let same = unrefused (nat_lt 0x44000000 (base + source.records.span)) (Full source.records.span (0x44000000 - next_free objects)) (Ok o) found.0 read.2 in
    let is : found.0 ≡ o = sym (object_same o found.0 same) in
    subst AreNamed (ap (λ (x : Loaded). objects ++ x ∷ []) (sym is) ∙ cause_ok_same (objects ++ found.0 ∷ []) more found.2)
    (All-push (λ (x : Loaded). IsName x.name) objects o h is-name)

-- what a step keeps that loads an object for a name to which none answers
closed_by-needs : (P : List Loaded → Type 0) (n : ℕ) (fetch : Fetch) (dir : List ℕ) (objects last : List Loaded)
    → ((xs : List Loaded) (name : List ℕ) (more : List Loaded) → P xs → first_unanswered xs ≡ Some name → loaded_next fetch dir xs name ≡ Ok more → P more)
    → P objects → closed_by n fetch dir objects ≡ Ok last → P last
closed_by-needs P zero fetch dir objects last step h e = go (first_unanswered objects) refl e
  where
    go : (o : Option (List ℕ)) → first_unanswered objects ≡ o
        → ◌≡◌ {A = Result (List Loaded) OpenRefusal} (elim o [ None ↦ Ok objects | Some name ↦ loaded_next fetch dir objects name ]) (Ok last) → P last
    go None is e = subst P (ok_same objects last e) h
    go (Some name) is e = step objects name last h is e
closed_by-needs P (suc n) fetch dir objects last step h e = go (λ more. closed_by-needs P n fetch dir more last step) (first_unanswered objects) refl e
  where
    go : ((more : List Loaded) → P more → closed_by n fetch dir more ≡ Ok last → P last)
        → (o : Option (List ℕ)) → first_unanswered objects ≡ o
        → ◌≡◌ {A = Result (List Loaded) OpenRefusal} (elim o [ None ↦ Ok objects | Some name ↦ loaded_next fetch dir objects name >>= λ more. closed_by n fetch dir more ]) (Ok last) → P last
    go rest None is e = subst P (ok_same objects last e) h
    go rest (Some name) is e =
        let next = bind_ok (loaded_next fetch dir objects name) (closed_by n fetch dir) last e in
        rest next.0 (step objects name next.0 h is next.1) next.2

record AreNamedLoaded (objects : List Loaded) : Type 0 where
  pub loaded : AreLoaded objects
  pub named : AreNamed objects

one-named : (fetch : Fetch) (dir : List ℕ) (objects : List Loaded) (name : List ℕ) (more : List Loaded) → GivesRead fetch → AreNamedLoaded objects → IsName name → loaded_next fetch dir objects name ≡ Ok more → AreNamedLoaded more
one-named fetch dir objects name more given h is-name e =
    let are = loaded_next-loads fetch dir objects name more given h.loaded e in
    record { loaded = are.loaded; named = next-named fetch dir objects name more h.named is-name e }

pub needed-are-named : (fetch : Fetch) (dir : List ℕ) (objects : List Loaded) (name : List ℕ) (last : List Loaded) → GivesRead fetch → AreLoaded objects → AreNamed objects → IsName name → with_needed fetch dir objects name ≡ Ok last → AreNamed last
needed-are-named fetch dir objects name last given loaded named is-name e =
    let next = bind_ok (loaded_next fetch dir objects name) (closed fetch dir) last e in
    let first = one-named fetch dir objects name next.0 given (record { loaded = loaded; named = named }) is-name next.1 in
    let all = closed_by-needs AreNamedLoaded (256 - length next.0) fetch dir next.0 last
    (λ xs word more h is one. one-named fetch dir xs word more given h (unanswered-named xs word h.loaded.read is) one) first next.2 in
    all.named

pub opened-are-named : (fetch : Fetch) (dir : List ℕ) (objects : List Loaded) (name : List ℕ) (found : Bool) (last : List Loaded) → GivesRead fetch → AreLoaded objects → AreNamed objects → IsName name
    → (if found then Ok objects else with_needed fetch dir objects name) ≡ Ok last → AreNamed last
opened-are-named fetch dir objects name true last given loaded named is-name e = subst AreNamed (ok_same objects last e) named
opened-are-named fetch dir objects name false last given loaded named is-name e = needed-are-named fetch dir objects name last given loaded named is-name e

-- Where loading what is needed ends, each needed name is answered.
use Rattle.std.proofs.Common.{◌≡◌, ℕ, suc, zero, ◌+◌, ◌-◌, ◌<◌, ◌≤◌, List, [], ◌∷◌, ◌++◌, length, refl, ap, sym, subst, arith}
use Rattle.std.specs.Prelude.{Option, Some, None, Result, Ok, nat_le}
use Rattle.std.proofs.lemmas.Bool.{leb-false}
use Rattle.std.proofs.lemmas.List.{length-append}
use Rattle.cap_base.specs.Check.{number_of}
use Rattle.cap_base.specs.Steps.{◌>>=◌, ◌>>◌}
use Rattle.cap_base.specs.declared.check.Check.TheVariants.{ObjectCount}
use Rattle.cap_session.specs.declared.refusal.OpenCause.TheVariants.{Limit}
use Rattle.cap_session.specs.declared.refusal.OpenRefusal.{OpenRefusal}
use Rattle.cap_session.specs.Loading.{Fetch, Loaded, closed, closed_by, first_unanswered, loaded_next, next_free, next_object, one_more, at_path, path_of}
use Rattle.cap_session.proofs.Begins.{bind_ok, cause_ok_same, ok_same, seen_ok}
use Rattle.cap_session.proofs.ReadObjects.{passed, placing}

-- an object more: there were fewer than 256
record IsOneMore (objects more : List Loaded) : Type 0 where
  pub few : length objects < 256
  pub count : length more ≡ length objects + 1

next-is : (fetch : Fetch) (dir : List ℕ) (objects : List Loaded) (name : List ℕ) (more : List Loaded) → loaded_next fetch dir objects name ≡ Ok more → IsOneMore objects more
next-is fetch dir objects name more e =
    let path = path_of dir (length objects) name in
    let found = bind_ok (next_object fetch path (length objects) (next_free objects) name) (λ object. Ok (objects ++ object ∷ [])) more (seen_ok (at_path path) (one_more fetch path objects name) more e) in
    let same = ap length (sym (cause_ok_same (objects ++ found.0 ∷ []) more found.2)) in
    let count = length-append objects (found.0 ∷ []) in
    record {
      few = leb-false 256 (length objects) (passed (nat_le 256 (length objects)) (Limit (number_of ObjectCount)) (fetch path >>= placing (next_free objects) name) found.0 found.1);
      count = omega (arith, same, count);
    }

by-closed : (n : ℕ) (fetch : Fetch) (dir : List ℕ) (objects last : List Loaded) → 256 ≤ n + length objects → closed_by n fetch dir objects ≡ Ok last → first_unanswered last ≡ None
by-closed zero fetch dir objects last low e = go (first_unanswered objects) refl e
  where
    go : (o : Option (List ℕ)) → first_unanswered objects ≡ o
        → ◌≡◌ {A = Result (List Loaded) OpenRefusal} (elim o [ None ↦ Ok objects | Some name ↦ loaded_next fetch dir objects name ]) (Ok last) → first_unanswered last ≡ None
    go None is e = subst (λ (xs : List Loaded). first_unanswered xs ≡ None) (ok_same objects last e) is
    go (Some name) is e = absurd (let few = (next-is fetch dir objects name last e).few in omega (arith, low, few))
by-closed (suc n) fetch dir objects last low e = go (λ more. by-closed n fetch dir more last) (first_unanswered objects) refl e
  where
    go : ((more : List Loaded) → 256 ≤ n + length more → closed_by n fetch dir more ≡ Ok last → first_unanswered last ≡ None)
        → (o : Option (List ℕ)) → first_unanswered objects ≡ o
        → ◌≡◌ {A = Result (List Loaded) OpenRefusal} (elim o [ None ↦ Ok objects | Some name ↦ loaded_next fetch dir objects name >>= λ more. closed_by n fetch dir more ]) (Ok last) → first_unanswered last ≡ None
    go rest None is e = subst (λ (xs : List Loaded). first_unanswered xs ≡ None) (ok_same objects last e) is
    go rest (Some name) is e =
        let next = bind_ok (loaded_next fetch dir objects name) (closed_by n fetch dir) last e in
        let count = (next-is fetch dir objects name next.0 next.1).count in
        rest next.0 (omega (arith, low, count)) next.2

pub names-answered : (fetch : Fetch) (dir : List ℕ) (objects last : List Loaded) → closed fetch dir objects ≡ Ok last → first_unanswered last ≡ None
names-answered fetch dir objects last e = by-closed (256 - length objects) fetch dir objects last (omega arith) e

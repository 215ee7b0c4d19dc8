-- Loading leaves the objects that are there.
use Rattle.std.proofs.Common.{◌≡◌, ℕ, suc, zero, ◌+◌, ◌-◌, ◌<◌, ◌≤◌, Bool, true, false, List, [], ◌∷◌, ◌++◌, length, take, refl, ap, sym, ◌∙◌, subst, append_assoc, append-nil, arith}
use Rattle.std.specs.Prelude.{Option, Some, None, Result, Ok, Err, nat_le, nat_lt, is_some, if◌then◌else◌}
use Rattle.std.specs.Int.{next_multiple_of}
use Rattle.std.proofs.lemmas.List.{take_at, take_all}
use Rattle.cap_base.specs.Check.{number_of}
use Rattle.cap_base.specs.Steps.{◌>>=◌, ◌>>◌}
use Rattle.cap_base.specs.declared.check.Check.TheVariants.{ObjectCount}
use Rattle.cap_reloc.specs.Refusing.{refuse}
use Rattle.cap_session.specs.declared.refusal.OpenCause.{OpenCause}
use Rattle.cap_session.specs.declared.refusal.OpenCause.TheVariants.{Limit, Full}
use Rattle.cap_session.specs.declared.refusal.OpenRefusal.{OpenRefusal}
use Rattle.cap_session.specs.Loading.{Fetch, Loaded, refusal_as, first_unanswered, next_free, next_object, path_of, at_path, loaded_next, one_more, closed, closed_by, with_needed}

-- a first step that was taken, and the rest
pub bind_ok : {A B E : Type 0} (r : Result A E) (f : A → Result B E) (y : B) → (r >>= f) ≡ Ok y → (x : A) × (r ≡ Ok x) × (f x ≡ Ok y)
bind_ok (Ok x) f y h = (x, refl, h)
bind_ok (Err e) f y h = absurd cc

pub ok_same : {A : Type 0} (x y : A) → ◌≡◌ {A = Result A OpenRefusal} (Ok x) (Ok y) → x ≡ y
ok_same x y e = cc

pub cause_ok_same : {A : Type 0} (x y : A) → ◌≡◌ {A = Result A OpenCause} (Ok x) (Ok y) → x ≡ y
cause_ok_same x y e = cc

pub seen_ok : {A : Type 0} (view : OpenCause → OpenRefusal) (r : Result A OpenCause) (x : A) → refusal_as view r ≡ Ok x → r ≡ Ok x
seen_ok view (Ok y) x h = ap Ok (ok_same y x h)
seen_ok view (Err e) x h = absurd cc

-- one list begins with another
abbrev pub Begins : List Loaded → List Loaded → Type 0
Begins xs ys = (more : List Loaded) × (ys ≡ xs ++ more)

one_more-Begins : (fetch : Fetch) (path : List ℕ) (objects : List Loaded) (name : List ℕ) (more : List Loaded) → one_more fetch path objects name ≡ Ok more → Begins objects more
one_more-Begins fetch path objects name more h =
    let found = bind_ok (next_object fetch path (length objects) (next_free objects) name) (λ object. Ok (objects ++ object ∷ [])) more h in
    (found.0 ∷ [], sym (cause_ok_same (objects ++ found.0 ∷ []) more found.2))

loaded_next-Begins : (fetch : Fetch) (dir : List ℕ) (objects : List Loaded) (name : List ℕ) (more : List Loaded) → loaded_next fetch dir objects name ≡ Ok more → Begins objects more
loaded_next-Begins fetch dir objects name more h =
    one_more-Begins fetch (path_of dir (length objects) name) objects name more (seen_ok (at_path (path_of dir (length objects) name)) (one_more fetch (path_of dir (length objects) name) objects name) more h)

begins-same : (objects last : List Loaded) → ◌≡◌ {A = Result (List Loaded) OpenRefusal} (Ok objects) (Ok last) → Begins objects last
begins-same objects last e = ([], sym (ok_same objects last e) ∙ sym (append-nil objects))

begins-more : (xs ys zs : List Loaded) → Begins xs ys → Begins ys zs → Begins xs zs
begins-more xs ys zs a b = (a.0 ++ b.0, b.1 ∙ (ap (λ (l : List Loaded). l ++ b.0) a.1 ∙ append_assoc xs a.0 b.0))

closed_by-Begins : (n : ℕ) (fetch : Fetch) (dir : List ℕ) (objects last : List Loaded) → closed_by n fetch dir objects ≡ Ok last → Begins objects last
closed_by-Begins zero fetch dir objects last h = go (first_unanswered objects) h
  where
    go : (o : Option (List ℕ))
        → ◌≡◌ {A = Result (List Loaded) OpenRefusal} (elim o [ None ↦ Ok objects | Some name ↦ loaded_next fetch dir objects name ]) (Ok last) → Begins objects last
    go None e = begins-same objects last e
    go (Some name) e = loaded_next-Begins fetch dir objects name last e
closed_by-Begins (suc n) fetch dir objects last h = go (λ more. closed_by-Begins n fetch dir more last) (first_unanswered objects) h
  where
    go : ((more : List Loaded) → closed_by n fetch dir more ≡ Ok last → Begins more last)
        → (o : Option (List ℕ))
        → ◌≡◌ {A = Result (List Loaded) OpenRefusal} (elim o [ None ↦ Ok objects | Some name ↦ loaded_next fetch dir objects name >>= λ more. closed_by n fetch dir more ]) (Ok last) → Begins objects last
    go rest None e = begins-same objects last e
    go rest (Some name) e =
        let step = bind_ok (loaded_next fetch dir objects name) (closed_by n fetch dir) last e in
        begins-more objects step.0 last (loaded_next-Begins fetch dir objects name step.0 step.1) (rest step.0 step.2)

pub with_needed-Begins : (fetch : Fetch) (dir : List ℕ) (objects : List Loaded) (name : List ℕ) (last : List Loaded) → with_needed fetch dir objects name ≡ Ok last → take (length objects) last ≡ objects
with_needed-Begins fetch dir objects name last h =
    let step = bind_ok (loaded_next fetch dir objects name) (closed fetch dir) last h in
    let begins = begins-more objects step.0 last (loaded_next-Begins fetch dir objects name step.0 step.1) (closed_by-Begins (256 - length step.0) fetch dir step.0 last step.2) in
    ap (take (length objects)) begins.1 ∙ take_at objects begins.0 (length objects) refl

pub with_named-Begins : (fetch : Fetch) (dir : List ℕ) (objects : List Loaded) (name : List ℕ) (found : Bool) (last : List Loaded) → (if found then Ok objects else with_needed fetch dir objects name) ≡ Ok last → take (length objects) last ≡ objects
with_named-Begins fetch dir objects name true last h = subst (λ (xs : List Loaded). take (length objects) xs ≡ objects) (ok_same objects last h) (take_all (length objects) objects (let e : length objects ≤ length objects = omega arith in e))
with_named-Begins fetch dir objects name false last h = with_needed-Begins fetch dir objects name last h

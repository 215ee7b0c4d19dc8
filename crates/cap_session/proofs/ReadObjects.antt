-- The objects that loading gives were read, and lie one behind another.
use Rattle.std.proofs.Common.{◌≡◌, ℕ, suc, zero, ◌+◌, ◌-◌, ◌*◌, ◌/◌, ◌%◌, ◌<◌, ◌≤◌, Bool, true, false, List, [], ◌∷◌, ◌++◌, length, map, refl, ap, sym, ◌∙◌, subst, inl, inr, arith}
use Rattle.std.specs.Prelude.{All, Option, Some, None, Result, Ok, nat_le, nat_lt, if◌then◌else◌}
use Rattle.std.specs.Int.{next_multiple_of}
use Rattle.std.proofs.Math.Nat.{mul-mod_left, mul-mod_right, mod-lt, mod-eq_of_lt}
use Rattle.std.proofs.lemmas.Bool.{cases_eq, leb-false, ltb-false}
use Rattle.std.proofs.lemmas.List.{length-append, map-append}
use Rattle.std.proofs.lemmas.List.Elements.{All-nil, All-push}
use Rattle.std.proofs.lemmas.Nat.{div-add-mod'}
use Rattle.cap_base.specs.Check.{number_of}
use Rattle.cap_base.specs.Steps.{◌>>=◌, ◌>>◌}
use Rattle.cap_base.specs.declared.check.Check.TheVariants.{ObjectCount}
use Rattle.cap_elf.specs.DynView.{DynRecords}
use Rattle.cap_elf.specs.IsRead.{IsRead}
use Rattle.cap_reloc.specs.Refusing.{refuse}
use Rattle.cap_session.specs.declared.refusal.OpenCause.{OpenCause}
use Rattle.cap_session.specs.declared.refusal.OpenCause.TheVariants.{Limit, Full}
use Rattle.cap_session.specs.declared.refusal.OpenRefusal.{OpenRefusal}
use Rattle.cap_session.specs.Exact.{GivesRead, LieBehind}
use Rattle.cap_session.specs.Loading.{Fetch, Loaded, Source, closed, closed_by, first_unanswered, loaded_next, next_free, next_object, one_more, at_path, path_of, records_of, with_needed}
use Rattle.cap_session.proofs.Begins.{bind_ok, cause_ok_same, ok_same, seen_ok}

-- objects that were loaded: they were read, lie one behind another, and are 256 at most
pub record AreLoaded (objects : List Loaded) : Type 0 where
  pub few : length objects ≤ 256
  pub read : All IsRead (map records_of objects)
  pub behind : LieBehind 0x40000000 objects

rounded-multiple : (n g : ℕ) → 0 < g → next_multiple_of n g % g ≡ 0
rounded-multiple n g some =
    let split : n / g * g + n % g ≡ n = div-add-mod' n g in
    elim (cases_eq (n % g) 0) [
      | inl none ↦
          let whole : g - n % g ≡ g * 1 = omega (arith, none) in
          let nothing : (g - n % g) % g ≡ 0 = ap (λ (k : ℕ). k % g) whole ∙ mul-mod_right g 1 in
          let same : next_multiple_of n g ≡ n / g * g = omega (arith, nothing, split, none) in
          ap (λ (k : ℕ). k % g) same ∙ mul-mod_left (n / g) g
      | inr rest ↦
          let low : n % g < g = mod-lt n some in
          let small : g - n % g < g = omega (arith, rest, some) in
          let kept : (g - n % g) % g ≡ g - n % g = mod-eq_of_lt small in
          let same : next_multiple_of n g ≡ (n / g + 1) * g = omega (arith, kept, split, low) in
          ap (λ (k : ℕ). k % g) same ∙ mul-mod_left (n / g + 1) g
    ]

rounded-from : (n g : ℕ) → n ≤ next_multiple_of n g
rounded-from n g = omega arith

-- where the last of these ends
abbrev end_from : ℕ → List Loaded → ℕ
end_from from [] = from
end_from from (o ∷ objects) = end_from (o.base + (records_of o).span) objects

free-end : (x : ℕ) (o : Loaded) (objects : List Loaded) → next_free (o ∷ objects) ≡ end_from x (o ∷ objects)
free-end x o [] = refl
free-end x o (p ∷ objects) = free-end (o.base + (records_of o).span) p objects

free-is : (objects : List Loaded) → next_free objects ≡ end_from 0x40000000 objects
free-is [] = refl
free-is (o ∷ objects) = free-end 0x40000000 o objects

push : (from : ℕ) (objects : List Loaded) (o : Loaded) → LieBehind from objects → end_from from objects ≤ o.base → o.base % (records_of o).align ≡ 0 → o.base + (records_of o).span ≤ 0x44000000
    → LieBehind from (objects ++ o ∷ [])
push from [] o h low aligned high = (low, aligned, high)
push from (p ∷ objects) o h low aligned high = (h.0, h.1, push (p.base + (records_of p).span) objects o h.2 low aligned high)

-- the last steps of loading an object, from its file on
abbrev pub placing : ℕ → List ℕ → Source → Result Loaded OpenCause
placing free name source =
    let base = next_multiple_of free source.records.align in
    refuse (nat_lt 0x44000000 (base + source.records.span)) (Full source.records.span (0x44000000 - free))
    >> Ok (record { name = name; source = source; base = base })

pub passed : {B E : Type 0} (b : Bool) (e : E) (r : Result B E) (y : B) → (refuse b e >> r) ≡ Ok y → b ≡ false
passed true e r y h = absurd cc
passed false e r y h = refl

pub object_same : (x y : Loaded) → ◌≡◌ {A = Result Loaded OpenCause} (Ok x) (Ok y) → x ≡ y
object_same x y e = cc

pub unrefused : {B E : Type 0} (b : Bool) (e : E) (r : Result B E) (y : B) → (refuse b e >> r) ≡ Ok y → r ≡ Ok y
unrefused true e r y h = absurd cc
unrefused false e r y h = h

record_added : (objects : List Loaded) (o : Loaded) → All IsRead (map records_of objects) → IsRead (records_of o) → All IsRead (map records_of (objects ++ o ∷ []))
record_added objects o h r =
    subst (λ (rs : List DynRecords). All IsRead rs) (sym (map-append records_of objects (o ∷ []))) (All-push IsRead (map records_of objects) (records_of o) h r)

-- with an object more there is one
pub record AreSomeLoaded (objects : List Loaded) : Type 0 where
  pub loaded : AreLoaded objects
  pub some : 0 < length objects

one_more-loads : (fetch : Fetch) (path : List ℕ) (objects : List Loaded) (name : List ℕ) (more : List Loaded) → GivesRead fetch → AreLoaded objects
    → one_more fetch path objects name ≡ Ok more → AreSomeLoaded more
one_more-loads fetch path objects name more given h e =
    let found = bind_ok (next_object fetch path (length objects) (next_free objects) name) (λ object. Ok (objects ++ object ∷ [])) more e in
    let few = unrefused (nat_le 256 (length objects)) (Limit (number_of ObjectCount)) (fetch path >>= placing (next_free objects) name) found.0 found.1 in
    let below : length objects < 256 = leb-false 256 (length objects) (passed (nat_le 256 (length objects)) (Limit (number_of ObjectCount)) (fetch path >>= placing (next_free objects) name) found.0 found.1) in
    let read = bind_ok (fetch path) (placing (next_free objects) name) found.0 few in
    let source : Source = read.0 in
    let base = next_multiple_of (next_free objects) source.records.align in
    let o : Loaded = record { name = name; source = source; base = base } in
    let over = nat_lt 0x44000000 (base + source.records.span) in
    let room = passed over (Full source.records.span (0x44000000 - next_free objects)) (Ok o) found.0 read.2 in
    let same = unrefused over (Full source.records.span (0x44000000 - next_free objects)) (Ok o) found.0 read.2 in
    let is : found.0 ≡ o = sym (object_same o found.0 same) in
    let records : IsRead source.records = given.read path source read.1 in
    let some : 0 < source.records.align = (let low = records.align_low in omega (arith, low)) in
    let high : base + source.records.span ≤ 0x44000000 = ltb-false 0x44000000 (base + source.records.span) room in
    let low : end_from 0x40000000 objects ≤ base = subst (λ (free : ℕ). free ≤ base) (free-is objects) (rounded-from (next_free objects) source.records.align) in
    let count = length-append objects (o ∷ []) in
    let all : AreSomeLoaded (objects ++ o ∷ []) = record {
      loaded = record {
        few = omega (arith, count, below);
        read = record_added objects o h.read records;
        behind = push 0x40000000 objects o h.behind low (rounded-multiple (next_free objects) source.records.align some) high;
      };
      some = omega (arith, count);
    } in
    subst AreSomeLoaded (ap (λ (x : Loaded). objects ++ x ∷ []) (sym is) ∙ cause_ok_same (objects ++ found.0 ∷ []) more found.2) all

pub loaded_next-loads : (fetch : Fetch) (dir : List ℕ) (objects : List Loaded) (name : List ℕ) (more : List Loaded) → GivesRead fetch → AreLoaded objects → loaded_next fetch dir objects name ≡ Ok more → AreSomeLoaded more
loaded_next-loads fetch dir objects name more given h e =
    one_more-loads fetch (path_of dir (length objects) name) objects name more given h (seen_ok (at_path (path_of dir (length objects) name)) (one_more fetch (path_of dir (length objects) name) objects name) more e)

-- what each object more keeps holds at the end
pub closed_by-keeps : (P : List Loaded → Type 0) (n : ℕ) (fetch : Fetch) (dir : List ℕ) (objects last : List Loaded) → ((xs : List Loaded) (name : List ℕ) (more : List Loaded) → P xs → loaded_next fetch dir xs name ≡ Ok more → P more)
    → P objects → closed_by n fetch dir objects ≡ Ok last → P last
closed_by-keeps P zero fetch dir objects last step h e = go (first_unanswered objects) e
  where
    go : (o : Option (List ℕ))
        → ◌≡◌ {A = Result (List Loaded) OpenRefusal} (elim o [ None ↦ Ok objects | Some name ↦ loaded_next fetch dir objects name ]) (Ok last) → P last
    go None e = subst P (ok_same objects last e) h
    go (Some name) e = step objects name last h e
closed_by-keeps P (suc n) fetch dir objects last step h e = go (λ more. closed_by-keeps P n fetch dir more last step) (first_unanswered objects) e
  where
    go : ((more : List Loaded) → P more → closed_by n fetch dir more ≡ Ok last → P last)
        → (o : Option (List ℕ))
        → ◌≡◌ {A = Result (List Loaded) OpenRefusal} (elim o [ None ↦ Ok objects | Some name ↦ loaded_next fetch dir objects name >>= λ more. closed_by n fetch dir more ]) (Ok last) → P last
    go rest None e = subst P (ok_same objects last e) h
    go rest (Some name) e =
        let next = bind_ok (loaded_next fetch dir objects name) (closed_by n fetch dir) last e in
        rest next.0 (step objects name next.0 h next.1) next.2

pub needed-loads : (fetch : Fetch) (dir : List ℕ) (objects : List Loaded) (name : List ℕ) (last : List Loaded) → GivesRead fetch → AreLoaded objects → with_needed fetch dir objects name ≡ Ok last → AreSomeLoaded last
needed-loads fetch dir objects name last given h e =
    let next = bind_ok (loaded_next fetch dir objects name) (closed fetch dir) last e in
    closed_by-keeps AreSomeLoaded (256 - length next.0) fetch dir next.0 last (λ xs name more some. loaded_next-loads fetch dir xs name more given some.loaded)
    (loaded_next-loads fetch dir objects name next.0 given h next.1) next.2

pub named-loads : (fetch : Fetch) (dir : List ℕ) (objects : List Loaded) (name : List ℕ) (found : Bool) (last : List Loaded) → GivesRead fetch → AreSomeLoaded objects
    → (if found then Ok objects else with_needed fetch dir objects name) ≡ Ok last → AreSomeLoaded last
named-loads fetch dir objects name true last given h e = subst AreSomeLoaded (ok_same objects last e) h
named-loads fetch dir objects name false last given h e = needed-loads fetch dir objects name last given h.loaded e

pub none-loaded : AreLoaded []
none-loaded = record { few = omega arith; read = All-nil IsRead; behind = omega arith }

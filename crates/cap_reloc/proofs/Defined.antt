-- A definition that is chosen is defined.
use Rattle.std.proofs.Common.{◌≡◌, ℕ, zero, suc, ◌+◌, ◌<◌, ⊎_elim, Bool, true, false, cond, List, [], ◌∷◌, ◌++◌, length, get_or, map, filter, Option, Some, None, refl, ap, ◌∙◌, subst, arith}
use Rattle.std.specs.Prelude.{⊤, IfSome, zip, find}
use Rattle.std.specs.List.{enumerate_from}
use Rattle.std.specs.Option.{option_or}
use Rattle.std.proofs.lemmas.Bool.{cases_Bool, and_parts}
use Rattle.cap_elf.specs.declared.records.Symbol.{Symbol}
use Rattle.cap_elf.specs.DynView.{DynRecords}
use Rattle.cap_elf.specs.Exported.{is_defined}
use Rattle.cap_scope.specs.declared.choice.Hit.{Hit}
use Rattle.cap_scope.specs.declared.choice.Choice.{Choice}
use Rattle.cap_scope.specs.declared.choice.Choice.TheVariants as choices
use Rattle.cap_scope.specs.declared.choice.Rule.{Rule}
use Rattle.cap_scope.specs.Candidates.{NamedSymbol, is_named, is_global, can_be_chosen, candidate, candidates_in}
use Rattle.cap_scope.specs.Chosen.{object_at, candidates, chosen, decides, first_of, as_bound, choice_of}
use Rattle.cap_reloc.specs.declared.target.Target.{Target}
use Rattle.cap_reloc.specs.declared.target.Target.TheVariants.{Definition, Zero, Missing}
use Rattle.cap_reloc.specs.Wanted.{Setting, own, symbol_at, name_at, target_of, target_by, is_own, is_local, is_weak, no_symbol}

abbrev pub IsDefined : List DynRecords → Hit → Type 0
IsDefined objects hit = is_defined (symbol_at (object_at objects hit.object) hit.symbol).place ≡ true

abbrev ChoiceDefined : List DynRecords → Choice → Type 0
ChoiceDefined objects (choices.Strong hit) = IsDefined objects hit
ChoiceDefined objects (choices.Weak hit) = IsDefined objects hit
ChoiceDefined objects choices.None = Unit {0}

abbrev AllOf : {X : Type 0} → (X → Type 0) → List X → Type 0
AllOf D [] = ⊤
AllOf D (x ∷ xs) = D x × AllOf D xs

append_all : {X : Type 0} (D : X → Type 0) (xs ys : List X) → AllOf D xs → AllOf D ys → AllOf D (xs ++ ys)
append_all D [] ys h k = k
append_all D (x ∷ xs) ys h k = (h.0, append_all D xs ys h.1 k)

-- the symbols from the n-th on, with names
abbrev AreFrom : DynRecords → ℕ → List NamedSymbol → Type 0
AreFrom object n [] = ⊤
AreFrom object n (z ∷ zs) = (symbol_at object n ≡ z.0) × AreFrom object (n + 1) zs

bound_here : (objects : List DynRecords) (i n : ℕ) (s : Symbol) (b : Bool) → is_defined (symbol_at (object_at objects i) n).place ≡ true → ChoiceDefined objects (cond b (choices.Strong (record { object = i; symbol = n })) (choices.Weak (record { object = i; symbol = n })))
bound_here objects i n s true h = h
bound_here objects i n s false h = h

named_defined : (objects : List DynRecords) (i : ℕ) (name : List ℕ) (n : ℕ) (zs : List NamedSymbol) → AreFrom (object_at objects i) n zs → AllOf (λ c. ChoiceDefined objects (as_bound c)) (map (λ s. candidate i s) (filter (λ s. is_named name s.1) (enumerate_from n zs)))
named_defined objects i name n [] are = tt
named_defined objects i name n (z ∷ zs) are =
    let rest : AllOf (λ c. ChoiceDefined objects (as_bound c)) (map (λ s. candidate i s) (filter (λ s. is_named name s.1) (enumerate_from (n + 1) zs))) = named_defined objects i name (n + 1) zs are.1 in
    ⊎_elim
    (λ (h : is_named name z ≡ true).
    let chosen_one : can_be_chosen z.0 ≡ true = (and_parts _ _ h).0 in
    let defined : is_defined z.0.place ≡ true = (and_parts _ _ (and_parts _ _ chosen_one).0).0 in
    let here : is_defined (symbol_at (object_at objects i) n).place ≡ true = ap (λ (s : Symbol). is_defined s.place) are.0 ∙ defined in
    rw h (bound_here objects i n z.0 (is_global z.0) here, rest))
    (λ (h : is_named name z ≡ false). rw h rest)
    (cases_Bool (is_named name z))

drop_from : (object : DynRecords) (n : ℕ) (ss : List Symbol) (ns : List (List ℕ)) → ((k : ℕ) → k < length ss → symbol_at object (n + k) ≡ get_or ss k no_symbol) → AreFrom object n (zip ss ns)
drop_from object n [] ns h = tt
drop_from object n (s ∷ ss) [] h = tt
drop_from object n (s ∷ ss) (name ∷ ns) h = (
  (let e : n + zero ≡ n = omega arith in subst (λ (m : ℕ). symbol_at object m ≡ s) e (h zero (omega arith))),
  drop_from object (n + 1) ss ns (λ k lt. let e : n + suc k ≡ (n + 1) + k = omega arith in subst (λ (m : ℕ). symbol_at object m ≡ get_or ss k no_symbol) e (h (suc k) (omega (arith, lt)))),
)

object_defined : (objects : List DynRecords) (i : ℕ) (name : List ℕ) → AllOf (λ c. ChoiceDefined objects (as_bound c)) (candidates_in (object_at objects i) i name)
object_defined objects i name =
    let object : DynRecords = object_at objects i in
    named_defined objects i name 0 (zip object.symbols object.names) (drop_from object 0 object.symbols object.names (λ k lt. let e : 0 + k ≡ k = omega arith in rw e refl))

scope_defined : (objects : List DynRecords) (scope : List ℕ) (name : List ℕ) → AllOf (λ c. ChoiceDefined objects (as_bound c)) (candidates objects scope name)
scope_defined objects [] name = tt
scope_defined objects (i ∷ scope) name = append_all (λ c. ChoiceDefined objects (as_bound c)) (candidates_in (object_at objects i) i name) (candidates objects scope name) (object_defined objects i name) (scope_defined objects scope name)

found_all : {X : Type 0} (D : X → Type 0) (p : X → Bool) (xs : List X) → AllOf D xs → IfSome (find p xs) D
found_all D p [] h = tt
found_all D p (x ∷ xs) h = ⊎_elim (λ (e : p x ≡ true). rw e h.0) (λ (e : p x ≡ false). rw e (found_all D p xs h.1)) (cases_Bool (p x))

or_all : {X : Type 0} (D : X → Type 0) (a b : Option X) → IfSome a D → IfSome b D → IfSome (option_or a b) D
or_all D (Some x) b h k = h
or_all D None b h k = k

first_all : (objects : List DynRecords) (cs : List _) → AllOf (λ c. ChoiceDefined objects (as_bound c)) cs → IfSome (first_of cs) (λ c. ChoiceDefined objects (as_bound c))
first_all objects [] h = tt
first_all objects (c ∷ cs) h = h.0

choice_defined : (objects : List DynRecords) (o : Option _) → IfSome o (λ c. ChoiceDefined objects (as_bound c)) → ChoiceDefined objects (choice_of o)
choice_defined objects None h = tt
choice_defined objects (Some c) h = h

chosen_defined : (rule : Rule) (objects : List DynRecords) (scope : List ℕ) (name : List ℕ) → ChoiceDefined objects (chosen rule objects scope name)
chosen_defined rule objects scope name =
    let cs = candidates objects scope name in
    let all = scope_defined objects scope name in
    choice_defined objects (option_or (find (decides rule) cs) (first_of cs))
    (or_all (λ c. ChoiceDefined objects (as_bound c)) (find (decides rule) cs) (first_of cs) (found_all (λ c. ChoiceDefined objects (as_bound c)) (decides rule) cs all) (first_all objects cs all))

abbrev pub TargetDefined : List DynRecords → Target → Type 0
TargetDefined objects (Definition hit) = IsDefined objects hit
TargetDefined objects Zero = Unit {0}
TargetDefined objects Missing = Unit {0}

by_defined : (objects : List DynRecords) (s : Symbol) (choice : Choice) → ChoiceDefined objects choice → TargetDefined objects (target_by s choice)
by_defined objects s (choices.Strong hit) h = h
by_defined objects s (choices.Weak hit) h = h
by_defined objects s choices.None h = ⊎_elim (λ (e : is_weak s ≡ true). rw e tt) (λ (e : is_weak s ≡ false). rw e tt) (cases_Bool (is_weak s))

if_target : (objects : List DynRecords) (b : Bool) (t u : Target) → (b ≡ true → TargetDefined objects t) → (b ≡ false → TargetDefined objects u) → TargetDefined objects (cond b t u)
if_target objects true t u h k = h refl
if_target objects false t u h k = k refl

pub target_defined : (setting : Setting) (i : ℕ) → TargetDefined setting.objects (target_of setting i)
unfolding target_of
target_defined setting i =
    let objects = setting.objects in
    let s : Symbol = symbol_at (own setting) i in
    if_target objects _ Zero _ (λ h. tt) (λ h.
    if_target objects (is_own s) (Definition (record { object = setting.index; symbol = i })) _ (λ h. (and_parts _ _ h).0) (λ h.
    if_target objects (is_local s) Zero (target_by s (chosen setting.rule objects setting.scope (name_at (own setting) i))) (λ h. tt) (λ h.
    by_defined objects s (chosen setting.rule objects setting.scope (name_at (own setting) i)) (chosen_defined setting.rule objects setting.scope (name_at (own setting) i)))))

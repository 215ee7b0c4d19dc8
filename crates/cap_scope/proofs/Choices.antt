-- The choice in a scope, member by member.
use Rattle.std.proofs.Common.{◌≡◌, ℕ, zero, suc, ◌+◌, ◌<◌, ◌≤◌, Bool, true, false, cond, List, [], ◌∷◌, ◌++◌, length, get_or, take, drop, map, Option, Some, None, inl, inr, refl, sym, ap, ◌∙◌, subst, arith, add-one, drop-cons}
use Rattle.std.specs.Prelude.{◌==◌, find, IfSome, filter, sum_by, zip}
use Rattle.std.specs.List.{enumerate_from}
use Rattle.std.specs.Option.{option_or}
use Rattle.std.proofs.lemmas.Bool.{eq-eqb, ne_eqb, cases_Bool, cases_eq, false_from_ne_true}
use Rattle.std.proofs.lemmas.List.{take_all, drop_all, get_or_default}
use Rattle.std.proofs.lemmas.List.Sums.{sum_by_more}
use Rattle.cap_elf.specs.DynView.{DynRecords, DynValue}
use Rattle.cap_scope.specs.declared.choice.Candidate.{Candidate}
use Rattle.cap_scope.specs.declared.choice.Rule.{Rule}
use Rattle.cap_scope.specs.declared.choice.Rule.TheVariants.{NonWeak, First}
use Rattle.cap_scope.specs.declared.choice.Choice.{Choice}
use Rattle.cap_scope.specs.declared.choice.Choice.TheVariants as choices
use Rattle.cap_scope.specs.Candidates.{NamedSymbol, candidate, candidates_in, is_named, list_of}
use Rattle.cap_scope.specs.Chosen.{object_at, candidates, decides, first_of, as_bound, choice_of, chosen_from, up_to_first, passed, walk_in, no_file, IsHit, IsThere}

own : (i : ℕ) (c : Candidate) (ys : List (ℕ × NamedSymbol)) → map (λ s. candidate i s) ys ≡ c ∷ [] → c.hit.object ≡ i
own i c [] e = absurd (cc e)
own i c (y ∷ ys) e = let same : candidate i y ≡ c = cc e in ap (λ d. d.hit.object) (sym same)

own_object : (object : DynRecords) (i : ℕ) (name : List ℕ) (c : Candidate) → candidates_in object i name ≡ c ∷ [] → c.hit.object ≡ i
own_object object i name c e = own i c (filter (λ s. is_named name s.1) (enumerate_from 0 (zip object.symbols object.names))) e

up_to : (o : ℕ) (scope : List ℕ) (k : ℕ) → k < length scope → get_or scope k 0 ≡ o → ((j : ℕ) → j < k → get_or scope j 0 ≡ o → ⊥) → up_to_first (λ i. i == o) scope ≡ take (k + 1) scope
up_to o [] k lt e before = absurd (omega (arith, lt))
up_to o (x ∷ scope) zero lt e before =
    let one : suc 0 ≡ 0 + 1 = omega arith in
    ap (λ b. cond b (x ∷ []) (x ∷ up_to_first (λ i. i == o) scope)) (eq-eqb x o e) ∙ ap (λ n. take n (x ∷ scope)) one
up_to o (x ∷ scope) (suc k) lt e before =
    let one : suc (k + 1) ≡ suc k + 1 = omega arith in
    ap (λ b. cond b (x ∷ []) (x ∷ up_to_first (λ i. i == o) scope)) (ne_eqb x o (before 0 (omega arith)))
    ∙ ap (λ l. x ∷ l) (up_to o scope k (omega (arith, lt)) e (λ j jk. before (suc j) (omega (arith, jk))))
    ∙ ap (λ n. take n (x ∷ scope)) one

-- a search over the definitions of one object
module _ (q : Candidate → Bool) where
  missed : (c : Candidate) → find q (c ∷ []) ≡ None → q c ≡ false
  missed c h = false_from_ne_true _ (λ t. let e : Some c ≡ None = sym (ap (λ b. cond b (Some c) None) t) ∙ h in absurd (cc e))

  found_is : (found : Option Candidate) (c : Candidate) → find q (list_of found) ≡ Some c → (found ≡ Some c) × (q c ≡ true)
  found_is None c e = absurd (cc e)
  found_is (Some d) c e =
      elim (cases_Bool (q d)) [
        | inl hit ↦
            let some : Some d ≡ Some c = sym (ap (λ b. cond b (Some d) None) hit) ∙ e in
            let same : d ≡ c = cc some in
            (some, ap q (sym same) ∙ hit)
        | inr miss ↦ let none : None ≡ Some c = sym (ap (λ b. cond b (Some d) None) miss) ∙ e in absurd (cc none)
      ]

  find-front : (cs rest : List Candidate) (c : Candidate) → find q cs ≡ Some c → find q (cs ++ rest) ≡ Some c
  find-front [] rest c h = absurd (cc h)
  find-front (d ∷ cs) rest c h =
      elim (cases_Bool (q d)) [
        | inl hit ↦ ap (λ b. cond b (Some d) (find q (cs ++ rest))) hit ∙ sym (ap (λ b. cond b (Some d) (find q cs)) hit) ∙ h
        | inr miss ↦ ap (λ b. cond b (Some d) (find q (cs ++ rest))) miss ∙ find-front cs rest c (sym (ap (λ b. cond b (Some d) (find q cs)) miss) ∙ h)
      ]

choice-more : (rule : Rule) (before found : Option Candidate) (rest : List Candidate) → find (decides rule) (list_of found) ≡ None → chosen_from rule before (list_of found ++ rest) ≡ chosen_from rule (option_or before found) rest
choice-more rule None None rest h = refl
choice-more rule (Some w) None rest h = refl
choice-more rule None (Some c) rest h = ap (λ b. choice_of (option_or (cond b (Some c) (find (decides rule) rest)) (Some c))) (missed (decides rule) c h)
choice-more rule (Some w) (Some c) rest h = ap (λ b. choice_of (option_or (cond b (Some c) (find (decides rule) rest)) (Some w))) (missed (decides rule) c h)

-- which members of the scope are passed where the search ends with a definition, and where it doesn't
passed_stop : (rule : Rule) (c : Candidate) (scope : List ℕ) → decides rule c ≡ true → passed rule (as_bound c) scope ≡ up_to_first (λ i. i == c.hit.object) scope
passed_stop NonWeak c scope d = ap (λ b. passed NonWeak (cond b (choices.Strong c.hit) (choices.Weak c.hit)) scope) d
passed_stop First c scope d =
    elim (cases_Bool c.is_strong) [
      | inl s ↦ ap (λ b. passed First (cond b (choices.Strong c.hit) (choices.Weak c.hit)) scope) s
      | inr w ↦ ap (λ b. passed First (cond b (choices.Strong c.hit) (choices.Weak c.hit)) scope) w
    ]

passed_end : (rule : Rule) (first : Option Candidate) (scope : List ℕ) → find (decides rule) (list_of first) ≡ None → passed rule (choice_of first) scope ≡ scope
passed_end NonWeak None scope h = refl
passed_end First None scope h = refl
passed_end NonWeak (Some c) scope h = ap (λ b. passed NonWeak (cond b (choices.Strong c.hit) (choices.Weak c.hit)) scope) (missed (decides NonWeak) c h)
passed_end First (Some c) scope h = absurd (cc h)

pub deciding_is : (rule : Rule) (found : Option Candidate) (c : Candidate) → find (decides rule) (list_of found) ≡ Some c → found ≡ Some c
deciding_is rule found c e = (found_is (decides rule) found c e).0

pub undecided : (rule : Rule) (before found : Option Candidate) → find (decides rule) (list_of before) ≡ None → find (decides rule) (list_of found) ≡ None → find (decides rule) (list_of (option_or before found)) ≡ None
undecided rule None found a b = b
undecided rule (Some c) found a b = a

module _ (rule : Rule) (objects : List DynRecords) (scope name : List ℕ) (k : ℕ) (before : Option Candidate) (total : Choice) (so_far : chosen_from rule before (candidates objects (drop k scope) name) ≡ total) where
  abbrev here_of : ℕ → List Candidate
  here_of j = candidates_in (object_at objects (get_or scope j 0)) (get_or scope j 0) name

  -- the scope is gone through
  pub choice_end : length scope ≤ k → choice_of before ≡ total
  choice_end past =
      let none : drop k scope ≡ [] = drop_all k scope past in
      last before ∙ sym (ap (λ s. chosen_from rule before (candidates objects s name)) none) ∙ so_far
    where
      last : (before : Option Candidate) → choice_of before ≡ chosen_from rule before []
      last None = refl
      last (Some c) = refl

  pub walk_end : length scope ≤ k → find (decides rule) (list_of before) ≡ None → sum_by (walk_in objects name) (take k scope) ≡ sum_by (walk_in objects name) (passed rule total scope)
  walk_end past none =
      ap (sum_by (walk_in objects name)) (take_all k scope past ∙ sym (passed_end rule before scope none))
      ∙ ap (λ t. sum_by (walk_in objects name) (passed rule t scope)) (choice_end past)

  module _ (lt : k < length scope) (found : Option Candidate) (here : here_of k ≡ list_of found) where
    abbrev rest : List Candidate
    rest = candidates objects (drop (k + 1) scope) name

    split : chosen_from rule before (list_of found ++ rest) ≡ total
    split =
        let front : drop k scope ≡ get_or scope k 0 ∷ drop (k + 1) scope = rw (add-one, drop-cons scope k 0) in
        sym (ap (λ s. chosen_from rule before (candidates objects s name)) front ∙ ap (λ cs. chosen_from rule before (cs ++ rest)) here) ∙ so_far

    pub choice_skip : find (decides rule) (list_of found) ≡ None → chosen_from rule (option_or before found) rest ≡ total
    choice_skip none = sym (choice-more rule before found rest none) ∙ split

    pub choice_stop : (c : Candidate) → find (decides rule) (list_of found) ≡ Some c → as_bound c ≡ total
    choice_stop c one = sym (ap (λ o. choice_of (option_or o (option_or before (first_of (list_of found ++ rest))))) (find-front (decides rule) (list_of found) rest c one)) ∙ split

    pub walk_stop : (c : Candidate) → find (decides rule) (list_of found) ≡ Some c → ((j : ℕ) → j < k → find (decides rule) (here_of j) ≡ None) → sum_by (walk_in objects name) (take k scope) + walk_in objects name (get_or scope k 0) ≡ sum_by (walk_in objects name) (passed rule total scope)
    walk_stop c one none_before =
        let is = found_is (decides rule) found c one in
        let object : c.hit.object ≡ get_or scope k 0 = own_object (object_at objects (get_or scope k 0)) (get_or scope k 0) name c (here ∙ ap list_of is.0) in
        let stop : up_to_first (λ i. i == c.hit.object) scope ≡ take (k + 1) scope = up_to c.hit.object scope k lt (sym object) (λ j jk same.
        let none : find (decides rule) (here_of k) ≡ None = sym (ap (λ i. find (decides rule) (candidates_in (object_at objects i) i name)) (same ∙ object)) ∙ none_before j jk in
        let both : Some c ≡ None = sym one ∙ sym (ap (find (decides rule)) here) ∙ none in absurd (cc both)) in
        sym (sum_by_more (walk_in objects name) scope k 0 lt)
        ∙ ap (sum_by (walk_in objects name)) (sym stop ∙ sym (passed_stop rule c scope is.1))
        ∙ ap (λ t. sum_by (walk_in objects name) (passed rule t scope)) (choice_stop c one)

    pub none_more : find (decides rule) (list_of found) ≡ None → ((j : ℕ) → j < k → find (decides rule) (here_of j) ≡ None) → (j : ℕ) → j < k + 1 → find (decides rule) (here_of j) ≡ None
    none_more none none_before j jk =
        elim (cases_eq j k) [
          | inl same ↦ ap (λ n. find (decides rule) (here_of n)) same ∙ ap (find (decides rule)) here ∙ none
          | inr other ↦ none_before j (omega (arith, jk, other))
        ]

-- a definition that is there, as it is chosen
pub bound_there : (objects : List DynValue) (c : Candidate) → IsHit objects c.hit → IsThere objects (as_bound c)
bound_there objects c h =
    elim (cases_Bool c.is_strong) [
      | inl s ↦ subst (λ (b : Bool). IsThere objects (cond b (choices.Strong c.hit) (choices.Weak c.hit))) (sym s) h
      | inr w ↦ subst (λ (b : Bool). IsThere objects (cond b (choices.Strong c.hit) (choices.Weak c.hit))) (sym w) h
    ]

pub choice_there : (objects : List DynValue) (first : Option Candidate) → IfSome first (λ c. IsHit objects c.hit) → IsThere objects (choice_of first)
choice_there objects None h = tt
choice_there objects (Some c) h = bound_there objects c h

pub earlier_there : (objects : List DynValue) (before found : Option Candidate) → IfSome before (λ c. IsHit objects c.hit) → IfSome found (λ c. IsHit objects c.hit) → IfSome (option_or before found) (λ c. IsHit objects c.hit)
earlier_there objects None found a b = b
earlier_there objects (Some c) found a b = a

-- a definition in the object of a number is there
pub hit_there : (objects : List DynValue) (i : ℕ) (object : DynValue) (found : Option Candidate) → i < length objects → object ≡ get_or objects i object → IfSome found (λ c. (c.hit.object ≡ i) × (c.hit.symbol < length object.records.symbols)) → IfSome found (λ c. IsHit objects c.hit)
hit_there objects i object None lt at h = tt
hit_there objects i object (Some c) lt at h =
    let same : get_or objects c.hit.object no_file ≡ object = ap (λ j. get_or objects j no_file) h.0 ∙ get_or_default objects i no_file object lt ∙ sym at in
    record {
      object = omega (arith, h.0, lt);
      symbol = subst (λ (o : DynValue). c.hit.symbol < length o.records.symbols) (sym same) h.1;
    }

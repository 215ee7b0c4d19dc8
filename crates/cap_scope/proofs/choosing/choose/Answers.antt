use Rattle.std.proofs.Common.{◌≡◌, ℕ, ◌+◌, ◌<◌, ◌^◌, List, ◌∙◌, sym, ap, subst, arith, length, map, drop, Option, Some, None}
use Rattle.std.specs.Prelude.{slice_index, take, sum_by, find, IfSome}
use Rattle.std.proofs.lemmas.List.{get_or-map}
use Rattle.std.proofs.lemmas.List.Elements.{All-get_or}
use Rattle.std.proofs.lemmas.List.Sums.{sum_by_more}
use Rattle.cap_elf.specs.DynView.{DynRecords}
use Rattle.cap_chain.specs.Adopted.{walk_of}
use Rattle.cap_scope.specs.declared.choice.Candidate.{Candidate}
use Rattle.cap_scope.specs.declared.choice.Choice.{Choice}
use Rattle.cap_scope.specs.Candidates.{candidates_in, hash_table, list_of}
use Rattle.cap_scope.specs.Chosen.{object_at, no_records, candidates, chosen, chosen_from, decides, walk_in, IsHit, IsThere}
use Rattle.cap_scope.proofs.Choices.{choice_skip, walk_stop, none_more, undecided, deciding_is, bound_there, choice_there, earlier_there, hit_there}
use Rattle.cap_scope.proofs.choosing.choose.Goals as goal

pub returns-in-Some-clause-there : goal.returns-in-Some-clause-there
returns-in-Some-clause-there c =
    let objects = c.args.objects.now in
    let scope = c.args.scope.now in
    let i : ℕ = slice_index scope c.loop-i.i-index in
    let low : i < length objects = All-get_or (λ j. j < length objects) scope c.loop-i.i-index 0 (omega arith) c.requires.members in
    let found : c.look_up-here.result.found ≡ Some c.in-Some.candidate = deciding_is c.args.rule c.look_up-here.result.found c.in-Some.candidate c.in-Some.ensures in
    let there : IfSome c.look_up-here.result.found (λ d. IsHit objects d.hit) = hit_there objects i c.index-objects-i.result c.look_up-here.result.found low c.index-objects-i.is c.look_up-here.ensures.there in
    subst (λ (r : Choice). IsThere objects r) (sym c.as_bound.ensures) (bound_there objects c.in-Some.candidate (subst (λ (o : Option Candidate). IfSome o (λ d. IsHit objects d.hit)) found there))

pub returns-clause-there : goal.returns-clause-there
returns-clause-there c =
    subst (λ (r : Choice). IsThere c.args.objects.now r) (sym c.choice_of.ensures) (choice_there c.args.objects.now c.loop-i.first c.loop-i.invariant.there)

pub returns-in-Some-clause-walked : goal.returns-in-Some-clause-walked
returns-in-Some-clause-walked c =
    let objects : List DynRecords = map (λ o. o.records) c.args.objects.now in
    let scope = c.args.scope.now in
    let name = c.args.name.now in
    let k : ℕ = c.loop-i.i-index in
    let i : ℕ = slice_index scope k in
    let lt : k < length scope = omega arith in
    let low : i < length c.args.objects.now = All-get_or (λ j. j < length c.args.objects.now) scope k 0 lt c.requires.members in
    let object : object_at objects i ≡ c.index-objects-i.result.records = get_or-map (λ o. o.records) c.args.objects.now i c.index-objects-i.result no_records low ∙ ap (λ o. o.records) (sym c.index-objects-i.is) in
    let here : candidates_in (object_at objects i) i name ≡ list_of c.look_up-here.result.found = ap (λ o. candidates_in o i name) object ∙ c.look_up-here.ensures.value in
    let w : c.from-walked.result ≡ walk_in objects name i = c.from-walked.ensures ∙ c.look_up-here.ensures.walked ∙ ap (λ o. walk_of (hash_table o) name) (sym object) in
    let sum : c.loop-i.walked + c.from-walked.result ≡ sum_by (walk_in objects name) (take k scope) + walk_in objects name i = omega (arith, w, c.loop-i.invariant.walked) in
    sum ∙ walk_stop c.args.rule objects scope name k c.loop-i.first (chosen c.args.rule objects scope name) c.loop-i.invariant.choice lt c.look_up-here.result.found here c.in-Some.candidate c.in-Some.ensures c.loop-i.invariant.none

pub loop-i-preserved : goal.loop-i-preserved
loop-i-preserved c =
    let objects : List DynRecords = map (λ o. o.records) c.args.objects.now in
    let scope = c.args.scope.now in
    let name = c.args.name.now in
    let rule = c.args.rule in
    let k : ℕ = c.loop-i.i-index in
    let i : ℕ = slice_index scope k in
    let lt : k < length scope = omega arith in
    let low : i < length c.args.objects.now = All-get_or (λ j. j < length c.args.objects.now) scope k 0 lt c.requires.members in
    let object : object_at objects i ≡ c.index-objects-i.result.records = get_or-map (λ o. o.records) c.args.objects.now i c.index-objects-i.result no_records low ∙ ap (λ o. o.records) (sym c.index-objects-i.is) in
    let here : candidates_in (object_at objects i) i name ≡ list_of c.look_up-here.result.found = ap (λ o. candidates_in o i name) object ∙ c.look_up-here.ensures.value in
    let w : c.from-walked.result ≡ walk_in objects name i = c.from-walked.ensures ∙ c.look_up-here.ensures.walked ∙ ap (λ o. walk_of (hash_table o) name) (sym object) in
    let none : c.if_deciding.result ≡ None = c.in_default.is in
    let missed : find (decides rule) (list_of c.look_up-here.result.found) ≡ None = c.if_deciding.ensures ∙ none in
    let fits : c.from-walked.result < 2 ^ 32 = omega arith in
    let total = chosen rule objects scope name in
    record {
      choice = ap (λ o. chosen_from rule o (candidates objects (drop (k + 1) scope) name)) c.earlier-first.ensures ∙ choice_skip rule objects scope name k c.loop-i.first total c.loop-i.invariant.choice lt c.look_up-here.result.found here missed;
      walked = omega (arith, w, c.loop-i.invariant.walked, sum_by_more (walk_in objects name) scope k 0 lt);
      small = omega (arith, fits, c.loop-i.invariant.small);
      first = ap (λ o. find (decides rule) (list_of o)) c.earlier-first.ensures ∙ undecided rule c.loop-i.first c.look_up-here.result.found c.loop-i.invariant.first missed;
      there =
          subst (λ (o : Option Candidate). IfSome o (λ d. IsHit c.args.objects.now d.hit)) (sym c.earlier-first.ensures)
          (earlier_there c.args.objects.now c.loop-i.first c.look_up-here.result.found c.loop-i.invariant.there (hit_there c.args.objects.now i c.index-objects-i.result c.look_up-here.result.found low c.index-objects-i.is c.look_up-here.ensures.there));
      none = none_more rule objects scope name k c.loop-i.first total c.loop-i.invariant.choice lt c.look_up-here.result.found here missed c.loop-i.invariant.none;
    }

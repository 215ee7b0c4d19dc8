use Rattle.std.proofs.Common.{◌≡◌, ℕ, ◌+◌, ◌<◌, List, [], ◌∷◌, ◌++◌, Option, None, Some, get_or, length, map, take, sym, ap, ◌∙◌, subst, arith}
use Rattle.std.specs.Prelude.{find, slice_index_or}
use Rattle.std.proofs.lemmas.List.{length-append}
use Rattle.std.proofs.lemmas.Result.{err_from_is_err_and}
use Rattle.cap_base.specs.Outside.{Store}
use Rattle.cap_session.specs.Closing.{Behind, Goes, Stops, is_unanswered, needed_by}
use Rattle.cap_session.specs.Roster.{RosterValue, IsRoster, answerer_in}
use Rattle.cap_session.proofs.Closings.{answered_more, behind_deps, behind_trans, goes_deps, goes_trans, needed_stays, stops_later}
use Rattle.cap_session.proofs.Unanswered.{none_unanswered}
use Rattle.cap_session.proofs.roster.Roster.enter_deps.Goals as goal

pub dependency-requires-clause-before : goal.dependency-requires-clause-before
dependency-requires-clause-before g c =
    let s = c.loop-k.self in
    let inv = c.loop-k.invariant in
    let ns = needed_by c.args.self.now c.args.i in
    ap (λ (names : List (List ℕ)). find (is_unanswered s) (take c.loop-k.k names)) (needed_stays c.args.self.now s c.args.i inv.behind c.requires.inside)
    ∙ none_unanswered (answerer_in s) (take c.loop-k.k ns) c.loop-k.of.items inv.answered

pub returns-in_err-d-clause-closes : goal.returns-in_err-d-clause-closes
returns-in_err-d-clause-closes g c =
    let p = err_from_is_err_and c.from_residual.result c.from_residual.ensures.1 in
    let inv = c.loop-k.invariant in
    let refusal = c.in_err-d.field-0.0 in
    rw (p.1, p.2) (stops_later (g.F.Files.told c.args.files.now) c.args.self.now c.loop-k.self refusal inv.behind.dir inv.goes
    (subst (λ (told : Option Store). Stops told c.loop-k.self refusal) inv.told c.in_err-d.ensures.closes))

pub returns-in_err-d-clause-behind : goal.returns-in_err-d-clause-behind
returns-in_err-d-clause-behind g c = behind_trans c.args.self.now c.loop-k.self c.dependency.new.self c.loop-k.invariant.behind c.dependency.ensures.behind

pub returns-in_default-clause-behind : goal.returns-in_default-clause-behind
returns-in_default-clause-behind g c = behind_trans c.args.self.now c.loop-k.self c.dependency.new.self c.loop-k.invariant.behind c.dependency.ensures.behind

pub loop-k-preserved : goal.loop-k-preserved
loop-k-preserved g c =
    let old = c.args.self.now in
    let s = c.loop-k.self in
    let new = c.dependency.new.self in
    let inv = c.loop-k.invariant in
    let dep = c.in_ok-d.ensures in
    let ns = needed_by old c.args.i in
    let told = g.F.Files.told c.args.files.now in
    let same = needed_stays old s c.args.i inv.behind c.requires.inside in
    let here : answerer_in new (get_or ns c.loop-k.k []) ≡ Some c.in_ok-d.d = subst (λ (names : List (List ℕ)). answerer_in new (get_or names c.loop-k.k []) ≡ Some c.in_ok-d.d) same dep.answers in
    let low : c.loop-k.k < length ns = omega (arith, c.loop-k-test.true, c.needed_len-k-end.ensures) in
    record {
      goes = goes_trans told old s new inv.behind.dir inv.goes (subst (λ (t : Option Store). Goes t s new) inv.told dep.closes);
      behind = behind_trans old s new inv.behind dep.behind;
      sound = dep.sound;
      deps = dep.deps ∙ inv.deps;
      answered = answered_more s new ns c.loop-k.of.items c.loop-k.k c.in_ok-d.d inv.sound dep.behind low inv.answered here ∙ ap (map Some) (sym c.in-Ok.ensures.items);
      told = dep.told ∙ inv.told;
      writing = dep.writing ∙ inv.writing;
      write_faults = dep.write_faults ∙ inv.write_faults;
      reads = dep.reads ∙ inv.reads;
    }

pub returns-clause-closes : goal.returns-clause-closes
returns-clause-closes g c =
    let s = c.loop-k.self in
    let inv = c.loop-k.invariant in
    let told = g.F.Files.told c.args.files.now in
    goes_trans told c.args.self.now s c.enter.new.self inv.behind.dir inv.goes
    (subst (λ (r : RosterValue). Goes told s r) (sym c.in-Ok-enter.ensures.ok) (goes_deps told s (s.deps ++ c.deref.result.now ∷ [])))

pub returns-clause-behind : goal.returns-clause-behind
returns-clause-behind g c =
    let s = c.loop-k.self in
    behind_trans c.args.self.now s c.enter.new.self c.loop-k.invariant.behind (subst (λ (r : RosterValue). Behind s r) (sym c.in-Ok-enter.ensures.ok) (behind_deps s c.deref.result.now))

pub returns-clause-more : goal.returns-clause-more
returns-clause-more g c =
    let s = c.loop-k.self in
    let one = length-append s.deps (c.deref.result.now ∷ []) in
    let all = ap (λ (r : RosterValue). length r.deps) c.in-Ok-enter.ensures.ok in
    let before = ap (λ (ds : List (List ℕ)). length ds) c.loop-k.invariant.deps in
    omega (arith, one, all, before)

use Rattle.std.proofs.Common.{◌≡◌, ℕ, ◌<◌, ◌≤◌, length, sym, ◌∙◌, arith}
use Rattle.cap_session.specs.Loading.{is_answer}
use Rattle.cap_session.specs.Roster.{answerer_in, called_in, no_called}
use Rattle.cap_session.proofs.Answerers.{search_hit, search_none}
use Rattle.cap_session.proofs.RosterLemmas.{called_count}
use Rattle.cap_session.proofs.roster.Roster.answerer.Goals as goal

pub returns-then-answers-clause-value : goal.returns-then-answers-clause-value
returns-then-answers-clause-value c =
    let r = c.args.self.now in
    let lt : c.loop-i.i < length (called_in r) = (let n = called_count r c.len-i-end.ensures.sound in omega (arith, n, c.len-i-end.ensures.len, c.loop-i-test.true)) in
    sym (search_hit (is_answer c.args.name.now) (called_in r) c.loop-i.i no_called (answerer_in r c.args.name.now) lt (sym c.answers.ensures ∙ c.if-answers.true) c.loop-i.invariant)

pub returns-clause-value : goal.returns-clause-value
returns-clause-value c =
    let r = c.args.self.now in
    let le : length (called_in r) ≤ c.loop-i.i = (let n = called_count r c.len-i-end.ensures.sound in omega (arith, n, c.len-i-end.ensures.len, c.loop-i-test.false)) in
    sym (search_none (is_answer c.args.name.now) (called_in r) c.loop-i.i (answerer_in r c.args.name.now) le c.loop-i.invariant)

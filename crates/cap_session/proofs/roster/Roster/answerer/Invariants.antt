use Rattle.std.proofs.Common.{◌≡◌, ◌+◌, drop}
use Rattle.std.specs.Prelude.{option_map}
use Rattle.cap_session.specs.Loading.{is_answer}
use Rattle.cap_session.specs.Roster.{called_in, answerer_in}
use Rattle.cap_session.proofs.Answerers.{first_from}
use Rattle.cap_session.proofs.roster.Roster.answerer.Given as goal

-- no object so far answers to the name
abbrev pub invariant-loop-i : goal.invariant-loop-i
invariant-loop-i l = option_map (λ j. j + l.i) (first_from (is_answer l.name) l.i (drop l.i (called_in l.self))) ≡ answerer_in l.self l.name

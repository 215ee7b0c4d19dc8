use Rattle.cap_session.proofs.Answered.{names-answered}
use Rattle.cap_session.proofs.Apart.{state-apart}
use Rattle.cap_session.proofs.Bound.{run-bound}
use Rattle.cap_session.proofs.Given.{store-gives}
use Rattle.cap_session.proofs.HeldObjects.{HeldLaws}
use Rattle.cap_session.proofs.HeldStates.{run-held}
use Rattle.cap_session.proofs.Placed.{PairLaws}
use Rattle.cap_session.proofs.Reached.{call-reached, run-reached, start-reached}
use Rattle.cap_session.proofs.Runs.{ended-blamed, noted-blamed, run-among}
use Rattle.cap_session.proofs.Shown.{run-shown}
use Rattle.cap_session.proofs.Unfit.{call-unfit, start-unfit}
use Rattle.cap_session.specs.Loading.{fetch_from}
use Rattle.cap_session.proofs.laws.state_laws.Goals as goal

pub returns-clause-read : goal.returns-clause-read
returns-clause-read c = store-gives c.read_laws.ensures.dyn

pub returns-clause-reached : goal.returns-clause-reached
returns-clause-reached c =
    let said = c.binding_laws.ensures in
    let laws : PairLaws = record { narrowed = said.narrowed; apart = said.apart; inside = said.inside; bounds = said.bounds; unfit = said.unfit } in
    record {
      start = start-reached laws;
      call = call-reached laws;
      run = λ store dir main rule calls state. run-reached laws (fetch_from store) dir main rule calls state (store-gives c.read_laws.ensures.dyn store);
    }

pub returns-clause-answered : goal.returns-clause-answered
returns-clause-answered c = names-answered

pub returns-clause-apart : goal.returns-clause-apart
returns-clause-apart c = state-apart

pub returns-clause-unfit : goal.returns-clause-unfit
returns-clause-unfit c =
    let said = c.binding_laws.ensures in
    let laws : PairLaws = record { narrowed = said.narrowed; apart = said.apart; inside = said.inside; bounds = said.bounds; unfit = said.unfit } in
    record { start = start-unfit laws; call = call-unfit laws }

pub returns-clause-runs : goal.returns-clause-runs
returns-clause-runs c =
    let said = c.binding_laws.ensures in
    let laws : PairLaws = record { narrowed = said.narrowed; apart = said.apart; inside = said.inside; bounds = said.bounds; unfit = said.unfit } in
    let given = store-gives c.read_laws.ensures.dyn in
    record {
      fetched = λ store dir main rule calls state. run-among laws (fetch_from store) dir main rule calls state (given store);
      ended = λ store dir main rule calls refusal. ended-blamed laws (fetch_from store) dir main rule calls refusal (given store);
      noted = λ store dir main rule calls. noted-blamed laws (fetch_from store) dir main rule calls (given store);
    }

pub returns-clause-held : goal.returns-clause-held
returns-clause-held c =
    let said = c.binding_laws.ensures in
    let stored = c.storing_laws.ensures in
    let pairs : PairLaws = record { narrowed = said.narrowed; apart = said.apart; inside = said.inside; bounds = said.bounds; unfit = said.unfit } in
    let laws : HeldLaws = record { pairs = pairs; wanted = said.noted; sound = stored.sound; noted = stored.noted } in
    λ store dir main rule calls state. run-held laws (fetch_from store) dir main rule calls state (store-gives c.read_laws.ensures.dyn store)

pub returns-clause-bound : goal.returns-clause-bound
returns-clause-bound c = λ store dir main rule calls state. run-bound (fetch_from store) dir main rule calls state

pub returns-clause-shown : goal.returns-clause-shown
returns-clause-shown c =
    let said = c.binding_laws.ensures in
    let laws : PairLaws = record { narrowed = said.narrowed; apart = said.apart; inside = said.inside; bounds = said.bounds; unfit = said.unfit } in
    λ store dir main rule calls state i d. run-shown laws c.storing_laws.ensures.meant (fetch_from store) dir main rule calls state i d (store-gives c.read_laws.ensures.dyn store)

use Rattle.std.proofs.Common.{Ok, ap, sym, ◌∙◌}
use Rattle.cap_base.specs.MemFiles.{store_in}
use Rattle.purecap.proofs.DemoSteps.{open_gives, open_halts}
use Rattle.purecap.proofs.demo.sum_up.Goals as goal

pub returns-in_ok-summary-in-Ok : goal.returns-in_ok-summary-in-Ok
returns-in_ok-summary-in-Ok c = λ state begun.
    open_gives c.args.number (store_in c.args.files.now) c.args.session.now state begun c.open.new.self c.in-Ok.field-0 c.in-Ok.ensures.session (c.in-Ok.ensures.state state begun.stands)
    ∙ ap Ok (sym c.in_ok-summary-in-Ok.ensures)

pub returns-in-Err : goal.returns-in-Err
returns-in-Err c = λ state begun.
    open_halts c.args.number (store_in c.args.files.now) c.args.session.now state begun c.open.new.self c.in-Err.refusal c.halt_by.result (c.in-Err.ensures.state state begun.stands) c.halt_by.ensures

use Rattle.std.proofs.Common.{sym, ◌∙◌}
use Rattle.purecap.proofs.program.pass_over.Goals as goal

pub returns : goal.returns
returns g c =
    let is = c.from-failure.ensures in
    let passes = rw is at c.is_passed.ensures in
    (sym passes ∙ c.if-is_passed.false, is, (c.tell_next-told.result, rw (is, c.bytes.ensures) at c.tell_next-told.ensures))

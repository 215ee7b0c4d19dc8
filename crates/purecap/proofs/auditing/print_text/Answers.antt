use Rattle.purecap.proofs.Finished.{compared_finished, compared_cut}
use Rattle.purecap.proofs.auditing.print_text.Goals as goal

pub returns-in-Ok : goal.returns-in-Ok
returns-in-Ok g c = λ disk untouched kept.
    let prints = rw c.requires at (c.in-Ok.ensures) in
    compared_finished c.args.path.now disk _ _ _ untouched kept c.args.found.now _ prints.0 (rw (prints.1.bytes, prints.1.count) at c.tell_difference.ensures)

pub returns-in-Err : goal.returns-in-Err
returns-in-Err g c = λ disk untouched kept. compared_cut c.args.path.now disk _ _ _ untouched kept c.args.found.now _ (rw c.requires at c.in-Err.ensures)

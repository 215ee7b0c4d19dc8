use Rattle.purecap.proofs.printing.print_next.Goals as goal

pub returns-in-Err : goal.returns-in-Err
returns-in-Err g c = let failed = c.in-Err.ensures in (failed.0, failed.1, (c.tell_next.result, rw failed.0 at c.tell_next.ensures))

use Rattle.purecap.proofs.Printed.{prints_told}
use Rattle.purecap.proofs.printing.print.Goals as goal

pub returns : goal.returns
returns g c = prints_told _ _ _ _ _ _ _ c.print_next.ensures

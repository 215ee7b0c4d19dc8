-- What was printed first, behind no other line.
use Rattle.std.proofs.Common.{ℕ, List, Option, Result, Ok, Err}
use Rattle.purecap.specs.declared.faults.Failure.{Failure}
use Rattle.purecap.specs.Run.{Stream, streamed}
use Rattle.purecap.specs.Printing.{PrintsNext, PrintsTold}
use Rattle.purecap.proofs.Said.{first_line}

pub prints_told : (bytes : List ℕ) (out : Stream) (e0 e1 : Option (List ℕ)) (n0 n1 : ℕ) (end : Result Unit Failure) → PrintsNext (Ok tt) bytes out (streamed e0 e1 n0 n1) end → PrintsTold bytes out (streamed e0 e1 n0 n1) end
prints_told bytes out e0 e1 n0 n1 (Ok _) prints = prints
prints_told bytes out e0 e1 n0 n1 (Err failure) prints = (prints.0, prints.1, first_line e0 e1 n0 n1 _ prints.2.0 prints.2.1)

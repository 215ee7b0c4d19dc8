use Rattle.cap_base.proofs.Parts.{Sends-then}
use Rattle.purecap.proofs.faults.tell_name.Goals as goal

pub returns : goal.returns
returns g c = Sends-then _ _ _ _ _ _ _ _ _ _ (Sends-then _ _ _ _ _ _ _ _ _ _ c.tell_file-cause.ensures c.send_next-named.ensures) c.send_next.ensures

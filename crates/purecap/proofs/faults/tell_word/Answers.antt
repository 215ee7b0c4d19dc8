use Rattle.cap_base.proofs.Parts.{Sends-then}
use Rattle.purecap.proofs.faults.tell_word.Goals as goal

pub returns : goal.returns
returns g c = Sends-then _ _ _ _ _ _ _ _ _ _ (Sends-then _ _ _ _ _ _ _ _ _ _ c.tell_file-cause.ensures c.send_hex-number.ensures) c.send_next.ensures

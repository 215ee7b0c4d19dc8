use Rattle.cap_base.proofs.Parts.{Sends-then}
use Rattle.purecap.proofs.faults.tell_interval.Goals as goal

pub returns : goal.returns
returns g c =
    let named = Sends-then _ _ _ _ _ _ _ _ _ _ c.tell_file-cause.ensures c.send_next-named.ensures in
    let from = Sends-then _ _ _ _ _ _ _ _ _ _ named c.send_next-from.ensures in
    let begun = Sends-then _ _ _ _ _ _ _ _ _ _ from c.send_hex-begun.ensures in
    let over = Sends-then _ _ _ _ _ _ _ _ _ _ begun c.send_next-over.ensures in
    let ended = Sends-then _ _ _ _ _ _ _ _ _ _ over c.send_hex-ended.ensures in
    Sends-then _ _ _ _ _ _ _ _ _ _ ended c.send_next.ensures

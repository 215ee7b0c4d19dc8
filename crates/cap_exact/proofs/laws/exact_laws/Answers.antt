use Rattle.cap_exact.proofs.Kept.{loads-keep}
use Rattle.cap_exact.proofs.laws.exact_laws.Goals as goal

pub returns : goal.returns
returns c =
    let states = c.state_laws.ensures in
    let files = c.link_laws.ensures in
    loads-keep (record { reached = states.reached; apart = states.apart; runs = states.runs }) (record { reads = files.reads; others = files.others; exact = files.exact; aliases = files.aliases })

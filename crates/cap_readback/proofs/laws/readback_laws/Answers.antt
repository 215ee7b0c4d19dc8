use Rattle.cap_readback.proofs.Law.{link-reads-back, link-refuses-others}
use Rattle.cap_readback.proofs.laws.readback_laws.Goals as goal

pub returns : goal.returns
returns c = record { reads = link-reads-back; refuses = link-refuses-others }

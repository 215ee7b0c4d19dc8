use Rattle.std.proofs.Common.{sym}
use Rattle.purecap.proofs.DemoSteps.{session_pages, summary_is}
use Rattle.purecap.proofs.summary.summary.Goals as goal

pub word_addresses-requires : goal.word_addresses-requires
word_addresses-requires c = rw c.memories.ensures (session_pages c.args.session.now c.requires)

pub returns : goal.returns
returns c =
    let are = rw c.memories.ensures at c.in_ok-addresses.ensures in
    let is = summary_is c.image_laws.ensures.objects c.image_laws.ensures.tags c.args.session.now c.requires c.args.number c.in_ok-addresses.addresses.items are in
    rw (sym is) (rw (c.memories-2.ensures, c.deref.ensures.value, c.deref-2.ensures.value, c.in_ok-image.ensures.value) at c.summary_text.ensures)

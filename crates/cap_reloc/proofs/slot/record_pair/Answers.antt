use Rattle.std.proofs.Common.{◌≡◌, ap}
use Rattle.cap_reloc.specs.Wanted.{width_of_kind}
use Rattle.cap_reloc.proofs.Touching.{empty_shares}
use Rattle.cap_reloc.proofs.slot.record_pair.Goals as goal

pub returns-then-reloc-eq0-clause-free : goal.returns-then-reloc-eq0-clause-free
returns-then-reloc-eq0-clause-free c =
    let r = c.args.reloc.now in
    let none : width_of_kind r.kind ≡ 0 = ap width_of_kind c.if-reloc-eq0.true in
    empty_shares r.slot (width_of_kind r.kind) c.args.taken.now.lens.entries none

use Rattle.std.proofs.Common.{◌+◌, refl}
use Rattle.cap_audit.specs.Findings.{version_findings}
use Rattle.cap_audit.proofs.Below.{objects_more}
use Rattle.cap_audit.proofs.comparing.compare_heads.Goals as goal

pub loop-k-preserved : goal.loop-k-preserved
loop-k-preserved c =
    objects_more c.args.image.now c.args.wanted.now (version_findings c.args.image.now c.args.wanted.now) c.loop-k.found.items c.add_object.new.found.items c.loop-k.k (c.loop-k.k + 1) refl c.in_ok-add_object.ensures c.loop-k.invariant

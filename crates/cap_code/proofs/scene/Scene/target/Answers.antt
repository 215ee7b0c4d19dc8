use Rattle.std.proofs.Common.{subst}
use Rattle.cap_code.specs.Steps.{IsScene}
use Rattle.cap_code.proofs.Together.{target_there}
use Rattle.cap_code.proofs.scene.Scene.target.Goals as goal

pub returns-clause-there : goal.returns-clause-there
returns-clause-there c =
    let scene = c.args.self.now in
    let is : IsScene scene = subst IsScene c.self.view_is c.self.invariant.0 in
    target_there scene c.args.step.now.file c.reloc.result.symbol c.target.result is c.requires.file c.reloc.ensures.symbol (cc)

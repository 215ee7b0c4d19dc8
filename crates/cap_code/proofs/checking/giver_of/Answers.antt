use Rattle.cap_base.specs.Steps.{fault}
use Rattle.cap_base.specs.declared.check.Check.TheVariants.{NoPartner}
use Rattle.cap_code.proofs.Firsts.{partner_there}
use Rattle.cap_code.proofs.checking.giver_of.Goals as goal

pub returns-then-is_low-clause-there : goal.returns-then-is_low-clause-there
returns-then-is_low-clause-there c =
    partner_there c.args.scene.now c.args.step.now c.partner_of.result (fault NoPartner c.reloc-reloc.result.at) c.ok_or.result c.reloc-reloc.ensures.sound c.partner_of.ensures c.ok_or.ensures.value

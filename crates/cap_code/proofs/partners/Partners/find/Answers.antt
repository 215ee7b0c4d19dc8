use Rattle.std.proofs.Common.{◌∙◌}
use Rattle.cap_code.proofs.partners.Partners.find.Goals as goal

pub returns : goal.returns
returns c =
    c.copied.ensures ∙ c.get.ensures.value ∙ c.requires (c.args.file, c.args.section, c.args.offset)

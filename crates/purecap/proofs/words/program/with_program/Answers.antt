use Rattle.std.proofs.Common.{ap₂, refl, ◌∙◌}
use Rattle.clap.specs.Words.{with_rule}
use Rattle.purecap.proofs.words.program.with_program.Goals as goal

pub returns-clause-ok : goal.returns-clause-ok
returns-clause-ok c =
    c.in_ok-arg.ensures.shape c.last_operands.ensures.local
    ∙ ap₂ with_rule (c.in_ok-command-3.ensures.shape c.operand.ensures.local
    ∙ ap₂ with_rule (c.in_ok-command-2.ensures.shape c.flag.ensures.local
    ∙ ap₂ with_rule (c.in_ok-command.ensures.shape c.option_or.ensures.local
    ∙ ap₂ with_rule refl c.option_or.ensures.rule) c.flag.ensures.rule) c.operand.ensures.rule) c.last_operands.ensures.rule

use Rattle.std.proofs.Common.{ap₂, ◌∙◌}
use Rattle.clap.specs.Words.{with_rule}
use Rattle.purecap.specs.LinkWords.{link_app}
use Rattle.purecap.proofs.words.link.link_parser.Goals as goal

pub returns-clause-ok : goal.returns-clause-ok
unfolding link_app
returns-clause-ok c =
    c.in_ok-arg.ensures.shape c.required_operands.ensures.local
    ∙ ap₂ with_rule (c.in_ok-command-2.ensures.shape c.long_option.ensures.local
    ∙ ap₂ with_rule (c.in_ok-command.ensures.shape c.required_option.ensures.local
    ∙ ap₂ with_rule c.new-command.ensures.app c.required_option.ensures.rule) c.long_option.ensures.rule) c.required_operands.ensures.rule

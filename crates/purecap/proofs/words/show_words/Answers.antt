use Rattle.std.proofs.Common.{ap, ◌∙◌}
use Rattle.clap.specs.Words.{is_simple_and_free}
use Rattle.purecap.proofs.Parsing.{show_simple}
use Rattle.purecap.proofs.words.show_words.Goals as goal

pub parse-requires : goal.parse-requires
parse-requires c = ap is_simple_and_free c.in_ok-show_parser.ensures.ok ∙ show_simple

use Rattle.std.proofs.Common.{ap, ◌∙◌}
use Rattle.clap.specs.Words.{is_simple_and_free}
use Rattle.purecap.proofs.Parsing.{init_simple}
use Rattle.purecap.proofs.words.init_words.Goals as goal

pub parse-requires : goal.parse-requires
parse-requires c = ap is_simple_and_free c.in_ok-init_parser.ensures.ok ∙ init_simple

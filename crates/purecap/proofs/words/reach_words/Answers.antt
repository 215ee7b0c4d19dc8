use Rattle.std.proofs.Common.{ap, ◌∙◌}
use Rattle.clap.specs.Words.{is_simple_and_free}
use Rattle.purecap.proofs.Parsing.{reach_simple}
use Rattle.purecap.proofs.words.reach_words.Goals as goal

pub parse-requires : goal.parse-requires
parse-requires c = ap is_simple_and_free c.in_ok-reach_parser.ensures.ok ∙ reach_simple

use Rattle.std.proofs.Common.{ap, ◌∙◌}
use Rattle.clap.specs.Words.{is_simple_and_free}
use Rattle.purecap.proofs.LinkParsing.{link_simple}
use Rattle.purecap.proofs.words.link.link_words.Goals as goal

pub parse-requires : goal.parse-requires
parse-requires c = ap is_simple_and_free c.in_ok-link_parser.ensures.ok ∙ link_simple

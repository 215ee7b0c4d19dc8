use Rattle.std.proofs.Common.{ap, ◌∙◌}
use Rattle.clap.specs.Words.{is_simple_and_free}
use Rattle.purecap.proofs.Parsing.{load_simple}
use Rattle.purecap.proofs.words.load_words.Goals as goal

pub parse-requires : goal.parse-requires
parse-requires c = ap is_simple_and_free c.in_ok-load_parser.ensures.ok ∙ load_simple

use Rattle.std.proofs.Common.{ap, ◌∙◌}
use Rattle.clap.specs.Words.{is_simple_and_free}
use Rattle.purecap.proofs.DemoAccepted.{demo_simple}
use Rattle.purecap.proofs.words.demo.demo_number.Goals as goal

pub parse-requires : goal.parse-requires
parse-requires c = ap is_simple_and_free c.in_ok-demo_parser.ensures.ok ∙ demo_simple

use Rattle.std.proofs.Common.{◌∙◌}
use Rattle.purecap.proofs.LinkParsing.{long_paths}
use Rattle.purecap.proofs.words.link.has_long_path.Goals as goal

pub returns : goal.returns
returns c = c.is_any_long.ensures ∙ long_paths c.args.inputs.now

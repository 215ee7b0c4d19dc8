use Rattle.std.proofs.Common.{◌∙◌}
use Rattle.purecap.proofs.LinkParsing.{bad_paths}
use Rattle.purecap.proofs.words.link.has_bad_path.Goals as goal

pub returns : goal.returns
returns c = c.is_any_bad.ensures ∙ bad_paths c.args.inputs.now

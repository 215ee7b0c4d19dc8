use Rattle.std.proofs.Common.{arith, rules}
use Rattle.cap_names.proofs.Finding.{guessed_window}
use Rattle.cap_names.proofs.searching.is_window.Goals as goal

pub returns : goal.returns
returns c = λ h. guessed_window _ _ c.requires (c.args.hash, c.args.name.now) c.args.low c.args.high (omega arith) (omega arith) (c.is_after_lesser.ensures (search rules)) (c.is_before_greater.ensures h)

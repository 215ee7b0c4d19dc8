use Rattle.std.proofs.Common.{arith, ◌∙◌, sym}
use Rattle.cap_names.proofs.Finding.{window_up, window_down}
use Rattle.cap_names.proofs.searching.halved.Goals as goal

pub returns-then-is_key_below-clause-window : goal.returns-then-is_key_below-clause-window
returns-then-is_key_below-clause-window c = window_up _ _ c.requires.index _ _ _ _ c.requires.window (omega arith) (sym c.is_key_below.ensures ∙ c.if-is_key_below.true)

pub returns-else-is_key_below-clause-window : goal.returns-else-is_key_below-clause-window
returns-else-is_key_below-clause-window c =
    window_down _ _ c.requires.index _ _ _ _ c.requires.window (omega arith) (omega arith) (sym c.is_key_below.ensures ∙ c.if-is_key_below.false)

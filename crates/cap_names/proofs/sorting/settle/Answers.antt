use Rattle.cap_names.proofs.Settling.{more_settled}
use Rattle.cap_names.proofs.sorting.settle.Goals as goal

pub returns-then-end-at-gt1-clause-settled : goal.returns-then-end-at-gt1-clause-settled
returns-then-end-at-gt1-clause-settled c = more_settled _ _ _ _ _ c.run_end-end.ensures c.requires.settled c.sort_run.ensures

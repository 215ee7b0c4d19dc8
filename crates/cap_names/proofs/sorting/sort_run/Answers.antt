use Rattle.std.proofs.Common.{rules}
use Rattle.cap_names.proofs.KeyOrder.{sorted_by_keys}
use Rattle.cap_names.proofs.Settling.{settles_part}
use Rattle.cap_names.proofs.sorting.sort_run.Goals as goal

pub returns : goal.returns
returns c =
    settles_part c.args.names.now c.args.keys.now c.sort_unstable_by.new.self c.args.at c.args.end c.requires c.sort_unstable_by.ensures.permutation
    (sorted_by_keys c.args.names.now _ c.sort_unstable_by.ensures.sorted (λ a r q k. search rules))

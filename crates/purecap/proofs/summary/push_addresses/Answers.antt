use Rattle.std.proofs.Common.{List, ℕ, ◌++◌, append-nil, append_assoc, ap, sym, ◌∙◌}
use Rattle.purecap.specs.Summing.{address_if, first_addresses}
use Rattle.purecap.proofs.WordSums.{first_none, first_more}
use Rattle.purecap.proofs.summary.push_addresses.Goals as goal

pub loop-k-init : goal.loop-k-init
loop-k-init c = rw (first_none c.args.memory.now) (sym (append-nil c.args.addresses.now.items))

pub loop-k-preserved : goal.loop-k-preserved
loop-k-preserved c =
    let memory = c.args.memory.now in
    let k = c.loop-k.k in
    c.in_ok-push_address.ensures
    ∙ ap (λ (xs : List ℕ). xs ++ address_if memory k) c.loop-k.invariant
    ∙ append_assoc c.args.addresses.now.items (first_addresses memory k) (address_if memory k)
    ∙ ap (λ (xs : List ℕ). c.args.addresses.now.items ++ xs) (sym (first_more memory k))

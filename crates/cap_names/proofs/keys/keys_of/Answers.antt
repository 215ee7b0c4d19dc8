use Rattle.std.proofs.Common.{length, ap, sym, subst, ◌∙◌}
use Rattle.std.proofs.lemmas.List.Sorted.{length_permutation}
use Rattle.cap_names.specs.Keys.{IsIndexBy}
use Rattle.cap_names.proofs.Making.{made}
use Rattle.cap_names.proofs.Settling.{written_back}
use Rattle.cap_names.proofs.keys.keys_of.Goals as goal

pub returns : goal.returns
returns c =
    let lent = c.deref_mut.ensures in
    let done = c.sort.ensures in
    let back = written_back c.in_ok-keys.keys.items c.sort.new.keys c.in_ok-keys.keys.len (sym lent.len ∙ ap length lent.value) (length_permutation _ _ done.moved ∙ ap length lent.value) in
    subst (IsIndexBy c.args.rule c.args.names.now) (sym back) (made c.args.rule c.args.names.now c.deref_mut.result.now c.sort.new.keys c.requires.few (lent.value ∙ c.in_ok-keys.ensures) done.moved done.sorted)

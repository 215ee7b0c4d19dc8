use Rattle.std.proofs.Common.{◌≡◌, ℕ, suc, ◌+◌, ◌-◌, ◌<◌, [], ◌∙◌, sym, ap, subst, arith, length, true}
use Rattle.std.specs.Prelude.{slice_index, slice_index_or}
use Rattle.std.proofs.lemmas.Bool.{ltb-true}
use Rattle.std.proofs.lemmas.List.Sums.{AllPass-from_list_all}
use Rattle.std.proofs.lemmas.Grind.{get_or_default_zero}
use Rattle.cap_chain.proofs.SoundLemmas.{all_below}
use Rattle.cap_scope.specs.Queue.{grown, queue}
use Rattle.cap_scope.proofs.Growing.{queue_end, queue_more, grown-below, inside_of}
use Rattle.cap_scope.proofs.queue.reach.Goals as goal

pub returns-then-k-len : goal.returns-then-k-len
returns-then-k-len c =
    let deps = c.args.deps.now in
    record { order = sym (queue_end deps (length deps - c.loop-k.k) c.loop-k.order.items c.loop-k.k (omega arith)) ∙ c.loop-k.invariant.rest }

pub add_all-requires-clause-inside : goal.add_all-requires-clause-inside
add_all-requires-clause-inside c =
    let deps = c.args.deps.now in
    let order = c.loop-k.order.items in
    let i : ℕ = slice_index order c.loop-k.k in
    let lt : i < length deps = ltb-true _ _ (AllPass-from_list_all _ order c.loop-k.invariant.inside c.loop-k.k 0 (omega arith)) in
    let at : c.of.result.now ≡ slice_index_or deps i [] = c.of.ensures ∙ ap (λ j. slice_index_or deps j []) (c.index-i.ensures ∙ get_or_default_zero order c.loop-k.k c.index-i.result.now (omega arith)) in
    subst (λ n. all_below n c.of.result.now ≡ true) (sym c.loop-k.invariant.long) (ap (all_below (length deps)) at ∙ inside_of (length deps) deps c.requires.numbers i lt)

pub loop-k-preserved : goal.loop-k-preserved
loop-k-preserved c =
    let deps = c.args.deps.now in
    let order = c.loop-k.order.items in
    let k : ℕ = c.loop-k.k in
    let i : ℕ = slice_index order k in
    let lt : i < length deps = ltb-true _ _ (AllPass-from_list_all _ order c.loop-k.invariant.inside k 0 (omega arith)) in
    let at : c.of.result.now ≡ slice_index_or deps i [] = c.of.ensures ∙ ap (λ j. slice_index_or deps j []) (c.index-i.ensures ∙ get_or_default_zero order c.loop-k.k c.index-i.result.now (omega arith)) in
    let one : length deps - k ≡ suc (length deps - (k + 1)) = omega arith in
    let e : c.add_all.new.order.items ≡ grown order (slice_index_or deps i []) = c.in_ok-add_all.ensures.order ∙ ap (grown order) at in
    record {
      rest = ap (λ o. queue deps (length deps - (k + 1)) o (k + 1)) e ∙ sym (queue_more deps (length deps - k) (length deps - (k + 1)) order k one (omega arith)) ∙ c.loop-k.invariant.rest;
      long = omega arith;
      seen = c.in_ok-add_all.ensures.seen;
      inside = ap (all_below (length deps)) e ∙ grown-below (length deps) (slice_index_or deps i []) order c.loop-k.invariant.inside (inside_of (length deps) deps c.requires.numbers i lt);
    }

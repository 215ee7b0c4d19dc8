use Rattle.std.proofs.Common.{[], ◌∷◌, ◌∙◌, ap, length}
use Rattle.cap_scope.specs.Queue.{grown, queue}
use Rattle.cap_scope.proofs.Growing.{queue_is_tree, inside_of}
use Rattle.cap_scope.proofs.deps.breadth.Goals as goal

pub returns : goal.returns
returns c =
    let deps = c.args.deps.now in
    c.in_ok-reach.ensures.order
    ∙ ap (λ o. queue deps (length deps) o 0) (c.in_ok-add.ensures.order ∙ ap (λ o. grown o (c.args.root ∷ [])) c.new-order.ensures.items)
    ∙ queue_is_tree deps (inside_of (length deps) deps c.requires.numbers) c.args.root c.requires.root

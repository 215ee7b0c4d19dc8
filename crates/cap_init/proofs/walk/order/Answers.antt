use Rattle.std.proofs.Common.{◌≡◌, ℕ, ◌-◌, Bool, true, false, List, [], ◌∷◌, ◌++◌, ◌∙◌, cond, ap, subst, sym, replicate, set, take, length}
use Rattle.cap_init.specs.declared.walk.Frame.{Frame}
use Rattle.cap_init.specs.Walking.{IsWalk, is_begun}
use Rattle.cap_init.proofs.Reached.{post_inside}
use Rattle.cap_init.proofs.PartWay.{walk_begun, walk_over}
use Rattle.cap_init.proofs.walk.order.Goals as goal

abbrev begun_after : goal.In_ok-begin → List Bool → List Bool
begun_after c begun = cond (is_begun c.args.from c.args.to begun c.args.from) begun (set begun (c.args.from - c.args.from) true)

abbrev path_after : goal.In_ok-begin → List Bool → List Frame → List Frame
path_after c begun path = cond (is_begun c.args.from c.args.to begun c.args.from) path (path ++ record { object = c.args.from; next = 0 } ∷ [])

pub loop-frame-init : goal.loop-frame-init
loop-frame-init c =
    let none : c.in_ok-begun.begun.items ≡ replicate (c.args.to - c.args.from) false = c.in_ok-begun.ensures.items_if_clones_equal (λ y e. e) in
    let flags = c.in_ok-begin.ensures.begun ∙ ap (begun_after c) none in
    let path = c.in_ok-begin.ensures.path ∙ ap (λ fs. path_after c c.in_ok-begun.begun.items fs) c.new-path.ensures.items ∙ ap (λ b. path_after c b []) none in
    subst (λ (ended : List ℕ). IsWalk c.args.deps.now c.args.from c.args.to c.begin.new.begun.items c.begin.new.path.items ended) (sym c.new-ended.ensures.items)
    (walk_begun c.args.deps.now c.args.from c.args.to c.begin.new.begun.items c.begin.new.path.items c.requires.some c.requires.inside flags path)

pub returns : goal.returns
returns c =
    let popped = c.in_default.ensures in
    let over : c.loop-frame.path.items ≡ [] = popped.items ∙ ap (λ fs. fs ++ []) (popped.rest ∙ ap (λ n. take (n - 1) c.loop-frame.path.items) popped.cases.0) in
    let is = walk_over c.args.deps.now c.args.from c.args.to c.loop-frame.begun.items c.loop-frame.ended.items (subst (λ (path : List Frame). IsWalk c.args.deps.now c.args.from c.args.to c.loop-frame.begun.items path c.loop-frame.ended.items) over c.loop-frame.invariant) in
    record {
      order = is;
      inside = rw is (post_inside c.args.deps.now c.args.from c.args.to (length c.args.deps.now) c.requires.some c.requires.inside);
    }

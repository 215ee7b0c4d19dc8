use Rattle.std.proofs.Common.{◌≡◌, ℕ, ◌+◌, ◌<◌, ◌≤◌, List, [], ◌∷◌, ◌++◌, ◌∙◌, cond, ap, subst, length, get_or}
use Rattle.cap_init.specs.declared.walk.Frame.{Frame}
use Rattle.cap_init.specs.Post.{needs}
use Rattle.cap_init.specs.Walking.{is_begun}
use Rattle.cap_init.proofs.PartWay.{walk_ended, walk_visited, steps_ended, steps_visited}
use Rattle.cap_init.proofs.walk.step.Goals as goal

pub returns-in_ok-push-in-None-clause-walk : goal.returns-in_ok-push-in-None-clause-walk
returns-in_ok-push-in-None-clause-walk c =
    let past : length (needs c.args.deps.now c.args.frame.object) ≤ c.args.frame.next = subst (λ (js : List ℕ). length js ≤ c.args.frame.next) c.of.ensures c.in-None.ensures.lookup.3 in
    rw c.in_ok-push-in-None.ensures.items (walk_ended _ _ _ _ c.args.path.now.items c.args.frame _ c.requires.walk past)

pub returns-in_ok-push-in-None-clause-steps : goal.returns-in_ok-push-in-None-clause-steps
returns-in_ok-push-in-None-clause-steps c = steps_ended c.args.deps.now c.args.group.from c.args.begun.now.items c.args.path.now.items c.args.frame

abbrev gone_on : Frame → Frame
gone_on f = record { object = f.object; next = f.next + 1 }

abbrev path_after : goal.In_ok-begin-in-Some → List Frame → List Frame
path_after c path = cond (is_begun c.args.group.from c.args.group.to c.args.begun.now.items c.in-Some.i.now) path (path ++ record { object = c.in-Some.i.now; next = 0 } ∷ [])

pub returns-in_ok-begin-in-Some-clause-walk : goal.returns-in_ok-begin-in-Some-clause-walk
returns-in_ok-begin-in-Some-clause-walk c =
    let found = c.in-Some.ensures.lookup.3 in
    let lt : c.args.frame.next < length (needs c.args.deps.now c.args.frame.object) = subst (λ (js : List ℕ). c.args.frame.next < length js) c.of.ensures found.0 in
    let is : c.in-Some.i.now ≡ get_or (needs c.args.deps.now c.args.frame.object) c.args.frame.next 0 = found.1 0 ∙ ap (λ js. get_or js c.args.frame.next 0) c.of.ensures in
    let path : c.begin.new.path.items ≡ path_after c (c.args.path.now.items ++ gone_on c.args.frame ∷ []) = c.in_ok-begin-in-Some.ensures.path ∙ ap (path_after c) c.in_ok-push-in-Some.ensures.items in
    walk_visited c.args.deps.now c.args.group.from c.args.group.to c.args.begun.now.items c.begin.new.begun.items c.args.path.now.items c.begin.new.path.items c.args.frame c.args.ended.now.items c.in-Some.i.now c.requires.walk lt is c.requires.inside c.in_ok-begin-in-Some.ensures.begun path

pub returns-in_ok-begin-in-Some-clause-steps : goal.returns-in_ok-begin-in-Some-clause-steps
returns-in_ok-begin-in-Some-clause-steps c =
    let found = c.in-Some.ensures.lookup.3 in
    let lt : c.args.frame.next < length (needs c.args.deps.now c.args.frame.object) = subst (λ (js : List ℕ). c.args.frame.next < length js) c.of.ensures found.0 in
    let path : c.begin.new.path.items ≡ path_after c (c.args.path.now.items ++ gone_on c.args.frame ∷ []) = c.in_ok-begin-in-Some.ensures.path ∙ ap (path_after c) c.in_ok-push-in-Some.ensures.items in
    steps_visited c.args.deps.now c.args.group.from c.args.group.to c.args.begun.now.items c.begin.new.begun.items c.args.path.now.items c.begin.new.path.items c.args.frame c.in-Some.i.now c.requires.walk.long lt c.in_ok-begin-in-Some.ensures.begun path

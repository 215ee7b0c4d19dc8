use Rattle.std.proofs.Common.{◌≡◌, ℕ, ◌+◌, ◌<◌, sym, ◌∙◌, arith}
use Rattle.std.proofs.lemmas.Bool.Decides.{nat_tests}
use Rattle.std.specs.Ordering.{nat_cmp}
use Rattle.std.specs.declared.cmp.Ordering.TheVariants.{Less}
use Rattle.cap_reloc.proofs.Touching.{empty_shares, none_decides, last_decides}
use Rattle.cap_reloc.proofs.taken.Taken.is_touched.Goals as goal

below : (q b : ℕ) → q < b → nat_cmp q b ≡ Less
below q b lt = grind (arith, nat_tests)

pub returns-then-len-eq0 : goal.returns-then-len-eq0
returns-then-len-eq0 c = sym (empty_shares c.args.at c.args.len _ (omega arith))

pub returns-in-None : goal.returns-in-None
returns-in-None c =
    sym (none_decides c.args.self.now.lens c.range.ensures.ordered (c.args.at, c.args.len) (λ q lt. (c.range.ensures.in_range tt).5 c.in-None.ensures.steps.0 q (tt, below q _ lt)))

pub returns-in-Some : goal.returns-in-Some
returns-in-Some c =
    let part = c.range.ensures.in_range tt in
    let at = part.3 _ _ c.in-Some.ensures.steps in
    let lt : c.in-Some.start.now < c.args.at + c.args.len = grind (arith, nat_tests, at) in
    c.share_byte.ensures
    ∙ last_decides c.args.self.now.lens c.range.ensures.ordered c.args.self.now.solid c.args.self.now.apart (c.args.at, c.args.len) (omega arith) c.in-Some.start.now c.in-Some.n.now at.1 lt
    (λ q lq some. let no = part.4 _ _ c.in-Some.ensures.steps q (tt, below q _ lq) some in grind (arith, nat_tests, no))

use Rattle.std.specs.Prelude.{drop}
use Rattle.cap_code.specs.Partners.{AreFirsts}
use Rattle.cap_code.proofs.partners.Partners.new.Given as goal

abbrev pub invariant-loop-k : goal.invariant-loop-k
invariant-loop-k l = AreFirsts l.firsts l.scene.named.rels (drop l.k l.scene.lists.plan.steps)

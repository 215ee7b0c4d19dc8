use Rattle.cap_syms.proofs.NameLemmas.{placed}
use Rattle.cap_syms.proofs.names.Names.add_near.Goals as goal

pub returns-then-stands_at-clause-names : goal.returns-then-stands_at-clause-names
returns-then-stands_at-clause-names c = (placed c.args.name.now c.args.self.now c.args.guess (c.stands_at.ensures c.if-stands_at.true)).1

pub returns-then-stands_at-clause-place : goal.returns-then-stands_at-clause-place
returns-then-stands_at-clause-place c = (placed c.args.name.now c.args.self.now c.args.guess (c.stands_at.ensures c.if-stands_at.true)).0

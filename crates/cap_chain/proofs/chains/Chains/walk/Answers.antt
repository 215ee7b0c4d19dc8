use Rattle.std.proofs.Common.{List, ℕ, sym, subst}
use Rattle.cap_chain.specs.Counted.{AreHeld}
use Rattle.cap_chain.proofs.FirstLemmas.{found_there}
use Rattle.cap_chain.proofs.chains.Chains.walk.Goals as goal

pub passed-requires-clause-there : goal.passed-requires-clause-there
passed-requires-clause-there c =
    let held : AreHeld c.deref.result.now c.self.inside.index.names = subst (λ (ws : List ℕ). AreHeld ws c.self.inside.index.names) (sym c.deref.ensures.value) c.self.invariant.counted.held in
    found_there c.deref.result.now c.args.name.now c.system_v_hash-hash.result c.find-found.result _ (held c.args.name.now) c.system_v_hash-hash.ensures c.find-found.ensures.first

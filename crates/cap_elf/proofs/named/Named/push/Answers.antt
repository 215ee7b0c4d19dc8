use Rattle.std.proofs.Common.{rules}
use Rattle.cap_elf.proofs.Flags.{flags_push}
use Rattle.cap_elf.proofs.named.Named.push.Goals as goal

pub invariant_of-self-2 : goal.invariant_of-self-2
invariant_of-self-2 c = flags_push c.self.inside.symbols.items c.push_reserved.new.self.items c.self.inside.names c.push.new.self c.args.symbol c.args.name.now c.is_exported.result c.self.invariant (search rules) (search rules) (search rules)

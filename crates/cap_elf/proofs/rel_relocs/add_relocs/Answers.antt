use Rattle.std.proofs.Common.{length, arith}
use Rattle.cap_elf.proofs.rel_relocs.add_relocs.Goals as goal

pub overflow_add-count : goal.overflow_add-count
overflow_add-count c = omega (arith, c.kept_relocs-place.ensures.inside (length c.args.bytes.now) c.requires)

pub add_table-requires : goal.add_table-requires
add_table-requires c = c.kept_relocs-place.ensures.inside (length c.args.bytes.now) c.requires

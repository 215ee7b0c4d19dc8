use Rattle.std.proofs.Common.{◌≡◌, ◌*◌, ◌≤◌, take, length}
use Rattle.cap_table.specs.Planned.{terminated}
use Rattle.cap_table.proofs.naming.texts_size.Given as goal

abbrev pub invariant-loop-name : goal.invariant-loop-name
invariant-loop-name l = record {
  front : l.size ≡ length (terminated (take l.name-index l.names));
  small : l.size ≤ 256 * l.name-index;
}

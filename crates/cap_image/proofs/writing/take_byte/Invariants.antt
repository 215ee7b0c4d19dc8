use Rattle.std.proofs.Common.{◌≡◌, ◌+◌, ◌*◌}
use Rattle.cap_image.specs.Writing.{tags_number}
use Rattle.cap_image.specs.WordWalk.{IsAhead}
use Rattle.cap_image.proofs.writing.take_byte.Given as goal

abbrev pub invariant-loop-i : goal.invariant-loop-i
invariant-loop-i l = record {
  so_far : l.byte ≡ tags_number l.memory l.at l.i;
  ahead : IsAhead l.memory (l.at + 16 * l.i) l.next;
}

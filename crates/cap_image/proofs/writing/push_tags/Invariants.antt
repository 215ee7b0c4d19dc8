use Rattle.std.proofs.Common.{◌≡◌, ◌+◌, ◌*◌, ◌++◌}
use Rattle.cap_image.specs.Writing.{first_tag_bytes}
use Rattle.cap_image.specs.WordWalk.{IsAhead}
use Rattle.cap_image.proofs.writing.push_tags.Given as goal

abbrev pub invariant-loop-j : goal.invariant-loop-j
invariant-loop-j l = record {
  so_far : l.text.items ≡ l.initial.text.items ++ first_tag_bytes l.memory l.j;
  ahead : IsAhead l.memory (l.base + 128 * l.j) l.next;
}

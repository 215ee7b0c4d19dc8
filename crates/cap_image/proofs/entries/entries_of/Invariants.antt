use Rattle.std.specs.Prelude.{slice_index_or}
use Rattle.cap_image.specs.Parts.{no_object}
use Rattle.cap_image.specs.Entries.{AreEntries}
use Rattle.cap_image.proofs.entries.entries_of.Given as goal

abbrev pub invariant-loop-k : goal.invariant-loop-k
invariant-loop-k l = AreEntries (slice_index_or l.image.objects l.i no_object) l.k l.entries.items

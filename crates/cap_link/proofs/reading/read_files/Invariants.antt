use Rattle.std.proofs.Common.{◌≡◌, ◌+◌, ◌≤◌, length, map, All}
use Rattle.std.specs.Vec.Iter.{into_iter_items}
use Rattle.std.specs.List.{enumerate_from}
use Rattle.cap_base.specs.Steps.{steps}
use Rattle.cap_link.specs.Inputs.{files_of, read_step}
use Rattle.cap_link.specs.Counts.{AreRead, IsShortName}
use Rattle.cap_link.proofs.reading.read_files.Given as goal

abbrev pub invariant-loop-file : goal.invariant-loop-file
invariant-loop-file l = record {
  can_next : (goal.iterator-loop-file).can_next l.file-iterator;
  is_finite : (goal.iterator-loop-file).is_finite l.file-iterator;
  so_far : steps read_step l.files (enumerate_from l.number (map (λ f. (f.0, f.1.items)) (into_iter_items l.file-iterator))) ≡ files_of l.fn.inputs;
  left : l.number + length (into_iter_items l.file-iterator) ≤ 256;
  few : AreRead l.number l.files;
  short : All (λ f. IsShortName f.0) (into_iter_items l.file-iterator);
}

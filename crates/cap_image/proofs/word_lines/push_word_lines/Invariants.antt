use Rattle.std.proofs.Common.{◌≡◌, ◌++◌, take}
use Rattle.cap_image.specs.Granules.{word_lines}
use Rattle.cap_image.proofs.Runs.{ArePassed}
use Rattle.cap_image.proofs.word_lines.push_word_lines.Given as goal

abbrev pub invariant-loop-i : goal.invariant-loop-i
invariant-loop-i l = record {
  lines : l.text.items ≡ l.initial.text.items ++ word_lines l.image (take l.at l.granules);
  passed : ArePassed l.image l.granules l.i l.at;
}

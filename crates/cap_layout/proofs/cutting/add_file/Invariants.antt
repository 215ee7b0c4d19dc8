use Rattle.std.proofs.Common.{◌≡◌, ◌++◌, drop}
use Rattle.std.specs.List.{flat_map, enumerate_from}
use Rattle.cap_layout.specs.Pieces.{file_pieces}
use Rattle.cap_layout.proofs.PieceFlats.{class_part}
use Rattle.cap_layout.proofs.cutting.add_file.Given as goal

abbrev pub invariant-loop-place : goal.invariant-loop-place
invariant-loop-place l =
    l.all ++ flat_map (class_part l.class l.rel l.file) (drop l.place (enumerate_from 0 l.rel.sections)) ≡ l.initial.all ++ file_pieces l.class l.rel l.file

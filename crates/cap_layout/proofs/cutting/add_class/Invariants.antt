use Rattle.std.proofs.Common.{◌≡◌, ◌++◌, drop}
use Rattle.std.specs.List.{flat_map, enumerate_from}
use Rattle.cap_layout.specs.Pieces.{class_pieces}
use Rattle.cap_layout.proofs.PieceFlats.{numbered_part}
use Rattle.cap_layout.proofs.cutting.add_class.Given as goal

abbrev pub invariant-loop-file : goal.invariant-loop-file
invariant-loop-file l =
    l.all ++ flat_map (numbered_part l.class) (drop l.file (enumerate_from 0 l.rels)) ≡ l.initial.all ++ class_pieces l.rels l.class

use Rattle.std.proofs.Common.{◌≡◌, ◌≤◌, ◌^◌, length, map, drop}
use Rattle.std.specs.String.{string_bytes}
use Rattle.purecap.specs.Linking.{size_of}
use Rattle.purecap.specs.Inputs.{HasRead}
use Rattle.purecap.specs.Run.{counted}
use Rattle.purecap.proofs.linking.read_inputs.Given as goal

abbrev pub invariant-loop-word : goal.invariant-loop-word
invariant-loop-word g l =
    HasRead (g.F.Files.told l.initial.files) (map string_bytes l.words) (map string_bytes (drop l.word-index l.words))
    (counted (g.F.Files.read_faults l.initial.files) (g.F.Files.read_faults l.files)) l.inputs
    × (length l.inputs ≡ l.word-index)
    × (l.size ≡ size_of l.inputs)
    × (l.size ≤ 2 ^ 27)
    × (g.F.Files.told l.files ≡ g.F.Files.told l.initial.files)
    × (g.F.Files.writing l.files ≡ g.F.Files.writing l.initial.files)
    × (g.F.Files.write_faults l.files ≡ g.F.Files.write_faults l.initial.files)

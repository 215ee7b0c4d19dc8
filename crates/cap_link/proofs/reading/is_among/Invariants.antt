use Rattle.std.proofs.Common.{◌≡◌, map}
use Rattle.std.specs.List.{list_any}
use Rattle.std.specs.Str.{bytes_eq}
use Rattle.cap_link.proofs.ReadingLemmas.{is_among_from}
use Rattle.cap_link.proofs.reading.is_among.Given as goal

abbrev pub invariant-loop-i : goal.invariant-loop-i
invariant-loop-i l = is_among_from l.fn.name l.fn.names l.i ≡ list_any (bytes_eq l.fn.name) (map (λ n. n.0) l.fn.names)

use Rattle.std.proofs.Common.{◌≡◌, ◌+◌, drop}
use Rattle.cap_demo.specs.Symbols.{place_of}
use Rattle.cap_demo.proofs.symbols.place.Given as goal

abbrev pub invariant-loop-i : goal.invariant-loop-i
invariant-loop-i l = l.i + place_of (drop l.i l.symbols) l.name ≡ place_of l.symbols l.name

use Rattle.std.proofs.Common.{◌≡◌, ◌==◌, drop}
use Rattle.std.specs.Prelude.{find}
use Rattle.cap_elf.specs.RelObject.{RelObject}
use Rattle.cap_link.proofs.linking.of_number.Given as goal

abbrev pub invariant-loop-object : goal.invariant-loop-object
invariant-loop-object l =
    find (λ (r : RelObject). r.number == l.fn.file) (drop l.object-index l.fn.rels) ≡ find (λ (r : RelObject). r.number == l.fn.file) l.fn.rels

use Rattle.std.proofs.Common.{◌≡◌, All, take, drop}
use Rattle.cap_base.specs.Steps.{each, in_file}
use Rattle.cap_elf.specs.IsRelRead.{IsRelRead}
use Rattle.cap_layout.specs.Cuts.{overlap_of}
use Rattle.cap_layout.proofs.cutting.refuse_all.Given as goal

abbrev pub invariant-loop-rel : goal.invariant-loop-rel
invariant-loop-rel l = record {
  so_far : each (λ object. in_file object.number (overlap_of object)) (drop l.rel-index l.rels) ≡ each (λ object. in_file object.number (overlap_of object)) l.rels;
  sound : All IsRelRead (take l.rel-index l.rels);
}

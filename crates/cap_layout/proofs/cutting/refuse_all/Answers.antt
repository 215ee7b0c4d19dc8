use Rattle.std.proofs.Common.{sym, ap, subst, ◌∙◌, arith, All}
use Rattle.std.proofs.lemmas.List.{take_all}
use Rattle.std.proofs.lemmas.List.Elements.{All-more}
use Rattle.cap_base.specs.Steps.{in_file}
use Rattle.cap_base.proofs.Walk.{steps_more}
use Rattle.cap_elf.specs.IsRelRead.{IsRelRead}
use Rattle.cap_layout.specs.Cuts.{overlap_of}
use Rattle.cap_layout.proofs.cutting.refuse_all.Goals as goal

pub loop-rel-preserved : goal.loop-rel-preserved
loop-rel-preserved c =
    let xs = c.args.rels.now in
    let x = c.rel-item.result in
    record {
      so_far = steps_more (λ _ o. in_file o.number (overlap_of o)) tt tt xs c.loop-rel.rel-index x _ (omega arith) (ap (λ o. in_file o.number (overlap_of o)) (sym c.rel-item.is) ∙ c.in_ok-refuse_overlaps.ensures.value) c.loop-rel.invariant.so_far;
      sound = All-more IsRelRead xs c.loop-rel.rel-index x (omega arith) c.loop-rel.invariant.sound (subst IsRelRead c.rel-item.is c.refuse_overlaps.ensures.sound);
    }

pub returns-clause-sound : goal.returns-clause-sound
returns-clause-sound c = subst (All IsRelRead) (take_all c.loop-rel.rel-index c.args.rels.now (omega arith)) c.loop-rel.invariant.sound

use Rattle.std.proofs.Common.{◌<◌, length, get_or, ap, arith}
use Rattle.std.specs.List.{enumerate_from}
use Rattle.std.proofs.lemmas.List.FromFn.{length-enumerate_from}
use Rattle.cap_layout.proofs.MarkBounds.{marks_fit}
use Rattle.cap_layout.proofs.PieceFlats.{blank, class_part, file_step, file_start, flat_done, marks_in, marks_own, section_read}
use Rattle.cap_layout.proofs.cutting.add_file.Goals as goal

pub loop-place-init : goal.loop-place-init
loop-place-init c = file_start c.args.rel.now c.args.class c.args.file c.args.all.now

pub of-requires : goal.of-requires
of-requires c =
    marks_in c.args.rel.now c.args.marks.now c.loop-place.place c.requires (omega (arith, ap length c.sections-sections.ensures.sections))

pub add_if_of-requires : goal.add_if_of-requires
add_if_of-requires c =
    let object = c.args.rel.now in
    let place = c.loop-place.place in
    let lt : place < length object.sections = omega (arith, ap length c.sections-sections.ensures.sections) in
    marks_fit object place (get_or c.sections-sections.result.now place blank) c.of.result.now c.sections-sections.ensures.sound lt
    (section_read object c.sections-sections.result.now place c.sections-sections.ensures.sections lt)
    (marks_own object c.args.marks.now place c.of.result.now c.requires c.of.ensures lt)

pub loop-place-preserved : goal.loop-place-preserved
loop-place-preserved c =
    let object = c.args.rel.now in
    let place = c.loop-place.place in
    let lt : place < length object.sections = omega (arith, ap length c.sections-sections.ensures.sections) in
    file_step object c.args.class c.args.file place (get_or c.sections-sections.result.now place blank) c.of.result.now c.loop-place.all c.add_if_of.new.all _ lt
    (section_read object c.sections-sections.result.now place c.sections-sections.ensures.sections lt)
    (marks_own object c.args.marks.now place c.of.result.now c.requires c.of.ensures lt)
    c.in_ok-add_if_of.ensures c.loop-place.invariant

pub returns : goal.returns
returns c = flat_done (class_part c.args.class c.args.rel.now c.args.file) (enumerate_from 0 c.args.rel.now.sections) c.loop-place.place c.loop-place.all _ (omega (arith, length-enumerate_from 0 c.args.rel.now.sections, ap length c.sections-sections.ensures.sections)) c.loop-place.invariant

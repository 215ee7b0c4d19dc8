-- A linked file is read back as it was planned, or refused by a name or an array.
use Rattle.std.proofs.Common.{◌≡◌, true, false, Result, Ok, ap, ◌∙◌}
use Rattle.cap_base.specs.declared.refusal.Fault.{Fault}
use Rattle.cap_chain.specs.Laws.{BuiltAreSound}
use Rattle.cap_elf.specs.DynView.{DynRecords, dyn_view}
use Rattle.cap_readback.specs.Law.{WrittenIsRead}
use Rattle.cap_readback.specs.View.{is_plain as is_plain_content}
use Rattle.cap_link.specs.Laws.{ReadsBack, RefusesOthers}
use Rattle.cap_link.specs.Content.{content_of, pieces_by_class}
use Rattle.cap_link.proofs.Viewing.{view-is}
use Rattle.cap_link.proofs.Plain.{plain-is, sound-is}
use Rattle.cap_link.proofs.Accepted.{LowerLaws, bridge}

abbrev pub as_read : DynRecords → Result DynRecords Fault
as_read object = Ok object

pub reads-back : LowerLaws → BuiltAreSound → WrittenIsRead → ReadsBack
reads-back laws built written inputs kind l accepted plain =
    let b = bridge laws inputs kind l accepted in
    let p : is_plain_content (content_of l) ≡ true = plain-is l b.laid_out b.short ∙ plain in (
      ap dyn_view b.file ∙ written.reads (content_of l) (pieces_by_class l) b.plan p ∙ ap as_read (view-is l b.listed b.laid_out),
      sound-is built l b.listed,
    )

pub refuses-others : LowerLaws → WrittenIsRead → RefusesOthers
refuses-others laws written inputs kind l accepted other =
    let b = bridge laws inputs kind l accepted in
    let p : is_plain_content (content_of l) ≡ false = plain-is l b.laid_out b.short ∙ other in
    let r = written.refuses (content_of l) (pieces_by_class l) b.plan p in
    (r.fault, r.check, ap dyn_view b.file ∙ r.is)

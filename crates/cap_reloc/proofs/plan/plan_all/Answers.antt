use Rattle.std.proofs.Common.{◌≡◌, ◌<◌, List, length, get_or, Option, Ok, ap, ◌∙◌, subst}
use Rattle.std.proofs.lemmas.Result.{err_from_is_err_and}
use Rattle.cap_elf.specs.declared.records.CapReloc.{CapReloc}
use Rattle.cap_elf.specs.declared.records.DynReloc.{DynReloc}
use Rattle.std.specs.Prelude.{pos}
use Rattle.cap_reloc.specs.Wanted.{Pair, Record, own, slot_of, wanted_entry, record_pair}
use Rattle.cap_reloc.specs.Taken.{is_touched}
use Rattle.cap_reloc.specs.Binding.{IsRefusedBy}
use Rattle.cap_reloc.specs.Adds.{HasMore}
use Rattle.cap_reloc.proofs.Planning.{entry_more, entry_refused, record_more, record_refused}
use Rattle.cap_reloc.proofs.plan.plan_all.Goals as goal

abbrev no_entry : CapReloc
no_entry = record { location = 0; object = 0; offset = 0; size = 0; permissions = 0; at = 0 }

abbrev no_record : DynReloc
no_record = record { slot = 0; kind = 0; symbol = 0; addend = pos 0; at = 0 }

pub returns-in_err-add_entry-clause-refusal : goal.returns-in_err-add_entry-clause-refusal
returns-in_err-add_entry-clause-refusal c =
    let setting = c.args.loaded.now in
    let plan = c.loop-entry.plan in
    let i = c.loop-entry.entry-index in
    let p = err_from_is_err_and c.from_residual.result c.from_residual.ensures.1 in
    let items : c.cap_relocs-entry-items.result.now ≡ (own setting).cap_relocs = c.cap_relocs-entry-items.ensures ∙ ap (λ o. o.cap_relocs) c.own.ensures.value in
    let said = subst (λ (es : List CapReloc). IsRefusedBy (wanted_entry setting (is_touched plan.taken ((get_or es i no_entry).location, 16)) (get_or es i no_entry)) c.in_err-add_entry.field-0.0) items c.in_err-add_entry.ensures in
    let lt : i < length (own setting).cap_relocs = subst (λ (es : List CapReloc). i < length es) items c.loop-entry-test.true in
    rw (p.1, p.2) (entry_refused setting i no_entry plan c.in_err-add_entry.field-0.0 lt c.loop-entry.invariant said)

pub loop-entry-preserved : goal.loop-entry-preserved
loop-entry-preserved c =
    let setting = c.args.loaded.now in
    let old = c.loop-entry.plan in
    let new = c.add_entry.new.self in
    let i = c.loop-entry.entry-index in
    let items : c.cap_relocs-entry-items.result.now ≡ (own setting).cap_relocs = c.cap_relocs-entry-items.ensures ∙ ap (λ o. o.cap_relocs) c.own.ensures.value in
    let adds = c.in_ok-add_entry.ensures in
    let p : Option Pair = adds.0 in
    let said = subst (λ (es : List CapReloc). wanted_entry setting (is_touched old.taken ((get_or es i no_entry).location, 16)) (get_or es i no_entry) ≡ Ok p) items adds.1 in
    let more = subst (λ (es : List CapReloc). HasMore old new ((get_or es i no_entry).location, 16) p) items adds.2 in
    let lt : i < length (own setting).cap_relocs = subst (λ (es : List CapReloc). i < length es) items c.loop-entry-test.true in
    entry_more setting i no_entry old new p lt c.loop-entry.invariant said more

pub returns-in_err-add_record-clause-refusal : goal.returns-in_err-add_record-clause-refusal
returns-in_err-add_record-clause-refusal c =
    let setting = c.args.loaded.now in
    let plan = c.loop-reloc.plan in
    let i = c.loop-reloc.reloc-index in
    let p = err_from_is_err_and c.from_residual-in_err-add_record.result c.from_residual-in_err-add_record.ensures.1 in
    let items : c.relocs-reloc-items.result.now ≡ (own setting).relocs = c.relocs-reloc-items.ensures.relocs ∙ ap (λ o. o.relocs) c.own-2.ensures.value in
    let said = subst (λ (rs : List DynReloc). IsRefusedBy (record_pair setting (is_touched plan.taken (slot_of (Record (get_or rs i no_record)))) (get_or rs i no_record)) c.in_err-add_record.field-0.0) items c.in_err-add_record.ensures in
    let lt : i < length (own setting).relocs = subst (λ (rs : List DynReloc). i < length rs) items c.loop-reloc-test.true in
    rw (p.1, p.2) (record_refused setting i no_record plan c.in_err-add_record.field-0.0 lt c.loop-reloc.invariant said)

pub loop-reloc-preserved : goal.loop-reloc-preserved
loop-reloc-preserved c =
    let setting = c.args.loaded.now in
    let old = c.loop-reloc.plan in
    let new = c.add_record.new.self in
    let i = c.loop-reloc.reloc-index in
    let items : c.relocs-reloc-items.result.now ≡ (own setting).relocs = c.relocs-reloc-items.ensures.relocs ∙ ap (λ o. o.relocs) c.own-2.ensures.value in
    let adds = c.in_ok-add_record.ensures in
    let p : Option Pair = adds.0 in
    let said = subst (λ (rs : List DynReloc). record_pair setting (is_touched old.taken (slot_of (Record (get_or rs i no_record)))) (get_or rs i no_record) ≡ Ok p) items adds.1 in
    let more = subst (λ (rs : List DynReloc). HasMore old new (slot_of (Record (get_or rs i no_record))) p) items adds.2 in
    let lt : i < length (own setting).relocs = subst (λ (rs : List DynReloc). i < length rs) items c.loop-reloc-test.true in
    record_more setting i no_record old new p lt c.loop-reloc.invariant said more

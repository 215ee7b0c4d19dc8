use Rattle.std.proofs.Common.{◌≡◌, subst, arith, ℕ, List, length, Ok}
use Rattle.cap_elf.specs.NamePlaces.{AreNamesInside}
use Rattle.cap_elf.specs.RelView.{rel_records_of, rel_records_view}
use Rattle.cap_elf.proofs.ReadRelLaw.{rel_read_is}
use Rattle.cap_elf.proofs.rel_file.read_rel.Goals as goal

pub invariant_of-result : goal.invariant_of-result
invariant_of-result c =
    let records = c.in-Ok.records in
    let read = subst (λ (bytes : List ℕ). rel_records_of bytes ≡ Ok (rel_records_view bytes records)) c.deref.ensures.value c.in-Ok.ensures.value in
    let names = subst (λ (bytes : List ℕ). AreNamesInside (length bytes) records.strings records.names.items) c.deref.ensures.value c.in-Ok.ensures.names in
    let is = rel_read_is c.args.number c.args.bytes.items (rel_records_view c.args.bytes.items records) (omega (arith, c.len.ensures, c.if-len.false)) c.in-Ok.ensures.few read in
    (is.0, is.1, names)

pub returns-in-Ok-clause-sound : goal.returns-in-Ok-clause-sound
returns-in-Ok-clause-sound c =
    let read = subst (λ (bytes : List ℕ). rel_records_of bytes ≡ Ok (rel_records_view bytes c.in-Ok.records)) c.deref.ensures.value c.in-Ok.ensures.value in
    (rel_read_is c.args.number c.args.bytes.items (rel_records_view c.args.bytes.items c.in-Ok.records) (omega (arith, c.len.ensures, c.if-len.false)) c.in-Ok.ensures.few read).0

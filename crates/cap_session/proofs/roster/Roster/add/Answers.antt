use Rattle.std.proofs.Common.{◌≡◌, ℕ, ◌<◌, Ok, List, length, sym, ap, ◌∙◌, subst, refl, arith}
use Rattle.std.specs.Prelude.{IfSome}
use Rattle.std.proofs.lemmas.Result.{err_from_is_err_and}
use Rattle.cap_base.specs.Outside.{Store}
use Rattle.cap_elf.specs.DynView.{DynValue}
use Rattle.cap_session.specs.declared.refusal.OpenCause.{OpenCause}
use Rattle.cap_session.specs.Adding.{numbered_source, with_object}
use Rattle.cap_session.specs.Causes.{IsCausedBy}
use Rattle.cap_session.specs.Fetched.{source_of}
use Rattle.cap_session.specs.Loading.{fetch_from, next_object}
use Rattle.cap_session.proofs.OneMore.{caused_fetch, if_some_map, numbered_is, put_refused}
use Rattle.cap_session.proofs.roster.Roster.add.Goals as goal

pub returns-in_err-object-clause-adds : goal.returns-in_err-object-clause-adds
returns-in_err-object-clause-adds g c =
    let p = err_from_is_err_and c.from_residual.result c.from_residual.ensures.1 in
    let r = c.args.self.now in
    let few : length r.objects < 256 = omega (arith, c.len-number.ensures.len, c.if-number-ge-MOST_OBJECTS.false) in
    let cause = c.in_err-object.field-0.0 in
    rw (p.1, p.2) (
      if_some_map (λ (store : Store). IsCausedBy (fetch_from store c.args.path.now) cause) (λ (store : Store). IsCausedBy (next_object (fetch_from store) c.args.path.now (length r.objects) r.next c.args.name.now) cause)
          (g.F.Files.told c.args.files.now) (λ store h. caused_fetch (fetch_from store) c.args.path.now (length r.objects) r.next c.args.name.now cause few h) c.in_err-object.ensures.leads,
      refl,
    )

pub returns-in-Ok-clause-adds : goal.returns-in-Ok-clause-adds
returns-in-Ok-clause-adds g c =
    let f = c.in_ok-object.field-0 in
    let r = c.args.self.now in
    record {
      source = source_of f;
      found = c.in_ok-object.ensures.leads;
      few = omega (arith, c.len-number.ensures.len, c.if-number-ge-MOST_OBJECTS.false);
      fits = c.in-Ok.ensures.puts.0;
      new_is = c.in-Ok.ensures.puts.1 ∙ ap (λ (o : DynValue). with_object r o c.args.name.now c.deref.result.now) (numbered_is r f.object f.bytes.items (c.in_ok-object.ensures.number ∙ c.len-number.ensures.len)) ∙ ap (λ (bytes : List ℕ). with_object r (numbered_source r (source_of f)) c.args.name.now bytes) c.deref.ensures.value;
    }

pub returns-clause-adds : goal.returns-clause-adds
returns-clause-adds g c =
    let f = c.in_ok-object.field-0 in
    let r = c.args.self.now in
    let path = c.args.path.now in
    let few : length r.objects < 256 = omega (arith, c.len-number.ensures.len, c.if-number-ge-MOST_OBJECTS.false) in (
      subst (λ (cause : OpenCause). IfSome (g.F.Files.told c.args.files.now) (λ store. IsCausedBy (next_object (fetch_from store) path (length r.objects) r.next c.args.name.now) cause)) (sym c.refusal_cause.ensures)
          (if_some_map (λ (store : Store). fetch_from store path ≡ Ok (source_of f)) (λ (store : Store). IsCausedBy (next_object (fetch_from store) path (length r.objects) r.next c.args.name.now) _)
          (g.F.Files.told c.args.files.now) (λ store found. put_refused (fetch_from store) path r c.args.name.now (source_of f) c.in-Err.refusal few c.in-Err.ensures.puts.0 found) c.in_ok-object.ensures.leads),
      c.in-Err.ensures.puts.1,
    )

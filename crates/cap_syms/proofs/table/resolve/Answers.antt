use Rattle.std.proofs.Common.{◌≡◌, ℕ, Bool, List, [], map, inr, sym, subst, ap, ◌∙◌}
use Rattle.std.specs.Prelude.{zip}
use Rattle.std.proofs.lemmas.Result.{err_from_is_err_and}
use Rattle.cap_base.specs.Steps.{each}
use Rattle.cap_elf.specs.RelObject.{RelObject}
use Rattle.cap_elf.specs.DynView.{DynValue}
use Rattle.cap_syms.specs.Occurrences.{occurrences}
use Rattle.cap_syms.specs.declared.tally.Tally.{Tally}
use Rattle.cap_syms.specs.Output.{is_program}
use Rattle.cap_syms.specs.Resolved.{Resolved, resolve_of}
use Rattle.cap_syms.specs.IsResolved.{IsResolved}
use Rattle.cap_syms.specs.Tally.{tallied, decided_row, second_from, refuse_this}
use Rattle.cap_syms.proofs.ResolveLaw.{refused-first, refused-later, given, table-is}
use Rattle.cap_syms.proofs.ResolvedLaw.{is_resolved}
use Rattle.cap_syms.proofs.table.resolve.Goals as goal

pub returns-in_err-refuse_seconds-clause-value : goal.returns-in_err-refuse_seconds-clause-value
returns-in_err-refuse_seconds-clause-value c =
    let rels : List RelObject = c.args.rels.now in
    let dyns : List DynValue = c.args.dyns.now in
    let program : Bool = is_program c.args.kind.now in
    let names : List (List ℕ) = c.seen.inside.names in
    let ts : List Tally = c.seen.inside.tallies.items in
    let view : zip names ts ≡ tallied (occurrences rels) = c.seen.view_is ∙ c.in_ok-seen.ensures.seen in
    let p = err_from_is_err_and c.from_residual-in_err-refuse_seconds.result c.from_residual-in_err-refuse_seconds.ensures.1 in
    rw (p.1, p.2) (inr (refused-first rels dyns program names ts c.seen.invariant.0 view c.in_err-refuse_seconds.field-0.0 (c.in_err-refuse_seconds.ensures ∙ ap (each (λ (t : Tally). refuse_this rels (second_from t))) c.deref.ensures.value)))

pub returns-in_err-refuse_missing-clause-value : goal.returns-in_err-refuse_missing-clause-value
returns-in_err-refuse_missing-clause-value c =
    let rels : List RelObject = c.args.rels.now in
    let dyns : List DynValue = c.args.dyns.now in
    let program : Bool = c.is_program-program.result in
    let names : List (List ℕ) = c.seen.inside.names in
    let ts : List Tally = c.seen.inside.tallies.items in
    let made : List Resolved = c.in_ok-table.table in
    let offered : List (List ℕ) = c.in_ok-offered.offered in
    let view : zip names ts ≡ tallied (occurrences rels) = c.seen.view_is ∙ c.in_ok-seen.ensures.seen in
    let is : made ≡ map (decided_row program) (tallied (occurrences rels)) = c.in_ok-table.ensures ∙ ap (map (decided_row program)) c.in_ok-seen.ensures.seen in
    let passed = c.in_ok-refuse_seconds.ensures ∙ ap (each (λ (t : Tally). refuse_this rels (second_from t))) c.deref.ensures.value in
    let p = err_from_is_err_and c.from_residual-in_err-refuse_missing.result c.from_residual-in_err-refuse_missing.ensures.1 in
    rw (p.1, p.2) (inr (ap (resolve_of rels dyns) (sym c.is_program-program.ensures) ∙ refused-later rels dyns program names ts c.seen.invariant.0 view made is offered c.in_ok-offered.ensures passed c.in_err-refuse_missing.field-0.0 c.in_err-refuse_missing.ensures))

pub returns-clause-value : goal.returns-clause-value
returns-clause-value c =
    let rels : List RelObject = c.args.rels.now in
    let dyns : List DynValue = c.args.dyns.now in
    let program : Bool = c.is_program-program.result in
    let names : List (List ℕ) = c.seen.inside.names in
    let ts : List Tally = c.seen.inside.tallies.items in
    let made : List Resolved = c.in_ok-table.table in
    let offered : List (List ℕ) = c.in_ok-offered.offered in
    let view : zip names ts ≡ tallied (occurrences rels) = c.seen.view_is ∙ c.in_ok-seen.ensures.seen in
    let is : made ≡ map (decided_row program) (tallied (occurrences rels)) = c.in_ok-table.ensures ∙ ap (map (decided_row program)) c.in_ok-seen.ensures.seen in
    let passed = c.in_ok-refuse_seconds.ensures ∙ ap (each (λ (t : Tally). refuse_this rels (second_from t))) c.deref.ensures.value in
    ap (resolve_of rels dyns) (sym c.is_program-program.ensures) ∙ given rels dyns program names ts c.seen.invariant.0 view made is offered c.in_ok-offered.ensures passed c.in_ok-refuse_missing.ensures

pub returns-clause-sound : goal.returns-clause-sound
returns-clause-sound c =
    let rels : List RelObject = c.args.rels.now in
    let program : Bool = c.is_program-program.result in
    let made : List Resolved = c.in_ok-table.table in
    let is : made ≡ map (decided_row program) (tallied (occurrences rels)) = c.in_ok-table.ensures ∙ ap (map (decided_row program)) c.in_ok-seen.ensures.seen in
    subst (IsResolved rels) (sym (is ∙ table-is rels [] program)) (is_resolved rels c.in_ok-seen.ensures.sound program)

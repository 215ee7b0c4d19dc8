use Rattle.std.proofs.Common.{◌≡◌, ℕ, List, sym, subst, ap, ◌∙◌, arith, inl, inr}
use Rattle.std.specs.Prelude.{fold}
use Rattle.std.specs.List.{enumerate_from}
use Rattle.std.proofs.lemmas.Bool.{cases_lt}
use Rattle.std.proofs.lemmas.List.{get_or_default}
use Rattle.cap_elf.specs.RelObject.{RelObject, file_of, no_object}
use Rattle.cap_elf.specs.IsRelRead.{IsRelRead}
use Rattle.cap_syms.specs.Occurrences.{occurrences}
use Rattle.cap_syms.specs.Tally.{with_input, tallied}
use Rattle.cap_syms.proofs.Passes.{input-more, input-done}
use Rattle.cap_syms.proofs.Tallied.{all-tallied}
use Rattle.cap_syms.proofs.seen.tally_all.Goals as goal

pub loop-file-init : goal.loop-file-init
loop-file-init c = (
  ap (λ rows. fold with_input rows (enumerate_from 0 c.args.rels.now)) c.in_ok-seen.ensures ∙ all-tallied c.args.rels.now,
  λ k lt. absurd (omega (arith, lt)),
)

pub loop-file-preserved : goal.loop-file-preserved
loop-file-preserved c =
    let rels : List RelObject = c.args.rels.now in
    let i : ℕ = c.loop-file.file in
    let rel : RelObject = c.index-rels-file.result in
    let here : file_of rels i ≡ rel = get_or_default rels i no_object rel c.loop-file-test.true ∙ sym c.index-rels-file.is in (
      input-more rels c.loop-file.seen c.note_input.new.self (tallied (occurrences rels)) i rel c.loop-file-test.true here c.in_ok-note_input.ensures.seen c.loop-file.invariant.0,
      λ k lt. elim (cases_lt k i) [
        | inl before ↦ c.loop-file.invariant.1 k before
        | inr from ↦
            let same : i ≡ k = omega (arith, lt, from) in
            subst (λ (n : ℕ). IsRelRead (file_of rels n)) same (subst IsRelRead (sym here) c.note_input.ensures.sound)
      ],
    )

pub returns-clause-seen : goal.returns-clause-seen
returns-clause-seen c =
    input-done c.args.rels.now c.loop-file.seen (tallied (occurrences c.args.rels.now)) c.loop-file.file (omega (arith, c.loop-file-test.false)) c.loop-file.invariant.0

pub returns-clause-sound : goal.returns-clause-sound
returns-clause-sound c k d lt =
    subst IsRelRead (get_or_default c.args.rels.now k no_object d lt) (c.loop-file.invariant.1 k (omega (arith, c.loop-file-test.false, lt)))

use Rattle.std.proofs.Common.{◌≡◌, ℕ, Bool, true, ◌||◌, ◌&&◌, ◌==◌, ◌<◌, length, get_or, sym, ap, ◌∙◌, subst, arith}
use Rattle.cap_intervals.specs.declared.interval.Interval.{Interval}
use Rattle.cap_intervals.specs.Clash.{clash}
use Rattle.cap_intervals.specs.Groups.{clashes_in}
use Rattle.cap_table.specs.Kinds.{is_slot}
use Rattle.cap_table.specs.Checks.{no_reloc}
use Rattle.cap_table.specs.Walked.{field_of, next_of}
use Rattle.cap_table.proofs.StepFields.{fields_more}
use Rattle.cap_table.proofs.walked.Walked.add.Goals as goal

pub invariant_of-result-2 : goal.invariant_of-result-2
invariant_of-result-2 c =
    let relocs = c.self.inside.relocs.now in
    let i = c.self.inside.done in
    let r = c.next-reloc.result.now in
    let lt : i < length relocs = subst (λ v. v.done < length v.relocs) (sym c.self.view_is) c.requires.more in
    let same : r ≡ get_or relocs i no_reloc = c.next-reloc.ensures ∙ ap next_of (sym c.self.view_is) in
    let slot : is_slot r.kind ≡ true = sym c.is_slot.ensures ∙ c.if-not-is_slot.false in
    let step : (b : Bool) (g : ℕ) (q : Interval) → clashes_in b c.add.new.self g q ≡ ((g == r.section && clash b q (field_of r)) || clashes_in b c.self.inside.fields g q) =
    λ b g q. c.in_ok-add.ensures.added b g q ∙ ap (λ x. (g == r.section && clash b q x) || clashes_in b c.self.inside.fields g q) c.field.ensures in
    (omega (arith, lt), fields_more c.self.inside.fields c.add.new.self relocs i no_reloc r lt same slot c.self.invariant.1 step)

use Rattle.std.proofs.Common.{◌≡◌, ℕ, true, false, cond, Some, sym, ◌∙◌, subst}
use Rattle.std.specs.BTreeMap.{get, is_at}
use Rattle.cap_elf.specs.declared.records.Reloc.{Reloc}
use Rattle.cap_code.specs.Partners.{place_cmp}
use Rattle.cap_code.proofs.Firsts.{has_high, entered, passed_over}
use Rattle.cap_code.proofs.partners.enter.Goals as goal

pub returns-in_ok-insert : goal.returns-in_ok-insert
returns-in_ok-insert c =
    let scene = c.args.scene.now in
    let step = c.step-step.result in
    let is = c.reloc-reloc.ensures.value in
    let high = subst (λ (r : Reloc). has_high r ≡ true) is (sym c.is_high.ensures ∙ c.if-is_high.true) in
    let updates = subst (λ (r : Reloc). (q : ℕ × ℕ × ℕ) → get place_cmp c.insert.new.self q ≡ cond (is_at (place_cmp (step.file, r.section, r.offset)) q) (Some step) (get place_cmp c.args.firsts.now q)) is c.in_ok-insert.ensures.updates.0 in
    entered scene.named.rels scene.lists.plan.steps c.args.k step c.args.firsts.now c.insert.new.self c.requires.inside c.step-step.ensures.value high updates c.requires.behind

pub returns-else-is_high : goal.returns-else-is_high
returns-else-is_high c =
    let scene = c.args.scene.now in
    let is = c.reloc-reloc.ensures.value in
    let low = subst (λ (r : Reloc). has_high r ≡ false) is (sym c.is_high.ensures ∙ c.if-is_high.false) in
    passed_over scene.named.rels scene.lists.plan.steps c.args.k c.step-step.result c.args.firsts.now c.requires.inside c.step-step.ensures.value low c.requires.behind

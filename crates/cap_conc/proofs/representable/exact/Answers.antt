use Rattle.std.proofs.Common.{◌↔◌, ◌-◌, ◌==◌, ◌&&◌, IsTrue, bit_and, ap, sym, subst, ◌∙◌}
use Rattle.std.proofs.lemmas.Bool.{ne_eqb, and_left}
use Rattle.cap_conc.specs.Exact.{IsExact}
use Rattle.cap_conc.proofs.ComputedLemmas.{is_exact-short, is_exact-masked, is_exact-IsExact}
use Rattle.cap_conc.proofs.representable.exact.Goals as goal

pub returns-then-len-lt4096-clause-value : goal.returns-then-len-lt4096-clause-value
returns-then-len-lt4096-clause-value c = sym (is_exact-short c.args.base c.args.len c.if-len-lt4096.true)

pub returns-then-base-mask-eq0-clause-value : goal.returns-then-base-mask-eq0-clause-value
returns-then-base-mask-eq0-clause-value c =
    let g = c.grain-mask.result in
    sym (is_exact-masked c.args.base c.args.len g c.if-len-lt4096.false c.grain-mask.ensures.value ∙ ap (λ x. x == 0 && bit_and c.args.len (g - 1) == 0) c.if-base-mask-eq0.true)

pub returns-else-base-mask-eq0-clause-value : goal.returns-else-base-mask-eq0-clause-value
returns-else-base-mask-eq0-clause-value c =
    let no = ne_eqb _ 0 c.if-base-mask-eq0.false in
    no ∙ sym (is_exact-masked c.args.base c.args.len c.grain-mask.result c.if-len-lt4096.false c.grain-mask.ensures.value ∙ and_left _ _ no)

pub returns-then-base-mask-eq0-clause-meaning : goal.returns-then-base-mask-eq0-clause-meaning
returns-then-base-mask-eq0-clause-meaning c =
    subst (λ b. IsTrue b ↔ IsExact c.args.base c.args.len) (sym (returns-then-base-mask-eq0-clause-value c)) (is_exact-IsExact c.args.base c.args.len)

pub returns-else-base-mask-eq0-clause-meaning : goal.returns-else-base-mask-eq0-clause-meaning
returns-else-base-mask-eq0-clause-meaning c =
    subst (λ b. IsTrue b ↔ IsExact c.args.base c.args.len) (sym (returns-else-base-mask-eq0-clause-value c)) (is_exact-IsExact c.args.base c.args.len)

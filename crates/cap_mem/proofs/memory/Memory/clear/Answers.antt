use Rattle.std.proofs.Common.{◌≡◌, ◌-◌, subst, sym, ◌∙◌, arith, ap, List}
use Rattle.cap_mem.specs.Tagged.{TaggedMemory, TaggedWord, without_touched}
use Rattle.cap_mem.specs.Held.{without_range}
use Rattle.cap_mem.proofs.Touched.{touched_words, untouched}
use Rattle.cap_mem.proofs.memory.Memory.clear.Goals as goal

abbrev with_words : TaggedMemory → List TaggedWord → TaggedMemory
with_words v words = record { base = v.base; bytes = v.bytes; words = words }

pub returns-then-len-gt0 : goal.returns-then-len-gt0
returns-then-len-gt0 c =
    let m = c.self.inside in
    let base : m.base ≡ c.args.self.now.base = ap (λ (v : TaggedMemory). v.base) c.self.view_is in
    let t = c.touched_granules-touched in
    let e = touched_words m c.self.invariant c.args.at c.args.len t.result.0 (t.result.1 - t.result.0)
    (omega (arith, base, c.requires.from)) c.if-len-gt0.true t.ensures.first (omega (arith, t.ensures.first, t.ensures.end)) in
    let words = subst (λ (v : TaggedMemory). without_range v.base t.result.0 (t.result.1 - t.result.0) v.words ≡ without_touched c.args.at c.args.len v.words) c.self.view_is e in
    c.clear_range.ensures ∙ ap (with_words c.args.self.now) words

pub returns-else-len-gt0 : goal.returns-else-len-gt0
returns-else-len-gt0 c =
    let zero_len : c.args.len ≡ 0 = omega arith in
    rw zero_len (ap (with_words c.args.self.now) (sym (untouched c.args.at c.args.self.now.words)))

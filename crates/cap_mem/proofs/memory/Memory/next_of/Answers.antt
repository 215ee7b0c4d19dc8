use Rattle.std.proofs.Common.{◌≡◌, ◌-◌, ◌/◌, sym, ◌∙◌, arith, ap}
use Rattle.cap_mem.specs.Chain.{has, following_in}
use Rattle.cap_mem.specs.MemoryFields.{memory_of}
use Rattle.cap_mem.specs.Tagged.{TaggedMemory, IsTaggedGranule, next_granule}
use Rattle.cap_mem.specs.Held.{granule_of}
use Rattle.cap_mem.proofs.Granules.{tagged_granule}
use Rattle.cap_mem.proofs.Following.{next_word, granule_if, granule_is}
use Rattle.cap_mem.proofs.Walks.{if_some, next_tags, granule_of_tag}
use Rattle.cap_mem.proofs.memory.Memory.next_of.Goals as goal

pub overflow_sub-g : goal.overflow_sub-g
overflow_sub-g c = let f = tagged_granule c.self.inside c.args.self.now c.args.at c.self.view_is c.requires in omega (arith, f.is)

pub overflow_cast-g : goal.overflow_cast-g
overflow_cast-g c = let f = tagged_granule c.self.inside c.args.self.now c.args.at c.self.view_is c.requires in let i = c.self.invariant in omega (arith, f.is, f.below, i.small)

pub after-requires-clause-below : goal.after-requires-clause-below
after-requires-clause-below c = let f = tagged_granule c.self.inside c.args.self.now c.args.at c.self.view_is c.requires in omega (arith, f.is, f.below)

pub after-requires-clause-stands : goal.after-requires-clause-stands
after-requires-clause-stands c =
    let m = c.self.inside in
    let f = tagged_granule c.self.inside c.args.self.now c.args.at c.self.view_is c.requires in
    let same : (c.args.at - m.base) / 16 ≡ f.g = omega (arith, f.is) in
    ap (λ g. has g m.links.chain) same ∙ f.stands

pub returns-clause-value : goal.returns-clause-value
returns-clause-value c =
    let m = c.self.inside in
    let i = c.self.invariant in
    let f = tagged_granule c.self.inside c.args.self.now c.args.at c.self.view_is c.requires in
    let same : (c.args.at - m.base) / 16 ≡ f.g = omega (arith, f.is) in
    c.granule_at.ensures ∙ ap (λ (v : TaggedMemory). granule_of v c.after.result) (sym c.self.view_is) ∙ granule_is m i c.after.result
    ∙ ap (granule_if m.base m.links.size) (c.after.ensures ∙ ap (λ g. following_in g m.links.chain) same) ∙ sym (next_word m i f.g f.below f.stands)
    ∙ ap (λ a. next_granule (memory_of m) a) (sym f.is) ∙ ap (λ (v : TaggedMemory). next_granule v c.args.at) c.self.view_is

pub returns-clause-granule : goal.returns-clause-granule
returns-clause-granule c = if_some c.granule_at.result (IsTaggedGranule c.args.self.now) (λ g e.
    granule_of_tag c.self.inside c.self.invariant c.args.self.now g c.self.view_is (next_tags c.args.self.now c.args.at g (sym (returns-clause-value c) ∙ e)))

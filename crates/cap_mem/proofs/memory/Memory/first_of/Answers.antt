use Rattle.std.proofs.Common.{◌≡◌, ◌+◌, ◌/◌, sym, ◌∙◌, arith, ap}
use Rattle.cap_mem.specs.Chain.{has, following_in}
use Rattle.cap_mem.specs.Tagged.{TaggedMemory, IsTaggedGranule, first_granule, list_of}
use Rattle.cap_mem.specs.Held.{granule_of}
use Rattle.cap_mem.proofs.Following.{first_is, first_none, mark_stands, granule_if, granule_is}
use Rattle.cap_mem.proofs.Walks.{if_some, first_tags, granule_of_tag}
use Rattle.cap_mem.proofs.memory.Memory.first_of.Goals as goal

pub returns-then-owner-ge256-clause-value : goal.returns-then-owner-ge256-clause-value
returns-then-owner-ge256-clause-value c =
    sym (ap (λ (v : TaggedMemory). first_granule (list_of v c.args.owner)) (sym c.self.view_is) ∙ first_none c.self.inside c.self.invariant c.args.owner (omega arith))

pub after-requires-clause-stands : goal.after-requires-clause-stands
after-requires-clause-stands c =
    let m = c.self.inside in
    let i = c.self.invariant in
    let size : c.len.result / 16 ≡ m.links.size = omega (arith, i.bytes_len) in
    ap (λ s. has (s + c.args.owner) m.links.chain) size ∙ ap (λ cs. has (m.links.size + c.args.owner) cs) i.starts ∙ mark_stands m.links.size c.args.owner i.rest (omega arith) i.marks

pub returns-clause-value : goal.returns-clause-value
returns-clause-value c =
    let m = c.self.inside in
    let i = c.self.invariant in
    let size : c.len.result / 16 ≡ m.links.size = omega (arith, i.bytes_len) in
    let x : c.after.result ≡ following_in (m.links.size + c.args.owner) m.links.chain = c.after.ensures ∙ ap (λ s. following_in (s + c.args.owner) m.links.chain) size in
    c.granule_at.ensures ∙ ap (λ (v : TaggedMemory). granule_of v c.after.result) (sym c.self.view_is) ∙ granule_is m i c.after.result
    ∙ ap (granule_if m.base m.links.size) x ∙ sym (first_is m i c.args.owner (omega arith))
    ∙ ap (λ (v : TaggedMemory). first_granule (list_of v c.args.owner)) c.self.view_is

pub returns-clause-granule : goal.returns-clause-granule
returns-clause-granule c = if_some c.granule_at.result (IsTaggedGranule c.args.self.now) (λ g e.
    granule_of_tag c.self.inside c.self.invariant c.args.self.now g c.self.view_is (first_tags c.args.self.now c.args.owner g (sym (returns-clause-value c) ∙ e)))

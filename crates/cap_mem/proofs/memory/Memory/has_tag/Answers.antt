use Rattle.std.proofs.Common.{◌≡◌, ℕ, ◌+◌, ◌-◌, ◌*◌, ◌/◌, ◌<◌, length, sym, ◌∙◌, arith, ap, List}
use Rattle.cap_mem.specs.Bit.{bit_in}
use Rattle.cap_mem.specs.MemoryFields.{memory_of}
use Rattle.cap_mem.specs.Tagged.{TaggedMemory, is_tagged}
use Rattle.cap_mem.proofs.Granules.{tagged_is}
use Rattle.cap_mem.proofs.memory.Memory.has_tag.Goals as goal

pub returns : goal.returns
returns c =
    let m = c.self.inside in
    let i = c.self.invariant in
    let bytes = ap (λ (v : TaggedMemory). length v.bytes) c.self.view_is in
    let base : m.base ≡ c.args.self.now.base = ap (λ (v : TaggedMemory). v.base) c.self.view_is in
    let below : (c.args.at - m.base) / 16 < m.links.size = omega (arith, i.bytes_len, bytes, base, c.requires.inside.to, c.requires.inside.from) in
    let at : c.args.at ≡ m.base + 16 * ((c.args.at - m.base) / 16) = omega (arith, i.aligned, base, c.requires.aligned, c.requires.inside.from) in
    c.has_bit.ensures ∙ ap (λ (ws : List ℕ). bit_in ws ((c.args.at - m.base) / 16)) c.deref.ensures.value ∙ i.tagged ((c.args.at - m.base) / 16) below
    ∙ sym (tagged_is m ((c.args.at - m.base) / 16) below)
    ∙ ap (λ a. is_tagged (memory_of m) a) (sym at) ∙ ap (λ (v : TaggedMemory). is_tagged v c.args.at) c.self.view_is

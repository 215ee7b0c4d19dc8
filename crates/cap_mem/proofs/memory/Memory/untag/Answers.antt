use Rattle.std.proofs.Common.{◌≡◌, ℕ, ◌<◌, length, sym, ◌∙◌, arith, ap, false, List}
use Rattle.cap_mem.specs.Chain.{without, has}
use Rattle.cap_mem.specs.Tagged.{TaggedMemory, TaggedWord}
use Rattle.cap_mem.specs.Bit.{bit_in}
use Rattle.cap_mem.proofs.Chains.{apart_without}
use Rattle.cap_mem.proofs.Tables.{without_head, marks_without}
use Rattle.cap_mem.specs.MemoryFields.{caps_of, notes_of, owners_of}
use Rattle.cap_mem.proofs.Granules.{words_without, owned_without, without_absent}
use Rattle.cap_mem.proofs.Tags.{cleared, still_past}
use Rattle.cap_mem.proofs.Stored.{caps_without}
use Rattle.cap_mem.proofs.memory.Memory.untag.Goals as goal

pub invariant_of-self : goal.invariant_of-self
invariant_of-self c =
    let m = c.self.inside in
    let i = c.self.invariant in
    let below : c.args.g < m.links.size = omega (arith, i.bytes_len, ap (λ (v : TaggedMemory). length v.bytes) c.self.view_is, c.requires) in
    rw c.unlink.ensures (record {
      aligned = i.aligned;
      bytes_len = i.bytes_len;
      end = i.end;
      small = i.small;
      tags_from = omega (arith, c.clear_bit.ensures.len, i.tags_from);
      tags_to = omega (arith, c.clear_bit.ensures.len, i.tags_to);
      owners_len = i.owners_len;
      notes_len = i.notes_len;
      tagged = cleared m.tags.items c.clear_bit.new.words.items m.links.size c.args.g m.links.chain c.clear_bit.ensures.bits i.tagged;
      none_past = still_past m.tags.items c.clear_bit.new.words.items m.links.size c.args.g below c.clear_bit.ensures.bits i.none_past;
      rest = without c.args.g i.rest;
      starts = ap (without c.args.g) i.starts ∙ without_head m.links.size c.args.g i.rest below;
      apart = apart_without c.args.g m.links.chain i.apart;
      marks = marks_without m.links.size c.args.g i.rest below i.marks;
      owners_low = i.owners_low;
      owned = owned_without m.links.size (owners_of m) 0 c.args.g i.rest below i.owned;
      caps = caps_without m.bytes.items (owners_of m) m.links.size c.args.g m.links.chain i.caps;
    })

abbrev with_words : ℕ → List ℕ → List TaggedWord → TaggedMemory
with_words base bytes words = record { base = base; bytes = bytes; words = words }

pub returns-then-has_bit : goal.returns-then-has_bit
returns-then-has_bit c =
    let m = c.self.inside in
    let i = c.self.invariant in
    let below : c.args.g < m.links.size = omega (arith, i.bytes_len, ap (λ (v : TaggedMemory). length v.bytes) c.self.view_is, c.requires) in
    rw (← c.self.view_is, c.unlink.ensures) (ap (with_words m.base m.bytes.items) (words_without m.base m.links.size (caps_of m) (notes_of m) c.args.g m.links.chain below))

pub returns-else-has_bit : goal.returns-else-has_bit
returns-else-has_bit c =
    let m = c.self.inside in
    let i = c.self.invariant in
    let below : c.args.g < m.links.size = omega (arith, i.bytes_len, ap (λ (v : TaggedMemory). length v.bytes) c.self.view_is, c.requires) in
    let value : c.deref.result.now ≡ m.tags.items = c.deref.ensures.value in
    let off : bit_in m.tags.items c.args.g ≡ false = ap (λ (ws : List ℕ). bit_in ws c.args.g) (sym value) ∙ sym c.has_bit.ensures ∙ c.if-has_bit.false in
    let out : has c.args.g m.links.chain ≡ false = sym (i.tagged c.args.g below) ∙ off in
    rw (← c.self.view_is) (ap (with_words m.base m.bytes.items) (sym (without_absent m.base m.links.size (caps_of m) (notes_of m) c.args.g m.links.chain below out)))

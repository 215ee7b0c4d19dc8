use Rattle.std.proofs.Common.{◌≡◌, ℕ, ◌+◌, ◌-◌, ◌*◌, ◌/◌, ◌<◌, length, sym, ◌∙◌, arith, ap, List, true, false}
use Rattle.std.specs.Prelude.{option_map}
use Rattle.cap_mem.specs.Bit.{bit_in}
use Rattle.cap_mem.specs.MemoryFields.{memory_of}
use Rattle.cap_mem.specs.Tagged.{TaggedMemory, TaggedWord, tagged_word}
use Rattle.cap_mem.specs.declared.memory.Note.{Note}
use Rattle.cap_mem.proofs.Tables.{read}
use Rattle.cap_mem.proofs.Granules.{word_at}
use Rattle.cap_mem.proofs.memory.Memory.note_at.Goals as goal

abbrev note_of : TaggedWord → Note
note_of w = record { owner = w.cap.owner; symbol = w.note }

pub returns-then-has_bit : goal.returns-then-has_bit
returns-then-has_bit c =
    let m = c.self.inside in
    let i = c.self.invariant in
    let bytes = ap (λ (v : TaggedMemory). length v.bytes) c.self.view_is in
    let base : m.base ≡ c.args.self.now.base = ap (λ (v : TaggedMemory). v.base) c.self.view_is in
    let below : (c.args.at - m.base) / 16 < m.links.size = omega (arith, i.bytes_len, bytes, base, c.requires.inside.to, c.requires.inside.from) in
    let at : c.args.at ≡ m.base + 16 * ((c.args.at - m.base) / 16) = omega (arith, i.aligned, base, c.requires.aligned, c.requires.inside.from) in
    let bit : bit_in m.tags.items ((c.args.at - m.base) / 16) ≡ true = ap (λ (ws : List ℕ). bit_in ws ((c.args.at - m.base) / 16)) (sym c.deref.ensures.value) ∙ sym c.has_bit.ensures ∙ c.if-has_bit.true in
    let w = word_at m i ((c.args.at - m.base) / 16) true below bit in
    let o = read m.owners.items ((c.args.at - m.base) / 16) c.index.result.now (omega (arith, below, i.owners_len)) c.index.ensures in
    let n = read m.notes.items ((c.args.at - m.base) / 16) c.index-then-has_bit.result.now (omega (arith, below, i.notes_len)) c.index-then-has_bit.ensures in
    rw (o, n) (sym (ap (λ (v : TaggedMemory). option_map note_of (tagged_word v c.args.at)) (sym c.self.view_is)
    ∙ ap (λ a. option_map note_of (tagged_word (memory_of m) a)) at ∙ ap (option_map note_of) w))

pub returns-else-has_bit : goal.returns-else-has_bit
returns-else-has_bit c =
    let m = c.self.inside in
    let i = c.self.invariant in
    let bytes = ap (λ (v : TaggedMemory). length v.bytes) c.self.view_is in
    let base : m.base ≡ c.args.self.now.base = ap (λ (v : TaggedMemory). v.base) c.self.view_is in
    let below : (c.args.at - m.base) / 16 < m.links.size = omega (arith, i.bytes_len, bytes, base, c.requires.inside.to, c.requires.inside.from) in
    let at : c.args.at ≡ m.base + 16 * ((c.args.at - m.base) / 16) = omega (arith, i.aligned, base, c.requires.aligned, c.requires.inside.from) in
    let bit : bit_in m.tags.items ((c.args.at - m.base) / 16) ≡ false = ap (λ (ws : List ℕ). bit_in ws ((c.args.at - m.base) / 16)) (sym c.deref.ensures.value) ∙ sym c.has_bit.ensures ∙ c.if-has_bit.false in
    let w = word_at m i ((c.args.at - m.base) / 16) false below bit in
    sym (ap (λ (v : TaggedMemory). option_map note_of (tagged_word v c.args.at)) (sym c.self.view_is)
    ∙ ap (λ a. option_map note_of (tagged_word (memory_of m) a)) at ∙ ap (option_map note_of) w)

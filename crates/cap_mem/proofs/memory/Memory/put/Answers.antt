use Rattle.std.proofs.Common.{◌≡◌, ℕ, ◌+◌, ◌-◌, ◌*◌, ◌≤◌, length, sym, ◌∙◌, arith, ap, true, List, refl, subst}
use Rattle.std.specs.List.{replace_range}
use Rattle.cap_mem.specs.Tagged.{TaggedMemory, TaggedWord, is_tagged, is_touched}
use Rattle.cap_mem.specs.Held.{cap_in, words_of, AreCaps}
use Rattle.cap_mem.specs.MemoryFields.{owners_of, notes_of}
use Rattle.cap_mem.proofs.Granules.{bool_cases, tagged_is}
use Rattle.cap_mem.proofs.Stored.{AreFree, caps_kept, words_kept, length_replaced}
use Rattle.cap_mem.proofs.memory.Memory.put.Goals as goal
use Rattle.cap_mem.proofs.memory.Memory.put.Goals.{After-copy_in}

free : (c : After-copy_in) → AreFree c.self.inside.base c.args.at (length c.args.bytes.now) c.self.inside.links.size c.self.inside.links.chain
free c g below stands =
    let m = c.self.inside in
    bool_cases (is_touched c.args.at (length c.args.bytes.now) (m.base + 16 * g)) (λ t.
    let off = c.requires.untagged (m.base + 16 * g) t in
    let on : is_tagged c.args.self.now (m.base + 16 * g) ≡ true =
    ap (λ (v : TaggedMemory). is_tagged v (m.base + 16 * g)) (sym c.self.view_is) ∙ tagged_is m g below ∙ stands in
    absurd (cc))

pub invariant_of-self : goal.invariant_of-self
invariant_of-self c =
    let m = c.self.inside in
    let i = c.self.invariant in
    let bytes = ap (λ (v : TaggedMemory). length v.bytes) c.self.view_is in
    let base : m.base ≡ c.args.self.now.base = ap (λ (v : TaggedMemory). v.base) c.self.view_is in
    let from : m.base ≤ c.args.at = omega (arith, base, c.requires.inside.from) in
    let fits : c.args.at - m.base + length c.args.bytes.now ≤ length m.bytes.items = omega (arith, base, bytes, c.requires.inside.from, c.requires.inside.to) in
    record {
      aligned = i.aligned;
      bytes_len = ap length c.copy_in.ensures ∙ length_replaced m.bytes.items c.args.bytes.now (c.args.at - m.base) (length c.args.bytes.now) refl fits ∙ i.bytes_len;
      end = i.end;
      small = i.small;
      tags_from = i.tags_from;
      tags_to = i.tags_to;
      owners_len = i.owners_len;
      notes_len = i.notes_len;
      tagged = i.tagged;
      none_past = i.none_past;
      rest = i.rest;
      starts = i.starts;
      apart = i.apart;
      marks = i.marks;
      owners_low = i.owners_low;
      owned = i.owned;
      caps = subst (λ (bs : List ℕ). AreCaps bs (owners_of m) m.links.size m.links.chain) (sym c.copy_in.ensures)
          (caps_kept m.bytes.items c.args.bytes.now (owners_of m) m.base c.args.at (length c.args.bytes.now) m.links.size m.links.chain refl from fits (free c) i.caps);
    }

abbrev with_words : ℕ → List ℕ → List TaggedWord → TaggedMemory
with_words base bytes words = record { base = base; bytes = bytes; words = words }

pub returns : goal.returns
returns c =
    let m = c.self.inside in
    let bytes = ap (λ (v : TaggedMemory). length v.bytes) c.self.view_is in
    let base : m.base ≡ c.args.self.now.base = ap (λ (v : TaggedMemory). v.base) c.self.view_is in
    let from : m.base ≤ c.args.at = omega (arith, base, c.requires.inside.from) in
    let fits : c.args.at - m.base + length c.args.bytes.now ≤ length m.bytes.items = omega (arith, base, bytes, c.requires.inside.from, c.requires.inside.to) in
    rw (← c.self.view_is) (
    ap (λ bs. with_words m.base bs (words_of m.base m.links.size (λ g. cap_in bs (16 * g) (owners_of m g)) (notes_of m) m.links.chain)) c.copy_in.ensures
    ∙ ap (with_words m.base (replace_range m.bytes.items (c.args.at - m.base) (c.args.at - m.base + length c.args.bytes.now) c.args.bytes.now))
    (words_kept m.bytes.items c.args.bytes.now (owners_of m) (notes_of m) m.base c.args.at (length c.args.bytes.now) m.links.size m.links.chain refl from fits (free c)))

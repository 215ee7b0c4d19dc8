use Rattle.std.proofs.Common.{◌≡◌, ℕ, ◌+◌, ◌*◌, ◌<◌, length, slice_index, set, sym, ◌∙◌, arith, ap, true, false, List, ◌∷◌, subst}
use Rattle.std.proofs.lemmas.List.{length-set, get_or-set_same, get_or-set_other}
use Rattle.cap_mem.specs.Chain.{with_before, has, NotIn}
use Rattle.cap_mem.specs.Held.{HasStored, cap_in}
use Rattle.cap_mem.specs.MemoryFields.{owners_of, notes_of, caps_of}
use Rattle.cap_mem.specs.Tagged.{TaggedMemory, TaggedWord, is_tagged}
use Rattle.cap_mem.proofs.Chains.{notin_has, apart_before}
use Rattle.cap_mem.proofs.Tables.{before_head, marks_before}
use Rattle.cap_mem.proofs.Granules.{tagged_is}
use Rattle.cap_mem.proofs.Tags.{tagged_put, past_put}
use Rattle.cap_mem.proofs.Stored.{caps_before}
use Rattle.cap_mem.proofs.Entered.{words_put, owned_before, has_tail, low_set}
use Rattle.cap_mem.proofs.memory.Memory.tag.Goals as goal

pub append-requires-clause-out : goal.append-requires-clause-out
append-requires-clause-out c =
    let m = c.self.inside in
    let i = c.self.invariant in
    let below : c.args.g < m.links.size = omega (arith, i.bytes_len, ap (λ (v : TaggedMemory). length v.bytes) c.self.view_is, c.requires.below) in
    sym (tagged_is m c.args.g below) ∙ ap (λ (v : TaggedMemory). is_tagged v (v.base + 16 * c.args.g)) c.self.view_is ∙ c.requires.out

pub invariant_of-self : goal.invariant_of-self
invariant_of-self c =
    let m = c.self.inside in
    let i = c.self.invariant in
    let owner : ℕ = c.owner-owner.result in
    let own : c.owner-owner.result ≡ c.args.cap.now.cap.owner = c.owner-owner.ensures.value in
    let below : c.args.g < m.links.size = omega (arith, i.bytes_len, ap (λ (v : TaggedMemory). length v.bytes) c.self.view_is, c.requires.below) in
    let low : c.owner-owner.result < 256 = omega (arith, own, c.requires.owner) in
    let out : has c.args.g m.links.chain ≡ false =
    sym (tagged_is m c.args.g below) ∙ ap (λ (v : TaggedMemory). is_tagged v (v.base + 16 * c.args.g)) c.self.view_is ∙ c.requires.out in
    let apart : NotIn c.args.g (m.links.size ∷ i.rest) = notin_has c.args.g (m.links.size ∷ i.rest) (ap (λ cs. has c.args.g cs) (sym i.starts) ∙ out) in
    let stands : has (m.links.size + c.owner-owner.result + 1) m.links.chain ≡ true = ap (λ cs. has (m.links.size + c.owner-owner.result + 1) cs) i.starts ∙ has_tail (m.links.size + c.owner-owner.result + 1) m.links.size i.rest (i.marks c.owner-owner.result low) in
    let stored : HasStored m.bytes.items (16 * c.args.g) c.args.cap.now.cap = subst (λ (v : TaggedMemory). HasStored v.bytes (16 * c.args.g) c.args.cap.now.cap) (sym c.self.view_is) c.requires.stored in
    rw c.append.ensures (record {
      aligned = i.aligned;
      bytes_len = i.bytes_len;
      end = i.end;
      small = i.small;
      tags_from = omega (arith, c.set_bit.ensures.len, i.tags_from);
      tags_to = omega (arith, c.set_bit.ensures.len, i.tags_to);
      owners_len = length-set m.owners.items c.args.g c.owner-owner.result ∙ i.owners_len;
      notes_len = length-set m.notes.items c.args.g c.args.note ∙ i.notes_len;
      tagged = tagged_put m.tags.items c.set_bit.new.words.items m.links.size c.args.g (m.links.size + c.owner-owner.result + 1) m.links.chain stands c.set_bit.ensures.bits i.tagged;
      none_past = past_put m.tags.items c.set_bit.new.words.items m.links.size c.args.g below c.set_bit.ensures.bits i.none_past;
      rest = with_before c.args.g (m.links.size + c.owner-owner.result + 1) i.rest;
      starts = ap (with_before c.args.g (m.links.size + c.owner-owner.result + 1)) i.starts ∙ before_head m.links.size c.args.g (m.links.size + c.owner-owner.result + 1) i.rest (omega arith);
      apart = apart_before c.args.g (m.links.size + c.owner-owner.result + 1) m.links.chain i.apart (notin_has c.args.g m.links.chain out);
      marks = marks_before m.links.size c.args.g (m.links.size + c.owner-owner.result + 1) i.rest below i.marks;
      owners_low = low_set m.owners.items c.args.g c.owner-owner.result (omega (arith, i.owners_len, below)) low i.owners_low;
      owned = owned_before m.links.size c.owner-owner.result 0 (owners_of m) (λ g. slice_index (set m.owners.items c.args.g c.owner-owner.result) g) c.args.g i.rest i.owned (omega arith) apart.1 below
          (λ k ne. get_or-set_other m.owners.items c.args.g k c.owner-owner.result 0 ne) (get_or-set_same m.owners.items c.args.g c.owner-owner.result 0 (omega (arith, i.owners_len, below)));
      caps = caps_before m.bytes.items (owners_of m) (λ g. slice_index (set m.owners.items c.args.g c.owner-owner.result) g) m.links.size c.args.g (m.links.size + c.owner-owner.result + 1) m.links.chain c.args.cap.now stands
          (λ k ne. get_or-set_other m.owners.items c.args.g k c.owner-owner.result 0 ne) (get_or-set_same m.owners.items c.args.g c.owner-owner.result 0 (omega (arith, i.owners_len, below)) ∙ own) stored c.owner-owner.ensures.sound i.caps;
    })

abbrev with_words : ℕ → List ℕ → List TaggedWord → TaggedMemory
with_words base bytes words = record { base = base; bytes = bytes; words = words }

pub returns : goal.returns
returns c =
    let m = c.self.inside in
    let i = c.self.invariant in
    let own : c.owner-owner.result ≡ c.args.cap.now.cap.owner = c.owner-owner.ensures.value in
    let below : c.args.g < m.links.size = omega (arith, i.bytes_len, ap (λ (v : TaggedMemory). length v.bytes) c.self.view_is, c.requires.below) in
    let out : has c.args.g m.links.chain ≡ false =
    sym (tagged_is m c.args.g below) ∙ ap (λ (v : TaggedMemory). is_tagged v (v.base + 16 * c.args.g)) c.self.view_is ∙ c.requires.out in
    let stored : HasStored m.bytes.items (16 * c.args.g) c.args.cap.now.cap = subst (λ (v : TaggedMemory). HasStored v.bytes (16 * c.args.g) c.args.cap.now.cap) (sym c.self.view_is) c.requires.stored in
    let owner_here : slice_index (set m.owners.items c.args.g c.args.cap.now.cap.owner) c.args.g ≡ c.args.cap.now.cap.owner =
    get_or-set_same m.owners.items c.args.g c.args.cap.now.cap.owner 0 (omega (arith, i.owners_len, below)) in
    rw (← c.self.view_is, c.append.ensures, own) (ap (with_words m.base m.bytes.items) (words_put m.base m.links.size c.args.cap.now.cap
    (caps_of m) (λ g. cap_in m.bytes.items (16 * g) (slice_index (set m.owners.items c.args.g c.args.cap.now.cap.owner) g)) (notes_of m) (λ g. slice_index (set m.notes.items c.args.g c.args.note) g)
    c.args.g c.args.note m.links.chain i.rest i.starts i.owned out (i.marks c.args.cap.now.cap.owner c.requires.owner) below
    (λ k ne. ap (cap_in m.bytes.items (16 * k)) (get_or-set_other m.owners.items c.args.g k c.args.cap.now.cap.owner 0 ne)) (λ k ne. get_or-set_other m.notes.items c.args.g k c.args.note 0 ne)
    (ap (cap_in m.bytes.items (16 * c.args.g)) owner_here ∙ stored.decodes) (get_or-set_same m.notes.items c.args.g c.args.note 0 (omega (arith, i.notes_len, below)))))

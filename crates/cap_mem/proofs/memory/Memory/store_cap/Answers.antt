use Rattle.std.proofs.Common.{◌≡◌, ℕ, ◌+◌, ◌-◌, ◌*◌, ◌/◌, ◌<◌, ◌^◌, length, ap, sym, ◌∙◌, subst, arith, false, List}
use Rattle.std.specs.Prelude.{find, is_some}
use Rattle.std.specs.List.{replace_range}
use Rattle.cap_own.specs.Cap.{Cap}
use Rattle.cap_mem.specs.Held.{HasStored}
use Rattle.cap_mem.specs.Tagged.{TaggedMemory, bytes_with, entered, is_touched, stands_at, without_granule, word_bytes}
use Rattle.cap_mem.proofs.Stored.{length_word_bytes, stored_word}
use Rattle.cap_mem.proofs.Touched.{alone_gone, granule_gone}
use Rattle.cap_mem.proofs.memory.Memory.store_cap.Goals as goal

pub put-requires-clause-untagged : goal.put-requires-clause-untagged
put-requires-clause-untagged c = λ a h.
    let m = c.self.inside in
    let base : m.base ≡ c.args.self.now.base = ap (λ (v : TaggedMemory). v.base) c.self.view_is in
    let at : c.args.at ≡ c.args.self.now.base + 16 * ((c.args.at - m.base) / 16) = omega (arith, c.self.invariant.aligned, base, c.requires.aligned, c.requires.inside.from) in
    let size : length c.bytes_of_word.result ≡ 16 = ap length c.bytes_of_word.ensures ∙ length_word_bytes c.word.result in
    let gone = alone_gone m c.self.invariant c.args.at a c.requires.aligned (ap (λ n. is_touched c.args.at n a) (sym size) ∙ h) in
    let after = subst (λ (v : TaggedMemory). is_some (find (stands_at a) (without_granule c.args.at v.words)) ≡ false) c.self.view_is gone in
    rw c.untag.ensures (subst (λ (x : ℕ). is_some (find (stands_at a) (without_granule x c.args.self.now.words)) ≡ false) at after)

pub tag-requires-clause-out : goal.tag-requires-clause-out
tag-requires-clause-out c =
    rw (c.put.ensures, c.untag.ensures) (granule_gone (c.args.self.now.base + 16 * ((c.args.at - c.self.inside.base) / 16)) c.args.self.now.words)

pub tag-requires-clause-stored : goal.tag-requires-clause-stored
tag-requires-clause-stored c =
    let m = c.self.inside in
    let base : m.base ≡ c.args.self.now.base = ap (λ (v : TaggedMemory). v.base) c.self.view_is in
    let at : c.args.at - c.args.self.now.base ≡ 16 * ((c.args.at - m.base) / 16) = omega (arith, c.self.invariant.aligned, base, c.requires.aligned, c.requires.inside.from) in
    let size : length c.bytes_of_word.result ≡ 16 = ap length c.bytes_of_word.ensures ∙ length_word_bytes c.word.result in
    let small_address : c.word.result.address < 2 ^ 64 = omega arith in
    let small_meta : c.word.result.meta < 2 ^ 64 = omega arith in
    let stored = stored_word c.args.self.now.bytes c.bytes_of_word.result (c.args.at - c.args.self.now.base) (length c.bytes_of_word.result) c.word.result c.args.cap.cap
    c.bytes_of_word.ensures size (omega (arith, c.requires.inside.to, c.requires.inside.from)) small_address small_meta c.word.ensures.word c.word.ensures.fields in
    rw (c.put.ensures, c.untag.ensures) (subst (λ (o : ℕ). HasStored (replace_range c.args.self.now.bytes (c.args.at - c.args.self.now.base) (c.args.at - c.args.self.now.base + length c.bytes_of_word.result) c.bytes_of_word.result) o c.args.cap.cap) at stored)

-- the memory after the three steps, where the granule is x
abbrev after : TaggedMemory → ℕ → ℕ → List ℕ → Cap → ℕ → TaggedMemory
after v at x bytes cap note = record {
  base = v.base;
  bytes = bytes_with v at bytes;
  words = entered (without_granule x v.words) (record { granule = x; cap = cap; note = note });
}

pub returns : goal.returns
returns c =
    let m = c.self.inside in
    let base : m.base ≡ c.args.self.now.base = ap (λ (v : TaggedMemory). v.base) c.self.view_is in
    let at : c.args.self.now.base + 16 * ((c.args.at - m.base) / 16) ≡ c.args.at = omega (arith, c.self.invariant.aligned, base, c.requires.aligned, c.requires.inside.from) in
    rw (c.tag.ensures, c.put.ensures, c.untag.ensures)
    (ap (λ x. after c.args.self.now c.args.at x c.bytes_of_word.result c.args.cap.cap c.args.note) at
    ∙ ap (λ bs. after c.args.self.now c.args.at c.args.at bs c.args.cap.cap c.args.note) (c.bytes_of_word.ensures ∙ ap word_bytes c.word.ensures.word))

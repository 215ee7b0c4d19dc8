use Rattle.std.proofs.Common.{◌≡◌, ℕ, ◌+◌, ◌*◌, ◌/◌, length, slice_index, replicate, List, [], refl, sym, ◌∙◌, arith, ap}
use Rattle.std.specs.List.{range_with_len}
use Rattle.std.proofs.lemmas.List.{length-replicate}
use Rattle.cap_mem.specs.Tagged.{TaggedMemory, TaggedWord}
use Rattle.cap_mem.proofs.Marks.{has_range, notin_range, apart_range}
use Rattle.cap_mem.specs.Held.{cap_in}
use Rattle.cap_mem.proofs.Granules.{words_range, owned_range}
use Rattle.cap_mem.proofs.Tags.{has_low, no_bits, zero_at}
use Rattle.cap_mem.proofs.memory.Memory.map.Goals as goal

pub invariant_of-result : goal.invariant_of-result
invariant_of-result c =
    let size : ℕ = c.len-len.result / 16 in
    let tags : c.in_ok-tags.tags.items ≡ replicate (c.len-len.result / 16 / 64 + 1) 0 = c.in_ok-tags.ensures.items_if_clones_equal (λ y e. e) in
    let bytes : c.in_ok-bytes.bytes.items ≡ replicate c.len-len.result 0 = c.in_ok-bytes.ensures.items_if_clones_equal (λ y e. e) in
    let owners : c.in_ok-owners.owners.items ≡ replicate (c.len-len.result / 16) 0 = c.in_ok-owners.ensures.items_if_clones_equal (λ y e. e) in
    let notes : c.in_ok-notes.notes.items ≡ replicate (c.len-len.result / 16) 0 = c.in_ok-notes.ensures.items_if_clones_equal (λ y e. e) in
    let tags_len : length c.in_ok-tags.tags.items ≡ c.len-len.result / 16 / 64 + 1 = ap length tags ∙ length-replicate (c.len-len.result / 16 / 64 + 1) 0 in
    let bytes_len : length c.in_ok-bytes.bytes.items ≡ c.len-len.result = ap length bytes ∙ length-replicate c.len-len.result 0 in
    let bits = no_bits c.in_ok-tags.tags.items (λ i. ap (λ (ws : List ℕ). slice_index ws i) tags ∙ zero_at (c.len-len.result / 16 / 64 + 1) i) in
    rw c.in_ok-links.ensures (record {
      aligned = omega (arith, c.requires.base, c.base-base.ensures.value);
      bytes_len = omega (arith, bytes_len, c.requires.len, c.len-len.ensures.value);
      end = omega (arith, c.base-base.ensures.value, c.base-base.ensures.end, c.requires.len, c.len-len.ensures.value);
      small = omega arith;
      tags_from = omega (arith, tags_len);
      tags_to = omega (arith, tags_len);
      owners_len = ap length owners ∙ length-replicate (c.len-len.result / 16) 0;
      notes_len = ap length notes ∙ length-replicate (c.len-len.result / 16) 0;
      tagged = λ g low. bits g ∙ sym (has_low g (c.len-len.result / 16) 257 low);
      none_past = λ g hi. bits g;
      rest = range_with_len (c.len-len.result / 16 + 1) 256;
      starts = refl;
      apart = (notin_range (c.len-len.result / 16) (c.len-len.result / 16 + 1) 256 (omega arith), apart_range (c.len-len.result / 16 + 1) 256);
      marks = λ k low. has_range (c.len-len.result / 16 + k + 1) (c.len-len.result / 16 + 1) 256 (omega arith) (omega (arith, low));
      owners_low = λ g. (let z : slice_index c.in_ok-owners.owners.items g ≡ 0 = ap (λ (ws : List ℕ). slice_index ws g) owners ∙ zero_at (c.len-len.result / 16) g in omega (arith, z));
      caps = λ g low stands. (let out = has_low g (c.len-len.result / 16) 257 low in absurd (cc));
      owned = owned_range (c.len-len.result / 16) (λ g. slice_index c.in_ok-owners.owners.items g) 0 (c.len-len.result / 16 + 1) 256 (omega arith);
    })

abbrev memory_from : ℕ → List ℕ → List TaggedWord → TaggedMemory
memory_from base bytes words = record { base = base; bytes = bytes; words = words }

pub returns : goal.returns
returns c =
    let bytes : c.in_ok-bytes.bytes.items ≡ replicate c.len-len.result 0 = c.in_ok-bytes.ensures.items_if_clones_equal (λ y e. e) in
    rw c.in_ok-links.ensures (ap (λ ws. memory_from c.base-base.result c.in_ok-bytes.bytes.items ws)
    (words_range c.base-base.result (c.len-len.result / 16) (λ g. cap_in c.in_ok-bytes.bytes.items (16 * g) (slice_index c.in_ok-owners.owners.items g)) (λ g. slice_index c.in_ok-notes.notes.items g) (c.len-len.result / 16) 257 (omega arith))
    ∙ ap (λ bs. memory_from c.base-base.result bs []) bytes
    ∙ ap (λ b. memory_from b (replicate c.len-len.result 0) []) c.base-base.ensures.value
    ∙ ap (λ n. memory_from c.args.root.now.base (replicate n 0) []) c.len-len.ensures.value)

-- The tags of granules, in the order of addresses.
use Rattle.std.proofs.Common.{◌≡◌, ℕ, zero, suc, ◌+◌, ◌*◌, ◌^◌, ◌<◌, ◌≤◌, Bool, true, false, List, [], ◌∷◌, ◌++◌, map, refl, sym, ap, ◌∙◌, arith, nat_eq, ⊎_elim, add-one, append-nil, append_assoc}
use Rattle.std.proofs.Math.Nat.{two-pow-succ}
use Rattle.std.specs.List.{range_with_len}
use Rattle.std.proofs.lemmas.List.FromFn.{map-range_with_len_more}
use Rattle.std.specs.Prelude.{Option, Some, None}
use Rattle.std.specs.Int.{from_bool}
use Rattle.std.proofs.lemmas.Bool.Decides.{eqb_tells}
use Rattle.cap_mem.specs.Tagged.{TaggedMemory, is_tagged, IsFirstTagged, NoneTagged}
use Rattle.cap_image.specs.Writing.{tags_number, tag_byte, first_tag_bytes}
use Rattle.cap_image.specs.WordWalk.{IsNotPast, IsAhead, IsFirst}

-- a granule that isn't passed is the first from there on
pub first_is : (memory : TaggedMemory) (at granule : ℕ) → IsNotPast memory at granule → at ≤ granule → IsFirstTagged memory at granule
first_is memory at granule h le = record { tagged = h.tagged; order = le; least = h.none }

pub none_is : (memory : TaggedMemory) (at : ℕ) → IsAhead memory at None → NoneTagged memory at
none_is memory at h = h

-- the first from an address on isn't past it
pub first_is_ahead : (memory : TaggedMemory) (at : ℕ) (found : Option ℕ) → IsFirst memory at found → IsAhead memory at found
first_is_ahead memory at None h = h
first_is_ahead memory at (Some granule) h = record { tagged = h.tagged; none = h.least }

-- what isn't past an address isn't past a later one
pub still_ahead : (memory : TaggedMemory) (at later : ℕ) (found : Option ℕ) → at ≤ later → IsAhead memory at found → IsAhead memory later found
still_ahead memory at later None le h = λ a from. h a (omega (arith, from, le))
still_ahead memory at later (Some granule) le h = record { tagged = h.tagged; none = λ a from to. h.none a (omega (arith, from, le)) to }

-- a granule is tagged where the first from there on is itself
pub tag_is : (memory : TaggedMemory) (granule found : ℕ) → IsFirstTagged memory granule found → nat_eq found granule ≡ is_tagged memory granule
tag_is memory granule found h = ⊎_elim
    (λ (e : (nat_eq found granule ≡ true) × (found ≡ granule)). e.0 ∙ sym h.tagged ∙ ap (is_tagged memory) e.1)
    (λ (e : (nat_eq found granule ≡ false) × (found ≡ granule → ⊥)).
    e.0 ∙ sym (h.least granule (omega arith) (omega (arith, e.1, h.order))))
    (eqb_tells found granule)

pub no_tag_is : (memory : TaggedMemory) (granule : ℕ) → NoneTagged memory granule → is_tagged memory granule ≡ false
no_tag_is memory granule h = h granule (omega arith)

module _ (memory : TaggedMemory) (at : ℕ) where
  -- the tags of no granules, and of one more
  pub tags_none : tags_number memory at 0 ≡ 0
  unfolding tags_number
  tags_none = refl

  more : (n : ℕ) → tags_number memory at (n + 1) ≡ tags_number memory at n + from_bool (is_tagged memory (at + 16 * n)) * 2 ^ n
  unfolding tags_number
  more n = rw add-one refl

  pub tags_more : (n m : ℕ) → m ≡ n + 1 → tags_number memory at m ≡ tags_number memory at n + from_bool (is_tagged memory (at + 16 * n)) * 2 ^ n
  tags_more n m e = ap (tags_number memory at) e ∙ more n

  pub tags_low : (n : ℕ) → tags_number memory at n < 2 ^ n
  unfolding tags_number
  tags_low zero = omega arith
  tags_low (suc n) = bounded (is_tagged memory (at + 16 * n)) (2 ^ n) (2 ^ suc n) (tags_low n) (two-pow-succ n)
    where
      bounded : (b : Bool) (p q : ℕ) → tags_number memory at n < p → q ≡ p + p → tags_number memory at n + from_bool b * p < q
      bounded true p q low e = omega (arith, low, e)
      bounded false p q low e = omega (arith, low, e)

-- no tag bytes, and one more
pub tag_bytes_none : (text : List ℕ) (memory : TaggedMemory) → text ++ first_tag_bytes memory 0 ≡ text
unfolding first_tag_bytes
tag_bytes_none text memory = append-nil text

pub tag_bytes_more : (text : List ℕ) (memory : TaggedMemory) (n m : ℕ) → m ≡ n + 1
    → text ++ first_tag_bytes memory m ≡ (text ++ first_tag_bytes memory n) ++ tags_number memory (memory.base + 128 * n) 8 ∷ []
unfolding first_tag_bytes
tag_bytes_more text memory n m e =
    ap (λ k. text ++ map (λ j. tag_byte memory (memory.base + 128 * j)) (range_with_len 0 k)) e
    ∙ ap (λ xs. text ++ xs) (map-range_with_len_more (λ j. tag_byte memory (memory.base + 128 * j)) 0 n n (omega arith))
    ∙ sym (append_assoc text (map (λ j. tag_byte memory (memory.base + 128 * j)) (range_with_len 0 n)) (tags_number memory (memory.base + 128 * n) 8 ∷ []))

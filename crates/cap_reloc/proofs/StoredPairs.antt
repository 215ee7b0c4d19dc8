-- Storing pairs one after the other.
use Rattle.std.proofs.Common.{◌≡◌, ℕ, suc, false, List, [], ◌∷◌, ◌++◌, length, All, get_or, refl, sym, ap, ◌∙◌, arith, subst, append_assoc}
use Rattle.std.proofs.lemmas.List.Elements.{All-head, All-tail, All-append, All-nil}
use Rattle.cap_own.specs.Cap.{word_of_cap}
use Rattle.cap_mem.specs.Tagged.{TaggedMemory, TaggedWord, by_owner, entered, with_bytes, is_touched, without_touched, without_granule}
use Rattle.cap_mem.specs.Laws.{StoresStayInOrder}
use Rattle.cap_reloc.specs.Wanted.{Pair, Content, Number, Untagged, Tagged}
use Rattle.cap_reloc.specs.Planned.{IsSlotIn, SlotsAreApart}
use Rattle.cap_reloc.specs.Stored.{content_bytes, overlaid, tagged_pairs, with_pairs}
use Rattle.cap_reloc.specs.Stores.{with_pair, with_each}
use Rattle.cap_reloc.proofs.Overlaid.{AreApartFrom, size_of, stored_bytes, overlaid_more, overlaid_none, length_overlaid}
use Rattle.cap_reloc.proofs.StoredWords.{LeavesAlone, length_word, touches_none, leaves_none, own_alone, more_pairs}

-- the slots that are left lie in the memory as it is then
slot_stays : (old new : TaggedMemory) (p : Pair) → new.base ≡ old.base → length new.bytes ≡ length old.bytes → IsSlotIn old p → IsSlotIn new p
slot_stays old new p base len slot = record {
  inside = record { from = omega (arith, base, slot.inside.from); to = omega (arith, base, len, slot.inside.to) };
  granule = slot.granule;
}

pub first_inside : (memory : TaggedMemory) (p : Pair) (rest pairs : List Pair) → pairs ≡ p ∷ rest → All (IsSlotIn memory) pairs → IsSlotIn memory p
first_inside memory p rest pairs is inside = All-head (IsSlotIn memory) p rest (subst (All (IsSlotIn memory)) is inside)

pub rest_inside : (old new : TaggedMemory) (p : Pair) (rest pairs : List Pair) → pairs ≡ p ∷ rest → new.base ≡ old.base → length new.bytes ≡ length old.bytes → All (IsSlotIn old) pairs → All (IsSlotIn new) rest
rest_inside old new p rest pairs is base len inside k d lt =
    slot_stays old new _ base len (All-tail (IsSlotIn old) p rest (subst (All (IsSlotIn old)) is inside) k d lt)

-- what is stored already, and what is left
pub each_more : (old new total : TaggedMemory) (p : Pair) (rest pairs : List Pair) → pairs ≡ p ∷ rest → new ≡ with_pair old p → with_each pairs old ≡ total → with_each rest new ≡ total
each_more old new total p rest pairs is stored so_far = ap (with_each rest) stored ∙ ap (λ ps. with_each ps old) (sym is) ∙ so_far

-- a memory with other bytes and words
abbrev holding : TaggedMemory → List ℕ → List TaggedWord → TaggedMemory
holding memory bytes words = record memory { bytes = bytes; words = words }

append_nil : {X : Type 0} (xs : List X) → xs ++ [] ≡ xs
append_nil [] = refl
append_nil (x ∷ xs) = ap (λ ys. x ∷ ys) (append_nil xs)

-- a pair was stored where it takes no tag away
abbrev IsStored : TaggedMemory → List TaggedWord → Pair → Type 0
IsStored memory words p = with_pair memory p ≡ holding memory (overlaid (p ∷ []) memory.base memory.bytes) (by_owner (words ++ tagged_pairs (p ∷ [])))

-- bytes alone
bytes_stored : (memory : TaggedMemory) (words : List TaggedWord) (p : Pair) → memory.words ≡ by_owner words → IsSlotIn memory p → LeavesAlone words p
    → with_bytes memory p.slot (content_bytes p.content) ≡ holding memory (overlaid (p ∷ []) memory.base memory.bytes) (by_owner (words ++ []))
bytes_stored memory words p is slot alone =
    ap (λ bs. holding memory bs (without_touched p.slot (size_of p) memory.words)) (stored_bytes memory p slot.inside)
    ∙ ap (holding memory (overlaid (p ∷ []) memory.base memory.bytes)) (ap (without_touched p.slot (size_of p)) is ∙ touches_none words p alone ∙ ap by_owner (sym (append_nil words)))

one_stored : StoresStayInOrder → (memory : TaggedMemory) (words : List TaggedWord) (p : Pair) → memory.words ≡ by_owner words → IsSlotIn memory p → LeavesAlone words p → IsStored memory words p
one_stored order memory words p is slot alone = go p.slot p.content slot alone
  where
    go : (at : ℕ) (c : Content) → IsSlotIn memory (record { slot = at; content = c }) → LeavesAlone words (record { slot = at; content = c }) → IsStored memory words (record { slot = at; content = c })
    go at (Number n) here free = bytes_stored memory words (record { slot = at; content = Number n }) is here free
    go at (Untagged n) here free = bytes_stored memory words (record { slot = at; content = Untagged n }) is here free
    go at (Tagged c note) here free =
        let p : Pair = record { slot = at; content = Tagged c note } in
        let w : TaggedWord = record { granule = at; cap = c; note = note } in
        ap (λ bs. holding memory bs (entered (without_granule at memory.words) w)) (stored_bytes memory p here.inside)
        ∙ ap (holding memory (overlaid (p ∷ []) memory.base memory.bytes)) (ap (λ ws. entered ws w) (ap (without_granule at) is ∙ leaves_none words p (omega (arith, length_word (word_of_cap c))) free) ∙ order words w here.granule.1)

-- the slots of the pairs are apart from each other, and from the granules of the words
abbrev AreFree : List TaggedWord → List Pair → Type 0
AreFree words pairs = All (LeavesAlone words) pairs

still_free : (words : List TaggedWord) (p : Pair) (pairs : List Pair) → AreFree words pairs → AreApartFrom p pairs → AreFree (words ++ tagged_pairs (p ∷ [])) pairs
still_free words p pairs free apart k d lt =
    All-append (λ (w : TaggedWord). is_touched (at k d).slot (size_of (at k d)) w.granule ≡ false) words (tagged_pairs (p ∷ [])) (free k d lt) (own_alone p (at k d) (apart k d lt))
  where
    at : ℕ → Pair → Pair
    at k d = get_or pairs k d

each_stored : StoresStayInOrder → (memory : TaggedMemory) (words : List TaggedWord) (pairs : List Pair) → memory.words ≡ by_owner words
    → All (IsSlotIn memory) pairs → SlotsAreApart pairs → AreFree words pairs
    → with_each pairs memory ≡ holding memory (overlaid pairs memory.base memory.bytes) (by_owner (words ++ tagged_pairs pairs))
each_stored order memory words [] is inside apart free =
    ap (λ bs. holding memory bs memory.words) (sym (overlaid_none memory.base memory.bytes))
    ∙ ap (holding memory (overlaid [] memory.base memory.bytes)) (is ∙ ap by_owner (sym (append_nil words)))
each_stored order memory words (p ∷ pairs) is inside apart free =
    let next : TaggedMemory = holding memory (overlaid (p ∷ []) memory.base memory.bytes) (by_owner (words ++ tagged_pairs (p ∷ []))) in
    let from_p : AreApartFrom p pairs = λ k d lt. apart 0 (suc k) d (omega arith) (omega (arith, lt)) in
    let rest : SlotsAreApart pairs = λ i j d lt last. apart (suc i) (suc j) d (omega (arith, lt)) (omega (arith, last)) in
    ap (with_each pairs) (one_stored order memory words p is (All-head (IsSlotIn memory) p pairs inside) (All-head (LeavesAlone words) p pairs free))
    ∙ each_stored order next (words ++ tagged_pairs (p ∷ [])) pairs refl
    (rest_inside memory next p pairs (p ∷ pairs) refl refl (length_overlaid (p ∷ []) memory.base memory.bytes) inside)
    rest (still_free words p pairs (All-tail (LeavesAlone words) p pairs free) from_p)
    ∙ ap (λ bs. holding memory bs (by_owner ((words ++ tagged_pairs (p ∷ [])) ++ tagged_pairs pairs))) (overlaid_more p pairs memory.base memory.bytes from_p)
    ∙ ap (λ ws. holding memory (overlaid (p ∷ pairs) memory.base memory.bytes) (by_owner ws)) (append_assoc words (tagged_pairs (p ∷ [])) (tagged_pairs pairs) ∙ ap (λ ws. words ++ ws) (sym (more_pairs p pairs)))

-- all pairs, on a memory without a tag
pub stored_is : StoresStayInOrder → (memory : TaggedMemory) (pairs : List Pair) → memory.words ≡ [] → All (IsSlotIn memory) pairs → SlotsAreApart pairs → with_each pairs memory ≡ with_pairs pairs memory
stored_is order memory pairs untagged inside apart =
    each_stored order memory [] pairs untagged inside apart (λ k d lt. All-nil (λ (w : TaggedWord). is_touched (get_or pairs k d).slot (size_of (get_or pairs k d)) w.granule ≡ false))

-- The words of a memory in which pairs were stored.
use Rattle.std.proofs.Common.{◌≡◌, ℕ, ◌+◌, ◌<◌, Bool, true, false, not, cond, List, [], ◌∷◌, ◌++◌, All, refl, ap, ◌∙◌, arith, nat_eq, min, max, ⊎_elim, length, length-append}
use Rattle.std.specs.Prelude.{filter, flat_map}
use Rattle.std.specs.List.{range_with_len}
use Rattle.std.proofs.lemmas.Bool.{ltb-false, le-ltb}
use Rattle.std.proofs.lemmas.Bool.Decides.{eqb_tells}
use Rattle.std.proofs.lemmas.List.Elements.{All-head, All-tail, All-nil, All-cons, All-append, All-filter}
use Rattle.byteorder.specs.Numbers.{length-bytes_low_first}
use Rattle.cap_base.specs.Field.{number_bytes}
use Rattle.cap_base.specs.Lists.{share_byte}
use Rattle.cap_conc.specs.declared.word.Word.{Word}
use Rattle.cap_own.specs.Cap.{word_of_cap}
use Rattle.cap_mem.specs.Tagged.{TaggedWord, is_of, by_owner, word_bytes, is_touched, without_touched, without_granule}
use Rattle.cap_reloc.specs.Wanted.{Pair, Content, Number, Untagged, Tagged}
use Rattle.cap_reloc.specs.Planned.{interval_of}
use Rattle.cap_reloc.specs.Stored.{content_bytes, tagged_pairs}
use Rattle.cap_reloc.proofs.Overlaid.{size_of}

-- a test that all words pass keeps them all
kept_all : (p : TaggedWord → Bool) (words : List TaggedWord) → All (λ w. p w ≡ true) words → filter p words ≡ words
kept_all p [] all = refl
kept_all p (w ∷ words) all =
    ap (λ h. cond h (w ∷ filter p words) (filter p words)) (All-head (λ (v : TaggedWord). p v ≡ true) w words all)
    ∙ ap (λ ws. w ∷ ws) (kept_all p words (All-tail (λ (v : TaggedWord). p v ≡ true) w words all))

-- what holds of words holds of them in another order
pub in_lists : (P : TaggedWord → Type 0) (words : List TaggedWord) (owners : List ℕ) → All P words → All P (flat_map (λ o. filter (is_of o) words) owners)
in_lists P words [] all = All-nil P
in_lists P words (o ∷ owners) all = All-append P (filter (is_of o) words) (flat_map (λ q. filter (is_of q) words) owners) (All-filter (is_of o) P words all) (in_lists P words owners all)

pub kept_in_order : (p : TaggedWord → Bool) (words : List TaggedWord) → All (λ w. p w ≡ true) words → filter p (by_owner words) ≡ by_owner words
kept_in_order p words all = kept_all p (by_owner words) (in_lists (λ w. p w ≡ true) words (range_with_len 0 256) all)

-- a store into the slot leaves these words alone
abbrev pub LeavesAlone : List TaggedWord → Pair → Type 0
LeavesAlone words p = All (λ w. is_touched p.slot (size_of p) w.granule ≡ false) words

pub touches_none : (words : List TaggedWord) (p : Pair) → LeavesAlone words p → without_touched p.slot (size_of p) (by_owner words) ≡ by_owner words
touches_none words p alone = kept_in_order (λ w. not (is_touched p.slot (size_of p) w.granule)) words (λ k d lt. ap not (alone k d lt))

stands_elsewhere : (p : Pair) (granule : ℕ) → 0 < size_of p → is_touched p.slot (size_of p) granule ≡ false → nat_eq granule p.slot ≡ false
stands_elsewhere p granule some free =
    let le = ltb-false (max p.slot granule) (min (p.slot + size_of p) (granule + 16)) free in
    ⊎_elim
    (λ (yes : (nat_eq granule p.slot ≡ true) × (granule ≡ p.slot)). absurd (omega (arith, le, yes.1, some)))
    (λ (no : (nat_eq granule p.slot ≡ false) × (granule ≡ p.slot → ⊥)). no.0)
    (eqb_tells granule p.slot)

pub leaves_none : (words : List TaggedWord) (p : Pair) → 0 < size_of p → LeavesAlone words p → without_granule p.slot (by_owner words) ≡ by_owner words
leaves_none words p some alone =
    kept_in_order (λ w. not (nat_eq w.granule p.slot)) words (λ k d lt. ap not (stands_elsewhere p _ some (alone k d lt)))

pub length_word : (w : Word) → length (word_bytes w) ≡ 16
length_word w = omega (arith, length-append (number_bytes 8 w.address) (number_bytes 8 w.meta), length-bytes_low_first 0 8 w.address, length-bytes_low_first 0 8 w.meta)

-- the word of a pair is left alone by a store into a slot that shares no byte with it
pub own_alone : (p q : Pair) → share_byte (interval_of p) (interval_of q) ≡ false → LeavesAlone (tagged_pairs (p ∷ [])) q
own_alone p q apart = go p.slot p.content apart
  where
    alone : TaggedWord → Type 0
    alone w = is_touched q.slot (size_of q) w.granule ≡ false

    go : (slot : ℕ) (c : Content) → share_byte (slot, length (content_bytes c)) (interval_of q) ≡ false → All alone (tagged_pairs ((record { slot = slot; content = c }) ∷ []))
    go slot (Number n) free = All-nil alone
    go slot (Untagged n) free = All-nil alone
    go slot (Tagged c note) free =
        let le = ltb-false (max slot q.slot) (min (slot + length (word_bytes (word_of_cap c))) (q.slot + size_of q)) free in
        let len = length_word (word_of_cap c) in
        let here : is_touched q.slot (size_of q) slot ≡ false = le-ltb (max q.slot slot) (min (q.slot + size_of q) (slot + 16)) (omega (arith, le, len)) in
        All-cons alone (record { granule = slot; cap = c; note = note }) [] here (All-nil alone)

pub more_pairs : (p : Pair) (pairs : List Pair) → tagged_pairs (p ∷ pairs) ≡ tagged_pairs (p ∷ []) ++ tagged_pairs pairs
more_pairs p pairs = go p.content
  where
    go : (c : Content) → tagged_pairs ((record { slot = p.slot; content = c }) ∷ pairs) ≡ tagged_pairs ((record { slot = p.slot; content = c }) ∷ []) ++ tagged_pairs pairs
    go (Number n) = refl
    go (Untagged n) = refl
    go (Tagged c note) = refl

-- What memory holds once pairs are stored.
use Rattle.std.proofs.Common.{◌≡◌, ℕ, suc, zero, ◌+◌, ◌-◌, ◌<◌, Bool, true, false, cond, ◌||◌, List, [], ◌∷◌, length, take, drop, get_or, slice_index, Option, Some, None, All, refl, sym, ap, ◌∙◌, arith, nat_eq, min, max, ⊎_elim, inl, inr, subst, eq-eqb}
use Rattle.std.specs.Prelude.{find, is_some, unwrap_or, option_map, ◌⊎◌, ◌≢◌}
use Rattle.std.specs.List.{list_any, range_with_len}
use Rattle.std.proofs.lemmas.Grind.{same_number_lists}
use Rattle.std.proofs.lemmas.Bool.{cases_Bool, ltb-false}
use Rattle.std.proofs.lemmas.Bool.Decides.{eqb_tells}
use Rattle.std.proofs.lemmas.List.{get_or-drop, get_or-take, length-take-le, length-drop}
use Rattle.std.proofs.lemmas.List.Elements.{All-head, All-tail, All-nil, All-cons}
use Rattle.cap_base.specs.Lists.{share_byte}
use Rattle.cap_own.specs.Cap.{Cap, word_of_cap}
use Rattle.cap_mem.specs.Tagged.{TaggedMemory, TaggedWord, stands_at, by_owner, word_in}
use Rattle.cap_mem.specs.IsMemory.{IsHeld}
use Rattle.cap_mem.specs.Laws as memory_laws
use Rattle.cap_reloc.specs.Wanted.{Pair, Content, Number, Untagged, Tagged}
use Rattle.cap_reloc.specs.Planned.{IsSlotIn, SlotsAreApart, interval_of}
use Rattle.cap_reloc.specs.Stored.{content_bytes, has_byte, byte_at, overlaid, tagged_pairs, with_pairs}
use Rattle.cap_reloc.specs.Laws.{has_capability_at, IsTaggedWith, CapabilitiesStand, BytesAreWords, TagsAreOfPairs, WordsAreOfPairs, ListsAreOfPairs, SlotsAreFilled, OthersStay, SizeStays}
use Rattle.cap_reloc.proofs.Overlaid.{AreApartFrom, size_of, within, not_both, overlaid_at, length_overlaid, byte_of}
use Rattle.cap_reloc.proofs.StoredWords.{length_word, in_lists}

-- the first pair of a list, with one of each content
abbrev made : ℕ → Content → Pair
made slot content = record { slot = slot; content = content }

abbrev IsSmall : TaggedWord → Type 0
IsSmall w = w.cap.owner < 256

owners_small : (memory : TaggedMemory) (pairs : List Pair) → All (IsSlotIn memory) pairs → All IsSmall (tagged_pairs pairs)
owners_small memory [] inside = All-nil IsSmall
owners_small memory (p ∷ pairs) inside = go p.slot p.content (All-head (IsSlotIn memory) p pairs inside) (owners_small memory pairs (All-tail (IsSlotIn memory) p pairs inside))
  where
    go : (slot : ℕ) (c : Content) → IsSlotIn memory (made slot c) → All IsSmall (tagged_pairs pairs) → All IsSmall (tagged_pairs (made slot c ∷ pairs))
    go slot (Number n) here rest = rest
    go slot (Untagged n) here rest = rest
    go slot (Tagged c note) here rest = All-cons IsSmall (record { granule = slot; cap = c; note = note }) (tagged_pairs pairs) here.granule.1 rest

any_tagged : (granule : ℕ) (pairs : List Pair) → list_any (stands_at granule) (tagged_pairs pairs) ≡ list_any (has_capability_at granule) pairs
any_tagged granule [] = refl
any_tagged granule (p ∷ pairs) = go p.slot p.content (any_tagged granule pairs)
  where
    go : (slot : ℕ) (c : Content) → list_any (stands_at granule) (tagged_pairs pairs) ≡ list_any (has_capability_at granule) pairs
        → list_any (stands_at granule) (tagged_pairs (made slot c ∷ pairs)) ≡ list_any (has_capability_at granule) (made slot c ∷ pairs)
    go slot (Number n) rest = rest
    go slot (Untagged n) rest = rest
    go slot (Tagged c note) rest = ap (λ b. nat_eq slot granule || b) rest

pub tags_are : memory_laws.TagsAreOfWords → TagsAreOfPairs
tags_are law pairs memory granule inside = law granule (tagged_pairs pairs) (owners_small memory pairs inside) ∙ any_tagged granule pairs

pub lists_are : memory_laws.ListsKeepOrder → ListsAreOfPairs
lists_are law pairs memory owner small = law owner (tagged_pairs pairs) small

-- no two words stand at one granule
abbrev Differ : TaggedWord → TaggedWord → Type 0
Differ v w = v.granule ≢ w.granule

slots_differ : (p : Pair) (c : Content) (slot : ℕ) → 0 < size_of p → 0 < length (content_bytes c) → share_byte (interval_of p) (slot, length (content_bytes c)) ≡ false → p.slot ≢ slot
slots_differ p c slot some some_too apart same =
    let le = ltb-false (max p.slot slot) (min (p.slot + size_of p) (slot + length (content_bytes c))) apart in
    absurd (omega (arith, le, same, some, some_too))

pub others_differ : (p : Pair) (w : TaggedWord) (pairs : List Pair) → 0 < size_of p → w.granule ≡ p.slot → AreApartFrom p pairs → All (Differ w) (tagged_pairs pairs)
others_differ p w [] some is apart = All-nil (Differ w)
others_differ p w (q ∷ pairs) some is apart = go q.slot q.content (apart 0 q (omega arith)) (others_differ p w pairs some is (λ k d lt. apart (suc k) d (omega (arith, lt))))
  where
    go : (slot : ℕ) (c : Content) → share_byte (interval_of p) (slot, length (content_bytes c)) ≡ false → All (Differ w) (tagged_pairs pairs) → All (Differ w) (tagged_pairs (made slot c ∷ pairs))
    go slot (Number n) free rest = rest
    go slot (Untagged n) free rest = rest
    go slot (Tagged c note) free rest =
        All-cons (Differ w) (record { granule = slot; cap = c; note = note }) (tagged_pairs pairs)
        (λ same. slots_differ p (Tagged c note) slot some (omega (arith, length_word (word_of_cap c))) free (sym is ∙ same)) rest

-- the only word at a granule
abbrev IsOnly : ℕ → TaggedWord → TaggedWord → Type 0
IsOnly granule w v = v.granule ≡ granule → v ≡ w

-- a granule has no word, or one alone
abbrev Held : ℕ → List TaggedWord → Type 0
Held granule words = (find (stands_at granule) words ≡ None) ⊎ ((w : TaggedWord) × (find (stands_at granule) words ≡ Some w) × All (IsOnly granule w) words)

abbrev word_at : ℕ → Cap → ℕ → TaggedWord
word_at granule cap note = record { granule = granule; cap = cap; note = note }

held : (granule : ℕ) (pairs : List Pair) → SlotsAreApart pairs → Held granule (tagged_pairs pairs)
held granule [] apart = inl refl
held granule (p ∷ pairs) apart =
    go p.slot p.content (λ k d lt. apart 0 (suc k) d (omega arith) (omega (arith, lt))) (held granule pairs (λ i j d lt last. apart (suc i) (suc j) d (omega (arith, lt)) (omega (arith, last))))
  where
    go : (slot : ℕ) (c : Content) → AreApartFrom (made slot c) pairs → Held granule (tagged_pairs pairs) → Held granule (tagged_pairs (made slot c ∷ pairs))
    go slot (Number n) free rest = rest
    go slot (Untagged n) free rest = rest
    go slot (Tagged c note) free rest = ⊎_elim
        (λ (yes : (nat_eq slot granule ≡ true) × (slot ≡ granule)).
        let w : TaggedWord = word_at slot c note in
        let others = others_differ (made slot (Tagged c note)) w pairs (omega (arith, length_word (word_of_cap c))) refl free in
        inr (
          w,
          ap (λ h. cond h (Some w) (find (stands_at granule) (tagged_pairs pairs))) yes.0,
          All-cons (IsOnly granule w) w (tagged_pairs pairs) (λ _. refl) (λ k d lt. λ same. absurd (others k d lt (yes.1 ∙ sym same))),
        ))
        (λ (no : (nat_eq slot granule ≡ false) × (slot ≡ granule → ⊥)). ⊎_elim
        (λ (none : find (stands_at granule) (tagged_pairs pairs) ≡ None).
        inl (ap (λ h. cond h (Some (word_at slot c note)) (find (stands_at granule) (tagged_pairs pairs))) no.0 ∙ none))
        (λ (one : (w : TaggedWord) × (find (stands_at granule) (tagged_pairs pairs) ≡ Some w) × All (IsOnly granule w) (tagged_pairs pairs)).
        inr (
          one.0,
          ap (λ h. cond h (Some (word_at slot c note)) (find (stands_at granule) (tagged_pairs pairs))) no.0 ∙ one.1,
          All-cons (IsOnly granule one.0) (word_at slot c note) (tagged_pairs pairs) (λ same. absurd (no.1 same)) one.2,
        ))
        rest)
        (eqb_tells slot granule)

-- among words of which only one can be found, it is found in any order
found_alone : (granule : ℕ) (w : TaggedWord) (words : List TaggedWord) → All (IsOnly granule w) words → is_some (find (stands_at granule) words) ≡ true → find (stands_at granule) words ≡ Some w
found_alone granule w [] only found = absurd (cc)
found_alone granule w (v ∷ words) only found = ⊎_elim
    (λ (yes : (nat_eq v.granule granule ≡ true) × (v.granule ≡ granule)).
    ap (λ h. cond h (Some v) (find (stands_at granule) words)) yes.0 ∙ ap Some (All-head (IsOnly granule w) v words only yes.1))
    (λ (no : (nat_eq v.granule granule ≡ false) × (v.granule ≡ granule → ⊥)).
    let passed : find (stands_at granule) (v ∷ words) ≡ find (stands_at granule) words = ap (λ h. cond h (Some v) (find (stands_at granule) words)) no.0 in
    passed ∙ found_alone granule w words (All-tail (IsOnly granule w) v words only) (ap is_some (sym passed) ∙ found))
    (eqb_tells v.granule granule)

none_found : (o : Option TaggedWord) → is_some o ≡ false → o ≡ None
none_found None none = refl
none_found (Some w) none = absurd (cc)

find_any : (p : TaggedWord → Bool) (words : List TaggedWord) → is_some (find p words) ≡ list_any p words
find_any p [] = refl
find_any p (w ∷ words) = go (p w) (find_any p words)
  where
    go : (b : Bool) → is_some (find p words) ≡ list_any p words → is_some (cond b (Some w) (find p words)) ≡ (b || list_any p words)
    go true rest = refl
    go false rest = rest

pub words_are : memory_laws.TagsAreOfWords → WordsAreOfPairs
words_are law pairs memory granule inside apart =
    let words = tagged_pairs pairs in
    let same : is_some (find (stands_at granule) (by_owner words)) ≡ is_some (find (stands_at granule) words) = law granule words (owners_small memory pairs inside) ∙ sym (find_any (stands_at granule) words) in
    ⊎_elim
    (λ (none : find (stands_at granule) words ≡ None). none_found (find (stands_at granule) (by_owner words)) (same ∙ ap is_some none) ∙ sym none)
    (λ (one : (w : TaggedWord) × (find (stands_at granule) words ≡ Some w) × All (IsOnly granule w) words).
    found_alone granule one.0 (by_owner words) (in_lists (IsOnly granule one.0) words (range_with_len 0 256) one.2) (same ∙ ap is_some one.1) ∙ sym one.1)
    (held granule pairs apart)

-- the word of a pair is found at its slot
own_word : (pairs : List Pair) (i : ℕ) (d : Pair) (slot note : ℕ) (c : Cap) → SlotsAreApart pairs → i < length pairs → get_or pairs i d ≡ made slot (Tagged c note)
    → find (stands_at slot) (tagged_pairs pairs) ≡ Some (word_at slot c note)
own_word [] i d slot note c apart lt is = absurd (omega (arith, lt))
own_word (q ∷ pairs) zero d slot note c apart lt is =
    ap (λ p. find (stands_at slot) (tagged_pairs (p ∷ pairs))) is
    ∙ ap (λ h. cond h (Some (word_at slot c note)) (find (stands_at slot) (tagged_pairs pairs))) (eq-eqb slot slot refl)
own_word (q ∷ pairs) (suc i) d slot note c apart lt is =
    go q.slot q.content (subst (λ (p : Pair). share_byte (interval_of q) (interval_of p) ≡ false) is (apart 0 (suc i) d (omega arith) lt))
    (own_word pairs i d slot note c (λ j k e le last. apart (suc j) (suc k) e (omega (arith, le)) (omega (arith, last))) (omega (arith, lt)) is)
  where
    go : (at : ℕ) (held : Content) → share_byte (interval_of (made at held)) (slot, length (content_bytes (Tagged c note))) ≡ false
        → find (stands_at slot) (tagged_pairs pairs) ≡ Some (word_at slot c note) → find (stands_at slot) (tagged_pairs (made at held ∷ pairs)) ≡ Some (word_at slot c note)
    go at (Number n) free rest = rest
    go at (Untagged n) free rest = rest
    go at (Tagged other m) free rest = ⊎_elim
        (λ (yes : (nat_eq at slot ≡ true) × (at ≡ slot)).
        absurd (slots_differ (made at (Tagged other m)) (Tagged c note) slot (omega (arith, length_word (word_of_cap other))) (omega (arith, length_word (word_of_cap c))) free yes.1))
        (λ (no : (nat_eq at slot ≡ false) × (at ≡ slot → ⊥)).
        ap (λ h. cond h (Some (word_at at other m)) (find (stands_at slot) (tagged_pairs pairs))) no.0 ∙ rest)
        (eqb_tells at slot)

pub capabilities_stand : memory_laws.TagsAreOfWords → CapabilitiesStand
capabilities_stand law pairs memory inside apart i d lt = go (get_or pairs i d).slot (get_or pairs i d).content refl
  where
    go : (slot : ℕ) (c : Content) → get_or pairs i d ≡ made slot c → IsTaggedWith (with_pairs pairs memory) slot c
    go slot (Number n) is = tt
    go slot (Untagged n) is = tt
    go slot (Tagged c note) is = words_are law pairs memory slot inside apart ∙ own_word pairs i d slot note c apart lt is

-- what is found among words has what each of them has
found_has : (P : TaggedWord → Type 0) (granule : ℕ) (w : TaggedWord) (words : List TaggedWord) → All P words → find (stands_at granule) words ≡ Some w → P w × (w.granule ≡ granule)
found_has P granule w [] all found = absurd (cc)
found_has P granule w (v ∷ words) all found = ⊎_elim
    (λ (yes : (nat_eq v.granule granule ≡ true) × (v.granule ≡ granule)).
    let same : v ≡ w = some_is v w (sym (ap (λ h. cond h (Some v) (find (stands_at granule) words)) yes.0) ∙ found) in
    (subst P same (All-head P v words all), sym (ap (λ x. x.granule) same) ∙ yes.1))
    (λ (no : (nat_eq v.granule granule ≡ false) × (v.granule ≡ granule → ⊥)).
    found_has P granule w words (All-tail P v words all) (sym (ap (λ h. cond h (Some v) (find (stands_at granule) words)) no.0) ∙ found))
    (eqb_tells v.granule granule)
  where
    some_is : (v w : TaggedWord) → Some v ≡ Some w → v ≡ w
    some_is v w e = ap (λ o. unwrap_or o v) e

pub bytes_are_words : BytesAreWords
bytes_are_words memory granule w sound found =
    let has = found_has (IsHeld memory) granule w memory.words sound.held found in
    ap (λ g. word_in memory.bytes (g - memory.base)) (sym has.1) ∙ has.0.bytes_are

-- the pair that has a byte is the first that has it
only_pair : (pairs : List Pair) (at i : ℕ) (d : Pair) → SlotsAreApart pairs → i < length pairs → has_byte at (get_or pairs i d) ≡ true → find (has_byte at) pairs ≡ Some (get_or pairs i d)
only_pair [] at i d apart lt has = absurd (omega (arith, lt))
only_pair (q ∷ pairs) at zero d apart lt has = ap (λ h. cond h (Some q) (find (has_byte at) pairs)) has
only_pair (q ∷ pairs) at (suc i) d apart lt has = ⊎_elim
    (λ (both : has_byte at q ≡ true).
    let lacks = not_both q (get_or pairs i d) at (apart 0 (suc i) d (omega arith) lt) both in
    absurd (cc))
    (λ (lacks : has_byte at q ≡ false).
    ap (λ h. cond h (Some q) (find (has_byte at) pairs)) lacks
    ∙ only_pair pairs at i d (λ j k e le last. apart (suc j) (suc k) e (omega (arith, le)) (omega (arith, last))) (omega (arith, lt)) has)
    (cases_Bool (has_byte at q))

pub slots_filled : SlotsAreFilled
slots_filled pairs memory inside apart i d lt =
    same_number_lists (take (size_of p) (drop v all)) (content_bytes p.content) len (λ k low. one k (omega (arith, low, len)))
  where
    p : Pair
    p = get_or pairs i d

    v : ℕ
    v = p.slot - memory.base

    all : List ℕ
    all = overlaid pairs memory.base memory.bytes

    slot : IsSlotIn memory p
    slot = inside i d lt

    len : length (take (size_of p) (drop v all)) ≡ size_of p
    len = length-take-le (size_of p) (drop v all) (omega (arith, length-drop v all, length_overlaid pairs memory.base memory.bytes, slot.inside.from, slot.inside.to))

    one : (k : ℕ) → k < size_of p → slice_index (take (size_of p) (drop v all)) k ≡ slice_index (content_bytes p.content) k
    one k low =
        let place : memory.base + (v + k) ≡ p.slot + k = omega (arith, slot.inside.from) in
        let back : p.slot + k - p.slot ≡ k = omega arith in
        let has = within p (p.slot + k) (omega arith) (omega (arith, low)) in
        get_or-take (size_of p) (drop v all) k 0 low
        ∙ get_or-drop v all k 0
        ∙ overlaid_at pairs memory.base memory.bytes (v + k) (omega (arith, slot.inside.from, slot.inside.to, low))
        ∙ ap (λ a. unwrap_or (byte_at pairs a) (slice_index memory.bytes (v + k))) place
        ∙ ap (λ o. unwrap_or (option_map (byte_of (p.slot + k)) o) (slice_index memory.bytes (v + k))) (only_pair pairs (p.slot + k) i d apart lt has)
        ∙ ap (slice_index (content_bytes p.content)) back

pub others_stay : OthersStay
others_stay pairs memory at inside none =
    let place : memory.base + (at - memory.base) ≡ at = omega (arith, inside.from) in
    overlaid_at pairs memory.base memory.bytes (at - memory.base) (omega (arith, inside.from, inside.to))
    ∙ ap (λ a. unwrap_or (byte_at pairs a) (slice_index memory.bytes (at - memory.base))) place
    ∙ ap (λ o. unwrap_or (option_map (byte_of at) o) (slice_index memory.bytes (at - memory.base))) none

pub size_stays : SizeStays
size_stays pairs memory = length_overlaid pairs memory.base memory.bytes

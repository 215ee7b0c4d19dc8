-- Memory in which pairs were stored is a sound memory, and its words are noted.
use Rattle.std.proofs.Common.{◌≡◌, ℕ, zero, suc, ◌+◌, ◌-◌, ◌*◌, ◌/◌, ◌%◌, ◌^◌, ◌<◌, ◌≤◌, Bool, true, false, if◌then◌else◌, List, [], ◌∷◌, ◌++◌, length, take, drop, get_or, Option, Some, None, All, AllPairs, refl, sym, ap, ◌∙◌, arith, nat_eq, nat_lt, bit_xor, ⊎_elim, subst, append_assoc, drop-drop}
use Rattle.std.specs.Prelude.{◌≢◌, filter, flat_map, IfSome, IsSomeAnd, slice_get}
use Rattle.std.specs.List.{range_with_len, replace_range}
use Rattle.std.proofs.lemmas.Bool.Decides.{eqb_tells}
use Rattle.std.proofs.lemmas.List.{take-append-drop}
use Rattle.std.proofs.lemmas.List.Elements.{All-head, All-tail, All-nil, All-cons, All-append, All-filter, All-weaker}
use Rattle.std.proofs.lemmas.List.Kept.{AllPairs-cons, AllPairs-filter}
use Rattle.std.proofs.lemmas.Nat.{xor_lt}
use Rattle.std.proofs.lemmas.Option.{slice_get_within, slice_get-get_or}
use Rattle.cap_conc.specs.declared.word.Word.{Word}
use Rattle.cap_conc.specs.Encoding.{word_of, highest_bit, long_bounds, bounds_field, compressed, metadata}
use Rattle.cap_conc.specs.Laws.{IsEncodable}
use Rattle.cap_own.specs.Cap.{Cap, Mapping, Grant, IsGrant, object_type, word_of_cap}
use Rattle.cap_own.specs.Laws.{GrantsStand}
use Rattle.cap_own.proofs.Granting.{IsEncodable-grant}
use Rattle.cap_elf.specs.DynView.{DynRecords}
use Rattle.cap_mem.specs.Tagged.{TaggedMemory, TaggedWord, is_of, by_owner, word_bytes, bytes_at}
use Rattle.cap_mem.specs.IsMemory.{IsHeld, IsMemory}
use Rattle.cap_mem.specs.Held.{HasStored}
use Rattle.cap_mem.proofs.Stored.{stored_word}
use Rattle.cap_reloc.specs.Wanted.{Pair, Content, Number, Untagged, Tagged}
use Rattle.cap_reloc.specs.Noted.{IsNote, IsNoted}
use Rattle.cap_reloc.specs.Planned.{IsSlotIn, SlotsAreApart, IsNarrowedIn}
use Rattle.cap_reloc.specs.Stored.{content_bytes, overlaid, tagged_in, tagged_pairs, with_pairs}
use Rattle.cap_reloc.specs.Laws.{StoredIsNoted}
use Rattle.cap_reloc.proofs.Overlaid.{AreApartFrom, length_overlaid}
use Rattle.cap_reloc.proofs.StoredWords.{length_word, in_lists}
use Rattle.cap_reloc.proofs.StoredLaws.{others_differ, slots_filled}
use Rattle.cap_reloc.proofs.NotedWords.{by_owner_all, filter_map_all}

-- ---- each word has the note of its pair
abbrev HasNote : List DynRecords → TaggedWord → Type 0
HasNote objects w = IsNote objects w.cap w.note

word_noted : (objects : List DynRecords) (slot : ℕ) (content : Content) → IsNoted objects content → IfSome (tagged_in slot content) (HasNote objects)
word_noted objects slot (Number n) h = tt
word_noted objects slot (Untagged n) h = tt
word_noted objects slot (Tagged c note) h = h

pub stored_noted : StoredIsNoted
stored_noted objects pairs memory noted =
    by_owner_all (HasNote objects) (tagged_pairs pairs)
    (filter_map_all (λ p. tagged_in p.slot p.content) (HasNote objects) pairs
    (All-weaker (λ p. IsNoted objects p.content) (λ p. IfSome (tagged_in p.slot p.content) (HasNote objects)) (λ p is. word_noted objects p.slot p.content is) pairs noted))

-- ---- all pairs of a list in two parts
pairs_none : (R : TaggedWord → TaggedWord → Type 0) → AllPairs R []
pairs_none R i j d lt last = absurd (omega (arith, last))

pairs_append : (R : TaggedWord → TaggedWord → Type 0) (xs ys : List TaggedWord) → AllPairs R xs → AllPairs R ys → All (λ x. All (R x) ys) xs → AllPairs R (xs ++ ys)
pairs_append R [] ys front back across = back
pairs_append R (x ∷ xs) ys front back across =
    AllPairs-cons R x (xs ++ ys)
    (All-append (R x) xs ys (λ k d lt. front 0 (suc k) d (omega arith) (omega (arith, lt))) (All-head (λ v. All (R v) ys) x xs across))
    (pairs_append R xs ys (λ i j d lt last. front (suc i) (suc j) d (omega (arith, lt)) (omega (arith, last))) back (All-tail (λ v. All (R v) ys) x xs across))

-- ---- the words of the owners from one on
abbrev lists_from : List TaggedWord → ℕ → ℕ → List TaggedWord
lists_from words a n = flat_map (λ owner. filter (is_of owner) words) (range_with_len a n)

abbrev Owns : ℕ → TaggedWord → Type 0
Owns owner w = w.cap.owner ≡ owner

abbrev OwnsFrom : ℕ → TaggedWord → Type 0
OwnsFrom owner w = owner ≤ w.cap.owner

own_words : (owner : ℕ) (words : List TaggedWord) → All (Owns owner) (filter (is_of owner) words)
own_words owner [] = All-nil (Owns owner)
own_words owner (w ∷ words) = ⊎_elim
    (λ (yes : (nat_eq w.cap.owner owner ≡ true) × (w.cap.owner ≡ owner)). rw yes.0 (All-cons (Owns owner) w (filter (is_of owner) words) yes.1 (own_words owner words)))
    (λ (no : (nat_eq w.cap.owner owner ≡ false) × (w.cap.owner ≡ owner → ⊥)). rw no.0 (own_words owner words))
    (eqb_tells w.cap.owner owner)

words_above : (words : List TaggedWord) (n a : ℕ) → All (OwnsFrom a) (lists_from words a n)
words_above words zero a = All-nil (OwnsFrom a)
words_above words (suc n) a =
    let own = own_words a words in
    let later = words_above words n (a + 1) in
    All-append (OwnsFrom a) (filter (is_of a) words) (lists_from words (a + 1) n)
    (λ k d lt. omega (arith, own k d lt))
    (λ k d lt. omega (arith, later k d lt))

-- the owners ascend
abbrev InOrder : TaggedWord → TaggedWord → Type 0
InOrder v w = v.cap.owner ≤ w.cap.owner

words_ascend : (words : List TaggedWord) (n a : ℕ) → AllPairs InOrder (lists_from words a n)
words_ascend words zero a = pairs_none InOrder
words_ascend words (suc n) a =
    let own = own_words a words in
    let later = words_above words n (a + 1) in
    pairs_append InOrder (filter (is_of a) words) (lists_from words (a + 1) n)
    (λ i j d lt last. omega (arith, own i d (omega (arith, lt, last)), own j d last))
    (words_ascend words n (a + 1))
    (λ i d lt. λ j e last. omega (arith, own i d lt, later j e last))

-- no granule stands twice
abbrev Differ : TaggedWord → TaggedWord → Type 0
Differ v w = v.granule ≢ w.granule

abbrev SameAt : TaggedWord → TaggedWord → Type 0
SameAt v w = v.granule ≡ w.granule → v ≡ w

-- words that stand at one granule are one
one_each : (words : List TaggedWord) → AllPairs Differ words → All (λ v. All (SameAt v) words) words
one_each [] apart = All-nil (λ v. All (SameAt v) [])
one_each (w ∷ words) apart =
    let first : All (Differ w) words = λ k d lt. apart 0 (suc k) d (omega arith) (omega (arith, lt)) in
    let rest = one_each words (λ i j d lt last. apart (suc i) (suc j) d (omega (arith, lt)) (omega (arith, last))) in
    All-cons (λ v. All (SameAt v) (w ∷ words)) w words
    (All-cons (SameAt w) w words (λ same. refl) (λ k d lt. λ same. absurd (first k d lt same)))
    (λ k d lt. All-cons (SameAt (get_or words k d)) w words (λ same. absurd (first k d lt (sym same))) (rest k d lt))

lists_differ : (words : List TaggedWord) (n a : ℕ) → AllPairs Differ words → AllPairs Differ (lists_from words a n)
lists_differ words zero a apart = pairs_none Differ
lists_differ words (suc n) a apart =
    let own = own_words a words in
    let later = words_above words n (a + 1) in
    pairs_append Differ (filter (is_of a) words) (lists_from words (a + 1) n)
    (AllPairs-filter Differ (is_of a) words apart)
    (lists_differ words n (a + 1) apart)
    (λ i d lt. λ j e last. λ same.
    let one = All-filter (is_of a) (λ v. All (SameAt v) words) words (one_each words apart) i d lt in
    let equal = in_lists (SameAt (get_or (filter (is_of a) words) i d)) words (range_with_len (a + 1) n) one j e last same in
    absurd (omega (arith, own i d lt, later j e last, ap (λ w. w.cap.owner) equal)))

abbrev made : ℕ → Content → Pair
made slot content = record { slot = slot; content = content }

abbrev word_at : ℕ → Cap → ℕ → TaggedWord
word_at granule cap note = record { granule = granule; cap = cap; note = note }

pairs_differ : (pairs : List Pair) → SlotsAreApart pairs → AllPairs Differ (tagged_pairs pairs)
pairs_differ [] apart = pairs_none Differ
pairs_differ (p ∷ pairs) apart =
    go p.slot p.content (λ k d lt. apart 0 (suc k) d (omega arith) (omega (arith, lt)))
    (pairs_differ pairs (λ i j d lt last. apart (suc i) (suc j) d (omega (arith, lt)) (omega (arith, last))))
  where
    go : (slot : ℕ) (c : Content) → AreApartFrom (made slot c) pairs → AllPairs Differ (tagged_pairs pairs) → AllPairs Differ (tagged_pairs (made slot c ∷ pairs))
    go slot (Number n) free rest = rest
    go slot (Untagged n) free rest = rest
    go slot (Tagged c note) free rest =
        let w : TaggedWord = word_at slot c note in
        AllPairs-cons Differ w (tagged_pairs pairs) (others_differ (made slot (Tagged c note)) w pairs (omega (arith, length_word (word_of_cap c))) refl free) rest

-- ---- the word of a granted capability has 16 bytes
long_small : (exponent top bottom : ℕ) → exponent ≤ 115 → bounds_field 1 (top % 2 ^ 12 + exponent / 8) (bottom % 2 ^ 14 + exponent % 8) < 2 ^ 28
long_small exponent top bottom low = omega (arith, low)

highest_low : (n leading : ℕ) → n ≤ 2 ^ 62 → 128 + n / 2 ^ 128 - 1 - leading - 12 ≤ 115
highest_low n leading low = omega (arith, low)

bounds_small : (base len : ℕ) → len ≤ 2 ^ 62 → compressed base len < 2 ^ 28
bounds_small base len low = go (nat_lt len 4096)
  where
    go : (b : Bool) → (if b then bounds_field 0 ((base + len) % 2 ^ 12) (base % 2 ^ 14) else long_bounds (highest_bit len - 12) base (base + len)) < 2 ^ 28
    go true = omega arith
    go false = long_small (highest_bit len - 12) _ _ (highest_low len _ low)

flag_small : (flag : Bool) (perms kind bounds : ℕ) → perms < 2 ^ 16 → kind < 2 ^ 18 → bounds < 2 ^ 28 → metadata perms flag kind bounds < 2 ^ 64
flag_small true perms kind bounds p k b = omega (arith, p, k, b)
flag_small false perms kind bounds p k b = omega (arith, p, k, b)

address_is : (c : Cap) → (word_of_cap c).address ≡ c.cursor
unfolding word_of
address_is c = refl

meta_small : (c : Cap) → c.perms < 2 ^ 16 → object_type c.sealed < 2 ^ 18 → c.len ≤ 2 ^ 62 → (word_of_cap c).meta < 2 ^ 64
unfolding word_of
meta_small c perms kind len =
    xor_lt 64 (metadata c.perms c.flag (object_type c.sealed) (compressed c.base c.len)) 0x00001FFFFC018004
    (flag_small c.flag c.perms (object_type c.sealed) (compressed c.base c.len) perms kind (bounds_small c.base c.len len)) (omega arith)

-- ---- a slot that holds the word of a capability
put_back : (xs : List ℕ) (v n : ℕ) → replace_range xs v (v + n) (take n (drop v xs)) ≡ xs
put_back xs v n =
    append_assoc (take v xs) (take n (drop v xs)) (drop (v + n) xs)
    ∙ ap (λ rest. take v xs ++ (take n (drop v xs) ++ rest)) (sym (drop-drop n v xs))
    ∙ ap (λ rest. take v xs ++ rest) (take-append-drop n (drop v xs))
    ∙ take-append-drop v xs

has_stored : GrantsStand → (g : Grant) (bytes : List ℕ) (v : ℕ) → IsGrant g → g.root.base + g.root.len ≤ 2 ^ 62 → v ≤ length bytes
    → take (length (word_bytes (word_of_cap g.cap))) (drop v bytes) ≡ word_bytes (word_of_cap g.cap) → HasStored bytes v g.cap
has_stored law g bytes v grant end fits is =
    let w : Word = word_of_cap g.cap in
    let n : ℕ = length (word_bytes (word_of_cap g.cap)) in
    let encodable = IsEncodable-grant g grant end in
    let there : replace_range bytes v (v + n) (word_bytes w) ≡ bytes = ap (λ ys. replace_range bytes v (v + n) ys) (sym is) ∙ put_back bytes v n in
    subst (λ (xs : List ℕ). HasStored xs v g.cap) there
    (stored_word bytes (word_bytes w) v n w g.cap refl (length_word w) fits
    (omega (arith, address_is g.cap, encodable.address))
    (meta_small g.cap encodable.permission_bits encodable.object_type_bits (omega (arith, grant.narrowed.within.1, grant.narrowed.within.0, end)))
    refl (law.fields g grant end))

-- ---- each word is held
abbrev EndsLow : Mapping → Type 0
EndsLow root = root.base + root.len ≤ 2 ^ 62

-- the mapping that a number names, and what holds of it
root_of : (P : Mapping → Type 0) (roots : List Mapping) (i : ℕ) → All EndsLow roots → IsSomeAnd (slice_get roots i) P → (root : Mapping) × P root × EndsLow root
root_of P roots i low has = go (slice_get roots i) refl has
  where
    go : (o : Option Mapping) → slice_get roots i ≡ o → IsSomeAnd o P → (root : Mapping) × P root × EndsLow root
    go None is h = absurd h
    go (Some root) is h =
        let lt = slice_get_within roots i root is in
        let at : slice_get roots i ≡ Some (get_or roots i root) = slice_get-get_or roots i root lt in
        let same : get_or roots i root ≡ root = cc in
        (root, h, subst EndsLow same (low i root lt))

word_held : GrantsStand → (roots : List Mapping) (pairs : List Pair) (memory : TaggedMemory) (slot : ℕ) (content : Content)
    → All EndsLow roots → IsSlotIn memory (made slot content) → IsNarrowedIn roots content
    → bytes_at (with_pairs pairs memory) slot (length (content_bytes content)) ≡ content_bytes content
    → IfSome (tagged_in slot content) (IsHeld (with_pairs pairs memory))
word_held law roots pairs memory slot (Number n) low inside narrowed filled = tt
word_held law roots pairs memory slot (Untagged n) low inside narrowed filled = tt
word_held law roots pairs memory slot (Tagged c note) low inside narrowed filled =
    let found = root_of (λ root. IsGrant (record { root = root; cap = c })) roots c.owner low narrowed in
    let size = length_overlaid pairs memory.base memory.bytes in
    let long = length_word (word_of_cap c) in
    let stored = has_stored law (record { root = found.0; cap = c }) (overlaid pairs memory.base memory.bytes) (slot - memory.base) found.1 found.2
    (omega (arith, size, inside.inside.from, inside.inside.to)) filled in
    record {
      aligned = inside.granule.0;
      from = inside.inside.from;
      to = omega (arith, size, long, inside.inside.to);
      owner = inside.granule.1;
      bytes_are = stored.bytes_are;
      decodes = stored.decodes;
      root = found.0;
      granted = found.1;
    }

-- memory without a tag is sound with pairs whose slots lie in it and apart, and whose capabilities were granted by
-- mappings that end at 2 ^ 62 at most
pub stored_sound : GrantsStand → (roots : List Mapping) (pairs : List Pair) (memory : TaggedMemory)
    → All EndsLow roots → IsMemory memory → All (IsSlotIn memory) pairs → SlotsAreApart pairs → All (λ p. IsNarrowedIn roots p.content) pairs → IsMemory (with_pairs pairs memory)
stored_sound law roots pairs memory low sound inside apart narrowed = record {
  aligned = sound.aligned;
  end = omega (arith, sound.end, length_overlaid pairs memory.base memory.bytes);
  held = by_owner_all (IsHeld (with_pairs pairs memory)) (tagged_pairs pairs)
      (filter_map_all (λ p. tagged_in p.slot p.content) (IsHeld (with_pairs pairs memory)) pairs
      (λ k d lt. word_held law roots pairs memory _ _ low (inside k d lt) (narrowed k d lt) (slots_filled pairs memory inside apart k d lt)));
  distinct = lists_differ (tagged_pairs pairs) 256 0 (pairs_differ pairs apart);
  ascending = words_ascend (tagged_pairs pairs) 256 0;
}

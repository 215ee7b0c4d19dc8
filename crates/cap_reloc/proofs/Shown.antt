-- Memory shows what the relocations of its object mean.
use Rattle.std.proofs.Common.{◌≡◌, ℕ, zero, suc, ◌+◌, ◌-◌, ◌^◌, ◌<◌, ◌≤◌, Bool, true, false, List, [], ◌∷◌, length, take, drop, get_or, filter, Option, Some, None, All, ⊎_elim, refl, sym, ap, ap₂, ◌∙◌, subst, arith, max, min, length-append}
use Rattle.std.specs.Prelude.{◌&&◌, ◌||◌, ◌==◌, IsSomeAnd, MatchOption, Ok, find, if◌then◌else◌, is_some, nat_eq, nat_lt, slice_get, slice_index}
use Rattle.std.specs.List.{AllZip, list_any}
use Rattle.std.proofs.lemmas.Bool.{cases_Bool, cases_lt, eq-eqb, ltb-false}
use Rattle.std.proofs.lemmas.Bool.Decides.{eqb_tells, nat_tests}
use Rattle.std.proofs.lemmas.List.Elements.{All-cons, All-head, All-nil, All-tail}
use Rattle.std.proofs.lemmas.Option.{get_or_from_slice_get, slice_get_within}
use Rattle.byteorder.specs.Numbers.{length-bytes_low_first}
use Rattle.cap_base.specs.Field.{number_bytes}
use Rattle.cap_conc.specs.declared.word.Word.{Word}
use Rattle.cap_own.specs.Cap.{Cap, Mapping, IsGrant, word_of_cap}
use Rattle.cap_own.specs.Laws.{GrantsStand}
use Rattle.cap_mem.specs.IsMemory.{IsMemory}
use Rattle.cap_mem.specs.Laws as memory_laws
use Rattle.cap_mem.specs.Tagged.{TaggedMemory, bytes_at, is_tagged, word_in}
use Rattle.cap_elf.specs.declared.records.DynReloc.{DynReloc}
use Rattle.cap_reloc.specs.Binding.{IsUnrelocated}
use Rattle.cap_reloc.specs.Laws.{has_capability_at, is_capability, IsTaggedWith}
use Rattle.cap_reloc.specs.Meant.{IsPairOf, content_or, entry_cap, has_slot, mapped_cap, meant, meant_content, named_cap, named_number, number_content}
use Rattle.cap_reloc.specs.Planned.{IsNarrowedIn, IsSlotIn, SlotsAreApart}
use Rattle.cap_reloc.specs.Shown.{HoldsMeant, IsWordOf, ShowsMeant, StoredIsMeant, mapping_in, names_at}
use Rattle.cap_reloc.specs.Sound.{IsPlaced}
use Rattle.cap_reloc.specs.Stored.{content_bytes, has_byte, with_pairs}
use Rattle.cap_reloc.specs.Wanted.{Setting, Relocation, Entry, Record, Content, Number, Untagged, Tagged, Pair, own, bias, relocations_of, slot_of, touches, wanted_pairs}
use Rattle.cap_reloc.proofs.FromPlan.{narrowed_pairs, slots_in, sound_pairs}
use Rattle.cap_reloc.proofs.Mappings.{as_many, mapping_of}
use Rattle.cap_reloc.proofs.Meant.{pairs_are_meant}
use Rattle.cap_reloc.proofs.Overlaid.{before, behind, size_of}
use Rattle.cap_reloc.proofs.SoundStored.{stored_sound}
use Rattle.cap_reloc.proofs.StoredLaws.{bytes_are_words, capabilities_stand, others_stay, size_stays, slots_filled, tags_are}
use Rattle.cap_reloc.proofs.StoredWords.{length_word}

-- ---- relocations without a slot

-- the width of a kind: 8 bytes, 16 or none
abbrev width_by : Bool → Bool → ℕ
width_by short long = if short then 8 else if long then 16 else 0

none_named : (short long : Bool) (o : Option Cap) (there : Bool) → nat_lt 0 (width_by short long) ≡ false → (is_some (if width_by short long == 16 then o else None) && there) ≡ false
none_named true long o there none = absurd (cc)
none_named false true o there none = absurd (cc)
none_named false false o there none = refl

unnamed : (s : Setting) (at : ℕ) (r : Relocation) → has_slot r ≡ false → names_at s at r ≡ false
unnamed s at (Entry e) none = absurd (cc)
unnamed s at (Record r) none = none_named (r.kind == 2 || r.kind == 3) (r.kind == 5 || r.kind == 193) (mapped_cap s r.addend (meant s r.symbol)) (r.slot == at) none

-- those that have one say whether any passes a test that the others don't
any_with_slot : (p : Relocation → Bool) (rs : List Relocation) → ((r : Relocation) → has_slot r ≡ false → p r ≡ false) → list_any p (filter has_slot rs) ≡ list_any p rs
any_with_slot p [] none = refl
any_with_slot p (r ∷ rs) none = ⊎_elim
    (λ (yes : has_slot r ≡ true). rw (yes) (ap (λ (b : Bool). p r || b) (any_with_slot p rs none)))
    (λ (no : has_slot r ≡ false). rw (no, none r no) (any_with_slot p rs none))
    (cases_Bool (has_slot r))

-- ---- tags

is_number : (long : Bool) (n : ℕ) → is_capability (if long then Untagged n else Number n) ≡ false
is_number true n = refl
is_number false n = refl

capability_is : (o : Option Cap) (width n note : ℕ) → is_capability (content_or o width n note) ≡ is_some o
capability_is None width n note = is_number (width == 16) n
capability_is (Some c) width n note = refl

same_place : (from x y : ℕ) → (from + x == from + y) ≡ (x == y)
same_place from x y = ⊎_elim
    (λ (yes : (nat_eq x y ≡ true) × (x ≡ y)). eq-eqb (from + x) (from + y) (ap (λ (n : ℕ). from + n) yes.1) ∙ sym yes.0)
    (λ (no : (nat_eq x y ≡ false) × (x ≡ y → ⊥)). ⊎_elim
    (λ (both : (nat_eq (from + x) (from + y) ≡ true) × (from + x ≡ from + y)). absurd (no.1 (let same = both.1 in omega (arith, same))))
    (λ (differ : (nat_eq (from + x) (from + y) ≡ false) × (from + x ≡ from + y → ⊥)). differ.0 ∙ sym no.0)
    (eqb_tells (from + x) (from + y)))
    (eqb_tells x y)

same_tag : (s : Setting) (at : ℕ) (r : Relocation) (p : Pair) → IsPairOf s r p → has_capability_at (bias s + at) p ≡ names_at s at r
same_tag s at r p is =
    let named : is_capability p.content ≡ is_some (named_cap s r) = ap is_capability is.content ∙ capability_is (named_cap s r) (slot_of r).1 (named_number s r) is.note in
    let place : (p.slot == bias s + at) ≡ ((slot_of r).0 == at) = ap (λ (n : ℕ). n == bias s + at) is.slot ∙ same_place (bias s) (slot_of r).0 at in
    ap₂ (λ (a b : Bool). a && b) named place

same_tags : (s : Setting) (at : ℕ) (rs : List Relocation) (pairs : List Pair) → AllZip (IsPairOf s) rs pairs → list_any (has_capability_at (bias s + at)) pairs ≡ list_any (names_at s at) rs
same_tags s at [] [] h = refl
same_tags s at [] (p ∷ pairs) h = absurd h
same_tags s at (r ∷ rs) [] h = absurd h
same_tags s at (r ∷ rs) (p ∷ pairs) h = ap₂ (λ (a b : Bool). a || b) (same_tag s at r p h.0) (same_tags s at rs pairs h.1)

-- ---- sizes

long_number : (n : ℕ) → length (content_bytes (Untagged n)) ≡ 16
long_number n = omega (arith, length-append (number_bytes 8 n) (number_bytes 8 0), length-bytes_low_first 0 8 n, length-bytes_low_first 0 8 0)

number_size : (short long : Bool) (n : ℕ) → nat_lt 0 (width_by short long) ≡ true → length (content_bytes (number_content (width_by short long) n)) ≡ width_by short long
number_size true long n some = length-bytes_low_first 0 8 n
number_size false true n some = long_number n
number_size false false n some = absurd (cc)

record_size : (short long : Bool) (o : Option Cap) (n note : ℕ) → nat_lt 0 (width_by short long) ≡ true → length (content_bytes (content_or (if width_by short long == 16 then o else None) (width_by short long) n note)) ≡ width_by short long
record_size true long o n note some = length-bytes_low_first 0 8 n
record_size false true None n note some = long_number n
record_size false true (Some c) n note some = length_word (word_of_cap c)
record_size false false o n note some = absurd (cc)

meant_size : (s : Setting) (r : Relocation) (note : ℕ) → has_slot r ≡ true → length (content_bytes (meant_content s r note)) ≡ (slot_of r).1
meant_size s (Entry e) note some = length_word (word_of_cap (entry_cap s e))
meant_size s (Record r) note some = record_size (r.kind == 2 || r.kind == 3) (r.kind == 5 || r.kind == 193) (mapped_cap s r.addend (meant s r.symbol)) (named_number s (Record r)) note some

-- ---- slots

-- the word of a capability
abbrev HasWord : Setting → List ℕ → ℕ → Content → Type 0
HasWord s bytes at (Number n) = Unit {0}
HasWord s bytes at (Untagged n) = Unit {0}
HasWord s bytes at (Tagged c note) = IsWordOf s (word_in bytes at) c

-- a content stands at an offset
record HasContent (s : Setting) (bytes : List ℕ) (at : ℕ) (content : Content) : Type 0 where
  bytes_are : take (length (content_bytes content)) (drop at bytes) ≡ content_bytes content
  word : HasWord s bytes at content

holds_number : (s : Setting) (bytes : List ℕ) (at width n note : ℕ) → length (content_bytes (number_content width n)) ≡ width → HasContent s bytes at (content_or None width n note) → take width (drop at bytes) ≡ content_bytes (number_content width n)
holds_number s bytes at width n note size h = ap (λ (m : ℕ). take m (drop at bytes)) (sym size) ∙ h.bytes_are

record_holds : (s : Setting) (bytes : List ℕ) (at : ℕ) (short long : Bool) (o : Option Cap) (n note : ℕ) → nat_lt 0 (width_by short long) ≡ true
    → HasContent s bytes at (content_or (if width_by short long == 16 then o else None) (width_by short long) n note)
    → MatchOption (if width_by short long == 16 then o else None) (take (width_by short long) (drop at bytes) ≡ content_bytes (number_content (width_by short long) n)) (λ (c : Cap). IsWordOf s (word_in bytes at) c)
record_holds s bytes at true long o n note some h = holds_number s bytes at 8 n note (number_size true long n some) h
record_holds s bytes at false true None n note some h = holds_number s bytes at 16 n note (number_size false true n some) h
record_holds s bytes at false true (Some c) n note some h = h.word
record_holds s bytes at false false o n note some h = absurd (cc)

holds : (s : Setting) (bytes : List ℕ) (r : Relocation) (note : ℕ) → has_slot r ≡ true → HasContent s bytes (slot_of r).0 (meant_content s r note) → HoldsMeant s bytes r
holds s bytes (Entry e) note some h = h.word
holds s bytes (Record r) note some h =
    record_holds s bytes r.slot (r.kind == 2 || r.kind == 3) (r.kind == 5 || r.kind == 193) (mapped_cap s r.addend (meant s r.symbol)) (named_number s (Record r)) note some h

-- a pair stands in the bytes of its object
abbrev Stands : Setting → List ℕ → Pair → Type 0
Stands s bytes p = HasContent s bytes (p.slot - bias s) p.content

slot_holds : (s : Setting) (bytes : List ℕ) (r : Relocation) (p : Pair) → has_slot r ≡ true → IsPairOf s r p → Stands s bytes p → HoldsMeant s bytes r
slot_holds s bytes r p some is h =
    let place : p.slot - bias s ≡ (slot_of r).0 = (let at = is.slot in omega (arith, at)) in
    holds s bytes r is.note some (subst (HasContent s bytes (slot_of r).0) is.content (subst (λ (at : ℕ). HasContent s bytes at p.content) place h))

-- the same with the relocations that have a slot
abbrev with_slot : Relocation → List Relocation → Bool → List Relocation
with_slot r rs some = if some then r ∷ filter has_slot rs else filter has_slot rs

abbrev AreAll : Setting → List ℕ → List Relocation → Type 0
AreAll s bytes rs = All (λ (r : Relocation). has_slot r ≡ true → HoldsMeant s bytes r) rs

slots_hold : (s : Setting) (bytes : List ℕ) (rs : List Relocation) (pairs : List Pair) → AllZip (IsPairOf s) (filter has_slot rs) pairs → All (Stands s bytes) pairs → AreAll s bytes rs
slots_hold s bytes [] pairs h stand = All-nil (λ (r : Relocation). has_slot r ≡ true → HoldsMeant s bytes r)
slots_hold s bytes (r ∷ rs) pairs h stand = ⊎_elim
    (λ (yes : has_slot r ≡ true). go pairs (subst (λ (xs : List Relocation). AllZip (IsPairOf s) xs pairs) (ap (with_slot r rs) yes) h) stand (λ later. slots_hold s bytes rs later))
    (λ (no : has_slot r ≡ false).
    All-cons (λ (r : Relocation). has_slot r ≡ true → HoldsMeant s bytes r) r rs (λ yes. absurd (let both = sym yes ∙ no in cc))
    (slots_hold s bytes rs pairs (subst (λ (xs : List Relocation). AllZip (IsPairOf s) xs pairs) (ap (with_slot r rs) no) h) stand))
    (cases_Bool (has_slot r))
  where
    go : (pairs : List Pair) → AllZip (IsPairOf s) (r ∷ filter has_slot rs) pairs → All (Stands s bytes) pairs → ((later : List Pair) → AllZip (IsPairOf s) (filter has_slot rs) later → All (Stands s bytes) later → AreAll s bytes rs) → AreAll s bytes (r ∷ rs)
    go [] h stand rest = absurd h
    go (p ∷ pairs) h stand rest =
        All-cons (λ (r : Relocation). has_slot r ≡ true → HoldsMeant s bytes r) r rs (λ some. slot_holds s bytes r p some h.0 (All-head (Stands s bytes) p pairs stand))
        (rest pairs h.1 (All-tail (Stands s bytes) p pairs stand))

-- ---- other bytes

untouched : (s : Setting) (at : ℕ) (r : Relocation) (p : Pair) → has_slot r ≡ true → IsPairOf s r p → nat_lt (max at (slot_of r).0) (min (at + 1) ((slot_of r).0 + (slot_of r).1)) ≡ false → has_byte (bias s + at) p ≡ false
untouched s at r p some is free =
    let le = ltb-false (max at (slot_of r).0) (min (at + 1) ((slot_of r).0 + (slot_of r).1)) free in
    let size : size_of p ≡ (slot_of r).1 = ap (λ (c : Content). length (content_bytes c)) is.content ∙ meant_size s r is.note some in
    let place = is.slot in
    ⊎_elim
    (λ (low : at < (slot_of r).0). before p (bias s + at) (omega (arith, low, place)))
    (λ (high : (slot_of r).0 ≤ at). behind p (bias s + at) (omega (arith, le, size, place, high)))
    (cases_lt at (slot_of r).0)

none_either : (a b : Bool) → (a || b) ≡ false → (a ≡ false) × (b ≡ false)
none_either false b h = (refl, h)
none_either true b h = absurd (cc)

none_has : (s : Setting) (at : ℕ) (rs : List Relocation) (pairs : List Pair) → AllZip (IsPairOf s) (filter has_slot rs) pairs → touches (at, 1) rs ≡ false → find (has_byte (bias s + at)) pairs ≡ None
none_has s at [] [] h free = refl
none_has s at [] (p ∷ pairs) h free = absurd h
none_has s at (r ∷ rs) pairs h free =
    let parts = none_either _ _ free in
    ⊎_elim
    (λ (yes : has_slot r ≡ true). go pairs yes (subst (λ (xs : List Relocation). AllZip (IsPairOf s) xs pairs) (ap (with_slot r rs) yes) h) parts.0 (λ later h. none_has s at rs later h parts.1))
    (λ (no : has_slot r ≡ false). none_has s at rs pairs (subst (λ (xs : List Relocation). AllZip (IsPairOf s) xs pairs) (ap (with_slot r rs) no) h) parts.1)
    (cases_Bool (has_slot r))
  where
    go : (pairs : List Pair) → has_slot r ≡ true → AllZip (IsPairOf s) (r ∷ filter has_slot rs) pairs → nat_lt (max at (slot_of r).0) (min (at + 1) ((slot_of r).0 + (slot_of r).1)) ≡ false
        → ((later : List Pair) → AllZip (IsPairOf s) (filter has_slot rs) later → find (has_byte (bias s + at)) later ≡ None) → find (has_byte (bias s + at)) pairs ≡ None
    go [] some h first rest = absurd h
    go (p ∷ pairs) some h first rest = rw (untouched s at r p some h.0 first) (rest pairs h.1)

-- ---- memory

same_mapping : (s : Setting) (n : ℕ) (root : Mapping) → root.base ≡ slice_index s.bases n → root.len ≡ (mapping_in s n).len → root.owner ≡ n → root ≡ mapping_in s n
same_mapping s n root base len owner = ap (λ (b : ℕ). record { base = b; len = root.len; owner = root.owner }) base ∙ ap (λ (l : ℕ). record { base = slice_index s.bases n; len = l; owner = root.owner }) len ∙ ap (λ (o : ℕ). record { base = slice_index s.bases n; len = (mapping_in s n).len; owner = o }) owner

some_at : (o : Option Mapping) (P : Mapping → Type 0) → IsSomeAnd o P → (root : Mapping) × (o ≡ Some root) × P root
some_at None P h = absurd h
some_at (Some root) P h = (root, refl, h)

-- what was narrowed from the mapping of its owner was narrowed from the mapping of that object, and that ends low
grant_in : (roots : List Mapping) (s : Setting) (c : Cap) → IsPlaced roots s → IsSomeAnd (slice_get roots c.owner) (λ root. IsGrant (record { root = root; cap = c })) → All (λ (root : Mapping). root.base + root.len ≤ 2 ^ 62) roots
    → IsGrant (record { root = mapping_in s c.owner; cap = c }) × ((mapping_in s c.owner).base + (mapping_in s c.owner).len ≤ 2 ^ 62)
grant_in roots s c placed h low =
    let there = some_at (slice_get roots c.owner) (λ (root : Mapping). IsGrant (record { root = root; cap = c })) h in
    let root : Mapping = there.0 in
    let below : c.owner < length roots = slice_get_within roots c.owner root there.1 in
    let many = as_many s.objects 0 roots placed.mappings in
    let is = mapping_of roots s c.owner root placed (omega (arith, below, many)) in
    let found : get_or roots c.owner root ≡ root = get_or_from_slice_get roots c.owner root root there.1 in
    let same : root ≡ mapping_in s c.owner = sym found ∙ same_mapping s c.owner (get_or roots c.owner root) is.base is.mapping.size is.mapping.owner in
    let ends : get_or roots c.owner root ≡ mapping_in s c.owner = found ∙ same in
    (subst (λ (m : Mapping). IsGrant (record { root = m; cap = c })) same there.2, subst (λ (m : Mapping). m.base + m.len ≤ 2 ^ 62) ends (low c.owner root below))

-- ---- all of it

stands_word : (grants : GrantsStand) (roots : List Mapping) (s : Setting) (memory : TaggedMemory) (slot : ℕ) (content : Content) → IsPlaced roots s → All (λ (root : Mapping). root.base + root.len ≤ 2 ^ 62) roots → memory.base ≡ bias s → IsMemory memory
    → IsNarrowedIn roots content → IsTaggedWith memory slot content → HasWord s memory.bytes (slot - bias s) content
stands_word grants roots s memory slot (Number n) placed low base sound narrowed tagged = tt
stands_word grants roots s memory slot (Untagged n) placed low base sound narrowed tagged = tt
stands_word grants roots s memory slot (Tagged c note) placed low base sound narrowed tagged =
    let granted = grant_in roots s c placed narrowed low in
    let word : word_in memory.bytes (slot - bias s) ≡ word_of_cap c = ap (λ (n : ℕ). word_in memory.bytes (slot - n)) (sym base) ∙ bytes_are_words memory slot (record { granule = slot; cap = c; note = note }) sound tagged in
    record { stands = rw (word) (grants.stands (record { root = mapping_in s c.owner; cap = c }) granted.0 granted.1); narrowed = granted.0 }

pub stored_meant : memory_laws.TagsAreOfWords → GrantsStand → StoredIsMeant
stored_meant tags grants roots s pairs memory low placed sound fresh is =
    let are = sound_pairs roots s pairs placed is in
    let inside : All (IsSlotIn memory) pairs = slots_in roots s pairs memory placed are fresh in
    let apart : SlotsAreApart pairs = are.apart in
    let narrowed : All (λ (p : Pair). IsNarrowedIn roots p.content) pairs = narrowed_pairs roots s pairs are in
    let meant = pairs_are_meant s pairs is in
    let after : TaggedMemory = with_pairs pairs memory in
    let here = some_at (slice_get roots s.index) (λ (root : Mapping). (memory.base ≡ root.base) × (length memory.bytes ≡ root.len) × (memory.words ≡ [])) fresh in
    let many = as_many s.objects 0 roots placed.mappings in
    let base : memory.base ≡ bias s = here.2.0 ∙ ap (λ (root : Mapping). root.base) (sym (get_or_from_slice_get roots s.index here.0 here.0 here.1)) ∙ (mapping_of roots s s.index here.0 placed placed.index).base in
    let whole : IsMemory after = stored_sound grants roots pairs memory low sound inside apart narrowed in
    let tagged = capabilities_stand tags pairs memory inside apart in
    let filled = slots_filled pairs memory inside apart in
    let rs : List Relocation = relocations_of (own s) in
    let stand : All (Stands s after.bytes) pairs = λ k d lt.
    let p : Pair = get_or pairs k d in
    record {
      bytes_are = ap (λ (n : ℕ). take (size_of p) (drop (p.slot - n) after.bytes)) (sym base) ∙ filled k d lt;
      word = stands_word grants roots s after p.slot p.content placed low base whole (narrowed k d lt) (tagged k d lt);
    }
    in
    record {
      size = size_stays pairs memory;
      tags = λ at. tags_are tags pairs memory (bias s + at) inside ∙ same_tags s at (filter has_slot rs) pairs meant ∙ any_with_slot (names_at s at) rs (unnamed s at);
      slots = slots_hold s after.bytes rs pairs meant stand;
      others = λ at below free.
          let place : bias s + at - memory.base ≡ at = omega (arith, base) in
          let size = size_stays pairs memory in
          let stays = others_stay pairs memory (bias s + at) (record { from = omega (arith, base); to = omega (arith, base, below, size) }) (none_has s at rs pairs meant free) in
          ap (slice_index after.bytes) (sym place) ∙ stays ∙ ap (slice_index memory.bytes) place;
    }

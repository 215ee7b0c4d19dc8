-- A roster with more objects, and without them again.
use Rattle.std.proofs.Common.{◌≡◌, ℕ, suc, zero, ◌+◌, ◌-◌, ◌<◌, ◌≤◌, Bool, List, [], ◌∷◌, ◌++◌, length, get_or, take, drop, refl, ap, sym, ◌∙◌, subst, arith}
use Rattle.std.specs.Prelude.{All, Option, Some, None, IsSomeAnd, slice_get, map}
use Rattle.std.proofs.lemmas.List.{length-map, take_all, drop_all, take-map, take-append-drop, append-nil}
use Rattle.std.proofs.lemmas.List.Elements.{All-nil, All-append, All-weaker}
use Rattle.cap_own.specs.Cap.{Mapping, Narrowed}
use Rattle.cap_own.specs.Interval.{Interval, Cover}
use Rattle.cap_elf.specs.DynView.{DynRecords, DynValue}
use Rattle.cap_elf.specs.IsRead.{IsRead}
use Rattle.cap_mem.specs.Tagged.{TaggedMemory}
use Rattle.cap_scope.specs.Chosen.{object_at, no_records}
use Rattle.cap_session.specs.Binding.{HasOwned, StaysBelow}
use Rattle.cap_session.specs.Mappings.{IsMappingOf, IsMemoryOf, spans_of}
use Rattle.cap_session.specs.Roster.{RosterValue, IsRoster, IsClosed, Extends, cut_to, pad_start, records_in}
use Rattle.cap_session.proofs.Memories.{zip-length, memory_count}

abbrev pad_or : ℕ → List Interval → ℕ → ℕ
pad_or i pads next = elim (slice_get pads i) [ None ↦ next | Some pad ↦ pad.base ]

pad-start : (n from : ℕ) (pads : List Interval) (roots : List Mapping) (to next : ℕ) → length pads ≡ length roots → n ≤ length pads
    → Cover from (spans_of (take n pads) (take n roots)) to → Cover from (spans_of pads roots) next → pad_or n pads next ≡ to
pad-start zero from [] roots to next e h a b = sym b ∙ a
pad-start zero from (p ∷ pads) [] to next e h a b = absurd (omega arith)
pad-start zero from (p ∷ pads) (r ∷ roots) to next e h a b = b.0 ∙ a
pad-start (suc n) from [] roots to next e h a b = absurd (omega arith)
pad-start (suc n) from (p ∷ pads) [] to next e h a b = absurd (omega arith)
pad-start (suc n) from (p ∷ pads) (r ∷ roots) to next e h a b =
    let same : length pads ≡ length roots = omega arith in
    let less : n ≤ length pads = omega arith in
    pad-start n (r.base + r.len) pads roots to next same less a.1.1 b.1.1

root-count : (r : RosterValue) → IsRoster r → length r.roots ≡ length r.objects
root-count r h = sym (zip-length IsMappingOf (map (λ o. o.records) r.objects) r.roots h.mappings_are) ∙ length-map r.objects (λ o. o.records)

first_is : (n : ℕ) (old new : RosterValue) → n ≡ length old.objects → Extends old new → cut_to n new old.next ≡ old
first_is n old new e h = subst (λ (k : ℕ). cut_to k new old.next ≡ old) (sym e) h.first

pub cut_back : (n : ℕ) (old grown now : RosterValue) → n ≡ length old.objects → IsRoster old → IsRoster grown → Extends old grown → StaysBelow n grown now → cut_to n now (pad_start n now) ≡ old
cut_back n old grown now e h g ext stays =
    let first = first_is n old grown e ext in
    let covered = subst (λ (r : RosterValue). Cover 0x40000000 (spans_of r.pads r.roots) old.next) (sym first) h.covered in
    let even : length grown.pads ≡ length grown.roots = g.pad_count ∙ sym (root-count grown g) in
    let few : n ≤ length grown.pads = omega (arith, e, ext.count, g.pad_count) in
    let pad : pad_start n grown ≡ old.next = pad-start n 0x40000000 grown.pads grown.roots old.next grown.next even few covered g.covered in
    ap (λ (r : RosterValue). cut_to n r (pad_start n r)) stays.rest
    ∙ (ap (λ (ms : List TaggedMemory). record (cut_to n grown (pad_start n grown)) { memories = ms }) stays.first
    ∙ (ap (cut_to n grown) pad ∙ first))

abbrev made : List ℕ → List DynValue → List (List ℕ × Bool) → List (List ℕ) → List Interval → List Mapping → List TaggedMemory → List (List (List ℕ × Bool)) → ℕ → RosterValue
made dir objects names deps pads roots memories symbols next = record {
  dir = dir;
  objects = objects;
  names = names;
  deps = deps;
  pads = pads;
  roots = roots;
  memories = memories;
  symbols = symbols;
  next = next;
}

symbol-count : (r : RosterValue) → IsRoster r → length r.symbols ≡ length r.objects
symbol-count r h = ap (λ (of : List (List (List ℕ × Bool))). length of) h.symbols_are ∙ (length-map (records_in r) (λ o. _) ∙ length-map r.objects (λ o. o.records))

pub Extends-itself : (r : RosterValue) → IsRoster r → IsClosed r → Extends r r
Extends-itself r h closed =
    let n = length r.objects in
    let objects : take n r.objects ≡ r.objects = take_all n r.objects (let le : length r.objects ≤ n = omega arith in le) in
    let names : take n r.names ≡ r.names = take_all n r.names (let le : length r.names ≤ n = omega (arith, h.name_count) in le) in
    let deps : take n r.deps ≡ r.deps = take_all n r.deps (let le : length r.deps ≤ n = omega (arith, closed) in le) in
    let pads : take n r.pads ≡ r.pads = take_all n r.pads (let le : length r.pads ≤ n = omega (arith, h.pad_count) in le) in
    let roots : take n r.roots ≡ r.roots = take_all n r.roots (let le : length r.roots ≤ n = omega (arith, root-count r h) in le) in
    let memories : take n r.memories ≡ r.memories = take_all n r.memories (let le : length r.memories ≤ n = omega (arith, memory_count r h) in le) in
    let symbols : take n r.symbols ≡ r.symbols = take_all n r.symbols (let le : length r.symbols ≤ n = omega (arith, symbol-count r h) in le) in
    let whole : made r.dir (take n r.objects) (take n r.names) (take n r.deps) (take n r.pads) (take n r.roots) (take n r.memories) (take n r.symbols) r.next
    ≡ made r.dir r.objects r.names r.deps r.pads r.roots r.memories r.symbols r.next = cc in
    record { dir = refl; count = (let le : length r.objects ≤ length r.objects = omega arith in le); first = whole }

some-more : {X : Type 0} (n : ℕ) (xs : List X) (i : ℕ) (P : X → Type 0) → IsSomeAnd (slice_get (take n xs) i) P → IsSomeAnd (slice_get xs i) P
some-more zero xs i P h = absurd h
some-more (suc n) [] i P h = absurd h
some-more (suc n) (x ∷ xs) zero P h = h
some-more (suc n) (x ∷ xs) (suc i) P h = some-more n xs i P h

noted-more : (n : ℕ) (rs : List DynRecords) (i k : ℕ) → k < length (get_or (take n rs) i no_records).symbols → k < length (get_or rs i no_records).symbols
noted-more zero rs i k h = absurd (omega arith)
noted-more (suc n) [] i k h = absurd (omega arith)
noted-more (suc n) (r ∷ rs) zero k h = h
noted-more (suc n) (r ∷ rs) (suc i) k h = noted-more n rs i k h

-- the owners of a memory stay
pub owned-more : (n : ℕ) (old new : RosterValue) → take n new.roots ≡ old.roots → take n (records_in new) ≡ records_in old → (m : TaggedMemory) → HasOwned old m → HasOwned new m
owned-more n old new roots records m h = record {
  narrowed = λ k d lt.
      (let w = get_or m.words k d in
      some-more n new.roots w.cap.owner (λ root. Narrowed root w.cap) (subst (λ (rs : List Mapping). IsSomeAnd (slice_get rs w.cap.owner) (λ root. Narrowed root w.cap)) (sym roots) (h.narrowed k d lt)));
  noted = λ k d lt.
      (let w = get_or m.words k d in
      noted-more n (records_in new) w.cap.owner w.note (subst (λ (rs : List DynRecords). w.note < length (get_or rs w.cap.owner no_records).symbols) (sym records) (h.noted k d lt)));
}

all-whole : {X : Type 0} (P : X → Type 0) (n : ℕ) (xs front : List X) → take n xs ≡ front → All P front → All P (drop n xs) → All P xs
all-whole P n xs front e a b = subst (λ (ys : List _). All P ys) (take-append-drop n xs) (All-append P (take n xs) (drop n xs) (subst (λ (ys : List _). All P ys) (sym e) a) b)

same-roots : (n : ℕ) (old grown now : RosterValue) → n ≡ length old.objects → Extends old grown → StaysBelow n grown now → take n now.roots ≡ old.roots
same-roots n old grown now e ext stays = ap (λ (r : RosterValue). take n r.roots) stays.rest ∙ ap (λ (r : RosterValue). r.roots) (first_is n old grown e ext)

same-records : (n : ℕ) (old grown now : RosterValue) → n ≡ length old.objects → Extends old grown → StaysBelow n grown now → take n (records_in now) ≡ records_in old
same-records n old grown now e ext stays =
    ap (λ (r : RosterValue). take n (records_in r)) stays.rest ∙ (take-map (λ o. o.records) n grown.objects ∙ ap records_in (first_is n old grown e ext))

pub same-memories : (n : ℕ) (old grown now : RosterValue) → n ≡ length old.objects → Extends old grown → StaysBelow n grown now → take n now.memories ≡ old.memories
same-memories n old grown now e ext stays = stays.first ∙ ap (λ (r : RosterValue). r.memories) (first_is n old grown e ext)

pub owned-same : (old now : RosterValue) (ms : List TaggedMemory) → now ≡ record old { memories = ms } → (m : TaggedMemory) → HasOwned old m → HasOwned now m
owned-same old now ms e m h =
    let moved : HasOwned (record old { memories = ms }) m = record { narrowed = h.narrowed; noted = h.noted } in
    subst (λ (r : RosterValue). HasOwned r m) (sym e) moved

-- all memories have owners, where the old and the new ones have
pub all-owned : (n : ℕ) (old grown now : RosterValue) → n ≡ length old.objects → Extends old grown → StaysBelow n grown now
    → All (HasOwned old) old.memories → All (HasOwned grown) (drop n now.memories) → All (HasOwned now) now.memories
all-owned n old grown now e ext stays a b =
    all-whole (HasOwned now) n now.memories old.memories (same-memories n old grown now e ext stays)
    (All-weaker (HasOwned old) (HasOwned now) (owned-more n old now (same-roots n old grown now e ext stays) (same-records n old grown now e ext stays)) old.memories a)
    (All-weaker (HasOwned grown) (HasOwned now) (owned-same grown now now.memories stays.rest) (drop n now.memories) b)

pub all-read : (n : ℕ) (old grown now : RosterValue) → n ≡ length old.objects → Extends old grown → StaysBelow n grown now
    → All IsRead (records_in old) → All IsRead (drop n (records_in grown)) → All IsRead (records_in now)
all-read n old grown now e ext stays a b =
    all-whole IsRead n (records_in now) (records_in old) (same-records n old grown now e ext stays) a
    (subst (λ (rs : List DynRecords). All IsRead (drop n rs)) (sym (ap records_in stays.rest)) b)

-- without the new objects, all is as before but for the next free address
pub cut_memories : (n : ℕ) (old grown now : RosterValue) → n ≡ length old.objects → Extends old grown → StaysBelow n grown now → cut_to n now old.next ≡ old
cut_memories n old grown now e ext stays =
    ap (λ (r : RosterValue). cut_to n r old.next) stays.rest
    ∙ (ap (λ (ms : List TaggedMemory). record (cut_to n grown old.next) { memories = ms }) stays.first ∙ first_is n old grown e ext)

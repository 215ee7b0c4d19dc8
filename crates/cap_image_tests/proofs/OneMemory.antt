-- What makes one memory writable.
use Rattle.std.proofs.Common.{◌≡◌, ℕ, zero, suc, ◌+◌, ◌<◌, ◌≤◌, ◌%◌, ◌^◌, Bool, false, List, [], ◌∷◌, length, get_or, refl, ap, ◌∙◌, sym, subst, arith}
use Rattle.std.specs.Prelude.{All}
use Rattle.std.proofs.lemmas.List.{get_or_default}
use Rattle.std.proofs.lemmas.List.Elements.{All-nil, All-cons, All-same, All-weaker}
use Rattle.cap_own.specs.Cap.{Cap}
use Rattle.cap_mem.specs.Tagged.{TaggedMemory, TaggedWord, with_cap, fresh_memory, entered, without_granule}
use Rattle.cap_image.specs.Writing.{CanBeWritten, IsObjectName, IsWritable, AreShort, HasSymbol}

abbrev IsFirst : TaggedWord → Type 0
IsFirst w = (w.cap.owner ≡ 0) × (w.note ≡ 0)

-- a word that was stored into new memory
pub stored_alone : (n m : TaggedMemory) (at : ℕ) (cap : Cap) (note base len : ℕ) → n ≡ with_cap m at cap note → m ≡ fresh_memory base len → cap.owner ≡ 0 → note ≡ 0 → All (λ w. (w.cap.owner ≡ 0) × (w.note ≡ 0)) n.words
stored_alone n m at cap note base len new old owner first =
    let w : TaggedWord = record { granule = at; cap = cap; note = note } in
    let is : n.words ≡ w ∷ [] = ap (λ (x : TaggedMemory). x.words) new ∙ ap (λ (x : TaggedMemory). entered (without_granule at x.words) w) old in
    All-same IsFirst n.words (w ∷ []) is (All-cons IsFirst w [] (owner, first) (All-nil IsFirst))

all_one : {X : Type 0} (P : X → Type 0) (xs : List X) (x : X) → length xs ≡ 1 → P (get_or xs 0 x) → All P xs
all_one {X} P xs x one p = λ k d l. at k d l
  where
    at : (k : ℕ) (d : X) → k < length xs → P (get_or xs k d)
    at zero d l = subst P (get_or_default xs 0 x d (omega (arith, one))) p
    at (suc k) d l = absurd (omega (arith, l, one))

pub one_can : (names symbols : List (List ℕ × Bool)) (memory : TaggedMemory)
    → length names ≡ 1 → 0 < length (get_or names 0 ([], false)).0 → length (get_or names 0 ([], false)).0 ≤ 255
    → length symbols ≡ 1 → length (get_or symbols 0 ([], false)).0 ≤ 255
    → length memory.bytes % 4096 ≡ 0 → length memory.bytes < 2 ^ 36 → memory.base + length memory.bytes ≤ 2 ^ 64
    → All (λ w. (w.cap.owner ≡ 0) × (w.note ≡ 0)) memory.words
    → CanBeWritten names (symbols ∷ []) (memory ∷ [])
one_can names symbols memory named some short listed short_symbol pages size end words = record {
  few = omega arith;
  name_count = named;
  symbol_count = refl;
  object_names = all_one IsObjectName names ([], false) named (record { some = some; short = short });
  symbol_names = All-cons AreShort symbols [] (all_one (λ name. length name.0 ≤ 255) symbols ([], false) listed short_symbol) (All-nil AreShort);
  ascending = (omega arith, end);
  writable = All-cons (IsWritable (symbols ∷ [])) memory [] (record {
    pages = pages;
    size = size;
    words = All-weaker IsFirst (λ w. HasSymbol (symbols ∷ []) w.cap.owner w.note) (λ w h. has w h) memory.words words;
  }) (All-nil (IsWritable (symbols ∷ [])));
}
  where
    has : (w : TaggedWord) → IsFirst w → HasSymbol (symbols ∷ []) w.cap.owner w.note
    has w h = subst (λ owner. HasSymbol (symbols ∷ []) owner w.note) (sym h.0) (record { owner_is = omega arith; note_is = omega (arith, h.1, listed) })

pub written_one : (names symbols : List (List ℕ × Bool)) (memory : TaggedMemory) (lists : List (List (List ℕ × Bool))) (memories : List TaggedMemory) → lists ≡ symbols ∷ [] → memories ≡ memory ∷ [] → CanBeWritten names (symbols ∷ []) (memory ∷ []) → CanBeWritten names lists memories
written_one names symbols memory lists memories a b can = subst (λ l. CanBeWritten names l memories) (sym a) (subst (CanBeWritten names (symbols ∷ [])) (sym b) can)

-- The pieces of each class follow one another in the order of all pieces, and so do their addresses.
use Rattle.std.proofs.Common.{◌≡◌, ℕ, ◌+◌, ◌≤◌, ◌^◌, Bool, true, false, cond, List, [], ◌∷◌, ◌++◌, length, map, refl, sym, ap, ◌∙◌, subst, arith}
use Rattle.std.specs.Prelude.{filter, zip}
use Rattle.std.specs.List.{flat_map, AllByRecursion}
use Rattle.cap_elf.specs.declared.records.Class.{Class}
use Rattle.cap_elf.specs.Classes.{same_class}
use Rattle.cap_layout.specs.declared.piece.Piece.{Piece}
use Rattle.cap_layout.specs.Places.{address_after, end_after, addresses, ends, last_end, of_class}
use Rattle.cap_layout.specs.Parts.{array_start, array_end}
use Rattle.cap_readback.specs.Spread.{Chunk}
use Rattle.cap_readback.specs.Layout.{pieces_at}
use Rattle.cap_readback.specs.Layout.{last_end as filled_last_end, array_start as filled_array_start, array_end as filled_array_end}
use Rattle.cap_link.specs.Content.{piece_with, filled_of}

-- ---- addresses by class
abbrev pub next_end : Class → ℕ → Piece → ℕ
next_end class end p = cond (same_class p.class class) (end_after end p) end

-- the pieces of a class have the addresses of pieces that follow one another from `end` on
abbrev pub AreFollowing : Class → ℕ → List Piece → List ℕ → Type 0
AreFollowing class end [] at = Unit {0}
AreFollowing class end (p ∷ ps) [] = ⊥
AreFollowing class end (p ∷ ps) (a ∷ at) =
    (same_class p.class class ≡ true → a ≡ address_after end p) × AreFollowing class (next_end class end p) ps at

abbrev pub chunks_of : Class → List Piece → List ℕ → List (List ℕ) → List Chunk
chunks_of class ps at bs = map (λ p. p.1) (filter (λ p. same_class p.0.class class) (zip ps (zip at bs)))

one-chunk : (b : Bool) (end a : ℕ) (p : Piece) (bytes : List ℕ) (xs : List (Piece × (ℕ × List ℕ))) (ys : List (Piece × List ℕ))
    → (b ≡ true → a ≡ address_after end p)
    → map (λ x. x.1) xs ≡ pieces_at (cond b (end_after end p) end) (map piece_with ys)
    → map (λ x. x.1) (cond b ((p, (a, bytes)) ∷ xs) xs) ≡ pieces_at end (map piece_with (cond b ((p, bytes) ∷ ys) ys))
one-chunk true end a p bytes xs ys h rest =
    let e : a ≡ address_after end p = h refl in
    rw (e, rest) refl
one-chunk false end a p bytes xs ys h rest = rest

-- the pieces of a class with their addresses
pub chunks-are : (class : Class) (end : ℕ) (ps : List Piece) (at : List ℕ) (bs : List (List ℕ)) → AreFollowing class end ps at → chunks_of class ps at bs ≡ pieces_at end (filled_of class ps bs)
chunks-are class end [] at bs h = refl
chunks-are class end (p ∷ ps) [] bs h = absurd h
chunks-are class end (p ∷ ps) (a ∷ at) [] h = refl
chunks-are class end (p ∷ ps) (a ∷ at) (b ∷ bs) h =
    one-chunk (same_class p.class class) end a p b
    (filter (λ (q : Piece × (ℕ × List ℕ)). same_class q.0.class class) (zip ps (zip at bs)))
    (filter (λ (q : Piece × List ℕ). same_class q.0.class class) (zip ps bs))
    h.0 (chunks-are class (next_end class end p) ps at bs h.1)

-- ---- segments of pieces of one class each
pub record Segment : Type 0 where
  pub class : Class
  pub end : ℕ
  pub pieces : List Piece

abbrev pub AreOf : Class → List Piece → Type 0
AreOf class ps = AllByRecursion (λ p. p.class ≡ class) ps

abbrev pub IsSegment : Segment → Type 0
IsSegment s = AreOf s.class s.pieces

abbrev pub joined : List Segment → List Piece
joined ss = flat_map (λ s. s.pieces) ss

abbrev pub joined_addresses : List Segment → List ℕ
joined_addresses ss = flat_map (λ s. addresses s.end s.pieces) ss

abbrev pub IsOther : Class → Segment → Type 0
IsOther class s = same_class s.class class ≡ false

follow-skip : (class : Class) (end from : ℕ) (home : Class) (xs ys : List Piece) (bs : List ℕ) → AreOf home xs → same_class home class ≡ false → AreFollowing class end ys bs → AreFollowing class end (xs ++ ys) (addresses from xs ++ bs)
follow-skip class end from home [] ys bs h e rest = rest
follow-skip class end from home (x ∷ xs) ys bs h e rest =
    let other : same_class x.class class ≡ false = ap (λ k. same_class k class) h.0 ∙ e in
    let same : end ≡ next_end class end x = sym (ap (λ b. cond b (end_after end x) end) other) in (
      (λ yes. absurd (cc)),
      subst (λ k. AreFollowing class k (xs ++ ys) (addresses (end_after from x) xs ++ bs)) same (follow-skip class end (end_after from x) home xs ys bs h.1 e rest),
    )

follow-here : (class : Class) (end : ℕ) (home : Class) (xs ys : List Piece) (bs : List ℕ) → AreOf home xs → same_class home class ≡ true → ((k : ℕ) → AreFollowing class k ys bs) → AreFollowing class end (xs ++ ys) (addresses end xs ++ bs)
follow-here class end home [] ys bs h e rest = rest end
follow-here class end home (x ∷ xs) ys bs h e rest =
    let here : same_class x.class class ≡ true = ap (λ k. same_class k class) h.0 ∙ e in
    let same : end_after end x ≡ next_end class end x = sym (ap (λ b. cond b (end_after end x) end) here) in (
      (λ _. refl),
      subst (λ k. AreFollowing class k (xs ++ ys) (addresses (end_after end x) xs ++ bs)) same (follow-here class (end_after end x) home xs ys bs h.1 e rest),
    )

follow-none : (class : Class) (end : ℕ) (ss : List Segment) → AllByRecursion IsSegment ss → AllByRecursion (IsOther class) ss → AreFollowing class end (joined ss) (joined_addresses ss)
follow-none class end [] h o = tt
follow-none class end (s ∷ ss) h o = follow-skip class end s.end s.class s.pieces (joined ss) (joined_addresses ss) h.0 o.0 (follow-none class end ss h.1 o.1)

-- where one segment alone has the class, its addresses follow one another
pub follow-joined : (class : Class) (before : List Segment) (s : Segment) (after : List Segment) → AllByRecursion IsSegment (before ++ s ∷ after)
    → same_class s.class class ≡ true → AllByRecursion (IsOther class) before → AllByRecursion (IsOther class) after
    → AreFollowing class s.end (joined (before ++ s ∷ after)) (joined_addresses (before ++ s ∷ after))
follow-joined class [] s after h e b a = follow-here class s.end s.class s.pieces (joined after) (joined_addresses after) h.0 e (λ k. follow-none class k after h.1 a)
follow-joined class (t ∷ before) s after h e b a =
    follow-skip class s.end t.end t.class t.pieces (joined (before ++ s ∷ after)) (joined_addresses (before ++ s ∷ after)) h.0 b.0 (follow-joined class before s after h.1 e b.1 a)

-- the pieces of a class
abbrev pub picked : Class → List Segment → List Piece
picked class ss = flat_map (λ s. cond (same_class s.class class) s.pieces []) ss

class-one : (b : Bool) (x : Piece) (zs xs ys : List Piece) → zs ≡ xs ++ ys → cond b (x ∷ zs) zs ≡ cond b (x ∷ xs) xs ++ ys
class-one true x zs xs ys e = ap (λ (r : List Piece). x ∷ r) e
class-one false x zs xs ys e = e

class-append : (class : Class) (xs ys : List Piece) → of_class class (xs ++ ys) ≡ of_class class xs ++ of_class class ys
class-append class [] ys = refl
class-append class (x ∷ xs) ys = class-one (same_class x.class class) x (of_class class (xs ++ ys)) (of_class class xs) (of_class class ys) (class-append class xs ys)

class-all : (class home : Class) (b : Bool) (xs : List Piece) → AreOf home xs → same_class home class ≡ b → of_class class xs ≡ cond b xs []
class-all class home true [] h e = refl
class-all class home false [] h e = refl
class-all class home true (x ∷ xs) h e =
    let here : same_class x.class class ≡ true = ap (λ k. same_class k class) h.0 ∙ e in
    ap (λ b. cond b (x ∷ of_class class xs) (of_class class xs)) here ∙ ap (λ (r : List Piece). x ∷ r) (class-all class home true xs h.1 e)
class-all class home false (x ∷ xs) h e =
    let here : same_class x.class class ≡ false = ap (λ k. same_class k class) h.0 ∙ e in
    ap (λ b. cond b (x ∷ of_class class xs) (of_class class xs)) here ∙ class-all class home false xs h.1 e

pub class-picked : (class : Class) (ss : List Segment) → AllByRecursion IsSegment ss → of_class class (joined ss) ≡ picked class ss
class-picked class [] h = refl
class-picked class (s ∷ ss) h =
    class-append class s.pieces (joined ss) ∙ ap (λ (r : List Piece). r ++ of_class class (joined ss)) (class-all class s.class (same_class s.class class) s.pieces h.0 refl)
    ∙ ap (λ (r : List Piece). cond (same_class s.class class) s.pieces [] ++ r) (class-picked class ss h.1)

-- ---- ends, with and without bytes
one-end : (b : Bool) (end : ℕ) (p : Piece) (bytes : List ℕ) (xs : List Piece) (ys : List (Piece × List ℕ))
    → ((k : ℕ) → last_end k xs ≡ filled_last_end k (map piece_with ys))
    → last_end end (cond b (p ∷ xs) xs) ≡ filled_last_end end (map piece_with (cond b ((p, bytes) ∷ ys) ys))
one-end true end p bytes xs ys rest = rest (end_after end p)
one-end false end p bytes xs ys rest = rest end

pub last-end-is : (class : Class) (end : ℕ) (ps : List Piece) (bs : List (List ℕ)) → length bs ≡ length ps → last_end end (of_class class ps) ≡ filled_last_end end (filled_of class ps bs)
last-end-is class end [] bs h = refl
last-end-is class end (p ∷ ps) [] h = let bad : ⊥ = omega (arith, h) in absurd bad
last-end-is class end (p ∷ ps) (b ∷ bs) h =
    let short : length bs ≡ length ps = omega (arith, h) in
    one-end (same_class p.class class) end p b (of_class class ps) (filter (λ (q : Piece × List ℕ). same_class q.0.class class) (zip ps bs)) (λ k. last-end-is class k ps bs short)

one-start : (b : Bool) (end : ℕ) (p : Piece) (bytes : List ℕ) (xs : List Piece) (ys : List (Piece × List ℕ))
    → array_start end xs ≡ filled_array_start end (map piece_with ys)
    → array_start end (cond b (p ∷ xs) xs) ≡ filled_array_start end (map piece_with (cond b ((p, bytes) ∷ ys) ys))
one-start true end p bytes xs ys rest = refl
one-start false end p bytes xs ys rest = rest

pub array-start-is : (class : Class) (end : ℕ) (ps : List Piece) (bs : List (List ℕ)) → length bs ≡ length ps → array_start end (of_class class ps) ≡ filled_array_start end (filled_of class ps bs)
array-start-is class end [] bs h = refl
array-start-is class end (p ∷ ps) [] h = let bad : ⊥ = omega (arith, h) in absurd bad
array-start-is class end (p ∷ ps) (b ∷ bs) h =
    let short : length bs ≡ length ps = omega (arith, h) in
    one-start (same_class p.class class) end p b (of_class class ps) (filter (λ (q : Piece × List ℕ). same_class q.0.class class) (zip ps bs)) (array-start-is class end ps bs short)

pub array-end-is : (class : Class) (end : ℕ) (ps : List Piece) (bs : List (List ℕ)) → length bs ≡ length ps → array_end end (of_class class ps) ≡ filled_array_end end (filled_of class ps bs)
array-end-is class end ps bs h =
    last-end-is class (array_start end (of_class class ps)) ps bs h ∙ ap (λ k. filled_last_end k (filled_of class ps bs)) (array-start-is class end ps bs h)

-- ---- low ends
abbrev pub IsLow : ℕ → Type 0
IsLow end = end ≤ 2 ^ 26

pub low-last : (end : ℕ) (ps : List Piece) → IsLow end → AllByRecursion IsLow (ends end ps) → IsLow (last_end end ps)
low-last end [] h all = h
low-last end (p ∷ ps) h all = low-last (end_after end p) ps all.0 all.1

-- each piece ends low
abbrev pub AreLow : List Piece → List ℕ → Type 0
AreLow [] [] = Unit {0}
AreLow [] (a ∷ at) = ⊥
AreLow (p ∷ ps) [] = ⊥
AreLow (p ∷ ps) (a ∷ at) = (a + p.padded ≤ 2 ^ 26) × AreLow ps at

pub low-append : (end : ℕ) (xs ys : List Piece) (bs : List ℕ) → AllByRecursion IsLow (ends end xs) → AreLow ys bs → AreLow (xs ++ ys) (addresses end xs ++ bs)
low-append end [] ys bs h rest = rest
low-append end (x ∷ xs) ys bs h rest = (h.0, low-append (end_after end x) xs ys bs h.1 rest)

abbrev pub EndsLow : Segment → Type 0
EndsLow s = AllByRecursion IsLow (ends s.end s.pieces)

pub low-joined : (ss : List Segment) → AllByRecursion EndsLow ss → AreLow (joined ss) (joined_addresses ss)
low-joined [] h = tt
low-joined (s ∷ ss) h = low-append s.end s.pieces (joined ss) (joined_addresses ss) h.0 (low-joined ss h.1)

pub all-front : {X : Type 0} (P : X → Type 0) (xs ys : List X) → AllByRecursion P (xs ++ ys) → AllByRecursion P xs
all-front P [] ys h = tt
all-front P (x ∷ xs) ys h = (h.0, all-front P xs ys h.1)

pub all-back : {X : Type 0} (P : X → Type 0) (xs ys : List X) → AllByRecursion P (xs ++ ys) → AllByRecursion P ys
all-back P [] ys h = h
all-back P (x ∷ xs) ys h = all-back P xs ys h.1

pub all-both : {X : Type 0} (P : X → Type 0) (xs ys : List X) → AllByRecursion P xs → AllByRecursion P ys → AllByRecursion P (xs ++ ys)
all-both P [] ys h g = g
all-both P (x ∷ xs) ys h g = (h.0, all-both P xs ys h.1 g)

-- Chunks that fit between two addresses.
use Rattle.std.proofs.Common.{◌≡◌, ℕ, suc, ◌+◌, ◌≤◌, ◌<◌, Bool, true, false, cond, List, [], ◌∷◌, ◌++◌, map, filter, length, get_or, drop, refl, sym, ap, ◌∙◌, subst, arith, length-append}
use Rattle.std.specs.List.{flat_map, zip}
use Rattle.std.proofs.Math.ListN.{get_or-append}
use Rattle.std.proofs.lemmas.List.{get_or-drop, get_or-append-add}
use Rattle.std.specs.Int.{next_multiple_of}
use Rattle.cap_elf.specs.declared.records.Class.{Class}
use Rattle.cap_elf.specs.declared.records.Class.TheVariants.{Ro, Code, Init, Fini, Relro, Data, Bss, Dropped}
use Rattle.cap_elf.specs.Classes.{same_class}
use Rattle.cap_layout.specs.declared.piece.Piece.{Piece}
use Rattle.cap_layout.specs.Pieces.{no_piece, class_order}
use Rattle.cap_layout.specs.Places.{address_after, end_after, addresses, last_end, of_class}
use Rattle.cap_emit.specs.Spread.{Chunk, AreApart, spread_end}

-- chunks that are apart, from one address on and up to another
pub record Fits (at : ℕ) (cs : List Chunk) (end : ℕ) : Type 0 where
  pub apart : AreApart at cs
  pub ends : spread_end at cs ≤ end

apart_lower : (low high : ℕ) (cs : List Chunk) → low ≤ high → AreApart high cs → AreApart low cs
apart_lower low high [] le h = tt
apart_lower low high (c ∷ cs) le h = (omega (arith, le, h.0), h.1)

end_lower : (low high end : ℕ) (cs : List Chunk) → low ≤ high → spread_end high cs ≤ end → spread_end low cs ≤ end
end_lower low high end [] le h = omega (arith, le, h)
end_lower low high end (c ∷ cs) le h = h

pub fits_lower : (low high end : ℕ) (cs : List Chunk) → low ≤ high → Fits high cs end → Fits low cs end
fits_lower low high end cs le h = record { apart = apart_lower low high cs le h.apart; ends = end_lower low high end cs le h.ends }

pub fits_none : (at end : ℕ) → at ≤ end → Fits at [] end
fits_none at end le = record { apart = tt; ends = le }

pub fits_more : (at middle end : ℕ) (c : Chunk) (cs : List Chunk) → at ≤ c.0 → c.0 + length c.1 ≤ middle → Fits middle cs end → Fits at (c ∷ cs) end
fits_more at middle end c cs le size h =
    let rest = fits_lower (c.0 + length c.1) middle end cs size h in
    record { apart = (le, rest.apart); ends = rest.ends }

pub fits_append : (at middle end : ℕ) (cs ds : List Chunk) → Fits at cs middle → Fits middle ds end → Fits at (cs ++ ds) end
fits_append at middle end [] ds a b = fits_lower at middle end ds a.ends b
fits_append at middle end (c ∷ cs) ds a b =
    let rest = fits_append (c.0 + length c.1) middle end cs ds (record { apart = a.apart.1; ends = a.ends }) b in
    record { apart = (a.apart.0, rest.apart); ends = rest.ends }

-- ---- pieces
pub next_above : (x y : ℕ) → x ≤ next_multiple_of x y
next_above x y = omega arith

pub length_addresses : (end : ℕ) (ps : List Piece) → length (addresses end ps) ≡ length ps
length_addresses end [] = refl
length_addresses end (p ∷ ps) = ap suc (length_addresses (end_after end p) ps)

-- the bytes of pieces are no longer than their places
unfoldable pub AreShort : List Piece → List (List ℕ) → Type 0
AreShort ps bs = (k : ℕ) → k < length ps → length (get_or bs k []) ≤ (get_or ps k no_piece).padded

last_end_above : (end : ℕ) (ps : List Piece) → end ≤ last_end end ps
last_end_above end [] = omega arith
last_end_above end (p ∷ ps) = let rest = last_end_above (end_after end p) ps in omega (arith, rest, next_above end p.align)

pub pieces_fit : (end : ℕ) (ps : List Piece) (bs : List (List ℕ)) → AreShort ps bs → Fits end (zip (addresses end ps) bs) (last_end end ps)
unfolding AreShort
pieces_fit end [] bs h = fits_none end end (omega arith)
pieces_fit end (p ∷ ps) [] h = fits_none end (last_end end (p ∷ ps)) (last_end_above end (p ∷ ps))
pieces_fit end (p ∷ ps) (b ∷ bs) h =
    let first : length b ≤ p.padded = h 0 (omega arith) in
    let rest = pieces_fit (end_after end p) ps bs (λ k lt. h (suc k) (omega (arith, lt))) in
    fits_more end (end_after end p) (last_end (end_after end p) ps) (address_after end p, b) (zip (addresses (end_after end p) ps) bs) (next_above end p.align) (omega (arith, first)) rest

-- ---- the pieces of a class among all
-- the pieces stand class after class, in the order of the file
abbrev pub AreByClass : List Piece → Type 0
AreByClass pieces = pieces ≡ flat_map (λ class. of_class class pieces) class_order

-- a class, and where its pieces begin
abbrev pub Group : Type 0
Group = Class × ℕ

abbrev pub group_pieces : List Piece → List Group → List Piece
group_pieces all [] = []
group_pieces all (g ∷ gs) = of_class g.0 all ++ group_pieces all gs

abbrev pub group_addresses : List Piece → List Group → List ℕ
group_addresses all [] = []
group_addresses all (g ∷ gs) = addresses g.1 (of_class g.0 all) ++ group_addresses all gs

abbrev pub selected : Class → List (Piece × Chunk) → List Chunk
selected class ws = map (λ p. p.1) (filter (λ p. same_class p.0.class class) ws)

abbrev pub Differ : Class → List Group → Type 0
Differ class [] = Unit {0}
Differ class (g ∷ gs) = (same_class g.0 class ≡ false) × Differ class gs

-- pieces that are all of a class
abbrev pub Alike : Class → List Piece → Type 0
Alike class [] = Unit {0}
Alike class (p ∷ ps) = (p.class ≡ class) × Alike class ps

pub same_is : (a b : Class) → same_class a b ≡ true → a ≡ b
same_is Ro Ro h = refl
same_is Code Code h = refl
same_is Init Init h = refl
same_is Fini Fini h = refl
same_is Relro Relro h = refl
same_is Data Data h = refl
same_is Bss Bss h = refl
same_is Dropped Dropped h = refl
same_is _ _ h = absurd cc

alike_more : (class : Class) (p : Piece) (rest : List Piece) (b : Bool) → same_class p.class class ≡ b → Alike class rest → Alike class (cond b (p ∷ rest) rest)
alike_more class p rest true e h = (same_is p.class class e, h)
alike_more class p rest false e h = h

alike : (class : Class) (all : List Piece) → Alike class (of_class class all)
alike class [] = tt
alike class (p ∷ ps) = alike_more class p (of_class class ps) (same_class p.class class) refl (alike class ps)

abbrev no_items : (Y : Type 0) → List Y
no_items Y = []

zip_nil : {X Y : Type 0} (xs : List X) → zip xs (no_items Y) ≡ []
zip_nil [] = refl
zip_nil (x ∷ xs) = refl

-- pieces of another class aren't selected
skip_first : (class : Class) (p : Piece) (c : Chunk) (ws : List (Piece × Chunk)) → same_class p.class class ≡ false → selected class ((p, c) ∷ ws) ≡ selected class ws
skip_first class p c ws e = ap (λ b. map (λ q. q.1) (cond b ((p, c) ∷ filter (λ q. same_class q.0.class class) ws) (filter (λ q. same_class q.0.class class) ws))) e

take_first : (class : Class) (p : Piece) (c : Chunk) (ws : List (Piece × Chunk)) → same_class p.class class ≡ true → selected class ((p, c) ∷ ws) ≡ c ∷ selected class ws
take_first class p c ws e = ap (λ b. map (λ q. q.1) (cond b ((p, c) ∷ filter (λ q. same_class q.0.class class) ws) (filter (λ q. same_class q.0.class class) ws))) e

skip : (class other : Class) → same_class other class ≡ false → (g rest : List Piece) (a arest : List ℕ) (bs : List (List ℕ)) → Alike other g → length a ≡ length g →
    selected class (zip (g ++ rest) (zip (a ++ arest) bs)) ≡ selected class (zip rest (zip arest (drop (length g) bs)))
skip class other e [] rest [] arest bs h l = refl
skip class other e [] rest (x ∷ a) arest bs h l = absurd (omega (arith, l))
skip class other e (p ∷ g) rest [] arest bs h l = absurd (omega (arith, l))
skip class other e (p ∷ g) rest (x ∷ a) arest [] h l =
    let none : zip rest (zip arest (drop (length (p ∷ g)) [])) ≡ [] = ap (zip rest) (zip_nil arest) ∙ zip_nil rest in
    ap (selected class) (sym none)
skip class other e (p ∷ g) rest (x ∷ a) arest (b ∷ bs) h l =
    skip_first class p (x, b) (zip (g ++ rest) (zip (a ++ arest) bs)) (ap (λ c. same_class c class) h.0 ∙ e)
    ∙ skip class other e g rest a arest bs h.1 (omega (arith, l))

none_in : (class other : Class) → same_class other class ≡ false → (g rest : List Piece) (ws : List Chunk) → Alike other g → ((vs : List Chunk) → selected class (zip rest vs) ≡ []) → selected class (zip (g ++ rest) ws) ≡ []
none_in class other e [] rest ws h r = r ws
none_in class other e (p ∷ g) rest [] h r = refl
none_in class other e (p ∷ g) rest (w ∷ ws) h r =
    skip_first class p w (zip (g ++ rest) ws) (ap (λ c. same_class c class) h.0 ∙ e) ∙ none_in class other e g rest ws h.1 r

none_of : (class : Class) (all : List Piece) (gs : List Group) → Differ class gs → (ws : List Chunk) → selected class (zip (group_pieces all gs) ws) ≡ []
none_of class all [] h ws = refl
none_of class all (g ∷ gs) h ws = none_in class g.0 h.0 (of_class g.0 all) (group_pieces all gs) ws (alike g.0 all) (none_of class all gs h.1)

own : (class : Class) → same_class class class ≡ true → (g rest : List Piece) (a arest : List ℕ) (bs : List (List ℕ)) → Alike class g → length a ≡ length g → ((vs : List Chunk) → selected class (zip rest vs) ≡ []) →
    selected class (zip (g ++ rest) (zip (a ++ arest) bs)) ≡ zip a bs
own class e [] rest [] arest bs h l r = r (zip arest bs)
own class e [] rest (x ∷ a) arest bs h l r = absurd (omega (arith, l))
own class e (p ∷ g) rest [] arest bs h l r = absurd (omega (arith, l))
own class e (p ∷ g) rest (x ∷ a) arest [] h l r = refl
own class e (p ∷ g) rest (x ∷ a) arest (b ∷ bs) h l r =
    take_first class p (x, b) (zip (g ++ rest) (zip (a ++ arest) bs)) (ap (λ c. same_class c class) h.0 ∙ e)
    ∙ ap (λ cs. (x, b) ∷ cs) (own class e g rest a arest bs h.1 (omega (arith, l)) r)

short_front : (g rest : List Piece) (bs : List (List ℕ)) → AreShort (g ++ rest) bs → AreShort g bs
unfolding AreShort
short_front g rest bs h = λ k lt. subst (λ p. length (get_or bs k []) ≤ p.padded) (get_or-append g rest no_piece k lt) (h k (omega (arith, lt, length-append g rest)))

short_back : (g rest : List Piece) (bs : List (List ℕ)) → AreShort (g ++ rest) bs → AreShort rest (drop (length g) bs)
unfolding AreShort
short_back g rest bs h =
    λ k lt. subst (λ b. length b ≤ (get_or rest k no_piece).padded) (sym (get_or-drop (length g) bs k [])) (subst (λ p. length (get_or bs (length g + k) []) ≤ p.padded) (get_or-append-add g rest k no_piece) (h (length g + k) (omega (arith, lt, length-append g rest))))

-- the pieces of one class among those of all, each at its address
pub class_fits : (class : Class) (start : ℕ) (all : List Piece) (front back : List Group) (bs : List (List ℕ)) → same_class class class ≡ true → Differ class front → Differ class back → AreShort (group_pieces all (front ++ (class, start) ∷ back)) bs →
    Fits start (selected class (zip (group_pieces all (front ++ (class, start) ∷ back)) (zip (group_addresses all (front ++ (class, start) ∷ back)) bs))) (last_end start (of_class class all))
class_fits class start all [] back bs e f b h =
    let ps = of_class class all in
    let rest = group_pieces all back in
    let same = own class e ps rest (addresses start ps) (group_addresses all back) bs (alike class all) (length_addresses start ps) (none_of class all back b) in
    subst (λ cs. Fits start cs (last_end start ps)) (sym same) (pieces_fit start ps bs (short_front ps rest bs h))
class_fits class start all (g ∷ front) back bs e f b h =
    let ps = of_class g.0 all in
    let behind = front ++ (class, start) ∷ back in
    let rest = group_pieces all behind in
    let same = skip class g.0 f.0 ps rest (addresses g.1 ps) (group_addresses all behind) bs (alike g.0 all) (length_addresses g.1 ps) in
    subst (λ cs. Fits start cs (last_end start (of_class class all))) (sym same) (class_fits class start all front back (drop (length ps) bs) e f.1 b (short_back ps rest bs h))

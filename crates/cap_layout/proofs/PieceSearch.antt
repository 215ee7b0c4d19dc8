-- One piece decides what an offset of a section finds among pieces in order.
use Rattle.std.proofs.Common.{◌≡◌, ◌⊎◌, ℕ, ◌+◌, ◌<◌, ◌≤◌, Bool, true, false, not, IsTrue, ◌&&◌, cond, ⊎_elim, inl, inr, List, length, get_or, take, refl, sym, ap, ◌∙◌, subst, arith}
use Rattle.std.proofs.lemmas.List.{get_or-take, get_or_default, length-take-le}
use Rattle.cap_elf.specs.declared.records.Class.TheVariants.{Ro}
use Rattle.std.specs.Prelude.{◌==◌, nat_lt, nat_le}
use Rattle.std.proofs.lemmas.Bool.{cases_lt, cases_eq, cond-true, cond-false, eq-eqb, ne_eqb, eqb-true, lt-ltb, ltb-true, leb-true, le-leb, and_parts, and_from, not-true, not_from_false, true≢false, false_from_ne_true}
use Rattle.cap_layout.specs.declared.piece.Piece.{Piece}
use Rattle.cap_elf.specs.declared.records.Class.{Class}
use Rattle.cap_layout.specs.Pieces.{piece_of, no_piece, is_of_section}
use Rattle.cap_layout.specs.PieceOrder.{rank, Before, class_at, is_up_to, AreOrdered, IsLastFrom, NoneFrom, begins_by}

-- by a first number, and then by what follows
abbrev Lex : ℕ → ℕ → Type 0 → Type 0
Lex a b P = (a < b) ⊎ ((a ≡ b) × P)

lex_weaker : (a b : ℕ) (P Q : Type 0) → (P → Q) → Lex a b P → Lex a b Q
lex_weaker a b P Q f (inl lt) = inl lt
lex_weaker a b P Q f (inr h) = inr (h.0, f h.1)

lex_trans : (a b c : ℕ) (P Q R : Type 0) → (P → Q → R) → Lex a b P → Lex b c Q → Lex a c R
lex_trans a b c P Q R f (inl h) (inl k) = inl (omega arith)
lex_trans a b c P Q R f (inl h) (inr k) = inl (omega (arith, k.0))
lex_trans a b c P Q R f (inr h) (inl k) = inl (omega (arith, h.0))
lex_trans a b c P Q R f (inr h) (inr k) = inr (h.0 ∙ k.0, f h.1 k.1)

-- what is between equals is equal
lex_same : (a b c : ℕ) (P Q : Type 0) → a ≡ c → Lex a b P → Lex b c Q → (b ≡ c) × P × Q
lex_same a b c P Q e (inl h) (inl k) = absurd (omega arith)
lex_same a b c P Q e (inl h) (inr k) = absurd (omega (arith, k.0))
lex_same a b c P Q e (inr h) (inl k) = absurd (omega (arith, h.0))
lex_same a b c P Q e (inr h) (inr k) = (k.0, h.1, k.1)

lex_true : (a b : ℕ) (inner : Bool) → cond (a == b) inner (nat_lt a b) ≡ true → Lex a b (inner ≡ true)
lex_true a b inner h =
    ⊎_elim
    (λ (e : a ≡ b). inr (e, sym (cond-true (a == b) inner (nat_lt a b) (eq-eqb a b e)) ∙ h))
    (λ (n : a ≡ b → ⊥). inl (ltb-true a b (sym (cond-false (a == b) inner (nat_lt a b) (ne_eqb a b n)) ∙ h)))
    (cases_eq a b)

lex_from : (a b : ℕ) (inner : Bool) → Lex a b (inner ≡ true) → cond (a == b) inner (nat_lt a b) ≡ true
lex_from a b inner (inl lt) = cond-false (a == b) inner (nat_lt a b) (ne_eqb a b (λ e. omega (arith, e, lt))) ∙ lt-ltb a b lt
lex_from a b inner (inr h) = cond-true (a == b) inner (nat_lt a b) (eq-eqb a b h.0) ∙ h.1

-- ---- the order in these terms
abbrev Ends : Piece → Piece → Type 0
Ends p q = (p.start + p.size ≤ q.start) × (p.start < q.start)

abbrev Ahead : Piece → Piece → Type 0
Ahead p q = Lex (rank p.class) (rank q.class) (Lex p.file q.file (Lex p.place q.place (Ends p q)))

abbrev UpTo : ℕ → ℕ → ℕ → ℕ → Piece → Type 0
UpTo order file section offset p = Lex (rank p.class) order (Lex p.file file (Lex p.place section (p.start ≤ offset)))

ahead : (p q : Piece) → Before p q → Ahead p q
ahead p q (inl h) = inl h
ahead p q (inr (e, inl h)) = inr (e, inl h)
ahead p q (inr (e, inr (f, inl h))) = inr (e, inr (f, inl h))
ahead p q (inr (e, inr (f, inr (g, h, k)))) = inr (e, inr (f, inr (g, (h, k))))

up_to : (order file section offset : ℕ) (p : Piece) → is_up_to order file section offset p ≡ true → UpTo order file section offset p
up_to order file section offset p h =
    lex_weaker (rank p.class) order _ _ (λ k. lex_weaker p.file file _ _ (λ m. lex_weaker p.place section _ _ (λ n. leb-true p.start offset n) (lex_true p.place section (nat_le p.start offset) m)) (lex_true p.file file (cond (p.place == section) (nat_le p.start offset) (nat_lt p.place section)) k))
    (lex_true (rank p.class) order (cond (p.file == file) (cond (p.place == section) (nat_le p.start offset) (nat_lt p.place section)) (nat_lt p.file file)) h)

is_true : (order file section offset : ℕ) (p : Piece) → UpTo order file section offset p → is_up_to order file section offset p ≡ true
is_true order file section offset p h =
    lex_from (rank p.class) order _ (lex_weaker (rank p.class) order _ _ (λ k. lex_from p.file file _ (lex_weaker p.file file _ _ (λ m. lex_from p.place section _ (lex_weaker p.place section _ _ (λ n. le-leb p.start offset n) m)) k)) h)

low : (a b c d : ℕ) → (a + b ≤ c) × (a < c) → c ≤ d → a ≤ d
low a b c d h k = omega (arith, h.1)

behind_up : (order file section offset : ℕ) (p q : Piece) → Before p q → UpTo order file section offset q → UpTo order file section offset p
behind_up order file section offset p q h k =
    lex_trans (rank p.class) (rank q.class) order _ _ _ (lex_trans p.file q.file file _ _ _ (lex_trans p.place q.place section _ _ _ (low p.start p.size q.start offset))) (ahead p q h) k

-- before a piece that begins at the offset or stands before it, all do
pub up_to_back : (order file section offset : ℕ) (p q : Piece) → Before p q → is_up_to order file section offset q ≡ true → is_up_to order file section offset p ≡ true
up_to_back order file section offset p q h k = is_true order file section offset p (behind_up order file section offset p q h (up_to order file section offset q k))

-- a piece between one of the section and the offset is of the section too
pub record IsSameAs (file section offset : ℕ) (p q : Piece) : Type 0 where
  pub file_is : q.file ≡ file
  pub place_is : q.place ≡ section
  pub ends : p.start + p.size ≤ q.start

same_as : (order file section offset : ℕ) (p q : Piece) → rank p.class ≡ order → p.file ≡ file → p.place ≡ section → Before p q → UpTo order file section offset q → IsSameAs file section offset p q
same_as order file section offset p q r f s h k =
    let one = lex_same (rank p.class) (rank q.class) order _ _ r (ahead p q h) k in
    let two = lex_same p.file q.file file _ _ f one.1 one.2 in
    let three = lex_same p.place q.place section _ _ s two.1 two.2 in
    record { file_is = two.0; place_is = three.0; ends = three.1.0 }

-- ---- the pieces of a section
pub parts_of : (file section : ℕ) (p : Piece) → is_of_section file section p ≡ true → (p.common ≡ false) × (p.file ≡ file) × (p.place ≡ section)
parts_of file section p h =
    let one = and_parts (not p.common && (p.file == file)) (p.place == section) h in
    let two = and_parts (not p.common) (p.file == file) one.0 in
    (not-true p.common two.0, eqb-true p.file file two.1, eqb-true p.place section one.1)

pub of_section : (file section : ℕ) (p : Piece) → p.common ≡ false → p.file ≡ file → p.place ≡ section → is_of_section file section p ≡ true
of_section file section p c f s = and_from (not p.common && (p.file == file)) (p.place == section) (and_from (not p.common) (p.file == file) (not_from_false p.common c) (eq-eqb p.file file f)) (eq-eqb p.place section s)

module _ (all : List Piece) (sections : ℕ) (classes : List (List Class)) (ordered : AreOrdered all sections classes) (order file section offset count : ℕ) (own : order ≡ rank (class_at classes file section)) (few : count ≤ sections) (below : (k : ℕ) → k < count → is_up_to order file section offset (piece_of all k) ≡ true) (above : (k : ℕ) → count ≤ k → k < sections → is_up_to order file section offset (piece_of all k) ≡ false) where
  -- a piece of the section stands among those of sections, and is of the section's class
  known : (k : ℕ) → k < length all → is_of_section file section (piece_of all k) ≡ true → (k < sections) × (rank (piece_of all k).class ≡ order) × ((piece_of all k).file ≡ file) × ((piece_of all k).place ≡ section)
  known k lt h =
      let parts = parts_of file section (piece_of all k) h in
      let inside : k < sections =
      ⊎_elim (λ (l : k < sections). l) (λ (le : sections ≤ k). absurd (true≢false (sym (ordered.back k le lt) ∙ parts.0))) (cases_lt k sections) in (
        inside,
        ap rank (ordered.classes_are k inside ∙ ap (λ n. class_at classes n (piece_of all k).place) parts.1 ∙ ap (λ n. class_at classes file n) parts.2) ∙ sym own,
        parts.1,
        parts.2,
      )

  -- one that begins at the offset or before it is among the first
  early : (k : ℕ) → k < length all → is_of_section file section (piece_of all k) ≡ true → (piece_of all k).start ≤ offset → k < count
  early k lt h le =
      let is = known k lt h in
      let yes : is_up_to order file section offset (piece_of all k) ≡ true = is_true order file section offset (piece_of all k) (inr (is.1, inr (is.2, inr (is.3, le)))) in
      ⊎_elim (λ (l : k < count). l) (λ (l : count ≤ k). absurd (true≢false (sym yes ∙ above k l is.0))) (cases_lt k count)

  late : (k : ℕ) → count ≤ k → k < length all → is_of_section file section (piece_of all k) ≡ true → offset < (piece_of all k).start
  late k le lt h =
      ⊎_elim (λ (l : offset < (piece_of all k).start). l) (λ (l : (piece_of all k).start ≤ offset). let e = early k lt h l in absurd (omega arith)) (cases_lt offset (piece_of all k).start)

  pub none_early : count ≡ 0 → NoneFrom all file section offset
  none_early none k lt h = late k (omega arith) lt h

  -- from the section's pieces on to the last of the first
  module _ (i : ℕ) (last : i + 1 ≡ count) where
    up : UpTo order file section offset (piece_of all i)
    up = up_to order file section offset (piece_of all i) (below i (omega arith))

    reached : (k : ℕ) → k < i → k < length all → is_of_section file section (piece_of all k) ≡ true → IsSameAs file section offset (piece_of all k) (piece_of all i)
    reached k lt inside h =
        let is = known k inside h in
        same_as order file section offset (piece_of all k) (piece_of all i) is.1 is.2 is.3 (ordered.ordered k i lt (omega arith)) up

    pub none_of : ((piece_of all i).file ≡ file → (piece_of all i).place ≡ section → ⊥) → NoneFrom all file section offset
    none_of other k lt h =
        ⊎_elim
        (λ (l : k < i). let same = reached k l lt h in absurd (other same.file_is same.place_is))
        (λ (l : i ≤ k). ⊎_elim
        (λ (m : i < k). late k (omega arith) lt h)
        (λ (m : k ≤ i).
        let at : k ≡ i = omega arith in
        let parts = parts_of file section (piece_of all k) h in
        absurd (other (ap (λ n. (piece_of all n).file) (sym at) ∙ parts.1) (ap (λ n. (piece_of all n).place) (sym at) ∙ parts.2)))
        (cases_lt i k))
        (cases_lt k i)

    pub last_of : (piece_of all i).file ≡ file → (piece_of all i).place ≡ section → IsLastFrom all file section offset i
    last_of f s =
        let inside : i < length all = omega (arith, ordered.few) in
        let here : is_of_section file section (piece_of all i) ≡ true = of_section file section (piece_of all i) (ordered.front i (omega arith)) f s in
        let is = known i inside here in
        let one = lex_same (rank (piece_of all i).class) (rank (piece_of all i).class) order (Unit {0}) _ is.1 (inr (refl, tt)) up in
        let two = lex_same (piece_of all i).file (piece_of all i).file file (Unit {0}) _ f (inr (refl, tt)) one.2 in
        let three = lex_same (piece_of all i).place (piece_of all i).place section (Unit {0}) _ s (inr (refl, tt)) two.2 in
        record {
          inside = inside;
          here = here;
          begins = three.2;
          behind = λ k lt bound h. late k (omega arith) bound h;
          before = λ k lt h. (reached k lt (omega arith) h).ends;
        }

-- ---- what holds of the first pieces holds of all
pub in_all : (Q : Piece → Type 0) (all : List Piece) (sections k : ℕ) → k < sections → Q (get_or (take sections all) k no_piece) → Q (piece_of all k)
in_all Q all sections k lt h = subst Q (get_or-take sections all k no_piece lt) h

-- what a read of a piece gives
abbrev pub blank : Piece
blank = record { file = 0; place = 0; common = false; class = Ro; start = 0; size = 0; align = 0; padded = 0 }

pub read_at : (all : List Piece) (sections k : ℕ) → sections ≤ length all → k < sections → get_or (take sections all) k blank ≡ piece_of all k
read_at all sections k le lt = get_or_default (take sections all) k blank no_piece (omega (arith, length-take-le sections all le)) ∙ get_or-take sections all k no_piece lt

-- ---- a guessed piece
pub record BeginsBy (sections file section offset i : ℕ) (p : Piece) : Type 0 where
  pub front : i < sections
  pub file_is : p.file ≡ file
  pub place_is : p.place ≡ section
  pub begins : p.start ≤ offset

begins_parts : (all : List Piece) (sections file section offset i : ℕ) → begins_by all sections file section offset i ≡ true → BeginsBy sections file section offset i (piece_of all i)
begins_parts all sections file section offset i h =
    let p = piece_of all i in
    let one = and_parts (nat_lt i sections && (p.file == file) && (p.place == section)) (nat_le p.start offset) h in
    let two = and_parts (nat_lt i sections && (p.file == file)) (p.place == section) one.0 in
    let three = and_parts (nat_lt i sections) (p.file == file) two.0 in
    record { front = ltb-true i sections three.0; file_is = eqb-true p.file file three.1; place_is = eqb-true p.place section two.1; begins = leb-true p.start offset one.1 }

begins_from : (all : List Piece) (sections file section offset i : ℕ) → BeginsBy sections file section offset i (piece_of all i) → begins_by all sections file section offset i ≡ true
begins_from all sections file section offset i h =
    let p = piece_of all i in
    and_from (nat_lt i sections && (p.file == file) && (p.place == section)) (nat_le p.start offset)
    (and_from (nat_lt i sections && (p.file == file)) (p.place == section)
    (and_from (nat_lt i sections) (p.file == file) (lt-ltb i sections h.front) (eq-eqb p.file file h.file_is)) (eq-eqb p.place section h.place_is))
    (le-leb p.start offset h.begins)

module _ (all : List Piece) (sections : ℕ) (classes : List (List Class)) (ordered : AreOrdered all sections classes) (file section offset : ℕ) where
  abbrev own_order : ℕ
  own_order = rank (class_at classes file section)

  ranked : (k : ℕ) → k < sections → (piece_of all k).file ≡ file → (piece_of all k).place ≡ section → rank (piece_of all k).class ≡ own_order
  ranked k lt f s =
      ap rank (ordered.classes_are k lt ∙ ap (λ n. class_at classes n (piece_of all k).place) f ∙ ap (λ n. class_at classes file n) s)

  module _ (i : ℕ) (here : BeginsBy sections file section offset i (piece_of all i)) where
    own : is_up_to own_order file section offset (piece_of all i) ≡ true
    own =
        is_true own_order file section offset (piece_of all i) (inr (ranked i here.front here.file_is here.place_is, inr (here.file_is, inr (here.place_is, here.begins))))

    back_from : (j k : ℕ) → j ≤ k → k < sections → is_up_to own_order file section offset (piece_of all k) ≡ true → is_up_to own_order file section offset (piece_of all j) ≡ true
    back_from j k le lt held =
        ⊎_elim
        (λ (l : j < k). up_to_back own_order file section offset (piece_of all j) (piece_of all k) (ordered.ordered j k l lt) held)
        (λ (l : k ≤ j). let same : k ≡ j = omega arith in subst (λ n. is_up_to own_order file section offset (piece_of all n) ≡ true) same held)
        (cases_lt j k)

    next_begins : i + 1 < sections → is_up_to own_order file section offset (piece_of all (i + 1)) ≡ true → BeginsBy sections file section offset (i + 1) (piece_of all (i + 1))
    next_begins lt held =
        let q = piece_of all (i + 1) in
        let up = up_to own_order file section offset q held in
        let same = same_as own_order file section offset (piece_of all i) q (ranked i here.front here.file_is here.place_is) here.file_is here.place_is (ordered.ordered i (i + 1) (omega arith) lt) up in
        let one = lex_same (rank q.class) (rank q.class) own_order (Unit {0}) _ (ranked (i + 1) lt same.file_is same.place_is) (inr (refl, tt)) up in
        let two = lex_same q.file q.file file (Unit {0}) _ same.file_is (inr (refl, tt)) one.2 in
        let three = lex_same q.place q.place section (Unit {0}) _ same.place_is (inr (refl, tt)) two.2 in
        record { front = lt; file_is = same.file_is; place_is = same.place_is; begins = three.2 }

    last_here : (BeginsBy sections file section offset (i + 1) (piece_of all (i + 1)) → ⊥) → IsLastFrom all file section offset i
    last_here next =
        let front = here.front in
        last_of all sections classes ordered own_order file section offset (i + 1) refl (omega arith)
        (λ k lt. back_from k i (omega arith) front own)
        (λ k le lt. false_from_ne_true (is_up_to own_order file section offset (piece_of all k)) (λ held. next (next_begins (omega arith) (back_from (i + 1) k le lt held))))
        i refl here.file_is here.place_is

-- a piece of the section that begins at the offset or before it is the last if the next is not such a one
pub guessed : (all : List Piece) (sections : ℕ) (classes : List (List Class)) → AreOrdered all sections classes → (file section offset i : ℕ) (here next : Bool) → here ≡ begins_by all sections file section offset i → here ≡ true → next ≡ begins_by all sections file section offset (i + 1) → IsTrue (not next) → IsLastFrom all file section offset i
guessed all sections classes ordered file section offset i here next first is second isnt =
    last_here all sections classes ordered file section offset i (begins_parts all sections file section offset i (sym first ∙ is))
    (λ h. true≢false (sym (begins_from all sections file section offset (i + 1) h) ∙ sym second ∙ not-true next isnt))

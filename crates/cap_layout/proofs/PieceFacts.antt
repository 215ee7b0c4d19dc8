-- What holds of the pieces of a section, and in what order they stand.
use Rattle.std.proofs.Common.{◌≡◌, ℕ, suc, ◌+◌, ◌-◌, ◌^◌, ◌<◌, ◌≤◌, Bool, true, false, cond, ⊎_elim, inr, List, [], ◌∷◌, length, get_or, map, refl, sym, subst, arith}
use Rattle.std.specs.Prelude.{◌==◌}
use Rattle.std.specs.List.{AllByRecursion}
use Rattle.std.proofs.lemmas.Bool.{cases_Bool, cond-true, cond-false}
use Rattle.cap_conc.specs.Computed.{representable_length, representable_alignment}
use Rattle.cap_elf.specs.declared.records.Section.{Section}
use Rattle.cap_elf.specs.Classes.{is_kept, is_split}
use Rattle.cap_elf.specs.RelObject.{RelObject, section_of, no_section}
use Rattle.cap_elf.specs.IsRelRead.{IsRelRead, IsSection}
use Rattle.cap_layout.specs.declared.piece.Piece.{Piece}
use Rattle.cap_layout.specs.Cuts.{marks, intervals}
use Rattle.cap_layout.specs.Marked.{AreMarksOf}
use Rattle.cap_layout.specs.IsPiece.{IsPiece}
use Rattle.cap_layout.specs.Pieces.{split_piece, whole_piece, section_pieces}
use Rattle.cap_layout.specs.PieceOrder.{Before}
use Rattle.cap_layout.proofs.MarkBounds.{are_marks}
use Rattle.cap_layout.proofs.PiecePairs.{pairs}
use Rattle.cap_layout.proofs.PieceLists.{Sorted}
use Rattle.cap_layout.proofs.PiecePowers.{max_right, split_power}

-- the piece is a part of this section
pub record IsCut (file place : ℕ) (sec : Section) (p : Piece) : Type 0 where
  pub file_is : p.file ≡ file
  pub place_is : p.place ≡ place
  pub common_not : p.common ≡ false
  pub class_is : p.class ≡ sec.class
  pub within : p.start + p.size ≤ sec.size
  pub piece : IsPiece p

split_is : (file place : ℕ) (sec : Section) (start end : ℕ) → IsSection sec → is_kept sec.class ≡ true → is_split sec.class ≡ true → start ≤ end → end ≤ sec.size → IsCut file place sec (split_piece file place sec (start, end))
split_is file place sec start end is kept split order high =
    let low : sec.size ≤ 2 ^ 62 = is.size_high kept in
    record {
      file_is = refl;
      place_is = refl;
      common_not = refl;
      class_is = refl;
      within = omega arith;
      piece = record {
        align_power = split_power sec.align start (end - start) is.align_power;
        size_high = omega arith;
        end_high = omega arith;
        kept = kept;
        padded = sym (cond-true (is_split sec.class) (representable_length (end - start)) (end - start) split);
        representable = λ _. max_right _ (representable_alignment (end - start));
      };
    }

whole_is : (file place : ℕ) (sec : Section) → IsSection sec → is_kept sec.class ≡ true → is_split sec.class ≡ false → IsCut file place sec (whole_piece file place sec)
whole_is file place sec is kept split =
    let low : sec.size ≤ 2 ^ 62 = is.size_high kept in
    record {
      file_is = refl;
      place_is = refl;
      common_not = refl;
      class_is = refl;
      within = omega arith;
      piece = record {
        align_power = is.align_power;
        size_high = low;
        end_high = omega arith;
        kept = kept;
        padded = sym (cond-false (is_split sec.class) (representable_length sec.size) sec.size split);
        representable = λ (yes : is_split sec.class ≡ true). absurd cc;
      };
    }

-- ---- the pieces between marks
-- the intervals between marks are the marks' neighbours, each below the next
abbrev Between : ℕ → ℕ × ℕ → Type 0
Between size p = (p.0 < p.1) × (p.1 ≤ size)

-- one interval ends where a later one begins, or before
abbrev Follows : ℕ × ℕ → ℕ × ℕ → Type 0
Follows p q = (p.1 ≤ q.0) × (p.0 < p.1)

tail_marks : (size m : ℕ) (ms : List ℕ) → AreMarksOf size (m ∷ ms) → AreMarksOf size ms
tail_marks size m ms h = (
  λ k lt.
      let more : suc k + 1 ≡ suc (k + 1) = omega arith in
      subst (λ j. get_or ms k 0 < get_or (m ∷ ms) j 0) more (h.0 (suc k) (omega arith)),
  λ k lt. h.1 (suc k) (omega arith),
)

all_between : (size : ℕ) (ms : List ℕ) → AreMarksOf size ms → AllByRecursion (Between size) (pairs ms)
all_between size [] h = tt
all_between size (m ∷ []) h = tt
all_between size (m ∷ n ∷ ms) h = ((h.0 0 (omega arith), h.1 1 (omega arith)), all_between size (n ∷ ms) (tail_marks size m (n ∷ ms) h))

-- no later interval begins below the first mark
low_starts : (size b m : ℕ) (ms : List ℕ) → AreMarksOf size (m ∷ ms) → b ≤ m → AllByRecursion (λ (q : ℕ × ℕ). b ≤ q.0) (pairs (m ∷ ms))
low_starts size b m [] h le = tt
low_starts size b m (n ∷ ms) h le =
    let lt : m < n = h.0 0 (omega arith) in
    (le, low_starts size b n ms (tail_marks size m (n ∷ ms) h) (omega arith))

follow : (a b : ℕ) (ps : List (ℕ × ℕ)) → a < b → AllByRecursion (λ (q : ℕ × ℕ). b ≤ q.0) ps → AllByRecursion (Follows (a, b)) ps
follow a b [] lt h = tt
follow a b (p ∷ ps) lt h = ((h.0, lt), follow a b ps lt h.1)

all_follow : (size : ℕ) (ms : List ℕ) → AreMarksOf size ms → Sorted Follows (pairs ms)
all_follow size [] h = tt
all_follow size (m ∷ []) h = tt
all_follow size (m ∷ n ∷ ms) h =
    let rest = tail_marks size m (n ∷ ms) h in
    (follow m n (pairs (n ∷ ms)) (h.0 0 (omega arith)) (low_starts size n n ms rest (omega arith)), all_follow size (n ∷ ms) rest)

each_split : (file place : ℕ) (sec : Section) (ps : List (ℕ × ℕ)) → IsSection sec → is_kept sec.class ≡ true → is_split sec.class ≡ true → AllByRecursion (Between sec.size) ps → AllByRecursion (IsCut file place sec) (map (split_piece file place sec) ps)
each_split file place sec [] is kept split h = tt
each_split file place sec (p ∷ ps) is kept split h =
    (split_is file place sec p.0 p.1 is kept split (omega (arith, h.0)) h.0.1, each_split file place sec ps is kept split h.1)

before_of : (file place : ℕ) (sec : Section) (p q : ℕ × ℕ) → Follows p q → Before (split_piece file place sec p) (split_piece file place sec q)
before_of file place sec p q h =
    let end : p.0 + (p.1 - p.0) ≤ q.0 = omega (arith, h.0, h.1) in
    let start : p.0 < q.0 = omega (arith, h.0, h.1) in
    inr (refl, inr (refl, inr (refl, end, start)))

each_before : (file place : ℕ) (sec : Section) (p : ℕ × ℕ) (ps : List (ℕ × ℕ)) → AllByRecursion (Follows p) ps → AllByRecursion (Before (split_piece file place sec p)) (map (split_piece file place sec) ps)
each_before file place sec p [] h = tt
each_before file place sec p (q ∷ ps) h = (before_of file place sec p q h.0, each_before file place sec p ps h.1)

sorted_split : (file place : ℕ) (sec : Section) (ps : List (ℕ × ℕ)) → Sorted Follows ps → Sorted Before (map (split_piece file place sec) ps)
sorted_split file place sec [] h = tt
sorted_split file place sec (p ∷ ps) h = (each_before file place sec p ps h.0, sorted_split file place sec ps h.1)

-- ---- the pieces of a section
abbrev pub AreCut : RelObject → ℕ → ℕ → List Piece → Type 0
AreCut object file place ps = AllByRecursion (IsCut file place (section_of object place)) ps × Sorted Before ps

split_pieces : (object : RelObject) (file place : ℕ) → IsRelRead object → IsSection (section_of object place) → is_kept (section_of object place).class ≡ true → is_split (section_of object place).class ≡ true → (b : Bool) → ((section_of object place).size == 0) ≡ b → AreCut object file place (map (split_piece file place (section_of object place)) (cond b ((0, 0) ∷ []) (pairs (marks object place))))
split_pieces object file place read is kept split true none =
    ((split_is file place (section_of object place) 0 0 is kept split (omega arith) (omega arith), tt), (tt, tt))
split_pieces object file place read is kept split false some =
    let marked = are_marks object read place in (
      each_split file place (section_of object place) (pairs (marks object place)) is kept split (all_between (section_of object place).size (marks object place) marked),
      sorted_split file place (section_of object place) (pairs (marks object place)) (all_follow (section_of object place).size (marks object place) marked),
    )

pub are_cut : (object : RelObject) (file place : ℕ) → IsRelRead object → place < length object.sections → is_kept (section_of object place).class ≡ true → AreCut object file place (section_pieces object file place (section_of object place))
are_cut object file place read inside kept =
    let is : IsSection (section_of object place) = read.sections_are place no_section inside in
    ⊎_elim
    (λ (split : is_split (section_of object place).class ≡ true).
    subst (AreCut object file place) (sym (cond-true (is_split (section_of object place).class) (map (split_piece file place (section_of object place)) (intervals object place)) (whole_piece file place (section_of object place) ∷ []) split))
    (split_pieces object file place read is kept split ((section_of object place).size == 0) refl))
    (λ (whole : is_split (section_of object place).class ≡ false).
    subst (AreCut object file place) (sym (cond-false (is_split (section_of object place).class) (map (split_piece file place (section_of object place)) (intervals object place)) (whole_piece file place (section_of object place) ∷ []) whole))
    ((whole_is file place (section_of object place) is kept whole, tt), (tt, tt)))
    (cases_Bool (is_split (section_of object place).class))

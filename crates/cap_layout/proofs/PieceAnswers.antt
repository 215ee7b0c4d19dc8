-- What the deciding piece says of an offset and of a field.
use Rattle.std.proofs.Common.{◌≡◌, ℕ, zero, suc, ◌+◌, ◌<◌, ◌≤◌, Bool, true, false, ◌&&◌, cond, ⊎_elim, List, [], ◌∷◌, length, get_or, Option, Some, None, MatchOption, refl, ap, ◌∙◌, subst, arith}
use Rattle.std.specs.Prelude.{position, nat_le, nat_lt}
use Rattle.std.specs.List.{position_or_len}
use Rattle.std.specs.Option.{option_or, option_map}
use Rattle.std.proofs.lemmas.Bool.{cases_lt, and_from, and_parts, le-leb, leb-true, lt-ltb, le-ltb, false_from_ne_true}
use Rattle.std.proofs.lemmas.List.Sums.{position_or_len_is}
use Rattle.cap_layout.specs.declared.piece.Piece.{Piece}
use Rattle.cap_layout.specs.Pieces.{piece_of, no_piece, piece_at, field_piece, last_where, is_of_section, holds_offset, holds_field}
use Rattle.cap_layout.specs.PieceOrder.{IsLastFrom, NoneFrom, end_of}

where_none : (test : Piece → Bool) (xs : List Piece) → ((k : ℕ) → k < length xs → test (get_or xs k no_piece) ≡ false) → last_where test xs ≡ None
where_none test [] h = refl
where_none test (x ∷ xs) h =
    let rest : last_where test xs ≡ None = where_none test xs (λ k lt. h (suc k) (omega arith)) in
    let here : test x ≡ false = h 0 (omega arith) in
    ap (λ o. option_or (option_map (λ i. i + 1) o) (cond (test x) (Some 0) None)) rest ∙ ap (λ b. cond b (Some 0) None) here

pub where_is : (test : Piece → Bool) (xs : List Piece) (i : ℕ) → i < length xs → test (get_or xs i no_piece) ≡ true → ((k : ℕ) → i < k → k < length xs → test (get_or xs k no_piece) ≡ false) → last_where test xs ≡ Some i
where_is test [] i lt here h = absurd (omega arith)
where_is test (x ∷ xs) zero lt here h =
    let rest : last_where test xs ≡ None = where_none test xs (λ k l. h (suc k) (omega arith) (omega arith)) in
    ap (λ o. option_or (option_map (λ i. i + 1) o) (cond (test x) (Some 0) None)) rest ∙ ap (λ b. cond b (Some 0) None) here
where_is test (x ∷ xs) (suc i) lt here h =
    let rest : last_where test xs ≡ Some i = where_is test xs i (omega arith) here (λ k l m. h (suc k) (omega arith) (omega arith)) in
    let more : i + 1 ≡ suc i = omega arith in
    ap (λ o. option_or (option_map (λ i. i + 1) o) (cond (test x) (Some 0) None)) rest ∙ ap (λ n. Some n) more

place_is : (test : Piece → Bool) (xs : List Piece) (i : ℕ) → i < length xs → test (get_or xs i no_piece) ≡ true → ((k : ℕ) → k < i → test (get_or xs k no_piece) ≡ false) → position test xs ≡ Some i
place_is test xs i lt here h =
    let is : position_or_len test xs ≡ i = position_or_len_is test xs i no_piece (omega arith) h (λ _. here) in
    ap (λ n. cond (nat_lt n (length xs)) (Some n) None) is ∙ ap (λ b. cond b (Some i) None) (lt-ltb i (length xs) lt)

place_none : (test : Piece → Bool) (xs : List Piece) → ((k : ℕ) → k < length xs → test (get_or xs k no_piece) ≡ false) → position test xs ≡ None
place_none test xs h =
    let is : position_or_len test xs ≡ length xs = position_or_len_is test xs (length xs) no_piece (omega arith) h (λ lt. absurd (omega arith)) in
    ap (λ n. cond (nat_lt n (length xs)) (Some n) None) is ∙ ap (λ b. cond b (Some (length xs)) None) (le-ltb (length xs) (length xs) (omega arith))

-- ---- tests of one piece
pub holds : (file section offset end : ℕ) (p : Piece) → is_of_section file section p ≡ true → p.start ≤ offset → end ≤ p.start + p.size → (is_of_section file section p && nat_le p.start offset && nat_le end (p.start + p.size)) ≡ true
holds file section offset end p h s e =
    and_from (is_of_section file section p && nat_le p.start offset) (nat_le end (p.start + p.size)) (and_from (is_of_section file section p) (nat_le p.start offset) h (le-leb p.start offset s)) (le-leb end (p.start + p.size) e)

pub fails : (file section offset end : ℕ) (p : Piece) → (is_of_section file section p ≡ true → p.start ≤ offset → end ≤ p.start + p.size → ⊥) → (is_of_section file section p && nat_le p.start offset && nat_le end (p.start + p.size)) ≡ false
fails file section offset end p never =
    false_from_ne_true (is_of_section file section p && nat_le p.start offset && nat_le end (p.start + p.size)) (λ h.
    let one = and_parts (is_of_section file section p && nat_le p.start offset) (nat_le end (p.start + p.size)) h in
    let two = and_parts (is_of_section file section p) (nat_le p.start offset) one.0 in
    never two.0 (leb-true p.start offset two.1) (leb-true end (p.start + p.size) one.1))

module _ (all : List Piece) (file section offset : ℕ) where
  pub at_none : NoneFrom all file section offset → piece_at all file section offset ≡ None
  at_none none = where_none (holds_offset file section offset) all (λ k lt. fails file section offset offset (piece_of all k) (λ h s e. let n = none k lt h in absurd (omega arith)))

  pub field_none : (size : ℕ) → NoneFrom all file section offset → field_piece all file section offset size ≡ None
  field_none size none = place_none (holds_field file section offset size) all (λ k lt. fails file section offset (offset + size) (piece_of all k) (λ h s e. let n = none k lt h in absurd (omega arith)))

  module _ (i : ℕ) (last : IsLastFrom all file section offset i) where
    pub at_found : offset ≤ end_of (piece_of all i) → piece_at all file section offset ≡ Some i
    at_found le =
        where_is (holds_offset file section offset) all i last.inside
        (holds file section offset offset (piece_of all i) last.here last.begins le)
        (λ k lt inside. fails file section offset offset (piece_of all k) (λ h s e. let b = last.behind k lt inside h in absurd (omega arith)))

    pub at_past : end_of (piece_of all i) < offset → piece_at all file section offset ≡ None
    at_past past =
        where_none (holds_offset file section offset) all (λ k inside. fails file section offset offset (piece_of all k) (λ h s e.
        ⊎_elim
        (λ (l : k < i). let b = last.before k l h in absurd (omega arith))
        (λ (l : i ≤ k). ⊎_elim
        (λ (m : i < k). let b = last.behind k m inside h in absurd (omega arith))
        (λ (m : k ≤ i). let same : k ≡ i = omega arith in let f : offset ≤ end_of (piece_of all i) = subst (λ n. offset ≤ end_of (piece_of all n)) same e in absurd (omega arith))
        (cases_lt i k))
        (cases_lt k i)))

    not_earlier : (size : ℕ) → 0 < size → (k : ℕ) → k < i → holds_field file section offset size (piece_of all k) ≡ false
    not_earlier size some k lt =
        fails file section offset (offset + size) (piece_of all k) (λ h s e. let b = last.before k lt h in let c = last.begins in absurd (omega arith))

    pub field_found : (size : ℕ) → 0 < size → offset + size ≤ end_of (piece_of all i) → field_piece all file section offset size ≡ Some i
    field_found size some le =
        place_is (holds_field file section offset size) all i last.inside
        (holds file section offset (offset + size) (piece_of all i) last.here last.begins le)
        (not_earlier size some)

    pub field_past : (size : ℕ) → 0 < size → end_of (piece_of all i) < offset + size → field_piece all file section offset size ≡ None
    field_past size some past =
        place_none (holds_field file section offset size) all (λ k inside.
        ⊎_elim
        (λ (l : k < i). not_earlier size some k l)
        (λ (l : i ≤ k). fails file section offset (offset + size) (piece_of all k) (λ h s e. ⊎_elim
        (λ (m : i < k). let b = last.behind k m inside h in absurd (omega arith))
        (λ (m : k ≤ i). let same : k ≡ i = omega arith in let f : offset + size ≤ end_of (piece_of all i) = subst (λ n. offset + size ≤ end_of (piece_of all n)) same e in absurd (omega arith))
        (cases_lt i k)))
        (cases_lt k i))

pub for_some : (o : Option ℕ) (i : ℕ) (N : Type 0) (P : ℕ → Type 0) → o ≡ Some i → MatchOption o N P → P i
for_some o i N P is h = subst (λ (p : Option ℕ). MatchOption p N P) is h

pub for_none : (o : Option ℕ) (N : Type 0) (P : ℕ → Type 0) → o ≡ None → MatchOption o N P → N
for_none o N P is h = subst (λ (p : Option ℕ). MatchOption p N P) is h

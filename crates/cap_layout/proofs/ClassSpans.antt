-- Where the pieces of each class stand, and that a class is the same among them alone.
use Rattle.std.proofs.Common.{◌≡◌, ℕ, suc, ◌+◌, ◌<◌, ◌≤◌, Bool, true, false, cond, List, [], ◌∷◌, ◌++◌, length, get_or, set, replicate, filter, take, drop, inl, inr, refl, sym, ap, subst, ◌∙◌, arith, append-nil}
use Rattle.std.specs.Prelude.{◌==◌, slice_range}
use Rattle.std.proofs.lemmas.Bool.{cases_lt, cases_Bool, eqb-true, eq-eqb, both_ways, false_from_ne_true}
use Rattle.std.proofs.lemmas.List.{length-set, length-replicate, length-drop, length-take, get_or-set_same, get_or-set_other, get_or-replicate, get_or-drop, get_or-take, take-append-drop, get_or_past}
use Rattle.std.proofs.lemmas.List.Elements.{filter-append}
use Rattle.std.proofs.lemmas.List.Folds.{drop_split}
use Rattle.cap_elf.specs.declared.records.Class.{Class}
use Rattle.cap_elf.specs.declared.records.Class.TheVariants as classes
use Rattle.cap_elf.specs.Classes.{same_class}
use Rattle.cap_layout.specs.declared.piece.Piece.{Piece}
use Rattle.cap_layout.specs.declared.by_class.Span.{Span}
use Rattle.cap_layout.specs.Pieces.{piece_of, no_piece}
use Rattle.cap_layout.specs.PieceOrder.{rank}
use Rattle.cap_layout.specs.Places.{of_class}
use Rattle.cap_layout.specs.ByClass.{no_span, extended, AreSpans, IsSpanOf}
use Rattle.cap_layout.proofs.PieceAll.{same_is}

pub rank_below : (class : Class) → rank class < 8
rank_below classes.Ro = omega arith
rank_below classes.Code = omega arith
rank_below classes.Init = omega arith
rank_below classes.Fini = omega arith
rank_below classes.Relro = omega arith
rank_below classes.Data = omega arith
rank_below classes.Bss = omega arith
rank_below classes.Dropped = omega arith

blank : (n r : ℕ) → get_or (replicate n no_span) r no_span ≡ no_span
blank n r = elim (cases_lt r n) [
  | inl lt ↦ get_or-replicate n r no_span no_span lt
  | inr le ↦ get_or_past (replicate n no_span) r no_span (omega (arith, le, length-replicate n no_span))
]

pub no_spans : (spans : List Span) (pieces : List Piece) → spans ≡ replicate 8 no_span → AreSpans spans pieces 0
no_spans spans pieces e = record {
  count = ap length e ∙ length-replicate 8 no_span;
  order = λ r. let is = ap (λ xs. get_or xs r no_span) e ∙ blank 8 r in omega (arith, ap (λ (s : Span). s.first) is, ap (λ (s : Span). s.end) is);
  ends = λ r. let is = ap (λ xs. get_or xs r no_span) e ∙ blank 8 r in omega (arith, ap (λ (s : Span). s.end) is);
  from = λ k lt. absurd (omega (arith, lt));
  before = λ k lt. absurd (omega (arith, lt));
}

-- ---- a span with one more piece

abbrev extended_by : Span → ℕ → Bool → Span
extended_by s i b = cond b (record { first = i; end = i + 1 }) (record { first = s.first; end = i + 1 })

ext_end : (s : Span) (i : ℕ) → (extended s i).end ≡ i + 1
ext_end s i = by (s.end == 0)
  where
    by : (b : Bool) → (extended_by s i b).end ≡ i + 1
    by true = refl
    by false = refl

ext_first : (s : Span) (i : ℕ) → s.first ≤ s.end → s.end ≤ i → (extended s i).first ≤ i
ext_first s i o e = by (s.end == 0)
  where
    by : (b : Bool) → (extended_by s i b).first ≤ i
    by true = omega arith
    by false = omega (arith, o, e)

ext_keeps : (s : Span) (i k : ℕ) → k < s.end → (extended s i).first ≡ s.first
ext_keeps s i k lt =
    let some : (s.end == 0) ≡ false = false_from_ne_true (s.end == 0) (λ h. let none = eqb-true s.end 0 h in omega (arith, lt, none)) in
    ap (λ b. (extended_by s i b).first) some

-- the spans with one more piece
module _ (spans new : List Span) (pieces : List Piece) (n r : ℕ) (are : AreSpans spans pieces n) (below : r < 8) (own : r ≡ rank (piece_of pieces n).class) (is : new ≡ set spans r (extended (get_or spans r no_span) n)) where
  abbrev old : Span
  old = get_or spans r no_span

  here : get_or new r no_span ≡ extended old n
  here = ap (λ xs. get_or xs r no_span) is ∙ get_or-set_same spans r (extended old n) no_span (omega (arith, are.count, below))

  there : (q : ℕ) → (q == r) ≡ false → get_or new q no_span ≡ get_or spans q no_span
  there q e = ap (λ xs. get_or xs q no_span) is ∙ get_or-set_other spans r q (extended old n) no_span (λ same. both_ways (q == r) e (eq-eqb q r same))

  pub spans_more : AreSpans new pieces (n + 1)
  spans_more = record {
    count = ap length is ∙ length-set spans r (extended old n) ∙ are.count;
    order = λ q. elim (cases_Bool (q == r)) [
      | inl e ↦
          let at = ap (λ k. get_or new k no_span) (eqb-true q r e) ∙ here in
          omega (arith, ap (λ (s : Span). s.first) at, ap (λ (s : Span). s.end) at, ext_end old n, ext_first old n (are.order r) (are.ends r))
      | inr e ↦ omega (arith, ap (λ (s : Span). s.first) (there q e), ap (λ (s : Span). s.end) (there q e), are.order q)
    ];
    ends = λ q. elim (cases_Bool (q == r)) [
      | inl e ↦ let at = ap (λ k. get_or new k no_span) (eqb-true q r e) ∙ here in omega (arith, ap (λ (s : Span). s.end) at, ext_end old n)
      | inr e ↦ omega (arith, ap (λ (s : Span). s.end) (there q e), are.ends q)
    ];
    from = λ k lt. elim (cases_Bool (rank (piece_of pieces k).class == r)) [
      | inl e ↦
          let same = eqb-true (rank (piece_of pieces k).class) r e in
          let at = ap (λ q. get_or new q no_span) same ∙ here in
          elim (cases_lt k n) [
            | inl before ↦
                let was : k < old.end = subst (λ q. k < (get_or spans q no_span).end) same (are.before k before) in
                let from : old.first ≤ k = subst (λ q. (get_or spans q no_span).first ≤ k) same (are.from k before) in
                omega (arith, ap (λ (s : Span). s.first) at, ext_keeps old n k was, from)
            | inr last ↦ omega (arith, ap (λ (s : Span). s.first) at, ext_first old n (are.order r) (are.ends r), lt, last)
          ]
      | inr e ↦
          let at = there (rank (piece_of pieces k).class) e in
          elim (cases_lt k n) [
            | inl before ↦ omega (arith, ap (λ (s : Span). s.first) at, are.from k before)
            | inr last ↦
                let k_is : k ≡ n = omega (arith, lt, last) in
                let mine : rank (piece_of pieces k).class ≡ r = ap (λ j. rank (piece_of pieces j).class) k_is ∙ sym own in
                absurd (both_ways (rank (piece_of pieces k).class == r) e (eq-eqb (rank (piece_of pieces k).class) r mine))
          ]
    ];
    before = λ k lt. elim (cases_Bool (rank (piece_of pieces k).class == r)) [
      | inl e ↦
          let at = ap (λ q. get_or new q no_span) (eqb-true (rank (piece_of pieces k).class) r e) ∙ here in
          omega (arith, ap (λ (s : Span). s.end) at, ext_end old n, lt)
      | inr e ↦
          let at = there (rank (piece_of pieces k).class) e in
          elim (cases_lt k n) [
            | inl before ↦ omega (arith, ap (λ (s : Span). s.end) at, are.before k before)
            | inr last ↦
                let k_is : k ≡ n = omega (arith, lt, last) in
                let mine : rank (piece_of pieces k).class ≡ r = ap (λ j. rank (piece_of pieces j).class) k_is ∙ sym own in
                absurd (both_ways (rank (piece_of pieces k).class == r) e (eq-eqb (rank (piece_of pieces k).class) r mine))
          ]
    ];
  }

-- ---- the span of a class

pub span_is : (spans : List Span) (pieces : List Piece) (class : Class) (s : Span) → AreSpans spans pieces (length pieces) → s ≡ get_or spans (rank class) no_span → IsSpanOf pieces class s.first s.end
span_is spans pieces class s are e = record {
  order = omega (arith, ap (λ (t : Span). t.first) e, ap (λ (t : Span). t.end) e, are.order (rank class));
  within = omega (arith, ap (λ (t : Span). t.end) e, are.ends (rank class));
  from = λ k lt same.
      let at : rank (piece_of pieces k).class ≡ rank class = ap rank (same_is (piece_of pieces k).class class same) in
      omega (arith, ap (λ (t : Span). t.first) e, subst (λ q. (get_or spans q no_span).first ≤ k) at (are.from k lt));
  before = λ k lt same.
      let at : rank (piece_of pieces k).class ≡ rank class = ap rank (same_is (piece_of pieces k).class class same) in
      omega (arith, ap (λ (t : Span). t.end) e, subst (λ q. k < (get_or spans q no_span).end) at (are.before k lt));
}

-- a list of pieces of other classes
none_of : (class : Class) (ps : List Piece) → ((k : ℕ) → k < length ps → same_class (get_or ps k no_piece).class class ≡ false) → of_class class ps ≡ []
none_of class [] h = refl
none_of class (p ∷ ps) h =
    ap (λ b. cond b (p ∷ of_class class ps) (of_class class ps)) (h 0 (omega arith)) ∙ none_of class ps (λ k lt. h (suc k) (omega (arith, lt)))

-- the pieces of a class stand in its span
pub span_class : (pieces : List Piece) (class : Class) (first end : ℕ) → IsSpanOf pieces class first end → of_class class (slice_range pieces first end) ≡ of_class class pieces
span_class pieces class first end span =
    let front : of_class class (take first pieces) ≡ [] = none_of class (take first pieces) (λ k lt.
    let inside : k < first = omega (arith, lt, length-take first pieces) in
    let at = get_or-take first pieces k no_piece inside in
    false_from_ne_true _ (λ same. let up = span.from k (omega (arith, inside, span.order, span.within)) (sym (ap (λ (p : Piece). same_class p.class class) at) ∙ same) in omega (arith, up, inside))) in
    let back : of_class class (drop end pieces) ≡ [] = none_of class (drop end pieces) (λ k lt.
    let at = get_or-drop end pieces k no_piece in
    false_from_ne_true _ (λ same. let low = span.before (end + k) (omega (arith, lt, length-drop end pieces)) (sym (ap (λ (p : Piece). same_class p.class class) at) ∙ same) in omega (arith, low))) in
    let middle = slice_range pieces first end in
    let test = λ (p : Piece). same_class p.class class in
    sym (ap (of_class class) (sym (take-append-drop first pieces) ∙ ap (λ xs. take first pieces ++ xs) (drop_split pieces first end span.order))
    ∙ filter-append test (take first pieces) (middle ++ drop end pieces)
    ∙ ap (λ xs. xs ++ filter test (middle ++ drop end pieces)) front
    ∙ filter-append test middle (drop end pieces)
    ∙ ap (λ xs. filter test middle ++ xs) back
    ∙ append-nil (filter test middle))

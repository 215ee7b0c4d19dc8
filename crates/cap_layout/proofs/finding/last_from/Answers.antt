use Rattle.std.proofs.Common.{◌≡◌, ℕ, ◌-◌, ◌≤◌, true, false, get_or, take, ap, sym, subst, ◌∙◌, arith}
use Rattle.std.proofs.lemmas.List.{length-take-le, get_or-take}
use Rattle.cap_layout.specs.declared.piece.Piece.{Piece}
use Rattle.cap_layout.specs.Pieces.{piece_of, no_piece}
use Rattle.cap_layout.specs.PieceOrder.{rank, is_up_to, Before}
use Rattle.cap_layout.proofs.PieceSearch.{blank, in_all, read_at, none_early, none_of, last_of}
use Rattle.cap_layout.proofs.finding.last_from.Goals as goal
use Rattle.cap_layout.proofs.finding.last_from.Goals.{else-last-file-via-then-last-file+else-last-section, else-last-file-via-else-last-file}

pub count_up_to-count-requires : goal.count_up_to-count-requires
count_up_to-count-requires c = λ i j lt inside.
    let all = c.args.pieces.now in
    let n = c.args.sections in
    let long = length-take-le n all c.requires.few in
    subst (λ p. Before p (get_or (take n all) j no_piece)) (sym (get_or-take n all i no_piece (omega arith))) (subst (Before (piece_of all i)) (sym (get_or-take n all j no_piece (omega arith))) (c.requires.ordered i j lt (omega arith)))

pub returns-then-count-eq0 : goal.returns-then-count-eq0
returns-then-count-eq0 c =
    let all = c.args.pieces.now in
    let n = c.args.sections in
    let count = c.count_up_to-count.result in
    let long = length-take-le n all c.requires.few in
    let counted = c.count_up_to-count.ensures in
    none_early all n c.args.classes.now c.requires c.rank-order.result c.args.file c.args.section c.args.offset count
    (c.rank-order.ensures ∙ ap rank c.class_of.ensures) (omega (arith, counted.bound))
    (λ k lt. in_all (λ p. is_up_to c.rank-order.result c.args.file c.args.section c.args.offset p ≡ true) all n k (omega (arith, counted.bound)) (counted.below k no_piece (omega arith) lt))
    (λ k le lt. in_all (λ p. is_up_to c.rank-order.result c.args.file c.args.section c.args.offset p ≡ false) all n k lt (counted.above k no_piece le (omega arith)))
    c.if-count-eq0.true

pub returns-then-last-section : goal.returns-then-last-section
returns-then-last-section c =
    let all = c.args.pieces.now in
    let n = c.args.sections in
    let count = c.count_up_to-count.result in
    let i : ℕ = count - 1 in
    let long = length-take-le n all c.requires.few in
    let counted = c.count_up_to-count.ensures in
    let some = c.if-count-eq0.false in
    let few : count ≤ n = omega (arith, counted.bound) in
    let is : get_or (take n all) i blank ≡ piece_of all i = read_at all n i c.requires.few (omega arith) in
    last_of all n c.args.classes.now c.requires c.rank-order.result c.args.file c.args.section c.args.offset count
    (c.rank-order.ensures ∙ ap rank c.class_of.ensures) few
    (λ k lt. in_all (λ p. is_up_to c.rank-order.result c.args.file c.args.section c.args.offset p ≡ true) all n k (omega arith) (counted.below k no_piece (omega arith) lt))
    (λ k le lt. in_all (λ p. is_up_to c.rank-order.result c.args.file c.args.section c.args.offset p ≡ false) all n k lt (counted.above k no_piece le (omega arith)))
    i (omega arith)
    (ap (λ (p : Piece). p.file) (sym is) ∙ c.if-last-file.true)
    (ap (λ (p : Piece). p.place) (sym is) ∙ c.if-last-section.true)

pub returns-else-last-file : goal.returns-else-last-file
returns-else-last-file c =
    let all = c.args.pieces.now in
    let n = c.args.sections in
    let count = c.count_up_to-count.result in
    let i : ℕ = count - 1 in
    let long = length-take-le n all c.requires.few in
    let counted = c.count_up_to-count.ensures in
    let some = c.if-count-eq0.false in
    let few : count ≤ n = omega (arith, counted.bound) in
    let is : get_or (take n all) i blank ≡ piece_of all i = read_at all n i c.requires.few (omega arith) in
    let other : (piece_of all i).file ≡ c.args.file → (piece_of all i).place ≡ c.args.section → ⊥ = λ f s. elim c.else-last-file.branch [
      | else-last-file-via-then-last-file+else-last-section w ↦ w.if-last-section.false (ap (λ (p : Piece). p.place) is ∙ s)
      | else-last-file-via-else-last-file w ↦ w.if-last-file.false (ap (λ (p : Piece). p.file) is ∙ f)
    ] in
    none_of all n c.args.classes.now c.requires c.rank-order.result c.args.file c.args.section c.args.offset count
    (c.rank-order.ensures ∙ ap rank c.class_of.ensures) few
    (λ k lt. in_all (λ p. is_up_to c.rank-order.result c.args.file c.args.section c.args.offset p ≡ true) all n k (omega arith) (counted.below k no_piece (omega arith) lt))
    (λ k le lt. in_all (λ p. is_up_to c.rank-order.result c.args.file c.args.section c.args.offset p ≡ false) all n k lt (counted.above k no_piece le (omega arith)))
    i (omega arith) other

use Rattle.std.proofs.Common.{rules, ◌≡◌, ◌<◌, ◌≤◌, Bool, true, false, get_or, ⊎_elim, sym, ap, ◌∙◌, arith}
use Rattle.std.specs.List.Sorted.{IsPartitionPoint, IsPartitionedBy}
use Rattle.std.proofs.lemmas.List.{get_or_default}
use Rattle.std.proofs.lemmas.List.Sorted.{IsPartitionPoint-from_clause}
use Rattle.std.proofs.lemmas.Bool.{cases_lt}
use Rattle.cap_layout.specs.declared.piece.Piece.{Piece}
use Rattle.cap_layout.specs.Pieces.{no_piece}
use Rattle.cap_layout.specs.PieceOrder.{is_up_to}
use Rattle.cap_layout.proofs.PieceSearch.{up_to_back}
use Rattle.cap_layout.proofs.finding.count_up_to.Goals as goal

pub returns : goal.returns
returns c =
    let ps = c.args.pieces.now in
    let test : Piece → Bool = is_up_to c.args.order c.args.file c.args.section c.args.offset in
    let parted : IsPartitionedBy test ps = λ i j d le bound yes.
    ⊎_elim
    (λ (lt : i < j).
    let one = get_or_default ps i d no_piece (omega arith) in
    let two = get_or_default ps j d no_piece bound in
    ap test one ∙ up_to_back c.args.order c.args.file c.args.section c.args.offset (get_or ps i no_piece) (get_or ps j no_piece) (c.requires i j lt bound) (ap test (sym two) ∙ yes))
    (λ (ge : j ≤ i). let same : i ≡ j = omega arith in ap (λ k. test (get_or ps k d)) same ∙ yes)
    (cases_lt i j) in
    let cut : IsPartitionPoint (λ p. test p ≡ true) (λ p. test p ≡ false) ps c.partition_point.result =
    IsPartitionPoint-from_clause test ps c.partition_point.result c.partition_point.ensures.partitioned parted (λ a r f' k. search rules) in
    record { bound = c.partition_point.ensures.bound; below = cut.0; above = cut.1 }

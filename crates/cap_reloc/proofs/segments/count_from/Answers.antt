use Rattle.std.proofs.Common.{rules, ◌≡◌, Bool, true, false}
use Rattle.std.specs.Prelude.{nat_le}
use Rattle.std.specs.List.Sorted.{IsPartitionPoint}
use Rattle.cap_elf.specs.declared.records.Segment.{Segment}
use Rattle.std.proofs.lemmas.List.Sorted.{IsPartitionedBy-leb, IsPartitionPoint-from_clause}
use Rattle.std.proofs.lemmas.Bool.{leb-true, leb-false}
use Rattle.cap_reloc.proofs.Holding.{rise}
use Rattle.cap_reloc.proofs.segments.count_from.Goals as goal

pub returns : goal.returns
returns c =
    let test : Segment → Bool = λ s. nat_le s.vaddr c.args.at in
    let cut : IsPartitionPoint (λ s. test s ≡ true) (λ s. test s ≡ false) c.args.segments.now c.partition_point.result =
    IsPartitionPoint-from_clause test c.args.segments.now c.partition_point.result c.partition_point.ensures.partitioned (IsPartitionedBy-leb (λ s. s.vaddr) c.args.segments.now c.args.at (rise c.args.segments.now c.requires)) (λ a r f' k. search rules) in
    record {
      bound = c.partition_point.ensures.bound;
      below = λ k d low high. leb-true _ _ (cut.0 k d low high);
      above = λ k d low high. leb-false _ _ (cut.1 k d low high);
    }

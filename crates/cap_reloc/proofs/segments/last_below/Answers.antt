use Rattle.std.proofs.Common.{arith, ℕ, ◌-◌, ◌≤◌, get_or}
use Rattle.std.proofs.lemmas.List.{get_or_default}
use Rattle.cap_elf.specs.declared.records.Segment.{Segment}
use Rattle.cap_elf.specs.Ends.{end_of}
use Rattle.cap_reloc.proofs.segments.last_below.Goals as goal

pub returns-then-count-eq0 : goal.returns-then-count-eq0
returns-then-count-eq0 c = λ k d lt. c.count_from-count.ensures.above k d (omega arith) lt

pub returns : goal.returns
returns c =
    let segments = c.args.segments.now in
    let n : ℕ = c.count_from-count.result - 1 in
    let none : Segment = record { vaddr = 0; memsz = 0; offset = 0; filesz = 0; flags = 0; align = 0 } in
    let s : Segment = get_or segments n none in
    let bound = c.count_from-count.ensures.bound in
    record {
      place = n;
      inside = omega (arith, bound);
      is = get_or_default segments n s none (omega (arith, bound));
      begins = c.count_from-count.ensures.below n none (omega arith) (omega arith);
      before = λ k d lt. let h : end_of (get_or segments k none) ≤ s.vaddr = c.requires k n none lt (omega (arith, bound)) in
          rw (get_or_default segments k d none (omega (arith, bound))) h;
      behind = λ k d above lt. c.count_from-count.ensures.above k d (omega arith) lt;
    }

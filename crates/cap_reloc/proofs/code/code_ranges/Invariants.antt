use Rattle.std.proofs.Common.{◌≡◌, ℕ, ◌<◌, take, map, get_or}
use Rattle.cap_elf.specs.IsRead.{IsRead}
use Rattle.cap_elf.specs.DynView.{DynValue}
use Rattle.cap_fits.specs.Places.{code_range}
use Rattle.cap_reloc.proofs.code.code_ranges.Given as goal

abbrev pub invariant-loop-i : goal.invariant-loop-i
invariant-loop-i l = record {
  value : l.ranges.items ≡ map (λ o. code_range o.records) (take l.i l.objects);
  sound : (k : ℕ) (d : DynValue) → k < l.i → IsRead (get_or l.objects k d).records;
}

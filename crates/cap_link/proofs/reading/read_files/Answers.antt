use Rattle.std.proofs.lemmas.Result.{err_from_is_err_and}
use Rattle.cap_link.specs.Counts.{IsShortName}
use Rattle.cap_link.proofs.ReadingLemmas.{read_more, read_stop, rest_all, rest_length}
use Rattle.cap_link.proofs.reading.read_files.Goals as goal

pub returns-in_err-files-clause-value : goal.returns-in_err-files-clause-value
returns-in_err-files-clause-value c =
    let p = err_from_is_err_and c.from_residual.result c.from_residual.ensures.1 in
    rw (p.1, p.2) (read_stop (λ f. (f.0, f.1.items)) c.loop-file.files _ c.loop-file.number c.in-Some.file _ _ _ c.in-Some.ensures.steps.0 c.in_err-files.ensures.value c.loop-file.invariant.so_far)

pub loop-file-preserved : goal.loop-file-preserved
loop-file-preserved c =
    let items = c.in-Some.ensures.steps.0 in
    record {
      can_next = tt;
      is_finite = tt;
      so_far = read_more (λ f. (f.0, f.1.items)) c.loop-file.files _ _ c.loop-file.number c.in-Some.file _ _ items c.in_ok-files.ensures.value c.loop-file.invariant.so_far;
      left = rest_length c.in-Some.file _ _ c.loop-file.number 256 items c.loop-file.invariant.left;
      few = c.in_ok-files.ensures.few c.loop-file.number c.loop-file.invariant.few;
      short = rest_all (λ f. IsShortName f.0) c.in-Some.file _ _ items c.loop-file.invariant.short;
    }

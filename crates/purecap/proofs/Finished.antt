-- How the last step of a command ends that loads a program.
use Rattle.std.proofs.Common.{◌≡◌, ℕ, true, false, List, [], ◌∷◌, length, Result, Ok, Err, refl, sym, subst, arith}
use Rattle.std.specs.Prelude.{◌==◌}
use Rattle.cap_audit.specs.declared.finding.Finding.{Finding}
use Rattle.cap_audit.specs.Report.{report_of}
use Rattle.std.proofs.lemmas.Bool.Decides.{nat_tests}
use Rattle.cap_mem.specs.Tagged.{TaggedMemory}
use Rattle.purecap.specs.declared.faults.Failure.{Failure}
use Rattle.purecap.specs.declared.faults.Failure.TheVariants.{Differs}
use Rattle.purecap.specs.Story.{Printed, Saved, Differing}
use Rattle.purecap.specs.Answer.{compared_by}
use Rattle.purecap.specs.Run.{Stream, Disk, IsStill, IsKept, IsUntouched, IsWritten}
use Rattle.purecap.specs.Printing.{Told, IsLast, PrintsNext}
use Rattle.purecap.specs.Calling.{SavesFile, Finishes, TellsDifference, kept_by}

-- a file was written, or a front of it
pub saves_finished : (path bytes : List ℕ) (memories : List TaggedMemory) (disk : Disk) (out err : Stream) (so_far : Told) (end : Result Unit Failure) → SavesFile path bytes disk err so_far end → IsStill out
    → Finishes (Saved path bytes memories) disk out err (kept_by end memories) so_far end
saves_finished path bytes memories disk out err so_far (Ok _) saves still = ((saves.0, still, refl), saves.1, saves.2)
saves_finished path bytes memories disk out err so_far (Err failure) saves still =
    subst (λ (f : Failure). Finishes (Saved path bytes memories) disk out err [] so_far (Err f)) (sym saves.0) ((saves.1, still, refl), saves.2, saves.3)

-- a text was printed, or a front of it
pub printed_finished : (text : List ℕ) (disk : Disk) (out err : Stream) (so_far : Told) (end : Result Unit Failure) → PrintsNext so_far text out err end → IsUntouched disk → IsKept disk.reads
    → Finishes (Printed text) disk out err [] so_far end
printed_finished text disk out err so_far (Ok _) prints untouched kept = ((untouched, prints.0, refl), prints.1, kept)
printed_finished text disk out err so_far (Err failure) prints untouched kept =
    subst (λ (f : Failure). Finishes (Printed text) disk out err [] so_far (Err f)) (sym prints.0) ((untouched, prints.1, refl), prints.2, kept)

-- findings were printed, and told
module _ (path : List ℕ) (disk : Disk) (out err : Stream) (so_far : Told) (untouched : IsUntouched disk) (kept : IsKept disk.reads) where
  pub compared_finished : (found : List Finding) (end : Result Unit Failure) → IsWritten out (report_of found) → TellsDifference path found err so_far end
      → Finishes (compared_by path found) disk out err [] so_far end
  compared_finished [] end written tells =
      subst (λ (e : Result Unit Failure). Finishes (Printed (report_of [])) disk out err [] so_far e) (sym tells.0) ((untouched, written, refl), tells.1, kept)
  compared_finished (finding ∷ others) end written tells =
      subst (λ (e : Result Unit Failure). Finishes (Differing path (report_of (finding ∷ others))) disk out err [] so_far e) (sym tells.0)
      (record { path = path; output = report_of (finding ∷ others); is = refl; untouched = untouched; written = written; none = refl; told = tells.1; reads_kept = kept })

  -- a front of the findings was printed
  pub compared_cut : (found : List Finding) (failure : Failure) → PrintsNext so_far (report_of found) out err (Err failure) → Finishes (compared_by path found) disk out err [] so_far (Err failure)
  compared_cut [] failure prints = subst (λ (f : Failure). Finishes (Printed (report_of [])) disk out err [] so_far (Err f)) (sym prints.0) ((untouched, prints.1, refl), prints.2, kept)
  compared_cut (finding ∷ others) failure prints =
      subst (λ (f : Failure). Finishes (Differing path (report_of (finding ∷ others))) disk out err [] so_far (Err f)) (sym prints.0) ((untouched, prints.1, refl), prints.2, kept)

-- whether there are findings, by their number
pub tells_none : (path : List ℕ) (found : List Finding) (err : Stream) (so_far : Told) → (length found == 0) ≡ true → IsStill err → TellsDifference path found err so_far (Ok tt)
tells_none path [] err so_far none still = (refl, still)
tells_none path (finding ∷ others) err so_far none still =
    let zero : length (finding ∷ others) ≡ 0 = grind (arith, nat_tests) in absurd (omega (arith, zero))

pub tells_some : (path : List ℕ) (found : List Finding) (err : Stream) (so_far : Told) → (length found == 0) ≡ false → IsLast path Differs err so_far → TellsDifference path found err so_far (Err Differs)
tells_some path [] err so_far some last = absurd (cc)
tells_some path (finding ∷ others) err so_far some last = (refl, last)

use Rattle.std.proofs.Common.{◌≡◌, length, ap, subst}
use Rattle.std.specs.Prelude.{All}
use Rattle.cap_elf.specs.DynView.{DynValue}
use Rattle.cap_elf.specs.Ends.{IsInFile}
use Rattle.cap_elf.proofs.ReadLaw.{read_in_file}
use Rattle.cap_elf.proofs.dyn_file.DynFile.segments.Goals as goal

pub returns-clause-in_file : goal.returns-clause-in_file
returns-clause-in_file c = λ bytes read.
    let same : c.args.self.now.records.segments ≡ c.as_slice.result.now = cc (ap (λ (v : DynValue). v.records.segments) c.self.view_is, c.as_slice.ensures.value) in
    subst (All (IsInFile (length bytes))) same (read_in_file bytes c.args.self.now.records read)

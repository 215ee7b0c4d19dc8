use Rattle.std.proofs.Common.{[]}
use Rattle.purecap.specs.ProgramWords.{program_meant}
use Rattle.purecap.proofs.Steps.{begin_ends}
use Rattle.purecap.proofs.program.begin.Goals as goal

pub returns-in-Err-clause-begins : goal.returns-in-Err-clause-begins
returns-in-Err-clause-begins g c =
    let refused = c.in-Err.ensures {u = tt} in
    record {
      notes = [];
      refusal = c.in-Err.refusal;
      is_failure = c.end_with.ensures.failure;
      says = c.end_with.ensures.says;
      ends = begin_ends _ (program_meant c.args.words.now) c.in-Err.refusal (rw (c.as_str.ensures.value, c.as_str-2.ensures.value) at refused.state);
      counted = refused.reads;
    }

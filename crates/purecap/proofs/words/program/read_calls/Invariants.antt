use Rattle.std.proofs.Common.{◌≡◌, ◌++◌, map, drop, Ok}
use Rattle.cap_base.specs.Steps.{◌>>=◌, gather}
use Rattle.purecap.specs.ProgramWords.{call_of, call_meant}
use Rattle.purecap.proofs.words.program.read_calls.Given as goal

-- the calls so far, and then those of the words that are left
abbrev pub invariant-loop-word : goal.invariant-loop-word
invariant-loop-word l =
    (gather call_of (map (λ word. word.now) (drop l.word-index l.words)) >>= λ rest. Ok (map call_meant l.calls.items ++ rest))
    ≡ gather call_of (map (λ word. word.now) l.words)

-- What a run that loads a program says of exact bounds.
use Rattle.std.specs.Prelude.{◌≡◌, ℕ, Option, Result, Ok, Err, IfSome}
use Rattle.cap_base.specs.Outside.{Store}
use Rattle.cap_exact.specs.Loads.{Run, KeepsBounds, outcome_in}
use Rattle.cap_session.specs.declared.refusal.OpenRefusal.{OpenRefusal}
use Rattle.cap_session.specs.Exact.{IsInexact}
use Rattle.purecap.specs.declared.faults.Failure.{Failure}
use Rattle.purecap.specs.ProgramWords.{ProgramWords}
use Rattle.purecap.specs.Words.{Command, Show, Load, Link, Demo, Init, Reach, Audit}

-- the run of the loader that these words ask for
abbrev pub run_of : ProgramWords → Run
run_of words = record { dir = words.dir; main = words.main; rule = words.rule; calls = words.calls }

-- the start or a call is refused for bounds
pub record IsRefusedForBounds (store : Store) (run : Run) : Type 0 where
  pub refusal : OpenRefusal
  pub ended : (outcome_in store run).«end» ≡ Err refusal
  pub inexact : IsInexact refusal

-- no definition in a file that a link wrote is refused as inexact, and the data of all such files that are loaded lie
-- apart; status 7 comes of nothing but a refusal for bounds
pub record LoadsExactly (words : ProgramWords) (store : Store) (status : ℕ) : Type 0 where
  pub keeps : KeepsBounds store (run_of words)
  pub refused : status ≡ 7 → IsRefusedForBounds store (run_of words)

abbrev pub IsExactOf : Result Command Failure → Store → ℕ → Type 0
IsExactOf (Ok (Show image)) store status = Unit {0}
IsExactOf (Ok (Load words)) store status = LoadsExactly words.program store status
IsExactOf (Ok (Link words)) store status = Unit {0}
IsExactOf (Ok (Demo number)) store status = Unit {0}
IsExactOf (Ok (Init words)) store status = LoadsExactly words store status
IsExactOf (Ok (Reach image slot)) store status = Unit {0}
IsExactOf (Ok (Audit image words)) store status = LoadsExactly words store status
IsExactOf (Err failure) store status = Unit {0}

-- the same of a run, where the store tells its files
abbrev pub IsExactRun : Result Command Failure → Option Store → ℕ → Type 0
IsExactRun command told status = IfSome told (λ store. IsExactOf command store status)

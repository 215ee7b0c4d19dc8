-- How a text that a command makes is printed.
use Rattle.std.specs.Prelude.{◌≡◌, ℕ, List, [], ◌∷◌, codes, Option, IfSome, Result, Ok, Err}
use Rattle.cap_base.specs.Outside.{Store, file_in, SendsNext}
use Rattle.cap_base.specs.declared.outside.Failed.{Failed}
use Rattle.purecap.specs.declared.faults.Failure.{Failure}
use Rattle.purecap.specs.declared.faults.Failure.TheVariants.{ReadFault, WriteFault, NoMemory, Differs}
use Rattle.purecap.specs.Faults.{line_of}
use Rattle.purecap.specs.Run.{Count, Stream, IsStill, IsWritten, IsCut, IsKept, HasRisen, Says}

-- whether the lines so far were written whole
abbrev pub Told : Type 0
Told = Result Unit Failed

-- a failure was told behind other lines
abbrev pub IsLast : List ℕ → Failure → Stream → Told → Type 0
IsLast path failure err so_far = (next : Told) × SendsNext so_far err.old err.new err.faults.before err.faults.now (line_of path failure) next

-- these bytes were printed behind other lines, or a front of them, and then there is a line
abbrev pub PrintsNext : Told → List ℕ → Stream → Stream → Result Unit Failure → Type 0
PrintsNext so_far bytes out err (Ok _) = IsWritten out bytes × IsStill err
PrintsNext so_far bytes out err (Err failure) = (failure ≡ WriteFault) × IsCut out bytes × IsLast (codes "-") WriteFault err so_far

-- these bytes were printed, or a front of them, and then there is a line
abbrev pub PrintsTold : List ℕ → Stream → Stream → Result Unit Failure → Type 0
PrintsTold bytes out err (Ok _) = IsWritten out bytes × IsStill err
PrintsTold bytes out err (Err failure) = (failure ≡ WriteFault) × IsCut out bytes × Says err (line_of (codes "-") WriteFault ∷ [])

-- a text, seen by view, was printed, or why there is none was told, over the file of this path
abbrev pub PrintsOr : {X : Type 0} → (X → List ℕ) → List ℕ → Result X Failure → Stream → Stream → Result Unit Failure → Type 0
PrintsOr view path (Ok text) out err end = PrintsTold (view text) out err end
PrintsOr view path (Err failure) out err end = (end ≡ Err failure) × IsStill out × Says err (line_of path failure ∷ [])

-- a step that reads one file gives, seen by view, what is said here, unless a read failed or memory ran out
abbrev pub Yields : {X Y : Type 0} → (X → Y) → Result Y Failure → Count → Result X Failure → Type 0
Yields view said reads (Ok x) = (said ≡ Ok (view x)) × IsKept reads
Yields view said reads (Err ReadFault) = HasRisen reads
Yields view said reads (Err WriteFault) = ⊥
Yields view said reads (Err NoMemory) = IsKept reads
Yields view said reads (Err Differs) = ⊥
Yields view said reads (Err failure) = (said ≡ Err failure) × IsKept reads

-- what the store has under this path decides what a step gives
pub record YieldsOf {X Y : Type 0} (view : X → Y) (said : Option (List ℕ) → Result Y Failure) (told : Option Store) (path : List ℕ) (reads : Count) (result : Result X Failure) : Type 0 where
  pub file : Option (List ℕ)
  pub is_file : IfSome told (λ store. file ≡ file_in store path)
  pub yields : Yields view (said file) reads result

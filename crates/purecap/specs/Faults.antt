-- The status and the line of each failure.
use Rattle.std.specs.Prelude.{ℕ, false, List, ◌++◌, codes}
use Rattle.std.specs.Fmt.{digits}
use Rattle.cap_base.specs.Check.{check_text_of}
use Rattle.purecap.specs.declared.faults.Failure.{Failure}
use Rattle.cap_session.specs.declared.refusal.OpenCause.{OpenCause}
use Rattle.cap_session.specs.declared.refusal.OpenCause.TheVariants as causes
use Rattle.cap_session.specs.declared.refusal.OpenRefusal.{OpenRefusal}
use Rattle.purecap.specs.declared.faults.Failure.TheVariants.{Usage, NoFile, Malformed, Unsupported, Unresolved, Inexact, Full, Limit, ReadFault, WriteFault, NoMemory, NoWord, Differs}

-- the status of the process
abbrev pub status_of : Failure → ℕ
status_of Usage = 2
status_of NoFile = 3
status_of (Malformed check at) = 4
status_of (Unsupported check at) = 5
status_of (Unresolved name) = 6
status_of (Inexact name base len) = 7
status_of (Full asked) = 8
status_of (Limit check) = 9
status_of ReadFault = 10
status_of WriteFault = 11
status_of NoMemory = 12
status_of (NoWord slot) = 14
status_of Differs = 15

-- a line that names a file
abbrev pub file_line : List ℕ → List ℕ → List ℕ
file_line path what = codes "purecap: " ++ path ++ what

-- the line of a check of a file that failed at an offset
abbrev pub check_line : List ℕ → List ℕ → ℕ → ℕ → List ℕ
check_line path class check at = file_line path class ++ check_text_of check ++ codes " at 0x" ++ digits 16 false at ++ codes "\n"

-- the line of a name that nothing defines
abbrev pub name_line : List ℕ → List ℕ → List ℕ
name_line path name = file_line path (codes ": unresolved ") ++ name ++ codes "\n"

-- the line of an interval without exact bounds
abbrev pub interval_line : List ℕ → List ℕ → ℕ → ℕ → List ℕ
interval_line path name base len =
    file_line path (codes ": inexact ") ++ name ++ codes " 0x" ++ digits 16 false base ++ codes " 0x" ++ digits 16 false len ++ codes "\n"

-- the line of a file that has no room
abbrev pub full_line : List ℕ → ℕ → List ℕ
full_line path asked = file_line path (codes ": full, asked 0x") ++ digits 16 false asked ++ codes "\n"

-- the line of a slot without a tagged word
abbrev pub word_line : List ℕ → ℕ → List ℕ
word_line path slot = file_line path (codes ": no tagged word at 0x") ++ digits 16 false slot ++ codes "\n"

-- the line of a limit
abbrev pub limit_line : ℕ → List ℕ
limit_line check = codes "purecap: limit " ++ check_text_of check ++ codes "\n"

-- the line of a failure, where the file is the one of this path; standard output is `-`
abbrev pub line_of : List ℕ → Failure → List ℕ
line_of path Usage = codes "purecap: usage\n"
line_of path NoFile = file_line path (codes ": no such file\n")
line_of path (Malformed check at) = check_line path (codes ": malformed ") check at
line_of path (Unsupported check at) = check_line path (codes ": unsupported ") check at
line_of path (Unresolved name) = name_line path name
line_of path (Inexact name base len) = interval_line path name base len
line_of path (Full asked) = full_line path asked
line_of path (Limit check) = limit_line check
line_of path ReadFault = file_line path (codes ": read fault\n")
line_of path WriteFault = file_line path (codes ": write fault\n")
line_of path NoMemory = codes "purecap: out of memory\n"
line_of path (NoWord slot) = word_line path slot
line_of path Differs = file_line path (codes ": differs\n")

-- the failure of a start or a call
abbrev pub failure_of : OpenCause → Failure
failure_of causes.NoFile = NoFile
failure_of (causes.Malformed check at) = Malformed check at
failure_of (causes.Unsupported check at) = Unsupported check at
failure_of (causes.Unresolved name) = Unresolved name
failure_of (causes.Inexact name base len) = Inexact name base len
failure_of (causes.Full asked left) = Full asked
failure_of (causes.Limit check) = Limit check
failure_of causes.ReadFault = ReadFault
failure_of causes.NoMemory = NoMemory

-- the line of a refused start or call
abbrev pub refusal_line : OpenRefusal → List ℕ
refusal_line refusal = line_of refusal.path (failure_of refusal.cause)

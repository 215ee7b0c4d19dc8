-- The image in a file, and the texts that are made of it.
use Rattle.std.specs.Prelude.{ℕ, ◌^◌, nat_lt, List, length, Option, Some, None, Result, Ok, Err, if◌then◌else◌}
use Rattle.cap_base.specs.Check.{number_of, class_of}
use Rattle.cap_base.specs.Steps.{◌>>=◌}
use Rattle.cap_base.specs.declared.check.Check.TheVariants.{FileSize}
use Rattle.cap_base.specs.declared.check.Class.{Class}
use Rattle.cap_base.specs.declared.check.Class.TheVariants as classes
use Rattle.cap_base.specs.declared.refusal.Fault.{Fault}
use Rattle.cap_image.specs.Parts.{ImageParts}
use Rattle.cap_image.specs.Granules.{is_tagged_at}
use Rattle.cap_image.specs.Reading.{read_image}
use Rattle.cap_image.specs.Report.{report_of}
use Rattle.cap_reach.specs.Computed.{reach_of}
use Rattle.cap_reach.specs.Reach.{words_of}
use Rattle.cap_reach.specs.Report.{reach_report}
use Rattle.purecap.specs.declared.faults.Failure.{Failure}
use Rattle.purecap.specs.declared.faults.Failure.TheVariants.{NoFile, Malformed, Unsupported, Limit, NoWord}

-- the failure of a check, by its class
abbrev pub failure_by : Class → ℕ → ℕ → Failure
failure_by classes.Malformed check at = Malformed check at
failure_by classes.Unsupported check at = Unsupported check at
failure_by classes.Limit check at = Limit check

-- the failure of the check that a file fails first
abbrev pub check_failure : Fault → Failure
check_failure fault = failure_by (class_of fault.check) (number_of fault.check) fault.at

-- an image that was read, or the failure of the check that it fails first
abbrev pub image_or : Result ImageParts Fault → Result ImageParts Failure
image_or (Ok image) = Ok image
image_or (Err fault) = Err (check_failure fault)

-- the image that a file of these bytes is
abbrev pub file_image : List ℕ → Result ImageParts Failure
file_image bytes = if nat_lt (2 ^ 31) (length bytes) then Err (Limit (number_of FileSize)) else image_or (read_image bytes)

-- the image that the store has under a name, by what it has there
abbrev pub image_in : Option (List ℕ) → Result ImageParts Failure
image_in None = Err NoFile
image_in (Some bytes) = file_image bytes

-- the report of the image
abbrev pub shown : Option (List ℕ) → Result (List ℕ) Failure
shown file = image_in file >>= λ image. Ok (report_of image)

-- what is reached in an image from a slot that holds a tagged word
abbrev pub reached_in : ℕ → ImageParts → Result (List ℕ) Failure
reached_in slot image = if is_tagged_at image slot then Ok (reach_report image (reach_of (words_of image) slot)) else Err (NoWord slot)

abbrev pub reached : ℕ → Option (List ℕ) → Result (List ℕ) Failure
reached slot file = image_in file >>= λ image. reached_in slot image

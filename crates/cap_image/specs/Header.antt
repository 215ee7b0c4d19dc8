-- The header of an image: `PURECAPI`, the version and the number of objects.
use Rattle.std.specs.Prelude.{ℕ, not, ◌==◌, nat_le, nat_lt, List, length, take, codes, Result, Ok, Err, if◌then◌else◌}
use Rattle.std.specs.Str.{bytes_eq}
use Rattle.cap_base.specs.Field.{number_at}
use Rattle.cap_base.specs.Steps.{◌>>=◌, ◌>>◌, refuse, fault}
use Rattle.cap_base.specs.declared.check.Check.TheVariants.{ImageEnd, ImageMagic, ImageVersion, ImageObjects}
use Rattle.cap_base.specs.declared.refusal.Fault.{Fault}
use Rattle.cap_image.specs.declared.header.Version.{Version}
use Rattle.cap_image.specs.declared.header.Version.TheVariants.{One, Two}
use Rattle.cap_image.specs.declared.header.Header.{Header}

-- the image must reach up to this place
abbrev pub reaches : List ℕ → ℕ → Result (Unit {0}) Fault
reaches bytes place = refuse (not (nat_le place (length bytes))) ImageEnd (length bytes)

-- the version of this number
abbrev pub version_of : ℕ → Result Version Fault
version_of number = if number == 1 then Ok One else if number == 2 then Ok Two else Err (fault ImageVersion 8)

-- the version and the number of objects
unfoldable pub header_of : List ℕ → Result Header Fault
header_of bytes = do
  reaches bytes 8
  refuse (not (bytes_eq (take 8 bytes) (codes "PURECAPI"))) ImageMagic 0
  reaches bytes 12
  version ← version_of (number_at 4 bytes 8)
  reaches bytes 16
  refuse (nat_lt 256 (number_at 4 bytes 12)) ImageObjects 12
  Ok (record { version = version; count = number_at 4 bytes 12 })

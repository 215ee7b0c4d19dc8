-- Names in the string table.
use Rattle.std.specs.Prelude.{ℕ, Bool, not, ◌&&◌, ◌==◌, nat_lt, List, length, take, drop, position, unwrap_or, if◌then◌else◌, Option, Some, None}
use Rattle.cap_base.specs.Text.{is_plain}
use Rattle.std.specs.List.{list_any}

-- the bytes from a place in the string table on, up to the next zero byte
abbrev pub before_zero : List ℕ → List ℕ
before_zero bytes = take (unwrap_or (position (λ b. b == 0) bytes) (length bytes)) bytes

-- the name at an offset in the string table, None outside it
abbrev pub name_of : List ℕ → ℕ → Option (List ℕ)
name_of strings offset = if nat_lt offset (length strings) then Some (before_zero (drop offset strings)) else None

-- the bytes from an offset in the string table on, None outside it: a name, a zero byte, and what follows
abbrev pub rest_of : List ℕ → ℕ → Option (List ℕ)
rest_of strings offset = if nat_lt offset (length strings) then Some (drop offset strings) else None

-- a slash, which separates folders
abbrev pub has_slash : List ℕ → Bool
has_slash name = list_any (λ b. b == 47) name

-- the name of a file in a directory
abbrev pub is_file_name : List ℕ → Bool
is_file_name name = not (length name == 0) && is_plain name && not (has_slash name)

-- How many files were read, and how long their names are.
use Rattle.std.specs.Prelude.{ℕ, ◌+◌, ◌≤◌, List, length, All}
use Rattle.cap_link.specs.Inputs.{FilesRead}

abbrev pub IsShortName : List ℕ → Type 0
IsShortName name = length name ≤ 255

-- so many inputs were read
pub record AreRead (count : ℕ) (files : FilesRead) : Type 0 where
  pub files_few : length files.rels + length files.dyns ≤ count
  pub names_few : length files.needed ≤ count
  pub names_short : All IsShortName files.needed

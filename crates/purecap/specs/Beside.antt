-- The names that stand beside an output.
use Rattle.std.specs.Prelude.{ℕ, List, codes, decimal}
use Rattle.std.specs.Path.{path_with_file_name, path_set_extension}

-- the path of this number beside an output's
abbrev pub path_beside : List ℕ → ℕ → List ℕ
path_beside path number = path_set_extension (path_with_file_name path (codes ".purecap")) (decimal number)

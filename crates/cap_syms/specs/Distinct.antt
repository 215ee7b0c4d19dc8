-- Each item at its first appearance.
use Rattle.std.specs.Prelude.{Bool, List, [], ◌∷◌, ◌++◌, fold, if◌then◌else◌}
use Rattle.std.specs.List.{list_any}

-- the items so far, and one more where none of them is equal to it
abbrev pub with_new : {X : Type 0} → (X → X → Bool) → List X → X → List X
with_new eq xs x = if list_any (eq x) xs then xs else xs ++ x ∷ []

-- the items of a list, each at its first appearance
abbrev pub distinct : {X : Type 0} → (X → X → Bool) → List X → List X
distinct eq xs = fold (with_new eq) [] xs

-- The objects that are reached from one, in breadth-first order (System V gABI, dependency order).
use Rattle.std.specs.Prelude.{ℕ, zero, suc, List, [], ◌∷◌, ◌++◌, length, flat_map, slice_index_or, if◌then◌else◌}
use Rattle.cap_chain.specs.Adopted.{has}

-- the numbers that are not among these, each where it stands first
abbrev pub fresh : List ℕ → List ℕ → List ℕ
fresh seen [] = []
fresh seen (n ∷ ns) = if has n seen then fresh seen ns else n ∷ fresh (seen ++ n ∷ []) ns

-- what the objects of a list depend on, one after another: those that weren't seen before, each once
abbrev pub next_level : List (List ℕ) → List ℕ → List ℕ → List ℕ
next_level deps seen level = fresh seen (flat_map (λ i. slice_index_or deps i []) level)

-- this many levels: a level, and then those that are reached from it. Objects of one level are equally far from the
-- root, and stand in the order of those that they are reached from, and then of what these depend on
abbrev pub levels_from : ℕ → List (List ℕ) → List ℕ → List ℕ → List ℕ
levels_from zero deps seen level = level
levels_from (suc n) deps seen level =
    let next = next_level deps seen level in
    level ++ levels_from n deps (seen ++ next) next

-- the objects that are reached from one, in order of distance. No object is farther than there are objects
abbrev pub tree_of : List (List ℕ) → ℕ → List ℕ
tree_of deps root = levels_from (length deps) deps (root ∷ []) (root ∷ [])

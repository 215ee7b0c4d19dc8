-- The order of initial calls: depth-first post-order, by which an object comes behind those that it needs.
use Rattle.std.specs.Prelude.{◌≡◌, ℕ, zero, suc, ◌+◌, ◌-◌, ◌≤◌, Bool, true, false, not, ◌&&◌, ◌||◌, nat_lt, nat_le, List, [], ◌∷◌, ◌++◌, fold, flat_map, slice_index_or}
use Rattle.cap_chain.specs.Adopted.{has}

-- the objects that an object needs, in order
abbrev pub needs : List (List ℕ) → ℕ → List ℕ
needs deps i = slice_index_or deps i []

-- the objects of a group are those from one number up to another
abbrev pub is_member : ℕ → ℕ → ℕ → Bool
is_member from to i = nat_le from i && nat_lt i to

-- a walk passes over an object that is outside the group, or was begun: it stands on the path that led here, or was ended
abbrev pub is_passed : ℕ → ℕ → List ℕ → List ℕ → ℕ → Bool
is_passed from to path ended i = not (is_member from to i) || has i path || has i ended

-- a depth-first walk visits an object: it passes over it, or begins it, visits what the object needs, one after the
-- other, and ends it. Of the ended objects the last one stands last. The number bounds how deep the walk goes
abbrev pub visited : ℕ → List (List ℕ) → ℕ → ℕ → List ℕ → List ℕ → ℕ → List ℕ
visited zero deps from to path ended i = ended
visited (suc depth) deps from to path ended i =
    elim (is_passed from to path ended i) [
      | true ↦ ended
      | false ↦ fold (λ e j. visited depth deps from to (i ∷ path) e j) ended (needs deps i) ++ i ∷ []
    ]

-- the objects of a group in the order in which a depth-first walk from its first one ends them. No path is longer than
-- the group
abbrev pub post_of : List (List ℕ) → ℕ → ℕ → List ℕ
post_of deps from to = visited (to - from) deps from to [] [] from

-- the groups of so many objects: from each start up to the next one, or to the end
abbrev pub groups_of : List ℕ → ℕ → List (ℕ × ℕ)
groups_of [] count = []
groups_of (from ∷ []) count = (from, count) ∷ []
groups_of (from ∷ to ∷ starts) count = (from, to) ∷ groups_of (to ∷ starts) count

-- all objects, group by group
abbrev pub init_order : List (List ℕ) → List ℕ → ℕ → List ℕ
init_order deps starts count = flat_map (λ g. post_of deps g.0 g.1) (groups_of starts count)

-- the numbers ascend, from one on and up to a limit
abbrev pub AscendFrom : ℕ → List ℕ → ℕ → Type 0
AscendFrom from [] limit = from ≤ limit
AscendFrom from (n ∷ ns) limit = (from ≤ n) × AscendFrom (n + 1) ns limit

-- the starts of the groups of so many objects: 0, and then others, ascending, below the number of objects
abbrev pub AreStarts : List ℕ → ℕ → Type 0
AreStarts starts count = (rest : List ℕ) × (starts ≡ 0 ∷ rest) × AscendFrom 1 rest count

-- A walk part way: its path from the first object on, what is left of it, and how much work that is.
use Rattle.std.specs.Prelude.{◌≡◌, ℕ, ◌+◌, ◌-◌, ◌<◌, Bool, false, not, ◌||◌, List, [], ◌∷◌, ◌++◌, length, drop, fold, slice_index_or, All, if◌then◌else◌}
use Rattle.cap_chain.specs.Adopted.{has}
use Rattle.cap_init.specs.declared.walk.Frame.{Frame}
use Rattle.cap_init.specs.Post.{is_member, needs, post_of, visited}

-- the objects of a path behind those of another, the last one first
abbrev pub climbed : List ℕ → List Frame → List ℕ
climbed path [] = path
climbed path (f ∷ fs) = climbed (f.object ∷ path) fs

-- visiting an object, as deep as the group allows
unfoldable pub visit : List (List ℕ) → ℕ → ℕ → List ℕ → List ℕ → ℕ → List ℕ
visit deps from to path ended i = visited (to - from) deps from to path ended i

-- what is left of an object behind a path: the rest of what it needs is visited, and then it is ended
unfoldable pub left_of : List (List ℕ) → ℕ → ℕ → List ℕ → Frame → List ℕ → List ℕ
left_of deps from to path f ended =
    fold (λ e j. visit deps from to (f.object ∷ path) e j) ended (drop f.next (needs deps f.object)) ++ f.object ∷ []

-- what is left of a path of frames behind another path: the last object is ended first
unfoldable pub finished : List (List ℕ) → ℕ → ℕ → List ℕ → List Frame → List ℕ → List ℕ
finished deps from to path [] ended = ended
finished deps from to path (f ∷ fs) ended = left_of deps from to path f (finished deps from to (f.object ∷ path) fs ended)

-- the flags of a group tell that a walk passes over an object
abbrev pub is_begun : ℕ → ℕ → List Bool → ℕ → Bool
is_begun from to begun i = not (is_member from to i) || slice_index_or begun (i - from) false

-- a walk part way: the flags tell which objects were begun, those of the path are objects, and what is left of the path
-- leads to the order
pub record IsWalk (deps : List (List ℕ)) (from to : ℕ) (begun : List Bool) (path : List Frame) (ended : List ℕ) : Type 0 where
  pub long : from + length begun ≡ to
  pub flags : (k : ℕ) → k < length begun → slice_index_or begun k false ≡ (has (from + k) (climbed [] path) || has (from + k) ended)
  pub inside : All (λ f. f.object < length deps) path
  pub rest : finished deps from to [] path ended ≡ post_of deps from to

-- the steps that the objects of a group take that are not begun, from a number on: two each, and one for each that it
-- needs
unfoldable pub unbegun_steps : List (List ℕ) → ℕ → List Bool → ℕ
unbegun_steps deps from [] = 0
unbegun_steps deps from (b ∷ bs) = (if b then 0 else length (needs deps from) + 2) + unbegun_steps deps (from + 1) bs

-- the steps that are left of a path
unfoldable pub path_steps : List (List ℕ) → List Frame → ℕ
path_steps deps [] = 0
path_steps deps (f ∷ fs) = length (needs deps f.object) - f.next + 1 + path_steps deps fs

abbrev pub steps_left : List (List ℕ) → ℕ → List Bool → List Frame → ℕ
steps_left deps from begun path = unbegun_steps deps from begun + path_steps deps path

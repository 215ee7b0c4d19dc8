-- Laws of a list of words that is put in order by its owners: what a run of stores leaves.
use Rattle.std.specs.Prelude.{◌≡◌, ℕ, ◌<◌, All, List, [], ◌∷◌, ◌++◌, filter, find, is_some}
use Rattle.std.specs.List.{list_any}
use Rattle.cap_mem.specs.Tagged.{TaggedWord, is_of, stands_at, by_owner, entered}

-- a store after others leaves all of them in order
abbrev pub StoresStayInOrder : Type 0
StoresStayInOrder = (words : List TaggedWord) (w : TaggedWord) → w.cap.owner < 256 → entered (by_owner words) w ≡ by_owner (words ++ w ∷ [])

-- the list of an owner has its words in the order in which they came
abbrev pub ListsKeepOrder : Type 0
ListsKeepOrder = (owner : ℕ) (words : List TaggedWord) → owner < 256 → filter (is_of owner) (by_owner words) ≡ filter (is_of owner) words

-- a granule is tagged exactly where one of the words stands there
abbrev pub TagsAreOfWords : Type 0
TagsAreOfWords =
    (granule : ℕ) (words : List TaggedWord) → All (λ w. w.cap.owner < 256) words → is_some (find (stands_at granule) (by_owner words)) ≡ list_any (stands_at granule) words

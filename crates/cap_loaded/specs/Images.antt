-- The image of the state that a start and calls lead to.
use Rattle.std.specs.Prelude.{◌≡◌, ℕ, ◌-◌, true, List, map, All, Ok}
use Rattle.cap_base.specs.Outside.{Store}
use Rattle.cap_own.specs.Cap.{word_of_cap}
use Rattle.cap_mem.specs.Held.{cap_in}
use Rattle.cap_mem.specs.Tagged.{TaggedWord, word_in}
use Rattle.cap_image.specs.Accepted.{IsReadObject}
use Rattle.cap_image.specs.Granules.{is_tagged_at, object_at}
use Rattle.cap_image.specs.Parts.{ImageParts, IsImage}
use Rattle.cap_image.specs.Reading.{read_image}
use Rattle.cap_image.specs.Writing.{image_of, image_bytes}
use Rattle.cap_scope.specs.declared.choice.Rule.{Rule}
use Rattle.cap_session.specs.Calls.{Call, outcome_of}
use Rattle.cap_session.specs.Held.{state_symbols}
use Rattle.cap_session.specs.Loading.{fetch_from}
use Rattle.cap_session.specs.Mappings.{IsName}
use Rattle.cap_session.specs.State.{State, memories_of}

-- the image of a state
abbrev pub state_image : State → ImageParts
state_image state = image_of (map (λ o. (o.name, true)) state.objects) (state_symbols state) (memories_of state)

-- a start over these files and calls lead to the state, and their words are names
pub record LeadsTo (store : Store) (dir main : List ℕ) (rule : Rule) (calls : List Call) (state : State) : Type 0 where
  pub main_is : IsName main
  pub calls_are : All (λ call. IsName call.name) calls
  pub «end» : (outcome_of (fetch_from store) dir main rule calls).«end» ≡ Ok state

-- an image is read back from the bytes that are written of it, and its objects are as those of a file that was read
pub record IsReadBack (image : ImageParts) : Type 0 where
  pub is_image : IsImage image
  pub read : read_image (image_bytes image) ≡ Ok image
  pub objects : All IsReadObject image.objects

-- the image of each state that a start and calls lead to is one
abbrev pub StatesAreReadBack : Type 0
StatesAreReadBack =
    (store : Store) (dir main : List ℕ) (rule : Rule) (calls : List Call) (state : State) → LeadsTo store dir main rule calls state → IsReadBack (state_image state)

-- the granule of a word is tagged in an image, and the 16 bytes that the image has there are the word of its capability,
-- and decode to it
pub record HoldsWord (image : ImageParts) (w : TaggedWord) : Type 0 where
  pub tagged : is_tagged_at image w.granule ≡ true
  pub word : word_in (object_at image w.granule).bytes (w.granule - (object_at image w.granule).base) ≡ word_of_cap w.cap
  pub decodes : cap_in (object_at image w.granule).bytes (w.granule - (object_at image w.granule).base) w.cap.owner ≡ w.cap

-- the image of each state that a start and calls lead to has each word of its memories
abbrev pub StatesHoldWords : Type 0
StatesHoldWords =
    (store : Store) (dir main : List ℕ) (rule : Rule) (calls : List Call) (state : State) → LeadsTo store dir main rule calls state → All (λ m. All (HoldsWord (state_image state)) m.words) (memories_of state)

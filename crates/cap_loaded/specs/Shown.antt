-- What the image of a state shows of each loaded object.
use Rattle.std.specs.Prelude.{◌≡◌, ℕ, ◌+◌, ◌*◌, ◌<◌, true, false, All, List, length, slice_index, slice_index_or}
use Rattle.std.specs.List.{list_any}
use Rattle.cap_base.specs.Outside.{Store}
use Rattle.cap_map.specs.Mapped.{mapped_byte}
use Rattle.cap_scope.specs.declared.choice.Rule.{Rule}
use Rattle.cap_reloc.specs.Meant.{has_slot}
use Rattle.cap_reloc.specs.Shown.{HoldsMeant, names_at}
use Rattle.cap_reloc.specs.Wanted.{Setting, relocations_of, touches}
use Rattle.cap_image.specs.Parts.{ImageObject, ImageParts, no_object, tag_in}
use Rattle.cap_session.specs.Binding.{objects_of, setting_of}
use Rattle.cap_session.specs.Bound.{IsBoundAt}
use Rattle.cap_session.specs.Calls.{Call}
use Rattle.cap_session.specs.Loading.{Fetch, Loaded, fetch_from, records_of}
use Rattle.cap_session.specs.State.{State}
use Rattle.cap_loaded.specs.Images.{LeadsTo, state_image}

-- an object of an image is a loaded one as its relocations mean it: a granule is tagged exactly where one of them names a
-- capability for it; each slot holds what its relocation means; and each other byte is that of the object's file, or 0
pub record Shows (image : ImageParts) (shown : ImageObject) (s : Setting) (o : Loaded) : Type 0 where
  pub name : shown.name ≡ o.name
  pub base : shown.base ≡ o.base
  pub size : length shown.bytes ≡ (records_of o).span
  pub tags : (k : ℕ) → 16 * k < length shown.bytes → tag_in image (o.base + 16 * k) ≡ list_any (names_at s (16 * k)) (relocations_of (records_of o))
  pub slots : All (λ r. has_slot r ≡ true → HoldsMeant s shown.bytes r) (relocations_of (records_of o))
  pub others : (at : ℕ) → at < length shown.bytes → touches (at, 1) (relocations_of (records_of o)) ≡ false → slice_index shown.bytes at ≡ mapped_byte o.source.bytes (records_of o).segments at

-- so is the object of that number, in the setting in which the start or the call that loaded it relocated it
pub record ShowsAt (image : ImageParts) (fetch : Fetch) (dir main : List ℕ) (rule : Rule) (calls : List Call) (state : State) (i : ℕ) (o : Loaded) : Type 0 where
  pub bound : IsBoundAt fetch dir main rule calls state i
  pub shows : Shows image (slice_index_or image.objects i no_object) (setting_of rule (objects_of bound.objects) bound.start_count bound.openings i) o

-- an image has the objects of a state, in their order, and no other
pub record ShowsState (image : ImageParts) (fetch : Fetch) (dir main : List ℕ) (rule : Rule) (calls : List Call) (state : State) : Type 0 where
  pub count : length image.objects ≡ length state.objects
  pub each : (i : ℕ) (d : Loaded) → i < length state.objects → ShowsAt image fetch dir main rule calls state i (slice_index_or state.objects i d)

-- so does the image of each state that a start and calls lead to
abbrev pub StatesAreShown : Type 0
StatesAreShown =
    (store : Store) (dir main : List ℕ) (rule : Rule) (calls : List Call) (state : State) → LeadsTo store dir main rule calls state → ShowsState (state_image state) (fetch_from store) dir main rule calls state

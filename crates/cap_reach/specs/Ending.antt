-- How reaching ends.
use Rattle.std.specs.Prelude.{◌≡◌, ℕ, true, false, List, Result, Ok, Err, All}
use Rattle.cap_image.specs.Parts.{ImageParts}
use Rattle.cap_image.specs.Granules.{is_tagged_at}
use Rattle.cap_reach.specs.declared.reaching.ReachRefusal.{ReachRefusal}
use Rattle.cap_reach.specs.declared.reaching.ReachRefusal.TheVariants.{NotTagged, NoMemory}
use Rattle.cap_reach.specs.Reach.{IsReach, words_of}

-- the granules are those of tagged words of the image
abbrev pub AreTagged : ImageParts → List ℕ → Type 0
AreTagged image slots = All (λ slot. is_tagged_at image slot ≡ true) slots

-- from a slot that is tagged, all that is reached; none from another; and memory may run out
abbrev pub Reaches : ImageParts → ℕ → Result (List ℕ) ReachRefusal → Type 0
Reaches image slot (Ok slots) = (is_tagged_at image slot ≡ true) × IsReach (words_of image) slot slots
Reaches image slot (Err (NotTagged at)) = (at ≡ slot) × (is_tagged_at image slot ≡ false)
Reaches image slot (Err NoMemory) = Unit {0}

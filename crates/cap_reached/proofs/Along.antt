-- What is reached is reached along relocations that the loaded objects name.
use Rattle.std.proofs.Common.{ℕ, List}
use Rattle.cap_image.specs.Parts.{IsImage}
use Rattle.cap_reach.specs.Reach.{Reached, words_of}
use Rattle.cap_reach.specs.Reach.Reached.{at_start, by_load}
use Rattle.cap_scope.specs.declared.choice.Rule.{Rule}
use Rattle.cap_session.specs.Calls.{Call}
use Rattle.cap_session.specs.Loading.{Fetch}
use Rattle.cap_session.specs.State.{State}
use Rattle.cap_loaded.specs.Images.{state_image}
use Rattle.cap_loaded.specs.Shown.{ShowsState}
use Rattle.cap_reached.specs.Leading.{HoldsGranule, Leads}
use Rattle.cap_reached.specs.Leading.Leads.{along, stays}
use Rattle.cap_reached.proofs.Steps.{StepLaws, step-named}

module _ (laws : StepLaws) (fetch : Fetch) (dir main : List ℕ) (rule : Rule) (calls : List Call) (state : State) (is : IsImage (state_image state)) (shows : ShowsState (state_image state) fetch dir main rule calls state) (start i : ℕ) (h : HoldsGranule state i start) where
  pub reached-along : (to : ℕ) → Reached (words_of (state_image state)) start to → (j : ℕ) × HoldsGranule state j to × Leads fetch dir main rule calls state i j
  reached-along _ at_start = (i, h, stays)
  reached-along _ (by_load from to before here there loaded) =
      let last = reached-along from.granule before in
      let step = step-named laws fetch dir main rule calls state is shows from to last.0 here loaded last.1 in
      (step.0, step.1.lands, along last.0 step.0 _ step.1.cap last.2 step.1.names step.1.owner)

use Rattle.cap_session.specs.Loading.{fetch_from}
use Rattle.cap_reached.proofs.Along.{reached-along}
use Rattle.cap_reached.proofs.Steps.{StepLaws, step-named}
use Rattle.cap_reached.proofs.laws.reached_laws.Goals as goal

pub returns-clause-steps : goal.returns-clause-steps
returns-clause-steps c = λ store dir main rule calls state from to i leads.
    let granules = c.granule_laws.ensures in
    let laws : StepLaws = record { computed = c.computed_laws.ensures; tagged = granules.tagged; listed = granules.objects; held = granules.held } in
    let loaded = c.loaded_laws.ensures in
    step-named laws (fetch_from store) dir main rule calls state (loaded.reads_back store dir main rule calls state leads).is_image (loaded.shown store dir main rule calls state leads) from to i

pub returns-clause-along : goal.returns-clause-along
returns-clause-along c = λ store dir main rule calls state start to i leads h reached.
    let granules = c.granule_laws.ensures in
    let laws : StepLaws = record { computed = c.computed_laws.ensures; tagged = granules.tagged; listed = granules.objects; held = granules.held } in
    let loaded = c.loaded_laws.ensures in
    reached-along laws (fetch_from store) dir main rule calls state (loaded.reads_back store dir main rule calls state leads).is_image (loaded.shown store dir main rule calls state leads) start i h to reached

use Rattle.std.proofs.Common.{◌<◌, OnOk, length, subst}
use Rattle.std.specs.Prelude.{slice_index}
use Rattle.cap_conc.specs.declared.word.Fields.{Fields}
use Rattle.cap_reach.specs.Places.{Gives}
use Rattle.cap_reach.specs.Work.{Grows}
use Rattle.cap_reach.proofs.loading.follow.Goals as goal

pub returns-clause-found : goal.returns-clause-found
returns-clause-found c =
    subst (λ (f : Fields). OnOk c.follow_fields.result (Grows (λ k. (k < length c.args.granules.now) × Gives f (slice_index c.args.granules.now k)) (length c.args.granules.now) c.args.work.now.found.items c.follow_fields.new.work.found.items))
    c.decode.ensures.value c.follow_fields.ensures.found

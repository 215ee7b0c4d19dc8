use Rattle.cap_image.proofs.GranuleList.{granules_ascend, granules_are_few, granules_are_tagged, granules_have_objects, held_have_objects}
use Rattle.cap_image.proofs.granules.granule_laws.Goals as goal

pub returns : goal.returns
returns c = record {
  ascend = granules_ascend;
  few = granules_are_few;
  tagged = granules_are_tagged;
  objects = granules_have_objects;
  held = held_have_objects;
}

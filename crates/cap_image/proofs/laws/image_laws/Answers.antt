use Rattle.cap_image.proofs.ImageOf.{objects_are, tags_are, tags_read, words_are}
use Rattle.cap_image.proofs.FieldBytes.{fields_are}
use Rattle.cap_image.proofs.Accepted.{accepted_written, accepted_objects}
use Rattle.cap_image.proofs.laws.image_laws.Goals as goal

pub returns-clause-objects : goal.returns-clause-objects
returns-clause-objects c = objects_are

pub returns-clause-tags : goal.returns-clause-tags
returns-clause-tags c = tags_are

pub returns-clause-words : goal.returns-clause-words
returns-clause-words c = words_are

pub returns-clause-read : goal.returns-clause-read
returns-clause-read c = tags_read

pub returns-clause-fields : goal.returns-clause-fields
returns-clause-fields c = fields_are

pub returns-clause-accepted : goal.returns-clause-accepted
returns-clause-accepted c = accepted_written

pub returns-clause-accepted_objects : goal.returns-clause-accepted_objects
returns-clause-accepted_objects c = accepted_objects

-- One object of an image, and where its word records are found.
use Rattle.std.specs.Prelude.{◌<◌, length}
use Rattle.cap_image.specs.Parts.{ImageObject}
use Rattle.cap_image.specs.Entries.{AreEntries}
use Rattle.cap_audit.specs.declared.object.Object.TheInside.{Inside}
use Rattle.cap_audit.specs.Findings.{object_at}

abbrev pub object_in : Inside → ImageObject
object_in o = object_at o.image.now o.number

-- the image has it, and the table leads from its granules to their word records
pub record IsObjectIn (o : Inside) : Type 0 where
  pub inside : o.number < length o.image.now.objects
  pub entries : AreEntries (object_at o.image.now o.number) 0 o.entries.items

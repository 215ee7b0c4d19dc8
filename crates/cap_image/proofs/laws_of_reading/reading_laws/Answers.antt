use Rattle.cap_image.proofs.MadeImages.{are_images, are_read}
use Rattle.cap_image.proofs.ReadBackImage.{read_back}
use Rattle.cap_image.proofs.laws_of_reading.reading_laws.Goals as goal

pub returns-clause-reads_back : goal.returns-clause-reads_back
returns-clause-reads_back c = read_back

pub returns-clause-are_images : goal.returns-clause-are_images
returns-clause-are_images c = are_images

pub returns-clause-are_read : goal.returns-clause-are_read
returns-clause-are_read c = are_read

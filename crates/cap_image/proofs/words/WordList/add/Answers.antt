use Rattle.cap_image.proofs.Listing.{listed_more}
use Rattle.cap_image.proofs.words.WordList.add.Goals as goal

pub returns-clause-sound : goal.returns-clause-sound
returns-clause-sound c = listed_more _ _ _ _ _ _ _ c.in_ok-push.ensures c.requires.sound c.in_ok-next.ensures.sound c.in_ok-next.ensures.behind

use Rattle.std.proofs.Common.{rules}
use Rattle.cap_image.proofs.Sound.{is_word}
use Rattle.cap_image.proofs.image.Image.word.Goals as goal

pub returns-clause-sound : goal.returns-clause-sound
returns-clause-sound c = is_word c.args.self.now c.args.i c.args.k (search rules) c.requires.object c.requires.word

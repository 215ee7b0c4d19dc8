use Rattle.std.proofs.Common.{rules}
use Rattle.cap_image.specs.Bodies.{IsInside}
use Rattle.cap_image.proofs.Listing.{all_more}
use Rattle.cap_image.proofs.bodies.BodyList.add.Goals as goal

pub returns-clause-inside : goal.returns-clause-inside
returns-clause-inside c = all_more (IsInside c.args.bytes.now) c.args.self.now.items c.push.new.self.items c.in_ok-next.next (search rules) c.requires.inside c.in_ok-next.ensures.inside

use Rattle.std.proofs.Common.{◌+◌, ◌/◌, ◌≤◌, length, rules}
use Rattle.cap_image.specs.Words.{HaveBeenRead}
use Rattle.cap_image.specs.Bodies.{BodyParts, tags_at}
use Rattle.cap_image.proofs.Listing.{has_words}
use Rattle.cap_image.proofs.bodies.read_body.Goals as goal

pub returns-clause-words : goal.returns-clause-words
returns-clause-words c =
    let bytes = c.args.bytes.now in
    let of = c.args.of.now in
    let body : BodyParts = record { of = of; bytes_at = c.args.at; words = c.words.inside.items.items; ends_at = c.words.inside.at } in
    let ends : body.bytes_at + of.size + of.size / 128 ≤ length bytes = search rules in
    let read : HaveBeenRead c.args.version bytes c.args.count of (tags_at bytes c.args.at of.size) body.words = search rules in
    has_words bytes body c.requires ends c.args.version c.args.count read

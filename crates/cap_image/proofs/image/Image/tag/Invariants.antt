use Rattle.std.proofs.Common.{◌≡◌, drop}
use Rattle.std.specs.List.{list_any}
use Rattle.cap_image.specs.Parts.{is_tagged_in, tag_in}
use Rattle.cap_image.specs.Bodies.{object_in}
use Rattle.cap_image.proofs.image.Image.tag.Given as goal

abbrev pub invariant-loop-body : goal.invariant-loop-body
invariant-loop-body l =
    list_any (λ body. is_tagged_in l.at (object_in l.self-inside.bytes.items body)) (drop l.body-index l.self-inside.bodies.items) ≡ tag_in l.self l.at

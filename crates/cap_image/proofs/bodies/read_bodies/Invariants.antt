use Rattle.std.proofs.Common.{◌≡◌, drop, take, map}
use Rattle.std.specs.Prelude.{All}
use Rattle.cap_base.specs.Steps.{steps}
use Rattle.cap_image.specs.Parts.{interval_of}
use Rattle.cap_image.specs.Records.{interval_at}
use Rattle.cap_image.specs.Bodies.{add_body, bodies_of, object_in, HasWordsIn, IsInside}
use Rattle.cap_image.proofs.bodies.read_bodies.Given as goal

abbrev pub invariant-loop-of : goal.invariant-loop-of
invariant-loop-of l = record {
  so_far : steps (add_body l.version l.bytes l.count) l.bodies (drop l.of-index l.records) ≡ bodies_of l.version l.bytes l.count l.records l.fn.at;
  inside : All (IsInside l.bytes) l.bodies.items;
  words : All (HasWordsIn l.version l.bytes l.count) l.bodies.items;
  intervals : map interval_of (map (object_in l.bytes) l.bodies.items) ≡ map interval_at (take l.of-index l.records);
}

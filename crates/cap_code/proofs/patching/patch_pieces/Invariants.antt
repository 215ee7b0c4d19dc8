use Rattle.std.proofs.Common.{◌≡◌, drop}
use Rattle.std.specs.Prelude.{filter}
use Rattle.cap_base.specs.Steps.{steps}
use Rattle.cap_table.specs.Bodies.{AreLong}
use Rattle.cap_code.specs.Values.{is_patched}
use Rattle.cap_code.specs.Patched.{patch_step}
use Rattle.cap_code.proofs.patching.patch_pieces.Given as goal

abbrev pub invariant-loop-k : goal.invariant-loop-k
invariant-loop-k l = record {
  so_far : steps (patch_step l.scene) l.bodies.pieces (filter (is_patched l.scene.named) (drop l.k l.scene.lists.plan.steps)) ≡ steps (patch_step l.scene) l.initial.bodies.pieces (filter (is_patched l.scene.named) l.scene.lists.plan.steps);
  rest : l.bodies ≡ record l.initial.bodies { pieces = l.bodies.pieces };
  long : AreLong l.scene.laid.pieces.all l.scene.lists.plan l.bodies;
}

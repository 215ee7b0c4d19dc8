use Rattle.std.proofs.Common.{◌≡◌, ◌*◌, length, take}
use Rattle.std.specs.List.{flat_map}
use Rattle.cap_code.specs.Patched.{stub_bytes}
use Rattle.cap_code.proofs.writing.write_stubs.Given as goal

abbrev pub invariant-loop-k : goal.invariant-loop-k
invariant-loop-k l = record {
  written : take (16 * l.k) l.bodies.stubs ≡ flat_map (stub_bytes l.scene.lists) (take l.k l.scene.lists.plan.stubs);
  long : length l.bodies.stubs ≡ length l.initial.bodies.stubs;
  rest : l.bodies ≡ record l.initial.bodies { stubs = l.bodies.stubs };
}

use Rattle.std.proofs.Common.{refl, arith}
use Rattle.cap_image_tests.proofs.OneMemory.{stored_alone}
use Rattle.cap_image_tests.proofs.writing_tests.memory_of.Goals as goal

pub returns : goal.returns
returns g c = stored_alone _ _ _ _ _ _ _ c.store_cap.ensures c.in_ok-memory.ensures (omega arith) refl

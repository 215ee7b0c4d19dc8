use Rattle.std.proofs.Common.{ap, List}
use Rattle.cap_mem.specs.Tagged.{TaggedWord}
use Rattle.cap_image.specs.WordWalk.{founds_of}
use Rattle.cap_image.proofs.WordOrder.{from_start}
use Rattle.cap_image.proofs.word_walk.WordWalk.new.Goals as goal

pub returns : goal.returns
returns c = ap (λ (ws : List TaggedWord). founds_of ws) (from_start c.args.memory.now c.first_from-next.result c.requires c.first_from-next.ensures.value)

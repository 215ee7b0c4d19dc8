use Rattle.std.proofs.Common.{List, ℕ, ◌++◌, refl, sym, ap, ◌∙◌}
use Rattle.cap_image.specs.MemoryParts.{body_for}
use Rattle.cap_image.proofs.MemoryBytes.{bodies_more}
use Rattle.cap_image.proofs.SoundMemories.{sound_more, all_sound}
use Rattle.cap_image.proofs.writing.push_bodies.Goals as goal

pub loop-memory-preserved : goal.loop-memory-preserved
loop-memory-preserved c =
    let l = c.loop-memory in
    let memory = c.memory-item.result in
    let ensures = c.in_ok-push_body.ensures in
    record {
      text =
          ensures.value ∙ ap (λ (text : List ℕ). text ++ body_for c.args.symbols.now memory) l.invariant.text
          ∙ sym (bodies_more c.args.text.now.items c.args.symbols.now c.args.memories.now l.memory-index _ memory refl c.loop-memory-test.true c.memory-item.is);
      sound = sound_more c.args.memories.now l.memory-index _ memory refl c.loop-memory-test.true c.memory-item.is ensures.sound l.invariant.sound;
    }

pub returns-clause-sound : goal.returns-clause-sound
returns-clause-sound c = all_sound c.args.memories.now c.loop-memory.memory-index c.loop-memory-test.false c.loop-memory.invariant.sound

use Rattle.std.proofs.Common.{ap, sym, ◌∙◌, ℕ}
use Rattle.std.specs.Prelude.{Option}
use Rattle.cap_image.specs.WordWalk.{founds_of, words_from}
use Rattle.cap_image.proofs.WordOrder.{walk_step}
use Rattle.cap_image.proofs.word_walk.WordWalk.take.Goals as goal

pub returns : goal.returns
returns c =
    let m = c.self.inside.memory.now in
    sym c.self.view_is
    ∙ ap (λ (o : Option ℕ). founds_of (words_from o m.words)) c.in_ok-granule.was
    ∙ walk_step m c.in_ok-granule.granule c.in_ok-note.note c.word_after-self-inside.result c.self.invariant.sound (sym c.in_ok-note.ensures) c.word_after-self-inside.ensures.value

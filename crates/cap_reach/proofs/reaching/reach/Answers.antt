use Rattle.std.proofs.Common.{length, sym, ap, ◌∙◌}
use Rattle.cap_reach.proofs.Collected.{as_many_words, slot_tagged, words_reached, all_tagged, reach_is}
use Rattle.cap_reach.proofs.reaching.reach.Goals as goal

pub slots_reached-requires-clause-as_many : goal.slots_reached-requires-clause-as_many
slots_reached-requires-clause-as_many c =
    ap length (c.deref-in-Some-2.ensures.value ∙ c.in_ok-all.ensures.words) ∙ as_many_words c.args.image.now
    ∙ sym (ap length (c.deref-in-Some.ensures.value ∙ c.in_ok-all.ensures.granules))

pub returns-in-Some-clause-reach : goal.returns-in-Some-clause-reach
returns-in-Some-clause-reach c = (
  slot_tagged c.args.image.now _ c.in-Some.start c.args.slot c.granule_laws.ensures.tagged c.tagged_words.ensures.sound (c.deref.ensures.value ∙ c.in_ok-all.ensures.granules) c.in-Some.ensures.0 c.in-Some.ensures.1,
  words_reached c.args.image.now _ _ _ c.in-Some.start c.args.slot _ (c.deref.ensures.value ∙ c.in_ok-all.ensures.granules) (c.deref-in-Some.ensures.value ∙ c.in_ok-all.ensures.granules) (c.deref-in-Some-2.ensures.value ∙ c.in_ok-all.ensures.words) c.in-Some.ensures.1 c.in_ok-slots_reached-in-Some.ensures,
)

pub returns-in-Some-clause-tagged : goal.returns-in-Some-clause-tagged
returns-in-Some-clause-tagged c =
    all_tagged c.args.image.now c.args.slot _ c.granule_laws.ensures.tagged c.tagged_words.ensures.sound (returns-in-Some-clause-reach c).0 (returns-in-Some-clause-reach c).1

pub returns-in-Some-clause-value : goal.returns-in-Some-clause-value
returns-in-Some-clause-value c =
    let found = returns-in-Some-clause-reach c in
    reach_is c.args.image.now c.args.slot _ c.granule_laws.ensures.tagged c.granule_laws.ensures.ascend c.tagged_words.ensures.sound found.0 found.1

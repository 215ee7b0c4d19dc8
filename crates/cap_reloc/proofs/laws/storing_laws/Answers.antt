use Rattle.cap_reloc.proofs.StoredLaws.{tags_are, words_are, capabilities_stand, bytes_are_words, lists_are, slots_filled, others_stay, size_stays}
use Rattle.cap_reloc.proofs.Shown.{stored_meant}
use Rattle.cap_reloc.proofs.SoundStored.{stored_noted, stored_sound}
use Rattle.cap_reloc.proofs.laws.storing_laws.Goals as goal

pub returns-clause-tags : goal.returns-clause-tags
returns-clause-tags c = tags_are c.order_laws.ensures.tags

pub returns-clause-words : goal.returns-clause-words
returns-clause-words c = words_are c.order_laws.ensures.tags

pub returns-clause-capabilities : goal.returns-clause-capabilities
returns-clause-capabilities c = capabilities_stand c.order_laws.ensures.tags

pub returns-clause-bytes : goal.returns-clause-bytes
returns-clause-bytes c = bytes_are_words

pub returns-clause-lists : goal.returns-clause-lists
returns-clause-lists c = lists_are c.order_laws.ensures.lists

pub returns-clause-slots : goal.returns-clause-slots
returns-clause-slots c = slots_filled

pub returns-clause-others : goal.returns-clause-others
returns-clause-others c = others_stay

pub returns-clause-size : goal.returns-clause-size
returns-clause-size c = size_stays

pub returns-clause-sound : goal.returns-clause-sound
returns-clause-sound c = λ roots pairs memory low sound none inside apart narrowed. stored_sound c.grant_laws.ensures roots pairs memory low sound inside apart narrowed

pub returns-clause-noted : goal.returns-clause-noted
returns-clause-noted c = stored_noted

pub returns-clause-meant : goal.returns-clause-meant
returns-clause-meant c = stored_meant c.order_laws.ensures.tags c.grant_laws.ensures

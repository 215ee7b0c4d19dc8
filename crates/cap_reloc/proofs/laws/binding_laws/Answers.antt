use Rattle.cap_reloc.proofs.FromPlan.{sound_pairs, narrowed_pairs, data_pairs, slots_in}
use Rattle.cap_reloc.proofs.SoundPlan.{pairs_say}
use Rattle.cap_reloc.proofs.Meant.{pairs_are_meant}
use Rattle.cap_reloc.proofs.NotedWords.{notes_are_symbols, placed_names}
use Rattle.cap_reloc.proofs.laws.binding_laws.Goals as goal

pub returns-clause-narrowed : goal.returns-clause-narrowed
returns-clause-narrowed c = λ roots setting pairs placed is. narrowed_pairs roots setting pairs (sound_pairs roots setting pairs placed is)

pub returns-clause-apart : goal.returns-clause-apart
returns-clause-apart c = λ roots setting pairs placed is. (sound_pairs roots setting pairs placed is).apart

pub returns-clause-inside : goal.returns-clause-inside
returns-clause-inside c = λ roots setting pairs memory placed is memory_is. slots_in roots setting pairs memory placed (sound_pairs roots setting pairs placed is) memory_is

pub returns-clause-unfit : goal.returns-clause-unfit
returns-clause-unfit c = λ roots setting refusal placed is. (pairs_say roots setting placed).err refusal is

pub returns-clause-bounds : goal.returns-clause-bounds
returns-clause-bounds c = λ roots setting pairs placed is. data_pairs roots setting pairs (sound_pairs roots setting pairs placed is)

pub returns-clause-noted : goal.returns-clause-noted
returns-clause-noted c = λ roots setting pairs placed is. notes_are_symbols setting pairs (placed_names roots setting placed) is

pub returns-clause-meant : goal.returns-clause-meant
returns-clause-meant c = pairs_are_meant

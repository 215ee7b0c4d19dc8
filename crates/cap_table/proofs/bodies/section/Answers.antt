use Rattle.std.proofs.Common.{◌∙◌, sym}
use Rattle.cap_table.proofs.BodyRoom.{source_of}
use Rattle.cap_table.proofs.bodies.section.Goals as goal

pub section_part-requires : goal.section_part-requires
section_part-requires c = source_of c.args.rels.now c.args.piece.now c.requires.of_inputs c.requires.sound (sym c.is_bss.ensures ∙ c.if-is_bss.false)

use Rattle.std.proofs.Common.{take, sym, ◌∙◌}
use Rattle.cap_table.proofs.StepFields.{none_left}
use Rattle.cap_table.proofs.walked.Walked.clashes.Goals as goal

pub returns-else-is_slot : goal.returns-else-is_slot
returns-else-is_slot c =
    let fails = sym c.is_slot.ensures ∙ c.if-is_slot.false in
    c.if-is_slot.false ∙ sym (none_left c.args.reloc.now (take c.args.self.now.done c.args.self.now.relocs) fails)

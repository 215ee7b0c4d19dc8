use Rattle.std.proofs.Common.{subst, sym}
use Rattle.cap_mem.specs.Tagged.{TaggedMemory}
use Rattle.cap_reloc.specs.Binding.{AreNarrowed, AreNoted}
use Rattle.cap_reloc.specs.Setting.{setting_of}
use Rattle.cap_reloc.proofs.NotedWords.{words_are_noted}
use Rattle.cap_reloc.proofs.NarrowedWords.{words_narrowed}
use Rattle.cap_reloc.proofs.binding.relocate.Goals as goal

pub returns-in-Ok-clause-narrowed : goal.returns-in-Ok-clause-narrowed
returns-in-Ok-clause-narrowed c =
    let roots = c.args.roots.now in
    subst (λ (m : TaggedMemory). AreNarrowed roots m) (sym c.store_all.ensures)
    (words_narrowed roots c.in-Ok.planned.items c.args.memory.now c.in-Ok.ensures.narrowed)

pub returns-in-Ok-clause-noted : goal.returns-in-Ok-clause-noted
returns-in-Ok-clause-noted c =
    let setting = setting_of c.args.objects.now c.args.roots.now c.args.index c.args.scope.now c.args.rule in
    subst (λ (m : TaggedMemory). AreNoted setting.objects m) (sym c.store_all.ensures)
    (words_are_noted setting c.in-Ok.planned.items c.args.memory.now c.in-Ok.ensures.named c.in-Ok.ensures.pairs)

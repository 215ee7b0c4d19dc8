use Rattle.cap_layout.proofs.MarkLists.{marks_folded, lists_count}
use Rattle.cap_layout.proofs.marks.marks_of.Goals as goal

pub all_ascending-requires : goal.all_ascending-requires
all_ascending-requires c =
    rw (c.deref.ensures.value, c.in_ok-lists.ensures, c.sections.ensures.sections, c.symbols.ensures.symbols, c.sections-2.ensures.sections) (lists_count c.args.rel.now.sections c.args.rel.now.symbols)

pub returns : goal.returns
returns c =
    rw (c.in_ok-all_ascending.ensures, c.deref.ensures.value, c.in_ok-lists.ensures, c.sections.ensures.sections, c.symbols.ensures.symbols, c.sections-2.ensures.sections) (marks_folded c.args.rel.now)

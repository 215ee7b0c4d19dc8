use Rattle.std.proofs.Common.{ap, ◌∙◌}
use Rattle.std.specs.Prelude.{slice_range}
use Rattle.cap_layout.specs.Places.{of_class}
use Rattle.cap_layout.proofs.ClassSpans.{span_class}
use Rattle.cap_layout.proofs.by_class.ByClass.of.Goals as goal

pub returns-clause-class : goal.returns-clause-class
returns-clause-class c =
    ap (λ ps. of_class c.args.class (slice_range ps c.span-first.result.0 c.span-first.result.1)) c.self.view_is
    ∙ span_class c.args.self.now c.args.class c.span-first.result.0 c.span-first.result.1 c.span-first.ensures

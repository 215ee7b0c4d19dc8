use Rattle.std.proofs.Common.{sym, subst}
use Rattle.cap_link.specs.Inputs.{FilesRead}
use Rattle.cap_link.specs.Counts.{AreRead}
use Rattle.cap_link.proofs.ReadingLemmas.{short_pairs}
use Rattle.cap_link.proofs.linking.link_pieces.Goals as goal

pub plan-requires-clause-short_needed : goal.plan-requires-clause-short_needed
plan-requires-clause-short_needed c =
    let few = subst (λ (f : FilesRead). AreRead 256 f) (sym c.files.view_is) c.requires.few in
    short_pairs c.files.inside.needed few.names_short

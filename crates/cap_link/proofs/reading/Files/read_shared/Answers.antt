use Rattle.std.proofs.Common.{sym, subst}
use Rattle.cap_link.specs.Inputs.{FilesRead}
use Rattle.cap_link.specs.Counts.{AreRead}
use Rattle.cap_link.proofs.ReadingLemmas.{count-shared}
use Rattle.cap_link.proofs.reading.Files.read_shared.Goals as goal

pub returns-clause-few : goal.returns-clause-few
returns-clause-few c n h =
    let inside = subst (λ (f : FilesRead). AreRead n f) (sym c.self.view_is) h in
    count-shared n _ _ _ _ _ _ c.in_ok-push.ensures.items inside c.in_ok-add_needed.ensures.few (c.in_ok-add_needed.ensures.short inside.names_short (c.needed_name.ensures.short c.requires.short))

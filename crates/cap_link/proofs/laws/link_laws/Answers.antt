use Rattle.cap_link.proofs.LinkLaw.{reads-back, refuses-others}
use Rattle.cap_link.proofs.Exactly.{exact-and-apart}
use Rattle.cap_link.proofs.Aliasing.{equals-are-aliases}
use Rattle.cap_link.proofs.laws.link_laws.Goals as goal

pub returns-clause-reads : goal.returns-clause-reads
returns-clause-reads c =
    reads-back (record { read = c.read_laws.ensures; resolve = c.resolve_laws.ensures }) c.built_are_sound.ensures c.readback_laws.ensures

pub returns-clause-others : goal.returns-clause-others
returns-clause-others c = refuses-others (record { read = c.read_laws.ensures; resolve = c.resolve_laws.ensures }) c.readback_laws.ensures

pub returns-clause-exact : goal.returns-clause-exact
returns-clause-exact c =
    exact-and-apart (record { read = c.read_laws.ensures; resolve = c.resolve_laws.ensures }) (record { exact = c.layout_laws.ensures.exact; cuts = c.layout_laws.ensures.cuts })

pub returns-clause-aliases : goal.returns-clause-aliases
returns-clause-aliases c =
    equals-are-aliases (record { read = c.read_laws.ensures; resolve = c.resolve_laws.ensures }) (record { exact = c.layout_laws.ensures.exact; cuts = c.layout_laws.ensures.cuts })

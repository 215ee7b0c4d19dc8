use Rattle.std.proofs.Common.{sym, ap, ◌∙◌}
use Rattle.std.specs.Prelude.{position}
use Rattle.std.specs.Str.{bytes_eq}
use Rattle.cap_syms.proofs.NameLemmas.{place-known}
use Rattle.cap_syms.proofs.names.Names.stands_at.Goals as goal

pub returns-then-i-keys : goal.returns-then-i-keys
returns-then-i-keys c e =
    place-known c.args.name.now c.as_slice-keys.result.now c.self.inside.set.keys c.args.i _ c.as_slice-keys.ensures.keys c.as_slice-keys.ensures.unique c.if-i-keys.true (sym c.eq.ensures ∙ e)
    ∙ ap (position (bytes_eq c.args.name.now)) c.self.view_is

use Rattle.std.proofs.Common.{ap, ◌∙◌}
use Rattle.std.specs.List.{position_or_len}
use Rattle.std.specs.Str.{bytes_eq}
use Rattle.cap_syms.specs.Distinct.{with_new}
use Rattle.cap_syms.proofs.NameLemmas.{texts, add_texts, place_texts}
use Rattle.cap_syms.proofs.names.Names.add.Goals as goal

pub returns-clause-names : goal.returns-clause-names
returns-clause-names c =
    ap texts c.in_ok-place.ensures.keys
    ∙ add_texts c.self.inside.set.keys c.args.name
    ∙ ap (λ v. with_new bytes_eq v c.args.name.now) c.self.view_is

pub returns-clause-place : goal.returns-clause-place
returns-clause-place c =
    c.in_ok-place.ensures.index
    ∙ place_texts (bytes_eq c.args.name.now) c.self.inside.set.keys
    ∙ ap (position_or_len (bytes_eq c.args.name.now)) c.self.view_is

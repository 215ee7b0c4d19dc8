use Rattle.std.proofs.Common.{◌≡◌, [], get_or, unwrap_or, sym, ap, ◌∙◌}
use Rattle.std.proofs.lemmas.List.{get_or_default}
use Rattle.cap_elf.specs.RelObject.{no_object}
use Rattle.cap_syms.specs.Resolved.{index_of}
use Rattle.cap_table.proofs.sources.row_of.Goals as goal

pub returns-clause-row : goal.returns-clause-row
returns-clause-row c =
    let object : c.index-rels-file.result ≡ get_or c.args.rels.now c.args.file no_object = c.index-rels-file.is ∙ get_or_default c.args.rels.now c.args.file c.index-rels-file.result no_object c.requires.file in
    ap (λ o. unwrap_or o 0) (sym c.unwrap.ensures ∙ c.find_at.ensures ∙ ap (index_of c.args.table.now) (c.name.ensures.name ∙ ap (λ o. get_or o.names c.args.symbol []) object))

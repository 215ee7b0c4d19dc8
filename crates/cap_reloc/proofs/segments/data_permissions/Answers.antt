use Rattle.std.proofs.Common.{◌≡◌, ℕ, ◌+◌, ◌≤◌, Option, Some, None, sym, ap, ◌∙◌}
use Rattle.std.specs.Prelude.{IfSome, option_map}
use Rattle.cap_own.specs.declared.perms.Perms.{Perms}
use Rattle.cap_elf.specs.DynView.{DynRecords}
use Rattle.cap_elf.specs.IsRead.{IsRead}
use Rattle.cap_fits.specs.Places.{permissions_of_part, data_permissions}
use Rattle.cap_reloc.proofs.Holding.{permissions_by_last}
use Rattle.cap_reloc.proofs.Within.{data_within}
use Rattle.cap_reloc.proofs.segments.data_permissions.Goals as goal

pub returns-clause-value : goal.returns-clause-value
returns-clause-value c =
    let object = c.args.file.now.records in
    c.permissions_of_part.ensures.value
    ∙ ap (permissions_of_part object c.args.at c.args.len) c.if_spanning.ensures
    ∙ sym (permissions_by_last object c.args.at c.args.len c.last_in-found.result c.last_in-found.ensures.last)

some_within : (object : DynRecords) (at len : ℕ) (r : Option Perms) → IsRead object → option_map (λ p. p.0) r ≡ data_permissions object at len → IfSome r (λ p. at + len ≤ object.span)
some_within object at len None read is = tt
some_within object at len (Some p) read is = data_within object at len p.0 read (sym is)

pub returns-clause-within : goal.returns-clause-within
returns-clause-within c = some_within c.args.file.now.records c.args.at c.args.len c.permissions_of_part.result c.last_in-found.ensures.sound (returns-clause-value c)

use Rattle.std.proofs.Common.{◌≡◌, ℕ, List, sym, ap, ◌∙◌, subst}
use Rattle.std.specs.Prelude.{IfSome}
use Rattle.cap_session.specs.Closing.{LoadedAll}
use Rattle.cap_session.specs.Loading.{fetch_from, with_needed}
use Rattle.cap_session.specs.Refused.{IsRefusedBy}
use Rattle.cap_session.specs.Roster.{RosterValue, IsRoster, cut_to, pad_start}
use Rattle.cap_session.proofs.Loads.{deps_within, extends_from, loads_from, undone, untagged_behind}
use Rattle.cap_session.proofs.roster.Roster.load.Goals as goal

pub cut-requires-clause-within : goal.cut-requires-clause-within
cut-requires-clause-within g c =
    deps_within c.args.self.now c.load_all.new.self c.len-before.result c.len-before.ensures.sound c.requires.closed c.load_all.ensures.behind c.len-before.ensures.len

pub returns-in-Ok-clause-extends : goal.returns-in-Ok-clause-extends
returns-in-Ok-clause-extends g c = extends_from c.args.self.now c.load_all.new.self c.len-before.ensures.sound c.requires.closed c.load_all.ensures.behind

pub returns-in-Ok-clause-untagged : goal.returns-in-Ok-clause-untagged
returns-in-Ok-clause-untagged g c = untagged_behind c.args.self.now c.load_all.new.self c.len-before.ensures.sound c.load_all.ensures.behind

pub returns-in-Err-clause-err : goal.returns-in-Err-clause-err
returns-in-Err-clause-err g c =
    let old = c.args.self.now in
    let new = c.load_all.new.self in
    let n : ℕ = c.len-before.result in
    let left = subst (λ (r : RosterValue). IsRoster r) c.cut.ensures.value c.cut.ensures.sound in
    c.cut.ensures.value ∙ undone old new n (pad_start n new) c.len-before.ensures.sound c.requires.closed c.load_all.ensures.behind c.len-before.ensures.len left

pub returns-in-Ok-clause-loads : goal.returns-in-Ok-clause-loads
returns-in-Ok-clause-loads g c = λ objects lists.
    let told = g.F.Files.told c.args.files.now in
    let old = c.args.self.now in
    let new = c.load_all.new.self in
    loads_from told c.args.name.now old new objects lists (subst (λ (n : List ℕ). LoadedAll told n old new objects) c.as_bytes.ensures.value (c.in-Ok.ensures.loads objects lists))

pub returns-in-Err-clause-loads : goal.returns-in-Err-clause-loads
returns-in-Err-clause-loads g c = λ objects lists.
    let told = g.F.Files.told c.args.files.now in
    subst (λ (n : List ℕ). IfSome told (λ store. IsRefusedBy (with_needed (fetch_from store) c.args.self.now.dir objects n) c.in-Err.refusal c.in-Err.refusal.cause)) c.as_bytes.ensures.value
    (c.in-Err.ensures.loads objects lists)

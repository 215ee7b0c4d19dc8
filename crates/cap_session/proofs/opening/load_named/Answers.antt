use Rattle.std.proofs.Common.{◌≡◌, ℕ, List, [], subst, sym, ap, ◌∙◌, refl, arith}
use Rattle.std.specs.Prelude.{All, Option, Some, None, Result, Ok}
use Rattle.cap_base.specs.Outside.{Store}
use Rattle.cap_session.specs.Loading.{fetch_from, with_named, with_needed}
use Rattle.cap_session.specs.Roster.{Loads, answerer_in}
use Rattle.cap_session.proofs.Reaching.{some_all, some_weaker, loads_found, loads_missing, none-untagged}
use Rattle.cap_session.proofs.Undoing.{Extends-itself}
use Rattle.cap_session.proofs.opening.load_named.Goals as goal

pub returns-in-Some-clause-loads : goal.returns-in-Some-clause-loads
returns-in-Some-clause-loads g c =
    let found = sym (rw c.as_bytes.ensures.value at c.in-Some.ensures.value) in
    λ objects lists. some_all (g.F.Files.told c.args.files.now) (λ (store : Store). Loads {T = Unit {0}} (with_named (fetch_from store) c.args.roster.now.dir objects c.args.name.now) c.args.roster.now c.args.roster.now (Ok tt))
    (λ store. loads_found (fetch_from store) c.args.roster.now c.args.name.now c.in-Some.field-0 objects lists found)

pub returns-in-Some-clause-extends : goal.returns-in-Some-clause-extends
returns-in-Some-clause-extends g c = Extends-itself c.args.roster.now c.requires.roster c.requires.closed

pub returns-in-Some-clause-untagged : goal.returns-in-Some-clause-untagged
returns-in-Some-clause-untagged g c = none-untagged c.args.roster.now c.requires.roster

pub returns-in-None-clause-loads : goal.returns-in-None-clause-loads
returns-in-None-clause-loads g c =
    let missing = sym (rw c.as_bytes.ensures.value at c.in-None.ensures.value) in
    λ objects lists. some_weaker (g.F.Files.told c.args.files.now)
    (λ (store : Store). Loads (with_needed (fetch_from store) c.args.roster.now.dir objects c.args.name.now) c.args.roster.now c.load.new.self c.load.result)
    (λ (store : Store). Loads (with_named (fetch_from store) c.args.roster.now.dir objects c.args.name.now) c.args.roster.now c.load.new.self c.load.result)
    (λ store h. loads_missing (fetch_from store) c.args.roster.now c.load.new.self c.args.name.now objects c.load.result lists missing h)
    (c.load.ensures.loads objects lists)

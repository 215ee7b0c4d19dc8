use Rattle.std.proofs.Common.{◌≡◌, ℕ, ◌<◌, List, [], Option, None, Some, length, sym, ap, ◌∙◌, subst, arith}
use Rattle.std.specs.Prelude.{IfSome, slice_index_or}
use Rattle.cap_base.specs.Outside.{Store}
use Rattle.cap_session.specs.Adding.{IsAdded}
use Rattle.cap_session.specs.Closing.{needed_by, next_in, next_path}
use Rattle.cap_session.specs.Loading.{Loaded, first_unanswered}
use Rattle.cap_session.specs.Refused.{IsRefusedBy}
use Rattle.cap_session.specs.Roster.{RosterValue, IsRoster, Lists, answerer_in}
use Rattle.cap_session.proofs.Closings.{behind_added, goes_added, newest_answers, stops_refused}
use Rattle.cap_session.proofs.Unanswered.{first_here, first_is}
use Rattle.cap_session.proofs.roster.Roster.dependency.Goals as goal

pub returns-in-Ok-load_one-clause-answers : goal.returns-in-Ok-load_one-clause-answers
returns-in-Ok-load_one-clause-answers g c =
    let r = c.args.self.now in
    let name = slice_index_or (needed_by r c.args.i) c.args.k [] in
    let is : c.bytes.result.now ≡ name = c.bytes.ensures ∙ c.in-Ok.ensures ∙ c.needed_name-name.ensures.value in
    let none : answerer_in r name ≡ None = ap (answerer_in r) (sym c.needed_name-name.ensures.value) ∙ sym c.answerer.ensures.value ∙ c.in_default.is in
    let told = g.F.Files.told c.args.files.now in
    let added = subst (λ (n : List ℕ). IsAdded told (next_path r n) n r c.load_one.new.self) is c.in-Ok-load_one.ensures.adds in
    newest_answers told (next_path r name) name r c.load_one.new.self c.len-d.ensures.sound (omega (arith, c.requires.inside)) added none ∙ ap Some (sym c.len-d.ensures.len)

pub returns-in-Ok-load_one-clause-closes : goal.returns-in-Ok-load_one-clause-closes
returns-in-Ok-load_one-clause-closes g c =
    let r = c.args.self.now in
    let name = slice_index_or (needed_by r c.args.i) c.args.k [] in
    let is : c.bytes.result.now ≡ name = c.bytes.ensures ∙ c.in-Ok.ensures ∙ c.needed_name-name.ensures.value in
    let none : answerer_in r name ≡ None = ap (answerer_in r) (sym c.needed_name-name.ensures.value) ∙ sym c.answerer.ensures.value ∙ c.in_default.is in
    let told = g.F.Files.told c.args.files.now in
    let added = subst (λ (n : List ℕ). IsAdded told (next_path r n) n r c.load_one.new.self) is c.in-Ok-load_one.ensures.adds in
    let here = first_here r c.args.i c.args.k c.len-d.ensures.sound c.requires.next c.requires.inside c.requires.needed c.requires.before none in
    goes_added told name r c.load_one.new.self c.len-d.ensures.sound (λ objects lists. first_is r objects lists ∙ here) added

pub returns-in-Ok-load_one-clause-behind : goal.returns-in-Ok-load_one-clause-behind
returns-in-Ok-load_one-clause-behind g c =
    behind_added (g.F.Files.told c.args.files.now) (next_path c.args.self.now c.bytes.result.now) c.bytes.result.now c.args.self.now c.load_one.new.self c.in-Ok-load_one.ensures.adds

pub returns-clause-closes : goal.returns-clause-closes
returns-clause-closes g c =
    let r = c.args.self.now in
    let name = slice_index_or (needed_by r c.args.i) c.args.k [] in
    let is : c.bytes.result.now ≡ name = c.bytes.ensures ∙ c.in-Ok.ensures ∙ c.needed_name-name.ensures.value in
    let none : answerer_in r name ≡ None = ap (answerer_in r) (sym c.needed_name-name.ensures.value) ∙ sym c.answerer.ensures.value ∙ c.in_default.is in
    let told = g.F.Files.told c.args.files.now in
    let by = subst (λ (n : List ℕ). IfSome told (λ store. IsRefusedBy (next_in store r n) c.in-Err.refusal c.in-Err.refusal.cause)) is c.in-Err.ensures.adds.0 in
    let here = first_here r c.args.i c.args.k c.len-d.ensures.sound c.requires.next c.requires.inside c.requires.needed c.requires.before none in
    stops_refused told name r c.in-Err.refusal c.len-d.ensures.sound (λ objects lists. first_is r objects lists ∙ here) by

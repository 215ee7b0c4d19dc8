use Rattle.std.proofs.Common.{◌≡◌, ℕ, ◌+◌, ◌<◌, ◌≤◌, List, [], length, subst, sym, ap, ◌∙◌, refl, arith}
use Rattle.std.specs.Prelude.{All, Ok}
use Rattle.std.proofs.lemmas.List.{length-map}
use Rattle.std.proofs.lemmas.Result.{err_from_is_err_and}
use Rattle.cap_base.specs.Steps.{gather}
use Rattle.cap_base.specs.Lists.{numbers_between}
use Rattle.cap_elf.specs.IsRead.{IsRead}
use Rattle.cap_scope.specs.Chosen.{object_at}
use Rattle.cap_session.specs.Binding.{pairs_for, objects_in, memory_at}
use Rattle.cap_session.specs.Refused.{IsRefusedBy}
use Rattle.cap_session.specs.Roster.{RosterValue, records_in}
use Rattle.cap_session.proofs.Memories.{memory_count}
use Rattle.cap_session.proofs.PartWay.{none, next_is, more, done, stays, refused, all_owned, all_read, same_count, untagged_at, owned_of_same}
use Rattle.cap_session.proofs.roster.Roster.relocate_from.Goals as goal

pub loop-i-init : goal.loop-i-init
loop-i-init c = record {
  end_is = c.len-i-end.ensures.len;
  part = none (pairs_for c.args.look_up.now.rule c.args.self.now.dir (objects_in c.args.self.now) c.args.look_up.now.start_count c.args.look_up.now.openings.items) c.args.from c.len-i-end.result c.args.self.now c.len-i-end.ensures.sound (omega (arith, c.requires.from, c.len-i-end.ensures.len));
}

pub relocate_object-requires-clause-index : goal.relocate_object-requires-clause-index
relocate_object-requires-clause-index c =
    let objects = ap (λ (r : RosterValue). length r.objects) c.loop-i.invariant.part.rest in
    omega (arith, c.loop-i-test.true, c.loop-i.invariant.end_is, objects)

pub relocate_object-requires-clause-start : goal.relocate_object-requires-clause-start
relocate_object-requires-clause-start c =
    let objects = ap (λ (r : RosterValue). length r.objects) c.loop-i.invariant.part.rest in
    omega (arith, c.requires.start, objects)

pub relocate_object-requires-clause-trees : goal.relocate_object-requires-clause-trees
relocate_object-requires-clause-trees c =
    subst (λ (r : RosterValue). All (λ o. All (λ j. j < length r.objects) o.tree) c.args.look_up.now.openings.items) (sym c.loop-i.invariant.part.rest) c.requires.trees

pub relocate_object-requires-clause-untagged : goal.relocate_object-requires-clause-untagged
relocate_object-requires-clause-untagged c =
    let count = memory_count c.args.self.now c.len-i-end.ensures.sound in
    let fits : c.args.from ≤ length c.args.self.now.memories = omega (arith, c.requires.from, count) in
    let in' : c.loop-i.i < length c.args.self.now.memories = omega (arith, c.loop-i-test.true, c.loop-i.invariant.end_is, count) in
    let low : c.args.from ≤ c.loop-i.i = omega (arith, c.loop-i.invariant.part.count) in
    rw (next_is (pairs_for c.args.look_up.now.rule c.args.self.now.dir (objects_in c.args.self.now) c.args.look_up.now.start_count c.args.look_up.now.openings.items) c.args.from c.loop-i.i c.len-i-end.result c.args.self.now c.loop-i.self c.loop-i.invariant.part fits) (untagged_at c.args.self.now.memories c.args.from c.loop-i.i low in' c.requires.untagged)

pub loop-i-preserved : goal.loop-i-preserved
loop-i-preserved c =
    let w = c.loop-i.invariant.part in
    let said = c.in_ok-relocate_object.ensures.relocates in
    let count = memory_count c.args.self.now c.len-i-end.ensures.sound in
    let fits : c.args.from ≤ length c.args.self.now.memories = omega (arith, c.requires.from, count) in
    let in' : c.loop-i.i < length c.args.self.now.memories = omega (arith, c.loop-i-test.true, c.loop-i.invariant.end_is, count) in
    let e = subst (λ (r : RosterValue). pairs_for c.args.look_up.now.rule r.dir (objects_in r) c.args.look_up.now.start_count c.args.look_up.now.openings.items c.loop-i.i ≡ Ok said.0) w.rest said.1 in
    let read = subst (λ (r : RosterValue). IsRead (object_at (records_in r) c.loop-i.i)) w.rest c.in_ok-relocate_object.ensures.read in
    record {
      end_is = c.loop-i.invariant.end_is;
      part = more (pairs_for c.args.look_up.now.rule c.args.self.now.dir (objects_in c.args.self.now) c.args.look_up.now.start_count c.args.look_up.now.openings.items) c.args.from c.loop-i.i c.len-i-end.result c.args.self.now c.loop-i.self c.relocate_object.new.self said.0 w c.loop-i-test.true in' e said.2
          c.relocate_object.ensures.sound
          (owned_of_same c.args.self.now c.loop-i.self _ (memory_at c.relocate_object.new.self c.loop-i.i) w.rest c.in_ok-relocate_object.ensures.owned) read;
    }

pub returns-in_err-relocate_object-clause-relocates : goal.returns-in_err-relocate_object-clause-relocates
returns-in_err-relocate_object-clause-relocates c =
    let p = err_from_is_err_and c.from_residual.result c.from_residual.ensures.1 in
    let w = c.loop-i.invariant.part in
    let refusal = c.in_err-relocate_object.field-0.0 in
    let said = subst (λ (r : RosterValue). IsRefusedBy (pairs_for c.args.look_up.now.rule r.dir (objects_in r) c.args.look_up.now.start_count c.args.look_up.now.openings.items c.loop-i.i) refusal refusal.cause) w.rest c.in_err-relocate_object.ensures.relocates.0 in
    rw (p.1, p.2) (subst (λ (n : ℕ). IsRefusedBy (gather (pairs_for c.args.look_up.now.rule c.args.self.now.dir (objects_in c.args.self.now) c.args.look_up.now.start_count c.args.look_up.now.openings.items) (numbers_between c.args.from n)) refusal refusal.cause) (c.len-i-end.ensures.len ∙ sym (length-map c.args.self.now.objects (λ o. o.records))) (refused (pairs_for c.args.look_up.now.rule c.args.self.now.dir (objects_in c.args.self.now) c.args.look_up.now.start_count c.args.look_up.now.openings.items) c.args.from c.loop-i.i c.len-i-end.result c.args.self.now c.loop-i.self refusal w c.loop-i-test.true said))

pub returns-in_err-relocate_object-clause-stays : goal.returns-in_err-relocate_object-clause-stays
returns-in_err-relocate_object-clause-stays c =
    let count = memory_count c.args.self.now c.len-i-end.ensures.sound in
    let fits : c.args.from ≤ length c.args.self.now.memories = omega (arith, c.requires.from, count) in
    let said = c.in_err-relocate_object.ensures.relocates in
    rw (said.1) (stays (pairs_for c.args.look_up.now.rule c.args.self.now.dir (objects_in c.args.self.now) c.args.look_up.now.start_count c.args.look_up.now.openings.items) c.args.from c.loop-i.i c.len-i-end.result c.args.self.now c.loop-i.self c.loop-i.invariant.part fits)

pub returns-in_err-relocate_object-clause-unread : goal.returns-in_err-relocate_object-clause-unread
returns-in_err-relocate_object-clause-unread c =
    let p = err_from_is_err_and c.from_residual.result c.from_residual.ensures.1 in
    λ n. rw (p.1, p.2) (c.in_err-relocate_object.ensures.unread n)

pub returns-clause-relocates : goal.returns-clause-relocates
returns-clause-relocates c =
    rw (length-map c.args.self.now.objects (λ o. o.records), ← c.len-i-end.ensures.len) (done (pairs_for c.args.look_up.now.rule c.args.self.now.dir (objects_in c.args.self.now) c.args.look_up.now.start_count c.args.look_up.now.openings.items) c.args.from c.loop-i.i c.len-i-end.result c.args.self.now c.loop-i.self c.loop-i.invariant.part c.loop-i-test.false)

pub returns-clause-stays : goal.returns-clause-stays
returns-clause-stays c =
    let count = memory_count c.args.self.now c.len-i-end.ensures.sound in
    let fits : c.args.from ≤ length c.args.self.now.memories = omega (arith, c.requires.from, count) in
    stays (pairs_for c.args.look_up.now.rule c.args.self.now.dir (objects_in c.args.self.now) c.args.look_up.now.start_count c.args.look_up.now.openings.items) c.args.from c.loop-i.i c.len-i-end.result c.args.self.now c.loop-i.self c.loop-i.invariant.part fits

pub returns-clause-owned : goal.returns-clause-owned
returns-clause-owned c =
    let count = memory_count c.args.self.now c.len-i-end.ensures.sound in
    let fits : c.args.from ≤ length c.args.self.now.memories = omega (arith, c.requires.from, count) in
    let same = same_count (pairs_for c.args.look_up.now.rule c.args.self.now.dir (objects_in c.args.self.now) c.args.look_up.now.start_count c.args.look_up.now.openings.items) c.args.from c.loop-i.i c.len-i-end.result c.args.self.now c.loop-i.self c.loop-i.invariant.part fits in
    all_owned (pairs_for c.args.look_up.now.rule c.args.self.now.dir (objects_in c.args.self.now) c.args.look_up.now.start_count c.args.look_up.now.openings.items) c.args.from c.loop-i.i c.len-i-end.result c.args.self.now c.loop-i.self c.loop-i.invariant.part (omega (arith, same, count, c.loop-i-test.false, c.loop-i.invariant.end_is))

pub returns-clause-read : goal.returns-clause-read
returns-clause-read c =
    all_read (pairs_for c.args.look_up.now.rule c.args.self.now.dir (objects_in c.args.self.now) c.args.look_up.now.start_count c.args.look_up.now.openings.items) c.args.from c.loop-i.i c.len-i-end.result c.args.self.now c.loop-i.self c.loop-i.invariant.part (omega (arith, length-map c.args.self.now.objects (λ o. o.records), c.loop-i-test.false, c.loop-i.invariant.end_is))

pub returns-clause-sound : goal.returns-clause-sound
returns-clause-sound c = c.loop-i.invariant.part.roster

pub returns-in_err-relocate_object-clause-sound : goal.returns-in_err-relocate_object-clause-sound
returns-in_err-relocate_object-clause-sound c = c.relocate_object.ensures.sound

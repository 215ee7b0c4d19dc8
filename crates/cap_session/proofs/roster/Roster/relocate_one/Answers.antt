use Rattle.std.proofs.Common.{◌≡◌, ℕ, ◌<◌, List, [], length, get_or, subst, sym, ap, ◌∙◌, refl, arith}
use Rattle.std.proofs.lemmas.List.{get_or_read}
use Rattle.cap_session.specs.Binding.{no_memory, memory_at, with_memory, setting_with, objects_in, Rebinds, HasOwned}
use Rattle.cap_session.specs.Roster.{RosterValue}
use Rattle.cap_session.specs.RosterFields.{roster_of}
use Rattle.cap_session.proofs.Memories.{unrelocated, memory_count, still_roster, rebinds_of, owned_of}
use Rattle.cap_session.proofs.roster.Roster.relocate_one.Goals as goal

pub index_mut-requires : goal.index_mut-requires
index_mut-requires c =
    let objects = ap (λ (r : RosterValue). length r.objects) c.self.view_is in
    let count = memory_count (roster_of c.self.inside) c.self.invariant.roster in
    omega (arith, c.requires.index, objects, count, c.self.inside.memories.ok.0)

pub relocate-requires-clause-memory : goal.relocate-requires-clause-memory
relocate-requires-clause-memory c =
    let objects = ap (λ (r : RosterValue). length r.objects) c.self.view_is in
    let count = memory_count (roster_of c.self.inside) c.self.invariant.roster in
    let lt : c.args.i < length c.self.inside.memories.items = omega (arith, c.requires.index, objects, count) in
    let at : c.index_mut.result.now ≡ get_or c.self.inside.memories.items c.args.i no_memory = get_or_read c.self.inside.memories.items c.args.i c.index_mut.result.now lt c.index_mut.ensures.value no_memory in
    let words = subst (λ (r : RosterValue). (memory_at r c.args.i).words ≡ []) (sym c.self.view_is) c.requires.untagged in
    rw (c.deref-2.ensures.value, at) (unrelocated c.self.inside.roots.items c.self.inside.memories.items c.args.i c.self.invariant.roster.memories_are lt words)

pub invariant_of-self : goal.invariant_of-self
invariant_of-self c =
    let objects = ap (λ (r : RosterValue). length r.objects) c.self.view_is in
    let count = memory_count (roster_of c.self.inside) c.self.invariant.roster in
    let lt : c.args.i < length c.self.inside.memories.items = omega (arith, c.requires.index, objects, count) in
    let at : c.index_mut.result.now ≡ get_or c.self.inside.memories.items c.args.i no_memory = get_or_read c.self.inside.memories.items c.args.i c.index_mut.result.now lt c.index_mut.ensures.value no_memory in
    let b = rw (c.deref.ensures.value, c.deref-2.ensures.value) at c.relocate.ensures.binds in
    record {
      roster = still_roster (roster_of c.self.inside) c.args.i (setting_with c.args.rule (objects_in (roster_of c.self.inside)) c.args.scope.now c.args.i) c.index_mut.result.now c.relocate.new.memory c.relocate.result c.self.invariant.roster at b;
      start = c.self.invariant.start;
      limit = c.self.invariant.limit;
    }

pub returns-clause-rebinds : goal.returns-clause-rebinds
returns-clause-rebinds c =
    let objects = ap (λ (r : RosterValue). length r.objects) c.self.view_is in
    let count = memory_count (roster_of c.self.inside) c.self.invariant.roster in
    let lt : c.args.i < length c.self.inside.memories.items = omega (arith, c.requires.index, objects, count) in
    let at : c.index_mut.result.now ≡ get_or c.self.inside.memories.items c.args.i no_memory = get_or_read c.self.inside.memories.items c.args.i c.index_mut.result.now lt c.index_mut.ensures.value no_memory in
    let b = rw (c.deref.ensures.value, c.deref-2.ensures.value) at c.relocate.ensures.binds in
    let made = rebinds_of (roster_of c.self.inside) c.args.i c.args.rule c.args.scope.now c.index_mut.result.now c.relocate.new.memory c.relocate.result at b in
    subst (λ (r : RosterValue). Rebinds (setting_with c.args.rule (objects_in r) c.args.scope.now c.args.i) r (with_memory (roster_of c.self.inside) c.args.i c.relocate.new.memory) c.relocate.result) c.self.view_is made

pub returns-clause-owned : goal.returns-clause-owned
returns-clause-owned c =
    let objects = ap (λ (r : RosterValue). length r.objects) c.self.view_is in
    let count = memory_count (roster_of c.self.inside) c.self.invariant.roster in
    let lt : c.args.i < length c.self.inside.memories.items = omega (arith, c.requires.index, objects, count) in
    let narrowed = rw c.deref-2.ensures.value at c.relocate.ensures.narrowed in
    let noted = rw c.deref.ensures.value at c.relocate.ensures.noted in
    subst (λ (r : RosterValue). HasOwned r (memory_at (with_memory (roster_of c.self.inside) c.args.i c.relocate.new.memory) c.args.i)) c.self.view_is
    (owned_of (roster_of c.self.inside) c.args.i c.relocate.new.memory lt narrowed noted)

pub returns-clause-sound : goal.returns-clause-sound
returns-clause-sound c =
    let objects = ap (λ (r : RosterValue). length r.objects) c.self.view_is in
    let count = memory_count (roster_of c.self.inside) c.self.invariant.roster in
    let lt : c.args.i < length c.self.inside.memories.items = omega (arith, c.requires.index, objects, count) in
    let at : c.index_mut.result.now ≡ get_or c.self.inside.memories.items c.args.i no_memory = get_or_read c.self.inside.memories.items c.args.i c.index_mut.result.now lt c.index_mut.ensures.value no_memory in
    let b = rw (c.deref.ensures.value, c.deref-2.ensures.value) at c.relocate.ensures.binds in
    still_roster (roster_of c.self.inside) c.args.i (setting_with c.args.rule (objects_in (roster_of c.self.inside)) c.args.scope.now c.args.i) c.index_mut.result.now c.relocate.new.memory c.relocate.result c.self.invariant.roster at b

use Rattle.std.proofs.Common.{◌≡◌, ℕ, Bool, true, List, [], ◌∷◌, ◌++◌, ◌+◌, ◌-◌, ◌<◌, ◌≤◌, ◌%◌, length, take, refl, ap, sym, ◌∙◌, subst, arith}
use Rattle.cap_elf.specs.DynView.{DynRecords, DynValue}
use Rattle.cap_own.specs.Interval.{Interval, Room, interval, carved}
use Rattle.cap_own.specs.Cap.{Mapping}
use Rattle.cap_map.specs.Placing.{object_memory}
use Rattle.cap_mem.specs.Tagged.{TaggedMemory}
use Rattle.cap_session.specs.Adding.{next_base, with_object}
use Rattle.cap_session.specs.Roster.{RosterValue, IsRoster}
use Rattle.cap_session.specs.RosterFields.{roster_of}
use Rattle.cap_session.proofs.RosterLemmas.{mapping_is, roster_more, take_back}
use Rattle.cap_session.proofs.roster.Roster.put_named.Goals as goal
use Rattle.cap_session.proofs.roster.Roster.put_named.Goals.{After-push_reserved-in-Ok-place-4, After-drop-object-inside-in-Err-place-14}

back : (c : After-drop-object-inside-in-Err-place-14) → c.cut.new.self ≡ c.self.inside.names
back c =
    c.cut.ensures ∙ ap (take c.len-count.result) c.in-Ok-push.ensures.ok
    ∙ take_back c.len-count.result c.self.inside.names (c.args.name.now, true) (omega (arith, c.len-count.ensures, c.self.inside.objects.ok, c.self.invariant.roster.name_count))

pub invariant_of-self-in-Err-place : goal.invariant_of-self-in-Err-place
invariant_of-self-in-Err-place c =
    let e = c.reserve_each.ensures in
    let kept = c.in-Err.ensures.placed.kept in
    record {
      roster = rw (e.objects, back c, e.pads, e.roots, e.memories, e.symbols, kept) c.self.invariant.roster;
      start = ap (λ (s : Room). s.start) kept ∙ c.self.invariant.start;
      limit = ap (λ (s : Room). s.limit) kept ∙ c.self.invariant.limit;
    }

pub returns-in-Err-clause-sound : goal.returns-in-Err-clause-sound
returns-in-Err-clause-sound c =
    let e = c.reserve_each.ensures in
    rw (e.objects, back c, e.pads, e.roots, e.memories, e.symbols, c.in-Err.ensures.placed.kept) c.self.invariant.roster

file_is : (c : After-push_reserved-in-Ok-place-4) → c.file.result.now.records ≡ c.args.object.records
file_is c = ap (λ (o : DynValue). o.records) c.file.ensures

more : (c : After-push_reserved-in-Ok-place-4) → IsRoster (with_object (roster_of c.self.inside) c.args.object c.args.name.now c.args.bytes.now)
more c =
    let r = roster_of c.self.inside in
    let spans = c.in-Ok-place.ensures.placed.spans in
    let few = ap (λ (s : RosterValue). length s.objects) c.self.view_is in
    let base : c.in-Ok-place.field-0.root.base ≡ next_base r c.args.object.records = ap (λ (i : Interval). i.base) spans.body_is ∙ ap (next_base r) (file_is c) in
    let size = ap (λ (o : DynRecords). next_base r o + o.span) (file_is c) in
    let multiple = subst (λ (o : DynRecords). c.in-Ok-place.field-0.root.base % o.align ≡ 0) (file_is c) c.in-Ok-place.ensures.aligned.multiple in
    roster_more r c.args.object c.args.name.now c.args.bytes.now c.self.invariant.roster c.requires.read c.requires.name (omega (arith, few, c.requires.few))
    (subst (λ x. x % c.args.object.records.align ≡ 0) base multiple)
    (omega (arith, base, c.in-Ok-place.ensures.aligned.from))
    (omega (arith, size, spans.fits, c.self.invariant.limit))

pad_is : (c : After-push_reserved-in-Ok-place-4) → c.in-Ok-place.field-0.pad ≡ interval c.self.inside.space.next (next_base (roster_of c.self.inside) c.args.object.records - c.self.inside.space.next)
pad_is c =
    c.in-Ok-place.ensures.placed.spans.pad_is
    ∙ ap (λ (o : DynRecords). interval c.self.inside.space.next (next_base (roster_of c.self.inside) o - c.self.inside.space.next)) (file_is c)

root_is : (c : After-push_reserved-in-Ok-place-4)
    → c.in-Ok-place.field-0.root ≡ record { base = next_base (roster_of c.self.inside) c.args.object.records; len = c.args.object.records.span; owner = length c.self.inside.objects.items }
root_is c =
    mapping_is c.in-Ok-place.field-0.root (next_base (roster_of c.self.inside) c.args.object.records) c.args.object.records.span (length c.self.inside.objects.items)
    (c.in-Ok-place.ensures.placed.spans.body_is ∙ ap (λ (o : DynRecords). interval (next_base (roster_of c.self.inside) o) o.span) (file_is c))
    (c.in-Ok-place.ensures.placed.owner_is ∙ c.len-count.ensures ∙ c.self.inside.objects.ok.0)

memory_is : (c : After-push_reserved-in-Ok-place-4) → c.in-Ok-place.field-0.memory ≡ object_memory c.args.bytes.now c.args.object.records (next_base (roster_of c.self.inside) c.args.object.records)
memory_is c =
    c.in-Ok-place.ensures.placed.memory_is
    ∙ ap (λ (o : DynRecords). object_memory c.args.bytes.now o (next_base (roster_of c.self.inside) o)) (file_is c)

space_is : (c : After-push_reserved-in-Ok-place-4) → c.place.new.space ≡ carved c.self.inside.space c.args.object.records.align c.args.object.records.span
space_is c = c.in-Ok-place.ensures.placed.spans.rest ∙ ap (λ (o : DynRecords). carved c.self.inside.space o.align o.span) (file_is c)

-- the lists, each with one more
pads_are : (c : After-push_reserved-in-Ok-place-4) → c.push_reserved-in-Ok-place.new.self.items ≡ (with_object (roster_of c.self.inside) c.args.object c.args.name.now c.args.bytes.now).pads
pads_are c = c.push_reserved-in-Ok-place.ensures.items ∙ ap (λ (xs : List Interval). xs ++ c.in-Ok-place.field-0.pad ∷ []) c.reserve_each.ensures.pads ∙ ap (λ (x : Interval). c.self.inside.pads.items ++ x ∷ []) (pad_is c)

roots_are : (c : After-push_reserved-in-Ok-place-4) → c.push_reserved-in-Ok-place-2.new.self.items ≡ (with_object (roster_of c.self.inside) c.args.object c.args.name.now c.args.bytes.now).roots
roots_are c = c.push_reserved-in-Ok-place-2.ensures.items ∙ ap (λ (xs : List Mapping). xs ++ c.in-Ok-place.field-0.root ∷ []) c.reserve_each.ensures.roots ∙ ap (λ (x : Mapping). c.self.inside.roots.items ++ x ∷ []) (root_is c)

memories_are : (c : After-push_reserved-in-Ok-place-4) → c.push_reserved-in-Ok-place-3.new.self.items ≡ (with_object (roster_of c.self.inside) c.args.object c.args.name.now c.args.bytes.now).memories
memories_are c = c.push_reserved-in-Ok-place-3.ensures.items ∙ ap (λ (xs : List TaggedMemory). xs ++ c.in-Ok-place.field-0.memory ∷ []) c.reserve_each.ensures.memories ∙ ap (λ (x : TaggedMemory). c.self.inside.memories.items ++ x ∷ []) (memory_is c)

symbols_are : (c : After-push_reserved-in-Ok-place-4) → c.push_reserved-in-Ok-place-4.new.self.items ≡ (with_object (roster_of c.self.inside) c.args.object c.args.name.now c.args.bytes.now).symbols
symbols_are c = c.push_reserved-in-Ok-place-4.ensures.items ∙ ap (λ (xs : List (List (List ℕ × Bool))). xs ++ c.args.symbols ∷ []) c.reserve_each.ensures.symbols ∙ ap (λ (x : List (List ℕ × Bool)). c.self.inside.symbols.items ++ x ∷ []) c.requires.symbols

objects_are : (c : After-push_reserved-in-Ok-place-4) → c.push_reserved.new.self.items ≡ c.self.inside.objects.items ++ c.args.object ∷ []
objects_are c = c.push_reserved.ensures.items ∙ ap (λ (xs : List DynValue). xs ++ c.args.object ∷ []) c.reserve_each.ensures.objects

pub invariant_of-self-in-Ok-place : goal.invariant_of-self-in-Ok-place
invariant_of-self-in-Ok-place c = record {
  roster = rw (objects_are c, c.in-Ok-push.ensures.ok, pads_are c, roots_are c, memories_are c, symbols_are c, space_is c) (more c);
  start = ap (λ (s : Room). s.start) (space_is c) ∙ c.self.invariant.start;
  limit = ap (λ (s : Room). s.limit) (space_is c) ∙ c.self.invariant.limit;
}

pub returns-in-Ok-place-clause-sound : goal.returns-in-Ok-place-clause-sound
returns-in-Ok-place-clause-sound c = rw (objects_are c, c.in-Ok-push.ensures.ok, pads_are c, roots_are c, memories_are c, symbols_are c, space_is c) (more c)

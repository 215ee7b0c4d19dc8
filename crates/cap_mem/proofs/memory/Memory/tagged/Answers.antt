use Rattle.std.proofs.Common.{◌≡◌, ℕ, ◌+◌, ◌*◌, subst, sym, arith, Some, None}
use Rattle.cap_mem.specs.Tagged.{IsFirstTagged, NoneTagged, TaggedMemory, first_tagged}
use Rattle.cap_mem.specs.MemoryFields.{memory_of}
use Rattle.cap_mem.proofs.Tags.{tagged_some, tagged_none, first_tagged_some, first_tagged_none}
use Rattle.cap_mem.proofs.Walks.{granule_of_tag}
use Rattle.cap_mem.proofs.memory.Memory.tagged.Goals as goal
use Rattle.cap_mem.proofs.memory.Memory.tagged.Goals.{In-Some, In-None}

found : (c : In-Some) → IsFirstTagged (memory_of c.self.inside) c.args.from (c.self.inside.base + c.in-Some.g * 16)
found c =
    let m = c.self.inside in
    let f = tagged_some m c.self.invariant c.deref.result.now c.first_granule_from-start.result c.args.from c.in-Some.g c.deref.ensures.value c.in-Some.ensures c.first_granule_from-start.ensures.reaches c.first_granule_from-start.ensures.least in
    let e : m.base + 16 * c.in-Some.g ≡ m.base + c.in-Some.g * 16 = omega arith in
    subst (λ (r : ℕ). IsFirstTagged (memory_of m) c.args.from r) e f

none : (c : In-None) → NoneTagged (memory_of c.self.inside) c.args.from
none c = tagged_none c.self.inside c.self.invariant c.deref.result.now c.first_granule_from-start.result c.args.from c.deref.ensures.value c.in-None.ensures c.first_granule_from-start.ensures.least

pub returns-in-Some-clause-first : goal.returns-in-Some-clause-first
returns-in-Some-clause-first c =
    subst (λ (v : TaggedMemory). Some (c.self.inside.base + c.in-Some.g * 16) ≡ first_tagged v c.args.from) c.self.view_is
    (sym (first_tagged_some c.self.inside c.args.from (c.self.inside.base + c.in-Some.g * 16) (found c)))

pub returns-in-Some-clause-least : goal.returns-in-Some-clause-least
returns-in-Some-clause-least c =
    subst (λ (v : TaggedMemory). IsFirstTagged v c.args.from (c.self.inside.base + c.in-Some.g * 16)) c.self.view_is (found c)

pub returns-in-Some-clause-granule : goal.returns-in-Some-clause-granule
returns-in-Some-clause-granule c =
    granule_of_tag c.self.inside c.self.invariant c.args.self.now (c.self.inside.base + c.in-Some.g * 16) c.self.view_is (returns-in-Some-clause-least c).tagged

pub returns-in-None-clause-first : goal.returns-in-None-clause-first
returns-in-None-clause-first c =
    subst (λ (v : TaggedMemory). None ≡ first_tagged v c.args.from) c.self.view_is (sym (first_tagged_none c.self.inside c.args.from (none c)))

pub returns-in-None-clause-least : goal.returns-in-None-clause-least
returns-in-None-clause-least c = subst (λ (v : TaggedMemory). NoneTagged v c.args.from) c.self.view_is (none c)

use Rattle.std.proofs.Common.{rules, true, ℤ, FitsSigned, w64, to_z-of_z, ◌≡◌, ◌∙◌, ℕ, List, ◌++◌, length, ap, sym, subst, arith}
use Rattle.cap_elf.specs.declared.records.Reloc.{Reloc}
use Rattle.cap_table.specs.declared.target.Target.{Target}
use Rattle.cap_table.specs.Kinds.{is_slot}
use Rattle.cap_table.specs.Targets.{target_of}
use Rattle.cap_table.specs.Bodies.{held, put_in, offset_in_piece}
use Rattle.cap_table.proofs.BodyRoom.{long_at, held_long, held_step, put_in_long}
use Rattle.cap_table.proofs.bodies.hold_field.Goals as goal

pub put_in-requires-clause-piece : goal.put_in-requires-clause-piece
put_in-requires-clause-piece c = (long_at c.args.bodies.now.items c.args.layout.now.pieces.all c.args.step.now.piece c.requires.long c.requires.step.piece).0

pub put_in-requires-clause-inside : goal.put_in-requires-clause-inside
put_in-requires-clause-inside c =
    let r = c.reloc_at-reloc.result in
    let slot = sym c.is_field_kind.ensures ∙ c.if-is_field_kind.true in
    let fits : FitsSigned w64 r.addend = search rules in
    let bytes = c.deref.ensures.value ∙ c.in_ok-push_held.ensures ∙ ap (λ (z : ℤ). c.clear.new.self.items ++ held r.kind c.target_ref-target.result.now z) (to_z-of_z fits) ∙ ap (λ (xs : List ℕ). xs ++ held r.kind c.target_ref-target.result.now r.addend) c.clear.ensures.items in
    let long = ap length bytes ∙ held_long r.kind c.target_ref-target.result.now r.addend slot in
    let body = (long_at c.args.bodies.now.items c.args.layout.now.pieces.all c.args.step.now.piece c.requires.long c.requires.step.piece).1 in
    omega (arith, c.field_offset-offset.ensures.room, long, body)

pub returns-in_ok-push_held-clause-value : goal.returns-in_ok-push_held-clause-value
returns-in_ok-push_held-clause-value c =
    let named = c.args.sources.now in
    let pieces = c.args.layout.now.pieces.all in
    let step = c.args.step.now in
    let old = c.args.bodies.now.items in
    let r = c.reloc_at-reloc.result in
    let slot = sym c.is_field_kind.ensures ∙ c.if-is_field_kind.true in
    let fits : FitsSigned w64 r.addend = search rules in
    let bytes = c.deref.ensures.value ∙ c.in_ok-push_held.ensures ∙ ap (λ (z : ℤ). c.clear.new.self.items ++ held r.kind c.target_ref-target.result.now z) (to_z-of_z fits) ∙ ap (λ (xs : List ℕ). xs ++ held r.kind c.target_ref-target.result.now r.addend) c.clear.ensures.items in
    let is = ap (λ (t : Target). held r.kind t r.addend) c.target_ref-target.ensures ∙ ap (λ (q : Reloc). held q.kind (target_of named step.file q.symbol) q.addend) c.reloc_at-reloc.ensures.reloc in
    c.put_in.ensures
    ∙ ap (λ (at : ℕ). put_in old step.piece at c.deref.result.now) c.field_offset-offset.ensures.value
    ∙ ap (λ (with : List ℕ). put_in old step.piece (offset_in_piece named.rels pieces step) with) (bytes ∙ is)
    ∙ sym (held_step named pieces old step (subst (λ (q : Reloc). is_slot q.kind ≡ true) c.reloc_at-reloc.ensures.reloc slot))

pub returns-in_ok-push_held-clause-long : goal.returns-in_ok-push_held-clause-long
returns-in_ok-push_held-clause-long c =
    let r = c.reloc_at-reloc.result in
    let slot = sym c.is_field_kind.ensures ∙ c.if-is_field_kind.true in
    let fits : FitsSigned w64 r.addend = search rules in
    let bytes = c.deref.ensures.value ∙ c.in_ok-push_held.ensures ∙ ap (λ (z : ℤ). c.clear.new.self.items ++ held r.kind c.target_ref-target.result.now z) (to_z-of_z fits) ∙ ap (λ (xs : List ℕ). xs ++ held r.kind c.target_ref-target.result.now r.addend) c.clear.ensures.items in
    let long = ap length bytes ∙ held_long r.kind c.target_ref-target.result.now r.addend slot in
    let body = (long_at c.args.bodies.now.items c.args.layout.now.pieces.all c.args.step.now.piece c.requires.long c.requires.step.piece).1 in
    put_in_long c.args.bodies.now.items c.put_in.new.bodies.items c.args.step.now.piece c.field_offset-offset.result c.deref.result.now c.put_in.ensures (omega (arith, c.field_offset-offset.ensures.room, long, body)) ∙ c.requires.long

use Rattle.std.proofs.Common.{◌≡◌, ◌<◌, ◌≤◌, ℕ, List, refl, ap, sym, ◌∙◌, arith, length, take, subst}
use Rattle.std.specs.Prelude.{All, string_bytes}
use Rattle.cap_session.specs.Mappings.{spans_of}
use Rattle.cap_session.specs.Roster.{RosterValue, IsRoster, cut_to, pad_start}
use Rattle.cap_session.specs.RosterFields.{roster_of}
use Rattle.cap_session.proofs.Covers.{cover_at, cover_one, cover_take}
use Rattle.cap_session.proofs.RosterLemmas.{pads_roots, roster_first, roster_with}
use Rattle.cap_session.proofs.roster.Roster.cut.Goals as goal
use Rattle.cap_session.proofs.roster.Roster.cut.Goals.{After-truncate-3}

pub give_back-requires-clause-count : goal.give_back-requires-clause-count
give_back-requires-clause-count c = pads_roots (roster_of c.self.inside) c.self.invariant.roster

next_is : (c : After-truncate-3) → c.give_back.new.space.next ≡ pad_start c.args.len (roster_of c.self.inside)
next_is c =
    let r = roster_of c.self.inside in
    let back = c.give_back.new in
    let pads = take c.args.len r.pads in
    let roots = take c.args.len r.roots in
    cover_one 0x40000000 back.space.next (pad_start c.args.len r) (spans_of pads roots)
    (cover_at back.space.start 0x40000000 back.space.next back.pads.items pads back.roots.items roots
    (c.give_back.ensures.start ∙ c.self.invariant.start) c.give_back.ensures.pads c.give_back.ensures.roots c.give_back.ensures.covered)
    (cover_take 0x40000000 r.next c.args.len r.pads r.roots (pads_roots r c.self.invariant.roster) c.self.invariant.roster.covered)

sound : (c : After-truncate-3) → IsRoster (cut_to c.args.len (roster_of c.self.inside) (pad_start c.args.len (roster_of c.self.inside)))
sound c =
    let few = ap (λ (r : RosterValue). length r.objects) c.self.view_is in
    let within = subst (λ (r : RosterValue). All (λ of. All (λ i. i < c.args.len) of) (take c.args.len r.deps)) (sym c.self.view_is) c.requires.within in
    roster_first (roster_of c.self.inside) c.args.len c.self.invariant.roster (omega (arith, few, c.requires.some)) within

pub invariant_of-self : goal.invariant_of-self
invariant_of-self c = record {
  roster = rw (c.truncate.ensures.items, c.cut.ensures, c.cut_deps.ensures, c.give_back.ensures.pads, c.give_back.ensures.roots, c.truncate-2.ensures.items, c.truncate-3.ensures.items, next_is c) (sound c);
  start = c.give_back.ensures.start ∙ c.self.invariant.start;
  limit = c.give_back.ensures.limit ∙ c.self.invariant.limit;
}

pub returns-clause-value : goal.returns-clause-value
returns-clause-value c =
    subst
    (λ (r : RosterValue). roster_with (string_bytes c.self.inside.dir) c.truncate.new.self.items c.cut.new.self c.cut_deps.new.deps c.give_back.new.pads.items c.give_back.new.roots.items c.truncate-2.new.self.items c.truncate-3.new.self.items c.give_back.new.space.next
    ≡ cut_to c.args.len r (pad_start c.args.len r))
    c.self.view_is
    (rw (c.truncate.ensures.items, c.cut.ensures, c.cut_deps.ensures, c.give_back.ensures.pads, c.give_back.ensures.roots, c.truncate-2.ensures.items, c.truncate-3.ensures.items, next_is c) refl)

pub returns-clause-sound : goal.returns-clause-sound
returns-clause-sound c =
    rw (c.truncate.ensures.items, c.cut.ensures, c.cut_deps.ensures, c.give_back.ensures.pads, c.give_back.ensures.roots, c.truncate-2.ensures.items, c.truncate-3.ensures.items, next_is c) (sound c)

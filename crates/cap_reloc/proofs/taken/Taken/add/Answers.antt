use Rattle.std.proofs.Common.{⊎_elim, sym, ap, ◌∙◌, arith, ℕ}
use Rattle.std.specs.List.{list_any}
use Rattle.cap_base.specs.Lists.{share_byte}
use Rattle.cap_reloc.proofs.Taking.{IsFree, free, inserted, solid_more, apart_more, touched_more}
use Rattle.cap_reloc.proofs.taken.Taken.add.Goals as goal

pub invariant_of-self : goal.invariant_of-self
invariant_of-self c =
    let old = c.args.self.now in
    let m = old.lens in
    let x : ℕ × ℕ = (c.args.at, c.args.len) in
    let here : IsFree m x = free m c.insert.ensures.was_ordered x c.requires in
    ⊎_elim
    (λ new. record {
      solid = solid_more m c.insert.new.self x.0 x.1 new old.solid (omega arith);
      apart = apart_more m c.insert.new.self x new old.solid old.apart (omega arith) here;
    })
    (λ same. record {
      solid = λ a e is. old.solid a e (sym (same a) ∙ is);
      apart = λ a e b f ia ib lt. old.apart a e b f (sym (same a) ∙ ia) (sym (same b) ∙ ib) lt;
    })
    (inserted c.insert.result m c.insert.new.self x.0 x.1 c.insert.ensures.updates c.insert.ensures.err)

pub returns-in_ok-insert : goal.returns-in_ok-insert
returns-in_ok-insert c = λ q.
    let x : ℕ × ℕ = (c.args.at, c.args.len) in
    ap (list_any (share_byte q)) c.in_ok-insert.ensures.entries
    ∙ touched_more c.args.self.now.lens x c.args.self.now.solid (omega arith) (free c.args.self.now.lens c.insert.ensures.was_ordered x c.requires) q

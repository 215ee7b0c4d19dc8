use Rattle.std.proofs.Common.{⊎_elim, sym, ap, ◌∙◌, arith}
use Rattle.cap_intervals.specs.Entries.{any_clashes}
use Rattle.cap_intervals.proofs.Insert.{IsFree, free, inserted, solid_more, apart_more, below_more, clashes_more}
use Rattle.cap_intervals.proofs.scattered.Scattered.add.Goals as goal

pub invariant_of-self : goal.invariant_of-self
invariant_of-self c =
    let old = c.args.self.now in
    let m = old.ends in
    let n = c.insert.new.self in
    let x = c.args.x in
    let here : IsFree m c.args.aliases x = free m c.insert.ensures.was_ordered c.args.aliases x c.requires.free in
    let low = below_more c.insert.result m n x.start x.end old.top _ c.insert.ensures.entries c.insert.ensures.err old.below (omega arith) (omega arith) in
    ⊎_elim
    (λ new. record {
      solid = solid_more m n x.start x.end new old.solid c.requires.solid;
      apart = apart_more m n c.args.aliases x new old.solid old.apart c.requires.solid here;
      below = low;
    })
    (λ same. record {
      solid = λ a e is. old.solid a e (sym (same a) ∙ is);
      apart = λ a e b f ia ib lt. old.apart a e b f (sym (same a) ∙ ia) (sym (same b) ∙ ib) lt;
      below = low;
    })
    (inserted c.insert.result m n x.start x.end c.insert.ensures.updates c.insert.ensures.err)

pub returns : goal.returns
returns c = λ b q.
    ap (any_clashes b q) c.in_ok-insert.ensures.entries
    ∙ clashes_more c.args.self.now.ends c.args.aliases c.args.x c.args.self.now.solid c.requires.solid (free c.args.self.now.ends c.insert.ensures.was_ordered c.args.aliases c.args.x c.requires.free) b q

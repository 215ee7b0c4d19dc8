use Rattle.std.proofs.Common.{◌<◌, length, get_or, subst, sym, arith}
use Rattle.cap_reloc.specs.Wanted.{Setting}
use Rattle.cap_reloc.specs.Sound.{setting_in, IsMappingOf}
use Rattle.cap_reloc.proofs.Mappings.{as_many, mapping_of}
use Rattle.cap_reloc.proofs.loaded.Loaded.root.Goals as goal

pub bounds-self-inside-i : goal.bounds-self-inside-i
bounds-self-inside-i c =
    let l = c.self.inside in
    let low : c.args.i < length (setting_in l).objects = subst (λ (s : Setting). c.args.i < length s.objects) (sym c.self.view_is) c.requires in
    let many = as_many (setting_in l).objects 0 l.roots.now c.self.invariant.placed.mappings in
    omega (arith, low, many)

pub returns : goal.returns
returns c =
    let l = c.self.inside in
    let low : c.args.i < length (setting_in l).objects = subst (λ (s : Setting). c.args.i < length s.objects) (sym c.self.view_is) c.requires in
    subst (λ (s : Setting). IsMappingOf s c.args.i (get_or l.roots.now c.args.i c.index-self-i.result)) c.self.view_is
    (mapping_of l.roots.now (setting_in l) c.args.i c.index-self-i.result c.self.invariant.placed low)

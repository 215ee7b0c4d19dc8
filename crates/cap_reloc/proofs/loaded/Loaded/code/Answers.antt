use Rattle.std.proofs.Common.{◌<◌, length, subst, sym}
use Rattle.std.proofs.lemmas.List.Elements.{All-get_or}
use Rattle.cap_elf.specs.IsRead.{IsRead}
use Rattle.cap_scope.specs.Chosen.{object_at, no_records}
use Rattle.cap_reloc.specs.Wanted.{Setting}
use Rattle.cap_reloc.specs.Sound.{setting_in}
use Rattle.cap_reloc.proofs.Within.{code_within}
use Rattle.cap_reloc.proofs.loaded.Loaded.code.Goals as goal

pub returns-in-None-clause-sound : goal.returns-in-None-clause-sound
returns-in-None-clause-sound c =
    let objects = (setting_in c.self.inside).objects in
    let low : c.args.i < length objects = subst (λ (s : Setting). c.args.i < length s.objects) (sym c.self.view_is) c.requires.there in
    let read : IsRead (object_at objects c.args.i) = All-get_or IsRead objects c.args.i no_records low c.self.invariant.placed.read in
    code_within (object_at c.args.self.now.objects c.args.i) c.args.at (subst (λ (s : Setting). IsRead (object_at s.objects c.args.i)) c.self.view_is read) c.requires.code

pub returns-in-Some-clause-sound : goal.returns-in-Some-clause-sound
returns-in-Some-clause-sound c =
    let objects = (setting_in c.self.inside).objects in
    let low : c.args.i < length objects = subst (λ (s : Setting). c.args.i < length s.objects) (sym c.self.view_is) c.requires.there in
    let read : IsRead (object_at objects c.args.i) = All-get_or IsRead objects c.args.i no_records low c.self.invariant.placed.read in
    code_within (object_at c.args.self.now.objects c.args.i) c.args.at (subst (λ (s : Setting). IsRead (object_at s.objects c.args.i)) c.self.view_is read) c.requires.code

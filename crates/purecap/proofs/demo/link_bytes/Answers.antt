use Rattle.std.proofs.Common.{ℕ, Vec, Global}
use Rattle.purecap.specs.LinkWords.{link_meant}
use Rattle.purecap.proofs.DemoSteps.{link_gives, link_halts}
use Rattle.purecap.proofs.demo.link_bytes.Goals as goal

pub returns-in-Ok : goal.returns-in-Ok
returns-in-Ok c = link_gives (λ v. v.items) (link_meant c.args.words.now) c.args.inputs c.requires.words c.in-Ok.bytes c.in-Ok.ensures

pub returns-in-Err : goal.returns-in-Err
returns-in-Err c =
    link_halts {X = Vec ℕ Global} (λ v. v.items) (link_meant c.args.words.now) c.args.inputs c.requires.words c.in-Err.stop c.halt_of.result c.in-Err.ensures c.halt_of.ensures

use Rattle.std.proofs.Common.{map}
use Rattle.clap.specs.Words.{app_of}
use Rattle.purecap.proofs.Parsing.{parse_takes, parse_refuses}
use Rattle.purecap.proofs.words.parse.Goals as goal

pub returns-in-Ok : goal.returns-in-Ok
returns-in-Ok c = parse_takes (app_of c.args.command) (map (λ text. text.now) c.args.words.now) c.in-Ok.matches c.requires (c.in-Ok.ensures.kinds c.requires) c.in-Ok.ensures.matches

pub returns : goal.returns
returns c =
    parse_refuses (app_of c.args.command) (map (λ text. text.now) c.args.words.now) c.kind.result (rw c.kind.ensures (c.in-Err.ensures.kinds c.requires)) c.in_default.not-OutOfMemory

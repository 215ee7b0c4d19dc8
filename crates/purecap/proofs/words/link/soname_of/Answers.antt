use Rattle.std.proofs.Common.{codes, ap, sym, Ok, Some}
use Rattle.clap.specs.Words.{found_of}
use Rattle.purecap.proofs.LinkParsing.{soname_read, no_soname_read}
use Rattle.purecap.proofs.words.link.soname_of.Goals as goal

pub returns-in_ok-name-in-Some : goal.returns-in_ok-name-in-Some
returns-in_ok-name-in-Some c =
    rw (soname_read (found_of c.args.matches.now) (codes "shared") c.get_str.result c.in-Some.word c.get_str.ensures c.in-Some.is) (ap (λ t. Ok (Some t)) (sym c.in_ok-name-in-Some.ensures.ok))

pub returns-in-None : goal.returns-in-None
returns-in-None c = ap (λ o. Ok o) (no_soname_read (found_of c.args.matches.now) (codes "shared") c.get_str.result c.get_str.ensures c.in-None.is)

use Rattle.std.proofs.Common.{rules}
use Rattle.cap_chain.proofs.CountLemmas.{firsts_below, rest_below, counted}
use Rattle.cap_chain.proofs.FirstLemmas.{first_there}
use Rattle.cap_chain.proofs.counting.ChainCounts.of.Goals as goal

pub count_all-requires-clause-first : goal.count_all-requires-clause-first
count_all-requires-clause-first c = firsts_below c.args.words.now c.args.names.now c.requires.table c.requires.sound

pub count_all-requires-clause-inside : goal.count_all-requires-clause-inside
count_all-requires-clause-inside c = rest_below c.args.words.now c.args.names.now c.requires.table c.requires.sound

pub returns : goal.returns
returns c =
    let words = c.args.words.now in
    let names = c.args.names.now in
    record {
      sound = c.requires.sound;
      held = λ name. first_there words names name c.requires.sound;
      counts = counted words names c.requires.table c.requires.sound c.in_ok-lengths.lengths.items c.count_all.new.places.items c.in_ok-places.places.items (search rules) c.in_ok-lengths.ensures.lengths c.in_ok-lengths.ensures.places;
    }

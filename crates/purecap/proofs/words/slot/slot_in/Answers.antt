use Rattle.std.proofs.lemmas.List.{take_rest}
use Rattle.purecap.proofs.Slots.{digits_of}
use Rattle.purecap.proofs.words.slot.slot_in.Goals as goal

pub slice_bounds-number_in-count : goal.slice_bounds-number_in-count
slice_bounds-number_in-count c = (digits_of c.args.word.now c.requires).2

pub slice_bounds-number_in-start : goal.slice_bounds-number_in-start
slice_bounds-number_in-start c = (digits_of c.args.word.now c.requires).2

pub number_in-requires-clause-digits : goal.number_in-requires-clause-digits
number_in-requires-clause-digits c = rw (take_rest c.args.word.now 2) (digits_of c.args.word.now c.requires).0

pub number_in-requires-clause-few : goal.number_in-requires-clause-few
number_in-requires-clause-few c = rw (take_rest c.args.word.now 2) (digits_of c.args.word.now c.requires).1

use Rattle.cap_conc.proofs.ComputedLemmas.{representable_length-divides, is_exact-representable, representable_length-mono, representable_alignment-mono}
use Rattle.cap_conc.proofs.laws.rounding_laws.Goals as goal

pub returns : goal.returns
returns c = record {
  divides = representable_length-divides;
  exact = is_exact-representable;
  lengths_grow = representable_length-mono;
  alignments_grow = representable_alignment-mono;
}

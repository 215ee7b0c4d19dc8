use Rattle.std.proofs.Common.{ℕ, Bool}
use Rattle.cap_conc.specs.Encoding.{fields_with, word_of}
use Rattle.cap_conc.specs.Decoding.{DecodesTo}
use Rattle.cap_conc.specs.Laws.{IsEncodable}
use Rattle.cap_conc.proofs.EncodingLemmas.{DecodesTo-word_of}
use Rattle.cap_conc.proofs.ComputedLemmas.{DecodesTo-fields_of, is_exact-IsExact}
use Rattle.cap_conc.proofs.Unique.{DecodesTo-unique}
use Rattle.cap_conc.proofs.laws.encoding_laws.Goals as goal

decodes : (base length cursor permissions : ℕ) (flag : Bool) (object_type : ℕ) → IsEncodable base length cursor permissions object_type → DecodesTo (word_of base length cursor permissions flag object_type) (fields_with base length cursor permissions flag object_type)
decodes base length cursor permissions flag object_type h =
    DecodesTo-word_of base length cursor permissions flag object_type ((is_exact-IsExact base length).0 h.exact) h.end h.from_base h.to_top h.address h.permission_bits h.object_type_bits

pub returns : goal.returns
returns c = record {
  decodes = decodes;
  fields_are = λ base length cursor permissions flag object_type h. DecodesTo-unique _ _ _ (DecodesTo-fields_of _) (decodes base length cursor permissions flag object_type h);
}

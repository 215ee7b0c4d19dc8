-- Laws of the definitions, over numbers of any size.
use Rattle.std.specs.Prelude.{◌≡◌, ◌↔◌, ℕ, ◌+◌, ◌%◌, ◌^◌, ◌<◌, ◌≤◌, Bool, true}
use Rattle.cap_conc.specs.declared.word.Word.{Word}
use Rattle.cap_conc.specs.declared.word.Fields.{Fields}
use Rattle.cap_conc.specs.Exact.{IsExact, IsRepresentableLength, IsRepresentableAlignment}
use Rattle.cap_conc.specs.Encoding.{fields_with, word_of}
use Rattle.cap_conc.specs.Decoding.{DecodesTo}
use Rattle.cap_conc.specs.Computed.{fields_of, is_exact, representable_length, representable_alignment}

-- each computed function gives the only answer that its relation allows
pub record IsComputed : Type 0 where
  pub fields : (w : Word) (f : Fields) → DecodesTo w f ↔ (f ≡ fields_of w)
  pub exact : (base length : ℕ) → (is_exact base length ≡ true) ↔ IsExact base length
  pub length : (wanted length : ℕ) → IsRepresentableLength wanted length ↔ (length ≡ representable_length wanted)
  pub alignment : (wanted alignment : ℕ) → IsRepresentableAlignment wanted alignment ↔ (alignment ≡ representable_alignment wanted)

-- rounded lengths are multiples of the alignment, are exact at its multiples and there alone, and grow with what is
-- wanted, as alignments do
pub record IsRoundingSound : Type 0 where
  pub divides : (wanted : ℕ) → representable_length wanted % representable_alignment wanted ≡ 0
  pub exact : (base wanted : ℕ) → (is_exact base (representable_length wanted) ≡ true) ↔ (base % representable_alignment wanted ≡ 0)
  pub lengths_grow : (less more : ℕ) → less ≤ more → representable_length less ≤ representable_length more
  pub alignments_grow : (less more : ℕ) → less ≤ more → representable_alignment less ≤ representable_alignment more

-- a capability whose word is defined: its bounds are exact and end at 2 ^ 64 at most, its cursor lies within them, and
-- its other fields have their widths
pub record IsEncodable (base length cursor permissions object_type : ℕ) : Type 0 where
  pub exact : is_exact base length ≡ true
  pub end : base + length ≤ 2 ^ 64
  pub from_base : base ≤ cursor
  pub to_top : cursor ≤ base + length
  pub address : cursor < 2 ^ 64
  pub permission_bits : permissions < 2 ^ 16
  pub object_type_bits : object_type < 2 ^ 18

-- the word of exact bounds decodes to what it was made of
pub record EncodingRoundTrips : Type 0 where
  pub decodes : (base length cursor permissions : ℕ) (flag : Bool) (object_type : ℕ) → IsEncodable base length cursor permissions object_type → DecodesTo (word_of base length cursor permissions flag object_type) (fields_with base length cursor permissions flag object_type)
  pub fields_are : (base length cursor permissions : ℕ) (flag : Bool) (object_type : ℕ) → IsEncodable base length cursor permissions object_type → fields_of (word_of base length cursor permissions flag object_type) ≡ fields_with base length cursor permissions flag object_type

-- Steps that may be refused, by any kind of refusal.
use Rattle.std.specs.Prelude.{ℕ, Bool, true, false, List, [], ◌∷◌, ◌++◌, Option, Some, None, Result, Ok, Err}
use Rattle.cap_base.specs.Check.{number_of}
use Rattle.cap_base.specs.declared.check.Check.{Check}
use Rattle.cap_reloc.specs.declared.refusal.RelocRefusal.{RelocRefusal}
use Rattle.cap_reloc.specs.declared.refusal.RelocRefusal.TheVariants.{Malformed, Unsupported}

-- refused by this, where it fails
abbrev pub refuse : {E : Type 0} → Bool → E → Result (Unit {0}) E
refuse true e = Err e
refuse false e = Ok tt

-- what is there, or refused by this
abbrev pub or_refuse : {E X : Type 0} → Option X → E → Result X E
or_refuse None e = Err e
or_refuse (Some x) e = Ok x

-- the refusal of a check of a relocation, which names a file offset
abbrev pub malformed : Check → ℕ → RelocRefusal
malformed check at = Malformed (number_of check) at

abbrev pub unsupported : Check → ℕ → RelocRefusal
unsupported check at = Unsupported (number_of check) at

-- each element, with those before it
abbrev pub with_earlier_from : {X : Type 0} → List X → List X → List (List X × X)
with_earlier_from earlier [] = []
with_earlier_from earlier (x ∷ xs) = (earlier, x) ∷ with_earlier_from (earlier ++ x ∷ []) xs

abbrev pub with_earlier : {X : Type 0} → List X → List (List X × X)
with_earlier xs = with_earlier_from [] xs

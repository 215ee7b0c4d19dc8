-- What one relocation more does to a plan.
use Rattle.std.specs.Prelude.{◌≡◌, ℕ, ◌||◌, List, [], ◌∷◌, ◌++◌, Option, Some, None, Result, Ok, Err}
use Rattle.cap_base.specs.Lists.{share_byte}
use Rattle.cap_reloc.specs.declared.plan.Plan.{Plan}
use Rattle.cap_reloc.specs.declared.refusal.RelocRefusal.{RelocRefusal}
use Rattle.cap_reloc.specs.Wanted.{Pair}
use Rattle.cap_reloc.specs.Taken.{is_touched}
use Rattle.cap_reloc.specs.Binding.{IsRefusedBy}

abbrev pub list_of : Option Pair → List Pair
list_of None = []
list_of (Some pair) = pair ∷ []

-- the plan has this pair more, if it is one, and its slot is taken
pub record HasMore (old new : Plan) (slot : ℕ × ℕ) (pair : Option Pair) : Type 0 where
  pub planned : new.planned.items ≡ old.planned.items ++ list_of pair
  pub taken : (q : ℕ × ℕ) → is_touched new.taken q ≡ (share_byte q slot || is_touched old.taken q)

-- the plan has the pair that is said here, if it is one; or it is refused as is said here, or memory ran out
abbrev pub Adds : {T : Type 0} → Plan → Plan → ℕ × ℕ → Result (Option Pair) RelocRefusal → Result T RelocRefusal → Type 0
Adds old new slot said (Ok _) = (pair : Option Pair) × (said ≡ Ok pair) × HasMore old new slot pair
Adds old new slot said (Err e) = IsRefusedBy said e

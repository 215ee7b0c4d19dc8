-- What holds of the capabilities that narrowing gives.
use Rattle.std.proofs.Common.{◌≡◌, ℕ, ◌+◌, ◌^◌, ◌<◌, ◌≤◌, Bool, true, false, bit_and, arith, ap, sym, ◌∙◌, inl, inr, refl}
use Rattle.std.proofs.lemmas.Nat.{and_assoc, and_le_r}
use Rattle.cap_conc.specs.Computed.{is_exact}
use Rattle.cap_conc.specs.Laws.{IsEncodable}
use Rattle.cap_own.specs.Cap.{object_type, IsSubset, HasRights, Part, IsPart, Grant, IsGrant, narrowed_to}

IsSubset-trans : (inner middle outer : ℕ) → IsSubset inner middle → IsSubset middle outer → IsSubset inner outer
IsSubset-trans inner middle outer p q =
    ap (λ x. bit_and x outer) (sym p) ∙ and_assoc outer inner middle ∙ ap (bit_and inner) q ∙ p

HasRights-narrowed : (outer inner : ℕ) (flag : Bool) → HasRights outer flag → IsSubset inner outer → (flag ≡ true → inner ≡ outer) → HasRights inner flag
HasRights-narrowed outer inner flag (inl (code, capability)) subset same = inl (same capability ∙ code, capability)
HasRights-narrowed outer inner flag (inr (some, plain)) subset same = inr (IsSubset-trans inner outer 0x7D subset some, plain)

pub IsGrant-narrowed_to : (part : Part) (base len perms : ℕ) → IsPart part → part.base ≤ base → base + len ≤ part.base + part.len → IsSubset perms part.perms → (part.flag ≡ true → perms ≡ part.perms) → is_exact base len ≡ true → IsGrant (narrowed_to part base len perms)
IsGrant-narrowed_to part base len perms h from to fewer code exact = record {
  narrowed = record {
    within = (omega (arith, from, h.within.0), omega (arith, to, h.within.1));
    owner = refl;
    rights = HasRights-narrowed part.perms perms part.flag h.rights fewer code;
  };
  exact = exact;
  from_base = omega arith;
  to_top = omega arith;
}

-- no permission of code or of data is above bit 6
HasRights-below : (perms : ℕ) (flag : Bool) → HasRights perms flag → perms < 2 ^ 16
HasRights-below perms flag (inl (code, _)) = omega (arith, code)
HasRights-below perms flag (inr (some, _)) = omega (arith, some, and_le_r perms 0x7D)

object_type-below : (sealed : Bool) → object_type sealed < 2 ^ 18
object_type-below true = omega arith
object_type-below false = omega arith

pub IsEncodable-grant : (g : Grant) → IsGrant g → g.root.base + g.root.len ≤ 2 ^ 62 → IsEncodable g.cap.base g.cap.len g.cap.cursor g.cap.perms (object_type g.cap.sealed)
IsEncodable-grant g h end =
    let within = h.narrowed.within in
    let to = h.to_top in
    record {
      exact = h.exact;
      end = omega (arith, within.1, end);
      from_base = h.from_base;
      to_top = to;
      address = omega (arith, within.1, end, to);
      permission_bits = HasRights-below g.cap.perms g.cap.flag h.narrowed.rights;
      object_type_bits = object_type-below g.cap.sealed;
    }

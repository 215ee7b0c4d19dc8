-- The counts of the linked file.
use Rattle.std.proofs.Common.{◌≡◌, ◌+◌, Bool, true, false, cond, ◌&&◌, List, [], ◌∷◌, filter, length, refl, ap}
use Rattle.cap_table.specs.declared.gathering.Entries.{Entries}
use Rattle.cap_table.specs.declared.gathering.Entries.TheVariants as entries
use Rattle.cap_table.specs.declared.target.Target.{Target}
use Rattle.cap_table.specs.declared.target.Step.{Step}
use Rattle.cap_table.specs.Targets.{Named}
use Rattle.cap_table.specs.Checks.{reloc_of, target_at}
use Rattle.cap_table.specs.Planned.{count, is_field, fields_of, rela_count, cap_reloc_count}
use Rattle.cap_table.specs.Gathered.{has_entry, field_has_entry}

-- a filter of a filter
twice : {X : Type 0} (p q : X → Bool) (xs : List X) → filter p (filter q xs) ≡ filter (λ x. q x && p x) xs
twice p q [] = refl
twice p q (x ∷ xs) = by (q x) (twice p q xs)
  where
    by : (b : Bool) → filter p (filter q xs) ≡ filter (λ x. q x && p x) xs → filter p (cond b (x ∷ filter q xs) (filter q xs)) ≡ cond (b && p x) (x ∷ filter (λ x. q x && p x) xs) (filter (λ x. q x && p x) xs)
    by true e = ap (λ l. cond (p x) (x ∷ l) l) e
    by false e = e

fields : (e : Entries) (named : Named) (steps : List Step) → count (λ s. has_entry e (reloc_of named.rels s).kind (target_at named s)) (fields_of named steps) ≡ count (field_has_entry e named) steps
fields e named steps = ap length (twice (λ s. has_entry e (reloc_of named.rels s).kind (target_at named s)) (is_field named) steps)

pub relas : (named : Named) (slots : List Target) (steps : List Step) → rela_count named slots steps ≡ count (has_entry entries.Relocated 193) slots + count (field_has_entry entries.Relocated named) steps
relas named slots steps = ap (λ n. count (has_entry entries.Relocated 193) slots + n) (fields entries.Relocated named steps)

pub cap_relocs : (named : Named) (slots : List Target) (steps : List Step) → cap_reloc_count named slots steps ≡ count (has_entry entries.Described 193) slots + count (field_has_entry entries.Described named) steps
cap_relocs named slots steps = ap (λ n. count (has_entry entries.Described 193) slots + n) (fields entries.Described named steps)

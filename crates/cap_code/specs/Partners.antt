-- Which high part stands at a place of a section, and which first.
use Rattle.std.specs.Prelude.{◌≡◌, ℕ, List, find}
use Rattle.std.specs.Ordering.{nat_cmp, ordering_then}
use Rattle.std.specs.declared.cmp.Ordering.{Ordering}
use Rattle.std.specs.BTreeMap.{BTreeMap, get}
use Rattle.cap_elf.specs.RelObject.{RelObject}
use Rattle.cap_table.specs.declared.target.Step.{Step}
use Rattle.cap_code.specs.Values.{is_high_at}

-- a place: a file, a section of it, and an offset there
abbrev pub place_cmp : ℕ × ℕ × ℕ → ℕ × ℕ × ℕ → Ordering
place_cmp p q = ordering_then (ordering_then (nat_cmp p.0 q.0) (nat_cmp p.1 q.1)) (nat_cmp p.2 q.2)

-- a map leads from each place to the first high part there
abbrev pub AreFirsts : BTreeMap (ℕ × ℕ × ℕ) Step → List RelObject → List Step → Type 0
AreFirsts firsts rels steps = (q : ℕ × ℕ × ℕ) → get place_cmp firsts q ≡ find (is_high_at rels q.0 q.1 q.2) steps

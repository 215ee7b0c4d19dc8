-- Loops that read the records of a relocatable object.
use Rattle.std.proofs.Common.{◌⊎◌, inl, inr, refl, sym, Some, Result, Ok, suc, ◌≡◌, ℕ, ◌+◌, ◌-◌, ◌*◌, ◌≤◌, ◌<◌, List, [], ◌∷◌, ◌++◌, map, ap, ◌∙◌, arith}
use Rattle.std.specs.List.{range_with_len}
use Rattle.std.proofs.lemmas.List.FromFn.{map-range_with_len_more}
use Rattle.std.specs.Prelude.{All, IfSome, length}
use Rattle.std.proofs.lemmas.List.Elements.{All-map}
use Rattle.cap_base.specs.Lists.{numbers_between}
use Rattle.cap_base.specs.declared.refusal.Fault.{Fault}
use Rattle.cap_base.specs.declared.refusal.Stop.{Stop}
use Rattle.cap_base.specs.declared.refusal.Stop.TheVariants as stops
use Rattle.cap_base.specs.declared.refusal.Refusal.TheVariants.{NoMemory}
use Rattle.cap_base.specs.Refusal.{stop_refusal}
use Rattle.cap_base.specs.Steps.{◌>>=◌, steps, Fails, refused}
use Rattle.cap_elf.specs.declared.records.Section.{Section}
use Rattle.cap_elf.specs.RelRelocs.{target_at, targets_at}

-- the numbers from one on are that one and those behind it
numbers_front : {X : Type 0} (g : ℕ → X) (i n : ℕ) → i < n → map g (numbers_between i n) ≡ g i ∷ map g (numbers_between (i + 1) n)
numbers_front g i n lt =
    let one : n - i ≡ suc (n - (i + 1)) = omega (arith, lt) in
    ap (λ k. map g (range_with_len i k)) one

-- a step that passes, among those of the numbers from one on
pub steps_from : {E A X : Type 0} (f : A → X → Result A E) (g : ℕ → X) (a b : A) (i n : ℕ) (total : Result A E) → i < n → f a (g i) ≡ Ok b → steps f a (map g (numbers_between i n)) ≡ total → steps f b (map g (numbers_between (i + 1) n)) ≡ total
steps_from f g a b i n total lt e so_far =
    sym (ap (steps f a) (numbers_front g i n lt) ∙ ap (λ r. r >>= λ c. steps f c (map g (numbers_between (i + 1) n))) e) ∙ so_far

-- one that stops
pub steps_stop_from : {A X : Type 0} (f : A → X → Result A Fault) (g : ℕ → X) (a : A) (i n : ℕ) (e : Stop) (total : Result A Fault) → i < n → Fails e (f a (g i)) → steps f a (map g (numbers_between i n)) ≡ total → Fails e total
steps_stop_from f g a i n stops.Memory total lt h so_far = tt
steps_stop_from f g a i n (stops.Fault u) total lt h so_far =
    sym so_far ∙ ap (steps f a) (numbers_front g i n lt) ∙ ap (λ r. r >>= λ c. steps f c (map g (numbers_between (i + 1) n))) h

-- no step is left
pub steps_end : {E A X : Type 0} (f : A → X → Result A E) (g : ℕ → X) (a : A) (i n : ℕ) (total : Result A E) → n ≤ i → steps f a (map g (numbers_between i n)) ≡ total → total ≡ Ok a
steps_end f g a i n total le so_far =
    let none : n - i ≡ 0 = omega (arith, le) in
    sym so_far ∙ ap (λ k. steps f a (map g (range_with_len i k))) none

-- one more of the numbers from 0 on
pub items_more : {X : Type 0} (f : ℕ → X) (i : ℕ) → map f (range_with_len 0 (i + 1)) ≡ map f (range_with_len 0 i) ++ f i ∷ []
items_more f i = map-range_with_len_more f 0 i i (omega arith)

-- no relocations stand anywhere
pub untouched : (file_len : ℕ) (sections : List Section) → All (λ t. IfSome t.relocs (λ p. p.at + 24 * p.count ≤ file_len)) (targets_at sections)
untouched file_len sections =
    All-map (λ t. IfSome t.relocs (λ p. p.at + 24 * p.count ≤ file_len)) (target_at sections) (range_with_len 0 (length sections)) (λ k d lt. tt)

-- what a stage refuses, the whole refuses
pub refuses_on : {X Y : Type 0} (file : ℕ) (e : Stop) (said : Result X Fault) (f : X → Result Y Fault) → Fails e said → (stop_refusal file e ≡ NoMemory) ⊎ (refused file (said >>= f) ≡ Some (stop_refusal file e))
refuses_on file stops.Memory said f h = inl refl
refuses_on file (stops.Fault g) said f h = inr (ap (λ r. refused file (r >>= f)) h)

-- Folds and counts along a list.
use Rattle.std.proofs.Common.{◌≡◌, ℕ, ◌+◌, ◌<◌, ◌≤◌, Bool, true, false, cond, List, [], ◌∷◌, fold, filter, map, length, get_or, take, drop, refl, sym, ap, ◌∙◌}
use Rattle.std.proofs.lemmas.List.{drop_more, drop_all, take_all}
use Rattle.std.proofs.lemmas.List.Filters.{length-filter_more}
use Rattle.cap_syms.specs.Distinct.{with_new}
use Rattle.cap_table.specs.declared.gathering.Need.{Need}
use Rattle.cap_table.specs.declared.gathering.Need.TheVariants as need
use Rattle.cap_table.specs.declared.target.Target.{Target}
use Rattle.cap_table.specs.declared.target.Step.{Step}
use Rattle.cap_table.specs.Targets.{Named, same_target}
use Rattle.cap_table.specs.Checks.{target_at}
use Rattle.cap_table.specs.Planned.{slots_of, stubs_of, count}
use Rattle.cap_table.specs.Gathered.{needs, with_needed}

-- one more item of a fold
pub fold_more : {A X : Type 0} (f : A → X → A) (a b : A) (xs : List X) (i : ℕ) (d : X) (total : A) → i < length xs → b ≡ f a (get_or xs i d) → fold f a (drop i xs) ≡ total → fold f b (drop (i + 1) xs) ≡ total
fold_more f a b xs i d total lt e so_far =
    ap (λ c. fold f c (drop (i + 1) xs)) e ∙ sym (ap (fold f a) (drop_more xs i d lt)) ∙ so_far

pub fold_done : {A X : Type 0} (f : A → X → A) (a : A) (xs : List X) (i : ℕ) (total : A) → length xs ≤ i → fold f a (drop i xs) ≡ total → a ≡ total
fold_done f a xs i total le so_far = sym (ap (fold f a) (drop_all i xs le)) ∙ so_far

-- the targets that are needed, one step after another
unfolded : (n : Need) (named : Named) (ts : List Target) (s : Step) → with_needed n named ts s ≡ cond (needs n named s) (with_new same_target ts (target_at named s)) ts
unfolding with_needed
unfolded n named ts s = refl

gathered : (n : Need) (named : Named) (ts : List Target) (steps : List Step) → fold (with_needed n named) ts steps ≡ fold (with_new same_target) ts (map (target_at named) (filter (needs n named) steps))
gathered n named ts [] = refl
gathered n named ts (s ∷ rest) = by (needs n named s) refl (λ us. gathered n named us rest)
  where
    by : (b : Bool) → needs n named s ≡ b → ((us : List Target) → fold (with_needed n named) us rest ≡ fold (with_new same_target) us (map (target_at named) (filter (needs n named) rest))) → fold (with_needed n named) ts (s ∷ rest) ≡ fold (with_new same_target) ts (map (target_at named) (filter (needs n named) (s ∷ rest)))
    by true e later =
        ap (λ l. fold (with_needed n named) l rest) (unfolded n named ts s ∙ ap (λ c. cond c (with_new same_target ts (target_at named s)) ts) e)
        ∙ later (with_new same_target ts (target_at named s))
        ∙ sym (ap (λ c. fold (with_new same_target) ts (map (target_at named) (cond c (s ∷ filter (needs n named) rest) (filter (needs n named) rest)))) e)
    by false e later =
        ap (λ l. fold (with_needed n named) l rest) (unfolded n named ts s ∙ ap (λ c. cond c (with_new same_target ts (target_at named s)) ts) e)
        ∙ later ts
        ∙ sym (ap (λ c. fold (with_new same_target) ts (map (target_at named) (cond c (s ∷ filter (needs n named) rest) (filter (needs n named) rest)))) e)

pub slots_gathered : (named : Named) (steps : List Step) → fold (with_needed need.Slot named) [] steps ≡ slots_of named steps
slots_gathered named steps = gathered need.Slot named [] steps

pub stubs_gathered : (named : Named) (steps : List Step) → fold (with_needed need.Stub named) [] steps ≡ stubs_of named steps
stubs_gathered named steps = gathered need.Stub named [] steps

-- one more item of a count
pub count_more : {X : Type 0} (p : X → Bool) (xs : List X) (i : ℕ) (d : X) → i < length xs → count p (take (i + 1) xs) ≡ count p (take i xs) + cond (p (get_or xs i d)) 1 0
count_more p xs i d lt = length-filter_more p xs i d lt

pub count_all : {X : Type 0} (p : X → Bool) (xs : List X) (i : ℕ) → length xs ≤ i → count p (take i xs) ≡ count p xs
count_all p xs i le = ap (count p) (take_all i xs le)

-- The walk over numbered items, and what is next in it.
use Rattle.std.specs.List.{enumerate_from}
use Rattle.std.proofs.Common.{◌≡◌, ◌⊎◌, inl, inr, ⊎_elim, ℕ, ◌+◌, ◌<◌, ◌≤◌, List, ◌∷◌, length, get_or, drop, Result, Ok, Err, refl, sym, ap, ◌∙◌, subst, arith}
use Rattle.std.proofs.lemmas.List.{drop_more, drop_all}
use Rattle.std.proofs.lemmas.List.FromFn.{length-enumerate_from, get_or-enumerate_from}
use Rattle.cap_base.specs.declared.refusal.Fault.{Fault}
use Rattle.cap_base.specs.declared.refusal.Refusal.{Refusal}
use Rattle.cap_base.specs.declared.refusal.Refusal.TheVariants.{NoMemory}
use Rattle.cap_base.specs.declared.refusal.Stop.{Stop}
use Rattle.cap_base.specs.declared.refusal.Stop.TheVariants as stops
use Rattle.cap_base.specs.Refusal.{stop_refusal}
use Rattle.cap_base.specs.Steps.{◌>>=◌, steps, Fails, in_file}
use Rattle.cap_elf.specs.declared.records.Reloc.{Reloc}
use Rattle.cap_elf.specs.RelObject.{RelObject}
use Rattle.cap_elf.specs.IsRelRead.{IsRelRead, IsReloc}
use Rattle.cap_table.specs.Checks.{no_reloc}
use Rattle.cap_table.specs.Walked.{WalkedValue, next_of}

-- the next relocation names a section and a symbol
pub next_is : (object : RelObject) (w : WalkedValue) → IsRelRead object → w.relocs ≡ object.relocs → w.done < length w.relocs → IsReloc object (next_of w)
next_is object w read e lt =
    subst (λ (l : List Reloc). IsReloc object (get_or l w.done no_reloc)) (sym e) (read.relocs_are w.done no_reloc (subst (λ (l : List Reloc). w.done < length l) e lt))

pub few_done : (object : RelObject) (w : WalkedValue) → IsRelRead object → w.relocs ≡ object.relocs → w.done < length w.relocs → w.done < 4294967296
few_done object w read e lt =
    let few = read.reloc_few in
    let below : w.done < length object.relocs = subst (λ (l : List Reloc). w.done < length l) e lt in
    omega (arith, few, below)

module _ {E A X : Type 0} (f : A → ℕ × X → Result A E) (a : A) (xs : List X) (i : ℕ) (d : X) (total : Result A E) where
  front : i < length xs → drop i (enumerate_from 0 xs) ≡ (i, get_or xs i d) ∷ drop (i + 1) (enumerate_from 0 xs)
  front lt =
      let long : i < length (enumerate_from 0 xs) = omega (arith, lt, length-enumerate_from 0 xs) in
      let same : 0 + i ≡ i = omega arith in
      drop_more (enumerate_from 0 xs) i (0, d) long
      ∙ ap (λ p. p ∷ drop (i + 1) (enumerate_from 0 xs)) (get_or-enumerate_from 0 xs i (0, d) lt)
      ∙ ap (λ n. (n, get_or xs i d) ∷ drop (i + 1) (enumerate_from 0 xs)) same

  -- a step that passes
  pub numbered_more : (b : A) → i < length xs → f a (i, get_or xs i d) ≡ Ok b → steps f a (drop i (enumerate_from 0 xs)) ≡ total → steps f b (drop (i + 1) (enumerate_from 0 xs)) ≡ total
  numbered_more b lt e so_far =
      let one : steps f a (drop i (enumerate_from 0 xs)) ≡ steps f b (drop (i + 1) (enumerate_from 0 xs)) =
      ap (steps f a) (front lt) ∙ ap (λ r. r >>= λ c. steps f c (drop (i + 1) (enumerate_from 0 xs))) e in
      sym one ∙ so_far

  -- a step that refuses
  pub numbered_fault : (g : E) → i < length xs → f a (i, get_or xs i d) ≡ Err g → steps f a (drop i (enumerate_from 0 xs)) ≡ total → total ≡ Err g
  numbered_fault g lt e so_far =
      let one : steps f a (drop i (enumerate_from 0 xs)) ≡ Err g =
      ap (steps f a) (front lt) ∙ ap (λ r. r >>= λ c. steps f c (drop (i + 1) (enumerate_from 0 xs))) e in
      sym so_far ∙ one

-- no step is left
pub numbered_done : {E A X : Type 0} (f : A → ℕ × X → Result A E) (a : A) (xs : List X) (i : ℕ) (total : Result A E) → length xs ≤ i → steps f a (drop i (enumerate_from 0 xs)) ≡ total → total ≡ Ok a
numbered_done f a xs i total le so_far =
    sym so_far ∙ ap (steps f a) (drop_all i (enumerate_from 0 xs) (omega (arith, le, length-enumerate_from 0 xs)))

-- a step that stops
pub numbered_stop : {A X : Type 0} (f : A → ℕ × X → Result A Fault) (a : A) (xs : List X) (i : ℕ) (d : X) (total : Result A Fault) (e : Stop) → i < length xs → Fails e (f a (i, get_or xs i d)) → steps f a (drop i (enumerate_from 0 xs)) ≡ total → Fails e total
numbered_stop f a xs i d total stops.Memory lt h so_far = tt
numbered_stop f a xs i d total (stops.Fault g) lt h so_far = numbered_fault f a xs i d total g lt h so_far

-- a step over several files that stops
pub numbered_refusal : {A X : Type 0} (f : A → ℕ × X → Result A Refusal) (a : A) (xs : List X) (i : ℕ) (d : X) (total : Result A Refusal) (r : Refusal) → i < length xs → (r ≡ NoMemory) ⊎ (f a (i, get_or xs i d) ≡ Err r) → steps f a (drop i (enumerate_from 0 xs)) ≡ total → (r ≡ NoMemory) ⊎ (total ≡ Err r)
numbered_refusal f a xs i d total r lt h so_far =
    ⊎_elim
    (λ (n : r ≡ NoMemory). inl n)
    (λ (e : f a (i, get_or xs i d) ≡ Err r). inr (numbered_fault f a xs i d total r lt e so_far))
    h

-- why reading stops, with the number of the file
pub file_stop : {Y : Type 0} (number : ℕ) (e : Stop) (said : Result Y Fault) → Fails e said → (stop_refusal number e ≡ NoMemory) ⊎ (in_file number said ≡ Err (stop_refusal number e))
file_stop number stops.Memory said h = inl refl
file_stop number (stops.Fault f) said h = inr (ap (in_file number) h)

-- Each step of the walk is a relocation of an input.
use Rattle.std.specs.List.{enumerate_from}
use Rattle.std.proofs.Common.{◌≡◌, ℕ, ◌+◌, ◌<◌, Bool, true, false, cond, List, [], ◌∷◌, ◌++◌, All, length, get_or, Result, Ok, Err, refl, sym, ap, ◌∙◌, subst, arith}
use Rattle.std.proofs.lemmas.List.{get_or_default}
use Rattle.std.proofs.lemmas.List.Elements.{All-head, All-tail, All-nil, All-push}
use Rattle.std.proofs.lemmas.List.FromFn.{length-enumerate_from, get_or-enumerate_from}
use Rattle.cap_base.specs.declared.refusal.Fault.{Fault}
use Rattle.cap_base.specs.Steps.{◌>>=◌, steps, in_file}
use Rattle.cap_elf.specs.declared.records.Reloc.{Reloc}
use Rattle.cap_elf.specs.RelObject.{RelObject, file_of, no_object}
use Rattle.cap_layout.specs.declared.piece.Piece.{Piece}
use Rattle.cap_table.specs.declared.target.Step.{Step}
use Rattle.cap_table.specs.Kinds.{is_passed_over}
use Rattle.cap_table.specs.Targets.{Named}
use Rattle.cap_table.specs.Checks.{no_reloc, checked_piece, record_step, file_steps, walk_of, IsStep}

bind_passed : {E A B : Type 0} (r : Result A E) (f : A → Result B E) (y : B) → (r >>= f) ≡ Ok y → (x : A) × (r ≡ Ok x) × (f x ≡ Ok y)
bind_passed (Ok x) f y h = (x, refl, h)
bind_passed (Err e) f y h = absurd (cc)

choice_passed : {R Goal : Type 0} (b : Bool) (x y z : R) → cond b x y ≡ z → (x ≡ z → Goal) → (y ≡ z → Goal) → Goal
choice_passed true x y z h on_true on_false = on_true h
choice_passed false x y z h on_true on_false = on_false h

file_passed : {Y : Type 0} (number : ℕ) (r : Result Y Fault) (y : Y) → in_file number r ≡ Ok y → r ≡ Ok y
file_passed number (Ok x) y h = let e : x ≡ y = cc in ap (λ (z : _). Ok z) e
file_passed number (Err f) y h = absurd (cc)

steps_keep : {E A X : Type 0} (f : A → X → Result A E) (P : A → Type 0) (Q : X → Type 0) → ((a : A) (x : X) (b : A) → P a → Q x → f a x ≡ Ok b → P b) → (a : A) (xs : List X) (b : A) → P a → All Q xs → steps f a xs ≡ Ok b → P b
steps_keep f P Q keep a [] b p all h = let e : a ≡ b = cc in subst P e p
steps_keep f P Q keep a (x ∷ xs) b p all h =
    let one = bind_passed (f a x) (λ c. steps f c xs) b h in
    steps_keep f P Q keep one.0 xs b (keep a x one.0 p (All-head Q x xs all) one.1) (All-tail Q x xs all) one.2

-- each item with its number
enumerated : {X : Type 0} (xs : List X) (d : X) → All (λ p. (p.0 < length xs) × (p.1 ≡ get_or xs p.0 d)) (enumerate_from 0 xs)
enumerated {X} xs d k e lt =
    let inside : k < length xs = omega (arith, lt, length-enumerate_from 0 xs) in
    let zero_more : 0 + k ≡ k = omega arith in
    let same : get_or (enumerate_from 0 xs) k e ≡ (k, get_or xs k d) =
    get_or-enumerate_from 0 xs k e inside ∙ ap (λ n. (n, get_or xs k e.1)) zero_more ∙ ap (λ (x : X). (k, x)) (get_or_default xs k e.1 d inside) in
    subst (λ (p : ℕ × X). (p.0 < length xs) × (p.1 ≡ get_or xs p.0 d)) (sym same) (inside, refl)

module _ (named : Named) (pieces : List Piece) where
  abbrev AreSteps : List Step → Type 0
  AreSteps steps = All (IsStep named) steps

  record_kept : (file : ℕ) → file < length named.rels → (so_far : List Step) (p : ℕ × Reloc) (new : List Step) → AreSteps so_far → p.0 < length (file_of named.rels file).relocs → record_step named pieces file so_far p ≡ Ok new → AreSteps new
  unfolding record_step
  record_kept file lt so_far p new are below h =
      choice_passed (is_passed_over p.1.kind) (Ok so_far) (checked_piece named pieces file p >>= λ piece. Ok (so_far ++ record { file = file; index = p.0; piece = piece } ∷ [])) (Ok new) h
      (λ same. let e : so_far ≡ new = cc in subst AreSteps e are)
      (λ made.
      let one = bind_passed (checked_piece named pieces file p) (λ piece. Ok (so_far ++ record { file = file; index = p.0; piece = piece } ∷ [])) new made in
      let e : so_far ++ record { file = file; index = p.0; piece = one.0 } ∷ [] ≡ new = let last = one.2 in cc in
      subst AreSteps e (All-push (IsStep named) so_far (record { file = file; index = p.0; piece = one.0 }) are (lt, below)))

  file_kept : (so_far : List Step) (f : ℕ × RelObject) (new : List Step) → AreSteps so_far → (f.0 < length named.rels) × (f.1 ≡ get_or named.rels f.0 no_object) → file_steps named pieces so_far f ≡ Ok new → AreSteps new
  unfolding file_steps
  file_kept so_far f new are at h =
      let relocs = f.1.relocs in
      let same : f.1 ≡ file_of named.rels f.0 = at.1 in
      let step : (a : List Step) (p : ℕ × Reloc) (b : List Step) → AreSteps a → (p.0 < length relocs) × (p.1 ≡ get_or relocs p.0 no_reloc) → record_step named pieces f.0 a p ≡ Ok b → AreSteps b =
      λ a p b all inside e. record_kept f.0 at.0 a p b all (subst (λ (o : RelObject). p.0 < length o.relocs) same inside.0) e in
      steps_keep (record_step named pieces f.0) AreSteps (λ p. (p.0 < length relocs) × (p.1 ≡ get_or relocs p.0 no_reloc)) step so_far (enumerate_from 0 relocs) new are (enumerated relocs no_reloc) (file_passed f.1.number (steps (record_step named pieces f.0) so_far (enumerate_from 0 relocs)) new h)

  pub steps_are : (steps : List Step) → walk_of named pieces ≡ Ok steps → All (IsStep named) steps
  unfolding walk_of
  steps_are all h =
      steps_keep (file_steps named pieces) AreSteps (λ f. (f.0 < length named.rels) × (f.1 ≡ get_or named.rels f.0 no_object)) file_kept [] (enumerate_from 0 named.rels) all (All-nil (IsStep named)) (enumerated named.rels no_object) h

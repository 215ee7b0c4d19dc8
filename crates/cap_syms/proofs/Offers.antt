-- The names that the shared inputs offer.
use Rattle.std.proofs.Common.{◌≡◌, ℕ, ◌+◌, ◌<◌, ◌≤◌, Bool, true, false, cond, ◌&&◌, ◌||◌, List, [], ◌∷◌, length, get_or, drop, inl, inr, refl, sym, ap, ◌∙◌, arith}
use Rattle.std.specs.Prelude.{fold, zip}
use Rattle.std.specs.List.{list_any}
use Rattle.std.specs.Str.{bytes_eq}
use Rattle.std.proofs.lemmas.Bool.{cases_Bool}
use Rattle.std.proofs.lemmas.Slice.Zip.{get_or-zip, length-zip}
use Rattle.std.proofs.Math.Bool.{or-false}
use Rattle.cap_elf.specs.declared.records.Symbol.{Symbol}
use Rattle.cap_elf.specs.Records.{null_symbol}
use Rattle.cap_elf.specs.DynView.{DynValue}
use Rattle.cap_syms.specs.Distinct.{with_new}
use Rattle.cap_syms.specs.Resolved.{can_be_chosen, offers, is_offered}
use Rattle.cap_syms.specs.Tally.{with_choosable, with_choosables}
use Rattle.cap_syms.proofs.Firsts.{any-with_new, bytes_swap}
use Rattle.cap_syms.proofs.Loops.{fold_more, fold_done}

abbrev pub Pair : Type 0
Pair = List ℕ × Symbol

-- one more symbol of an object
pub offer-more : (names : List (List ℕ)) (symbols : List Symbol) (so_far next total : List (List ℕ)) (i : ℕ) → length names ≡ length symbols → i < length symbols → next ≡ with_choosable so_far (get_or names i [], get_or symbols i (null_symbol 0)) → fold with_choosable so_far (drop i (zip names symbols)) ≡ total → fold with_choosable next (drop (i + 1) (zip names symbols)) ≡ total
offer-more names symbols so_far next total i same lt e before =
    let d : Pair = ([], null_symbol 0) in
    let inside : i < length (zip names symbols) = (let long = length-zip names symbols in omega (arith, long, same, lt)) in
    fold_more with_choosable so_far next total (zip names symbols) i d inside (e ∙ ap (with_choosable so_far) (sym (get_or-zip names symbols i d (omega (arith, same, lt)) lt))) before

pub offer-done : (names : List (List ℕ)) (symbols : List Symbol) (so_far total : List (List ℕ)) (i : ℕ) → length names ≡ length symbols → length symbols ≤ i → fold with_choosable so_far (drop i (zip names symbols)) ≡ total → so_far ≡ total
offer-done names symbols so_far total i same le before =
    fold_done with_choosable so_far total (zip names symbols) i (let long = length-zip names symbols in omega (arith, long, same, le)) before

or_assoc : (a b c : Bool) → ((a || b) || c) ≡ (a || (b || c))
or_assoc true b c = refl
or_assoc false b c = refl

any-choosable : (q : List ℕ) (names : List (List ℕ)) (p : Pair) → list_any (bytes_eq q) (with_choosable names p) ≡ (list_any (bytes_eq q) names || (bytes_eq p.0 q && can_be_chosen p.1))
any-choosable q names p = elim (cases_Bool (can_be_chosen p.1)) [
  | inl e ↦
      ap (λ b. list_any (bytes_eq q) (cond b (with_new bytes_eq names p.0) names)) e
      ∙ any-with_new q names p.0
      ∙ ap (λ b. list_any (bytes_eq q) names || b) (bytes_swap q p.0 ∙ sym (and_true (bytes_eq p.0 q)) ∙ ap (λ b. bytes_eq p.0 q && b) (sym e))
  | inr e ↦
      ap (λ b. list_any (bytes_eq q) (cond b (with_new bytes_eq names p.0) names)) e
      ∙ sym (or-false (list_any (bytes_eq q) names))
      ∙ ap (λ b. list_any (bytes_eq q) names || b) (sym (and_false (bytes_eq p.0 q)) ∙ ap (λ b. bytes_eq p.0 q && b) (sym e))
]
  where
    and_true : (b : Bool) → (b && true) ≡ b
    and_true true = refl
    and_true false = refl

    and_false : (b : Bool) → (b && false) ≡ false
    and_false true = refl
    and_false false = refl

any-choosables : (q : List ℕ) (names : List (List ℕ)) (ps : List Pair) → list_any (bytes_eq q) (fold with_choosable names ps) ≡ (list_any (bytes_eq q) names || list_any (λ p. bytes_eq p.0 q && can_be_chosen p.1) ps)
any-choosables q names [] = sym (or-false (list_any (bytes_eq q) names))
any-choosables q names (p ∷ ps) =
    any-choosables q (with_choosable names p) ps
    ∙ ap (λ b. b || list_any (λ p. bytes_eq p.0 q && can_be_chosen p.1) ps) (any-choosable q names p)
    ∙ or_assoc (list_any (bytes_eq q) names) (bytes_eq p.0 q && can_be_chosen p.1) (list_any (λ p. bytes_eq p.0 q && can_be_chosen p.1) ps)

any-object : (q : List ℕ) (names : List (List ℕ)) (d : DynValue) → list_any (bytes_eq q) (with_choosables names d) ≡ (list_any (bytes_eq q) names || offers d.records q)
unfolding with_choosables
any-object q names d = any-choosables q names (zip d.records.names d.records.symbols)

any-objects : (q : List ℕ) (names : List (List ℕ)) (ds : List DynValue) → list_any (bytes_eq q) (fold with_choosables names ds) ≡ (list_any (bytes_eq q) names || is_offered ds q)
any-objects q names [] = sym (or-false (list_any (bytes_eq q) names))
any-objects q names (d ∷ ds) =
    any-objects q (with_choosables names d) ds
    ∙ ap (λ b. b || is_offered ds q) (any-object q names d)
    ∙ or_assoc (list_any (bytes_eq q) names) (offers d.records q) (is_offered ds q)

-- a name is among them exactly where it is offered
pub any-offered : (q : List ℕ) (ds : List DynValue) → list_any (bytes_eq q) (fold with_choosables [] ds) ≡ is_offered ds q
any-offered q ds = any-objects q [] ds

-- The search for the first symbol of a name.
use Rattle.std.proofs.Common.{◌≡◌, ℕ, ◌+◌, ◌≤◌, ◌<◌, Bool, true, false, cond, not, List, length, get_or, drop, ap, ◌∙◌, arith}
use Rattle.std.proofs.lemmas.List.{drop_more, drop_all}
use Rattle.cap_demo.specs.declared.names.SymbolName.{SymbolName}
use Rattle.cap_demo.specs.declared.symbols.Symbol.{Symbol}
use Rattle.cap_demo.specs.Names.{same_name}
use Rattle.cap_demo.specs.Symbols.{place_of}

module _ (symbols : List Symbol) (name : SymbolName) (i total : ℕ) where
  -- by whether the next symbol has the name
  next_place : (d : Symbol) (b : Bool) → i < length symbols → same_name (get_or symbols i d).name name ≡ b → place_of (drop i symbols) name ≡ cond (not b) (1 + place_of (drop (i + 1) symbols) name) 0
  unfolding place_of
  next_place d b lt e =
      ap (λ ss. place_of ss name) (drop_more symbols i d lt)
      ∙ ap (λ c. cond (not c) (1 + place_of (drop (i + 1) symbols) name) 0) e

  pub place_skip : (d : Symbol) → i < length symbols → same_name (get_or symbols i d).name name ≡ false → i + place_of (drop i symbols) name ≡ total → i + 1 + place_of (drop (i + 1) symbols) name ≡ total
  place_skip d lt e so_far = omega (arith, next_place d false lt e, so_far)

  pub place_hit : (d : Symbol) → i < length symbols → same_name (get_or symbols i d).name name ≡ true → i + place_of (drop i symbols) name ≡ total → i ≡ total
  place_hit d lt e so_far = omega (arith, next_place d true lt e, so_far)

  pub place_none : length symbols ≤ i → i ≤ length symbols → i + place_of (drop i symbols) name ≡ total → length symbols ≡ total
  unfolding place_of
  place_none le ge so_far =
      let none : place_of (drop i symbols) name ≡ 0 = ap (λ ss. place_of ss name) (drop_all i symbols le) in
      omega (arith, none, so_far, le, ge)

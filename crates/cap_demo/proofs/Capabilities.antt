-- The relocations of a table, one for each target.
use Rattle.std.proofs.Common.{◌≡◌, ℕ, ◌+◌, ◌*◌, ◌≤◌, ◌<◌, List, ◌++◌, length, get_or, drop, sym, ap, ◌∙◌, arith, append_assoc, append-nil}
use Rattle.std.proofs.lemmas.List.{drop_more, drop_all}
use Rattle.cap_demo.specs.declared.names.SymbolName.{SymbolName}
use Rattle.cap_demo.specs.declared.symbols.Symbol.{Symbol}
use Rattle.cap_demo.specs.Records.{capability_bytes}
use Rattle.cap_demo.specs.Sections.{capabilities_from}
use Rattle.cap_demo.specs.Symbols.{place_of}

module _ (symbols : List Symbol) (targets : List SymbolName) (i : ℕ) (relas total : List ℕ) where
  -- one more target
  pub capabilities_more : (at symbol : ℕ) (more : List ℕ) (d : SymbolName) → i < length targets → at ≡ 16 * i → symbol ≡ 1 + place_of symbols (get_or targets i d) → more ≡ relas ++ capability_bytes at symbol → relas ++ capabilities_from (16 * i) symbols (drop i targets) ≡ total → more ++ capabilities_from (16 * (i + 1)) symbols (drop (i + 1) targets) ≡ total
  unfolding capabilities_from
  capabilities_more at symbol more d lt ea es em so_far =
      let one = capability_bytes (16 * i) (1 + place_of symbols (get_or targets i d)) in
      let left = drop (i + 1) targets in
      let behind : 16 * (i + 1) ≡ 16 * i + 16 = omega arith in
      ap (λ n. more ++ capabilities_from n symbols left) behind
      ∙ ap (λ bs. bs ++ capabilities_from (16 * i + 16) symbols left) em
      ∙ ap (λ n. relas ++ capability_bytes n symbol ++ capabilities_from (16 * i + 16) symbols left) ea
      ∙ ap (λ n. relas ++ capability_bytes (16 * i) n ++ capabilities_from (16 * i + 16) symbols left) es
      ∙ append_assoc relas one (capabilities_from (16 * i + 16) symbols left)
      ∙ sym (ap (λ ts. relas ++ capabilities_from (16 * i) symbols ts) (drop_more targets i d lt))
      ∙ so_far

  -- no target is left
  pub capabilities_done : length targets ≤ i → relas ++ capabilities_from (16 * i) symbols (drop i targets) ≡ total → relas ≡ total
  unfolding capabilities_from
  capabilities_done le so_far =
      sym (append-nil relas) ∙ sym (ap (λ ts. relas ++ capabilities_from (16 * i) symbols ts) (drop_all i targets le)) ∙ so_far

-- Where the names of an object are looked up.
use Rattle.std.specs.Prelude.{ℕ, Bool, true, false, ◌&&◌, List, [], ◌∷◌, ◌++◌, filter, flat_map, if◌then◌else◌}
use Rattle.cap_base.specs.Lists.{numbers_between}
use Rattle.cap_chain.specs.Adopted.{has}
use Rattle.cap_session.specs.declared.refusal.Mode.{Mode}
use Rattle.cap_session.specs.declared.refusal.Mode.TheVariants.{Local, Global}

-- a library that was opened: whom it reaches, and its tree
pub record Opening : Type 0 where
  pub mode : Mode
  pub tree : List ℕ

abbrev pub is_global_opening : Opening → Bool
is_global_opening o = elim o.mode [ Local ↦ false | Global ↦ true ]

abbrev pub is_local_opening : Opening → Bool
is_local_opening o = elim o.mode [ Local ↦ true | Global ↦ false ]

-- a local opening whose tree has the object
abbrev pub reaches : ℕ → Opening → Bool
reaches i o = is_local_opening o && has i o.tree

-- the object itself where it is symbolic; the objects of the start; the trees of the global openings; the trees of the
-- local openings that contain the object
abbrev pub scope_of : Bool → ℕ → List Opening → ℕ → List ℕ
scope_of is_symbolic start_count openings i =
    (if is_symbolic then i ∷ [] else [])
    ++ numbers_between 0 start_count
    ++ flat_map (λ o. o.tree) (filter is_global_opening openings)
    ++ flat_map (λ o. o.tree) (filter (reaches i) openings)

-- The names of the string table, and where they begin.
use Rattle.std.proofs.Common.{◌≡◌, ℕ, ◌+◌, List, [], ◌∷◌, ◌++◌, length, map, Option, Some, None, refl, sym, ap, ◌∙◌, arith}
use Rattle.std.specs.Prelude.{option_to_list}
use Rattle.cap_table.specs.Planned.{terminated as table_terminated}
use Rattle.cap_table.specs.Lists.{DynSymbolValue, name_offsets}
use Rattle.cap_readback.specs.Content.{Name, Planned, names_from, terminated}
use Rattle.cap_readback.specs.View.{own_name}
use Rattle.cap_readback.specs.File.{AreNamed}
use Rattle.cap_link.specs.Linked.{Linked}
use Rattle.cap_link.specs.Content.{planned_from, names_end, own_from, names_of_symbols, named_symbols, own_at, needed_at, content_of}

names-behind : (at : ℕ) (xs ys : List (List ℕ)) → names_from at (xs ++ ys) ≡ names_from at xs ++ names_from (names_end at xs) ys
names-behind at [] ys = refl
names-behind at (x ∷ xs) ys = ap (λ (r : List Name). (at, x) ∷ r) (names-behind (at + length x + 1) xs ys)

planned-names : (at : ℕ) (ss : List DynSymbolValue) → map (λ p. p.name) (planned_from at ss) ≡ names_from at (names_of_symbols ss)
planned-names at [] = refl
planned-names at (s ∷ ss) = ap (λ (r : List Name). (at, s.name) ∷ r) (planned-names (at + length s.name + 1) ss)

own-names : (at : ℕ) (own : Option (List ℕ)) → option_to_list (own_from at own) ≡ names_from at (option_to_list own)
own-names at None = refl
own-names at (Some name) = refl

-- the names of the plan are those of the string table, in order
pub named-is : (l : Linked) → AreNamed (content_of l)
unfolding content_of
named-is l =
    let names = names_of_symbols (named_symbols l) in
    let own = option_to_list l.lists.plan.soname in
    let needed = l.lists.plan.needed in
    let a : map (λ (p : Planned). p.name) (planned_from 1 (named_symbols l)) ≡ names_from 1 names = planned-names 1 (named_symbols l) in
    let b : option_to_list (own_from (own_at l) l.lists.plan.soname) ≡ names_from (own_at l) own = own-names (own_at l) l.lists.plan.soname in
    let whole : names_from 1 (names ++ (own ++ needed)) ≡ names_from 1 names ++ (names_from (own_at l) own ++ names_from (needed_at l) needed) =
    names-behind 1 names (own ++ needed) ∙ ap (λ (r : List Name). names_from 1 names ++ r) (names-behind (own_at l) own needed) in
    ap (λ (r : List Name). r ++ (option_to_list (own_from (own_at l) l.lists.plan.soname) ++ names_from (needed_at l) needed)) a
    ∙ ap (λ (r : List Name). names_from 1 names ++ (r ++ names_from (needed_at l) needed)) b
    ∙ sym whole

-- the names alone
pub planned-texts : (at : ℕ) (ss : List DynSymbolValue) → map (λ p. p.name.1) (planned_from at ss) ≡ names_of_symbols ss
planned-texts at [] = refl
planned-texts at (s ∷ ss) = ap (λ (r : List (List ℕ)). s.name ∷ r) (planned-texts (at + length s.name + 1) ss)

pub needed-texts : (at : ℕ) (names : List (List ℕ)) → map (λ n. n.1) (names_from at names) ≡ names
needed-texts at [] = refl
needed-texts at (name ∷ names) = ap (λ (r : List (List ℕ)). name ∷ r) (needed-texts (at + length name + 1) names)

pub own-text : (at : ℕ) (own : Option (List ℕ)) → own_name (own_from at own) ≡ own
own-text at None = refl
own-text at (Some name) = refl

pub planned-length : (at : ℕ) (ss : List DynSymbolValue) → length (planned_from at ss) ≡ length ss
planned-length at [] = refl
planned-length at (s ∷ ss) = let rest = planned-length (at + length s.name + 1) ss in omega (arith, rest)

-- the places alone
pub offsets-of-names : (at : ℕ) (names : List (List ℕ)) → map (λ n. n.0) (names_from at names) ≡ name_offsets at names
offsets-of-names at [] = refl
offsets-of-names at (name ∷ names) = ap (λ (r : List ℕ). at ∷ r) (offsets-of-names (at + length name + 1) names)

pub offsets-behind : (at : ℕ) (xs ys : List (List ℕ)) → name_offsets at (xs ++ ys) ≡ name_offsets at xs ++ name_offsets (names_end at xs) ys
offsets-behind at [] ys = refl
offsets-behind at (x ∷ xs) ys = ap (λ (r : List ℕ). at ∷ r) (offsets-behind (at + length x + 1) xs ys)

pub offsets-length : (at : ℕ) (names : List (List ℕ)) → length (name_offsets at names) ≡ length names
offsets-length at [] = refl
offsets-length at (name ∷ names) = let rest = offsets-length (at + length name + 1) names in omega (arith, rest)

pub terminated-is : (names : List (List ℕ)) → table_terminated names ≡ terminated names
terminated-is [] = refl
terminated-is (name ∷ names) = ap (λ (r : List ℕ). (name ++ 0 ∷ []) ++ r) (terminated-is names)

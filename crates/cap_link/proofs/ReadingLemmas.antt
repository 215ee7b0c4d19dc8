-- A name among others.
use Rattle.std.specs.List.{list_any}
use Rattle.std.specs.Str.{bytes_eq}
use Rattle.std.proofs.Common.{◌≡◌, ℕ, ◌+◌, ◌<◌, ◌≤◌, ◌||◌, Bool, true, false, List, [], ◌∷◌, map, length, get_or, drop, sym, ap, ◌∙◌}
use Rattle.std.specs.Prelude.{◌++◌, All, Result, Ok, Err}
use Rattle.std.proofs.Common.{◌⊎◌, inl, inr}
use Rattle.std.specs.List.{enumerate_from}
use Rattle.cap_base.specs.Steps.{◌>>=◌, steps, in_file}
use Rattle.cap_base.specs.declared.refusal.Refusal.{Refusal}
use Rattle.cap_base.specs.declared.refusal.Refusal.TheVariants.{NoMemory}
use Rattle.cap_link.specs.Inputs.{Input, FilesRead, read_input, read_step}
use Rattle.std.proofs.Common.{arith, length-append}
use Rattle.std.proofs.Common.{subst}
use Rattle.std.proofs.lemmas.List.{drop_more, drop_all, length-map, get_or-map}
use Rattle.std.proofs.lemmas.List.Elements.{All-tail}
use Rattle.cap_elf.specs.RelObject.{RelObject}
use Rattle.cap_elf.specs.DynView.{DynValue}
use Rattle.cap_link.specs.Counts.{AreRead, IsShortName}

-- the name is among those from a place on
abbrev pub is_among_from : List ℕ → List (List ℕ × Bool) → ℕ → Bool
is_among_from name names i = list_any (bytes_eq name) (map (λ (n : List ℕ × Bool). n.0) (drop i names))

one_more : (name : List ℕ) (names : List (List ℕ × Bool)) (i : ℕ) (d : List ℕ × Bool) → i < length names → is_among_from name names i ≡ (bytes_eq name (get_or names i d).0 || is_among_from name names (i + 1))
one_more name names i d lt = ap (λ (ns : List (List ℕ × Bool)). list_any (bytes_eq name) (map (λ (n : List ℕ × Bool). n.0) ns)) (drop_more names i d lt)

pub among_skip : (name : List ℕ) (names : List (List ℕ × Bool)) (i : ℕ) (d : List ℕ × Bool) (all : Bool) → i < length names → bytes_eq name (get_or names i d).0 ≡ false → is_among_from name names i ≡ all → is_among_from name names (i + 1) ≡ all
among_skip name names i d all lt e so_far = sym (one_more name names i d lt ∙ ap (λ b. b || is_among_from name names (i + 1)) e) ∙ so_far

pub among_hit : (name : List ℕ) (names : List (List ℕ × Bool)) (i : ℕ) (d : List ℕ × Bool) (all : Bool) → i < length names → bytes_eq name (get_or names i d).0 ≡ true → is_among_from name names i ≡ all → all ≡ true
among_hit name names i d all lt e so_far = sym so_far ∙ one_more name names i d lt ∙ ap (λ b. b || is_among_from name names (i + 1)) e

pub among_none : (name : List ℕ) (names : List (List ℕ × Bool)) (i : ℕ) (all : Bool) → length names ≤ i → is_among_from name names i ≡ all → all ≡ false
among_none name names i all le so_far = sym so_far ∙ ap (λ (ns : List (List ℕ × Bool)). list_any (bytes_eq name) (map (λ (n : List ℕ × Bool). n.0) ns)) (drop_all i names le)

-- one more shared object is read
pub count-shared : (n : ℕ) (rels : List RelObject) (dyns after : List DynValue) (needed needed_after : List (List ℕ)) (object : DynValue)
    → after ≡ dyns ++ object ∷ []
    → AreRead n (record { rels = rels; dyns = dyns; needed = needed })
    → length needed_after ≤ length needed + 1
    → All IsShortName needed_after
    → AreRead (n + 1) (record { rels = rels; dyns = after; needed = needed_after })
count-shared n rels dyns after needed needed_after object e h few short =
    let grown : length after ≡ length dyns + 1 = ap length e ∙ length-append dyns (object ∷ []) in
    record { files_few = omega (arith, h.files_few, grown); names_few = omega (arith, h.names_few, few); names_short = short }

-- an input that is read, and those that are left
pub read_more : {X : Type 0} (view : X → Input) (files next : FilesRead) (total : Result FilesRead Refusal) (number : ℕ) (x : X) (rest items : List X)
    → items ≡ x ∷ rest
    → in_file number (read_input files number (view x)) ≡ Ok next
    → steps read_step files (enumerate_from number (map view items)) ≡ total
    → steps read_step next (enumerate_from (number + 1) (map view rest)) ≡ total
unfolding read_step
read_more view files next total number x rest items is e so_far =
    let one : steps read_step files (enumerate_from number (map view items)) ≡ steps read_step next (enumerate_from (number + 1) (map view rest)) =
    ap (λ xs. steps read_step files (enumerate_from number (map view xs))) is ∙ ap (λ r. r >>= λ f. steps read_step f (enumerate_from (number + 1) (map view rest))) e in
    sym one ∙ so_far

-- an input that is refused
pub read_stop : {X : Type 0} (view : X → Input) (files : FilesRead) (total : Result FilesRead Refusal) (number : ℕ) (x : X) (rest items : List X) (r : Refusal)
    → items ≡ x ∷ rest
    → (r ≡ NoMemory) ⊎ (in_file number (read_input files number (view x)) ≡ Err r)
    → steps read_step files (enumerate_from number (map view items)) ≡ total
    → (r ≡ NoMemory) ⊎ (total ≡ Err r)
unfolding read_step
read_stop view files total number x rest items r is (inl e) so_far = inl e
read_stop view files total number x rest items r is (inr e) so_far =
    let one : steps read_step files (enumerate_from number (map view items)) ≡ Err r =
    ap (λ xs. steps read_step files (enumerate_from number (map view xs))) is ∙ ap (λ s. s >>= λ f. steps read_step f (enumerate_from (number + 1) (map view rest))) e in
    inr (sym so_far ∙ one)

pub rest_all : {X : Type 0} (P : X → Type 0) (x : X) (rest items : List X) → items ≡ x ∷ rest → All P items → All P rest
rest_all P x rest items is all = All-tail P x rest (subst (All P) is all)

pub rest_length : {X : Type 0} (x : X) (rest items : List X) (number most : ℕ) → items ≡ x ∷ rest → number + length items ≤ most → number + 1 + length rest ≤ most
rest_length x rest items number most is le = omega (arith, ap length is, le)

-- names that are short, as pairs
pub short_pairs : (names : List (List ℕ × Bool)) → All IsShortName (map (λ (n : List ℕ × Bool). n.0) names) → All (λ (n : List ℕ × Bool). length n.0 ≤ 255) names
short_pairs names short k d lt =
    let many : length (map (λ (n : List ℕ × Bool). n.0) names) ≡ length names = length-map names (λ (n : List ℕ × Bool). n.0) in
    subst (λ (name : List ℕ). length name ≤ 255) (get_or-map (λ (n : List ℕ × Bool). n.0) names k d d.0 lt) (short k d.0 (omega (arith, many, lt)))

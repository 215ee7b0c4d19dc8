-- The groups between starts.
use Rattle.std.proofs.Common.{◌≡◌, ℕ, zero, suc, ◌+◌, ◌<◌, ◌≤◌, List, [], ◌∷◌, ◌++◌, length, get_or, drop, refl, sym, ap, ◌∙◌, arith, append_assoc, subst}
use Rattle.std.specs.Prelude.{flat_map}
use Rattle.std.proofs.lemmas.List.{append-nil, drop_all, drop_more, get_or-drop}
use Rattle.cap_init.specs.Post.{AscendFrom, AreStarts, groups_of, init_order, post_of}

ascend-limit : (a : ℕ) (ns : List ℕ) (limit : ℕ) → AscendFrom a ns limit → a ≤ limit
ascend-limit a [] limit h = h
ascend-limit a (n ∷ ns) limit h = omega (arith, h.0, ascend-limit (n + 1) ns limit h.1)

-- each number is below the next one or the limit, and both are at the limit at most
ascend-next : (a : ℕ) (ns : List ℕ) (limit k : ℕ) → AscendFrom a ns limit → k < length ns → (get_or ns k 0 < get_or ns (k + 1) limit) × (get_or ns (k + 1) limit ≤ limit)
ascend-next a [] limit k h lt = absurd (omega arith)
ascend-next a (n ∷ []) limit zero h lt = (omega (arith, h.1), omega arith)
ascend-next a (n ∷ m ∷ ns) limit zero h lt = (omega (arith, h.1.0), omega (arith, ascend-limit (m + 1) ns limit h.1.1))
ascend-next a (n ∷ ns) limit (suc k) h lt =
    let place : suc k + 1 ≡ suc (k + 1) = omega arith in
    rw place (ascend-next (n + 1) ns limit k h.1 (omega arith))

pub starts_ascend : (starts : List ℕ) (count k : ℕ) → AreStarts starts count → k < length starts → (get_or starts k 0 < get_or starts (k + 1) count) × (get_or starts (k + 1) count ≤ count)
starts_ascend starts count k h lt = ascend-next 0 starts count k (subst (λ (s : List ℕ). AscendFrom 0 s count) (sym h.1) (omega arith, h.2)) lt

groups-first : (from : ℕ) (starts : List ℕ) (count : ℕ) → groups_of (from ∷ starts) count ≡ (from, get_or starts 0 count) ∷ groups_of starts count
groups-first from [] count = refl
groups-first from (to ∷ starts) count = refl

-- one group more
pub groups_more : (deps : List (List ℕ)) (starts : List ℕ) (count k from to : ℕ) (all group more : List ℕ) (total : List ℕ)
    → k < length starts → from ≡ get_or starts k 0 → to ≡ get_or starts (k + 1) count → group ≡ post_of deps from to → more ≡ all ++ group
    → all ++ init_order deps (drop k starts) count ≡ total → more ++ init_order deps (drop (k + 1) starts) count ≡ total
groups_more deps starts count k from to all group more total lt from_is to_is group_is more_is so_far =
    let rest : List ℕ = init_order deps (drop (k + 1) starts) count in
    let front : drop k starts ≡ get_or starts k 0 ∷ drop (k + 1) starts = drop_more starts k 0 lt in
    let next : get_or (drop (k + 1) starts) 0 count ≡ get_or starts (k + 1) count = (let place : k + 1 + 0 ≡ k + 1 = omega arith in get_or-drop (k + 1) starts 0 count ∙ ap (λ i. get_or starts i count) place) in
    let groups : init_order deps (drop k starts) count ≡ post_of deps from to ++ rest =
    ap (λ s. init_order deps s count) front
    ∙ ap (flat_map (λ g. post_of deps g.0 g.1)) (groups-first (get_or starts k 0) (drop (k + 1) starts) count)
    ∙ ap (λ n. post_of deps (get_or starts k 0) n ++ rest) (next ∙ sym to_is)
    ∙ ap (λ n. post_of deps n to ++ rest) (sym from_is) in
    ap (λ m. m ++ rest) (more_is ∙ ap (λ g. all ++ g) group_is) ∙ append_assoc all (post_of deps from to) rest ∙ ap (λ r. all ++ r) (sym groups) ∙ so_far

pub groups_done : (deps : List (List ℕ)) (starts : List ℕ) (count k : ℕ) (all total : List ℕ) → length starts ≤ k → all ++ init_order deps (drop k starts) count ≡ total → all ≡ total
groups_done deps starts count k all total past so_far = sym (append-nil all) ∙ sym (ap (λ s. all ++ init_order deps s count) (drop_all k starts past)) ∙ so_far

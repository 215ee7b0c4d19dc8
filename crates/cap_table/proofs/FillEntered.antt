-- Entering fields one after the other.
use Rattle.std.proofs.Common.{◌≡◌, ℕ, ◌+◌, ◌<◌, ◌≤◌, Bool, List, [], ◌∷◌, ◌++◌, length, get_or, drop, map, filter, sym, ap, ◌∙◌}
use Rattle.std.specs.List.{enumerate_from}
use Rattle.std.proofs.lemmas.List.{append_assoc, append-nil, map-append, drop_more, drop_all}
use Rattle.std.proofs.lemmas.List.Elements.{filter-append}
use Rattle.cap_layout.specs.Points.{Laid}
use Rattle.cap_table.specs.Planned.{is_described, is_relocated, is_field}
use Rattle.cap_table.specs.declared.target.Step.{Step}
use Rattle.cap_table.specs.declared.target.Target.{Target}
use Rattle.cap_table.specs.Targets.{Named}
use Rattle.cap_table.specs.Lists.{Want, slot_want, field_want, cap_reloc_of, cap_relocs_of, dyn_reloc_of, relas_of}
use Rattle.cap_table.specs.Entered.{EnteredValue, entered}

cap_relocs_append : (laid : Laid) (ones others : List Want) → cap_relocs_of laid (ones ++ others) ≡ cap_relocs_of laid ones ++ cap_relocs_of laid others
cap_relocs_append laid ones others =
    let test : Want → Bool = λ w. is_described w.kind w.target in
    ap (map (cap_reloc_of laid)) (filter-append test ones others) ∙ map-append (cap_reloc_of laid) (filter test ones) (filter test others)

relas_append : (rows : List ℕ) (laid : Laid) (ones others : List Want) → relas_of rows laid (ones ++ others) ≡ relas_of rows laid ones ++ relas_of rows laid others
relas_append rows laid ones others =
    let test : Want → Bool = λ w. is_relocated w.kind w.target in
    ap (map (dyn_reloc_of rows laid)) (filter-append test ones others) ∙ map-append (dyn_reloc_of rows laid) (filter test ones) (filter test others)

-- none
pub entered_none : (rows : List ℕ) (laid : Laid) (e : EnteredValue) → e ≡ entered rows laid e []
unfolding entered
entered_none rows laid e =
    ap (λ xs. record { cap_relocs = xs; relas = e.relas }) (sym (append-nil e.cap_relocs)) ∙ ap (λ ys. record { cap_relocs = e.cap_relocs ++ []; relas = ys }) (sym (append-nil e.relas))

-- some, and then more
pub entered_more : (rows : List ℕ) (laid : Laid) (e : EnteredValue) (ones others : List Want) → entered rows laid (entered rows laid e ones) others ≡ entered rows laid e (ones ++ others)
unfolding entered
entered_more rows laid e ones others =
    let caps : (e.cap_relocs ++ cap_relocs_of laid ones) ++ cap_relocs_of laid others ≡ e.cap_relocs ++ cap_relocs_of laid (ones ++ others) =
    append_assoc e.cap_relocs (cap_relocs_of laid ones) (cap_relocs_of laid others) ∙ ap (λ xs. e.cap_relocs ++ xs) (sym (cap_relocs_append laid ones others)) in
    let relas : (e.relas ++ relas_of rows laid ones) ++ relas_of rows laid others ≡ e.relas ++ relas_of rows laid (ones ++ others) =
    append_assoc e.relas (relas_of rows laid ones) (relas_of rows laid others) ∙ ap (λ xs. e.relas ++ xs) (sym (relas_append rows laid ones others)) in
    ap (λ xs. record { cap_relocs = xs; relas = (e.relas ++ relas_of rows laid ones) ++ relas_of rows laid others }) caps ∙ ap (λ ys. record { cap_relocs = e.cap_relocs ++ cap_relocs_of laid (ones ++ others); relas = ys }) relas

-- one slot more
pub slots_more : (rows : List ℕ) (laid : Laid) (e next : EnteredValue) (w : Want) (xs : List Target) (k : ℕ) (d : Target) (total : EnteredValue) → k < length xs → w ≡ slot_want laid (k, get_or xs k d) → next ≡ entered rows laid e (w ∷ [])
    → entered rows laid e (map (slot_want laid) (enumerate_from k (drop k xs))) ≡ total → entered rows laid next (map (slot_want laid) (enumerate_from (k + 1) (drop (k + 1) xs))) ≡ total
slots_more rows laid e next w xs k d total lt is one so_far =
    let rest : List Want = map (slot_want laid) (enumerate_from (k + 1) (drop (k + 1) xs)) in
    ap (λ (n : EnteredValue). entered rows laid n rest) (one ∙ ap (λ (v : Want). entered rows laid e (v ∷ [])) is)
    ∙ entered_more rows laid e (slot_want laid (k, get_or xs k d) ∷ []) rest
    ∙ sym (ap (λ ys. entered rows laid e (map (slot_want laid) (enumerate_from k ys))) (drop_more xs k d lt))
    ∙ so_far

-- no slot is left
pub slots_done : (rows : List ℕ) (laid : Laid) (e : EnteredValue) (xs : List Target) (k : ℕ) (total : EnteredValue) → length xs ≤ k → entered rows laid e (map (slot_want laid) (enumerate_from k (drop k xs))) ≡ total → e ≡ total
slots_done rows laid e xs k total le so_far =
    entered_none rows laid e ∙ sym (ap (λ ys. entered rows laid e (map (slot_want laid) (enumerate_from k ys))) (drop_all k xs le)) ∙ so_far

-- the wants of the fields of steps
abbrev pub wants_of : Named → Laid → List Step → List Want
wants_of named laid steps = map (field_want named laid) (filter (is_field named) steps)

-- one step more
pub fields_more : (rows : List ℕ) (named : Named) (laid : Laid) (e next : EnteredValue) (xs : List Step) (i : ℕ) (d : Step) (total : EnteredValue) → i < length xs → next ≡ entered rows laid e (wants_of named laid (get_or xs i d ∷ []))
    → entered rows laid e (wants_of named laid (drop i xs)) ≡ total → entered rows laid next (wants_of named laid (drop (i + 1) xs)) ≡ total
fields_more rows named laid e next xs i d total lt one so_far =
    let rest : List Step = drop (i + 1) xs in
    let both : wants_of named laid (drop i xs) ≡ wants_of named laid (get_or xs i d ∷ []) ++ wants_of named laid rest =
    ap (wants_of named laid) (drop_more xs i d lt)
    ∙ ap (map (field_want named laid)) (filter-append (is_field named) (get_or xs i d ∷ []) rest)
    ∙ map-append (field_want named laid) (filter (is_field named) (get_or xs i d ∷ [])) (filter (is_field named) rest) in
    ap (λ (n : EnteredValue). entered rows laid n (wants_of named laid rest)) one
    ∙ entered_more rows laid e (wants_of named laid (get_or xs i d ∷ [])) (wants_of named laid rest)
    ∙ sym (ap (entered rows laid e) both)
    ∙ so_far

-- no step is left
pub fields_done : (rows : List ℕ) (named : Named) (laid : Laid) (e : EnteredValue) (xs : List Step) (i : ℕ) (total : EnteredValue) → length xs ≤ i → entered rows laid e (wants_of named laid (drop i xs)) ≡ total → e ≡ total
fields_done rows named laid e xs i total le so_far =
    entered_none rows laid e ∙ sym (ap (λ ys. entered rows laid e (wants_of named laid ys)) (drop_all i xs le)) ∙ so_far

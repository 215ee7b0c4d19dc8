-- The lists of ends that the symbols fill, one a section.
use Rattle.std.proofs.Common.{◌≡◌, ℕ, ◌+◌, ◌<◌, ◌||◌, Bool, true, false, cond, ⊎_elim, List, [], ◌∷◌, ◌++◌, length, get_or, take, map, Option, Some, None, refl, sym, ap, ◌∙◌, arith}
use Rattle.std.specs.Prelude.{fold, filter}
use Rattle.std.specs.List.{flat_map, list_any, range_with_len}
use Rattle.std.proofs.lemmas.List.{append_assoc, append-nil, get_or-set_same, get_or-set_other, length-set, length-map, get_or-map, get_or_default, map-append, take_more}
use Rattle.std.proofs.lemmas.List.FromFn.{fill_by_all, map-range_with_len_more, length-map-range_with_len, get_or-map-range_with_len}
use Rattle.std.proofs.lemmas.List.Folds.{list_any-append}
use Rattle.std.proofs.lemmas.Bool.{cases_eq, eq-eqb, ne_eqb}
use Rattle.cap_elf.specs.declared.records.Section.{Section}
use Rattle.cap_elf.specs.declared.records.Symbol.{Symbol}
use Rattle.cap_elf.specs.RelObject.{RelObject, no_section}
use Rattle.cap_layout.specs.Cuts.{ascending, cut_section, cuts_section, is_one_section, marks}
use Rattle.cap_layout.specs.Marked.{start_of, closed, mark_lists, with_cut, with_cut_at}
use Rattle.cap_layout.proofs.MarkSets.{same_marks, Ascends-fold, list_any-ascending}

-- the two ends of a cut
abbrev pub two : Symbol → List ℕ
two s = s.value ∷ (s.value + s.size) ∷ []

at_step : (lists : List (List ℕ)) (s : Symbol) (o : Option ℕ) (n : ℕ) → n < length lists → get_or (with_cut_at lists s o) n [] ≡ get_or lists n [] ++ cond (is_one_section (Some n) o) (two s) []
at_step lists s None n lt = sym (append-nil (get_or lists n []))
at_step lists s (Some m) n lt =
    ⊎_elim
    (λ (same : n ≡ m). rw (eq-eqb n m same, same) (get_or-set_same lists m (get_or lists m [] ++ two s) [] (omega arith)))
    (λ (other : n ≡ m → ⊥). rw (ne_eqb n m other) (get_or-set_other lists m n (get_or lists m [] ++ two s) [] other ∙ sym (append-nil (get_or lists n []))))
    (cases_eq n m)

length_step : (lists : List (List ℕ)) (s : Symbol) (o : Option ℕ) → length (with_cut_at lists s o) ≡ length lists
length_step lists s None = refl
length_step lists s (Some m) = length-set lists m (get_or lists m [] ++ two s)

kept : (b : Bool) (s : Symbol) (ss : List Symbol) → cond b (two s) [] ++ flat_map two ss ≡ flat_map two (cond b (s ∷ ss) ss)
kept true s ss = refl
kept false s ss = refl

length_fold : (secs : List Section) (ss : List Symbol) (lists : List (List ℕ)) → length (fold (with_cut secs) lists ss) ≡ length lists
length_fold secs [] lists = refl
length_fold secs (s ∷ ss) lists = length_fold secs ss (with_cut secs lists s) ∙ length_step lists s (cut_section secs s)

at_fold : (secs : List Section) (ss : List Symbol) (lists : List (List ℕ)) (n : ℕ) → n < length lists → get_or (fold (with_cut secs) lists ss) n [] ≡ get_or lists n [] ++ flat_map two (filter (λ s. is_one_section (Some n) (cut_section secs s)) ss)
at_fold secs [] lists n lt = sym (append-nil (get_or lists n []))
at_fold secs (s ∷ ss) lists n lt =
    let test : Symbol → Bool = λ t. is_one_section (Some n) (cut_section secs t) in
    at_fold secs ss (with_cut secs lists s) n (omega (arith, length_step lists s (cut_section secs s)))
    ∙ ap (λ xs. xs ++ flat_map two (filter test ss)) (at_step lists s (cut_section secs s) n lt)
    ∙ append_assoc (get_or lists n []) (cond (test s) (two s) []) (flat_map two (filter test ss))
    ∙ ap (λ xs. get_or lists n [] ++ xs) (kept (test s) s (filter test ss))

-- the start of one section more
pub starts_more : (sections : List Section) (i : ℕ) (lists : List (List ℕ)) (one : List ℕ) → i < length sections → lists ≡ map start_of (take i sections) → one ≡ 0 ∷ [] → lists ++ one ∷ [] ≡ map start_of (take (i + 1) sections)
starts_more sections i lists one lt so_far is =
    ap (λ l. l ++ one ∷ []) so_far
    ∙ ap (λ m. map start_of (take i sections) ++ m ∷ []) is
    ∙ sym (ap (map start_of) (take_more sections i no_section lt) ∙ map-append start_of (take i sections) (get_or sections i no_section ∷ []))

-- one list more is closed
pub closed_more : (sections : List Section) (lists : List (List ℕ)) (i : ℕ) (marks : List (List ℕ)) (list one : List ℕ) (d : Section) → i < length sections → length lists ≡ length sections → list ≡ get_or lists i list → one ≡ ascending (list ++ (get_or sections i d).size ∷ []) → marks ≡ map (closed sections lists) (range_with_len 0 i) → marks ++ one ∷ [] ≡ map (closed sections lists) (range_with_len 0 (i + 1))
closed_more sections lists i marks list one d lt same at is so_far =
    let here : list ≡ get_or lists i [] = at ∙ get_or_default lists i list [] (omega (arith, lt, same)) in
    let all : one ≡ closed sections lists i =
    is ∙ ap (λ l. ascending (l ++ (get_or sections i d).size ∷ [])) here ∙ ap (λ (s : Section). ascending (get_or lists i [] ++ s.size ∷ [])) (get_or_default sections i d no_section lt) in
    ap (λ l. l ++ one ∷ []) so_far
    ∙ ap (λ m. map (closed sections lists) (range_with_len 0 i) ++ m ∷ []) all
    ∙ sym (map-range_with_len_more (closed sections lists) 0 i i (omega arith))

-- the end may come first or last
end_turned : (cuts : List ℕ) (end : ℕ) → ascending ((0 ∷ cuts) ++ end ∷ []) ≡ ascending (0 ∷ end ∷ cuts)
end_turned cuts end =
    let xs : List ℕ = (0 ∷ cuts) ++ end ∷ [] in
    let ys : List ℕ = 0 ∷ end ∷ cuts in
    same_marks (ascending xs) (ascending ys) (Ascends-fold xs [] tt) (Ascends-fold ys [] tt) (λ p. list_any-ascending p xs ∙ members p ∙ sym (list_any-ascending p ys))
  where
    or_turn : (a b c : Bool) → (a || (b || (c || false))) ≡ (a || (c || b))
    or_turn true b c = refl
    or_turn false true true = refl
    or_turn false true false = refl
    or_turn false false true = refl
    or_turn false false false = refl

    members : (p : ℕ → Bool) → list_any p ((0 ∷ cuts) ++ end ∷ []) ≡ list_any p (0 ∷ end ∷ cuts)
    members p = ap (λ b. p 0 || b) (list_any-append p cuts (end ∷ [])) ∙ or_turn (p 0) (list_any p cuts) (p end)

-- the marks of each section
pub marks_folded : (object : RelObject) → map (closed object.sections (fold (with_cut object.sections) (map start_of object.sections) object.symbols)) (range_with_len 0 (length object.sections)) ≡ mark_lists object
marks_folded object =
    let secs = object.sections in
    let n_of : ℕ = length secs in
    let lists : List (List ℕ) = fold (with_cut secs) (map start_of secs) object.symbols in
    fill_by_all (marks object) (map (closed secs lists) (range_with_len 0 n_of)) n_of []
    (length-map-range_with_len (closed secs lists) 0 n_of)
    (λ n lt.
    get_or-map-range_with_len (closed secs lists) 0 n_of n n [] lt (omega arith)
    ∙ ap (λ xs. ascending (xs ++ (get_or secs n no_section).size ∷ [])) (at_fold secs object.symbols (map start_of secs) n (omega (arith, length-map secs start_of, lt))
    ∙ ap (λ xs. xs ++ flat_map two (filter (cuts_section object n) object.symbols)) (get_or-map start_of secs n no_section [] lt))
    ∙ end_turned (flat_map two (filter (cuts_section object n) object.symbols)) (get_or secs n no_section).size)

-- as many lists as sections
pub lists_count : (secs : List Section) (ss : List Symbol) → length (fold (with_cut secs) (map start_of secs) ss) ≡ length secs
lists_count secs ss = length_fold secs ss (map start_of secs) ∙ length-map secs start_of

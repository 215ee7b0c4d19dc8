-- The exported rows, and the bytes of names.
use Rattle.std.specs.Prelude.{option_to_list}
use Rattle.std.specs.List.{enumerate_from}
use Rattle.std.proofs.Common.{◌≡◌, ℕ, ◌+◌, ◌<◌, ◌≤◌, Bool, true, false, cond, List, [], ◌∷◌, ◌++◌, filter, map, length, get_or, take, Option, refl, sym, ap, ◌∙◌, arith}
use Rattle.std.proofs.lemmas.List.{take_more, take_all, map_push, length-append}
use Rattle.std.proofs.lemmas.List.FromFn.{length-enumerate_from, get_or-enumerate_from}
use Rattle.cap_syms.specs.Resolved.{Resolved, row_of, no_name}
use Rattle.cap_table.specs.Planned.{is_exported, exported, symbol_names, all_names, name_bytes, terminated, table_tags}

-- the exported rows among the first
abbrev pub exported_front : List Resolved → ℕ → List ℕ
exported_front table i = map (λ p. p.0) (filter (λ p. is_exported p.1) (take i (enumerate_from 0 table)))

filter_push : {X : Type 0} (p : X → Bool) (xs : List X) (x : X) → filter p (xs ++ x ∷ []) ≡ filter p xs ++ cond (p x) (x ∷ []) []
filter_push p [] x = refl
filter_push p (y ∷ ys) x = by (p y) (filter_push p ys x)
  where
    by : (b : Bool) → filter p (ys ++ x ∷ []) ≡ filter p ys ++ cond (p x) (x ∷ []) [] → cond b (y ∷ filter p (ys ++ x ∷ [])) (filter p (ys ++ x ∷ [])) ≡ cond b (y ∷ filter p ys) (filter p ys) ++ cond (p x) (x ∷ []) []
    by true e = ap (λ l. y ∷ l) e
    by false e = e

append_none : {X : Type 0} (xs : List X) → xs ++ [] ≡ xs
append_none [] = refl
append_none (x ∷ xs) = ap (λ l. x ∷ l) (append_none xs)

front_more : (table : List Resolved) (i : ℕ) → i < length table → take (i + 1) (enumerate_from 0 table) ≡ take i (enumerate_from 0 table) ++ (i, row_of table i) ∷ []
front_more table i lt =
    let long : i < length (enumerate_from 0 table) = omega (arith, lt, length-enumerate_from 0 table) in
    let zero_more : 0 + i ≡ i = omega arith in
    take_more (enumerate_from 0 table) i (0, no_name) long
    ∙ ap (λ p. take i (enumerate_from 0 table) ++ p ∷ []) (get_or-enumerate_from 0 table i (0, no_name) lt ∙ ap (λ n. (n, row_of table i)) zero_more)

front_grows : (table : List Resolved) (i : ℕ) (b : Bool) → i < length table → is_exported (row_of table i) ≡ b → exported_front table (i + 1) ≡ map (λ p. p.0) (filter (λ p. is_exported p.1) (take i (enumerate_from 0 table)) ++ cond b ((i, row_of table i) ∷ []) [])
front_grows table i b lt e =
    let rows = take i (enumerate_from 0 table) in
    ap (λ l. map (λ (p : ℕ × Resolved). p.0) (filter (λ (p : ℕ × Resolved). is_exported p.1) l)) (front_more table i lt)
    ∙ ap (map (λ (p : ℕ × Resolved). p.0)) (filter_push (λ (p : ℕ × Resolved). is_exported p.1) rows (i, row_of table i) ∙ ap (λ c. filter (λ (p : ℕ × Resolved). is_exported p.1) rows ++ cond c ((i, row_of table i) ∷ []) []) e)

pub exported_more : (table : List Resolved) (i : ℕ) (rows : List ℕ) → i < length table → is_exported (row_of table i) ≡ true → rows ≡ exported_front table i → rows ++ i ∷ [] ≡ exported_front table (i + 1)
exported_more table i rows lt e so_far =
    ap (λ l. l ++ i ∷ []) so_far
    ∙ sym (map_push (λ (p : ℕ × Resolved). p.0) (filter (λ (p : ℕ × Resolved). is_exported p.1) (take i (enumerate_from 0 table))) (i, row_of table i))
    ∙ sym (front_grows table i true lt e)

pub exported_skip : (table : List Resolved) (i : ℕ) (rows : List ℕ) → i < length table → is_exported (row_of table i) ≡ false → rows ≡ exported_front table i → rows ≡ exported_front table (i + 1)
exported_skip table i rows lt e so_far =
    so_far
    ∙ ap (map (λ (p : ℕ × Resolved). p.0)) (sym (append_none (filter (λ (p : ℕ × Resolved). is_exported p.1) (take i (enumerate_from 0 table)))))
    ∙ sym (front_grows table i false lt e)

pub exported_all : (table : List Resolved) (i : ℕ) (rows : List ℕ) → length table ≤ i → rows ≡ exported_front table i → rows ≡ exported table
exported_all table i rows le so_far =
    so_far ∙ ap (λ l. map (λ (p : ℕ × Resolved). p.0) (filter (λ (p : ℕ × Resolved). is_exported p.1) l)) (take_all i (enumerate_from 0 table) (omega (arith, le, length-enumerate_from 0 table)))

-- ---- the bytes of names
text_first : (name : List ℕ) (names : List (List ℕ)) → length (terminated (name ∷ names)) ≡ length name + 1 + length (terminated names)
text_first name names =
    let long = length-append (name ++ 0 ∷ []) (terminated names) in
    let one = length-append name (0 ∷ []) in
    omega (arith, long, one)

text_last : (names : List (List ℕ)) (name : List ℕ) → length (terminated (names ++ name ∷ [])) ≡ length (terminated names) + (length name + 1)
text_last [] name = let e = text_first name [] in omega (arith, e)
text_last (first ∷ names) name =
    let e = text_first first (names ++ name ∷ []) in
    let f = text_first first names in
    let g = text_last names name in
    omega (arith, e, f, g)

-- the bytes of more names
pub text_join : (xs ys : List (List ℕ)) → length (terminated (xs ++ ys)) ≡ length (terminated xs) + length (terminated ys)
text_join [] ys = let none : length (terminated ys) ≡ 0 + length (terminated ys) = omega arith in none
text_join (x ∷ xs) ys =
    let e = text_first x (xs ++ ys) in
    let f = text_first x xs in
    let g = text_join xs ys in
    omega (arith, e, f, g)

pub texts_more : (names : List (List ℕ)) (i : ℕ) (d : List ℕ) → i < length names → length (terminated (take (i + 1) names)) ≡ length (terminated (take i names)) + (length (get_or names i d) + 1)
texts_more names i d lt = ap (λ l. length (terminated l)) (take_more names i d lt) ∙ text_last (take i names) (get_or names i d)

pub texts_all : (names : List (List ℕ)) (i : ℕ) → length names ≤ i → length (terminated (take i names)) ≡ length (terminated names)
texts_all names i le = ap (λ l. length (terminated l)) (take_all i names le)

pub names_more : (table : List Resolved) (rows : List ℕ) (i d : ℕ) → i < length rows → length (terminated (symbol_names table (take (i + 1) rows))) ≡ length (terminated (symbol_names table (take i rows))) + (length (row_of table (get_or rows i d)).name + 1)
names_more table rows i d lt =
    ap (λ l. length (terminated (symbol_names table l))) (take_more rows i d lt)
    ∙ ap (λ l. length (terminated l)) (map_push (λ row. (row_of table row).name) (take i rows) (get_or rows i d))
    ∙ text_last (symbol_names table (take i rows)) (row_of table (get_or rows i d)).name

pub names_all : (table : List Resolved) (rows : List ℕ) (i : ℕ) → length rows ≤ i → length (terminated (symbol_names table (take i rows))) ≡ length (terminated (symbol_names table rows))
names_all table rows i le = ap (λ l. length (terminated (symbol_names table l))) (take_all i rows le)

-- the needed names
pub needed_more : (needed : List (List ℕ × Bool)) (i : ℕ) (d : List ℕ × Bool) → i < length needed → map (λ n. n.0) (take (i + 1) needed) ≡ map (λ n. n.0) (take i needed) ++ (get_or needed i d).0 ∷ []
needed_more needed i d lt =
    ap (map (λ (n : List ℕ × Bool). n.0)) (take_more needed i d lt) ∙ map_push (λ (n : List ℕ × Bool). n.0) (take i needed) (get_or needed i d)

pub needed_all : (needed : List (List ℕ × Bool)) (i : ℕ) → length needed ≤ i → map (λ n. n.0) (take i needed) ≡ map (λ n. n.0) needed
needed_all needed i le = ap (map (λ (n : List ℕ × Bool). n.0)) (take_all i needed le)

-- the bytes of all names
pub all_bytes : (symbols : List (List ℕ)) (soname : Option (List ℕ)) (needed : List (List ℕ)) → length (name_bytes (all_names symbols soname needed)) ≡ 1 + length (terminated symbols) + length (terminated (option_to_list soname)) + length (terminated needed)
all_bytes symbols soname needed =
    let a = text_join (symbols ++ option_to_list soname) needed in
    let b = text_join symbols (option_to_list soname) in
    omega (arith, a, b)

-- ---- the tags of the dynamic table
pub tags_length : (relas cap_relocs init fini : Bool) → length (table_tags relas cap_relocs init fini) ≡ 6 + (cond relas 3 0 + cond cap_relocs 2 0) + (cond init 2 0 + cond fini 2 0)
tags_length true true true true = refl
tags_length true true true false = refl
tags_length true true false true = refl
tags_length true true false false = refl
tags_length true false true true = refl
tags_length true false true false = refl
tags_length true false false true = refl
tags_length true false false false = refl
tags_length false true true true = refl
tags_length false true true false = refl
tags_length false true false true = refl
tags_length false true false false = refl
tags_length false false true true = refl
tags_length false false true false = refl
tags_length false false false true = refl
tags_length false false false false = refl

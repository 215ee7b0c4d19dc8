-- The entries of the dynamic table are read back.
use Rattle.std.proofs.Common.{◌≡◌, ℕ, suc, ◌+◌, ◌*◌, Bool, true, false, List, [], ◌∷◌, ◌++◌, length, Option, Some, None, Result, Ok, Err, refl, ap, ◌∙◌, arith, length-append}
use Rattle.std.specs.Prelude.{nat_lt, ◌==◌, not}
use Rattle.std.specs.List.{flat_map, list_any, AllByRecursion, prefix_len, position}
use Rattle.std.proofs.lemmas.Bool.{lt-ltb, or_parts, or_from}
use Rattle.std.proofs.lemmas.List.{take_at}
use Rattle.std.proofs.lemmas.List.Folds.{list_any-append}
use Rattle.cap_elf.specs.declared.decode.DynEntry.{DynEntry}
use Rattle.cap_base.specs.declared.refusal.Fault.{Fault}
use Rattle.cap_base.specs.Steps.{◌>>=◌, steps}
use Rattle.cap_elf.specs.Records.{table, dyn_entry_at}
use Rattle.cap_elf.specs.Dynamic.{listed_of, used_of, tag_step, has_symbolic_flag}
use Rattle.cap_elf.specs.Tags.{is_single, is_refused}
use Rattle.cap_readback.specs.Stands.{Stands, AreSmall}
use Rattle.cap_readback.specs.Lists.{placed, Entry, entry_fields, entry_bytes, entry_read, Values, own_entries, needed_entries, table_entries, entries_of, Tell}
use Rattle.cap_readback.proofs.Reading.{stands-fields, table-read}

-- ---- general
pub placed-append : {X Y : Type 0} (f : ℕ → X → Y) (at size n : ℕ) (xs ys : List X) → placed f at size n (xs ++ ys) ≡ placed f at size n xs ++ placed f at size (n + length xs) ys
placed-append f at size n [] ys = let e : n ≡ n + 0 = omega arith in ap (λ k. placed f at size k ys) e
placed-append f at size n (x ∷ xs) ys =
    let rest = placed-append f at size (n + 1) xs ys in
    let e : n + 1 + length xs ≡ n + suc (length xs) = omega arith in
    ap (λ zs. f (at + size * n) x ∷ zs) (rest ∙ ap (λ k. placed f at size (n + 1) xs ++ placed f at size k ys) e)

pub length-placed : {X Y : Type 0} (f : ℕ → X → Y) (at size n : ℕ) (xs : List X) → length (placed f at size n xs) ≡ length xs
length-placed f at size n [] = refl
length-placed f at size n (x ∷ xs) = ap suc (length-placed f at size (n + 1) xs)

prefix-until : {X : Type 0} (p : X → Bool) (xs : List X) (y : X) (ys : List X) → list_any p xs ≡ false → p y ≡ true → prefix_len (λ x. not (p x)) (xs ++ y ∷ ys) ≡ length xs
prefix-until p [] y ys none hit = rw hit refl
prefix-until p (x ∷ xs) y ys none hit =
    let parts = or_parts (p x) (list_any p xs) none in
    let rest : prefix_len (λ x. not (p x)) (xs ++ y ∷ ys) ≡ length xs = prefix-until p xs y ys parts.1 hit in
    rw parts.0 (omega (arith, rest))

-- the first that passes stands after those that do not
pub position-after : {X : Type 0} (p : X → Bool) (xs : List X) (y : X) (ys : List X) → list_any p xs ≡ false → p y ≡ true → position p (xs ++ y ∷ ys) ≡ Some (length xs)
position-after p xs y ys none hit =
    let e = prefix-until p xs y ys none hit in
    let long = length-append xs (y ∷ ys) in
    let inside : nat_lt (length xs) (length (xs ++ y ∷ ys)) ≡ true = lt-ltb (length xs) (length (xs ++ y ∷ ys)) (omega (arith, long)) in
    rw (e, inside) refl

bind-each : {A B : Type 0} (r : Result A Fault) (f : A → Result B Fault) (g : A → Result A Fault) (h : A → Result B Fault) → ((a : A) → f a ≡ (g a >>= h)) → (r >>= f) ≡ ((r >>= g) >>= h)
bind-each (Ok x) f g h e = e x
bind-each (Err x) f g h e = refl

-- steps of two lists
pub steps-append : {A X : Type 0} (f : A → X → Result A Fault) (a : A) (xs ys : List X) → steps f a (xs ++ ys) ≡ (steps f a xs >>= λ b. steps f b ys)
steps-append f a [] ys = refl
steps-append f a (x ∷ xs) ys = bind-each (f a x) (λ b. steps f b (xs ++ ys)) (λ b. steps f b xs) (λ b. steps f b ys) (λ b. steps-append f b xs ys)

-- steps that keep what they have
pub steps-keep : {A X : Type 0} (f : A → X → Result A Fault) (a : A) (xs : List X) → AllByRecursion (λ x. f a x ≡ Ok a) xs → steps f a xs ≡ Ok a
steps-keep f a [] h = refl
steps-keep f a (x ∷ xs) h = ap (λ r. r >>= λ b. steps f b xs) h.0 ∙ steps-keep f a xs h.1

-- ---- the entries
pub entry-is : (bytes : List ℕ) (at : ℕ) (e : Entry) → AreSmall (entry_fields e) → Stands bytes at (entry_bytes e) → dyn_entry_at bytes at ≡ entry_read at e
unfolding dyn_entry_at
entry-is bytes at e small h = let r = stands-fields bytes at (entry_fields e) small h in rw (r.0, r.1.0) refl

-- the entries before the one of tag 0
pub listed-is : (bytes : List ℕ) (at : ℕ) (entries : List Entry) → AllByRecursion (λ e. AreSmall (entry_fields e)) (entries ++ (0, 0) ∷ [])
    → Stands bytes at (flat_map entry_bytes (entries ++ (0, 0) ∷ [])) → list_any (λ e. e.tag == 0) (placed entry_read at 16 0 entries) ≡ false
    → listed_of bytes (record { at = at; count = length (entries ++ (0, 0) ∷ []) }) ≡ Ok (placed entry_read at 16 0 entries)
unfolding listed_of
listed-is bytes at entries small stands none =
    let all = table-read (dyn_entry_at bytes) entry_bytes entry_read (λ e. AreSmall (entry_fields e)) bytes at 16 (entries ++ (0, 0) ∷ []) (λ e. refl) (λ q e s h. entry-is bytes q e s h) small stands in
    let last : DynEntry = entry_read (at + 16 * (0 + length entries)) (0, 0) in
    let front = placed entry_read at 16 0 entries in
    let split : table (dyn_entry_at bytes) at 16 (length (entries ++ (0, 0) ∷ [])) ≡ front ++ last ∷ [] = all ∙ placed-append entry_read at 16 0 entries ((0, 0) ∷ []) in
    let end = position-after (λ (e : DynEntry). e.tag == 0) front last [] none refl in
    rw (split, end, take_at front (last ∷ []) (length front) refl) refl

-- entries of needed names are passed over
needed-no-end : (at n : ℕ) (names : List ℕ) → list_any (λ e. e.tag == 0) (placed entry_read at 16 n (needed_entries names)) ≡ false
needed-no-end at n [] = refl
needed-no-end at n (x ∷ xs) = needed-no-end at (n + 1) xs

needed-no-flag : (at n : ℕ) (names : List ℕ) → has_symbolic_flag (placed entry_read at 16 n (needed_entries names)) ≡ false
needed-no-flag at n [] = refl
needed-no-flag at n (x ∷ xs) = needed-no-flag at (n + 1) xs

needed-unused : (at n : ℕ) (names : List ℕ) → steps tag_step [] (placed entry_read at 16 n (needed_entries names)) ≡ Ok []
unfolding tag_step is_single is_refused
needed-unused at n [] = refl
needed-unused at n (x ∷ xs) = needed-unused at (n + 1) xs

-- ---- the entries that stand once: in each of the cases, by computation
pub once-used : (own : Option ℕ) (relas caps init fini : Bool) (v : Values) (at n : ℕ) → steps tag_step [] (placed entry_read at 16 n (own_entries own ++ table_entries relas caps init fini v)) ≡ Ok (placed entry_read at 16 n (own_entries own ++ table_entries relas caps init fini v))
unfolding tag_step is_single is_refused
once-used None true true true true v at n = refl
once-used None true true true false v at n = refl
once-used None true true false true v at n = refl
once-used None true true false false v at n = refl
once-used None true false true true v at n = refl
once-used None true false true false v at n = refl
once-used None true false false true v at n = refl
once-used None true false false false v at n = refl
once-used None false true true true v at n = refl
once-used None false true true false v at n = refl
once-used None false true false true v at n = refl
once-used None false true false false v at n = refl
once-used None false false true true v at n = refl
once-used None false false true false v at n = refl
once-used None false false false true v at n = refl
once-used None false false false false v at n = refl
once-used (Some o) true true true true v at n = refl
once-used (Some o) true true true false v at n = refl
once-used (Some o) true true false true v at n = refl
once-used (Some o) true true false false v at n = refl
once-used (Some o) true false true true v at n = refl
once-used (Some o) true false true false v at n = refl
once-used (Some o) true false false true v at n = refl
once-used (Some o) true false false false v at n = refl
once-used (Some o) false true true true v at n = refl
once-used (Some o) false true true false v at n = refl
once-used (Some o) false true false true v at n = refl
once-used (Some o) false true false false v at n = refl
once-used (Some o) false false true true v at n = refl
once-used (Some o) false false true false v at n = refl
once-used (Some o) false false false true v at n = refl
once-used (Some o) false false false false v at n = refl

pub once-no-end : (own : Option ℕ) (relas caps init fini : Bool) (v : Values) (at n : ℕ) → list_any (λ e. e.tag == 0) (placed entry_read at 16 n (own_entries own ++ table_entries relas caps init fini v)) ≡ false
once-no-end None true true true true v at n = refl
once-no-end None true true true false v at n = refl
once-no-end None true true false true v at n = refl
once-no-end None true true false false v at n = refl
once-no-end None true false true true v at n = refl
once-no-end None true false true false v at n = refl
once-no-end None true false false true v at n = refl
once-no-end None true false false false v at n = refl
once-no-end None false true true true v at n = refl
once-no-end None false true true false v at n = refl
once-no-end None false true false true v at n = refl
once-no-end None false true false false v at n = refl
once-no-end None false false true true v at n = refl
once-no-end None false false true false v at n = refl
once-no-end None false false false true v at n = refl
once-no-end None false false false false v at n = refl
once-no-end (Some o) true true true true v at n = refl
once-no-end (Some o) true true true false v at n = refl
once-no-end (Some o) true true false true v at n = refl
once-no-end (Some o) true true false false v at n = refl
once-no-end (Some o) true false true true v at n = refl
once-no-end (Some o) true false true false v at n = refl
once-no-end (Some o) true false false true v at n = refl
once-no-end (Some o) true false false false v at n = refl
once-no-end (Some o) false true true true v at n = refl
once-no-end (Some o) false true true false v at n = refl
once-no-end (Some o) false true false true v at n = refl
once-no-end (Some o) false true false false v at n = refl
once-no-end (Some o) false false true true v at n = refl
once-no-end (Some o) false false true false v at n = refl
once-no-end (Some o) false false false true v at n = refl
once-no-end (Some o) false false false false v at n = refl

pub once-no-flag : (own : Option ℕ) (relas caps init fini : Bool) (v : Values) (at n : ℕ) → has_symbolic_flag (placed entry_read at 16 n (own_entries own ++ table_entries relas caps init fini v)) ≡ false
once-no-flag None true true true true v at n = refl
once-no-flag None true true true false v at n = refl
once-no-flag None true true false true v at n = refl
once-no-flag None true true false false v at n = refl
once-no-flag None true false true true v at n = refl
once-no-flag None true false true false v at n = refl
once-no-flag None true false false true v at n = refl
once-no-flag None true false false false v at n = refl
once-no-flag None false true true true v at n = refl
once-no-flag None false true true false v at n = refl
once-no-flag None false true false true v at n = refl
once-no-flag None false true false false v at n = refl
once-no-flag None false false true true v at n = refl
once-no-flag None false false true false v at n = refl
once-no-flag None false false false true v at n = refl
once-no-flag None false false false false v at n = refl
once-no-flag (Some o) true true true true v at n = refl
once-no-flag (Some o) true true true false v at n = refl
once-no-flag (Some o) true true false true v at n = refl
once-no-flag (Some o) true true false false v at n = refl
once-no-flag (Some o) true false true true v at n = refl
once-no-flag (Some o) true false true false v at n = refl
once-no-flag (Some o) true false false true v at n = refl
once-no-flag (Some o) true false false false v at n = refl
once-no-flag (Some o) false true true true v at n = refl
once-no-flag (Some o) false true true false v at n = refl
once-no-flag (Some o) false true false true v at n = refl
once-no-flag (Some o) false true false false v at n = refl
once-no-flag (Some o) false false true true v at n = refl
once-no-flag (Some o) false false true false v at n = refl
once-no-flag (Some o) false false false true v at n = refl
once-no-flag (Some o) false false false false v at n = refl

pub once-tell : (own : Option ℕ) (relas caps init fini : Bool) (v : Values) (at n : ℕ) → Tell (placed entry_read at 16 n (own_entries own ++ table_entries relas caps init fini v)) relas caps init fini v
once-tell None true true true true v at n = record { hash = refl; strings = refl; symbols = refl; strings_size = refl; symbol_size = refl; symbolic = refl; relas_at = refl; relas_size = refl; rela_size = refl; jumps_at = refl; jumps_size = refl; jumps_kind = refl; caps_at = refl; caps_size = refl; init_at = refl; init_size = refl; fini_at = refl; fini_size = refl }
once-tell None true true true false v at n = record { hash = refl; strings = refl; symbols = refl; strings_size = refl; symbol_size = refl; symbolic = refl; relas_at = refl; relas_size = refl; rela_size = refl; jumps_at = refl; jumps_size = refl; jumps_kind = refl; caps_at = refl; caps_size = refl; init_at = refl; init_size = refl; fini_at = refl; fini_size = refl }
once-tell None true true false true v at n = record { hash = refl; strings = refl; symbols = refl; strings_size = refl; symbol_size = refl; symbolic = refl; relas_at = refl; relas_size = refl; rela_size = refl; jumps_at = refl; jumps_size = refl; jumps_kind = refl; caps_at = refl; caps_size = refl; init_at = refl; init_size = refl; fini_at = refl; fini_size = refl }
once-tell None true true false false v at n = record { hash = refl; strings = refl; symbols = refl; strings_size = refl; symbol_size = refl; symbolic = refl; relas_at = refl; relas_size = refl; rela_size = refl; jumps_at = refl; jumps_size = refl; jumps_kind = refl; caps_at = refl; caps_size = refl; init_at = refl; init_size = refl; fini_at = refl; fini_size = refl }
once-tell None true false true true v at n = record { hash = refl; strings = refl; symbols = refl; strings_size = refl; symbol_size = refl; symbolic = refl; relas_at = refl; relas_size = refl; rela_size = refl; jumps_at = refl; jumps_size = refl; jumps_kind = refl; caps_at = refl; caps_size = refl; init_at = refl; init_size = refl; fini_at = refl; fini_size = refl }
once-tell None true false true false v at n = record { hash = refl; strings = refl; symbols = refl; strings_size = refl; symbol_size = refl; symbolic = refl; relas_at = refl; relas_size = refl; rela_size = refl; jumps_at = refl; jumps_size = refl; jumps_kind = refl; caps_at = refl; caps_size = refl; init_at = refl; init_size = refl; fini_at = refl; fini_size = refl }
once-tell None true false false true v at n = record { hash = refl; strings = refl; symbols = refl; strings_size = refl; symbol_size = refl; symbolic = refl; relas_at = refl; relas_size = refl; rela_size = refl; jumps_at = refl; jumps_size = refl; jumps_kind = refl; caps_at = refl; caps_size = refl; init_at = refl; init_size = refl; fini_at = refl; fini_size = refl }
once-tell None true false false false v at n = record { hash = refl; strings = refl; symbols = refl; strings_size = refl; symbol_size = refl; symbolic = refl; relas_at = refl; relas_size = refl; rela_size = refl; jumps_at = refl; jumps_size = refl; jumps_kind = refl; caps_at = refl; caps_size = refl; init_at = refl; init_size = refl; fini_at = refl; fini_size = refl }
once-tell None false true true true v at n = record { hash = refl; strings = refl; symbols = refl; strings_size = refl; symbol_size = refl; symbolic = refl; relas_at = refl; relas_size = refl; rela_size = refl; jumps_at = refl; jumps_size = refl; jumps_kind = refl; caps_at = refl; caps_size = refl; init_at = refl; init_size = refl; fini_at = refl; fini_size = refl }
once-tell None false true true false v at n = record { hash = refl; strings = refl; symbols = refl; strings_size = refl; symbol_size = refl; symbolic = refl; relas_at = refl; relas_size = refl; rela_size = refl; jumps_at = refl; jumps_size = refl; jumps_kind = refl; caps_at = refl; caps_size = refl; init_at = refl; init_size = refl; fini_at = refl; fini_size = refl }
once-tell None false true false true v at n = record { hash = refl; strings = refl; symbols = refl; strings_size = refl; symbol_size = refl; symbolic = refl; relas_at = refl; relas_size = refl; rela_size = refl; jumps_at = refl; jumps_size = refl; jumps_kind = refl; caps_at = refl; caps_size = refl; init_at = refl; init_size = refl; fini_at = refl; fini_size = refl }
once-tell None false true false false v at n = record { hash = refl; strings = refl; symbols = refl; strings_size = refl; symbol_size = refl; symbolic = refl; relas_at = refl; relas_size = refl; rela_size = refl; jumps_at = refl; jumps_size = refl; jumps_kind = refl; caps_at = refl; caps_size = refl; init_at = refl; init_size = refl; fini_at = refl; fini_size = refl }
once-tell None false false true true v at n = record { hash = refl; strings = refl; symbols = refl; strings_size = refl; symbol_size = refl; symbolic = refl; relas_at = refl; relas_size = refl; rela_size = refl; jumps_at = refl; jumps_size = refl; jumps_kind = refl; caps_at = refl; caps_size = refl; init_at = refl; init_size = refl; fini_at = refl; fini_size = refl }
once-tell None false false true false v at n = record { hash = refl; strings = refl; symbols = refl; strings_size = refl; symbol_size = refl; symbolic = refl; relas_at = refl; relas_size = refl; rela_size = refl; jumps_at = refl; jumps_size = refl; jumps_kind = refl; caps_at = refl; caps_size = refl; init_at = refl; init_size = refl; fini_at = refl; fini_size = refl }
once-tell None false false false true v at n = record { hash = refl; strings = refl; symbols = refl; strings_size = refl; symbol_size = refl; symbolic = refl; relas_at = refl; relas_size = refl; rela_size = refl; jumps_at = refl; jumps_size = refl; jumps_kind = refl; caps_at = refl; caps_size = refl; init_at = refl; init_size = refl; fini_at = refl; fini_size = refl }
once-tell None false false false false v at n = record { hash = refl; strings = refl; symbols = refl; strings_size = refl; symbol_size = refl; symbolic = refl; relas_at = refl; relas_size = refl; rela_size = refl; jumps_at = refl; jumps_size = refl; jumps_kind = refl; caps_at = refl; caps_size = refl; init_at = refl; init_size = refl; fini_at = refl; fini_size = refl }
once-tell (Some o) true true true true v at n = record { hash = refl; strings = refl; symbols = refl; strings_size = refl; symbol_size = refl; symbolic = refl; relas_at = refl; relas_size = refl; rela_size = refl; jumps_at = refl; jumps_size = refl; jumps_kind = refl; caps_at = refl; caps_size = refl; init_at = refl; init_size = refl; fini_at = refl; fini_size = refl }
once-tell (Some o) true true true false v at n = record { hash = refl; strings = refl; symbols = refl; strings_size = refl; symbol_size = refl; symbolic = refl; relas_at = refl; relas_size = refl; rela_size = refl; jumps_at = refl; jumps_size = refl; jumps_kind = refl; caps_at = refl; caps_size = refl; init_at = refl; init_size = refl; fini_at = refl; fini_size = refl }
once-tell (Some o) true true false true v at n = record { hash = refl; strings = refl; symbols = refl; strings_size = refl; symbol_size = refl; symbolic = refl; relas_at = refl; relas_size = refl; rela_size = refl; jumps_at = refl; jumps_size = refl; jumps_kind = refl; caps_at = refl; caps_size = refl; init_at = refl; init_size = refl; fini_at = refl; fini_size = refl }
once-tell (Some o) true true false false v at n = record { hash = refl; strings = refl; symbols = refl; strings_size = refl; symbol_size = refl; symbolic = refl; relas_at = refl; relas_size = refl; rela_size = refl; jumps_at = refl; jumps_size = refl; jumps_kind = refl; caps_at = refl; caps_size = refl; init_at = refl; init_size = refl; fini_at = refl; fini_size = refl }
once-tell (Some o) true false true true v at n = record { hash = refl; strings = refl; symbols = refl; strings_size = refl; symbol_size = refl; symbolic = refl; relas_at = refl; relas_size = refl; rela_size = refl; jumps_at = refl; jumps_size = refl; jumps_kind = refl; caps_at = refl; caps_size = refl; init_at = refl; init_size = refl; fini_at = refl; fini_size = refl }
once-tell (Some o) true false true false v at n = record { hash = refl; strings = refl; symbols = refl; strings_size = refl; symbol_size = refl; symbolic = refl; relas_at = refl; relas_size = refl; rela_size = refl; jumps_at = refl; jumps_size = refl; jumps_kind = refl; caps_at = refl; caps_size = refl; init_at = refl; init_size = refl; fini_at = refl; fini_size = refl }
once-tell (Some o) true false false true v at n = record { hash = refl; strings = refl; symbols = refl; strings_size = refl; symbol_size = refl; symbolic = refl; relas_at = refl; relas_size = refl; rela_size = refl; jumps_at = refl; jumps_size = refl; jumps_kind = refl; caps_at = refl; caps_size = refl; init_at = refl; init_size = refl; fini_at = refl; fini_size = refl }
once-tell (Some o) true false false false v at n = record { hash = refl; strings = refl; symbols = refl; strings_size = refl; symbol_size = refl; symbolic = refl; relas_at = refl; relas_size = refl; rela_size = refl; jumps_at = refl; jumps_size = refl; jumps_kind = refl; caps_at = refl; caps_size = refl; init_at = refl; init_size = refl; fini_at = refl; fini_size = refl }
once-tell (Some o) false true true true v at n = record { hash = refl; strings = refl; symbols = refl; strings_size = refl; symbol_size = refl; symbolic = refl; relas_at = refl; relas_size = refl; rela_size = refl; jumps_at = refl; jumps_size = refl; jumps_kind = refl; caps_at = refl; caps_size = refl; init_at = refl; init_size = refl; fini_at = refl; fini_size = refl }
once-tell (Some o) false true true false v at n = record { hash = refl; strings = refl; symbols = refl; strings_size = refl; symbol_size = refl; symbolic = refl; relas_at = refl; relas_size = refl; rela_size = refl; jumps_at = refl; jumps_size = refl; jumps_kind = refl; caps_at = refl; caps_size = refl; init_at = refl; init_size = refl; fini_at = refl; fini_size = refl }
once-tell (Some o) false true false true v at n = record { hash = refl; strings = refl; symbols = refl; strings_size = refl; symbol_size = refl; symbolic = refl; relas_at = refl; relas_size = refl; rela_size = refl; jumps_at = refl; jumps_size = refl; jumps_kind = refl; caps_at = refl; caps_size = refl; init_at = refl; init_size = refl; fini_at = refl; fini_size = refl }
once-tell (Some o) false true false false v at n = record { hash = refl; strings = refl; symbols = refl; strings_size = refl; symbol_size = refl; symbolic = refl; relas_at = refl; relas_size = refl; rela_size = refl; jumps_at = refl; jumps_size = refl; jumps_kind = refl; caps_at = refl; caps_size = refl; init_at = refl; init_size = refl; fini_at = refl; fini_size = refl }
once-tell (Some o) false false true true v at n = record { hash = refl; strings = refl; symbols = refl; strings_size = refl; symbol_size = refl; symbolic = refl; relas_at = refl; relas_size = refl; rela_size = refl; jumps_at = refl; jumps_size = refl; jumps_kind = refl; caps_at = refl; caps_size = refl; init_at = refl; init_size = refl; fini_at = refl; fini_size = refl }
once-tell (Some o) false false true false v at n = record { hash = refl; strings = refl; symbols = refl; strings_size = refl; symbol_size = refl; symbolic = refl; relas_at = refl; relas_size = refl; rela_size = refl; jumps_at = refl; jumps_size = refl; jumps_kind = refl; caps_at = refl; caps_size = refl; init_at = refl; init_size = refl; fini_at = refl; fini_size = refl }
once-tell (Some o) false false false true v at n = record { hash = refl; strings = refl; symbols = refl; strings_size = refl; symbol_size = refl; symbolic = refl; relas_at = refl; relas_size = refl; rela_size = refl; jumps_at = refl; jumps_size = refl; jumps_kind = refl; caps_at = refl; caps_size = refl; init_at = refl; init_size = refl; fini_at = refl; fini_size = refl }
once-tell (Some o) false false false false v at n = record { hash = refl; strings = refl; symbols = refl; strings_size = refl; symbol_size = refl; symbolic = refl; relas_at = refl; relas_size = refl; rela_size = refl; jumps_at = refl; jumps_size = refl; jumps_kind = refl; caps_at = refl; caps_size = refl; init_at = refl; init_size = refl; fini_at = refl; fini_size = refl }

-- ---- the two stages
pub no-end : (needed : List ℕ) (own : Option ℕ) (relas caps init fini : Bool) (v : Values) (at : ℕ) → list_any (λ e. e.tag == 0) (placed entry_read at 16 0 (entries_of needed own relas caps init fini v)) ≡ false
no-end needed own relas caps init fini v at =
    let once = own_entries own ++ table_entries relas caps init fini v in
    let front = placed entry_read at 16 0 (needed_entries needed) in
    let back = placed entry_read at 16 (0 + length (needed_entries needed)) once in
    ap (list_any (λ (e : DynEntry). e.tag == 0)) (placed-append entry_read at 16 0 (needed_entries needed) once)
    ∙ list_any-append (λ (e : DynEntry). e.tag == 0) front back
    ∙ or_from (list_any (λ (e : DynEntry). e.tag == 0) front) (list_any (λ (e : DynEntry). e.tag == 0) back) (needed-no-end at 0 needed) (once-no-end own relas caps init fini v at (0 + length (needed_entries needed)))

pub no-flag : (needed : List ℕ) (own : Option ℕ) (relas caps init fini : Bool) (v : Values) (at : ℕ) → has_symbolic_flag (placed entry_read at 16 0 (entries_of needed own relas caps init fini v)) ≡ false
no-flag needed own relas caps init fini v at =
    let once = own_entries own ++ table_entries relas caps init fini v in
    let front = placed entry_read at 16 0 (needed_entries needed) in
    let back = placed entry_read at 16 (0 + length (needed_entries needed)) once in
    ap has_symbolic_flag (placed-append entry_read at 16 0 (needed_entries needed) once)
    ∙ list_any-append _ front back
    ∙ or_from (has_symbolic_flag front) (has_symbolic_flag back) (needed-no-flag at 0 needed) (once-no-flag own relas caps init fini v at (0 + length (needed_entries needed)))

-- the entries that are used
abbrev pub used_entries : List ℕ → Option ℕ → Bool → Bool → Bool → Bool → Values → ℕ → List DynEntry
used_entries needed own relas caps init fini v at = placed entry_read at 16 (0 + length (needed_entries needed)) (own_entries own ++ table_entries relas caps init fini v)

pub used-is : (needed : List ℕ) (own : Option ℕ) (relas caps init fini : Bool) (v : Values) (at : ℕ) → used_of (placed entry_read at 16 0 (entries_of needed own relas caps init fini v)) ≡ Ok (used_entries needed own relas caps init fini v at)
used-is needed own relas caps init fini v at =
    let once = own_entries own ++ table_entries relas caps init fini v in
    let front = placed entry_read at 16 0 (needed_entries needed) in
    let back = used_entries needed own relas caps init fini v at in
    ap (steps tag_step []) (placed-append entry_read at 16 0 (needed_entries needed) once)
    ∙ steps-append tag_step [] front back
    ∙ ap (λ r. r >>= λ b. steps tag_step b back) (needed-unused at 0 needed)
    ∙ once-used own relas caps init fini v at (0 + length (needed_entries needed))

pub used-tell : (needed : List ℕ) (own : Option ℕ) (relas caps init fini : Bool) (v : Values) (at : ℕ) → Tell (used_entries needed own relas caps init fini v at) relas caps init fini v
used-tell needed own relas caps init fini v at = once-tell own relas caps init fini v at (0 + length (needed_entries needed))

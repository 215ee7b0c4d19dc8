-- Names in the string table are read back.
use Rattle.std.proofs.Common.{◌≡◌, ℕ, suc, ◌+◌, ◌*◌, ◌≤◌, Bool, true, false, List, [], ◌∷◌, ◌++◌, length, map, drop, get_or, Option, Some, None, Result, Ok, Err, refl, sym, ap, ◌∙◌, arith, append_assoc, length-append, length-drop}
use Rattle.std.specs.Prelude.{option_to_list, nat_lt, nat_le, ◌&&◌, ◌==◌}
use Rattle.std.specs.List.{list_any, list_all, AllByRecursion, position}
use Rattle.std.proofs.lemmas.Bool.{lt-ltb, le-ltb, leb-true, and_parts, or_from, ne_eqb}
use Rattle.std.proofs.lemmas.List.{take_at, get_or-append-add, append-nil}
use Rattle.cap_base.specs.declared.refusal.Fault.{Fault}
use Rattle.cap_base.specs.Steps.{◌>>=◌, steps}
use Rattle.cap_elf.specs.Names.{name_of}
use Rattle.cap_base.specs.Text.{is_plain as is_printable}
use Rattle.cap_elf.specs.FileNames.{NamesView, file_name_of, name_step, names_of}
use Rattle.cap_readback.specs.Stands.{Stands}
use Rattle.cap_readback.specs.Lists.{placed, entry_read, Values, own_entries, needed_entries, table_entries, entries_of}
use Rattle.cap_readback.specs.View.{own_offset, own_name, IsOwn, Refused}
use Rattle.std.proofs.Common.{⊎_elim, inl}
use Rattle.std.proofs.lemmas.Bool.{and_cases, cases_Bool, true≢false}
use Rattle.cap_base.specs.declared.check.Check.TheVariants.{NeededName}
use Rattle.cap_readback.specs.Content.{terminated, Name, names_from, Ends, IsLibrary, is_taken}
use Rattle.cap_readback.proofs.Reading.{stands-front, stands-back}
use Rattle.cap_readback.proofs.Dynamic.{position-after, placed-append, steps-append}

-- each name of the string table stands at its offset
pub names-stand : (strings : List ℕ) (at : ℕ) (names : List (List ℕ)) → Stands strings at (terminated names) → AllByRecursion (Ends strings) (names_from at names)
names-stand strings at [] h = tt
names-stand strings at (name ∷ names) h =
    let long : at + length (name ++ 0 ∷ []) ≡ at + length name + 1 = omega (arith, length-append name (0 ∷ [])) in
    (stands-front strings at (name ++ 0 ∷ []) (terminated names) h, names-stand strings (at + length name + 1) names (stands-back strings at (at + length name + 1) (name ++ 0 ∷ []) (terminated names) long h))

-- the string table ends in a zero byte
pub ends-in-zero : (names : List (List ℕ)) → get_or (0 ∷ terminated names) (length (terminated names)) 0 ≡ 0
ends-in-zero [] = refl
ends-in-zero (name ∷ names) =
    let tail = terminated names in
    let shape : (name ++ 0 ∷ []) ++ tail ≡ name ++ (0 ∷ tail) = append_assoc name (0 ∷ []) tail in
    let long : length (name ++ (0 ∷ tail)) ≡ length (0 ∷ name) + length tail = omega (arith, length-append name (0 ∷ tail)) in
    let there : get_or ((0 ∷ name) ++ (0 ∷ tail)) (length (0 ∷ name) + length tail) 0 ≡ get_or (0 ∷ tail) (length tail) 0 = get_or-append-add (0 ∷ name) (0 ∷ tail) (length tail) 0 in
    ap (λ xs. get_or (0 ∷ xs) (length xs) 0) shape ∙ ap (λ k. get_or (0 ∷ (name ++ (0 ∷ tail))) k 0) long ∙ there ∙ ends-in-zero names

-- printable bytes are not zero
pub printable-no-zero : (name : List ℕ) → is_printable name ≡ true → list_any (λ b. b == 0) name ≡ false
printable-no-zero [] h = refl
printable-no-zero (b ∷ bs) h =
    let parts = and_parts (nat_le 0x20 b && nat_le b 0x7e) (is_printable bs) h in
    let low : 0x20 ≤ b = leb-true 0x20 b (and_parts (nat_le 0x20 b) (nat_le b 0x7e) parts.0).0 in
    or_from (b == 0) (list_any (λ c. c == 0) bs) (ne_eqb b 0 (λ (e : b ≡ 0). omega (arith, e, low))) (printable-no-zero bs parts.1)

-- a name is read back at its offset
pub name-at : (strings : List ℕ) (n : Name) → list_any (λ b. b == 0) n.1 ≡ false → Ends strings n → name_of strings n.0 ≡ Some n.1
name-at strings n no_zero h =
    let shape : drop n.0 strings ≡ n.1 ++ (0 ∷ h.rest) = h.is ∙ append_assoc n.1 (0 ∷ []) h.rest in
    let long : length (drop n.0 strings) ≡ length n.1 + suc (length h.rest) = ap length shape ∙ length-append n.1 (0 ∷ h.rest) in
    let inside : nat_lt n.0 (length strings) ≡ true = lt-ltb n.0 (length strings) (omega (arith, long, length-drop n.0 strings)) in
    let end : position (λ b. b == 0) (n.1 ++ (0 ∷ h.rest)) ≡ Some (length n.1) = position-after (λ b. b == 0) n.1 0 h.rest no_zero refl in
    rw (inside, shape, end, take_at n.1 (0 ∷ h.rest) (length n.1) refl) refl

-- ---- needed names and the own name
pub file-name-is : (strings : List ℕ) (tag at : ℕ) (n : Name) → IsLibrary strings n → is_taken n ≡ true → file_name_of strings (record { tag = tag; value = n.0; at = at }) ≡ Ok n.1
unfolding file_name_of
file-name-is strings tag at n h taken =
    rw (name-at strings n h.no_zero h.stands, taken, le-ltb 255 (length n.1) h.short) refl

needed-one : (strings : List ℕ) (at : ℕ) (n : Name) (so_far : List (List ℕ)) (own : Option (List ℕ)) → IsLibrary strings n → is_taken n ≡ true
    → name_step strings (record { needed = so_far; soname = own }) (record { tag = 1; value = n.0; at = at }) ≡ Ok (record { needed = so_far ++ n.1 ∷ []; soname = own })
unfolding name_step
needed-one strings at n so_far own h taken = rw (file-name-is strings 1 at n h taken) refl

own-one : (strings : List ℕ) (at : ℕ) (n : Name) (so_far : List (List ℕ)) → IsLibrary strings n → is_taken n ≡ true
    → name_step strings (record { needed = so_far; soname = None }) (record { tag = 14; value = n.0; at = at }) ≡ Ok (record { needed = so_far; soname = Some n.1 })
unfolding name_step
own-one strings at n so_far h taken = rw (file-name-is strings 14 at n h taken) refl

needed-names : (strings : List ℕ) (at n : ℕ) (names : List Name) (so_far : List (List ℕ)) (own : Option (List ℕ)) → AllByRecursion (IsLibrary strings) names → list_all is_taken names ≡ true
    → steps (name_step strings) (record { needed = so_far; soname = own }) (placed entry_read at 16 n (needed_entries (map (λ p. p.0) names))) ≡ Ok (record { needed = so_far ++ map (λ p. p.1) names; soname = own })
needed-names strings at n [] so_far own h taken = ap (λ xs. Ok (record { needed = xs; soname = own })) (sym (append-nil so_far))
needed-names strings at n (p ∷ ps) so_far own h taken =
    let parts = and_parts (is_taken p) (list_all is_taken ps) taken in
    let rest = needed-names strings at (n + 1) ps (so_far ++ p.1 ∷ []) own h.1 parts.1 in
    let one = needed-one strings (at + 16 * n) p so_far own h.0 parts.0 in
    ap (λ r. r >>= λ b. steps (name_step strings) b (placed entry_read at 16 (n + 1) (needed_entries (map (λ q. q.0) ps)))) one
    ∙ rest ∙ ap (λ xs. Ok (record { needed = xs; soname = own })) (append_assoc so_far (p.1 ∷ []) (map (λ q. q.1) ps))

own-is : (strings : List ℕ) (at n : ℕ) (own : Option Name) (so_far : List (List ℕ)) → IsOwn strings own → list_all is_taken (option_to_list own) ≡ true
    → steps (name_step strings) (record { needed = so_far; soname = None }) (placed entry_read at 16 n (own_entries (own_offset own))) ≡ Ok (record { needed = so_far; soname = own_name own })
own-is strings at n None so_far h taken = refl
own-is strings at n (Some p) so_far h taken = rw (own-one strings (at + 16 * n) p so_far h (and_parts (is_taken p) true taken).0) refl

-- the other entries name nothing
tables-no-names : (strings : List ℕ) (relas caps init fini : Bool) (v : Values) (at n : ℕ) (names : NamesView) → steps (name_step strings) names (placed entry_read at 16 n (table_entries relas caps init fini v)) ≡ Ok names
unfolding name_step
tables-no-names strings true true true true v at n names = refl
tables-no-names strings true true true false v at n names = refl
tables-no-names strings true true false true v at n names = refl
tables-no-names strings true true false false v at n names = refl
tables-no-names strings true false true true v at n names = refl
tables-no-names strings true false true false v at n names = refl
tables-no-names strings true false false true v at n names = refl
tables-no-names strings true false false false v at n names = refl
tables-no-names strings false true true true v at n names = refl
tables-no-names strings false true true false v at n names = refl
tables-no-names strings false true false true v at n names = refl
tables-no-names strings false true false false v at n names = refl
tables-no-names strings false false true true v at n names = refl
tables-no-names strings false false true false v at n names = refl
tables-no-names strings false false false true v at n names = refl
tables-no-names strings false false false false v at n names = refl

pub names-are : (strings : List ℕ) (needed : List Name) (own : Option Name) (relas caps init fini : Bool) (v : Values) (at : ℕ) → AllByRecursion (IsLibrary strings) needed → IsOwn strings own → list_all is_taken needed ≡ true → list_all is_taken (option_to_list own) ≡ true
    → names_of strings (placed entry_read at 16 0 (entries_of (map (λ p. p.0) needed) (own_offset own) relas caps init fini v)) ≡ Ok (record { needed = map (λ p. p.1) needed; soname = own_name own })
names-are strings needed own relas caps init fini v at are is taken own_taken =
    let start : NamesView = record { needed = []; soname = None } in
    let some : NamesView = record { needed = map (λ (p : Name). p.1) needed; soname = None } in
    let all : NamesView = record { needed = map (λ (p : Name). p.1) needed; soname = own_name own } in
    let first = needed_entries (map (λ (p : Name). p.0) needed) in
    let second = own_entries (own_offset own) in
    let third = table_entries relas caps init fini v in
    let n1 = 0 + length first in
    let n2 = n1 + length second in
    let a = placed entry_read at 16 0 first in
    let b = placed entry_read at 16 n1 second in
    let c = placed entry_read at 16 n2 third in
    let shape : placed entry_read at 16 0 (first ++ (second ++ third)) ≡ a ++ (b ++ c) = placed-append entry_read at 16 0 first (second ++ third) ∙ ap (λ xs. a ++ xs) (placed-append entry_read at 16 n1 second third) in
    ap (steps (name_step strings) start) shape
    ∙ steps-append (name_step strings) start a (b ++ c)
    ∙ ap (λ r. r >>= λ x. steps (name_step strings) x (b ++ c)) (needed-names strings at 0 needed [] None are taken)
    ∙ steps-append (name_step strings) some b c
    ∙ ap (λ r. r >>= λ x. steps (name_step strings) x c) (own-is strings at n1 own (map (λ (p : Name). p.1) needed) is own_taken)
    ∙ tables-no-names strings relas caps init fini v at n2 all

-- ---- a name that a reader does not take
pub refused-bind : {A B : Type 0} (r : Result A Fault) (f : A → Result B Fault) → Refused r → Refused (r >>= f)
refused-bind r f h = record { fault = h.fault; is = ap (λ x. x >>= f) h.is; check = h.check }

pub refused-after : {A B : Type 0} (r : Result A Fault) (f : A → Result B Fault) (a : A) → r ≡ Ok a → Refused (f a) → Refused (r >>= f)
refused-after r f a e h = record { fault = h.fault; is = ap (λ x. x >>= f) e ∙ h.is; check = h.check }

pub refused-is : {A : Type 0} (r s : Result A Fault) → r ≡ s → Refused s → Refused r
refused-is r s e h = record { fault = h.fault; is = e ∙ h.is; check = h.check }

file-name-not : (strings : List ℕ) (tag at : ℕ) (n : Name) → IsLibrary strings n → is_taken n ≡ false → file_name_of strings (record { tag = tag; value = n.0; at = at }) ≡ Err (record { check = NeededName; at = at })
unfolding file_name_of
file-name-not strings tag at n h taken = rw (name-at strings n h.no_zero h.stands, taken) refl

needed-one-not : (strings : List ℕ) (at : ℕ) (n : Name) (names : NamesView) → IsLibrary strings n → is_taken n ≡ false → Refused (name_step strings names (record { tag = 1; value = n.0; at = at }))
unfolding name_step
needed-one-not strings at n names h taken = record { fault = record { check = NeededName; at = at }; is = rw (file-name-not strings 1 at n h taken) refl; check = inl refl }

own-one-not : (strings : List ℕ) (at : ℕ) (n : Name) (names : NamesView) → IsLibrary strings n → is_taken n ≡ false → Refused (name_step strings names (record { tag = 14; value = n.0; at = at }))
unfolding name_step
own-one-not strings at n names h taken = record { fault = record { check = NeededName; at = at }; is = rw (file-name-not strings 14 at n h taken) refl; check = inl refl }

needed-not : (strings : List ℕ) (at n : ℕ) (names : List Name) (so_far : List (List ℕ)) (own : Option (List ℕ)) → AllByRecursion (IsLibrary strings) names → list_all is_taken names ≡ false
    → Refused (steps (name_step strings) (record { needed = so_far; soname = own }) (placed entry_read at 16 n (needed_entries (map (λ p. p.0) names))))
needed-not strings at n [] so_far own h taken = absurd (true≢false taken)
needed-not strings at n (p ∷ ps) so_far own h taken =
    let now : NamesView = record { needed = so_far; soname = own } in
    let first = name_step strings now (record { tag = 1; value = p.0; at = at + 16 * n }) in
    let rest = λ (b : NamesView). steps (name_step strings) b (placed entry_read at 16 (n + 1) (needed_entries (map (λ (q : Name). q.0) ps))) in
    ⊎_elim (λ (yes : is_taken p ≡ true).
    let later : list_all is_taken ps ≡ false = rw yes at taken in
    refused-after first rest (record { needed = so_far ++ p.1 ∷ []; soname = own }) (needed-one strings (at + 16 * n) p so_far own h.0 yes) (needed-not strings at (n + 1) ps (so_far ++ p.1 ∷ []) own h.1 later))
    (λ (no : is_taken p ≡ false). refused-bind first rest (needed-one-not strings (at + 16 * n) p now h.0 no))
    (cases_Bool (is_taken p))

own-not : (strings : List ℕ) (at n : ℕ) (own : Option Name) (names : NamesView) → IsOwn strings own → list_all is_taken (option_to_list own) ≡ false
    → Refused (steps (name_step strings) names (placed entry_read at 16 n (own_entries (own_offset own))))
own-not strings at n None names h taken = absurd (true≢false taken)
own-not strings at n (Some p) names h taken =
    let no : is_taken p ≡ false = ⊎_elim (λ (x : is_taken p ≡ false). x) (λ (x : true ≡ false). absurd (true≢false x)) (and_cases (is_taken p) true taken) in
    refused-bind (name_step strings names (record { tag = 14; value = p.0; at = at + 16 * n })) (λ (b : NamesView). Ok b) (own-one-not strings (at + 16 * n) p names h no)

pub names-not : (strings : List ℕ) (needed : List Name) (own : Option Name) (relas caps init fini : Bool) (v : Values) (at : ℕ) → AllByRecursion (IsLibrary strings) needed → IsOwn strings own
    → (list_all is_taken needed && list_all is_taken (option_to_list own)) ≡ false
    → Refused (names_of strings (placed entry_read at 16 0 (entries_of (map (λ p. p.0) needed) (own_offset own) relas caps init fini v)))
names-not strings needed own relas caps init fini v at are is taken =
    let start : NamesView = record { needed = []; soname = None } in
    let some : NamesView = record { needed = map (λ (p : Name). p.1) needed; soname = None } in
    let first = needed_entries (map (λ (p : Name). p.0) needed) in
    let second = own_entries (own_offset own) in
    let third = table_entries relas caps init fini v in
    let n1 = 0 + length first in
    let n2 = n1 + length second in
    let a = placed entry_read at 16 0 first in
    let b = placed entry_read at 16 n1 second in
    let c = placed entry_read at 16 n2 third in
    let shape : placed entry_read at 16 0 (first ++ (second ++ third)) ≡ a ++ (b ++ c) = placed-append entry_read at 16 0 first (second ++ third) ∙ ap (λ xs. a ++ xs) (placed-append entry_read at 16 n1 second third) in
    let split = ap (steps (name_step strings) start) shape ∙ steps-append (name_step strings) start a (b ++ c) in
    let later = λ (x : NamesView). steps (name_step strings) x (b ++ c) in
    let last = λ (x : NamesView). steps (name_step strings) x c in
    refused-is (steps (name_step strings) start (placed entry_read at 16 0 (first ++ (second ++ third)))) (steps (name_step strings) start a >>= later) split
    (⊎_elim (λ (yes : list_all is_taken needed ≡ true).
    let own_no : list_all is_taken (option_to_list own) ≡ false = rw yes at taken in
    refused-after (steps (name_step strings) start a) later some (needed-names strings at 0 needed [] None are yes)
    (refused-is (later some) (steps (name_step strings) some b >>= last) (steps-append (name_step strings) some b c)
    (refused-bind (steps (name_step strings) some b) last (own-not strings at n1 own some is own_no))))
    (λ (no : list_all is_taken needed ≡ false). refused-bind (steps (name_step strings) start a) later (needed-not strings at 0 needed [] None are no))
    (cases_Bool (list_all is_taken needed)))

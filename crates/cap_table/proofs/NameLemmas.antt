-- The names of the linked file, appended one after the other.
use Rattle.std.proofs.Common.{◌≡◌, ℕ, suc, ◌+◌, List, [], ◌∷◌, ◌++◌, length, take, drop, refl, sym, ap, ◌∙◌, append_assoc, length-append, arith}
use Rattle.std.proofs.lemmas.List.{append-nil}
use Rattle.std.proofs.Math.Seq.{take-append_seam, drop-append_seam}
use Rattle.cap_table.specs.Planned.{terminated, name_bytes}
use Rattle.cap_table.specs.Lists.{name_offsets}
use Rattle.cap_table.specs.NameTable.{NamesValue, with_name, with_names, null_name, behind}

pub names_bytes : (so_far : NamesValue) (names : List (List ℕ)) → (with_names so_far names).bytes ≡ so_far.bytes ++ terminated names
unfolding with_name
names_bytes so_far [] = sym (append-nil so_far.bytes)
names_bytes so_far (name ∷ names) =
    names_bytes (with_name so_far name) names
    ∙ append_assoc (so_far.bytes ++ name) (0 ∷ []) (terminated names)
    ∙ append_assoc so_far.bytes name (0 ∷ terminated names)
    ∙ ap (λ rest. so_far.bytes ++ rest) (sym (append_assoc name (0 ∷ []) (terminated names)))

pub names_offsets : (so_far : NamesValue) (names : List (List ℕ)) → (with_names so_far names).offsets ≡ so_far.offsets ++ name_offsets (length so_far.bytes) names
unfolding with_name
names_offsets so_far [] = sym (append-nil so_far.offsets)
names_offsets so_far (name ∷ names) =
    let end : length (so_far.bytes ++ name ++ 0 ∷ []) ≡ length so_far.bytes + length name + 1 = omega (arith, length-append (so_far.bytes ++ name) (0 ∷ []), length-append so_far.bytes name) in
    names_offsets (with_name so_far name) names
    ∙ append_assoc so_far.offsets (length so_far.bytes ∷ []) (name_offsets (length (so_far.bytes ++ name ++ 0 ∷ [])) names)
    ∙ ap (λ at. so_far.offsets ++ length so_far.bytes ∷ name_offsets at names) end

pub terminated-append : (names more : List (List ℕ)) → terminated (names ++ more) ≡ terminated names ++ terminated more
terminated-append [] more = refl
terminated-append (name ∷ names) more =
    ap (λ rest. name ++ 0 ∷ [] ++ rest) (terminated-append names more) ∙ sym (append_assoc (name ++ 0 ∷ []) (terminated names) (terminated more))

pub name_offsets-append : (at end : ℕ) (names more : List (List ℕ)) → end ≡ at + length (terminated names) → name_offsets at (names ++ more) ≡ name_offsets at names ++ name_offsets end more
name_offsets-append at end [] more e = ap (λ n. name_offsets n more) (omega (arith, e))
name_offsets-append at end (name ∷ names) more e =
    ap (λ rest. at ∷ rest) (name_offsets-append (at + length name + 1) end names more (omega (arith, e, length-append (name ++ 0 ∷ []) (terminated names), length-append name (0 ∷ []))))

pub length-name_offsets : (at : ℕ) (names : List (List ℕ)) → length (name_offsets at names) ≡ length names
length-name_offsets at [] = refl
length-name_offsets at (name ∷ names) = ap suc (length-name_offsets (at + length name + 1) names)

pub all_bytes : (symbols own : List (List ℕ)) → (with_names (behind (with_names null_name symbols).bytes) own).bytes ≡ name_bytes (symbols ++ own)
all_bytes symbols own =
    names_bytes (behind (with_names null_name symbols).bytes) own
    ∙ ap (λ bytes. bytes ++ terminated own) (names_bytes null_name symbols)
    ∙ ap (λ bytes. 0 ∷ bytes) (sym (terminated-append symbols own))

pub symbol_offsets : (symbols own : List (List ℕ)) (n : ℕ) → n ≡ length symbols → (with_names null_name symbols).offsets ≡ 0 ∷ take n (name_offsets 1 (symbols ++ own))
symbol_offsets symbols own n e =
    let first = name_offsets 1 symbols in
    let split = name_offsets-append 1 (1 + length (terminated symbols)) symbols own refl in
    let count : length first ≡ n = omega (arith, e, length-name_offsets 1 symbols) in
    names_offsets null_name symbols
    ∙ ap (λ offsets. 0 ∷ offsets) (sym (ap (take n) split ∙ ap (λ m. take m (first ++ name_offsets (1 + length (terminated symbols)) own)) (sym count) ∙ take-append_seam first (name_offsets (1 + length (terminated symbols)) own)))

pub own_offsets : (symbols own : List (List ℕ)) (n : ℕ) → n ≡ length symbols → (with_names (behind (with_names null_name symbols).bytes) own).offsets ≡ drop n (name_offsets 1 (symbols ++ own))
own_offsets symbols own n e =
    let first = name_offsets 1 symbols in
    let end : length (with_names null_name symbols).bytes ≡ 1 + length (terminated symbols) = ap length (names_bytes null_name symbols) ∙ length-append (0 ∷ []) (terminated symbols) in
    let split = name_offsets-append 1 (1 + length (terminated symbols)) symbols own refl in
    let count : length first ≡ n = omega (arith, e, length-name_offsets 1 symbols) in
    names_offsets (behind (with_names null_name symbols).bytes) own
    ∙ ap (λ at. name_offsets at own) end
    ∙ sym (ap (drop n) split ∙ ap (λ m. drop m (first ++ name_offsets (1 + length (terminated symbols)) own)) (sym count) ∙ drop-append_seam first (name_offsets (1 + length (terminated symbols)) own))

pub own_count : (bytes : List ℕ) (own : List (List ℕ)) → length (with_names (behind bytes) own).offsets ≡ length own
own_count bytes own = ap length (names_offsets (behind bytes) own) ∙ length-name_offsets (length bytes) own

-- The dynamic table of the link is the plan's.
use Rattle.std.proofs.Common.{◌≡◌, ℕ, ◌+◌, ◌*◌, Bool, true, false, not, List, [], ◌∷◌, ◌++◌, length, map, take, drop, Option, Some, None, refl, ap, ◌∙◌, arith, append_assoc}
use Rattle.std.specs.Prelude.{◌==◌, option_to_list}
use Rattle.std.proofs.lemmas.List.{drop_at}
use Rattle.cap_layout.specs.declared.parts.Parts.{Parts}
use Rattle.cap_table.specs.declared.records.DynEntry.{DynEntry}
use Rattle.cap_table.specs.Planned.{Planned, table_tags, tags_of}
use Rattle.cap_table.specs.Lists.{name_offsets, tag_value, tag_entry, entries_with}
use Rattle.cap_readback.specs.Lists.{Entry, Values, table_entries, needed_entries, own_entries}
use Rattle.cap_readback.specs.Content.{names_from}
use Rattle.cap_readback.specs.View.{own_offset, has_some, strings, values, dynamics}
use Rattle.cap_link.specs.Linked.{Linked}
use Rattle.cap_link.specs.Content.{own_from, named_symbols, names_of_symbols, own_at, needed_at, string_names, content_of}
use Rattle.cap_link.proofs.Made.{AreListed, AreSized}
use Rattle.cap_link.proofs.Naming.{offsets-behind, offsets-length, terminated-is}
use Rattle.cap_link.proofs.Viewing.{length-texts}

abbrev pub pair_of : DynEntry → Entry
pair_of e = (e.tag, e.value)

abbrev pub planned_values : Planned → Parts → Values
planned_values plan at = record {
  hash = at.hash_at;
  strings = at.names_at;
  symbols = at.symbols_at;
  strings_size = plan.sizes.names;
  relas = at.relas_at;
  relas_size = 24 * plan.sizes.relas;
  caps = at.cap_relocs_at;
  caps_size = 40 * plan.sizes.cap_relocs;
  init = at.init_at;
  init_size = at.init_size;
  fini = at.fini_at;
  fini_size = at.fini_size;
}

tags-are : (plan : Planned) (at : Parts) (a b c d : Bool) → map pair_of (map (tag_entry plan at) (table_tags a b c d)) ≡ table_entries a b c d (planned_values plan at) ++ (0, 0) ∷ []
unfolding tag_value
tags-are plan at true true true true = refl
tags-are plan at true true true false = refl
tags-are plan at true true false true = refl
tags-are plan at true true false false = refl
tags-are plan at true false true true = refl
tags-are plan at true false true false = refl
tags-are plan at true false false true = refl
tags-are plan at true false false false = refl
tags-are plan at false true true true = refl
tags-are plan at false true true false = refl
tags-are plan at false true false true = refl
tags-are plan at false true false false = refl
tags-are plan at false false true true = refl
tags-are plan at false false true false = refl
tags-are plan at false false false true = refl
tags-are plan at false false false false = refl

more-is : (n m : ℕ) → n ≡ m + 1 → not (n == 0) ≡ true
more-is n m h = grind arith

some-is : {X : Type 0} (n : ℕ) (xs : List X) → n ≡ length xs → not (n == 0) ≡ has_some xs
some-is n [] h = let e : n ≡ 0 = omega (arith, h) in ap (λ k. not (k == 0)) e
some-is n (x ∷ xs) h = more-is n (length xs) (omega (arith, h))

map-append : {X Y : Type 0} (f : X → Y) (xs ys : List X) → map f (xs ++ ys) ≡ map f xs ++ map f ys
map-append f [] ys = refl
map-append f (x ∷ xs) ys = ap (λ r. f x ∷ r) (map-append f xs ys)

needed-pairs : (at : ℕ) (names : List (List ℕ)) → map pair_of (entries_with 1 (name_offsets at names)) ≡ needed_entries (map (λ n. n.0) (names_from at names))
needed-pairs at [] = refl
needed-pairs at (name ∷ names) = ap (λ (r : List Entry). (1, at) ∷ r) (needed-pairs (at + length name + 1) names)

-- the offsets of the own name and of the needed names
own-front : (at : ℕ) (own : Option (List ℕ)) (rest : List ℕ) → map pair_of (entries_with 14 (take (length (option_to_list own)) (name_offsets at (option_to_list own) ++ rest))) ≡ own_entries (own_offset (own_from at own))
own-front at None rest = refl
own-front at (Some name) rest = refl

own-back : (at : ℕ) (own : Option (List ℕ)) (rest : List ℕ) → drop (length (option_to_list own)) (name_offsets at (option_to_list own) ++ rest) ≡ rest
own-back at None rest = refl
own-back at (Some name) rest = refl

pub strings-long : (l : Linked) → AreSized l → l.lists.plan.sizes.names ≡ length (strings (content_of l))
unfolding content_of
strings-long l h = h.names ∙ ap (λ (bytes : List ℕ). length (0 ∷ bytes)) (terminated-is (string_names l))

three-nested : {a b c a2 b2 : List Entry} (c2 : List Entry) (d : Entry) → a ≡ a2 → b ≡ b2 → c ≡ c2 ++ d ∷ [] → (a ++ b) ++ c ≡ (a2 ++ (b2 ++ c2)) ++ d ∷ []
three-nested {a2 = a2} {b2 = b2} c2 d x y z =
    let e : (a2 ++ b2) ++ (c2 ++ d ∷ []) ≡ (a2 ++ (b2 ++ c2)) ++ d ∷ [] = simp append_assoc refl in
    rw (x, y, z) e

pub dynamics-are : (l : Linked) → AreListed l → AreSized l → map pair_of l.lists.dynamics ≡ dynamics (content_of l)
unfolding content_of
dynamics-are l h s =
    let plan = l.lists.plan in
    let at = l.laid.parts in
    let own = option_to_list plan.soname in
    let texts = names_of_symbols (named_symbols l) in
    let behind = name_offsets (own_at l) own ++ name_offsets (needed_at l) plan.needed in
    let whole : name_offsets 1 (string_names l) ≡ name_offsets 1 texts ++ behind =
    offsets-behind 1 texts (own ++ plan.needed) ∙ ap (λ (r : List ℕ). name_offsets 1 texts ++ r) (offsets-behind (own_at l) own plan.needed) in
    let front : length (name_offsets 1 texts) ≡ length plan.symbols = omega (arith, offsets-length 1 texts, length-texts (named_symbols l), h.rows) in
    let rest : drop (length plan.symbols) (name_offsets 1 (string_names l)) ≡ behind =
    ap (drop (length plan.symbols)) whole ∙ drop_at (name_offsets 1 texts) behind (length plan.symbols) front in
    let needed : map pair_of (entries_with 1 (drop (length own) (drop (length plan.symbols) (name_offsets 1 (string_names l))))) ≡ needed_entries (map (λ n. n.0) (names_from (needed_at l) plan.needed)) =
    ap (λ (r : List ℕ). map pair_of (entries_with 1 (drop (length own) r))) rest
    ∙ ap (λ (r : List ℕ). map pair_of (entries_with 1 r)) (own-back (own_at l) plan.soname (name_offsets (needed_at l) plan.needed))
    ∙ needed-pairs (needed_at l) plan.needed in
    let named : map pair_of (entries_with 14 (take (length own) (drop (length plan.symbols) (name_offsets 1 (string_names l))))) ≡ own_entries (own_offset (own_from (own_at l) plan.soname)) =
    ap (λ (r : List ℕ). map pair_of (entries_with 14 (take (length own) r))) rest
    ∙ own-front (own_at l) plan.soname (name_offsets (needed_at l) plan.needed) in
    let relas : not (plan.sizes.relas == 0) ≡ has_some l.lists.relas = some-is plan.sizes.relas l.lists.relas s.relas in
    let caps : not (plan.sizes.cap_relocs == 0) ≡ has_some l.lists.cap_relocs = some-is plan.sizes.cap_relocs l.lists.cap_relocs s.cap_relocs in
    let vs : planned_values plan at ≡ values (content_of l) =
    let n = strings-long l s in let r = s.relas in let c = s.cap_relocs in rw (n, r, c) refl in
    let tags : map pair_of (map (tag_entry plan at) (tags_of plan)) ≡ table_entries (has_some l.lists.relas) (has_some l.lists.cap_relocs) plan.has_init plan.has_fini (values (content_of l)) ++ (0, 0) ∷ [] =
    tags-are plan at (not (plan.sizes.relas == 0)) (not (plan.sizes.cap_relocs == 0)) plan.has_init plan.has_fini
    ∙ ap (λ (b : Bool). table_entries b (not (plan.sizes.cap_relocs == 0)) plan.has_init plan.has_fini (planned_values plan at) ++ (0, 0) ∷ []) relas
    ∙ ap (λ (b : Bool). table_entries (has_some l.lists.relas) b plan.has_init plan.has_fini (planned_values plan at) ++ (0, 0) ∷ []) caps
    ∙ ap (λ (v : Values). table_entries (has_some l.lists.relas) (has_some l.lists.cap_relocs) plan.has_init plan.has_fini v ++ (0, 0) ∷ []) vs in
    let a = entries_with 1 (drop (length own) (drop (length plan.symbols) (name_offsets 1 (string_names l)))) in
    let b = entries_with 14 (take (length own) (drop (length plan.symbols) (name_offsets 1 (string_names l)))) in
    let c = map (tag_entry plan at) (tags_of plan) in
    ap (map pair_of) h.dynamics ∙ map-append pair_of (a ++ b) c ∙ ap (λ (r : List Entry). r ++ map pair_of c) (map-append pair_of a b)
    ∙ three-nested (table_entries (has_some l.lists.relas) (has_some l.lists.cap_relocs) plan.has_init plan.has_fini (values (content_of l))) (0, 0) needed named tags

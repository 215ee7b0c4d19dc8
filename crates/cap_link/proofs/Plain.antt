-- A link is plain where its plan is, and its hash table is sound.
use Rattle.std.proofs.Common.{◌≡◌, ℕ, ◌+◌, ◌%◌, ◌≤◌, Bool, true, false, List, [], ◌∷◌, ◌++◌, length, map, refl, sym, ap, ◌∙◌, subst, arith, Option, Some, None}
use Rattle.std.specs.Prelude.{zip, option_to_list, nat_le, ◌&&◌, ◌==◌}
use Rattle.std.specs.List.{list_all, list_any, enumerate_from, AllByRecursion}
use Rattle.std.proofs.lemmas.List.Folds.{list_all-append}
use Rattle.cap_chain.specs.Adopted.{is_sound}
use Rattle.cap_names.specs.Named.{Named as ChainNamed}
use Rattle.cap_chain.specs.Laws.{BuiltAreSound}
use Rattle.cap_chain.specs.Words.{built_words}
use Rattle.cap_elf.specs.Names.{is_file_name}
use Rattle.cap_syms.specs.Resolved.{can_be_chosen}
use Rattle.cap_table.specs.Lists.{DynSymbolValue, null_dyn_symbol}
use Rattle.cap_readback.specs.Content.{names_from, is_taken}
use Rattle.cap_readback.specs.Law.{IsWord}
use Rattle.cap_readback.specs.View.{is_whole}
use Rattle.cap_readback.specs.View.{is_plain as is_plain_content}
use Rattle.cap_link.specs.Laws.{offered_names}
use Rattle.cap_link.specs.Linked.{Linked}
use Rattle.cap_link.specs.View.{linked_view, symbol_read, is_library_name, is_plain}
use Rattle.cap_link.specs.Content.{names_of_symbols, named_symbols, own_from, own_at, needed_at, content_of}
use Rattle.cap_link.proofs.Made.{AreListed, IsLaidOut}
use Rattle.cap_link.proofs.Viewing.{no-init, no-fini}

-- ---- names
taken-names : (at : ℕ) (names : List (List ℕ)) → list_all is_taken (names_from at names) ≡ list_all is_file_name names
taken-names at [] = refl
taken-names at (name ∷ names) = ap (λ (b : Bool). is_file_name name && b) (taken-names (at + length name + 1) names)

taken-own : (at : ℕ) (own : Option (List ℕ)) → list_all is_taken (option_to_list (own_from at own)) ≡ list_all is_file_name (option_to_list own)
taken-own at None = refl
taken-own at (Some name) = refl

abbrev pub IsShort : List ℕ → Type 0
IsShort name = length name ≤ 255

and-true : (b : Bool) → (b && true) ≡ b
and-true true = refl
and-true false = refl

short-is : (n : ℕ) → n ≤ 255 → nat_le n 255 ≡ true
short-is n h = grind arith

library-name : (name : List ℕ) → IsShort name → is_library_name name ≡ is_file_name name
library-name name h = ap (λ (b : Bool). is_file_name name && b) (short-is (length name) h) ∙ and-true (is_file_name name)

two-and : {a b c d : Bool} → a ≡ b → c ≡ d → (a && c) ≡ (b && d)
two-and x y = cc

library-names : (names : List (List ℕ)) → AllByRecursion IsShort names → list_all is_library_name names ≡ list_all is_file_name names
library-names [] h = refl
library-names (name ∷ names) h = two-and (library-name name h.0) (library-names names h.1)

whole-is : (has : Bool) (size : ℕ) → (has ≡ false → size ≡ 0) → is_whole has size ≡ (size % 16 == 0)
whole-is true size h = refl
whole-is false size h = let e : size ≡ 0 = h refl in ap (λ (k : ℕ). k % 16 == 0) (sym e)

bool-order : (n o i f : Bool) → (n && (o && (i && f))) ≡ ((i && f) && (n && o))
bool-order true true true true = refl
bool-order true true true false = refl
bool-order true true false true = refl
bool-order true true false false = refl
bool-order true false true true = refl
bool-order true false true false = refl
bool-order true false false true = refl
bool-order true false false false = refl
bool-order false true true true = refl
bool-order false true true false = refl
bool-order false true false true = refl
bool-order false true false false = refl
bool-order false false true true = refl
bool-order false false true false = refl
bool-order false false false true = refl
bool-order false false false false = refl

pub plain-is : (l : Linked) → IsLaidOut l → AllByRecursion IsShort (l.lists.plan.needed ++ option_to_list l.lists.plan.soname) → is_plain_content (content_of l) ≡ is_plain l
unfolding content_of
plain-is l laid short =
    let plan = l.lists.plan in
    let needed = list_all is_file_name plan.needed in
    let own = list_all is_file_name (option_to_list plan.soname) in
    let a : list_all is_taken (names_from (needed_at l) plan.needed) ≡ needed = taken-names (needed_at l) plan.needed in
    let b : list_all is_taken (option_to_list (own_from (own_at l) plan.soname)) ≡ own = taken-own (own_at l) plan.soname in
    let c : is_whole plan.has_init l.laid.parts.init_size ≡ (l.laid.parts.init_size % 16 == 0) = whole-is plan.has_init l.laid.parts.init_size (no-init l laid) in
    let d : is_whole plan.has_fini l.laid.parts.fini_size ≡ (l.laid.parts.fini_size % 16 == 0) = whole-is plan.has_fini l.laid.parts.fini_size (no-fini l laid) in
    let e : list_all is_library_name (plan.needed ++ option_to_list plan.soname) ≡ (needed && own) =
    library-names (plan.needed ++ option_to_list plan.soname) short ∙ list_all-append is_file_name plan.needed (option_to_list plan.soname) in
    two-and a (two-and b (two-and c d)) ∙ bool-order needed own (l.laid.parts.init_size % 16 == 0) (l.laid.parts.fini_size % 16 == 0)
    ∙ ap (λ (x : Bool). ((l.laid.parts.init_size % 16 == 0) && (l.laid.parts.fini_size % 16 == 0)) && x) (sym e)

-- ---- words
pub record IsGoodName (name : List ℕ) : Type 0 where
  pub no_zero : list_any (λ b. b == 0) name ≡ false
  pub short : length name ≤ 255

pub words-from : (at : ℕ) (names : List (List ℕ)) → AllByRecursion IsGoodName names → AllByRecursion IsWord (names_from at names)
words-from at [] h = tt
words-from at (name ∷ names) h = (record { no_zero = h.0.no_zero; short = h.0.short }, words-from (at + length name + 1) names h.1)

pub own-word : (at : ℕ) (own : Option (List ℕ)) → AllByRecursion IsGoodName (option_to_list own) → AllByRecursion IsWord (option_to_list (own_from at own))
own-word at None h = tt
own-word at (Some name) h = (record { no_zero = h.0.no_zero; short = h.0.short }, tt)

-- ---- the hash table
abbrev pub offered : ℕ → ℕ → List DynSymbolValue → List ChainNamed
offered at n ss = map (λ p. (p.0, can_be_chosen p.1)) (zip (names_of_symbols ss) (map (symbol_read at) (enumerate_from n ss)))

offered-texts : (at n : ℕ) (ss : List DynSymbolValue) → map (λ p. p.0) (offered at n ss) ≡ names_of_symbols ss
offered-texts at n [] = refl
offered-texts at n (s ∷ ss) = ap (λ (r : List (List ℕ)). s.name ∷ r) (offered-texts at (n + 1) ss)

sound-of : BuiltAreSound → (at : ℕ) (ss xs : List DynSymbolValue) → xs ≡ null_dyn_symbol ∷ ss → is_sound (built_words (names_of_symbols xs)) (offered at 0 xs) ≡ true
sound-of built at ss xs e =
    let whole : List DynSymbolValue = null_dyn_symbol ∷ ss in
    let names = offered at 0 whole in
    let some : 1 ≤ length names = omega arith in
    let one : is_sound (built_words (map (λ p. p.0) names)) names ≡ true = built.sound names some refl in
    let two : is_sound (built_words (names_of_symbols whole)) names ≡ true = subst (λ (texts : List (List ℕ)). is_sound (built_words texts) names ≡ true) (offered-texts at 0 whole) one in
    subst (λ (ys : List DynSymbolValue). is_sound (built_words (names_of_symbols ys)) (offered at 0 ys) ≡ true) (sym e) two

pub sound-is : BuiltAreSound → (l : Linked) → AreListed l → is_sound (linked_view l).hash_words (offered_names (linked_view l)) ≡ true
unfolding linked_view
sound-is built l h = sound-of built l.laid.parts.symbols_at (named_symbols l) l.lists.symbols h.symbols

-- The names of symbols, each with whether its symbol is exported.
use Rattle.std.proofs.Common.{◌≡◌, ℕ, ◌+◌, ◌<◌, Bool, false, List, [], ◌∷◌, ◌++◌, length, get_or, map, refl, sym, subst, ap, ◌∙◌, length-append}
use Rattle.std.proofs.lemmas.List.{length-map, map-append, get_or-map}
use Rattle.cap_names.specs.Named.{Named, AreDistinct}
use Rattle.cap_names.specs.declared.hashing.NameHash.TheVariants.{SystemV}
use Rattle.cap_elf.specs.declared.records.Symbol.{Symbol}
use Rattle.cap_elf.specs.Named.{NamedSymbol, named_by}
use Rattle.cap_elf.specs.Exported.{is_exported, exported_list}
use Rattle.cap_elf.specs.Flagged.{flagged, texts, flagged_by, AreFlagged, AreIndexed}
use Rattle.cap_elf.proofs.ByName as by_name

text_count : (symbols : List Symbol) (names : List Named) → length names ≡ length symbols → length (texts names) ≡ length symbols
text_count symbols names count = length-map names (λ p. p.0) ∙ count

-- no symbols
pub none_flagged : AreFlagged [] []
unfolding named_by
none_flagged = record { count = refl; flags = refl }

-- one more of each
pub named_push : (symbols : List Symbol) (names : List Named) (s : Symbol) (n : List ℕ) (flag : Bool) → AreFlagged symbols names
    → flagged_by (symbols ++ s ∷ []) (names ++ (n, flag) ∷ []) ≡ flagged_by symbols names ++ record { symbol = s; name = n } ∷ []
named_push symbols names s n flag are =
    ap (named_by (symbols ++ s ∷ [])) (map-append (λ (p : Named). p.0) names ((n, flag) ∷ []))
    ∙ by_name.named_push symbols (texts names) s n (text_count symbols names are.count)

flagged_more : (symbols : List Symbol) (names : List Named) (s : Symbol) (n : List ℕ) → AreFlagged symbols names → AreFlagged (symbols ++ s ∷ []) (names ++ (n, is_exported s) ∷ [])
flagged_more symbols names s n are =
    let one : NamedSymbol = record { symbol = s; name = n } in
    let old = flagged_by symbols names in
    record {
      count = length-append names ((n, is_exported s) ∷ []) ∙ ap (λ (k : ℕ). k + 1) are.count ∙ sym (length-append symbols (s ∷ []));
      flags = ap (λ (l : List Named). l ++ (n, is_exported s) ∷ []) are.flags ∙ sym (map-append (λ (m : NamedSymbol). let p : Named = (m.name, is_exported m.symbol) in p) old (one ∷ []))
          ∙ ap flagged (sym (named_push symbols names s n (is_exported s) are));
    }

pub flags_push : (symbols more_symbols : List Symbol) (names more_names : List Named) (s : Symbol) (n : List ℕ) (flag : Bool) → AreFlagged symbols names → flag ≡ is_exported s
    → more_symbols ≡ symbols ++ s ∷ [] → more_names ≡ names ++ (n, flag) ∷ [] → AreFlagged more_symbols more_names
flags_push symbols more_symbols names more_names s n flag are is one two =
    let more : more_names ≡ names ++ (n, is_exported s) ∷ [] = two ∙ ap (λ (b : Bool). names ++ (n, b) ∷ []) is in
    subst (λ (l : List Symbol). AreFlagged l more_names) (sym one) (subst (AreFlagged (symbols ++ s ∷ [])) (sym more) (flagged_more symbols names s n are))

-- the symbols among them
pub symbols_by : (symbols : List Symbol) (names : List Named) → AreFlagged symbols names → map (λ n. n.symbol) (flagged_by symbols names) ≡ symbols
symbols_by symbols names are = by_name.symbols_by symbols (texts names) (text_count symbols names are.count)

pub count_by : (symbols : List Symbol) (names : List Named) → AreFlagged symbols names → length (flagged_by symbols names) ≡ length names
count_by symbols names are = sym (length-map (flagged_by symbols names) (λ n. n.symbol)) ∙ ap length (symbols_by symbols names are) ∙ sym are.count

-- the name of an index among them
pub name_by : (symbols : List Symbol) (names : List Named) (i : ℕ) → AreFlagged symbols names → i < length names → get_or (map (λ n. n.name) (flagged_by symbols names)) i [] ≡ (get_or names i ([], false)).0
name_by symbols names i are lt =
    ap (λ (l : List (List ℕ)). get_or l i []) (by_name.names_by symbols (texts names) (text_count symbols names are.count))
    ∙ get_or-map (λ (p : Named). p.0) names i ([], false) [] lt

-- symbols that were taken apart
again : (named : List NamedSymbol) → flagged_by (map (λ n. n.symbol) named) (flagged named) ≡ named
unfolding named_by
again [] = refl
again (n ∷ ns) = ap (λ (l : List NamedSymbol). n ∷ l) (again ns)

pub taken_again : (named : List NamedSymbol) (symbols : List Symbol) (names : List Named) → symbols ≡ map (λ n. n.symbol) named → names ≡ flagged named → flagged_by symbols names ≡ named
taken_again named symbols names one two = ap (λ (l : List Symbol). flagged_by l names) one ∙ ap (flagged_by (map (λ n. n.symbol) named)) two ∙ again named

pub indexed : (named : List NamedSymbol) (symbols : List Symbol) (names : List Named) → symbols ≡ map (λ n. n.symbol) named → names ≡ flagged named → AreDistinct names → AreIndexed symbols SystemV names
indexed named symbols names one two apart = record {
  flagged = record {
    count = ap length two ∙ length-map named (λ n. let p : Named = (n.name, is_exported n.symbol) in p) ∙ sym (ap length one ∙ length-map named (λ n. n.symbol));
    flags = two ∙ ap flagged (sym (taken_again named symbols names one two));
  };
  rule = refl;
  distinct = apart;
}

-- the same list, from the symbols and their names
pub exported_by : (named : List NamedSymbol) → exported_list (map (λ n. n.symbol) named) (map (λ n. n.name) named) ≡ flagged named
exported_by [] = refl
exported_by (n ∷ ns) = ap (λ (l : List Named). (n.name, is_exported n.symbol) ∷ l) (exported_by ns)

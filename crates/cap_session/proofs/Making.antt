-- What makes a session.
use Rattle.std.proofs.Common.{◌≡◌, ℕ, suc, zero, ◌+◌, ◌<◌, ◌≤◌, ◌-◌, min, Bool, true, false, List, [], ◌∷◌, ◌++◌, length, get_or, take, drop, refl, ap, sym, ◌∙◌, subst, append-nil, arith}
use Rattle.std.specs.Prelude.{◌==◌, nat_lt, if◌then◌else◌, All, Option, Some, None, IsSomeAnd, slice_get, slice_index_or, map, zip}
use Rattle.std.proofs.lemmas.List.{length-map, get_or-map, take-append-drop}
use Rattle.std.proofs.lemmas.List.Elements.{All-nil, All-cons, All-head, All-tail, All-append, All-get_or, All-push, All-weaker}
use Rattle.std.proofs.lemmas.Bool.{ltb-true, ltb-false, eqb-true, eqb-false}
use Rattle.std.proofs.lemmas.Slice.Zip.{length-zip}
use Rattle.cap_elf.specs.DynView.{DynRecords}
use Rattle.cap_elf.specs.IsRead.{IsRead, IsShort}
use Rattle.cap_elf.specs.declared.records.Symbol.{Symbol}
use Rattle.cap_mem.specs.Tagged.{TaggedMemory, TaggedWord}
use Rattle.cap_own.specs.Cap.{Mapping, Narrowed}
use Rattle.cap_scope.specs.Candidates.{NamedSymbol, defined_name, hash_table}
use Rattle.cap_scope.specs.Chosen.{object_at, no_records}
use Rattle.cap_scope.specs.declared.choice.Rule.{Rule}
use Rattle.cap_session.specs.declared.refusal.Mode.{Mode}
use Rattle.cap_session.specs.declared.scope.LookUp.{LookUp}
use Rattle.cap_session.specs.Binding.{HasOwned, StaysBelow}
use Rattle.cap_session.specs.Entering.{opening_in, start_between}
use Rattle.cap_session.specs.Kept.{session_with}
use Rattle.cap_session.specs.Mappings.{IsMappingOf}
use Rattle.cap_session.specs.Roster.{RosterValue, Extends, IsRoster, IsClosed, cut_to, records_in}
use Rattle.cap_session.specs.Scope.{Opening}
use Rattle.cap_session.specs.Session.{SessionValue, Grows, IsSession, HasOwners, AscendFrom}
use Rattle.cap_session.proofs.Memories.{zip-length}
use Rattle.cap_session.proofs.Trees.{deps-below, opening-below}
use Rattle.cap_session.proofs.Undoing.{all-owned, all-read, cut_memories, owned-same}

pub some-below : {X : Type 0} (xs : List X) (i : ℕ) (P : X → Type 0) → IsSomeAnd (slice_get xs i) P → i < length xs
some-below [] i P h = absurd h
some-below (x ∷ xs) zero P h = omega arith
some-below (x ∷ xs) (suc i) P h = let less = some-below xs i P h in omega (arith, less)

table-length : (o : DynRecords) → IsRead o → length (hash_table o).names ≡ length o.symbols
table-length o h =
    let count = length-map (zip o.symbols o.names) defined_name in
    let both = length-zip o.symbols o.names in
    omega (arith, count, both, h.name_count)

counts : (rs : List DynRecords) → All IsRead rs → map (λ of. length of) (map (λ o. (hash_table o).names) rs) ≡ map (λ o. length o.symbols) rs
counts [] h = refl
counts (o ∷ rs) h =
    ap (λ (n : ℕ). n ∷ map (λ of. length of) (map (λ o. (hash_table o).names) rs)) (table-length o (All-head IsRead o rs h))
    ∙ ap (λ (ns : List ℕ). length o.symbols ∷ ns) (counts rs (All-tail IsRead o rs h))

short-names : (symbols : List Symbol) (names : List (List ℕ)) → All IsShort names → All (λ n. IsShort n.0) (map defined_name (zip symbols names))
short-names [] names h = All-nil (λ (n : List ℕ × Bool). IsShort n.0)
short-names (s ∷ symbols) [] h = All-nil (λ (n : List ℕ × Bool). IsShort n.0)
short-names (s ∷ symbols) (name ∷ names) h =
    All-cons (λ (n : List ℕ × Bool). IsShort n.0) (defined_name (s, name)) (map defined_name (zip symbols names)) (All-head IsShort name names h) (short-names symbols names (All-tail IsShort name names h))

all-short : (rs : List DynRecords) → All IsRead rs → All (λ of. All (λ n. IsShort n.0) of) (map (λ o. (hash_table o).names) rs)
all-short [] h = All-nil (λ (of : List (List ℕ × Bool)). All (λ n. IsShort n.0) of)
all-short (o ∷ rs) h =
    All-cons (λ (of : List (List ℕ × Bool)). All (λ n. IsShort n.0) of) (hash_table o).names (map (λ o. (hash_table o).names) rs)
    (short-names o.symbols o.names (All-head IsRead o rs h).names_are) (all-short rs (All-tail IsRead o rs h))

symbols-at : (rs : List DynRecords) (i : ℕ) → All IsRead rs → i < length rs → length (get_or (map (λ o. (hash_table o).names) rs) i []) ≡ length (object_at rs i).symbols
symbols-at rs i h lt =
    ap (λ (names : List (List ℕ × Bool)). length names) (get_or-map (λ o. (hash_table o).names) rs i no_records [] lt)
    ∙ table-length (object_at rs i) (All-get_or IsRead rs i no_records lt h)

root-count : (r : RosterValue) → IsRoster r → length r.roots ≡ length r.objects
root-count r h = sym (zip-length IsMappingOf (map (λ o. o.records) r.objects) r.roots h.mappings_are) ∙ length-map r.objects (λ o. o.records)

has-owners : (r : RosterValue) → IsRoster r → All IsRead (records_in r) → (m : TaggedMemory) → HasOwned r m → HasOwners r.symbols m
has-owners r h read m owned =
    let records = length-map r.objects (λ o. o.records) in
    let names = length-map (records_in r) (λ o. (hash_table o).names) in
    let symbols = ap (λ (of : List (List (List ℕ × Bool))). length of) h.symbols_are in
    let roots = root-count r h in
    record {
      owners = λ k d lt.
          (let w : TaggedWord = slice_index_or m.words k d in
          let below = some-below r.roots w.cap.owner (λ root. Narrowed root w.cap) (owned.narrowed k d lt) in
          omega (arith, below, roots, records, names, symbols));
      notes = λ k d lt.
          (let w : TaggedWord = slice_index_or m.words k d in
          let below = some-below r.roots w.cap.owner (λ root. Narrowed root w.cap) (owned.narrowed k d lt) in
          let in' : w.cap.owner < length (records_in r) = omega (arith, below, roots, records) in
          let same = ap (λ (of : List (List (List ℕ × Bool))). length (slice_index_or of w.cap.owner [])) h.symbols_are ∙ symbols-at (records_in r) w.cap.owner read in' in
          omega (arith, same, owned.noted k d lt));
    }

pub made_session : (roster : RosterValue) (look_up : LookUp) (starts rest : List ℕ) → IsRoster roster → IsClosed roster → 0 < length roster.objects
    → All (λ o. All (λ i. i < length roster.objects) o.tree) look_up.openings.items → All IsRead (records_in roster) → All (HasOwned roster) roster.memories
    → starts ≡ 0 ∷ rest → AscendFrom 1 rest (length roster.objects) → 0 < look_up.start_count → look_up.start_count ≤ length roster.objects
    → IsSession (session_with roster look_up starts)
made_session r look_up starts rest h closed some trees read owned begins ascend start_some start_few = record {
  some = some;
  roster = h;
  closed = closed;
  deps_are = deps-below r h;
  trees_are = trees;
  read = read;
  symbol_counts = ap (map (λ (of : List (List ℕ × Bool)). length of)) h.symbols_are ∙ counts (records_in r) read;
  symbol_names = subst (λ (of : List (List (List ℕ × Bool))). All (λ ns. All (λ n. IsShort n.0) ns) of) (sym h.symbols_are) (all-short (records_in r) read);
  owned = owned;
  owners = All-weaker (HasOwned r) (HasOwners r.symbols) (has-owners r h read) r.memories owned;
  starts_are = (rest, begins, ascend);
  start_some = start_some;
  start_few = start_few;
}

ascend-weaker : (from : ℕ) (ns : List ℕ) (n m : ℕ) → AscendFrom from ns n → n ≤ m → AscendFrom from ns m
ascend-weaker from [] n m h le = omega arith
ascend-weaker from (k ∷ ns) n m h le = (h.0, ascend-weaker (k + 1) ns n m h.1 le)

ascend-push : (from : ℕ) (ns : List ℕ) (n m : ℕ) → AscendFrom from ns n → n < m → AscendFrom from (ns ++ n ∷ []) m
ascend-push from [] n m h lt = (h, let le : n + 1 ≤ m = omega arith in le)
ascend-push from (k ∷ ns) n m h lt = (h.0, ascend-push (k + 1) ns n m h.1 lt)

ascend-more : (b : Bool) (from : ℕ) (ns : List ℕ) (n m : ℕ) → (b ≡ true → n < m) → AscendFrom from ns n → n ≤ m → AscendFrom from (ns ++ (if b then n ∷ [] else [])) m
ascend-more true from ns n m lt h le = ascend-push from ns n m h (lt refl)
ascend-more false from ns n m lt h le = rw append-nil (ascend-weaker from ns n m h le)

pub trees-weaker : (n m : ℕ) → n ≤ m → (openings : List Opening) → All (λ o. All (λ i. i < n) o.tree) openings → All (λ o. All (λ i. i < m) o.tree) openings
trees-weaker n m le openings h =
    All-weaker (λ (o : Opening). All (λ i. i < n) o.tree) (λ (o : Opening). All (λ i. i < m) o.tree)
    (λ o below. All-weaker (λ (i : ℕ). i < n) (λ (i : ℕ). i < m) (λ i lt. omega (arith, lt, le)) o.tree below) openings h

-- a session after a start
pub made_start : (grown now : RosterValue) (look_up : LookUp) → IsRoster now → IsClosed grown → StaysBelow 0 grown now → 0 < length grown.objects → look_up.start_count ≡ length grown.objects → look_up.openings.items ≡ []
    → All (HasOwned grown) now.memories → All IsRead (records_in grown) → IsSession (session_with now look_up (0 ∷ []))
made_start grown now look_up h closed stays some count none owned read =
    let objects = ap (λ (r : RosterValue). length r.objects) stays.rest in
    let some' : 0 < length now.objects = omega (arith, some, objects) in
    let low : 1 ≤ length now.objects = some' in
    let start : 0 < look_up.start_count = omega (arith, some, count) in
    let few : look_up.start_count ≤ length now.objects = omega (arith, count, objects) in
    made_session now look_up (0 ∷ []) [] h (subst IsClosed (sym stays.rest) closed) some'
    (subst (λ (os : List Opening). All (λ o. All (λ i. i < length now.objects) o.tree) os) (sym none) (All-nil (λ (o : Opening). All (λ i. i < length now.objects) o.tree)))
    (subst (All IsRead) (sym (ap records_in stays.rest)) read)
    (All-weaker (HasOwned grown) (HasOwned now) (owned-same grown now now.memories stays.rest) now.memories owned)
    refl low start few

-- a session after a call
pub made_call : (old grown now : RosterValue) (look_up look_up' : LookUp) (starts starts' : List ℕ) (n : ℕ) (name : List ℕ) (mode : Mode)
    → IsSession (session_with old look_up starts) → IsRoster grown → IsClosed grown → IsRoster now → Extends old grown → n ≡ length old.objects → StaysBelow n grown now
    → look_up'.openings.items ≡ look_up.openings.items ++ opening_in grown name mode ∷ [] → look_up'.start_count ≡ look_up.start_count → starts' ≡ starts ++ start_between n (length grown.objects)
    → All (HasOwned grown) (drop n now.memories) → All IsRead (drop n (records_in grown)) → IsSession (session_with now look_up' starts')
made_call old grown now look_up look_up' starts starts' n name mode s g closed h ext e stays eo es est owned read =
    let objects = ap (λ (r : RosterValue). length r.objects) stays.rest in
    let some : 0 < length now.objects = omega (arith, s.some, ext.count, objects) in
    let some' : 0 < length grown.objects = omega (arith, s.some, ext.count) in
    let le : length old.objects ≤ length now.objects = omega (arith, ext.count, objects) in
    let tree = subst (λ (k : ℕ). All (λ i. i < k) (opening_in grown name mode).tree) (sym objects) (opening-below grown name g some') in
    let trees = All-push (λ (o : Opening). All (λ i. i < length now.objects) o.tree) look_up.openings.items (opening_in grown name mode) (trees-weaker (length old.objects) (length now.objects) le look_up.openings.items s.trees_are) tree in
    let rest = s.starts_are.0 ++ start_between n (length grown.objects) in
    let begins : starts' ≡ 0 ∷ rest = est ∙ ap (λ (ns : List ℕ). ns ++ start_between n (length grown.objects)) s.starts_are.1 in
    let old_ascend = subst (λ (k : ℕ). AscendFrom 1 s.starts_are.0 k) (sym e) s.starts_are.2 in
    let le' : n ≤ length grown.objects = omega (arith, e, ext.count) in
    let ascend = ascend-more (nat_lt n (length grown.objects)) 1 s.starts_are.0 n (length grown.objects) (λ t. ltb-true n (length grown.objects) t) old_ascend le' in
    let start : 0 < look_up'.start_count = omega (arith, s.start_some, es) in
    let few : look_up'.start_count ≤ length now.objects = omega (arith, s.start_few, es, le) in
    made_session now look_up' starts' rest h (subst IsClosed (sym stays.rest) closed) some
    (subst (λ (os : List Opening). All (λ o. All (λ i. i < length now.objects) o.tree) os) (sym eo) trees)
    (all-read n old grown now e ext stays s.read read)
    (all-owned n old grown now e ext stays s.owned owned)
    begins (subst (λ (k : ℕ). AscendFrom 1 rest k) (sym objects) ascend) start few

more-starts : (b z : Bool) (n m k : ℕ) → b ≡ nat_lt n m → z ≡ (k == 0) → k ≡ m - n → n ≤ m → (if b then n ∷ [] else []) ≡ (if z then [] else n ∷ [])
more-starts true true n m k e f d le = absurd (let lt = ltb-true n m (sym e) in let none = eqb-true k 0 (sym f) in omega (arith, lt, none, d))
more-starts true false n m k e f d le = refl
more-starts false true n m k e f d le = refl
more-starts false false n m k e f d le = absurd (let ge = ltb-false n m (sym e) in let none : k ≡ 0 = omega (arith, ge, d) in eqb-false k 0 (sym f) none)

-- a session grows by a call
pub grows : (old grown now : RosterValue) (look_up look_up' : LookUp) (starts starts' : List ℕ) (n k : ℕ) (name : List ℕ) (mode : Mode)
    → Extends old grown → n ≡ length old.objects → StaysBelow n grown now → k ≡ length now.objects - n → look_up'.rule ≡ look_up.rule
    → look_up'.openings.items ≡ look_up.openings.items ++ opening_in grown name mode ∷ [] → look_up'.start_count ≡ look_up.start_count → starts' ≡ starts ++ start_between n (length grown.objects)
    → Grows (session_with old look_up starts) (session_with now look_up' starts') k
grows old grown now look_up look_up' starts starts' n k name mode ext e stays more er eo es est =
    let objects = ap (λ (r : RosterValue). length r.objects) stays.rest in
    let first = cut_memories n old grown now e ext stays in
    let at = subst (λ (i : ℕ). cut_to i now old.next ≡ old) e first in
    let d : k ≡ length grown.objects - n = omega (arith, more, objects) in
    let le : n ≤ length grown.objects = omega (arith, e, ext.count) in
    record {
      dir = ap (λ (r : RosterValue). r.dir) stays.rest ∙ ext.dir;
      rule = er;
      count = omega (arith, more, e, ext.count, objects);
      objects_stay = ap (λ (r : RosterValue). r.objects) at;
      names_stay = ap (λ (r : RosterValue). r.names) at;
      deps_stay = ap (λ (r : RosterValue). r.deps) at;
      pads_stay = ap (λ (r : RosterValue). r.pads) at;
      roots_stay = ap (λ (r : RosterValue). r.roots) at;
      memories_stay = ap (λ (r : RosterValue). r.memories) at;
      symbols_stay = ap (λ (r : RosterValue). r.symbols) at;
      opening = opening_in grown name mode;
      openings_grow = eo;
      start_stays = es;
      starts_grow = est ∙ ap (λ (ns : List ℕ). starts ++ ns) (more-starts (nat_lt n (length grown.objects)) (k == 0) n (length grown.objects) k refl refl d le ∙ ap (λ (i : ℕ). if k == 0 then [] else i ∷ []) e);
    }

abbrev whole : RosterValue → Rule → ℕ → List Opening → List ℕ → SessionValue
whole r rule start_count openings starts = record {
  dir = r.dir;
  rule = rule;
  objects = r.objects;
  names = r.names;
  deps = r.deps;
  openings = openings;
  start_count = start_count;
  starts = starts;
  pads = r.pads;
  roots = r.roots;
  memories = r.memories;
  symbols = r.symbols;
  next = r.next;
}

-- a refused call leaves all
pub session_same : (r r' : RosterValue) (look_up look_up' : LookUp) (starts starts' : List ℕ) → r' ≡ r → look_up'.rule ≡ look_up.rule → look_up'.start_count ≡ look_up.start_count
    → look_up'.openings.items ≡ look_up.openings.items → starts' ≡ starts → session_with r' look_up' starts' ≡ session_with r look_up starts
session_same r r' look_up look_up' starts starts' a b c d e =
    ap (λ (x : RosterValue). whole x look_up'.rule look_up'.start_count look_up'.openings.items starts') a
    ∙ (ap (λ (x : Rule). whole r x look_up'.start_count look_up'.openings.items starts') b
    ∙ (ap (λ (x : ℕ). whole r look_up.rule x look_up'.openings.items starts') c
    ∙ (ap (λ (x : List Opening). whole r look_up.rule look_up.start_count x starts') d
    ∙ ap (λ (x : List ℕ). whole r look_up.rule look_up.start_count look_up.openings.items x) e)))

-- The memories of a state.
use Rattle.std.proofs.Common.{◌≡◌, ℕ, suc, zero, ◌+◌, ◌-◌, ◌<◌, ◌≤◌, min, List, [], ◌∷◌, ◌++◌, length, take, drop, refl, ap, sym, ◌∙◌, subst, append-nil, arith}
use Rattle.std.specs.Prelude.{Result, Ok, Err, map, zip}
use Rattle.std.specs.List.{range_with_len}
use Rattle.std.proofs.lemmas.List.{take-append-drop, take_at, drop_at, length-map, length-take-le, length-drop, map-append, drop_all, take_all}
use Rattle.std.proofs.lemmas.List.FromFn.{length-range_with_len}
use Rattle.cap_base.specs.Steps.{◌>>=◌, gather}
use Rattle.cap_base.specs.Lists.{numbers_between}
use Rattle.cap_mem.specs.Tagged.{TaggedMemory}
use Rattle.cap_reloc.specs.Wanted.{Pair}
use Rattle.cap_session.specs.declared.refusal.OpenRefusal.{OpenRefusal}
use Rattle.cap_session.specs.Binding.{relocated}
use Rattle.cap_session.specs.Loading.{Loaded}
use Rattle.cap_session.specs.Roster.{placed_memory}
use Rattle.cap_session.specs.State.{memory_of}
use Rattle.cap_session.proofs.Begins.{bind_ok, ok_same}

relocated-placed : (pairs : List (List Pair)) (objects : List Loaded) → length pairs ≡ length objects → relocated pairs (map placed_memory objects) ≡ map memory_of (zip objects pairs)
relocated-placed [] [] e = refl
relocated-placed [] (o ∷ objects) e = absurd (omega arith)
relocated-placed (p ∷ pairs) [] e = refl
relocated-placed (p ∷ pairs) (o ∷ objects) e =
    let same : length pairs ≡ length objects = omega arith in
    ap (λ (ms : List TaggedMemory). memory_of (o, p) ∷ ms) (relocated-placed pairs objects same)

zip-append : (os : List Loaded) (ps : List (List Pair)) (bs : List Loaded) (qs : List (List Pair)) → length os ≡ length ps → zip (os ++ bs) (ps ++ qs) ≡ zip os ps ++ zip bs qs
zip-append [] [] bs qs e = refl
zip-append [] (p ∷ ps) bs qs e = absurd (omega arith)
zip-append (o ∷ os) [] bs qs e = absurd (omega arith)
zip-append (o ∷ os) (p ∷ ps) bs qs e =
    let same : length os ≡ length ps = omega arith in
    ap (λ (xs : List (Loaded × List Pair)). (o, p) ∷ xs) (zip-append os ps bs qs same)

gather-length : {X Y : Type 0} (f : X → Result Y OpenRefusal) (xs : List X) (ys : List Y) → gather f xs ≡ Ok ys → length ys ≡ length xs
gather-length f [] ys e = ap length (sym (ok_same [] ys e))
gather-length f (x ∷ xs) ys e =
    let first = bind_ok (f x) (λ y. gather f xs >>= λ zs. Ok (y ∷ zs)) ys e in
    let rest = bind_ok (gather f xs) (λ zs. Ok (first.0 ∷ zs)) ys first.2 in
    ap length (sym (ok_same (first.0 ∷ rest.0) ys rest.2)) ∙ ap suc (gather-length f xs rest.0 rest.1)

-- there are pairs for each object from one on
pub pairs-count : {Y : Type 0} (f : ℕ → Result Y OpenRefusal) (from «end» : ℕ) (ys : List Y) → gather f (numbers_between from «end») ≡ Ok ys → length ys ≡ «end» - from
pairs-count f from «end» ys e = gather-length f (numbers_between from «end») ys e ∙ length-range_with_len from («end» - from)

-- the memories of the first objects stay, and those behind them have their pairs
pub memories-stand : (objects : List Loaded) (n : ℕ) (pairs more : List (List Pair)) (olds between news : List TaggedMemory)
    → n ≤ length objects → length pairs ≡ n → length olds ≡ n → length more ≡ length objects - n
    → olds ≡ map memory_of (zip (take n objects) pairs)
    → between ≡ olds ++ map placed_memory (drop n objects)
    → news ≡ take n between ++ relocated more (drop n between)
    → news ≡ map memory_of (zip objects (pairs ++ more))
memories-stand objects n pairs more olds between news fits some here count stand placed new =
    let front : take n between ≡ olds = ap (take n) placed ∙ take_at olds (map placed_memory (drop n objects)) n here in
    let back : drop n between ≡ map placed_memory (drop n objects) = ap (drop n) placed ∙ drop_at olds (map placed_memory (drop n objects)) n here in
    let long : length more ≡ length (drop n objects) = count ∙ sym (length-drop n objects) in
    let even : length (take n objects) ≡ length pairs = length-take-le n objects fits ∙ sym some in
    new
    ∙ (ap (λ (ms : List TaggedMemory). ms ++ relocated more (drop n between)) (front ∙ stand)
    ∙ (ap (λ (ms : List TaggedMemory). map memory_of (zip (take n objects) pairs) ++ relocated more ms) back
    ∙ (ap (λ (ms : List TaggedMemory). map memory_of (zip (take n objects) pairs) ++ ms) (relocated-placed more (drop n objects) long)
    ∙ (sym (map-append memory_of (zip (take n objects) pairs) (zip (drop n objects) more))
    ∙ (ap (map memory_of) (sym (zip-append (take n objects) pairs (drop n objects) more even))
    ∙ ap (λ (xs : List Loaded). map memory_of (zip xs (pairs ++ more))) (take-append-drop n objects))))))

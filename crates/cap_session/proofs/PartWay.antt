-- Relocating one object after the other, part way.
use Rattle.std.proofs.Common.{◌≡◌, ℕ, suc, zero, ◌+◌, ◌-◌, ◌<◌, ◌≤◌, List, [], ◌∷◌, ◌++◌, length, get_or, set, take, drop, refl, ap, sym, ◌∙◌, subst, ⊎_elim, append_assoc, append-nil, arith}
use Rattle.std.specs.Prelude.{◌≢◌, All, Result, Ok, Err}
use Rattle.std.proofs.lemmas.List.{get_or-append_right, set-append_right, length-take-le, length_push, length-drop, get_or-drop, get_or-set_other, get_or-set_same, take_at, take-append-drop, length-append}
use Rattle.std.proofs.lemmas.Bool.{cases_lt}
use Rattle.std.proofs.lemmas.List.Elements.{All-get_or, All-from_get_or}
use Rattle.cap_base.specs.Steps.{◌>>=◌, gather}
use Rattle.cap_base.specs.Lists.{numbers_between}
use Rattle.cap_elf.specs.DynView.{DynRecords}
use Rattle.cap_elf.specs.IsRead.{IsRead}
use Rattle.cap_mem.specs.Tagged.{TaggedMemory}
use Rattle.cap_scope.specs.Chosen.{object_at, no_records}
use Rattle.cap_reloc.specs.Wanted.{Pair}
use Rattle.cap_reloc.specs.Stored.{with_pairs}
use Rattle.cap_session.specs.declared.refusal.OpenRefusal.{OpenRefusal}
use Rattle.cap_session.specs.Binding.{HasOwned, Relocates, RelocatesFrom, StaysBelow, memory_at, no_memory, relocated, with_memory}
use Rattle.cap_session.specs.Refused.{IsRefusedBy}
use Rattle.cap_session.specs.Roster.{RosterValue, IsRoster, records_in}
use Rattle.cap_session.proofs.Numbers.{numbers_first, numbers_none}
use Rattle.cap_session.proofs.Refusals.{refused_bind}

-- these pairs, and then more
abbrev pub behind : List (List Pair) → Result (List (List Pair)) OpenRefusal → Result (List (List Pair)) OpenRefusal
behind pairs more = more >>= λ rest. Ok (pairs ++ rest)

abbrev pub Each : Type 0
Each = ℕ → Result (List Pair) OpenRefusal

-- the memories from one on, as many as there are pairs, are relocated
pub record PartWay (f : Each) (from i «end» : ℕ) (old now : RosterValue) : Type 0 where
  pub roster : IsRoster now
  pub pairs : List (List Pair)
  pub count : from + length pairs ≡ i
  pub most : i ≤ «end»
  pub all : gather f (numbers_between from «end») ≡ behind pairs (gather f (numbers_between i «end»))
  pub rest : now ≡ record old { memories = take from old.memories ++ relocated pairs (drop from old.memories) }
  pub owned : (k : ℕ) → from ≤ k → k < i → HasOwned old (memory_at now k)
  pub read : (k : ℕ) → from ≤ k → k < i → IsRead (object_at (records_in old) k)

relocated-next : (pairs : List (List Pair)) (ms : List TaggedMemory) → get_or (relocated pairs ms) (length pairs) no_memory ≡ get_or ms (length pairs) no_memory
relocated-next [] ms = refl
relocated-next (p ∷ pairs) [] = refl
relocated-next (p ∷ pairs) (m ∷ ms) = relocated-next pairs ms

relocated-more : (pairs : List (List Pair)) (p : List Pair) (ms : List TaggedMemory) → length pairs < length ms
    → set (relocated pairs ms) (length pairs) (with_pairs p (get_or (relocated pairs ms) (length pairs) no_memory)) ≡ relocated (pairs ++ p ∷ []) ms
relocated-more [] p [] h = absurd (omega arith)
relocated-more [] p (m ∷ ms) h = refl
relocated-more (q ∷ pairs) p [] h = refl
relocated-more (q ∷ pairs) p (m ∷ ms) h =
    let less : length pairs < length ms = omega arith in
    ap (λ (xs : List TaggedMemory). with_pairs q m ∷ xs) (relocated-more pairs p ms less)

behind-more : (pairs : List (List Pair)) (p : List Pair) (r : Result (List (List Pair)) OpenRefusal) → behind pairs (r >>= λ rest. Ok (p ∷ rest)) ≡ behind (pairs ++ p ∷ []) r
behind-more pairs p (Ok rest) = ap (λ (xs : List (List Pair)). Ok xs) (sym (append_assoc pairs (p ∷ []) rest))
behind-more pairs p (Err e) = refl

-- at the start
pub none : (f : Each) (from «end» : ℕ) (old : RosterValue) → IsRoster old → from ≤ «end» → PartWay f from from «end» old old
none f from «end» old roster h = record {
  roster = roster;
  pairs = [];
  count = omega arith;
  most = h;
  all = start (gather f (numbers_between from «end»));
  rest = ap (λ (ms : List TaggedMemory). record old { memories = ms }) (sym (take-append-drop from old.memories));
  owned = λ k a b. absurd (omega arith);
  read = λ k a b. absurd (omega arith);
}
  where
    start : (r : Result (List (List Pair)) OpenRefusal) → r ≡ behind [] r
    start (Ok x) = refl
    start (Err e) = refl

-- the memory that comes next is as it was
pub next_is : (f : Each) (from i «end» : ℕ) (old now : RosterValue) → PartWay f from i «end» old now → from ≤ length old.memories → memory_at now i ≡ memory_at old i
next_is f from i «end» old now w h =
    let len : length (take from old.memories) ≡ from = length-take-le from old.memories h in
    let low : from ≤ i = omega (arith, w.count) in
    let at : i - from ≡ length w.pairs = omega (arith, w.count) in
    let sum : from + length w.pairs ≡ i = w.count in
    ap (λ (r : RosterValue). memory_at r i) w.rest
    ∙ (get_or-append_right (take from old.memories) (relocated w.pairs (drop from old.memories)) from i no_memory len low
    ∙ (ap (λ (k : ℕ). get_or (relocated w.pairs (drop from old.memories)) k no_memory) at
    ∙ (relocated-next w.pairs (drop from old.memories)
    ∙ (get_or-drop from old.memories (length w.pairs) no_memory
    ∙ ap (λ (k : ℕ). get_or old.memories k no_memory) sum))))

-- the memories after one more
memories_more : (from i : ℕ) (pairs : List (List Pair)) (p : List Pair) (olds : List TaggedMemory) → from + length pairs ≡ i → i < length olds
    → set (take from olds ++ relocated pairs (drop from olds)) i (with_pairs p (get_or (take from olds ++ relocated pairs (drop from olds)) i no_memory))
    ≡ take from olds ++ relocated (pairs ++ p ∷ []) (drop from olds)
memories_more from i pairs p olds e lt =
    let fits : from ≤ length olds = omega (arith, e, lt) in
    let len : length (take from olds) ≡ from = length-take-le from olds fits in
    let low : from ≤ i = omega (arith, e) in
    let at : i - from ≡ length pairs = omega (arith, e) in
    let less : length pairs < length (drop from olds) = omega (arith, e, lt, length-drop from olds) in
    let xs = take from olds in
    let ys = relocated pairs (drop from olds) in
    let got : get_or (xs ++ ys) i no_memory ≡ get_or ys (length pairs) no_memory = get_or-append_right xs ys from i no_memory len low ∙ ap (λ (k : ℕ). get_or ys k no_memory) at in
    set-append_right xs ys from i (with_pairs p (get_or (xs ++ ys) i no_memory)) len low
    ∙ ap (λ (zs : List TaggedMemory). xs ++ zs)
    (ap (λ (k : ℕ). set ys k (with_pairs p (get_or (xs ++ ys) i no_memory))) at
    ∙ (ap (λ (m : TaggedMemory). set ys (length pairs) (with_pairs p m)) got
    ∙ relocated-more pairs p (drop from olds) less))

-- what comes next, where the next object was relocated
all_more : (f : Each) (i «end» : ℕ) (pairs : List (List Pair)) (p : List Pair) → i < «end» → f i ≡ Ok p
    → behind pairs (gather f (numbers_between i «end»)) ≡ behind (pairs ++ p ∷ []) (gather f (numbers_between (i + 1) «end»))
all_more f i «end» pairs p lt e =
    ap (λ (ns : List ℕ). behind pairs (gather f ns)) (numbers_first i «end» lt)
    ∙ (ap (λ (r : Result (List Pair) OpenRefusal). behind pairs (r >>= λ y. gather f (numbers_between (i + 1) «end») >>= λ ys. Ok (y ∷ ys))) e
    ∙ behind-more pairs p (gather f (numbers_between (i + 1) «end»)))

owned_more : (old now : RosterValue) (from i : ℕ) (m : TaggedMemory) → ((k : ℕ) → from ≤ k → k < i → HasOwned old (memory_at now k)) → HasOwned old (memory_at (with_memory now i m) i)
    → (k : ℕ) → from ≤ k → k < i + 1 → HasOwned old (memory_at (with_memory now i m) k)
owned_more old now from i m h one k a b =
    ⊎_elim (λ (lt : k < i). let ne : k ≢ i = omega arith in subst (HasOwned old) (sym (get_or-set_other now.memories i k m no_memory ne)) (h k a lt))
    (λ (ge : i ≤ k). let same : i ≡ k = omega arith in subst (λ (j : ℕ). HasOwned old (memory_at (with_memory now i m) j)) same one)
    (cases_lt k i)

read_more : (old : RosterValue) (from i : ℕ) → ((k : ℕ) → from ≤ k → k < i → IsRead (object_at (records_in old) k)) → IsRead (object_at (records_in old) i)
    → (k : ℕ) → from ≤ k → k < i + 1 → IsRead (object_at (records_in old) k)
read_more old from i h one k a b =
    ⊎_elim (λ (lt : k < i). h k a lt)
    (λ (ge : i ≤ k). let same : i ≡ k = omega arith in subst (λ (j : ℕ). IsRead (object_at (records_in old) j)) same one)
    (cases_lt k i)

-- one object more
pub more : (f : Each) (from i «end» : ℕ) (old now new : RosterValue) (p : List Pair) → PartWay f from i «end» old now → i < «end» → i < length old.memories → f i ≡ Ok p
    → new ≡ with_memory now i (with_pairs p (memory_at now i)) → IsRoster new → HasOwned old (memory_at new i) → IsRead (object_at (records_in old) i) → PartWay f from (i + 1) «end» old new
more f from i «end» old now new p w lt in' e is roster owned read = record {
  roster = roster;
  pairs = w.pairs ++ p ∷ [];
  count = omega (arith, length_push w.pairs p, w.count);
  most = omega arith;
  all = w.all ∙ all_more f i «end» w.pairs p lt e;
  rest = is
      ∙ (ap (λ (r : RosterValue). with_memory r i (with_pairs p (memory_at r i))) w.rest
      ∙ ap (λ (ms : List TaggedMemory). record old { memories = ms }) (memories_more from i w.pairs p old.memories w.count in'));
  owned = subst (λ (r : RosterValue). (k : ℕ) → from ≤ k → k < i + 1 → HasOwned old (memory_at r k)) (sym is)
      (owned_more old now from i (with_pairs p (memory_at now i)) w.owned (subst (λ (r : RosterValue). HasOwned old (memory_at r i)) is owned));
  read = read_more old from i w.read read;
}

-- at the end
pub done : (f : Each) (from i «end» : ℕ) (old now : RosterValue) → PartWay f from i «end» old now → «end» ≤ i → RelocatesFrom {T = Unit {0}} (gather f (numbers_between from «end»)) from old now (Ok tt)
done f from i «end» old now w h = (
  w.pairs,
  w.all ∙ (ap (λ (ns : List ℕ). behind w.pairs (gather f ns)) (numbers_none i «end» h) ∙ ap (λ (xs : List (List Pair)). Ok xs) (append-nil w.pairs)),
  ap (λ (r : RosterValue). r.memories) w.rest,
)

-- nothing else has changed
pub stays : (f : Each) (from i «end» : ℕ) (old now : RosterValue) → PartWay f from i «end» old now → from ≤ length old.memories → StaysBelow from old now
stays f from i «end» old now w h =
    let ms = ap (λ (r : RosterValue). r.memories) w.rest in
    record {
      rest = w.rest ∙ ap (λ (ms : List TaggedMemory). record old { memories = ms }) (sym ms);
      first = ap (take from) ms ∙ take_at (take from old.memories) (relocated w.pairs (drop from old.memories)) from (length-take-le from old.memories h);
    }

-- the refusal of the next object is that of all
pub refused : (f : Each) (from i «end» : ℕ) (old now : RosterValue) (refusal : OpenRefusal) → PartWay f from i «end» old now → i < «end» → IsRefusedBy (f i) refusal refusal.cause
    → IsRefusedBy (gather f (numbers_between from «end»)) refusal refusal.cause
refused f from i «end» old now refusal w lt h =
    let first = refused_bind (f i) (λ y. gather f (numbers_between (i + 1) «end») >>= λ ys. Ok (y ∷ ys)) refusal refusal.cause h in
    let rest = subst (λ (ns : List ℕ). IsRefusedBy (gather f ns) refusal refusal.cause) (sym (numbers_first i «end» lt)) first in
    subst (λ (r : Result (List (List Pair)) OpenRefusal). IsRefusedBy r refusal refusal.cause) (sym w.all)
    (refused_bind (gather f (numbers_between i «end»)) (λ more. Ok (w.pairs ++ more)) refusal refusal.cause rest)

-- each of the new memories has its owners, and each of the new objects was read
pub all_owned : (f : Each) (from i «end» : ℕ) (old now : RosterValue) → PartWay f from i «end» old now → length now.memories ≤ i → All (HasOwned old) (drop from now.memories)
all_owned f from i «end» old now w h =
    All-from_get_or (HasOwned old) (drop from now.memories) no_memory
    (λ k lt.
    let low : from ≤ from + k = omega arith in
    let high : from + k < i = omega (arith, lt, length-drop from now.memories, h) in
    subst (HasOwned old) (sym (get_or-drop from now.memories k no_memory)) (w.owned (from + k) low high))

pub all_read : (f : Each) (from i «end» : ℕ) (old now : RosterValue) → PartWay f from i «end» old now → length (records_in old) ≤ i → All IsRead (drop from (records_in old))
all_read f from i «end» old now w h =
    All-from_get_or IsRead (drop from (records_in old)) no_records
    (λ k lt.
    let low : from ≤ from + k = omega arith in
    let high : from + k < i = omega (arith, lt, length-drop from (records_in old), h) in
    subst IsRead (sym (get_or-drop from (records_in old) k no_records)) (w.read (from + k) low high))

relocated-length : (pairs : List (List Pair)) (ms : List TaggedMemory) → length (relocated pairs ms) ≡ length ms
relocated-length [] ms = refl
relocated-length (p ∷ pairs) [] = refl
relocated-length (p ∷ pairs) (m ∷ ms) = ap suc (relocated-length pairs ms)

-- there are as many memories as before
pub same_count : (f : Each) (from i «end» : ℕ) (old now : RosterValue) → PartWay f from i «end» old now → from ≤ length old.memories → length now.memories ≡ length old.memories
same_count f from i «end» old now w h =
    let ms = ap (λ (r : RosterValue). length r.memories) w.rest in
    let sum = length-append (take from old.memories) (relocated w.pairs (drop from old.memories)) in
    let front = length-take-le from old.memories h in
    let back = relocated-length w.pairs (drop from old.memories) in
    omega (arith, ms, sum, front, back, length-drop from old.memories)

pub untagged_at : (olds : List TaggedMemory) (from i : ℕ) → from ≤ i → i < length olds → All (λ m. m.words ≡ []) (drop from olds) → (get_or olds i no_memory).words ≡ []
untagged_at olds from i low lt h =
    let in' : i - from < length (drop from olds) = omega (arith, length-drop from olds) in
    let at : from + (i - from) ≡ i = omega arith in
    let P : TaggedMemory → Type 0 = λ m. m.words ≡ [] in
    let got : P (get_or (drop from olds) (i - from) no_memory) = All-get_or P (drop from olds) (i - from) no_memory in' h in
    subst P (get_or-drop from olds (i - from) no_memory ∙ ap (λ (k : ℕ). get_or olds k no_memory) at) got

pub owned_of_same : (old now : RosterValue) (ms : List TaggedMemory) (m : TaggedMemory) → now ≡ record old { memories = ms } → HasOwned now m → HasOwned old m
owned_of_same old now ms m e h =
    let moved = subst (λ (r : RosterValue). HasOwned r m) e h in
    record { narrowed = moved.narrowed; noted = moved.noted }

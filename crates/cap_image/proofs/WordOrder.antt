-- The words of a memory go by owner: the lists of its owners, one after the other.
use Rattle.std.proofs.Common.{◌≡◌, ℕ, zero, suc, ◌+◌, ◌-◌, ◌<◌, ◌≤◌, Bool, true, false, cond, List, [], ◌∷◌, ◌++◌, refl, sym, ap, ◌∙◌, arith, nat_eq, ⊎_elim, inl, inr}
use Rattle.std.specs.Prelude.{◌≢◌, ◌⊎◌, All, AllPairs, filter, find, flat_map, Option, Some, None, option_map, is_some}
use Rattle.std.specs.List.{range_with_len}
use Rattle.std.proofs.lemmas.Bool.Decides.{eqb_tells}
use Rattle.cap_mem.specs.declared.memory.Note.{Note}
use Rattle.cap_mem.specs.IsMemory.{IsMemory}
use Rattle.cap_mem.specs.Tagged.{TaggedMemory, TaggedWord, is_of, is_tagged, stands_at, first_granule, granule_after, next_in, next_granule, tagged_word}
use Rattle.cap_image.specs.declared.word_walk.FoundWord.{FoundWord}
use Rattle.cap_image.specs.WordWalk.{note_of, founds_of, lists_from, words_at, words_from}

abbrev pub Yes : ℕ → ℕ → Type 0
Yes m n = (nat_eq m n ≡ true) × (m ≡ n)

abbrev pub No : ℕ → ℕ → Type 0
No m n = (nat_eq m n ≡ false) × (m ≡ n → ⊥)

eq_yes : (m n : ℕ) → m ≡ n → nat_eq m n ≡ true
eq_yes m n e = ⊎_elim (λ (y : Yes m n). y.0) (λ (q : No m n). absurd (q.1 e)) (eqb_tells m n)

pub eq_no : (m n : ℕ) → (m ≡ n → ⊥) → nat_eq m n ≡ false
eq_no m n h = ⊎_elim (λ (y : Yes m n). absurd (h y.1)) (λ (q : No m n). q.0) (eqb_tells m n)

abbrev Ascending : List TaggedWord → Type 0
Ascending ws = AllPairs (λ v w. v.cap.owner ≤ w.cap.owner) ws

rest_up : (w : TaggedWord) (ws : List TaggedWord) → Ascending (w ∷ ws) → Ascending ws
rest_up w ws h = λ i j d a l. h (suc i) (suc j) d (omega (arith, a)) (omega (arith, l))

first_up : (w : TaggedWord) (ws : List TaggedWord) → Ascending (w ∷ ws) → All (λ v. w.cap.owner ≤ v.cap.owner) ws
first_up w ws h = λ k d l. h 0 (suc k) d (omega arith) (omega (arith, l))

abbrev pub Distinct : List TaggedWord → Type 0
Distinct ws = AllPairs (λ v w. v.granule ≢ w.granule) ws

pub rest_apart : (w : TaggedWord) (ws : List TaggedWord) → Distinct (w ∷ ws) → Distinct ws
rest_apart w ws h = λ i j d a l. h (suc i) (suc j) d (omega (arith, a)) (omega (arith, l))

pub first_apart : (w : TaggedWord) (ws : List TaggedWord) → Distinct (w ∷ ws) → All (λ v. w.granule ≢ v.granule) ws
first_apart w ws h = λ k d l. h 0 (suc k) d (omega arith) (omega (arith, l))

-- the lists of n owners
abbrev lists : List TaggedWord → ℕ → ℕ → List TaggedWord
lists ws a n = flat_map (λ o. filter (is_of o) ws) (range_with_len a n)

lists_nil : (a n : ℕ) → lists [] a n ≡ []
lists_nil a zero = refl
lists_nil a (suc n) = lists_nil (a + 1) n

-- a word of an owner below them
lists_skip : (v : TaggedWord) (vs : List TaggedWord) (a n : ℕ) → v.cap.owner < a → lists (v ∷ vs) a n ≡ lists vs a n
lists_skip v vs a zero lt = refl
lists_skip v vs a (suc n) lt =
    rw (eq_no v.cap.owner a (λ e. absurd (omega (arith, e, lt)))) (ap (λ xs. filter (is_of a) vs ++ xs) (lists_skip v vs (a + 1) n (omega (arith, lt))))

-- no word of an owner below all
filter_none : (o : ℕ) (ws : List TaggedWord) → All (λ u. o < u.cap.owner) ws → filter (is_of o) ws ≡ []
filter_none o [] h = refl
filter_none o (w ∷ ws) h =
    let here : o < w.cap.owner = h 0 w (omega arith) in
    rw (eq_no w.cap.owner o (λ e. absurd (omega (arith, e, here)))) (filter_none o ws (λ k d l. h (suc k) d (omega (arith, l))))

-- a word before words of its owner and above
lists_cons : (v : TaggedWord) (vs : List TaggedWord) (a n : ℕ) → a ≤ v.cap.owner → v.cap.owner < a + n → All (λ u. v.cap.owner ≤ u.cap.owner) vs → lists (v ∷ vs) a n ≡ v ∷ lists vs a n
lists_cons v vs a zero from to above = absurd (omega (arith, from, to))
lists_cons v vs a (suc n) from to above = go (lists_cons v vs (a + 1) n) (eqb_tells v.cap.owner a)
  where
    go : (a + 1 ≤ v.cap.owner → v.cap.owner < a + 1 + n → All (λ u. v.cap.owner ≤ u.cap.owner) vs → lists (v ∷ vs) (a + 1) n ≡ v ∷ lists vs (a + 1) n)
        → Yes v.cap.owner a ⊎ No v.cap.owner a
        → cond (is_of a v) (v ∷ filter (is_of a) vs) (filter (is_of a) vs) ++ lists (v ∷ vs) (a + 1) n ≡ v ∷ (filter (is_of a) vs ++ lists vs (a + 1) n)
    go later (inl y) = rw y.0 (ap (λ xs. v ∷ (filter (is_of a) vs ++ xs)) (lists_skip v vs (a + 1) n (omega (arith, y.1))))
    go later (inr q) =
        let none : filter (is_of a) vs ≡ [] = filter_none a vs (λ k d l. omega (arith, above k d l, from, q.1)) in
        rw (q.0, none) (later (omega (arith, from, q.1)) (omega (arith, to)) above)

-- the lists of all owners are all words
lists_all : (ws : List TaggedWord) (a n : ℕ) → Ascending ws → All (λ u. a ≤ u.cap.owner) ws → All (λ u. u.cap.owner < a + n) ws → lists ws a n ≡ ws
lists_all [] a n up from to = lists_nil a n
lists_all (w ∷ ws) a n up from to =
    lists_cons w ws a n (from 0 w (omega arith)) (to 0 w (omega arith)) (first_up w ws up)
    ∙ ap (λ xs. w ∷ xs) (lists_all ws a n (rest_up w ws up) (λ k d l. from (suc k) d (omega (arith, l))) (λ k d l. to (suc k) d (omega (arith, l))))

-- the first word of two lists
first_append : (xs ys : List TaggedWord) → first_granule xs ≡ None → first_granule (xs ++ ys) ≡ first_granule ys
first_append [] ys h = refl
first_append (x ∷ xs) ys h = absurd (cc)

first_front : (xs ys : List TaggedWord) (g : ℕ) → first_granule xs ≡ Some g → first_granule (xs ++ ys) ≡ Some g
first_front [] ys g h = absurd (cc)
first_front (x ∷ xs) ys g h = h

one_list : (ws : List TaggedWord) (o : ℕ) → o < 256 → lists_from ws o ≡ filter (is_of o) ws ++ lists_from ws (o + 1)
unfolding lists_from
one_list ws o lt =
    let same : 256 - o ≡ suc (256 - (o + 1)) = omega (arith, lt) in
    ap (lists ws o) same

module _ (ws : List TaggedWord) (o next : ℕ) (r : Option ℕ) (up : next ≡ o + 1) (lt : o < 256) (so_far : first_granule (lists_from ws o) ≡ r) where
  -- an owner without words
  pub first_more : first_granule (filter (is_of o) ws) ≡ None → first_granule (lists_from ws next) ≡ r
  first_more h =
      ap (λ (n : ℕ). first_granule (lists_from ws n)) up
      ∙ sym (first_append (filter (is_of o) ws) (lists_from ws (o + 1)) h)
      ∙ sym (ap first_granule (one_list ws o lt)) ∙ so_far

-- an owner with words
pub first_hit : (ws : List TaggedWord) (o g : ℕ) (r : Option ℕ) → first_granule (lists_from ws o) ≡ r → o < 256 → first_granule (filter (is_of o) ws) ≡ Some g → r ≡ Some g
first_hit ws o g r so_far lt h = sym so_far ∙ ap first_granule (one_list ws o lt) ∙ first_front (filter (is_of o) ws) (lists_from ws (o + 1)) g h

-- no owner is left
pub first_none : (ws : List TaggedWord) (o : ℕ) (r : Option ℕ) → first_granule (lists_from ws o) ≡ r → 256 ≤ o → r ≡ None
unfolding lists_from
first_none ws o r so_far le =
    let none : 256 - o ≡ 0 = omega (arith, le) in
    sym so_far ∙ ap (λ (n : ℕ). first_granule (lists ws o n)) none

-- the owner of the word that was found
abbrev owner_at : ℕ → List TaggedWord → Option ℕ
owner_at g ws = option_map (λ w. w.cap.owner) (find (stands_at g) ws)

owner_above : (a g o : ℕ) (ws : List TaggedWord) → All (λ u. a ≤ u.cap.owner) ws → owner_at g ws ≡ Some o → a ≤ o
owner_above a g o [] h e = absurd (cc)
owner_above a g o (w ∷ ws) h e = ⊎_elim
    (λ (y : Yes w.granule g). let found = rw y.0 at e in let same : w.cap.owner ≡ o = cc in let here : a ≤ w.cap.owner = h 0 w (omega arith) in omega (arith, same, here))
    (λ (q : No w.granule g). owner_above a g o ws (λ k d l. h (suc k) d (omega (arith, l))) (rw q.0 at e))
    (eqb_tells w.granule g)

-- what follows the first word of an owner's list
head_some : (o g : ℕ) (vs : List TaggedWord) → All (λ u. o ≤ u.cap.owner) vs → Ascending vs → first_granule (filter (is_of o) vs) ≡ Some g → first_granule vs ≡ Some g
head_some o g [] above up h = h
head_some o g (u ∷ us) above up h = ⊎_elim
    (λ (y : Yes u.cap.owner o). rw y.0 at h)
    (λ (q : No u.cap.owner o).
    let here : o ≤ u.cap.owner = above 0 u (omega arith) in
    let none : filter (is_of o) us ≡ [] = filter_none o us (λ k d l. omega (arith, first_up u us up k d l, here, q.1)) in
    let bad = rw (q.0, none) at h in absurd (cc))
    (eqb_tells u.cap.owner o)

head_none : (o n : ℕ) (vs : List TaggedWord) → All (λ u. o ≤ u.cap.owner) vs → Ascending vs → All (λ u. u.cap.owner < o + 1 + n) vs → first_granule (filter (is_of o) vs) ≡ None → first_granule vs ≡ first_granule (lists vs (o + 1) n)
head_none o n [] above up below h = sym (ap first_granule (lists_nil (o + 1) n))
head_none o n (u ∷ us) above up below h = ⊎_elim
    (λ (y : Yes u.cap.owner o). let bad = rw y.0 at h in absurd (cc))
    (λ (q : No u.cap.owner o).
    let here : o ≤ u.cap.owner = above 0 u (omega arith) in
    let low : o + 1 ≤ u.cap.owner = omega (arith, here, q.1) in
    sym (ap first_granule (lists_all (u ∷ us) (o + 1) n up (all_above low (first_up u us up)) below)))
    (eqb_tells u.cap.owner o)
  where
    all_above : o + 1 ≤ u.cap.owner → All (λ v. u.cap.owner ≤ v.cap.owner) us → All (λ v. o + 1 ≤ v.cap.owner) (u ∷ us)
    all_above low rest zero d l = low
    all_above low rest (suc k) d l = omega (arith, rest k d (omega (arith, l)), low)

-- what follows a word in the list of its owner follows it in the whole list
in_list : (g o n : ℕ) (ws : List TaggedWord) → Ascending ws → owner_at g ws ≡ Some o → granule_after g (filter (is_of o) ws) ≡ Some n → granule_after g ws ≡ Some n
in_list g o n [] up at_g h = absurd (cc)
in_list g o n (v ∷ vs) up at_g h = ⊎_elim
    (λ (y : Yes v.granule g). rw y.0 (found y (rw y.0 at at_g)))
    (λ (q : No v.granule g). rw q.0 (in_list g o n vs (rest_up v vs up) (rw q.0 at at_g) (passed (is_of o v) q h)))
    (eqb_tells v.granule g)
  where
    found : Yes v.granule g → Some v.cap.owner ≡ Some o → first_granule vs ≡ Some n
    found y e =
        let same : v.cap.owner ≡ o = cc in
        let own = eq_yes v.cap.owner o same in
        let short = rw (own, y.0) at h in
        head_some o n vs (λ k d l. omega (arith, first_up v vs up k d l, same)) (rest_up v vs up) short

    passed : (b : Bool) → No v.granule g → granule_after g (cond b (v ∷ filter (is_of o) vs) (filter (is_of o) vs)) ≡ Some n → granule_after g (filter (is_of o) vs) ≡ Some n
    passed true q e = rw q.0 at e
    passed false q e = e

-- and where none follows there, the first of the owners above it does
out_of_list : (g o n : ℕ) (ws : List TaggedWord) → Ascending ws → All (λ u. u.cap.owner < o + 1 + n) ws → owner_at g ws ≡ Some o → granule_after g (filter (is_of o) ws) ≡ None → granule_after g ws ≡ first_granule (lists ws (o + 1) n)
out_of_list g o n [] up below at_g h = absurd (cc)
out_of_list g o n (v ∷ vs) up below at_g h = ⊎_elim
    (λ (y : Yes v.granule g). rw y.0 (found y (rw y.0 at at_g)))
    (λ (q : No v.granule g). rw q.0 (later q (out_of_list g o n vs (rest_up v vs up) (λ k d l. below (suc k) d (omega (arith, l))) (rw q.0 at at_g) (passed (is_of o v) q h))))
    (eqb_tells v.granule g)
  where
    found : Yes v.granule g → Some v.cap.owner ≡ Some o → first_granule vs ≡ first_granule (lists (v ∷ vs) (o + 1) n)
    found y e =
        let same : v.cap.owner ≡ o = cc in
        let own = eq_yes v.cap.owner o same in
        let short = rw (own, y.0) at h in
        head_none o n vs (λ k d l. omega (arith, first_up v vs up k d l, same)) (rest_up v vs up) (λ k d l. below (suc k) d (omega (arith, l))) short
        ∙ sym (ap first_granule (lists_skip v vs (o + 1) n (omega (arith, same))))

    passed : (b : Bool) → No v.granule g → granule_after g (cond b (v ∷ filter (is_of o) vs) (filter (is_of o) vs)) ≡ None → granule_after g (filter (is_of o) vs) ≡ None
    passed true q e = rw q.0 at e
    passed false q e = e

    later : No v.granule g → granule_after g vs ≡ first_granule (lists vs (o + 1) n) → granule_after g vs ≡ first_granule (lists (v ∷ vs) (o + 1) n)
    later q e =
        let there = rw q.0 at at_g in
        let low : v.cap.owner ≤ o = owner_above v.cap.owner g o vs (first_up v vs up) there in
        e ∙ sym (ap first_granule (lists_skip v vs (o + 1) n (omega (arith, low))))

-- the word that was found is one of them
some_of : (r : Option TaggedWord) (o : ℕ) → option_map (λ w. w.cap.owner) r ≡ Some o → is_some r ≡ true
some_of None o h = absurd (cc)
some_of (Some w) o h = refl

pub owner_tagged : (m : TaggedMemory) (g o : ℕ) → option_map (λ w. w.cap.owner) (tagged_word m g) ≡ Some o → is_tagged m g ≡ true
owner_tagged m g o h = some_of (tagged_word m g) o h

owner_below : (a g o : ℕ) (ws : List TaggedWord) → All (λ u. u.cap.owner < a) ws → owner_at g ws ≡ Some o → o < a
owner_below a g o [] h e = absurd (cc)
owner_below a g o (w ∷ ws) h e = ⊎_elim
    (λ (y : Yes w.granule g). let found = rw y.0 at e in let same : w.cap.owner ≡ o = cc in let here : w.cap.owner < a = h 0 w (omega arith) in omega (arith, same, here))
    (λ (q : No w.granule g). owner_below a g o ws (λ k d l. h (suc k) d (omega (arith, l))) (rw q.0 at e))
    (eqb_tells w.granule g)

pub owner_low : (m : TaggedMemory) (g o : ℕ) → IsMemory m → option_map (λ w. w.cap.owner) (tagged_word m g) ≡ Some o → o < 256
owner_low m g o is h = owner_below 256 g o m.words (λ k d l. (is.held k d l).owner) h

next_is : (m : TaggedMemory) (g o : ℕ) (found : Option TaggedWord) → option_map (λ w. w.cap.owner) found ≡ Some o → next_in m g found ≡ granule_after g (filter (is_of o) m.words)
next_is m g o None h = absurd (cc)
next_is m g o (Some w) h = let same : w.cap.owner ≡ o = cc in ap (λ q. granule_after g (filter (is_of q) m.words)) same

module _ (m : TaggedMemory) (g o : ℕ) (is : IsMemory m) (h : option_map (λ w. w.cap.owner) (tagged_word m g) ≡ Some o) where
  -- the word that follows in the list of the owner follows in the whole list
  pub after_in_list : (n : ℕ) → next_granule m g ≡ Some n → granule_after g m.words ≡ Some n
  after_in_list n e = in_list g o n m.words is.ascending h (sym (next_is m g o (tagged_word m g) h) ∙ e)

  -- where none follows there, the first word of the owners above it follows
  pub after_list : next_granule m g ≡ None → granule_after g m.words ≡ first_granule (lists_from m.words (o + 1))
  unfolding lists_from
  after_list e =
      let low : o < 256 = owner_low m g o is h in
      let all : o + 1 + (256 - (o + 1)) ≡ 256 = omega (arith, low) in
      out_of_list g o (256 - (o + 1)) m.words is.ascending (λ k d l. omega (arith, (is.held k d l).owner, all)) h (sym (next_is m g o (tagged_word m g) h) ∙ e)

-- from its first word on there are all words
from_first : (ws : List TaggedWord) → words_from (first_granule ws) ws ≡ ws
from_first [] = refl
from_first (w ∷ ws) = rw (eq_yes w.granule w.granule refl) refl

pub from_start : (m : TaggedMemory) (next : Option ℕ) → IsMemory m → next ≡ first_granule (lists_from m.words 0) → words_from next m.words ≡ m.words
unfolding lists_from
from_start m next is e =
    let all : lists m.words 0 256 ≡ m.words = lists_all m.words 0 256 is.ascending (λ k d l. omega arith) (λ k d l. omega (arith, (is.held k d l).owner)) in
    ap (λ (o : Option ℕ). words_from o m.words) (e ∙ ap first_granule all) ∙ from_first m.words

-- a granule that isn't that of the first word is passed over
skip_first : (w : TaggedWord) (ws : List TaggedWord) (o : Option ℕ) → ((n : ℕ) → o ≡ Some n → w.granule ≢ n) → words_from o (w ∷ ws) ≡ words_from o ws
skip_first w ws None h = refl
skip_first w ws (Some n) h = rw (eq_no w.granule n (h n refl)) refl

first_differs : (w : TaggedWord) (ws : List TaggedWord) → All (λ v. w.granule ≢ v.granule) ws → (n : ℕ) → first_granule ws ≡ Some n → w.granule ≢ n
first_differs w [] apart n h = absurd (cc)
first_differs w (v ∷ vs) apart n h = λ e. apart 0 v (omega arith) (let same : v.granule ≡ n = cc in e ∙ sym same)

after_differs : (w : TaggedWord) (g : ℕ) (ws : List TaggedWord) → All (λ v. w.granule ≢ v.granule) ws → (n : ℕ) → granule_after g ws ≡ Some n → w.granule ≢ n
after_differs w g [] apart n h = absurd (cc)
after_differs w g (v ∷ vs) apart n h = ⊎_elim
    (λ (y : Yes v.granule g). first_differs w vs (λ k d l. apart (suc k) d (omega (arith, l))) n (rw y.0 at h))
    (λ (q : No v.granule g). after_differs w g vs (λ k d l. apart (suc k) d (omega (arith, l))) n (rw q.0 at h))
    (eqb_tells v.granule g)

abbrev word_found : ℕ → Note → FoundWord
word_found granule note = record { granule = granule; note = note }

step_in : (g : ℕ) (note : Note) (ws : List TaggedWord) → Distinct ws → option_map note_of (find (stands_at g) ws) ≡ Some note
    → founds_of (words_at g ws) ≡ word_found g note ∷ founds_of (words_from (granule_after g ws) ws)
step_in g note [] apart h = absurd (cc)
step_in g note (w ∷ ws) apart h = ⊎_elim
    (λ (y : Yes w.granule g). rw y.0 (found y (rw y.0 at h)))
    (λ (q : No w.granule g). rw q.0 (
    step_in g note ws (rest_apart w ws apart) (rw q.0 at h)
    ∙ ap (λ xs. word_found g note ∷ founds_of xs) (sym (skip_first w ws (granule_after g ws) (after_differs w g ws (first_apart w ws apart))))))
    (eqb_tells w.granule g)
  where
    found : Yes w.granule g → Some (note_of w) ≡ Some note → founds_of (w ∷ ws) ≡ word_found g note ∷ founds_of (words_from (first_granule ws) (w ∷ ws))
    found y e =
        let same : note_of w ≡ note = cc in
        let rest : words_from (first_granule ws) (w ∷ ws) ≡ ws = skip_first w ws (first_granule ws) (first_differs w ws (first_apart w ws apart)) ∙ from_first ws in
        ap (λ (g' : ℕ). word_found g' (note_of w) ∷ founds_of ws) y.1
        ∙ ap (λ (n : Note). word_found g n ∷ founds_of ws) same
        ∙ ap (λ xs. word_found g note ∷ founds_of xs) (sym rest)

-- a walk goes from a word to the one that follows
pub walk_step : (m : TaggedMemory) (g : ℕ) (note : Note) (next : Option ℕ) → IsMemory m → option_map note_of (tagged_word m g) ≡ Some note → next ≡ granule_after g m.words
    → founds_of (words_at g m.words) ≡ (record { granule = g; note = note }) ∷ founds_of (words_from next m.words)
walk_step m g note next is h e = step_in g note m.words is.distinct h ∙ ap (λ (o : Option ℕ). word_found g note ∷ founds_of (words_from o m.words)) (sym e)

note_owner : (r : Option TaggedWord) (note : Note) → option_map note_of r ≡ Some note → option_map (λ w. w.cap.owner) r ≡ Some note.owner
note_owner None note h = absurd (cc)
note_owner (Some w) note h = let same : note_of w ≡ note = cc in ap (λ (n : Note). Some n.owner) same

pub owner_of_note : (m : TaggedMemory) (g : ℕ) (note : Note) → option_map note_of (tagged_word m g) ≡ Some note → option_map (λ w. w.cap.owner) (tagged_word m g) ≡ Some note.owner
owner_of_note m g note h = note_owner (tagged_word m g) note h

untagged_of : (r : Option TaggedWord) → option_map note_of r ≡ None → is_some r ≡ true → ⊥
untagged_of None h t = absurd (cc)
untagged_of (Some w) h t = absurd (cc)

-- a tagged granule has a note
pub has_note : (m : TaggedMemory) (g : ℕ) → option_map note_of (tagged_word m g) ≡ None → is_tagged m g ≡ true → ⊥
has_note m g h t = untagged_of (tagged_word m g) h t

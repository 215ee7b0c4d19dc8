-- Words that are put in order by their owners.
use Rattle.std.proofs.Common.{◌≡◌, ℕ, suc, zero, ◌+◌, ◌<◌, ◌≤◌, Bool, true, false, not, cond, ◌&&◌, ◌||◌, List, [], ◌∷◌, ◌++◌, All, refl, ap, sym, ◌∙◌, arith, nat_eq, nat_lt, ⊎_elim, inl, inr, append_assoc}
use Rattle.std.specs.Prelude.{filter, flat_map, find, is_some, Some, ◌≢◌, ◌⊎◌}
use Rattle.std.specs.List.{range_with_len, list_any}
use Rattle.std.proofs.lemmas.List.Elements.{filter-append}
use Rattle.std.proofs.lemmas.Bool.Decides.{eqb_tells}
use Rattle.cap_mem.specs.Tagged.{TaggedWord, is_of, by_owner, entered, stands_at}
use Rattle.cap_mem.proofs.Chains.{Yes, No}
use Rattle.cap_mem.proofs.Granules.{lt_yes, lt_no, eq_yes}

-- the lists of n owners, from one on
abbrev lists_from : List TaggedWord → ℕ → ℕ → List TaggedWord
lists_from ws a n = flat_map (λ q. filter (is_of q) ws) (range_with_len a n)

-- the words of one owner are all of one owner
filter-same : (o : ℕ) (ws : List TaggedWord) → filter (is_of o) (filter (is_of o) ws) ≡ filter (is_of o) ws
filter-same o [] = refl
filter-same o (w ∷ ws) = go (filter-same o ws) (is_of o w) refl
  where
    go : filter (is_of o) (filter (is_of o) ws) ≡ filter (is_of o) ws
        → (b : Bool) → is_of o w ≡ b → filter (is_of o) (cond (is_of o w) (w ∷ filter (is_of o) ws) (filter (is_of o) ws)) ≡ cond (is_of o w) (w ∷ filter (is_of o) ws) (filter (is_of o) ws)
    go rest true is = rw is (rw is (ap (λ xs. w ∷ xs) rest))
    go rest false is = rw is rest

-- and none of them is another's
filter-other : (o q : ℕ) → q ≢ o → (ws : List TaggedWord) → filter (is_of o) (filter (is_of q) ws) ≡ []
filter-other o q other [] = refl
filter-other o q other (w ∷ ws) = go (filter-other o q other ws) (eqb_tells w.cap.owner q) (eqb_tells w.cap.owner o)
  where
    go : filter (is_of o) (filter (is_of q) ws) ≡ []
        → Yes w.cap.owner q ⊎ No w.cap.owner q → Yes w.cap.owner o ⊎ No w.cap.owner o
        → filter (is_of o) (cond (is_of q w) (w ∷ filter (is_of q) ws) (filter (is_of q) ws)) ≡ []
    go rest (inl own) (inl both) = absurd (other (sym own.1 ∙ both.1))
    go rest (inl own) (inr none) = rw own.0 (rw none.0 rest)
    go rest (inr none) _ = rw none.0 rest

-- in the lists of owners from a number on, there is nothing of an owner below it
filter-below : (o : ℕ) (ws : List TaggedWord) (n a : ℕ) → o < a → filter (is_of o) (lists_from ws a n) ≡ []
filter-below o ws zero a below = refl
filter-below o ws (suc n) a below =
    filter-append (is_of o) (filter (is_of a) ws) (lists_from ws (a + 1) n)
    ∙ ap (λ xs. xs ++ filter (is_of o) (lists_from ws (a + 1) n)) (filter-other o a (λ e. absurd (omega (arith, e, below))) ws)
    ∙ filter-below o ws n (a + 1) (omega (arith, below))

append_nil : {X : Type 0} (xs : List X) → xs ++ [] ≡ xs
append_nil [] = refl
append_nil (x ∷ xs) = ap (λ ys. x ∷ ys) (append_nil xs)

-- among the lists of owners from a number on, an owner's words are its own list
filter-among : (o : ℕ) (ws : List TaggedWord) (n a : ℕ) → a ≤ o → o < a + n → filter (is_of o) (lists_from ws a n) ≡ filter (is_of o) ws
filter-among o ws zero a from to = absurd (omega (arith, from, to))
filter-among o ws (suc n) a from to = go (filter-among o ws n (a + 1)) (eqb_tells a o)
  where
    go : (a + 1 ≤ o → o < a + 1 + n → filter (is_of o) (lists_from ws (a + 1) n) ≡ filter (is_of o) ws)
        → Yes a o ⊎ No a o
        → filter (is_of o) (filter (is_of a) ws ++ lists_from ws (a + 1) n) ≡ filter (is_of o) ws
    go rest (inl same) =
        filter-append (is_of o) (filter (is_of a) ws) (lists_from ws (a + 1) n)
        ∙ ap (λ xs. filter (is_of o) (filter (is_of a) ws) ++ xs) (filter-below o ws n (a + 1) (omega (arith, same.1)))
        ∙ append_nil (filter (is_of o) (filter (is_of a) ws))
        ∙ ap (λ q. filter (is_of o) (filter (is_of q) ws)) same.1
        ∙ filter-same o ws
    go rest (inr other) =
        filter-append (is_of o) (filter (is_of a) ws) (lists_from ws (a + 1) n)
        ∙ ap (λ xs. xs ++ filter (is_of o) (lists_from ws (a + 1) n)) (filter-other o a other.1 ws)
        ∙ rest (omega (arith, from, other.1)) (omega (arith, to))

pub filter-by_owner : (o : ℕ) (ws : List TaggedWord) → o < 256 → filter (is_of o) (by_owner ws) ≡ filter (is_of o) ws
filter-by_owner o ws small = filter-among o ws 256 0 (omega arith) (omega (arith, small))

-- the words of owners up to o, and of those above it
abbrev low : ℕ → List TaggedWord → List TaggedWord
low o xs = filter (λ v. not (nat_lt o v.cap.owner)) xs

abbrev high : ℕ → List TaggedWord → List TaggedWord
high o xs = filter (λ v. nat_lt o v.cap.owner) xs

-- a list of one owner is all low, or all high
low_all : (o q : ℕ) (ws : List TaggedWord) → q ≤ o → low o (filter (is_of q) ws) ≡ filter (is_of q) ws
low_all o q [] le = refl
low_all o q (w ∷ ws) le = go (low_all o q ws le) (eqb_tells w.cap.owner q)
  where
    go : low o (filter (is_of q) ws) ≡ filter (is_of q) ws → Yes w.cap.owner q ⊎ No w.cap.owner q
        → low o (cond (is_of q w) (w ∷ filter (is_of q) ws) (filter (is_of q) ws)) ≡ cond (is_of q w) (w ∷ filter (is_of q) ws) (filter (is_of q) ws)
    go rest (inl own) = rw (own.0, lt_no o w.cap.owner (omega (arith, own.1, le))) (ap (λ xs. w ∷ xs) rest)
    go rest (inr none) = rw none.0 rest

low_none : (o q : ℕ) (ws : List TaggedWord) → o < q → low o (filter (is_of q) ws) ≡ []
low_none o q [] lt = refl
low_none o q (w ∷ ws) lt = go (low_none o q ws lt) (eqb_tells w.cap.owner q)
  where
    go : low o (filter (is_of q) ws) ≡ [] → Yes w.cap.owner q ⊎ No w.cap.owner q → low o (cond (is_of q w) (w ∷ filter (is_of q) ws) (filter (is_of q) ws)) ≡ []
    go rest (inl own) = rw (own.0, lt_yes o w.cap.owner (omega (arith, own.1, lt))) rest
    go rest (inr none) = rw none.0 rest

high_all : (o q : ℕ) (ws : List TaggedWord) → o < q → high o (filter (is_of q) ws) ≡ filter (is_of q) ws
high_all o q [] lt = refl
high_all o q (w ∷ ws) lt = go (high_all o q ws lt) (eqb_tells w.cap.owner q)
  where
    go : high o (filter (is_of q) ws) ≡ filter (is_of q) ws → Yes w.cap.owner q ⊎ No w.cap.owner q
        → high o (cond (is_of q w) (w ∷ filter (is_of q) ws) (filter (is_of q) ws)) ≡ cond (is_of q w) (w ∷ filter (is_of q) ws) (filter (is_of q) ws)
    go rest (inl own) = rw (own.0, lt_yes o w.cap.owner (omega (arith, own.1, lt))) (ap (λ xs. w ∷ xs) rest)
    go rest (inr none) = rw none.0 rest

high_none : (o q : ℕ) (ws : List TaggedWord) → q ≤ o → high o (filter (is_of q) ws) ≡ []
high_none o q [] le = refl
high_none o q (w ∷ ws) le = go (high_none o q ws le) (eqb_tells w.cap.owner q)
  where
    go : high o (filter (is_of q) ws) ≡ [] → Yes w.cap.owner q ⊎ No w.cap.owner q → high o (cond (is_of q w) (w ∷ filter (is_of q) ws) (filter (is_of q) ws)) ≡ []
    go rest (inl own) = rw (own.0, lt_no o w.cap.owner (omega (arith, own.1, le))) rest
    go rest (inr none) = rw none.0 rest

-- the lists of owners above o are all high
low_above : (o : ℕ) (ws : List TaggedWord) (n a : ℕ) → o < a → low o (lists_from ws a n) ≡ []
low_above o ws zero a lt = refl
low_above o ws (suc n) a lt =
    filter-append (λ v. not (nat_lt o v.cap.owner)) (filter (is_of a) ws) (lists_from ws (a + 1) n)
    ∙ ap (λ xs. xs ++ low o (lists_from ws (a + 1) n)) (low_none o a ws lt)
    ∙ low_above o ws n (a + 1) (omega (arith, lt))

high_above : (o : ℕ) (ws : List TaggedWord) (n a : ℕ) → o < a → high o (lists_from ws a n) ≡ lists_from ws a n
high_above o ws zero a lt = refl
high_above o ws (suc n) a lt =
    filter-append (λ v. nat_lt o v.cap.owner) (filter (is_of a) ws) (lists_from ws (a + 1) n)
    ∙ ap (λ xs. xs ++ high o (lists_from ws (a + 1) n)) (high_all o a ws lt)
    ∙ ap (λ xs. filter (is_of a) ws ++ xs) (high_above o ws n (a + 1) (omega (arith, lt)))

-- one word more, at the end
more_own : (ws : List TaggedWord) (w : TaggedWord) (a : ℕ) → w.cap.owner ≡ a → filter (is_of a) (ws ++ w ∷ []) ≡ filter (is_of a) ws ++ w ∷ []
more_own ws w a own = filter-append (is_of a) ws (w ∷ []) ∙ rw (eq_yes w.cap.owner a own) refl

more_other : (ws : List TaggedWord) (w : TaggedWord) (a : ℕ) → nat_eq w.cap.owner a ≡ false → filter (is_of a) (ws ++ w ∷ []) ≡ filter (is_of a) ws
more_other ws w a other = filter-append (is_of a) ws (w ∷ []) ∙ rw other (append_nil (filter (is_of a) ws))

more_above : (ws : List TaggedWord) (w : TaggedWord) (n a : ℕ) → w.cap.owner < a → lists_from (ws ++ w ∷ []) a n ≡ lists_from ws a n
more_above ws w zero a lt = refl
more_above ws w (suc n) a lt =
    ap (λ xs. xs ++ lists_from (ws ++ w ∷ []) (a + 1) n) (more_other ws w a (lt_differs w.cap.owner a lt))
    ∙ ap (λ xs. filter (is_of a) ws ++ xs) (more_above ws w n (a + 1) (omega (arith, lt)))
  where
    lt_differs : (o q : ℕ) → o < q → nat_eq o q ≡ false
    lt_differs o q less = ⊎_elim (λ (y : Yes o q). absurd (omega (arith, y.1, less))) (λ (m : No o q). m.0) (eqb_tells o q)

entered_from : (ws : List TaggedWord) (w : TaggedWord) (n a : ℕ) → a ≤ w.cap.owner → w.cap.owner < a + n
    → low w.cap.owner (lists_from ws a n) ++ w ∷ high w.cap.owner (lists_from ws a n) ≡ lists_from (ws ++ w ∷ []) a n
entered_from ws w zero a from to = absurd (omega (arith, from, to))
entered_from ws w (suc n) a from to = go (entered_from ws w n (a + 1)) (eqb_tells w.cap.owner a)
  where
    go : (a + 1 ≤ w.cap.owner → w.cap.owner < a + 1 + n → low w.cap.owner (lists_from ws (a + 1) n) ++ w ∷ high w.cap.owner (lists_from ws (a + 1) n) ≡ lists_from (ws ++ w ∷ []) (a + 1) n)
        → Yes w.cap.owner a ⊎ No w.cap.owner a
        → low w.cap.owner (filter (is_of a) ws ++ lists_from ws (a + 1) n) ++ w ∷ high w.cap.owner (filter (is_of a) ws ++ lists_from ws (a + 1) n)
        ≡ filter (is_of a) (ws ++ w ∷ []) ++ lists_from (ws ++ w ∷ []) (a + 1) n
    go later (inl same) =
        let lt : w.cap.owner < a + 1 = omega (arith, same.1) in
        let le : a ≤ w.cap.owner = omega (arith, same.1) in
        let front : low w.cap.owner (filter (is_of a) ws ++ lists_from ws (a + 1) n) ≡ filter (is_of a) ws =
        filter-append (λ v. not (nat_lt w.cap.owner v.cap.owner)) (filter (is_of a) ws) (lists_from ws (a + 1) n)
        ∙ ap (λ xs. xs ++ low w.cap.owner (lists_from ws (a + 1) n)) (low_all w.cap.owner a ws le)
        ∙ ap (λ xs. filter (is_of a) ws ++ xs) (low_above w.cap.owner ws n (a + 1) lt)
        ∙ append_nil (filter (is_of a) ws) in
        let back : high w.cap.owner (filter (is_of a) ws ++ lists_from ws (a + 1) n) ≡ lists_from ws (a + 1) n =
        filter-append (λ v. nat_lt w.cap.owner v.cap.owner) (filter (is_of a) ws) (lists_from ws (a + 1) n)
        ∙ ap (λ xs. xs ++ high w.cap.owner (lists_from ws (a + 1) n)) (high_none w.cap.owner a ws le)
        ∙ high_above w.cap.owner ws n (a + 1) lt in
        ap (λ xs. xs ++ w ∷ high w.cap.owner (filter (is_of a) ws ++ lists_from ws (a + 1) n)) front
        ∙ ap (λ xs. filter (is_of a) ws ++ w ∷ xs) (back ∙ sym (more_above ws w n (a + 1) lt))
        ∙ sym (append_assoc (filter (is_of a) ws) (w ∷ []) (lists_from (ws ++ w ∷ []) (a + 1) n))
        ∙ ap (λ xs. xs ++ lists_from (ws ++ w ∷ []) (a + 1) n) (sym (more_own ws w a same.1))
    go later (inr other) =
        let above : a + 1 ≤ w.cap.owner = omega (arith, other.1, from) in
        let le : a ≤ w.cap.owner = omega (arith, above) in
        let front : low w.cap.owner (filter (is_of a) ws ++ lists_from ws (a + 1) n) ≡ filter (is_of a) ws ++ low w.cap.owner (lists_from ws (a + 1) n) =
        filter-append (λ v. not (nat_lt w.cap.owner v.cap.owner)) (filter (is_of a) ws) (lists_from ws (a + 1) n)
        ∙ ap (λ xs. xs ++ low w.cap.owner (lists_from ws (a + 1) n)) (low_all w.cap.owner a ws le) in
        let back : high w.cap.owner (filter (is_of a) ws ++ lists_from ws (a + 1) n) ≡ high w.cap.owner (lists_from ws (a + 1) n) =
        filter-append (λ v. nat_lt w.cap.owner v.cap.owner) (filter (is_of a) ws) (lists_from ws (a + 1) n)
        ∙ ap (λ xs. xs ++ high w.cap.owner (lists_from ws (a + 1) n)) (high_none w.cap.owner a ws le) in
        ap (λ xs. xs ++ w ∷ high w.cap.owner (filter (is_of a) ws ++ lists_from ws (a + 1) n)) front
        ∙ ap (λ xs. (filter (is_of a) ws ++ low w.cap.owner (lists_from ws (a + 1) n)) ++ w ∷ xs) back
        ∙ append_assoc (filter (is_of a) ws) (low w.cap.owner (lists_from ws (a + 1) n)) (w ∷ high w.cap.owner (lists_from ws (a + 1) n))
        ∙ ap (λ xs. filter (is_of a) ws ++ xs) (later above (omega (arith, to)))
        ∙ ap (λ xs. xs ++ lists_from (ws ++ w ∷ []) (a + 1) n) (sym (more_other ws w a other.0))

pub entered-by_owner : (ws : List TaggedWord) (w : TaggedWord) → w.cap.owner < 256 → entered (by_owner ws) w ≡ by_owner (ws ++ w ∷ [])
entered-by_owner ws w small = entered_from ws w 256 0 (omega arith) (omega (arith, small))

-- an element that passes is found
find-any : (p : TaggedWord → Bool) (xs : List TaggedWord) → is_some (find p xs) ≡ list_any p xs
find-any p [] = refl
find-any p (x ∷ xs) = go (find-any p xs) (p x) refl
  where
    go : is_some (find p xs) ≡ list_any p xs → (b : Bool) → p x ≡ b → is_some (cond (p x) (Some x) (find p xs)) ≡ (p x || list_any p xs)
    go rest true is = rw is refl
    go rest false is = rw is rest

any-append : (p : TaggedWord → Bool) (xs ys : List TaggedWord) → list_any p (xs ++ ys) ≡ (list_any p xs || list_any p ys)
any-append p [] ys = refl
any-append p (x ∷ xs) ys = go (any-append p xs ys) (p x) refl
  where
    go : list_any p (xs ++ ys) ≡ (list_any p xs || list_any p ys) → (b : Bool) → p x ≡ b → (p x || list_any p (xs ++ ys)) ≡ (p x || list_any p xs || list_any p ys)
    go rest true is = rw is refl
    go rest false is = rw is rest

any-filter : (p t : TaggedWord → Bool) (xs : List TaggedWord) → list_any p (filter t xs) ≡ list_any (λ x. t x && p x) xs
any-filter p t [] = refl
any-filter p t (x ∷ xs) = go (any-filter p t xs) (t x) refl
  where
    go : list_any p (filter t xs) ≡ list_any (λ x. t x && p x) xs → (b : Bool) → t x ≡ b
        → list_any p (cond (t x) (x ∷ filter t xs) (filter t xs)) ≡ (t x && p x || list_any (λ x. t x && p x) xs)
    go rest true is = rw is (ap (λ r. p x || r) rest)
    go rest false is = rw is rest

any-none : (p : TaggedWord → Bool) (xs : List TaggedWord) → list_any (λ x. false && p x) xs ≡ false
any-none p [] = refl
any-none p (x ∷ xs) = any-none p xs

-- either of two tests, and a third
mixed : (a b p x y : Bool) → ((a || b) && p || (x || y)) ≡ ((a && p || x) || (b && p || y))
mixed true b true x y = refl
mixed true true false x y = refl
mixed true false false x y = refl
mixed false true true true y = refl
mixed false true true false y = refl
mixed false true false x y = refl
mixed false false p x y = refl

any-either : (a b p : TaggedWord → Bool) (xs : List TaggedWord)
    → list_any (λ x. (a x || b x) && p x) xs ≡ (list_any (λ x. a x && p x) xs || list_any (λ x. b x && p x) xs)
any-either a b p [] = refl
any-either a b p (x ∷ xs) =
    ap (λ r. (a x || b x) && p x || r) (any-either a b p xs)
    ∙ mixed (a x) (b x) (p x) (list_any (λ x. a x && p x) xs) (list_any (λ x. b x && p x) xs)

-- a word of the owners' lists that passes is a word of one of the owners that passes
any-lists : (p : TaggedWord → Bool) (ws : List TaggedWord) (os : List ℕ)
    → list_any p (flat_map (λ o. filter (is_of o) ws) os) ≡ list_any (λ w. list_any (λ o. is_of o w) os && p w) ws
any-lists p ws [] = sym (any-none p ws)
any-lists p ws (o ∷ os) =
    any-append p (filter (is_of o) ws) (flat_map (λ q. filter (is_of q) ws) os)
    ∙ ap (λ r. r || list_any p (flat_map (λ q. filter (is_of q) ws) os)) (any-filter p (is_of o) ws)
    ∙ ap (λ r. list_any (λ w. is_of o w && p w) ws || r) (any-lists p ws os)
    ∙ sym (any-either (is_of o) (λ w. list_any (λ q. is_of q w) os) p ws)

-- an owner below the end of a range is in it
any-range : (o n a : ℕ) → a ≤ o → o < a + n → list_any (λ q. nat_eq o q) (range_with_len a n) ≡ true
any-range o zero a from to = absurd (omega (arith, from, to))
any-range o (suc n) a from to = go (any-range o n (a + 1)) (eqb_tells o a)
  where
    go : (a + 1 ≤ o → o < a + 1 + n → list_any (λ q. nat_eq o q) (range_with_len (a + 1) n) ≡ true)
        → Yes o a ⊎ No o a
        → (nat_eq o a || list_any (λ q. nat_eq o q) (range_with_len (a + 1) n)) ≡ true
    go rest (inl same) = rw same.0 refl
    go rest (inr other) = rw other.0 (rest (omega (arith, from, other.1)) (omega (arith, to)))

any-small : (p : TaggedWord → Bool) (ws : List TaggedWord) → All (λ w. w.cap.owner < 256) ws
    → list_any (λ w. list_any (λ o. is_of o w) (range_with_len 0 256) && p w) ws ≡ list_any p ws
any-small p [] small = refl
any-small p (w ∷ ws) small =
    let here : w.cap.owner < 256 = small 0 w (omega arith) in
    ap (λ r. r && p w || list_any (λ w. list_any (λ o. is_of o w) (range_with_len 0 256) && p w) ws) (any-range w.cap.owner 256 0 (omega arith) (omega (arith, here)))
    ∙ ap (λ r. p w || r) (any-small p ws (λ k d low. small (suc k) d (omega (arith, low))))

pub find-by_owner : (granule : ℕ) (ws : List TaggedWord) → All (λ w. w.cap.owner < 256) ws
    → is_some (find (stands_at granule) (by_owner ws)) ≡ list_any (stands_at granule) ws
find-by_owner granule ws small =
    find-any (stands_at granule) (by_owner ws)
    ∙ any-lists (stands_at granule) ws (range_with_len 0 256)
    ∙ any-small (stands_at granule) ws small

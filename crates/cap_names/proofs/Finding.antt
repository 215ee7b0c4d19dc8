-- What a search among the keys of an index tells of the names.
use Rattle.std.proofs.Common.{◌≡◌, ℕ, ◌+◌, ◌-◌, ◌/◌, ◌%◌, ◌^◌, ◌<◌, ◌≤◌, List, [], Bool, true, false, cond, ◌&&◌, Option, Some, None, length, get_or, refl, sym, ap, subst, ◌∙◌, arith, eq-eqb, eqb-true}
use Rattle.std.specs.Prelude.{◌==◌, bytes_eq, nat_lt, position}
use Rattle.std.proofs.lemmas.Bool.{false_from_ne_true, lt-ltb}
use Rattle.std.proofs.lemmas.List.Sums.{position_or_len_is}
use Rattle.std.proofs.lemmas.Map.Keys.{apart_from_distinct}
use Rattle.std.proofs.lemmas.Slice.Eq.{bytes_eq-Decides}
use Rattle.std.specs.Cmp.Lexicographic.{slice_cmp}
use Rattle.std.specs.declared.cmp.Ordering.{Ordering}
use Rattle.std.specs.declared.cmp.Ordering.TheVariants.{Less, Greater}
use Rattle.std.specs.Ordering.{nat_cmp, ordering_then, is_lt, is_gt}
use Rattle.cap_names.specs.Hash.{hash_by, spread_of}
use Rattle.cap_names.specs.declared.hashing.NameHash.{NameHash}
use Rattle.cap_names.specs.Named.{Named, name_at, is_defined_at, matches, first_defined, AreDistinct, IsOnly}
use Rattle.cap_names.specs.Keys.{Rank, rank_cmp, rank_at, is_below, has_rank, name_of, place_of, IsIndexOf, AreHashed, HasHash, IsWindow}
use Rattle.cap_names.proofs.Making.{defined_inside}
use Rattle.cap_names.proofs.Ranks.{turned, between, ranks_ascend, least_first, not_below, below_before, same_not_below}

position_is : {X : Type 0} (p : X → Bool) (xs : List X) (i : ℕ) (d : X) → i < length xs → ((k : ℕ) → k < i → p (get_or xs k d) ≡ false) → p (get_or xs i d) ≡ true → position p xs ≡ Some i
position_is p xs i d below others here =
    ap (λ (n : ℕ). cond (nat_lt n (length xs)) (Some n) None) (position_or_len_is p xs i d (omega arith) others (λ _. here))
    ∙ ap (λ (b : Bool). cond b (Some i) None) (lt-ltb i (length xs) below)

position_none : {X : Type 0} (p : X → Bool) (xs : List X) (d : X) → ((k : ℕ) → k < length xs → p (get_or xs k d) ≡ false) → position p xs ≡ None
position_none p xs d others =
    ap (λ (n : ℕ). cond (nat_lt n (length xs)) (Some n) None) (position_or_len_is p xs (length xs) d (omega arith) others (λ h. absurd (omega (arith, h))))
    ∙ ap (λ (b : Bool). cond b (Some (length xs)) None) (let no : nat_lt (length xs) (length xs) ≡ false = grind arith in no)

pub both_true : (a b : Bool) → (a && b) ≡ true → (a ≡ true) × (b ≡ true)
both_true true b h = (refl, h)
both_true false b h = absurd (cc)

pub are_both : (a b : Bool) → a ≡ true → b ≡ true → (a && b) ≡ true
are_both a b p q = ap (λ (x : Bool). x && b) p ∙ q

-- the keys of a name have the hash by which all are placed
pub has_hash : (rule : NameHash) (names : List Named) (keys : List ℕ) (name : List ℕ) (hash placed : ℕ) → AreHashed rule names keys → hash ≡ hash_by rule name → placed ≡ spread_of hash → HasHash names keys placed name
has_hash rule names keys name hash placed hashed is spread = λ k h same. hashed k h ∙ ap (place_of rule) same ∙ sym (ap spread_of is) ∙ sym spread

module _ (names : List Named) (keys : List ℕ) (index : IsIndexOf names keys) where
  module _ (hash : ℕ) (name : List ℕ) (has : HasHash names keys hash name) (at : ℕ) (window : IsWindow names keys (hash, name) at at) where
    abbrev test : Named → Bool
    test p = p.1 && bytes_eq p.0 name

    -- an index that is defined and has the name has its place from here on
    match_behind : (i : ℕ) → test (get_or names i ([], false)) ≡ true → (k : ℕ) × (at ≤ k) × (k < length keys) × (get_or keys k 0 % 2 ^ 32 ≡ i) × (rank_at names keys k ≡ (hash, name))
    match_behind i h =
        let both = both_true _ _ h in
        let r = index.complete i both.0 in
        let named : name_of names keys r.0 ≡ name = ap (name_at names) r.2 ∙ (bytes_eq-Decides (name_at names i) name).0 both.1 in
        let is : rank_at names keys r.0 ≡ (hash, name) = ap (λ (n : ℕ). let p : Rank = (n, name_of names keys r.0) in p) (has r.0 r.1 named) ∙ ap (λ (n : List ℕ). let p : Rank = (hash, n) in p) named in
        let high : is_below (rank_at names keys r.0) (hash, name) ≡ false = same_not_below names keys index _ _ is in
        let low : r.0 < at → is_below (rank_at names keys r.0) (hash, name) ≡ true = window.before r.0 in
        (r.0, grind (arith, low, high), r.1, r.2, is)

    rank_is : at < length keys → has_rank names (get_or keys at 0) hash name ≡ true → rank_at names keys at ≡ (hash, name)
    rank_is h passed =
        let both = both_true _ _ passed in
        ap (λ (n : ℕ). let p : Rank = (n, name_at names (get_or keys at 0 % 2 ^ 32)) in p) (eqb-true _ _ both.0)
        ∙ ap (λ (n : List ℕ). let p : Rank = (hash, n) in p) ((bytes_eq-Decides _ _).0 both.1)

    is_rank : rank_at names keys at ≡ (hash, name) → has_rank names (get_or keys at 0) hash name ≡ true
    is_rank is = are_both _ _ (eq-eqb _ _ (ap (λ (r : Rank). r.0) is)) ((bytes_eq-Decides _ _).1 (ap (λ (r : Rank). r.1) is))

    pub found_here : at < length keys → has_rank names (get_or keys at 0) hash name ≡ true → first_defined names name ≡ Some (get_or keys at 0 % 2 ^ 32)
    found_here h passed =
        let key = index.sound at h in
        let here : bytes_eq (name_at names (get_or keys at 0 % 2 ^ 32)) name ≡ true = (both_true (get_or keys at 0 / 2 ^ 32 == hash) (bytes_eq (name_at names (get_or keys at 0 % 2 ^ 32)) name) passed).1 in
        position_is test names (get_or keys at 0 % 2 ^ 32) ([], false) key.inside
        (λ k less. false_from_ne_true _ (λ (t : test (get_or names k ([], false)) ≡ true).
        let r = match_behind k t in
        let least = least_first names keys index at r.0 r.1 r.2 (r.4 ∙ sym (rank_is h passed)) in
        absurd (omega (arith, least, less, r.3))))
        (are_both _ _ key.defined here)

    pub found_none : (at < length keys → has_rank names (get_or keys at 0) hash name ≡ false) → first_defined names name ≡ None
    found_none missing =
        position_none test names ([], false) (λ k _. false_from_ne_true _ (λ (t : test (get_or names k ([], false)) ≡ true).
        let r = match_behind k t in
        let h : at < length keys = omega (arith, r.1, r.2) in
        let up = subst (λ (x : Rank). is_gt (rank_cmp (rank_at names keys at) x) ≡ false) r.4 (ranks_ascend names keys index at r.0 r.1 r.2) in
        let same = between (rank_at names keys at) (hash, name) up (turned (hash, name) (rank_at names keys at) (window.behind at (omega arith) h)) in
        let yes = is_rank same in
        let no = missing h in
        absurd (cc (yes, no))))

    pub found_past : at ≡ length keys → first_defined names name ≡ None
    found_past is = found_none (λ h. absurd (omega (arith, h, is)))

-- of distinct names, the one that is found is the only one
pub only_first : (names : List Named) (name : List ℕ) (found : Option ℕ) → found ≡ first_defined names name → AreDistinct names → IsOnly names name found
only_first names name found is distinct k here =
    let test : Named → Bool = λ p. p.1 && bytes_eq p.0 name in
    let second = both_true (is_defined_at names k) (bytes_eq (name_at names k) name) here in
    let inside = defined_inside names k second.0 in
    is ∙ position_is test names k ([], false) inside
    (λ i less. false_from_ne_true _ (λ (t : matches names name i ≡ true).
    let first = both_true (is_defined_at names i) (bytes_eq (name_at names i) name) t in
    let same : name_at names i ≡ name_at names k = (bytes_eq-Decides (name_at names i) name).0 first.1 ∙ sym ((bytes_eq-Decides (name_at names k) name).0 second.1) in
    let equal = are_both (is_defined_at names i && is_defined_at names k) (bytes_eq (name_at names i) (name_at names k)) (are_both _ _ first.0 second.0) ((bytes_eq-Decides _ _).1 same) in
    let apart = apart_from_distinct (λ a b. a.1 && b.1 && bytes_eq a.0 b.0) names i k ([], false) distinct less inside in
    absurd (cc (equal, apart))))
    here

-- hashes decide
lesser : (a b : Rank) → a.0 < b.0 → is_below a b ≡ true
lesser (h, n) (k, m) less = let one : nat_cmp h k ≡ Less = grind (arith, less) in ap (λ (o : Ordering). is_lt (ordering_then o (slice_cmp nat_cmp n m))) one

greater : (a b : Rank) → b.0 < a.0 → is_below a b ≡ false
greater (h, n) (k, m) more = let one : nat_cmp h k ≡ Greater = grind (arith, more) in ap (λ (o : Ordering). is_lt (ordering_then o (slice_cmp nat_cmp n m))) one

-- windows
module _ (names : List Named) (keys : List ℕ) (index : IsIndexOf names keys) (target : Rank) where
  pub whole_window : IsWindow names keys target 0 (length keys)
  whole_window = record {
    order = omega arith;
    inside = omega arith;
    before = λ k h. absurd (omega (arith, h));
    behind = λ k h l. absurd (omega (arith, h, l));
  }

  -- a key that is below the target moves the window up
  pub window_up : (low high mid : ℕ) → IsWindow names keys target low high → mid < high → is_below (rank_at names keys mid) target ≡ true → IsWindow names keys target (mid + 1) high
  window_up low high mid w below is = record {
    order = omega (arith, below);
    inside = w.inside;
    before = λ k h. below_before names keys index target k mid (omega (arith, h)) (omega (arith, below, w.inside)) is;
    behind = w.behind;
  }

  -- one that isn't moves it down
  pub window_down : (low high mid : ℕ) → IsWindow names keys target low high → low ≤ mid → mid < high → is_below (rank_at names keys mid) target ≡ false → IsWindow names keys target low mid
  window_down low high mid w above below is = record {
    order = above;
    inside = omega (arith, below, w.inside);
    before = w.before;
    behind = λ k h l. not_below names keys index target mid k h l is;
  }

  -- a window whose neighbours have other hashes
  pub guessed_window : (low high : ℕ) → low ≤ high → high ≤ length keys → (0 < low → get_or keys (low - 1) 0 / 2 ^ 32 < target.0) → (high < length keys → target.0 < get_or keys high 0 / 2 ^ 32) → IsWindow names keys target low high
  guessed_window low high order inside less more = record {
    order = order;
    inside = inside;
    before = λ k h. below_before names keys index target k (low - 1) (omega (arith, h)) (omega (arith, h, order, inside)) (lesser (rank_at names keys (low - 1)) target (less (omega (arith, h))));
    behind = λ k h l. not_below names keys index target high k h l (greater (rank_at names keys high) target (more (omega (arith, h, l))));
  }

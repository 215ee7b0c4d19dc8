-- A word comes last of its owner's.
use Rattle.std.proofs.Common.{◌≡◌, ℕ, ◌+◌, ◌*◌, ◌<◌, ◌≤◌, true, false, not, List, [], ◌∷◌, length, refl, ap, sym, ◌∙◌, arith, nat_eq, nat_lt, ⊎_elim, set, slice_index}
use Rattle.std.specs.Prelude.{◌≢◌, filter}
use Rattle.std.proofs.lemmas.Bool.Decides.{eqb_tells}
use Rattle.std.proofs.lemmas.List.{get_or-set_same, get_or-set_other}
use Rattle.cap_own.specs.Cap.{Cap}
use Rattle.cap_mem.specs.Tagged.{TaggedWord, entered}
use Rattle.cap_mem.specs.Held.{words_of, Owned}
use Rattle.cap_mem.specs.Chain.{has, with_before, NotIn}
use Rattle.cap_mem.proofs.Chains.{Yes, No, notin_has}
use Rattle.cap_mem.proofs.Tables.{before_head}
use Rattle.cap_mem.proofs.Granules.{In, Out, lt_tells, lt_yes, lt_no, eq_no, word, words_head}

abbrev pub OwnedBy : ℕ → (ℕ → Cap) → ℕ → List ℕ → Type 0
OwnedBy size caps p xs = Owned size (λ g. (caps g).owner) p xs

-- the words of a chain without g do not depend on what stands at g
words_same : (base size : ℕ) (caps caps' : ℕ → Cap) (nt nt' : ℕ → ℕ) (g : ℕ) (xs : List ℕ) → NotIn g xs → ((i : ℕ) → i ≢ g → caps' i ≡ caps i) → ((i : ℕ) → i ≢ g → nt' i ≡ nt i)
    → words_of base size caps' nt' xs ≡ words_of base size caps nt xs
words_same base size caps caps' nt nt' g [] out fo fn = refl
words_same base size caps caps' nt nt' g (x ∷ xs) out fo fn = ⊎_elim
    (λ (i : In x size). rw (i.0, fo x (λ e. out.0 (sym e)), fn x (λ e. out.0 (sym e))) (ap (λ ws. word base caps nt x ∷ ws) (words_same base size caps caps' nt nt' g xs out.1 fo fn)))
    (λ (o : Out x size). rw o.0 (words_same base size caps caps' nt nt' g xs out.1 fo fn))
    (lt_tells x size)

-- all owners from here on are above o
none_low : (base size o p : ℕ) (caps : ℕ → Cap) (nt : ℕ → ℕ) (xs : List ℕ) → OwnedBy size caps p xs → o < p → filter (λ v. not (nat_lt o v.cap.owner)) (words_of base size caps nt xs) ≡ []
none_low base size o p caps nt [] h lt = refl
none_low base size o p caps nt (x ∷ xs) h lt = ⊎_elim
    (λ (i : In x size). let k = rw i.0 at h in rw (i.0, lt_yes o (caps x).owner (omega (arith, k.0, lt))) (none_low base size o p caps nt xs k.1 lt))
    (λ (q : Out x size). let k = rw q.0 at h in rw q.0 (none_low base size o (p + 1) caps nt xs k.1 (omega (arith, lt))))
    (lt_tells x size)

all_high : (base size o p : ℕ) (caps : ℕ → Cap) (nt : ℕ → ℕ) (xs : List ℕ) → OwnedBy size caps p xs → o < p → filter (λ v. nat_lt o v.cap.owner) (words_of base size caps nt xs) ≡ words_of base size caps nt xs
all_high base size o p caps nt [] h lt = refl
all_high base size o p caps nt (x ∷ xs) h lt = ⊎_elim
    (λ (i : In x size). let k = rw i.0 at h in rw (i.0, lt_yes o (caps x).owner (omega (arith, k.0, lt))) (ap (λ ws. word base caps nt x ∷ ws) (all_high base size o p caps nt xs k.1 lt)))
    (λ (q : Out x size). let k = rw q.0 at h in rw q.0 (all_high base size o (p + 1) caps nt xs k.1 (omega (arith, lt))))
    (lt_tells x size)

abbrev new_word : ℕ → Cap → ℕ → TaggedWord
new_word granule cap note = record { granule = granule; cap = cap; note = note }

words_before : (base size p : ℕ) (cap : Cap) (caps caps' : ℕ → Cap) (nt nt' : ℕ → ℕ) (g n : ℕ) (xs : List ℕ)
    → OwnedBy size caps p xs → p ≤ cap.owner → NotIn g xs → has (size + cap.owner + 1) xs ≡ true → g < size
    → ((i : ℕ) → i ≢ g → caps' i ≡ caps i) → ((i : ℕ) → i ≢ g → nt' i ≡ nt i) → caps' g ≡ cap → nt' g ≡ n
    → words_of base size caps' nt' (with_before g (size + cap.owner + 1) xs) ≡ entered (words_of base size caps nt xs) (new_word (base + 16 * g) cap n)
words_before base size p cap caps caps' nt nt' g n [] h le out stands small fo fn eo en = absurd (cc)
words_before base size p cap caps caps' nt nt' g n (x ∷ xs) h le out stands small fo fn eo en = ⊎_elim
    (λ (i : In x size).
    let k = rw i.0 at h in
    let ne : nat_eq x (size + cap.owner + 1) ≡ false = eq_no x (size + cap.owner + 1) (λ e. absurd (omega (arith, e, i.1))) in
    rw (ne, i.0, fo x (λ e. out.0 (sym e)), fn x (λ e. out.0 (sym e)), lt_no cap.owner (caps x).owner (omega (arith, k.0, le)))
    (ap (λ ws. word base caps nt x ∷ ws) (words_before base size p cap caps caps' nt nt' g n xs k.1 le out.1 (rw ne at stands) small fo fn eo en)))
    (λ (q : Out x size).
    let k = rw q.0 at h in
    ⊎_elim
    (λ (same : Yes x (size + cap.owner + 1)).
    let lt : cap.owner < p + 1 = omega (arith, same.1, k.0) in
    rw (same.0, q.0, none_low base size cap.owner (p + 1) caps nt xs k.1 lt, all_high base size cap.owner (p + 1) caps nt xs k.1 lt, lt_yes g size small, eo, en)
    (ap (λ ws. new_word (base + 16 * g) cap n ∷ ws) (words_same base size caps caps' nt nt' g xs out.1 fo fn)))
    (λ (other : No x (size + cap.owner + 1)).
    rw (other.0, q.0) (words_before base size (p + 1) cap caps caps' nt nt' g n xs k.1 (omega (arith, other.1, k.0, le)) out.1 (rw other.0 at stands) small fo fn eo en))
    (eqb_tells x (size + cap.owner + 1)))
    (lt_tells x size)

owned_same : (size : ℕ) (ow ow' : ℕ → ℕ) (p g : ℕ) (xs : List ℕ) → NotIn g xs → ((i : ℕ) → i ≢ g → ow' i ≡ ow i) → Owned size ow p xs → Owned size ow' p xs
owned_same size ow ow' p g [] out fo h = tt
owned_same size ow ow' p g (x ∷ xs) out fo h = ⊎_elim
    (λ (i : In x size). let k = rw i.0 at h in rw i.0 (fo x (λ e. out.0 (sym e)) ∙ k.0, owned_same size ow ow' p g xs out.1 fo k.1))
    (λ (q : Out x size). let k = rw q.0 at h in rw q.0 (k.0, owned_same size ow ow' (p + 1) g xs out.1 fo k.1))
    (lt_tells x size)

pub owned_before : (size o p : ℕ) (ow ow' : ℕ → ℕ) (g : ℕ) (xs : List ℕ) → Owned size ow p xs → p ≤ o → NotIn g xs → g < size
    → ((i : ℕ) → i ≢ g → ow' i ≡ ow i) → ow' g ≡ o → Owned size ow' p (with_before g (size + o + 1) xs)
owned_before size o p ow ow' g [] h le out small fo eo = tt
owned_before size o p ow ow' g (x ∷ xs) h le out small fo eo = ⊎_elim
    (λ (i : In x size).
    let k = rw i.0 at h in
    ⊎_elim
    (λ (same : Yes x (size + o + 1)). absurd (omega (arith, same.1, i.1)))
    (λ (other : No x (size + o + 1)). rw (other.0, i.0) (fo x (λ e. out.0 (sym e)) ∙ k.0, owned_before size o p ow ow' g xs k.1 le out.1 small fo eo))
    (eqb_tells x (size + o + 1)))
    (λ (q : Out x size).
    let k = rw q.0 at h in
    ⊎_elim
    (λ (same : Yes x (size + o + 1)).
    let po : p ≡ o = omega (arith, same.1, k.0) in
    rw (same.0, lt_yes g size small, q.0) (eo ∙ sym po, (k.0, owned_same size ow ow' (p + 1) g xs out.1 fo k.1)))
    (λ (other : No x (size + o + 1)). rw (other.0, q.0) (k.0, owned_before size o (p + 1) ow ow' g xs k.1 (omega (arith, other.1, k.0, le)) out.1 small fo eo))
    (eqb_tells x (size + o + 1)))
    (lt_tells x size)

-- the words of a chain with one more
pub words_put : (base size : ℕ) (cap : Cap) (caps caps' : ℕ → Cap) (nt nt' : ℕ → ℕ) (g n : ℕ) (chain rest : List ℕ)
    → chain ≡ size ∷ rest → OwnedBy size caps 0 rest → has g chain ≡ false → has (size + cap.owner + 1) rest ≡ true → g < size
    → ((i : ℕ) → i ≢ g → caps' i ≡ caps i) → ((i : ℕ) → i ≢ g → nt' i ≡ nt i) → caps' g ≡ cap → nt' g ≡ n
    → words_of base size caps' nt' (with_before g (size + cap.owner + 1) chain) ≡ entered (words_of base size caps nt chain) (record { granule = base + 16 * g; cap = cap; note = n })
words_put base size cap caps caps' nt nt' g n chain rest e h out stands small fo fn eo en =
    let apart : NotIn g (size ∷ rest) = notin_has g (size ∷ rest) (ap (λ cs. has g cs) (sym e) ∙ out) in
    ap (λ cs. words_of base size caps' nt' (with_before g (size + cap.owner + 1) cs)) e
    ∙ ap (words_of base size caps' nt') (before_head size g (size + cap.owner + 1) rest (omega arith))
    ∙ words_head base size caps' nt' (with_before g (size + cap.owner + 1) rest)
    ∙ words_before base size 0 cap caps caps' nt nt' g n rest h (omega arith) apart.1 stands small fo fn eo en
    ∙ ap (λ ws. entered ws (new_word (base + 16 * g) cap n)) (sym (words_head base size caps nt rest) ∙ ap (words_of base size caps nt) (sym e))

pub has_tail : (s size : ℕ) (rest : List ℕ) → has s rest ≡ true → has s (size ∷ rest) ≡ true
has_tail s size rest h = ⊎_elim (λ (q : Yes size s). rw q.0 refl) (λ (q : No size s). rw q.0 h) (eqb_tells size s)

pub low_set : (xs : List ℕ) (g o : ℕ) → g < length xs → o < 256 → ((k : ℕ) → slice_index xs k < 256) → (k : ℕ) → slice_index (set xs g o) k < 256
low_set xs g o inside low h k = ⊎_elim
    (λ (q : Yes k g). let e : slice_index (set xs g o) k ≡ o = ap (λ j. slice_index (set xs g o) j) q.1 ∙ get_or-set_same xs g o 0 inside in omega (arith, e, low))
    (λ (q : No k g). let e : slice_index (set xs g o) k ≡ slice_index xs k = get_or-set_other xs g k o 0 q.1 in let b = h k in omega (arith, e, b))
    (eqb_tells k g)

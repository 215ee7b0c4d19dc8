-- The data of loaded objects are one, or share no byte: of one object, and of any two.
use Rattle.std.proofs.Common.{◌≡◌, ℕ, ◌<◌, false, inl, inr, ⊎_elim, List, length, get_or, ap, sym, subst, arith}
use Rattle.std.specs.Prelude.{All, AllPairs}
use Rattle.std.proofs.lemmas.Bool.{cases_order, le-ltb, ltb-false}
use Rattle.std.proofs.lemmas.List.{get_or-map, get_or_default, length-map}
use Rattle.std.proofs.lemmas.List.Elements.{All-from_get_or}
use Rattle.cap_base.specs.Lists.{share_byte}
use Rattle.cap_fits.specs.Fits as fits
use Rattle.cap_fits.specs.Fits.{Apart, DataLieApart, IsOneOrApart, Placed, loaded_intervals}
use Rattle.cap_session.specs.Exact.{placed_objects}
use Rattle.cap_session.specs.Loading.{Loaded, records_of}
use Rattle.cap_exact.specs.Loads.{AreOneOrApart, ShareNone, loaded_data}
use Rattle.cap_exact.proofs.Standing.{no_object}

share-turned : (x y : ℕ × ℕ) → share_byte x y ≡ false → share_byte y x ≡ false
share-turned x y e = let le = ltb-false _ _ e in le-ltb _ _ (omega (arith, le))

turned : (x y : ℕ × ℕ) → IsOneOrApart x y → IsOneOrApart y x
turned x y (inl e) = inl (sym e)
turned x y (inr e) = inr (share-turned x y e)

-- places of a list, in any order
any-order : (P : ℕ → ℕ → Type 0) (i j : ℕ) → (i < j → P i j) → (j < i → P i j) → (i ≡ j → P i j) → P i j
any-order P i j before behind same =
    ⊎_elim same (⊎_elim before behind) (cases_order i j)

own-apart : (xs : List (ℕ × ℕ)) → AllPairs IsOneOrApart xs → AreOneOrApart xs xs
own-apart xs h =
    All-from_get_or (λ (x : ℕ × ℕ). All (IsOneOrApart x) xs) xs (0, 0) (λ i lt.
    All-from_get_or (IsOneOrApart (get_or xs i (0, 0))) xs (0, 0) (λ j lt'.
    any-order (λ (i j : ℕ). IsOneOrApart (get_or xs i (0, 0)) (get_or xs j (0, 0))) i j
    (λ before. h i j (0, 0) before lt')
    (λ behind. turned (get_or xs j (0, 0)) (get_or xs i (0, 0)) (h j i (0, 0) behind lt))
    (λ same. inl (ap (λ (k : ℕ). get_or xs k (0, 0)) same))))

abbrev place : Loaded → Placed
place o = (records_of o, o.base)

abbrev object_at : List Loaded → ℕ → Loaded
object_at objects i = get_or objects i no_object

placed-at : (objects : List Loaded) (i : ℕ) → i < length objects → get_or (placed_objects objects) i (place no_object) ≡ place (object_at objects i)
placed-at objects i lt = get_or-map place objects i no_object (place no_object) lt

-- of one object whose data lie apart
own-at : (objects : List Loaded) (i : ℕ) → DataLieApart (placed_objects objects) → i < length objects → Apart (records_of (object_at objects i)) → AreOneOrApart (loaded_data (object_at objects i)) (loaded_data (object_at objects i))
own-at objects i h lt apart =
    let many = length-map objects place in
    let is = placed-at objects i lt in
    subst (λ (a : Placed). Apart a.0 → AreOneOrApart (loaded_intervals a.0 a.1) (loaded_intervals a.0 a.1)) is (λ x. own-apart _ (h.own i (place no_object) (omega (arith, many, lt)) x)) apart

-- of two objects whose own data lie apart
others-at : (objects : List Loaded) (i j : ℕ) → DataLieApart (placed_objects objects) → i < j → j < length objects → Apart (records_of (object_at objects i)) → Apart (records_of (object_at objects j))
    → ShareNone (loaded_data (object_at objects i)) (loaded_data (object_at objects j))
others-at objects i j h before lt first second =
    let many = length-map objects place in
    let one = placed-at objects i (omega (arith, before, lt)) in
    let other = placed-at objects j lt in
    subst (λ (a : Placed). fits.ShareNone a (place (object_at objects j))) one
    (subst (λ (b : Placed). fits.ShareNone (get_or (placed_objects objects) i (place no_object)) b) other (h.others i j (place no_object) before (omega (arith, many, lt)))) first second

-- of the objects whose files are some
pub some-own : (objects : List Loaded) (L : List ℕ → Type 0) → DataLieApart (placed_objects objects) → All (λ (o : Loaded). L o.source.bytes → Apart (records_of o)) objects
    → All (λ o. L o.source.bytes → AreOneOrApart (loaded_data o) (loaded_data o)) objects
some-own objects L h own =
    All-from_get_or (λ (o : Loaded). L o.source.bytes → AreOneOrApart (loaded_data o) (loaded_data o)) objects no_object (λ i lt. λ is. own-at objects i h lt (own i no_object lt is))

pub some-others : (objects : List Loaded) (L : List ℕ → Type 0) → DataLieApart (placed_objects objects) → All (λ (o : Loaded). L o.source.bytes → Apart (records_of o)) objects
    → AllPairs (λ a b. L a.source.bytes → L b.source.bytes → ShareNone (loaded_data a) (loaded_data b)) objects
some-others objects L h own = λ i j d before lt.
    let low : i < length objects = omega (arith, before, lt) in
    let one : get_or objects i no_object ≡ get_or objects i d = get_or_default objects i no_object d low in
    let other : get_or objects j no_object ≡ get_or objects j d = get_or_default objects j no_object d lt in
    subst (λ (a : Loaded). L a.source.bytes → L (get_or objects j d).source.bytes → ShareNone (loaded_data a) (loaded_data (get_or objects j d))) one
    (subst (λ (b : Loaded). L (object_at objects i).source.bytes → L b.source.bytes → ShareNone (loaded_data (object_at objects i)) (loaded_data b)) other
    (λ a b. others-at objects i j h before lt (own i no_object low a) (own j no_object lt b)))

-- Word records one after another.
use Rattle.std.proofs.Math.Bool.{or-false, or-true}
use Rattle.std.proofs.lemmas.Bool.{cases_eq, eq-eqb, ne_eqb, true≢false}
use Rattle.std.proofs.lemmas.Grind.{get_or-set_at}
use Rattle.std.proofs.lemmas.List.Quantifiers.{all_pairs_push}
use Rattle.std.proofs.Common.{◌≡◌, inl, inr, ℕ, zero, suc, ◌+◌, ◌-◌, ◌*◌, ◌/◌, ◌%◌, ◌<◌, ◌≤◌, ◌==◌, List, [], ◌∷◌, ◌++◌, length, get_or, set, map, replicate, drop, Bool, true, false, ◌||◌, sym, ap, subst, ◌∙◌, arith}
use Rattle.std.specs.Prelude.{All, AllPairs}
use Rattle.std.proofs.lemmas.List.{get_or_default, get_or-set_other, get_or-replicate, length-set, length-replicate, length-map, length-drop, length-take-le}
use Rattle.std.proofs.lemmas.List.Elements.{All-push, All-map}
use Rattle.std.proofs.lemmas.List.Folds.{list_any-append, list_any-from_Any}
use Rattle.std.proofs.lemmas.List.Kept.{AllPairs-cons}
use Rattle.cap_image.specs.declared.header.Version.{Version}
use Rattle.cap_image.specs.declared.header.Version.TheVariants.{One, Two}
use Rattle.cap_image.specs.declared.records.ObjectRecord.{ObjectRecord}
use Rattle.cap_image.specs.declared.words.WordPlace.{WordPlace}
use Rattle.cap_image.specs.Parts.{IsObject, space_end, IsWord, FollowsWord, HasWords}
use Rattle.cap_image.specs.Records.{piece, IsRecord}
use Rattle.cap_image.specs.Words.{Words, with_word, word_in, is_listed, IsNameInside, IsWordPlace, IsBehind, AreListed, AreMarks, HaveBeenRead}
use Rattle.cap_image.specs.Bodies.{BodyParts, object_in, tags_at}
use Rattle.cap_image.proofs.TagCounts.{tags_counted}

-- no granule is marked
pub none_marked : (of : ObjectRecord) (marks : List Bool) → marks ≡ replicate (of.size / 16) false → AreMarks of [] marks
none_marked of marks e = record {
  count = ap length e ∙ length-replicate (of.size / 16) false;
  each = λ n lt. ap (λ (ms : List Bool). get_or ms n false) e ∙ get_or-replicate (of.size / 16) n false false (subst (λ (m : ℕ). n < m) (ap length e ∙ length-replicate (of.size / 16) false) lt);
}

granule_at : (of : ObjectRecord) (g : ℕ) → of.base % 4096 ≡ 0 → g % 16 ≡ 0 → of.base ≤ g → of.base + 16 * ((g - of.base) / 16) ≡ g
granule_at of g pages whole le = omega (arith, pages, whole, le)

-- the mark of a granule
pub marked : (of : ObjectRecord) (words : List WordPlace) (marks : List Bool) (g : ℕ) → AreMarks of words marks → of.base % 4096 ≡ 0 → g % 16 ≡ 0 → of.base ≤ g → (g - of.base) / 16 < length marks → get_or marks ((g - of.base) / 16) false ≡ is_listed words g
marked of words marks g are pages whole le lt = are.each ((g - of.base) / 16) lt ∙ ap (is_listed words) (granule_at of g pages whole le)

module _ (of : ObjectRecord) (words : List WordPlace) (marks : List Bool) (w : WordPlace) (n : ℕ) (pages : of.base % 4096 ≡ 0) (whole : w.granule % 16 ≡ 0) (above : of.base ≤ w.granule) (at : n ≡ (w.granule - of.base) / 16) where
  own : of.base + 16 * n ≡ w.granule
  own = let granule : of.base + 16 * ((w.granule - of.base) / 16) ≡ w.granule = granule_at of w.granule pages whole above in omega (arith, at, granule)

  more_listed : (g : ℕ) → is_listed (words ++ w ∷ []) g ≡ (is_listed words g || (w.granule == g))
  more_listed g = list_any-append (λ v. v.granule == g) words (w ∷ []) ∙ ap (λ b. is_listed words g || b) (or-false (w.granule == g))

  mark_more : (k : ℕ) → k < length marks → get_or marks k false ≡ is_listed words (of.base + 16 * k) → get_or (set marks n true) k false ≡ is_listed (words ++ w ∷ []) (of.base + 16 * k)
  mark_more k lt before =
      elim (cases_eq k n) [
        | inl same ↦
            let here : w.granule ≡ of.base + 16 * k = omega (arith, own, same) in
            get_or-set_at marks n k true false same (omega (arith, same, lt)) ∙ sym (more_listed (of.base + 16 * k) ∙ ap (λ b. is_listed words (of.base + 16 * k) || b) (eq-eqb w.granule (of.base + 16 * k) here) ∙ or-true (is_listed words (of.base + 16 * k)))
        | inr other ↦
            let away : (w.granule == of.base + 16 * k) ≡ false = ne_eqb w.granule (of.base + 16 * k) (λ e. other (omega (arith, own, e))) in
            get_or-set_other marks n k true false other ∙ before ∙ sym (more_listed (of.base + 16 * k) ∙ ap (λ b. is_listed words (of.base + 16 * k) || b) away ∙ or-false (is_listed words (of.base + 16 * k)))
      ]

  -- one record more, and its mark
  pub marks_more : AreMarks of words marks → AreMarks of (words ++ w ∷ []) (set marks n true)
  marks_more are = record {
    count = length-set marks n true ∙ are.count;
    each = λ k lt. let inside : k < length marks = subst (λ (m : ℕ). k < m) (length-set marks n true) lt in mark_more k inside (are.each k inside);
  }

module _ (bytes : List ℕ) (count : ℕ) (of : ObjectRecord) (tags : List ℕ) where
  follows : (words : Words) (w : WordPlace) → All (λ v. v.owner ≤ words.owner) words.items → IsBehind words w → All (λ v. FollowsWord (word_in bytes v) (word_in bytes w)) words.items
  follows words w below behind k d lt =
      let v = get_or words.items k d in
      let same : get_or words.items k v ≡ v = get_or_default words.items k v d lt in
      record {
        granule = λ e. true≢false (sym (list_any-from_Any (λ u. u.granule == w.granule) words.items (k, v, lt, same, eq-eqb v.granule w.granule e)) ∙ behind.new);
        owner = let low : v.owner ≤ words.owner = below k d lt in let next : words.owner ≤ w.owner = behind.owner in omega (arith, low, next);
      }

  -- one record more
  pub listed_more : (words more : Words) (w : WordPlace) → more ≡ with_word words w → AreListed bytes count of tags words → IsWordPlace bytes count of tags w → IsBehind words w → AreListed bytes count of tags more
  listed_more words more w e are is behind = subst (AreListed bytes count of tags) (sym e) (record {
    each = All-push (IsWordPlace bytes count of tags) words.items w are.each is;
    apart = all_pairs_push (λ u v. FollowsWord (word_in bytes u) (word_in bytes v)) words.items w are.apart (follows words w are.below behind);
    below = All-push (λ v. v.owner ≤ w.owner) words.items w (λ k d lt. let low : (get_or words.items k d).owner ≤ words.owner = are.below k d lt in let next : words.owner ≤ w.owner = behind.owner in omega (arith, low, next)) (omega arith);
  })

  -- all that were read stand inside
  pub names_inside : (words : List WordPlace) → All (IsWordPlace bytes count of tags) words → All (IsNameInside bytes) words
  names_inside words h k d lt = (h k d lt).inside

-- one item more
pub all_more : {X : Type 0} (P : X → Type 0) (xs ys : List X) (y : X) → ys ≡ xs ++ y ∷ [] → All P xs → P y → All P ys
all_more P xs ys y e h is = subst (All P) (sym e) (All-push P xs y h is)

pub pairs_of_map : {X Y : Type 0} (R : Y → Y → Type 0) (f : X → Y) (xs : List X) → AllPairs (λ u v. R (f u) (f v)) xs → AllPairs R (map f xs)
pairs_of_map R f [] h = λ i j d less lt. absurd (omega (arith, lt))
pairs_of_map R f (x ∷ xs) h =
    AllPairs-cons R (f x) (map f xs) (All-map (R (f x)) f xs (λ k d lt. h zero (suc k) d (omega arith) (omega (arith, lt)))) (pairs_of_map R f xs (λ i j d less lt. h (suc i) (suc j) d (omega (arith, less)) (omega (arith, lt))))

pub piece_len : (bytes : List ℕ) (at len : ℕ) → at + len ≤ length bytes → length (piece bytes at len) ≡ len
piece_len bytes at len le = let rest : length (drop at bytes) ≡ length bytes - at = length-drop at bytes in length-take-le len (drop at bytes) (omega (arith, rest, le))

module _ (bytes : List ℕ) (body : BodyParts) (is : IsRecord bytes body.of) (ends : body.bytes_at + body.of.size + body.of.size / 128 ≤ length bytes) where
  pub bytes_len : length (object_in bytes body).bytes ≡ body.of.size
  bytes_len = piece_len bytes body.bytes_at body.of.size (omega (arith, ends))

  tags_len : length (object_in bytes body).tags ≡ body.of.size / 128
  tags_len = piece_len bytes (body.bytes_at + body.of.size) (body.of.size / 128) ends

  pub is_object : IsObject (object_in bytes body)
  is_object =
      let name_len : length (object_in bytes body).name ≡ body.of.name_len = piece_len bytes body.of.name_at body.of.name_len is.name_inside in
      record {
        base_in_pages = is.base_in_pages;
        size_in_pages = ap (λ n. n % 4096) bytes_len ∙ is.size_in_pages;
        some_bytes = subst (λ (n : ℕ). 0 < n) (sym bytes_len) is.some_bytes;
        within = let within : body.of.base + body.of.size ≤ space_end = is.within in omega (arith, bytes_len, within);
        some_name = subst (λ (n : ℕ). 0 < n) (sym name_len) is.some_name;
        short_name = subst (λ (n : ℕ). n ≤ 255) (sym name_len) is.short_name;
        plain_name = is.plain_name;
        tag_count = tags_len ∙ ap (λ n. n / 128) (sym bytes_len);
      }

  -- the word records of a body that was read
  pub has_words : (version : Version) (count : ℕ) → HaveBeenRead version bytes count body.of (tags_at bytes body.bytes_at body.of.size) body.words → HasWords version count (object_in bytes body)
  unfolding HaveBeenRead HasWords
  has_words One count h = ap (map (word_in bytes)) h
  has_words Two count h =
      let o = object_in bytes body in
      record {
        each = All-map (IsWord count o.base (length o.bytes) o.tags) (word_in bytes) body.words (λ k d lt. subst (λ (size : ℕ). IsWord count o.base size o.tags (word_in bytes (get_or body.words k d))) (sym bytes_len) (h.each k d lt).word);
        apart = pairs_of_map FollowsWord (word_in bytes) body.words h.apart;
        as_many = length-map body.words (word_in bytes) ∙ h.as_many ∙ sym (tags_counted o is_object);
      }

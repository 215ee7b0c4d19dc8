-- How the steps of `link` lead to its end.
use Rattle.std.proofs.Common.{◌≡◌, ◌<◌, ◌≤◌, ◌+◌, ◌^◌, ◌⊎◌, ℕ, Bool, true, false, cond, nat_lt, List, [], ◌∷◌, ◌++◌, length, map, Option, Some, None, Result, Ok, Err, refl, sym, ap, subst, ◌∙◌, inl, inr, append-nil, append_assoc, arith}
use Rattle.std.proofs.lemmas.Bool.Decides.{nat_tests}
use Rattle.std.proofs.lemmas.List.{map-append}
use Rattle.cap_base.specs.Check.{number_of}
use Rattle.cap_base.specs.Outside.{Store}
use Rattle.cap_base.specs.ReadFile.{IsFile, FileRefused, FaultCounted}
use Rattle.cap_base.specs.Steps.{◌>>=◌, steps}
use Rattle.cap_base.specs.declared.check.Check.TheVariants.{FileSize, InputSize}
use Rattle.cap_base.specs.declared.kind.Kind.{Kind}
use Rattle.cap_base.specs.declared.reading.FileRefusal.{FileRefusal}
use Rattle.cap_base.specs.declared.reading.FileRefusal.TheVariants as files
use Rattle.cap_base.specs.declared.refusal.Refusal.{Refusal}
use Rattle.cap_base.specs.declared.refusal.Refusal.TheVariants as refusals
use Rattle.cap_link.specs.Inputs.{Input}
use Rattle.cap_link.specs.Linked.{linked_file, refused_name}
use Rattle.purecap.specs.declared.faults.Failure.{Failure}
use Rattle.purecap.specs.declared.faults.Failure.TheVariants.{Usage, NoFile, Malformed, Unsupported, Unresolved, Inexact, Full, Limit, ReadFault, WriteFault, NoMemory, NoWord, Differs}
use Rattle.purecap.specs.Reading.{unread}
use Rattle.purecap.specs.LinkWords.{LinkWords}
use Rattle.purecap.specs.Story.{Product, Saved, Stop, stop_at}
use Rattle.purecap.specs.Linking.{Found, found_in, size_of, input_of, with_input, input_step, inputs_of, kind_of, refused_path, link_failure, linked_by, linked}
use Rattle.purecap.specs.Run.{Count, counted, IsKept, AreFound}
use Rattle.purecap.specs.Inputs.{StopsAs, Takes, Makes, Has, Fetches, ReadsOne, HasRead, ReadsAll, LinksFiles}
use Rattle.purecap.proofs.Shown.{some_file, no_file, this_file, large_file}

-- ---- steps behind steps

bind-each : {E A B C : Type 0} (r : Result A E) (f : A → Result C E) (g : A → Result B E) (h : B → Result C E) → ((x : A) → f x ≡ (g x >>= h)) → (r >>= f) ≡ ((r >>= g) >>= h)
bind-each (Ok x) f g h each = each x
bind-each (Err e) f g h each = refl

steps-append : {E A X : Type 0} (f : A → X → Result A E) (a : A) (xs ys : List X) → steps f a (xs ++ ys) ≡ (steps f a xs >>= λ b. steps f b ys)
steps-append f a [] ys = refl
steps-append f a (x ∷ xs) ys = bind-each (f a x) (λ b. steps f b (xs ++ ys)) (λ b. steps f b xs) (λ b. steps f b ys) (λ b. steps-append f b xs ys)

steps-behind : {E A X : Type 0} (f : A → X → Result A E) (a b : A) (xs ys : List X) → steps f a xs ≡ Ok b → steps f a (xs ++ ys) ≡ steps f b ys
steps-behind f a b xs ys is = steps-append f a xs ys ∙ ap (λ r. r >>= λ c. steps f c ys) is

stops_bind : {X Y : Type 0} (said : Result X Stop) (next : X → Result Y Stop) (reads : Count) (path : List ℕ) (failure : Failure) → StopsAs said reads path failure → StopsAs (said >>= next) reads path failure
stops_bind said next reads path Usage is = (ap (λ r. r >>= next) is.0, is.1)
stops_bind said next reads path NoFile is = (ap (λ r. r >>= next) is.0, is.1)
stops_bind said next reads path (Malformed check at) is = (ap (λ r. r >>= next) is.0, is.1)
stops_bind said next reads path (Unsupported check at) is = (ap (λ r. r >>= next) is.0, is.1)
stops_bind said next reads path (Unresolved name) is = (ap (λ r. r >>= next) is.0, is.1)
stops_bind said next reads path (Inexact name base len) is = (ap (λ r. r >>= next) is.0, is.1)
stops_bind said next reads path (Full asked) is = (ap (λ r. r >>= next) is.0, is.1)
stops_bind said next reads path (Limit check) is = (ap (λ r. r >>= next) is.0, is.1)
stops_bind said next reads path ReadFault is = is
stops_bind said next reads path WriteFault is = is
stops_bind said next reads path NoMemory is = is
stops_bind said next reads path (NoWord slot) is = (ap (λ r. r >>= next) is.0, is.1)
stops_bind said next reads path Differs is = is

-- ---- one file

within_limit : (word bytes : List ℕ) → length bytes ≤ 2 ^ 26 → input_of word (Some bytes) ≡ Ok (word, bytes)
within_limit word bytes within =
    let small : nat_lt (2 ^ 26) (length bytes) ≡ false = grind (arith, nat_tests) in
    ap (λ (t : Bool). cond t (Err (stop_at word (Limit (number_of FileSize)))) (Ok (word, bytes))) small

beyond_limit : (word bytes : List ℕ) → 2 ^ 26 < length bytes → input_of word (Some bytes) ≡ Err (stop_at word (Limit (number_of FileSize)))
beyond_limit word bytes beyond =
    let large : nat_lt (2 ^ 26) (length bytes) ≡ true = grind (arith, nat_tests) in
    ap (λ (t : Bool). cond t (Err (stop_at word (Limit (number_of FileSize)))) (Ok (word, bytes))) large

pub fetched : {X : Type 0} (bytes_of : X → List ℕ) (told : Option Store) (word : List ℕ) (x : X) (reads : Count) → IsFile told word (2 ^ 26) (bytes_of x) → IsKept reads
    → Fetches bytes_of told word reads (Ok x)
fetched bytes_of told word x reads is kept =
    record { file = Some (bytes_of x); is_file = this_file told word (bytes_of x) (2 ^ 26) is; takes = (within_limit word (bytes_of x) is.0, kept) }

pub unfetched : {X : Type 0} (bytes_of : X → List ℕ) (told : Option Store) (word : List ℕ) (reads : Count) (refusal : FileRefusal) → FileRefused told word (2 ^ 26) refusal → FaultCounted {T = Unit {0}} reads.before reads.now (Err refusal)
    → Fetches bytes_of told word reads (Err (stop_at word (unread refusal)))
unfetched bytes_of told word reads files.NoFile is counts = record { file = None; is_file = no_file told word (2 ^ 26) is; takes = (refl, counts) }
unfetched bytes_of told word reads files.TooLarge is counts =
    let some = large_file told word (2 ^ 26) is in record { file = Some some.0; is_file = some.1; takes = (beyond_limit word some.0 some.2, counts) }
unfetched bytes_of told word reads files.Fault is counts = let some = some_file told word in record { file = some.0; is_file = some.1; takes = counts.1 }
unfetched bytes_of told word reads files.NoMemory is counts = let some = some_file told word in record { file = some.0; is_file = some.1; takes = counts }

pub size_none : 0 ≡ size_of []
unfolding size_of
size_none = refl

pub size_more : (inputs : List Input) (input : Input) → size_of (inputs ++ input ∷ []) ≡ size_of inputs + length input.1
unfolding size_of
size_more [] input = omega arith
size_more (first ∷ inputs) input = let rest = size_more inputs input in omega (arith, rest)

-- more bytes than the inputs may have
pub too_large : (inputs : List Input) (word bytes : List ℕ) → 2 ^ 27 < size_of inputs + length bytes → with_input inputs (word, bytes) ≡ Err (stop_at word (Limit (number_of InputSize)))
too_large inputs word bytes beyond =
    let large : nat_lt (2 ^ 27) (size_of inputs + length bytes) ≡ true = grind (arith, nat_tests) in
    ap (λ (t : Bool). cond t (Err (stop_at word (Limit (number_of InputSize)))) (Ok (inputs ++ (word, bytes) ∷ []))) large

pub fits : (inputs : List Input) (word bytes : List ℕ) → size_of inputs + length bytes ≤ 2 ^ 27 → with_input inputs (word, bytes) ≡ Ok (inputs ++ (word, bytes) ∷ [])
fits inputs word bytes within =
    let small : nat_lt (2 ^ 27) (size_of inputs + length bytes) ≡ false = grind (arith, nat_tests) in
    ap (λ (t : Bool). cond t (Err (stop_at word (Limit (number_of InputSize)))) (Ok (inputs ++ (word, bytes) ∷ []))) small

module _ {B X : Type 0} (bytes_of : B → List ℕ) (told : Option Store) (word : List ℕ) (reads : Count) (old new : List Input) where
  pub one_unread : (stop : Stop) → Fetches bytes_of told word reads (Err stop) → ReadsOne {X = X} told word reads old new (Err stop)
  unfolding input_step
  one_unread stop is = record { file = is.file; is_file = is.is_file; takes = stops_bind (input_of word is.file) (with_input old) reads stop.path stop.failure is.takes }

  pub one_read : (b : B) (result : Result X Stop) → Fetches bytes_of told word reads (Ok b) → Makes (λ _. new) (with_input old (word, bytes_of b)) result → ReadsOne told word reads old new result
  unfolding input_step
  one_read b result is adds =
      let same : (input_of word is.file >>= with_input old) ≡ with_input old (word, bytes_of b) = ap (λ r. r >>= with_input old) is.takes.0 in
      record { file = is.file; is_file = is.is_file; takes = subst (λ (said : Result (List Input) Stop). Takes (λ _. new) said reads result) (sym same) (adds reads is.takes.1) }

-- ---- all files

none_found : (told : Option Store) → AreFound told [] []
none_found None = record { words_are = refl; files_are = tt }
none_found (Some store) = record { words_are = refl; files_are = refl }

found_append : (told : Option Store) (words more : List (List ℕ)) (found others : List Found) → AreFound told words found → AreFound told more others → AreFound told (words ++ more) (found ++ others)
found_append None words more found others one two = record {
  words_are = map-append (λ (f : Found). f.0) found others ∙ ap (λ (w : List (List ℕ)). w ++ map (λ (f : Found). f.0) others) one.words_are ∙ ap (λ (w : List (List ℕ)). words ++ w) two.words_are;
  files_are = tt;
}
found_append (Some store) words more found others one two = record {
  words_are = map-append (λ (f : Found). f.0) found others ∙ ap (λ (w : List (List ℕ)). w ++ map (λ (f : Found). f.0) others) one.words_are ∙ ap (λ (w : List (List ℕ)). words ++ w) two.words_are;
  files_are = ap (λ (f : List Found). f ++ others) one.files_are ∙ ap (λ (f : List Found). map (found_in store) words ++ f) two.files_are ∙ sym (map-append (found_in store) words more);
}

one_found : (told : Option Store) (word : List ℕ) (file : Option (List ℕ)) → Has told word file → AreFound told (word ∷ []) ((word, file) ∷ [])
one_found None word file is = record { words_are = refl; files_are = tt }
one_found (Some store) word file is = record { words_are = refl; files_are = ap (λ (f : Option (List ℕ)). (word, f) ∷ []) is }

-- something is found under words that are not read
pub some_found : (told : Option Store) (words : List (List ℕ)) → (found : List Found) × AreFound told words found
some_found None [] = ([], none_found None)
some_found None (word ∷ words) =
    let rest = some_found None words in ((word, None) ∷ rest.0, found_append None (word ∷ []) words ((word, None) ∷ []) rest.0 (one_found None word None tt) rest.1)
some_found (Some store) words = (map (found_in store) words, record { words_are = same words; files_are = refl })
  where
    same : (words : List (List ℕ)) → map (λ (f : Found). f.0) (map (found_in store) words) ≡ words
    same [] = refl
    same (word ∷ words) = ap (λ (ws : List (List ℕ)). word ∷ ws) (same words)

pub none_read : (told : Option Store) (words : List (List ℕ)) (reads : ℕ) → HasRead told words words (counted reads reads) []
none_read told words reads = record { begun = []; words_are = refl; found = []; are_found = none_found told; gives = refl; reads_kept = refl }

last_step : (old : List Input) (found : Found) (new : List Input) → input_step old found ≡ Ok new → steps input_step old (found ∷ []) ≡ Ok new
last_step old found new is = ap (λ r. r >>= λ b. Ok b) is

module _ {X : Type 0} (told : Option Store) (words left : List (List ℕ)) (word : List ℕ) (r0 r1 r2 : ℕ) (old new : List Input) where
  pub more_read : (x : X) → HasRead told words (word ∷ left) (counted r0 r1) old → ReadsOne told word (counted r1 r2) old new (Ok x) → HasRead told words left (counted r0 r2) new
  more_read x has one = record {
    begun = has.begun ++ word ∷ [];
    words_are = has.words_are ∙ sym (append_assoc has.begun (word ∷ []) left);
    found = has.found ++ (word, one.file) ∷ [];
    are_found = found_append told has.begun (word ∷ []) has.found ((word, one.file) ∷ []) has.are_found (one_found told word one.file one.is_file);
    gives = steps-behind input_step [] old has.found ((word, one.file) ∷ []) has.gives ∙ last_step old (word, one.file) new one.takes.0;
    reads_kept = one.takes.1 ∙ has.reads_kept;
  }

  pub stop_read : (stop : Stop) → HasRead told words (word ∷ left) (counted r0 r1) old → ReadsOne {X = X} told word (counted r1 r2) old new (Err stop) → ReadsAll told words (counted r0 r2) (Err stop)
  stop_read stop has one =
      let rest = some_found told left in
      let others = (word, one.file) ∷ rest.0 in
      let are = found_append told (word ∷ []) left ((word, one.file) ∷ []) rest.0 (one_found told word one.file one.is_file) rest.1 in
      let stops = stops_bind (input_step old (word, one.file)) (λ b. steps input_step b rest.0) (counted r1 r2) stop.path stop.failure one.takes in
      let behind = subst (λ (said : Result (List Input) Stop). StopsAs said (counted r1 r2) stop.path stop.failure) (sym (steps-behind input_step [] old has.found others has.gives)) stops in
      record {
        found = has.found ++ others;
        are_found = subst (λ (ws : List (List ℕ)). AreFound told ws (has.found ++ others)) (sym has.words_are) (found_append told has.begun (word ∷ left) has.found others has.are_found are);
        takes = subst (λ (n : ℕ). StopsAs (inputs_of (has.found ++ others)) (counted n r2) stop.path stop.failure) has.reads_kept behind;
      }

pub all_read : (told : Option Store) (words : List (List ℕ)) (reads : Count) (inputs : List Input) → HasRead told words [] reads inputs → ReadsAll told words reads (Ok inputs)
all_read told words reads inputs has = record {
  found = has.found;
  are_found = subst (λ (ws : List (List ℕ)). AreFound told ws has.found) (sym (has.words_are ∙ append-nil has.begun)) has.are_found;
  takes = (has.gives, has.reads_kept);
}

-- ---- the link

pub links_unread : {X : Type 0} (bytes_of : X → List ℕ) (told : Option Store) (words : LinkWords) (reads : Count) (stop : Stop) → ReadsAll told words.inputs reads (Err stop)
    → LinksFiles bytes_of told words reads (Err stop)
links_unread bytes_of told words reads stop is =
    record { found = is.found; are_found = is.are_found; takes = stops_bind (inputs_of is.found) (linked words) reads stop.path stop.failure is.takes }

pub links_read : {X : Type 0} (bytes_of : X → List ℕ) (told : Option Store) (words : LinkWords) (reads : Count) (inputs : List Input) (result : Result X Stop) → ReadsAll told words.inputs reads (Ok inputs)
    → Makes (λ x. Saved words.output (bytes_of x) []) (linked words inputs) result → LinksFiles bytes_of told words reads result
links_read bytes_of told words reads inputs result is makes = record {
  found = is.found;
  are_found = is.are_found;
  takes = subst (λ (said : Result Product Stop). Takes (λ x. Saved words.output (bytes_of x) []) said reads result) (sym (ap (λ r. r >>= linked words) is.takes.0)) (makes reads is.takes.1);
}

module _ (words : LinkWords) (inputs : List Input) (kind : Kind) (is_kind : kind ≡ kind_of words.soname) where
  linked_is : (given : Result (List ℕ) Refusal) → linked_file inputs kind ≡ given → linked words inputs ≡ linked_by words inputs given
  unfolding linked
  linked_is given is = ap (λ (k : Kind). linked_by words inputs (linked_file inputs k)) (sym is_kind) ∙ ap (linked_by words inputs) is

  pub link_made : (bytes : List ℕ) → linked_file inputs kind ≡ Ok bytes → linked words inputs ≡ Ok (Saved words.output bytes [])
  link_made bytes is = linked_is (Ok bytes) is

  stops_so : (name : List ℕ) (refusal : Refusal) (reads : Count) → linked words inputs ≡ Err (stop_at (refused_path words refusal) (link_failure name refusal)) → IsKept reads
      → StopsAs (linked words inputs) reads (refused_path words refusal) (link_failure name refusal)
  stops_so name (refusals.Malformed file check at) reads is kept = (is, kept)
  stops_so name (refusals.Unsupported file check at) reads is kept = (is, kept)
  stops_so name (refusals.Unresolved file symbol) reads is kept = (is, kept)
  stops_so name (refusals.Full asked room) reads is kept = (is, kept)
  stops_so name (refusals.Limit check) reads is kept = (is, kept)
  stops_so name refusals.NoMemory reads is kept = kept

  pub link_stops : (name : List ℕ) (refusal : Refusal) → (refusal ≡ refusals.NoMemory) ⊎ (linked_file inputs kind ≡ Err refusal) → name ≡ refused_name inputs refusal
      → (reads : Count) → IsKept reads → StopsAs (linked words inputs) reads (refused_path words refusal) (link_failure name refusal)
  link_stops name refusal (inl memory) named reads kept =
      subst (λ (r : Refusal). StopsAs (linked words inputs) reads (refused_path words r) (link_failure name r)) (sym memory) kept
  link_stops name refusal (inr is) named reads kept =
      stops_so name refusal reads (linked_is (Err refusal) is ∙ ap (λ (n : List ℕ). Err (stop_at (refused_path words refusal) (link_failure n refusal))) (sym named)) kept

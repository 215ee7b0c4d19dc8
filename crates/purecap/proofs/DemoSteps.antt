-- How the steps of `demo` go, from what the linker and the session give.
use Rattle.std.proofs.Common.{◌≡◌, ℕ, ◌+◌, ◌%◌, ◌^◌, ◌≤◌, IsTrue, false, List, [], ◌∷◌, length, map, codes, Result, Ok, Err, refl, sym, ap, subst, ◌∙◌, arith}
use Rattle.std.specs.Prelude.{All, sum}
use Rattle.std.specs.Int.{is_power_of_two}
use Rattle.std.specs.List.{AllZip, flat_map}
use Rattle.std.proofs.lemmas.List.Elements.{All-nil, All-cons, All-head, All-tail}
use Rattle.cap_base.specs.Outside.{Store}
use Rattle.cap_base.specs.Steps.{◌>>=◌}
use Rattle.cap_link.specs.Inputs.{Input}
use Rattle.cap_mem.specs.Ascending.{Ascend}
use Rattle.cap_mem.specs.Tagged.{TaggedMemory}
use Rattle.cap_map.proofs.Pages.{multiple_pages}
use Rattle.cap_image.specs.ImageLaws.{ObjectsAreOfMemories, TagsAreOfMemories}
use Rattle.cap_image.specs.Report.{last_line}
use Rattle.cap_image.specs.Writing.{image_of, image_bytes, objects_of}
use Rattle.cap_scope.specs.declared.choice.Rule.TheVariants.{NonWeak}
use Rattle.cap_session.specs.declared.refusal.OpenCause.{OpenCause}
use Rattle.cap_session.specs.declared.refusal.OpenCause.TheVariants as causes
use Rattle.cap_session.specs.declared.refusal.OpenRefusal.{OpenRefusal}
use Rattle.cap_session.specs.declared.refusal.Mode.TheVariants.{Global}
use Rattle.cap_session.specs.declared.refusal.Ready.{Ready}
use Rattle.cap_session.specs.Endings.{Starts, Opens}
use Rattle.cap_session.specs.Loading.{fetch_from}
use Rattle.cap_session.specs.Mappings.{IsMappingOf, IsMemoryOf}
use Rattle.cap_session.specs.Refused.{IsRefusedBy}
use Rattle.cap_session.specs.Session.{SessionValue, IsSession, all_records}
use Rattle.cap_session.specs.State.{State, started, opened}
use Rattle.purecap.specs.declared.demo.Halt.{Halt}
use Rattle.purecap.specs.declared.demo.Halt.TheVariants as halts
use Rattle.purecap.specs.declared.faults.Failure.{Failure}
use Rattle.purecap.specs.declared.faults.Failure.TheVariants.{Usage, NoFile, Malformed, Unsupported, Unresolved, Inexact, Full, Limit, ReadFault, WriteFault, NoMemory, NoWord, Differs}
use Rattle.purecap.specs.Faults.{failure_of}
use Rattle.purecap.specs.LinkWords.{LinkWords}
use Rattle.purecap.specs.Linking.{linked}
use Rattle.purecap.specs.Story.{Product, Saved, Stop, stop_at}
use Rattle.cap_loaded.specs.Images.{state_image}
use Rattle.purecap.specs.Answer.{demo_text}
use Rattle.purecap.specs.Demo.{demo_linked, demo_opened, demo_started, link_for, linked_bytes, or_stop, product_bytes, summary_lines, summary_of, word_addresses}
use Rattle.purecap.specs.Inputs.{StopsAs, Makes}
use Rattle.purecap.specs.Run.{counted}
use Rattle.purecap.specs.Summing.{is_lost, is_starved, memory_addresses, session_summary, summary_after, summary_text, ArePages, Begins, Halts, HaltsAs, HaltsBy, IsStarted}
use Rattle.purecap.proofs.Coming.{image_is}
use Rattle.purecap.proofs.WordSums.{image_addresses, words_counted, objects_count}
use Rattle.purecap.proofs.Written.{can_be_written}

-- ---- steps behind steps

pub halts_bind : {X Y : Type 0} (halt : Halt) (said : Result X Stop) (next : X → Result Y Stop) → Halts halt said → Halts halt (said >>= next)
halts_bind halts.Memory said next is = tt
halts_bind (halts.Stop stop) said next is = ap (λ r. r >>= next) is

-- ---- links

-- a link that reads no file stops as it is said
stops_is : {Y : Type 0} (said : Result Y Stop) (path : List ℕ) (failure : Failure) → StopsAs said (counted 0 0) path failure → is_starved failure ≡ false → said ≡ Err (stop_at path failure)
stops_is said path Usage is own = is.0
stops_is said path NoFile is own = is.0
stops_is said path (Malformed check at) is own = is.0
stops_is said path (Unsupported check at) is own = is.0
stops_is said path (Unresolved name) is own = is.0
stops_is said path (Inexact name base len) is own = is.0
stops_is said path (Full asked) is own = is.0
stops_is said path (Limit check) is own = is.0
stops_is said path ReadFault is own = absurd (omega (arith, is))
stops_is said path WriteFault is own = absurd is
stops_is said path NoMemory is own = cc
stops_is said path (NoWord slot) is own = is.0
stops_is said path Differs is own = absurd is

module _ {X : Type 0} (bytes_of : X → List ℕ) (words : LinkWords) (inputs : List Input) (same : map (λ (i : Input). i.0) inputs ≡ words.inputs) where
  words_are : link_for words.output words.soname inputs ≡ words
  words_are = ap (λ (names : List (List ℕ)). record { output = words.output; soname = words.soname; inputs = names }) same

  bytes_are : linked_bytes words.output words.soname inputs ≡ (linked words inputs >>= λ product. Ok (product_bytes product))
  unfolding linked_bytes
  bytes_are = ap (λ (w : LinkWords). linked w inputs >>= λ product. Ok (product_bytes product)) words_are

  pub link_gives : (x : X) → Makes (λ y. Saved words.output (bytes_of y) []) (linked words inputs) (Ok x) → linked_bytes words.output words.soname inputs ≡ Ok (bytes_of x)
  link_gives x makes = bytes_are ∙ ap (λ (r : Result Product Stop). r >>= λ product. Ok (product_bytes product)) (makes (counted 0 0) refl).0

  pub link_halts : (stop : Stop) (halt : Halt) → Makes {X = X} (λ y. Saved words.output (bytes_of y) []) (linked words inputs) (Err stop) → HaltsAs stop halt → Halts halt (linked_bytes words.output words.soname inputs)
  link_halts stop halts.Memory makes is = tt
  link_halts stop (halts.Stop given) makes is =
      bytes_are ∙ ap (λ (r : Result Product Stop). r >>= λ product. Ok (product_bytes product)) (stops_is (linked words inputs) stop.path stop.failure (makes (counted 0 0) refl) is.1)
      ∙ ap (λ (s : Stop). Err s) (sym is.0)

-- ---- the load

refused_is : {X : Type 0} (wanted : Result X OpenRefusal) (path : List ℕ) (cause : OpenCause) → IsRefusedBy wanted (record { path = path; cause = cause }) cause → is_lost cause ≡ false
    → or_stop wanted ≡ Err (stop_at path (failure_of cause))
refused_is wanted path causes.NoFile is own = ap or_stop is
refused_is wanted path (causes.Malformed check at) is own = ap or_stop is
refused_is wanted path (causes.Unsupported check at) is own = ap or_stop is
refused_is wanted path (causes.Unresolved name) is own = ap or_stop is
refused_is wanted path (causes.Inexact name base len) is own = ap or_stop is
refused_is wanted path (causes.Full asked room) is own = ap or_stop is
refused_is wanted path (causes.Limit check) is own = ap or_stop is
refused_is wanted path causes.ReadFault is own = cc
refused_is wanted path causes.NoMemory is own = cc

load_halts : {X : Type 0} (wanted : Result X OpenRefusal) (refusal : OpenRefusal) (halt : Halt) → IsRefusedBy wanted refusal refusal.cause → HaltsBy refusal halt → Halts halt (or_stop wanted)
load_halts wanted refusal halts.Memory is by = tt
load_halts wanted refusal (halts.Stop given) is by = refused_is wanted refusal.path refusal.cause is by.1 ∙ ap (λ (s : Stop). Err s) (sym by.0)

pub start_begins : (store : Store) (s : SessionValue) → Starts (started (fetch_from store) (codes ".") (codes "d") NonWeak) (Ok s) → s.dir ≡ codes "." → s.rule ≡ NonWeak → Begins (demo_started store) (Ok s)
unfolding demo_started
start_begins store s reaches dir rule = (reaches.0, ap or_stop reaches.1, record { stands = reaches.2; dir = dir; rule = rule })

pub start_halts : (store : Store) (refusal : OpenRefusal) (halt : Halt) → Starts (started (fetch_from store) (codes ".") (codes "d") NonWeak) (Err refusal) → HaltsBy refusal halt → Begins (demo_started store) (Err halt)
unfolding demo_started
start_halts store refusal halt is by = load_halts (started (fetch_from store) (codes ".") (codes "d") NonWeak) refusal halt is by

module _ (number : ℕ) (store : Store) (old : SessionValue) (state : State) (begun : IsStarted old state) where
  same_call : opened (fetch_from store) old.dir old.rule state (codes "e.so") Global ≡ opened (fetch_from store) (codes ".") NonWeak state (codes "e.so") Global
  same_call =
      ap (λ (dir : List ℕ). opened (fetch_from store) dir old.rule state (codes "e.so") Global) begun.dir
      ∙ ap (λ (rule : _). opened (fetch_from store) (codes ".") rule state (codes "e.so") Global) begun.rule

  pub open_gives : (new : SessionValue) (ready : Ready) → IsSession new → Opens (opened (fetch_from store) old.dir old.rule state (codes "e.so") Global) new (Ok ready) → summary_after number store state ≡ Ok (session_summary number new)
  unfolding demo_opened
  open_gives new ready is reaches =
      ap (λ (r : Result State Stop). r >>= λ next. Ok (summary_of number (state_image next))) (ap or_stop (sym same_call ∙ reaches.1))
      ∙ ap (λ (image : _). Ok (summary_of number image)) (sym (image_is new reaches.0 is reaches.2))

  pub open_halts : (new : SessionValue) (refusal : OpenRefusal) (halt : Halt) → Opens (opened (fetch_from store) old.dir old.rule state (codes "e.so") Global) new (Err refusal) → HaltsBy refusal halt → Halts halt (summary_after number store state)
  unfolding demo_opened
  open_halts new refusal halt is by =
      halts_bind halt (or_stop (opened (fetch_from store) (codes ".") NonWeak state (codes "e.so") Global)) (λ next. Ok (summary_of number (state_image next)))
      (load_halts (opened (fetch_from store) (codes ".") NonWeak state (codes "e.so") Global) refusal halt (subst (λ (w : Result State OpenRefusal). IsRefusedBy w refusal refusal.cause) same_call is) by)

-- ---- all steps

pub text_is : (number : ℕ) (store : Store) (first : State) → demo_linked number ≡ Ok store → demo_started store ≡ Ok first → demo_text number ≡ summary_after number store first
unfolding demo_text
text_is number store first links starts =
    ap (λ (r : Result Store Stop). r >>= λ s. demo_started s >>= λ f. summary_after number s f) links ∙ ap (λ (r : Result State Stop). r >>= λ f. summary_after number store f) starts

pub text_unlinked : (number : ℕ) (halt : Halt) → Halts halt (demo_linked number) → Halts halt (demo_text number)
unfolding demo_text
text_unlinked number halt is = halts_bind halt (demo_linked number) (λ s. demo_started s >>= λ f. summary_after number s f) is

pub text_unstarted : (number : ℕ) (store : Store) (halt : Halt) → demo_linked number ≡ Ok store → Halts halt (demo_started store) → Halts halt (demo_text number)
unfolding demo_text
text_unstarted number store halt links is =
    subst (Halts halt) (sym (ap (λ (r : Result Store Stop). r >>= λ s. demo_started s >>= λ f. summary_after number s f) links)) (halts_bind halt (demo_started store) (λ f. summary_after number store f) is)

-- ---- the memories of a session

module _ {O M : Type 0} (IsOf : O → M → Type 0) (IsIn : M → TaggedMemory → Type 0) (IsGood : O → Type 0)
    (based : (o : O) (root : M) (m : TaggedMemory) → IsOf o root → IsIn root m → IsGood o → m.base % 4096 ≡ 0) where
  paged : (from : ℕ) (objects : List O) (roots : List M) (memories : List TaggedMemory) → AllZip IsOf objects roots → AllZip IsIn roots memories → All IsGood objects → Ascend from memories (2 ^ 64) → All ArePages memories
  paged from objects roots [] mappings are good ascend = All-nil ArePages
  paged from [] [] (m ∷ memories) mappings are good ascend = absurd are
  paged from [] (root ∷ roots) (m ∷ memories) mappings are good ascend = absurd mappings
  paged from (o ∷ objects) [] (m ∷ memories) mappings are good ascend = absurd mappings
  paged from (o ∷ objects) (root ∷ roots) (m ∷ memories) mappings are good ascend =
      let base = based o root m mappings.0 are.0 (All-head IsGood o objects good) in
      let within = ends (m.base + length m.bytes) memories ascend.1 in
      All-cons ArePages m memories (record { aligned = omega (arith, base); within = within }) (paged (m.base + length m.bytes) objects roots memories mappings.1 are.1 (All-tail IsGood o objects good) ascend.1)
    where
      ends : (from : ℕ) (memories : List TaggedMemory) → Ascend from memories (2 ^ 64) → from ≤ 2 ^ 64
      ends from [] up = up
      ends from (n ∷ ns) up = let rest = ends (n.base + length n.bytes) ns up.1 in let first = up.0 in omega (arith, rest, first)

pub session_pages : (s : SessionValue) → IsSession s → All ArePages s.memories
session_pages s is =
    paged IsMappingOf IsMemoryOf (λ o. IsTrue (is_power_of_two o.align) × (4096 ≤ o.align))
    (λ o root m mapping memory good. ap (λ (n : ℕ). n % 4096) memory.0 ∙ multiple_pages root.base o.align good.0 good.1 mapping.aligned)
    0 (all_records s) s.roots s.memories is.roster.mappings_are is.roster.memories_are (λ k d below. ((is.read k d below).align_power, (is.read k d below).align_low)) (can_be_written s is).ascending

-- ---- the summary of a session

pub summary_is : ObjectsAreOfMemories → TagsAreOfMemories → (s : SessionValue) → IsSession s → (number : ℕ) (addresses : List ℕ) → addresses ≡ flat_map memory_addresses s.memories
    → summary_text number (length s.memories) addresses (length (image_bytes (image_of s.names s.symbols s.memories))) ≡ session_summary number s
unfolding summary_text summary_of
summary_is objects tags s is number addresses are =
    let can = can_be_written s is in
    let image = image_of s.names s.symbols s.memories in
    let size = length (image_bytes image) in
    let same : addresses ≡ word_addresses image = are ∙ sym (image_addresses objects tags s.names s.symbols s.memories can) in
    ap (λ (found : List ℕ). summary_lines number (last_line (length s.memories) (length found)) size (sum found % 2 ^ 64)) same
    ∙ ap (λ (n : ℕ). summary_lines number (last_line n (length (word_addresses image))) size (sum (word_addresses image) % 2 ^ 64)) (sym (objects_count s.names s.symbols s.memories can.name_count))
    ∙ ap (λ (n : ℕ). summary_lines number (last_line (length (objects_of s.names s.symbols s.memories)) n) size (sum (word_addresses image) % 2 ^ 64)) (words_counted image)

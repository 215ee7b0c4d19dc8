-- The parts of a file stand at their addresses, and its names at their offsets.
use Rattle.std.proofs.Common.{◌≡◌, ◌+◌, List, [], ◌∷◌, ◌++◌, length, map, sym, subst, true, false, arith, Ok}
use Rattle.std.specs.Prelude.{option_to_list}
use Rattle.std.specs.List.{flat_map, AllByRecursion}
use Rattle.std.proofs.lemmas.List.{append-nil}
use Rattle.cap_elf.specs.DynView.{dyn_view}
use Rattle.cap_readback.specs.Spread.{spread, AreApart, spread_end, AllStand}
use Rattle.cap_readback.specs.Lists.{entry_bytes}
use Rattle.cap_readback.specs.Content.{terminated, Ends, Planned}
use Rattle.cap_readback.specs.View.{Content, strings, dynamics, IsWritten, IsPlanned, is_plain, Refused, view_of}
use Rattle.cap_readback.specs.File.{Bodies, chunks, AreNamed}
use Rattle.cap_readback.proofs.Reading.{length-spread, spread-stands, stand-back}
use Rattle.cap_readback.proofs.Names.{names-stand}
use Rattle.cap_readback.proofs.View.{dyn-view-is, dyn-view-not}

pub written-is : (c : Content) (b : Bodies) → AreApart 0 (chunks c b) → spread_end 0 (chunks c b) ≡ c.at.file_end → IsWritten (spread 0 (chunks c b)) c
written-is c b apart end =
    let bytes = spread 0 (chunks c b) in
    let all : AllStand bytes (chunks c b) = spread-stands (chunks c b) apart in
    let long : 0 + length bytes ≡ spread_end 0 (chunks c b) = length-spread 0 (chunks c b) apart in
    let tail = (c.at.dynamic_at, flat_map entry_bytes (dynamics c)) ∷ (c.at.slots_at, b.slots) ∷ (b.tables ++ ((c.at.table_end, []) ∷ b.written)) in
    let behind_ro = stand-back bytes b.ro ((c.at.stubs_at, b.stubs) ∷ (b.code ++ tail)) all.1.1.1.1.1.1.1 in
    let behind_code = stand-back bytes b.code tail behind_ro.1 in
    record {
      long = omega (arith, long, end);
      header = all.0;
      segments = all.1.0;
      symbols = all.1.1.0;
      relas = all.1.1.1.0;
      caps = all.1.1.1.1.0;
      words = all.1.1.1.1.1.0;
      names = all.1.1.1.1.1.1.0;
      dynamics = behind_code.0;
    }

-- the law: what is written is read back
pub reads-back : (c : Content) (b : Bodies) → AreApart 0 (chunks c b) → spread_end 0 (chunks c b) ≡ c.at.file_end → IsPlanned c → is_plain c ≡ true → dyn_view (spread 0 (chunks c b)) ≡ Ok (view_of c)
reads-back c b apart end planned plain = dyn-view-is (spread 0 (chunks c b)) c (written-is c b apart end) planned plain

-- any other file is refused by a name or by an array
pub refuses-others : (c : Content) (b : Bodies) → AreApart 0 (chunks c b) → spread_end 0 (chunks c b) ≡ c.at.file_end → IsPlanned c → is_plain c ≡ false → Refused (dyn_view (spread 0 (chunks c b)))
refuses-others c b apart end planned plain = dyn-view-not (spread 0 (chunks c b)) c (written-is c b apart end) planned plain

-- ---- names
all-front : {X : Type 0} (P : X → Type 0) (xs ys : List X) → AllByRecursion P (xs ++ ys) → AllByRecursion P xs
all-front P [] ys h = tt
all-front P (x ∷ xs) ys h = (h.0, all-front P xs ys h.1)

all-back : {X : Type 0} (P : X → Type 0) (xs ys : List X) → AllByRecursion P (xs ++ ys) → AllByRecursion P ys
all-back P [] ys h = h
all-back P (x ∷ xs) ys h = all-back P xs ys h.1

names-end : (c : Content) → AreNamed c → AllByRecursion (Ends (strings c)) (map (λ p. p.name) c.symbols ++ (option_to_list c.own ++ c.needed))
names-end c named =
    let all = names-stand (strings c) 1 c.names (record { rest = []; is = sym (append-nil (terminated c.names)) }) in
    subst (AllByRecursion (Ends (strings c))) (sym named) all

pub symbol-names-end : (c : Content) → AreNamed c → AllByRecursion (Ends (strings c)) (map (λ p. p.name) c.symbols)
symbol-names-end c named = all-front (Ends (strings c)) (map (λ (p : Planned). p.name) c.symbols) (option_to_list c.own ++ c.needed) (names-end c named)

pub needed-names-end : (c : Content) → AreNamed c → AllByRecursion (Ends (strings c)) c.needed
needed-names-end c named =
    all-back (Ends (strings c)) (option_to_list c.own) c.needed (all-back (Ends (strings c)) (map (λ (p : Planned). p.name) c.symbols) (option_to_list c.own ++ c.needed) (names-end c named))

pub own-names-end : (c : Content) → AreNamed c → AllByRecursion (Ends (strings c)) (option_to_list c.own)
own-names-end c named =
    all-front (Ends (strings c)) (option_to_list c.own) c.needed (all-back (Ends (strings c)) (map (λ (p : Planned). p.name) c.symbols) (option_to_list c.own ++ c.needed) (names-end c named))

-- A step of the walk along the symbols.
use Rattle.std.proofs.Common.{◌≡◌, ℕ, ◌+◌, ◌<◌, Bool, true, false, ◌&&◌, ◌||◌, List, length, get_or, take, Option, Some, None, MatchOption, IfOk, Result, Ok, Err, refl, sym, ap, subst, ◌∙◌}
use Rattle.cap_intervals.specs.Earlier.{first_against, NoneAgainst, IsFirstAgainst}
use Rattle.cap_intervals.proofs.Earlier.{first_against_is}
use Rattle.std.specs.List.{list_any}
use Rattle.std.proofs.lemmas.List.Folds.{list_any_none, list_any_more}
use Rattle.cap_elf.specs.declared.records.Section.{Section}
use Rattle.cap_elf.specs.declared.records.Symbol.{Symbol}
use Rattle.cap_intervals.specs.declared.groups.Groups.{Groups}
use Rattle.cap_intervals.specs.declared.interval.Interval.{Interval}
use Rattle.cap_intervals.specs.Clash.{clash}
use Rattle.cap_intervals.specs.Groups.{clashes_in}
use Rattle.cap_layout.specs.Cuts.{cut_section, cut_interval, is_one_section}
use Rattle.cap_layout.specs.CutWalk.{clashes_at}

-- t cuts a section in a way that x in group o would clash with
abbrev pub is_hit : List Section → Option ℕ → Interval → Symbol → Bool
is_hit sections o x t = is_one_section o (cut_section sections t) && clash true x (cut_interval t)

-- the groups say what the symbols before say
abbrev pub Agree : List Section → Groups → List Symbol → Type 0
Agree sections taken seen = (g : ℕ) (q : Interval) → clashes_in true taken g q ≡ list_any (is_hit sections (Some g) q) seen

pub same_test : (sections : List Section) (taken : Groups) (seen : List Symbol) → Agree sections taken seen → (o : Option ℕ) (x : Interval) → clashes_at true taken o x ≡ list_any (is_hit sections o x) seen
same_test sections taken seen agree None x = sym (list_any_none (is_hit sections None x) seen (λ k d lt. refl))
same_test sections taken seen agree (Some g) x = agree g x

or_flip : (a b : Bool) → (a || b) ≡ (b || a)
or_flip true true = refl
or_flip true false = refl
or_flip false true = refl
or_flip false false = refl

pub agree_more : (sections : List Section) (old new : Groups) (xs : List Symbol) (i : ℕ) (d : Symbol) → i < length xs → Agree sections old (take i xs)
    → ((g : ℕ) (q : Interval) → clashes_in true new g q ≡ (is_hit sections (Some g) q (get_or xs i d) || clashes_in true old g q))
    → Agree sections new (take (i + 1) xs)
agree_more sections old new xs i d lt agree step g q =
    step g q ∙ ap (λ b. is_hit sections (Some g) q (get_or xs i d) || b) (agree g q) ∙ or_flip (is_hit sections (Some g) q (get_or xs i d)) (list_any (is_hit sections (Some g) q) (take i xs)) ∙ sym (list_any_more (is_hit sections (Some g) q) xs i d lt)

pub ok_pairs : {E X : Type 0} (r : Result (Option X) E) (test : X → X → Bool) (xs : List X) → IfOk r (λ f. f ≡ first_against test xs) → IfOk r (λ f. MatchOption f (NoneAgainst test xs) (IsFirstAgainst test xs))
ok_pairs {X = X} (Ok f) test xs h = subst (λ (o : Option X). MatchOption o (NoneAgainst test xs) (IsFirstAgainst test xs)) (sym h) (first_against_is test xs)
ok_pairs (Err e) test xs h = tt

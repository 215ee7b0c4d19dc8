-- Entering the first high part at each place, from the last step to the first.
use Rattle.std.proofs.Common.{◌≡◌, ℕ, ◌+◌, ◌<◌, Bool, true, false, ◌&&◌, ◌||◌, ◌==◌, cond, List, length, get_or, drop, Option, Some, None, Result, find, refl, sym, ap, ◌∙◌, subst, arith}
use Rattle.std.proofs.lemmas.Bool.Decides.{nat_tests}
use Rattle.std.proofs.lemmas.List.{drop_more}
use Rattle.std.specs.Ordering.{nat_cmp, ordering_then, is_eq}
use Rattle.std.specs.declared.cmp.Ordering.{Ordering}
use Rattle.std.specs.declared.cmp.Ordering.TheVariants.{Less, Equal, Greater}
use Rattle.std.specs.BTreeMap.{BTreeMap, get, is_at}
use Rattle.std.specs.Prelude.{IfSome, IfOk, ok_or}
use Rattle.std.specs.Option.{option_and_then}
use Rattle.cap_base.specs.declared.refusal.Fault.{Fault}
use Rattle.cap_elf.specs.declared.records.Reloc.{Reloc}
use Rattle.cap_elf.proofs.Passing.{if_some, find_all}
use Rattle.cap_elf.specs.RelObject.{RelObject}
use Rattle.cap_table.specs.declared.target.Step.{Step}
use Rattle.cap_table.specs.Kinds.{is_high, is_slot_high}
use Rattle.cap_table.specs.Checks.{reloc_of}
use Rattle.cap_code.specs.Values.{Scene, is_high_at, label_of, partner_of}
use Rattle.cap_code.specs.Steps.{IsScene, IsStepIn}
use Rattle.cap_code.specs.Partners.{place_cmp, AreFirsts}

same_number : (a b : ℕ) → is_eq (nat_cmp a b) ≡ (a == b)
same_number a b = grind (arith, nat_tests)

both_equal : (o p : Ordering) → is_eq (ordering_then o p) ≡ (is_eq o && is_eq p)
both_equal Less p = refl
both_equal Equal p = refl
both_equal Greater p = refl

-- two places are equal where their parts are
same_place : (p q : ℕ × ℕ × ℕ) → is_eq (place_cmp p q) ≡ ((p.0 == q.0 && p.1 == q.1) && p.2 == q.2)
same_place p q =
    both_equal (ordering_then (nat_cmp p.0 q.0) (nat_cmp p.1 q.1)) (nat_cmp p.2 q.2)
    ∙ ap (λ b. is_eq (ordering_then (nat_cmp p.0 q.0) (nat_cmp p.1 q.1)) && b) (same_number p.2 q.2)
    ∙ ap (λ b. b && p.2 == q.2) (both_equal (nat_cmp p.0 q.0) (nat_cmp p.1 q.1) ∙ ap (λ b. b && is_eq (nat_cmp p.1 q.1)) (same_number p.0 q.0) ∙ ap (λ b. p.0 == q.0 && b) (same_number p.1 q.1))

regrouped : (a b h c : Bool) → h ≡ true → (((a && b) && h) && c) ≡ ((a && b) && c)
regrouped false b h c e = refl
regrouped true false h c e = refl
regrouped true true h c e = ap (λ t. t && c) e

none : (a b h c : Bool) → h ≡ false → (((a && b) && h) && c) ≡ false
none false b h c e = refl
none true false h c e = refl
none true true h c e = ap (λ t. t && c) e

-- where a step with a high part stands
abbrev pub place_of : List RelObject → Step → ℕ × ℕ × ℕ
place_of rels s = (s.file, (reloc_of rels s).section, (reloc_of rels s).offset)

abbrev pub has_high : Reloc → Bool
has_high r = is_high r.kind || is_slot_high r.kind

here : (rels : List RelObject) (s : Step) (q : ℕ × ℕ × ℕ) → has_high (reloc_of rels s) ≡ true → is_at (place_cmp (place_of rels s)) q ≡ is_high_at rels q.0 q.1 q.2 s
unfolding is_high_at
here rels s q h =
    same_place (place_of rels s) q
    ∙ sym (regrouped (s.file == q.0) ((reloc_of rels s).section == q.1) (has_high (reloc_of rels s)) ((reloc_of rels s).offset == q.2) h)

nowhere : (rels : List RelObject) (s : Step) (q : ℕ × ℕ × ℕ) → has_high (reloc_of rels s) ≡ false → is_high_at rels q.0 q.1 q.2 s ≡ false
unfolding is_high_at
nowhere rels s q h = none (s.file == q.0) ((reloc_of rels s).section == q.1) (has_high (reloc_of rels s)) ((reloc_of rels s).offset == q.2) h

-- a search from an item on
search_at : (p : Step → Bool) (xs : List Step) (i : ℕ) (s : Step) → i < length xs → s ≡ get_or xs i s → find p (drop i xs) ≡ cond (p s) (Some s) (find p (drop (i + 1) xs))
search_at p xs i s lt e =
    ap (find p) (drop_more xs i s lt) ∙ ap (λ x. cond (p x) (Some x) (find p (drop (i + 1) xs))) (sym e)

pub entered : (rels : List RelObject) (xs : List Step) (i : ℕ) (s : Step) (m n : BTreeMap (ℕ × ℕ × ℕ) Step) → i < length xs → s ≡ get_or xs i s → has_high (reloc_of rels s) ≡ true
    → ((q : ℕ × ℕ × ℕ) → get place_cmp n q ≡ cond (is_at (place_cmp (place_of rels s)) q) (Some s) (get place_cmp m q)) → AreFirsts m rels (drop (i + 1) xs) → AreFirsts n rels (drop i xs)
entered rels xs i s m n lt e h updates are q =
    updates q
    ∙ ap (λ b. cond b (Some s) (get place_cmp m q)) (here rels s q h)
    ∙ ap (λ o. cond (is_high_at rels q.0 q.1 q.2 s) (Some s) o) (are q)
    ∙ sym (search_at (is_high_at rels q.0 q.1 q.2) xs i s lt e)

pub passed_over : (rels : List RelObject) (xs : List Step) (i : ℕ) (s : Step) (m : BTreeMap (ℕ × ℕ × ℕ) Step) → i < length xs → s ≡ get_or xs i s → has_high (reloc_of rels s) ≡ false → AreFirsts m rels (drop (i + 1) xs) → AreFirsts m rels (drop i xs)
passed_over rels xs i s m lt e h are q =
    are q
    ∙ sym (search_at (is_high_at rels q.0 q.1 q.2) xs i s lt e ∙ ap (λ b. cond b (Some s) (find (is_high_at rels q.0 q.1 q.2) (drop (i + 1) xs))) (nowhere rels s q h))

found : (scene : Scene) (file section : ℕ) (label : Option ℕ) → IsScene scene → IfSome (option_and_then (λ offset. find (is_high_at scene.named.rels file section offset) scene.lists.plan.steps) label) (IsStepIn scene)
found scene file section None is = tt
found scene file section (Some offset) is =
    let p = is_high_at scene.named.rels file section offset in
    if_some (find p scene.lists.plan.steps) (IsStepIn scene) (λ s e. find_all p (IsStepIn scene) scene.lists.plan.steps s e is.steps)

or_fault : (scene : Scene) (o : Option Step) (e : Fault) → IfSome o (IsStepIn scene) → IfOk (ok_or o e) (IsStepIn scene)
or_fault scene None e h = tt
or_fault scene (Some s) e h = h

-- a partner is a step of the plan
pub partner_there : (scene : Scene) (s : Step) (o : Option Step) (e : Fault) (r : Result Step Fault) → IsScene scene → o ≡ partner_of scene.named.rels scene.lists.plan.steps s → r ≡ ok_or o e → IfOk r (IsStepIn scene)
unfolding partner_of
partner_there scene s o e r is from to =
    let rels = scene.named.rels in
    let here : IfSome o (IsStepIn scene) = subst (λ p. IfSome p (IsStepIn scene)) (sym from) (found scene s.file (reloc_of rels s).section (label_of rels s) is) in
    subst (λ p. IfOk p (IsStepIn scene)) (sym to) (or_fault scene o e here)

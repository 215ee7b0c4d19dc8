use Rattle.std.proofs.Common.{◌≡◌, ℕ, ◌<◌, List, [], length, get_or, sym, subst, ap, ◌∙◌, arith}
use Rattle.cap_elf.specs.declared.rel_named.NamePlace.{NamePlace}
use Rattle.cap_elf.specs.RelObject.{RelObject, name_of}
use Rattle.cap_elf.specs.NamePlaces.{strings_at, names_at}
use Rattle.cap_elf.proofs.ByName.{place_count}
use Rattle.cap_elf.proofs.rel_file.RelFile.name.Goals as goal

-- a place less than so many, which are as many as there are of another kind
among : (i places names symbols all : ℕ) → i < all → all ≡ symbols → names ≡ symbols → names ≡ places → i < places
among i places names symbols all lt view total count = omega (arith, lt, view, total, count)

pub name_in-requires-clause-inside : goal.name_in-requires-clause-inside
name_in-requires-clause-inside c =
    let strings = strings_at c.self.inside.bytes.items c.self.inside.strings in
    let places = c.self.inside.names.items in
    let view = ap (λ (o : RelObject). length o.symbols) (sym c.self.view_is) in
    let lt = among c.args.symbol (length places) (length (names_at strings places)) (length c.self.inside.symbols.items) (length c.args.self.now.symbols) c.requires view c.self.invariant.0.name_count (place_count strings places) in
    subst (λ (ps : List NamePlace). c.args.symbol < length ps) (sym c.deref-2.ensures.value) lt

pub returns-clause-name : goal.returns-clause-name
returns-clause-name c =
    c.name_in.ensures
    ∙ ap (λ (bytes : List ℕ). get_or (names_at (strings_at bytes c.self.inside.strings) c.deref-2.result.now) c.args.symbol []) c.deref.ensures.value
    ∙ ap (λ (ps : List NamePlace). get_or (names_at (strings_at c.self.inside.bytes.items c.self.inside.strings) ps) c.args.symbol []) c.deref-2.ensures.value
    ∙ ap (λ (o : RelObject). name_of o c.args.symbol) c.self.view_is

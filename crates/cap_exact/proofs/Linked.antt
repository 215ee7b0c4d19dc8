-- A file that a link wrote, and that is read, has exact bounds and data that lie apart.
use Rattle.std.proofs.Common.{◌≡◌, ◌⊎◌, ℕ, ◌+◌, ◌<◌, Bool, true, false, List, refl, sym, ap, ◌∙◌, subst}
use Rattle.std.specs.Prelude.{Result, Ok, Err, slice_index_or}
use Rattle.cap_base.specs.declared.kind.Kind.{Kind}
use Rattle.cap_elf.specs.DynView.{DynRecords, dyn_view}
use Rattle.cap_elf.specs.Records.{null_symbol}
use Rattle.cap_fits.specs.Fits.{Apart, Fits, is_data}
use Rattle.cap_link.specs.Inputs.{Input}
use Rattle.cap_link.specs.Laws.{AreAliases, EqualsAreAliases, IsAccepted, IsExactAndApart, IsLinked, ReadsBack, RefusesOthers, target_of_name}
use Rattle.cap_link.specs.Linked.{Linked, file_of_link, link_of}
use Rattle.cap_link.specs.View.{is_plain, linked_view}
use Rattle.cap_session.proofs.Begins.{bind_ok}
use Rattle.cap_exact.specs.Loads.{OnlyAliasesAreOne}

-- what a link says of the files that it writes
pub record FileLaws : Type 0 where
  pub reads : ReadsBack
  pub others : RefusesOthers
  pub exact : IsExactAndApart
  pub aliases : EqualsAreAliases

-- whoever reads the bytes finds exact bounds and data that lie apart
abbrev FitsWhereRead : List ℕ → Type 0
FitsWhereRead bytes = (records : DynRecords) → dyn_view bytes ≡ Ok records → Fits records × Apart records

ok-same : {A E : Type 0} (x y : A) → ◌≡◌ {A = Result A E} (Ok x) (Ok y) → x ≡ y
ok-same x y e = cc

err-or-ok : {A E : Type 0} (e : E) (x : A) → ◌≡◌ {A = Result A E} (Err e) (Ok x) → ⊥
err-or-ok e x h = cc

-- the records that are read of a linked file are those of its link
as-planned : FileLaws → (inputs : List Input) (kind : Kind) (l : Linked) (records : DynRecords) → IsAccepted inputs kind l → dyn_view (file_of_link l) ≡ Ok records → linked_view l ≡ records
as-planned laws inputs kind l records accepted read = go (is_plain l) refl
  where
    go : (b : Bool) → is_plain l ≡ b → linked_view l ≡ records
    go true plain = ok-same (linked_view l) records (sym (laws.reads inputs kind l accepted plain).0 ∙ read)
    go false other = let refused = laws.others inputs kind l accepted other in absurd (err-or-ok refused.0 records (sym refused.2 ∙ read))

link-fits : FileLaws → (inputs : List Input) (kind : Kind) (l : Linked) → IsAccepted inputs kind l → FitsWhereRead (file_of_link l)
link-fits laws inputs kind l accepted records read =
    subst (λ (r : DynRecords). Fits r × Apart r) (as-planned laws inputs kind l records accepted read) (laws.exact inputs kind l accepted)

pub only-aliases : FileLaws → (bytes : List ℕ) (records : DynRecords) → dyn_view bytes ≡ Ok records → OnlyAliasesAreOne bytes records
only-aliases laws bytes records read inputs kind l i j accepted is low high =
    let same : linked_view l ≡ records = as-planned laws inputs kind l records accepted (ap dyn_view is ∙ read) in
    subst (λ (r : DynRecords). let s = slice_index_or r.symbols (i + 1) (null_symbol 0) in let t = slice_index_or r.symbols (j + 1) (null_symbol 0) in
    is_data s ≡ true → is_data t ≡ true → s.value ≡ t.value → s.size ≡ t.size → 0 < s.size → (i ≡ j) ⊎ AreAliases (target_of_name l i) (target_of_name l j)) same
    (laws.aliases inputs kind l i j accepted low high)

pub linked-fits : FileLaws → (bytes : List ℕ) → IsLinked bytes → (records : DynRecords) → dyn_view bytes ≡ Ok records → Fits records × Apart records
linked-fits laws bytes w =
    let made = bind_ok (link_of w.0 w.1) (λ (l : Linked). Ok (file_of_link l)) bytes w.3 in
    subst FitsWhereRead (ok-same (file_of_link made.0) bytes made.2) (link-fits laws w.0 w.1 made.0 (record { inputs_are = w.2; link_is = made.1 }))

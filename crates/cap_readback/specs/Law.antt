-- A plan, its file, and what is read of it.
use Rattle.std.specs.Prelude.{◌≡◌, ℕ, ◌+◌, ◌^◌, ◌≤◌, ◌<◌, ◌==◌, true, false, List, [], ◌∷◌, length, map, option_to_list, Ok}
use Rattle.std.specs.List.{list_any, AllByRecursion}
use Rattle.cap_elf.specs.Header.{lacks_flags}
use Rattle.cap_base.specs.Text.{is_plain as is_printable}
use Rattle.cap_elf.specs.Records.{place_of}
use Rattle.cap_elf.specs.Symbols.{is_reserved}
use Rattle.cap_readback.specs.Stands.{AreSmall}
use Rattle.cap_readback.specs.Spread.{spread}
use Rattle.cap_elf.specs.Exported.{is_exported}
use Rattle.cap_readback.specs.Content.{symbol_of, Name, Planned, AreNew, IsGoodReloc, cap_fields}
use Rattle.cap_elf.specs.DynView.{dyn_view}
use Rattle.cap_readback.specs.View.{Content, symbol_count, is_plain, view_of, Refused}
use Rattle.cap_readback.specs.File.{chunks, AreNamed}
use Rattle.cap_readback.specs.Layout.{Pieces, IsLayout, bodies_of}

abbrev pub file_of : Content → Pieces → List ℕ
file_of c p = spread 0 (chunks c (bodies_of c p))

-- a symbol of a plan
pub record IsSymbol (p : Planned) : Type 0 where
  pub printable : is_printable p.name.1 ≡ true
  pub some : 0 < length p.name.1
  pub short : length p.name.1 ≤ 255
  pub kind : p.symbol.kind ≤ 5
  pub binding : p.symbol.binding ≤ 2
  pub visibility : p.symbol.visibility < 4
  pub section : is_reserved (place_of p.symbol.section) ≡ false
  pub section_fits : p.symbol.section < 2 ^ 16
  pub value_fits : p.symbol.value < 2 ^ 64
  pub size_fits : p.symbol.size < 2 ^ 64

-- the name of a library, as words give it
pub record IsWord (n : Name) : Type 0 where
  pub no_zero : list_any (λ b. b == 0) n.1 ≡ false
  pub short : length n.1 ≤ 255

-- a plan and its layout
pub record IsPlan (c : Content) (p : Pieces) : Type 0 where
  pub layout : IsLayout c p
  pub named : AreNamed c
  pub flags : c.flags < 2 ^ 32
  pub pure : lacks_flags c.flags ≡ false
  pub entry : c.entry < 2 ^ 64
  pub few_symbols : symbol_count c ≤ 2 ^ 20
  pub few_relocs : length c.relas + length c.caps ≤ 2 ^ 20
  pub some_bucket : 0 < c.buckets
  pub words : AllByRecursion (λ w. w < 2 ^ 32) c.more
  pub symbols : AllByRecursion IsSymbol c.symbols
  pub new : AreNew [] c.symbols
  pub relas : AllByRecursion (IsGoodReloc (symbol_count c)) c.relas
  pub caps : AllByRecursion (λ x. AreSmall (cap_fields x)) c.caps
  pub own : AllByRecursion IsWord (option_to_list c.own)
  pub needed : AllByRecursion IsWord c.needed

-- the null symbol, as others are planned
abbrev pub null_planned : Planned
null_planned = record { name = (0, []); symbol = record { binding = 0; kind = 0; visibility = 0; section = 0; value = 0; size = 0 } }

-- the file of a plain plan is read as it was planned; any other is refused by a name or an array
pub record WrittenIsRead : Type 0 where
  pub reads : (c : Content) (p : Pieces) → IsPlan c p → is_plain c ≡ true → dyn_view (file_of c p) ≡ Ok (view_of c)
  pub refuses : (c : Content) (p : Pieces) → IsPlan c p → is_plain c ≡ false → Refused (dyn_view (file_of c p))

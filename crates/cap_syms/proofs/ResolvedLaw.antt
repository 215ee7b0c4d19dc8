-- What holds of each table of names, where the inputs were read.
use Rattle.std.proofs.Common.{◌≡◌, ◌≢◌, ℕ, zero, suc, ◌+◌, ◌*◌, ◌^◌, ◌<◌, ◌≤◌, Bool, true, false, not, cond, ◌&&◌, ◌||◌, List, [], ◌∷◌, length, map, filter, get_or, Option, Some, None, inl, inr, refl, sym, ap, subst, ◌∙◌, arith, true≢false, length-append}
use Rattle.std.specs.Prelude.{fold, find, max, zip, slice_get, unwrap_or, is_some, All, AllPairs, IsTrue}
use Rattle.std.specs.Int.{is_power_of_two}
use Rattle.std.specs.List.{list_any, flat_map, enumerate_from, position_or_len}
use Rattle.std.specs.Option.{option_or}
use Rattle.std.specs.Str.{bytes_eq}
use Rattle.std.proofs.lemmas.Bool.{cases_Bool, cases_lt, and_parts, and_from, eq-eqb, eqb-false, ne_eqb, not_from_false, not-true, lt-ltb}
use Rattle.std.proofs.lemmas.List.{get_or-map, get_or_default, length-map}
use Rattle.std.proofs.lemmas.List.Elements.{All-nil, All-cons, All-head, All-tail, All-append, All-map, All-filter, filter_passes}
use Rattle.std.proofs.lemmas.List.Folds.{list_any-append, list_any_at}
use Rattle.std.proofs.lemmas.List.FromFn.{length-enumerate_from, get_or-enumerate_from}
use Rattle.std.proofs.lemmas.Slice.Zip.{get_or-zip, length-zip}
use Rattle.cap_elf.specs.declared.records.Place.{Place}
use Rattle.cap_elf.specs.declared.records.Place.TheVariants as places
use Rattle.cap_elf.specs.declared.records.Section.{Section}
use Rattle.cap_elf.specs.declared.records.Symbol.{Symbol}
use Rattle.cap_elf.specs.Records.{null_symbol}
use Rattle.cap_elf.specs.RelObject.{RelObject, file_of, symbol_of, name_of, no_object}
use Rattle.cap_elf.specs.IsRead.{IsShort, IsNamed}
use Rattle.cap_elf.specs.IsRelRead.{IsRelRead, IsRelSymbol, IsPlaced, IsCommon}
use Rattle.cap_syms.specs.declared.entries.Entry.{Entry}
use Rattle.cap_syms.specs.declared.entries.Shape.{Shape}
use Rattle.cap_syms.specs.declared.entries.Shape.TheVariants as shapes
use Rattle.cap_syms.specs.Occurrences.{Occurrence, occurrences, occurrences_in, occurrences_of, names_in_order, is_local, is_global, is_weak, is_definition_at, is_common_at}
use Rattle.cap_syms.specs.Decisions.{is_global_definition, is_weak_definition, is_common, largest, merged, visibility_of, some_visible, decided, no_entry, bound_of}
use Rattle.cap_syms.specs.Resolved.{Resolved, resolved, index_of, IsTableOf}
use Rattle.cap_syms.specs.IsResolved.{IsResolved, IsRow, IsShapeOf}
use Rattle.cap_syms.specs.Tally.{symbols_in}
use Rattle.cap_syms.proofs.Firsts.{bytes_same, bytes_refl, bytes_swap, any-distinct, apart-distinct, few-distinct}
use Rattle.cap_syms.proofs.Passes.{occurrence_at, length-symbols_in, get_or-symbols_in}
use Rattle.cap_syms.proofs.ResolveLaw.{table-given}
use Rattle.cap_syms.proofs.Tallies.{find-first}

-- what is found passes
found : {X : Type 0} (P : X → Type 0) (p : X → Bool) (xs : List X) (o : X) → All P xs → find p xs ≡ Some o → P o × (p o ≡ true)
found P p [] o all e = absurd (true≢false (sym (ap is_some e)))
found P p (x ∷ xs) o all e = elim (cases_Bool (p x)) [
  | inl h ↦
      let at : Some x ≡ Some o = sym (ap (λ b. cond b (Some x) (find p xs)) h) ∙ e in
      let same : x ≡ o = ap (λ m. unwrap_or m x) at in
      (subst P same (All-head P x xs all), subst (λ y. p y ≡ true) same h)
  | inr h ↦ found P p xs o (All-tail P x xs all) (sym (ap (λ b. cond b (Some x) (find p xs)) h) ∙ e)
]

-- where nothing is found, none passes
none_pass : {X : Type 0} (p : X → Bool) (xs : List X) → find p xs ≡ None → All (λ x. p x ≡ false) xs
none_pass p [] e = All-nil (λ x. p x ≡ false)
none_pass p (x ∷ xs) e = elim (cases_Bool (p x)) [
  | inl h ↦ absurd (true≢false (ap is_some (sym (ap (λ b. cond b (Some x) (find p xs)) h) ∙ e)))
  | inr h ↦ All-cons (λ x. p x ≡ false) x xs h (none_pass p xs (sym (ap (λ b. cond b (Some x) (find p xs)) h) ∙ e))
]

first_has : {X : Type 0} (P : X → Type 0) (xs : List X) (o : X) → All P xs → slice_get xs 0 ≡ Some o → P o
first_has P [] o all e = absurd (true≢false (sym (ap is_some e)))
first_has P (x ∷ xs) o all e = subst P (ap (λ m. unwrap_or m x) e) (All-head P x xs all)

largest-le : (high acc : ℕ) (ns : List ℕ) → acc ≤ high → All (λ n. n ≤ high) ns → fold max acc ns ≤ high
largest-le high acc [] h all = h
largest-le high acc (n ∷ ns) h all =
    let one : n ≤ high = All-head (λ m. m ≤ high) n ns all in
    largest-le high (max acc n) ns (omega (arith, h, one)) (All-tail (λ m. m ≤ high) n ns all)

largest-has : (P : ℕ → Type 0) (acc : ℕ) (ns : List ℕ) → P acc → All P ns → P (fold max acc ns)
largest-has P acc [] h all = h
largest-has P acc (n ∷ ns) h all =
    let one : P (max acc n) = elim (cases_lt acc n) [
      | inl lt ↦ let e : n ≡ max acc n = omega (arith, lt) in subst P e (All-head P n ns all)
      | inr le ↦ let e : acc ≡ max acc n = omega (arith, le) in subst P e h
    ] in
    largest-has P (max acc n) ns one (All-tail P n ns all)

largest-power : (cs : List Occurrence) (o : Occurrence) → slice_get cs 0 ≡ Some o → All (λ c. IsTrue (is_power_of_two c.as_is.value)) cs → IsTrue (is_power_of_two (largest (map (λ c. c.as_is.value) cs)))
largest-power [] o e all = absurd (true≢false (sym (ap is_some e)))
largest-power (c ∷ cs) o e all =
    let P : ℕ → Type 0 = λ n. IsTrue (is_power_of_two n) in
    let same : c.as_is.value ≡ max 0 c.as_is.value = omega arith in
    let head : IsTrue (is_power_of_two c.as_is.value) = All-head (λ x. IsTrue (is_power_of_two x.as_is.value)) c cs all in
    largest-has P (max 0 c.as_is.value) (map (λ x. x.as_is.value) cs) (subst P same head) (All-map P (λ x. x.as_is.value) cs (All-tail (λ x. IsTrue (is_power_of_two x.as_is.value)) c cs all))

undefined-of : (p : Place) → is_definition_at p ≡ false → is_common_at p ≡ false → p ≡ places.Undefined
undefined-of places.Undefined d c = refl
undefined-of places.Absolute d c = absurd (true≢false d)
undefined-of places.Common d c = absurd (true≢false c)
undefined-of (places.Section n) d c = absurd (true≢false d)

common-of : (sections : List Section) (s : Symbol) (p : Place) → IsPlaced sections s p → is_common_at p ≡ true → IsCommon s
common-of sections s places.Undefined placed h = absurd (true≢false (sym h))
common-of sections s places.Absolute placed h = absurd (true≢false (sym h))
common-of sections s places.Common placed h = placed
common-of sections s (places.Section n) placed h = absurd (true≢false (sym h))

visible : (os : List Occurrence) → visibility_of os < 4
visible os = by (some_visible os 1) (some_visible os 2) (some_visible os 3)
  where
    by : (a b c : Bool) → cond a 1 (cond b 2 (cond c 3 0)) < 4
    by true b c = omega arith
    by false true c = omega arith
    by false false true = omega arith
    by false false false = omega arith

module _ (rels : List RelObject) (read : All IsRelRead rels) where
  -- an occurrence is that symbol of that input
  record IsSeen (o : Occurrence) : Type 0 where
    file : o.file < length rels
    symbol : o.symbol < length (file_of rels o.file).symbols
    named : name_of (file_of rels o.file) o.symbol ≡ o.name
    is : symbol_of (file_of rels o.file) o.symbol ≡ o.as_is
    outside : o.as_is.binding ≢ 0

  read_at : (file : ℕ) → file < length rels → IsRelRead (file_of rels file)
  read_at file lt = read file no_object lt

  symbol-is : (o : Occurrence) (s : IsSeen o) → IsRelSymbol (file_of rels o.file).sections o.as_is
  symbol-is o s =
      subst (IsRelSymbol (file_of rels o.file).sections) s.is ((read_at o.file s.file).symbols_are o.symbol (null_symbol 0) s.symbol)

  common-is : (o : Occurrence) → IsSeen o → is_common o ≡ true → IsCommon o.as_is
  common-is o s h = common-of (file_of rels o.file).sections o.as_is o.as_is.place (symbol-is o s).placed h

  -- an input, with its place
  abbrev IsInput : ℕ × RelObject → Type 0
  IsInput p = (p.0 < length rels) × (file_of rels p.0 ≡ p.1)

  from_zero : (i : ℕ) → 0 + i ≡ i
  from_zero i = omega arith

  inputs : All IsInput (enumerate_from 0 rels)
  inputs k d lt =
      let inside : k < length rels = omega (arith, lt, length-enumerate_from 0 rels) in
      let here : (0 + k < length rels) × (file_of rels (0 + k) ≡ get_or rels k d.1) =
      (omega (arith, inside), ap (file_of rels) (from_zero k) ∙ get_or_default rels k no_object d.1 inside) in
      subst IsInput (sym (get_or-enumerate_from 0 rels k d inside)) here

  seen-symbol : (p : ℕ × RelObject) → IsInput p → (o : Occurrence) → (i : ℕ) → i < length p.1.symbols → occurrence_at p i ≡ o → o.as_is.binding ≢ 0 → IsSeen o
  seen-symbol p input o i lt e out =
      let made : (occurrence_at p i).as_is.binding ≢ 0 = subst (λ (x : Occurrence). x.as_is.binding ≢ 0) (sym e) out in
      subst IsSeen e (record {
        file = input.0;
        symbol = subst (λ (r : RelObject). i < length r.symbols) (sym input.1) lt;
        named = ap (λ r. name_of r i) input.1;
        is = ap (λ r. symbol_of r i) input.1;
        outside = made;
      })

  seen-in : (p : ℕ × RelObject) → IsInput p → All IsSeen (occurrences_in p)
  seen-in p input =
      let out : Occurrence → Bool = λ o. not (is_local o.as_is) in
      let each : All (λ o. o.as_is.binding ≢ 0 → IsSeen o) (symbols_in p) =
      λ k d lt. (let inside : k < length p.1.symbols = omega (arith, lt, length-symbols_in p) in
      seen-symbol p input (get_or (symbols_in p) k d) k inside (sym (get_or_default (symbols_in p) k d (occurrence_at p 0) lt ∙ get_or-symbols_in p k inside))) in
      let kept : All (λ o. o.as_is.binding ≢ 0 → IsSeen o) (occurrences_in p) = All-filter out (λ o. o.as_is.binding ≢ 0 → IsSeen o) (symbols_in p) each in
      let passed : All (λ o. out o ≡ true) (occurrences_in p) = filter_passes out (symbols_in p) in
      λ k d lt. kept k d lt (eqb-false (get_or (occurrences_in p) k d).as_is.binding 0 (not-true _ (passed k d lt)))

  seen-all : (ps : List (ℕ × RelObject)) → All IsInput ps → All IsSeen (flat_map occurrences_in ps)
  seen-all [] all = All-nil IsSeen
  seen-all (p ∷ ps) all =
      All-append IsSeen (occurrences_in p) (flat_map occurrences_in ps) (seen-in p (All-head IsInput p ps all)) (seen-all ps (All-tail IsInput p ps all))

  all-seen : All IsSeen (occurrences rels)
  all-seen = seen-all (enumerate_from 0 rels) inputs

  module _ (n : List ℕ) (program : Bool) where
    abbrev row_by : Entry → Resolved
    row_by e = record { name = n; entry = e; bound = bound_of program e }

    abbrev Good : Entry → Type 0
    Good e = IsRow rels (row_by e)

    -- an occurrence of the name makes a row, by its shape
    row-made : (os : List Occurrence) (o : Occurrence) (shape : Shape) → IsSeen o → o.name ≡ n → IsShapeOf o.as_is.place shape → Good (record { file = o.file; symbol = o.symbol; shape = shape; visibility = visibility_of os })
    row-made os o shape s name fits =
        let object : RelObject = file_of rels o.file in
        let r = read_at o.file s.file in
        let called : name_of object o.symbol ≡ n = s.named ∙ name in
        let d : Symbol × List ℕ = (null_symbol 0, []) in
        let low : o.symbol < length object.names = omega (arith, s.symbol, r.name_count) in
        let inside : o.symbol < length (zip object.symbols object.names) = (let long = length-zip object.symbols object.names in omega (arith, long, s.symbol, low)) in
        let given : IsNamed (symbol_of object o.symbol, name_of object o.symbol) = subst IsNamed (get_or-zip object.symbols object.names o.symbol d s.symbol low) (r.named o.symbol d inside) in
        let out : (symbol_of object o.symbol).binding ≢ 0 = subst (λ (x : Symbol). x.binding ≢ 0) (sym s.is) s.outside in
        record {
          file = s.file;
          symbol = s.symbol;
          named = called;
          outside = out;
          shape = subst (λ (x : Symbol). IsShapeOf x.place shape) (sym s.is) fits;
          visibility = visible os;
          short = subst IsShort called (r.names_are o.symbol [] low);
          some = subst (λ (t : List ℕ). 0 < length t) called (given out);
        }

    module _ (os : List Occurrence) (all : All IsSeen os) (its : All (λ o. o.name ≡ n) os) where
      abbrev Its : Occurrence → Type 0
      Its o = IsSeen o × (o.name ≡ n)

      both : All Its os
      both k d lt = (all k d lt, its k d lt)

      merged-fits : (o : Occurrence) → find is_common os ≡ Some o → IsShapeOf o.as_is.place (merged os)
      merged-fits o e =
          let cs : List Occurrence = filter is_common os in
          let seen : All IsSeen cs = All-filter is_common IsSeen os all in
          let pass : All (λ c. is_common c ≡ true) cs = filter_passes is_common os in
          let commons : All (λ c. IsCommon c.as_is) cs = λ k d lt. common-is (get_or cs k d) (seen k d lt) (pass k d lt) in (
            (found IsSeen is_common os o all e).1,
            largest-le (2 ^ 26) 0 (map (λ c. c.as_is.size) cs) (omega arith) (All-map (λ m. m ≤ 2 ^ 26) (λ c. c.as_is.size) cs (λ k d lt. (commons k d lt).size_high)),
            largest-power cs o (sym (find-first is_common os) ∙ e) (λ k d lt. (commons k d lt).power),
            largest-le 65536 0 (map (λ c. c.as_is.value) cs) (omega arith) (All-map (λ m. m ≤ 65536) (λ c. c.as_is.value) cs (λ k d lt. (commons k d lt).align_high)),
          )

      module _ (no_definition : All (λ o. is_global_definition o ≡ false) os) (no_common : All (λ o. is_common o ≡ false) os) where
        global-fits : (o : Occurrence) → is_global_definition o ≡ false → is_common o ≡ false → is_global o.as_is ≡ true → o.as_is.place ≡ places.Undefined
        global-fits o definition common global =
            undefined-of o.as_is.place (sym (ap (λ b. b && is_definition_at o.as_is.place) global) ∙ definition) common

        weak-of : (s : Symbol) → s.binding ≤ 2 → s.binding ≢ 0 → is_global s ≡ false → is_weak s ≡ true
        weak-of s le out global =
            eq-eqb s.binding 2 (elim (cases_lt s.binding 2) [
              | inl lt ↦ elim (cases_lt s.binding 1) [
                | inl none ↦ absurd (out (omega (arith, none)))
                | inr one ↦ absurd (eqb-false s.binding 1 global (omega (arith, lt, one)))
              ]
              | inr two ↦ omega (arith, le, two)
            ])

        last : (x : Option Occurrence) → slice_get os 0 ≡ x → is_some (slice_get os 0) ≡ true → All (λ o. is_weak_definition o ≡ false) os → All (λ o. is_global o.as_is ≡ false) os → Good (unwrap_or (decided os (shapes.Absent true) x) no_entry)
        last None e some no_weak no_global = absurd (true≢false (sym some ∙ ap is_some e))
        last (Some o) e some no_weak no_global =
            let P : Occurrence → Type 0 = λ x. Its x × (is_weak_definition x ≡ false) × (is_global x.as_is ≡ false) × (is_common x ≡ false) in
            let facts : P o = first_has P os o (λ k d lt. (both k d lt, no_weak k d lt, no_global k d lt, no_common k d lt)) e in
            let weak : is_weak o.as_is ≡ true = weak-of o.as_is (symbol-is o facts.0.0).binding facts.0.0.outside facts.2 in
            let place : o.as_is.place ≡ places.Undefined = undefined-of o.as_is.place (sym (ap (λ b. b && is_definition_at o.as_is.place) weak) ∙ facts.1) facts.3 in
            row-made os o (shapes.Absent true) facts.0.0 facts.0.1 place

        fourth : (x : Option Occurrence) → find (λ o. is_global o.as_is) os ≡ x → is_some (slice_get os 0) ≡ true → All (λ o. is_weak_definition o ≡ false) os → Good (unwrap_or (option_or (decided os (shapes.Absent false) x) (decided os (shapes.Absent true) (slice_get os 0))) no_entry)
        fourth None e some no_weak = last (slice_get os 0) refl some no_weak (none_pass (λ o. is_global o.as_is) os e)
        fourth (Some o) e some no_weak =
            let P : Occurrence → Type 0 = λ x. Its x × (is_global_definition x ≡ false) × (is_common x ≡ false) in
            let facts = found P (λ x. is_global x.as_is) os o (λ k d lt. (both k d lt, no_definition k d lt, no_common k d lt)) e in
            row-made os o (shapes.Absent false) facts.0.0.0 facts.0.0.1 (global-fits o facts.0.1 facts.0.2 facts.1)

        third : (x : Option Occurrence) → find is_weak_definition os ≡ x → is_some (slice_get os 0) ≡ true → Good (unwrap_or (option_or (decided os shapes.Defined x) (option_or (decided os (shapes.Absent false) (find (λ o. is_global o.as_is) os)) (decided os (shapes.Absent true) (slice_get os 0)))) no_entry)
        third None e some = fourth (find (λ o. is_global o.as_is) os) refl some (none_pass is_weak_definition os e)
        third (Some o) e some =
            let facts = found Its is_weak_definition os o both e in
            row-made os o shapes.Defined facts.0.0 facts.0.1 (and_parts (is_weak o.as_is) (is_definition_at o.as_is.place) facts.1).1

      second : (x : Option Occurrence) → find is_common os ≡ x → is_some (slice_get os 0) ≡ true → All (λ o. is_global_definition o ≡ false) os → Good (unwrap_or (option_or (decided os (merged os) x) (option_or (decided os shapes.Defined (find is_weak_definition os)) (option_or (decided os (shapes.Absent false) (find (λ o. is_global o.as_is) os)) (decided os (shapes.Absent true) (slice_get os 0))))) no_entry)
      second None e some no_definition = third no_definition (none_pass is_common os e) (find is_weak_definition os) refl some
      second (Some o) e some no_definition =
          let facts = found Its is_common os o both e in
          row-made os o (merged os) facts.0.0 facts.0.1 (merged-fits o e)

      -- the decision makes a row, where there is an occurrence
      first : (x : Option Occurrence) → find is_global_definition os ≡ x → is_some (slice_get os 0) ≡ true → Good (unwrap_or (option_or (decided os shapes.Defined x) (option_or (decided os (merged os) (find is_common os)) (option_or (decided os shapes.Defined (find is_weak_definition os)) (option_or (decided os (shapes.Absent false) (find (λ o. is_global o.as_is) os)) (decided os (shapes.Absent true) (slice_get os 0)))))) no_entry)
      first None e some = second (find is_common os) refl some (none_pass is_global_definition os e)
      first (Some o) e some =
          let facts = found Its is_global_definition os o both e in
          row-made os o shapes.Defined facts.0.0 facts.0.1 (and_parts (is_global o.as_is) (is_definition_at o.as_is.place) facts.1).1

  -- some occurrence has a name of the list
  some-of : (os : List Occurrence) (n : List ℕ) → list_any (bytes_eq n) (map (λ o. o.name) os) ≡ true → is_some (slice_get (occurrences_of os n) 0) ≡ true
  some-of [] n h = absurd (true≢false (sym h))
  some-of (x ∷ os) n h = elim (cases_Bool (bytes_eq x.name n)) [
    | inl e ↦ ap (λ b. is_some (slice_get (cond b (x ∷ occurrences_of os n) (occurrences_of os n)) 0)) e
    | inr e ↦
        let rest : list_any (bytes_eq n) (map (λ o. o.name) os) ≡ true = sym (ap (λ b. b || list_any (bytes_eq n) (map (λ o. o.name) os)) (bytes_swap n x.name ∙ e)) ∙ h in
        ap (λ b. is_some (slice_get (cond b (x ∷ occurrences_of os n) (occurrences_of os n)) 0)) e ∙ some-of os n rest
  ]

  module _ (program : Bool) where
    abbrev all : List Occurrence
    all = occurrences rels

    abbrev names : List (List ℕ)
    names = names_in_order rels

    abbrev table : List Resolved
    table = map (resolved all program) names

    row-good : (n : List ℕ) → list_any (bytes_eq n) names ≡ true → IsRow rels (resolved all program n)
    row-good n h =
        let os : List Occurrence = occurrences_of all n in
        let its : All (λ o. bytes_eq o.name n ≡ true) os = filter_passes (λ o. bytes_eq o.name n) all in
        let some = some-of all n (sym (any-distinct n (map (λ o. o.name) all)) ∙ h) in
        first n program os (All-filter (λ o. bytes_eq o.name n) IsSeen all all-seen) (λ k d lt. bytes_same (get_or os k d).name n (its k d lt)) (find is_global_definition os) refl some

    rows-good : All (IsRow rels) table
    rows-good =
        All-map (IsRow rels) (resolved all program) names (λ k d lt. row-good (get_or names k d) (list_any_at (bytes_eq (get_or names k d)) names k d lt (bytes_refl (get_or names k d))))

    apart : AllPairs (λ a b. a.name ≢ b.name) table
    apart i j d lt inside =
        let long : length table ≡ length names = length-map names (resolved all program) in
        let high : j < length names = omega (arith, inside, long) in
        let low : i < length names = omega (arith, lt, high) in
        λ e. apart-distinct (map (λ o. o.name) all) i j [] lt high (sym (ap (λ r. r.name) (get_or-map (resolved all program) names i [] d low)) ∙ e ∙ ap (λ r. r.name) (get_or-map (resolved all program) names j [] d high))

    filter-le : (p : Occurrence → Bool) (os : List Occurrence) → length (filter p os) ≤ length os
    filter-le p [] = omega arith
    filter-le p (o ∷ os) =
        let rest : length (filter p os) ≤ length os = filter-le p os in
        elim (cases_Bool (p o)) [
          | inl e ↦ let at : length (filter p (o ∷ os)) ≡ suc (length (filter p os)) = ap (λ b. length (cond b (o ∷ filter p os) (filter p os))) e in omega (arith, at, rest)
          | inr e ↦ let at : length (filter p (o ∷ os)) ≡ length (filter p os) = ap (λ b. length (cond b (o ∷ filter p os) (filter p os))) e in omega (arith, at, rest)
        ]

    few-in : (p : ℕ × RelObject) → IsInput p → length (occurrences_in p) ≤ 2 ^ 20
    few-in p input =
        let low : length (occurrences_in p) ≤ length (symbols_in p) = filter-le (λ o. not (is_local o.as_is)) (symbols_in p) in
        let few : length p.1.symbols ≤ 2 ^ 20 = subst (λ (r : RelObject). length r.symbols ≤ 2 ^ 20) input.1 (read_at p.0 input.0).symbol_few in
        omega (arith, low, few, length-symbols_in p)

    few-all : (ps : List (ℕ × RelObject)) → All IsInput ps → length (flat_map occurrences_in ps) ≤ length ps * 2 ^ 20
    few-all [] inside = omega arith
    few-all (p ∷ ps) inside =
        let one : length (occurrences_in p) ≤ 2 ^ 20 = few-in p (All-head IsInput p ps inside) in
        let rest : length (flat_map occurrences_in ps) ≤ length ps * 2 ^ 20 = few-all ps (All-tail IsInput p ps inside) in
        let long = length-append (occurrences_in p) (flat_map occurrences_in ps) in
        omega (arith, one, rest, long)

    few : length table ≤ length rels * 2 ^ 20
    few =
        let a : length table ≡ length names = length-map names (resolved all program) in
        let b : length names ≤ length (map (λ o. o.name) all) = few-distinct (map (λ o. o.name) all) in
        let c : length (map (λ o. o.name) all) ≡ length all = length-map all (λ o. o.name) in
        let d : length all ≤ length (enumerate_from 0 rels) * 2 ^ 20 = few-all (enumerate_from 0 rels) inputs in
        omega (arith, a, b, c, d, length-enumerate_from 0 rels)

    -- every symbol that isn't local occurs
    any-map : (q : List ℕ) (os : List Occurrence) → list_any (bytes_eq q) (map (λ o. o.name) os) ≡ list_any (λ o. bytes_eq q o.name) os
    any-map q [] = refl
    any-map q (o ∷ os) = ap (λ b. bytes_eq q o.name || b) (any-map q os)

    any-filter : (p q : Occurrence → Bool) (os : List Occurrence) → list_any (λ o. q o && p o) os ≡ list_any p (filter q os)
    any-filter p q [] = refl
    any-filter p q (o ∷ os) = elim (cases_Bool (q o)) [
      | inl e ↦
          ap (λ b. (b && p o) || list_any (λ x. q x && p x) os) e
          ∙ ap (λ b. p o || b) (any-filter p q os)
          ∙ sym (ap (λ b. list_any p (cond b (o ∷ filter q os) (filter q os))) e)
      | inr e ↦
          ap (λ b. (b && p o) || list_any (λ x. q x && p x) os) e
          ∙ any-filter p q os
          ∙ sym (ap (λ b. list_any p (cond b (o ∷ filter q os) (filter q os))) e)
    ]

    or_true : (a : Bool) → (a || true) ≡ true
    or_true true = refl
    or_true false = refl

    any-flat : (p : Occurrence → Bool) (ps : List (ℕ × RelObject)) (k : ℕ) (d : ℕ × RelObject) → k < length ps → list_any p (occurrences_in (get_or ps k d)) ≡ true → list_any p (flat_map occurrences_in ps) ≡ true
    any-flat p [] k d lt h = absurd (omega (arith, lt))
    any-flat p (x ∷ ps) zero d lt h =
        list_any-append p (occurrences_in x) (flat_map occurrences_in ps) ∙ ap (λ b. b || list_any p (flat_map occurrences_in ps)) h
    any-flat p (x ∷ ps) (suc k) d lt h =
        list_any-append p (occurrences_in x) (flat_map occurrences_in ps)
        ∙ ap (λ b. list_any p (occurrences_in x) || b) (any-flat p ps k d (omega (arith, lt)) h)
        ∙ or_true (list_any p (occurrences_in x))

    any-rows : (q : List ℕ) (ns : List (List ℕ)) → list_any (λ r. bytes_eq r.name q) (map (resolved all program) ns) ≡ list_any (bytes_eq q) ns
    any-rows q [] = refl
    any-rows q (n ∷ ns) = (λ j. bytes_swap n q j || any-rows q ns j)

    place-low : (p : Resolved → Bool) (rs : List Resolved) → list_any p rs ≡ true → position_or_len p rs < length rs
    place-low p [] h = absurd (true≢false (sym h))
    place-low p (r ∷ rs) h = elim (cases_Bool (p r)) [
      | inl e ↦ let at : position_or_len p (r ∷ rs) ≡ 0 = ap (λ c. cond (not c) (1 + position_or_len p rs) 0) e in omega (arith, at)
      | inr e ↦
          let at : position_or_len p (r ∷ rs) ≡ 1 + position_or_len p rs = ap (λ c. cond (not c) (1 + position_or_len p rs) 0) e in
          let lt : position_or_len p rs < length rs = place-low p rs (sym (ap (λ c. c || list_any p rs) e) ∙ h) in
          omega (arith, at, lt)
    ]

    complete : (file symbol : ℕ) → file < length rels → symbol < length (file_of rels file).symbols → (symbol_of (file_of rels file) symbol).binding ≢ 0 → (row : ℕ) × (index_of table (name_of (file_of rels file) symbol) ≡ Some row) × (row < length table)
    complete file symbol there inside out =
        let rel : RelObject = file_of rels file in
        let q : List ℕ = name_of rel symbol in
        let p : ℕ × RelObject = (file, rel) in
        let test : Occurrence → Bool = λ o. bytes_eq q o.name in
        let kept : Occurrence → Bool = λ o. not (is_local o.as_is) && test o in
        let here : kept (occurrence_at p symbol) ≡ true = and_from (not (is_local (occurrence_at p symbol).as_is)) (bytes_eq q q) (not_from_false _ (ne_eqb (symbol_of rel symbol).binding 0 out)) (bytes_refl q) in
        let low : symbol < length (symbols_in p) = omega (arith, inside, length-symbols_in p) in
        let in_file : list_any test (occurrences_in p) ≡ true =
        sym (any-filter test (λ o. not (is_local o.as_is)) (symbols_in p))
        ∙ list_any_at kept (symbols_in p) symbol (occurrence_at p 0) low (ap kept (get_or-symbols_in p symbol inside) ∙ here) in
        let pairs : List (ℕ × RelObject) = enumerate_from 0 rels in
        let d : ℕ × RelObject = (0, no_object) in
        let at : get_or pairs file d ≡ p = get_or-enumerate_from 0 rels file d there ∙ ap (λ k. (k, rel)) (from_zero file) in
        let occurs : list_any test all ≡ true = any-flat test pairs file d (omega (arith, there, length-enumerate_from 0 rels)) (ap (λ x. list_any test (occurrences_in x)) at ∙ in_file) in
        let known : list_any (bytes_eq q) names ≡ true = any-distinct q (map (λ o. o.name) all) ∙ any-map q all ∙ occurs in
        let lt : position_or_len (λ (r : Resolved). bytes_eq r.name q) table < length table = place-low (λ r. bytes_eq r.name q) table (any-rows q names ∙ known) in
        let place : ℕ = position_or_len (λ (r : Resolved). bytes_eq r.name q) table in
        (place, ap (λ b. cond b (Some place) None) (lt-ltb place (length table) lt), lt)

    -- the table of inputs that were read
    pub is_resolved : IsResolved rels table
    is_resolved = record { few = few; rows_are = rows-good; distinct = apart; complete = complete }

  -- each table of inputs that were read
  pub table_is_resolved : (program : Bool) (t : List Resolved) → IsTableOf rels program t → IsResolved rels t
  table_is_resolved program t h = subst (IsResolved rels) (table-given rels h.0 program t h.1) (is_resolved program)

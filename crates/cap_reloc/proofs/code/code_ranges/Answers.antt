use Rattle.std.proofs.Common.{◌≡◌, ◌<◌, ◌≤◌, [], ◌∷◌, ◌++◌, get_or, take, map, ⊎_elim, sym, ap, ◌∙◌, subst, arith}
use Rattle.std.proofs.lemmas.Bool.{cases_lt}
use Rattle.std.proofs.lemmas.List.{take_more, map-append, get_or_default}
use Rattle.cap_elf.specs.IsRead.{IsRead}
use Rattle.cap_elf.specs.DynView.{DynValue}
use Rattle.cap_fits.specs.Places.{code_range}
use Rattle.cap_reloc.proofs.code.code_ranges.Goals as goal

pub loop-i-preserved : goal.loop-i-preserved
loop-i-preserved c =
    let objects = c.args.objects.now in
    let i = c.loop-i.i in
    let x : DynValue = c.index-objects-i.result in
    let file : c.file.result.now ≡ x = c.file.ensures in
    let range : c.code_range.result ≡ code_range x.records = c.code_range.ensures.value ∙ ap (λ o. code_range o.records) file in
    record {
      value =
          c.in_ok-push.ensures.items
          ∙ ap (λ l. l ++ c.code_range.result ∷ []) c.loop-i.invariant.value
          ∙ ap (λ r. map (λ o. code_range o.records) (take i objects) ++ r ∷ []) (range ∙ ap (λ o. code_range o.records) c.index-objects-i.is)
          ∙ sym (map-append (λ o. code_range o.records) (take i objects) (get_or objects i x ∷ []))
          ∙ ap (map (λ o. code_range o.records)) (sym (take_more objects i x c.loop-i-test.true));
      sound = λ k d lt. ⊎_elim
          (λ (less : k < i). c.loop-i.invariant.sound k d less)
          (λ (ge : i ≤ k).
          let same : i ≡ k = omega arith in
          let here : x ≡ get_or objects k d = c.index-objects-i.is ∙ get_or_default objects i x d c.loop-i-test.true ∙ ap (λ n. get_or objects n d) same in
          subst (λ (o : DynValue). IsRead o.records) (file ∙ here) c.code_range.ensures.sound)
          (cases_lt k i);
    }

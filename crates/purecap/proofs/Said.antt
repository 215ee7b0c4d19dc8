-- Lines that were sent one behind another.
use Rattle.std.proofs.Common.{◌≡◌, ℕ, List, [], ◌∷◌, ◌++◌, Option, Ok, Err, refl, sym, ap, subst, ◌∙◌, inl, inr, append-nil, append_assoc}
use Rattle.std.proofs.lemmas.Grind.{flat_map-append}
use Rattle.std.proofs.lemmas.List.{map-append}
use Rattle.cap_base.specs.Outside.{Sends, SendsNext}
use Rattle.cap_base.proofs.Parts.{Sends-then}
use Rattle.cap_session.specs.declared.refusal.OpenRefusal.{OpenRefusal}
use Rattle.purecap.specs.Faults.{refusal_line}
use Rattle.purecap.specs.Answer.{note_lines}
use Rattle.purecap.specs.Run.{Stream, streamed, IsStill, Says}
use Rattle.purecap.specs.Printing.{Told}
use Rattle.purecap.specs.Calling.{joined, Tells, TellsNext}

-- lines that were sent are said
pub says_of : (err : Stream) (lines : List (List ℕ)) (next : Told) → Tells err lines next → Says err lines
says_of err [] next tells = tells.0
says_of err (line ∷ lines) (Ok _) tells = inl (record { appended = tells.0; count = tells.1 })
says_of err (line ∷ lines) (Err _) tells = inr (record { front = tells.0; rose = tells.1 })

-- one line
pub one_line : (so_far : Told) (old new : Option (List ℕ)) (before now : ℕ) (line : List ℕ) (next : Told) → SendsNext so_far old new before now line next
    → TellsNext so_far (streamed old new before now) (line ∷ []) next
one_line so_far old new before now line next sends = subst (λ (l : List ℕ). SendsNext so_far old new before now l next) (sym (append-nil line)) sends

-- the first line
pub first_line : (old new : Option (List ℕ)) (before now : ℕ) (line : List ℕ) (next : Told) → Sends old new before now line next → Says (streamed old new before now) (line ∷ [])
first_line old new before now line next sends =
    says_of (streamed old new before now) (line ∷ []) next (subst (λ (l : List ℕ). Sends old new before now l next) (sym (append-nil line)) sends)

joined-more : (line : List ℕ) (lines more : List (List ℕ)) → (line ++ joined lines) ++ joined more ≡ line ++ joined (lines ++ more)
joined-more line lines more =
    append_assoc line (joined lines) (joined more) ∙ ap (λ (l : List ℕ). line ++ l) (sym (flat_map-append (λ (l : List ℕ). l) lines more))

module _ (old mid new : Option (List ℕ)) (before now after : ℕ) where
  pub tells-more : (lines more : List (List ℕ)) (so_far next : Told) → Tells (streamed old mid before now) lines so_far → TellsNext so_far (streamed mid new now after) more next
      → Tells (streamed old new before after) (lines ++ more) next
  tells-more [] [] so_far next tells then = (record { bytes = then.0.bytes ∙ tells.0.bytes; count = then.0.count ∙ tells.0.count }, then.1 ∙ tells.1)
  tells-more [] (line ∷ more) so_far next tells then =
      let sends = subst (λ (t : Told). SendsNext t mid new now after (line ++ joined more) next) tells.1 then in
      let from_old = subst (λ (o : Option (List ℕ)). Sends o new now after (line ++ joined more) next) tells.0.bytes sends in
      subst (λ (c : ℕ). Sends old new c after (line ++ joined more) next) tells.0.count from_old
  tells-more (line ∷ lines) [] so_far next tells then =
      let same = subst (λ (t : Told). Sends old mid before now (line ++ joined lines) t) (sym then.1) tells in
      let to_new = subst (λ (o : Option (List ℕ)). Sends old o before now (line ++ joined lines) next) (sym then.0.bytes) same in
      let counted = subst (λ (c : ℕ). Sends old new before c (line ++ joined lines) next) (sym then.0.count) to_new in
      subst (λ (l : List (List ℕ)). Sends old new before after (line ++ joined l) next) (sym (append-nil lines)) counted
  tells-more (line ∷ lines) (first ∷ more) so_far next tells then =
      subst (λ (l : List ℕ). Sends old new before after l next) (joined-more line lines (first ∷ more)) (Sends-then _ _ _ _ _ _ _ _ _ _ tells then)

  -- lines, and then a last one
  pub says_last : (lines : List (List ℕ)) (line : List ℕ) (so_far next : Told) → Tells (streamed old mid before now) lines so_far → SendsNext so_far mid new now after line next
      → Says (streamed old new before after) (lines ++ line ∷ [])
  says_last lines line so_far next tells then =
      says_of (streamed old new before after) (lines ++ line ∷ []) next (tells-more lines (line ∷ []) so_far next tells (one_line so_far mid new now after line next then))

  -- lines, and then nothing
  pub says_same : (lines : List (List ℕ)) (so_far : Told) → Tells (streamed old mid before now) lines so_far → IsStill (streamed mid new now after) → Says (streamed old new before after) lines
  says_same lines so_far tells still =
      subst (λ (l : List (List ℕ)). Says (streamed old new before after) l) (append-nil lines)
      (says_of (streamed old new before after) (lines ++ []) so_far (tells-more lines [] so_far so_far tells (still, refl)))

pub note_lines-more : (notes more : List OpenRefusal) → note_lines (notes ++ more) ≡ note_lines notes ++ note_lines more
note_lines-more notes more = map-append refusal_line notes more

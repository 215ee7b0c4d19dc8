use Rattle.std.proofs.Common.{◌≡◌, ◌-◌, ◌++◌, true, ◌∙◌, ap, sym}
use Rattle.std.proofs.lemmas.List.{append-nil}
use Rattle.cap_conc.specs.Computed.{fields_of}
use Rattle.cap_mem.specs.Tagged.{is_tagged, word_in}
use Rattle.cap_init.proofs.Found.{found_other}
use Rattle.cap_init.proofs.arrays.push_call.Goals as goal

pub returns-then-fields-ne-SENTRY : goal.returns-then-fields-ne-SENTRY
returns-then-fields-ne-SENTRY c =
    let memory = c.args.memory.now in
    let tagged : is_tagged memory c.args.slot ≡ true = sym c.word_at-is_tagged.ensures.tag ∙ c.if-not-is_tagged.false in
    let fields : c.decode-fields.result ≡ fields_of (word_in memory.bytes (c.args.slot - memory.base)) = c.decode-fields.ensures.value ∙ ap fields_of c.word_at-is_tagged.ensures.word in
    let none = found_other memory c.requires.sound c.args.slot c.args.object c.decode-fields.result fields tagged c.if-fields-ne-SENTRY.true in
    sym (append-nil c.args.calls.now.items) ∙ ap (λ cs. c.args.calls.now.items ++ cs) (sym none)

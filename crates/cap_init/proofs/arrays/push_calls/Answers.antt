use Rattle.std.proofs.Common.{◌≡◌, ◌+◌, ◌*◌, ◌/◌, ◌++◌, ◌∙◌, ap, sym, append_assoc, arith}
use Rattle.std.proofs.lemmas.List.{append-nil}
use Rattle.cap_mem.specs.Tagged.{tagged_word}
use Rattle.cap_init.specs.Calls.{found_call}
use Rattle.cap_init.specs.Listing.{calls_below}
use Rattle.cap_init.proofs.Listed.{calls_none, calls_more, calls_all}
use Rattle.cap_init.proofs.arrays.push_calls.Goals as goal

pub loop-k-init : goal.loop-k-init
loop-k-init c =
    sym (append-nil c.args.calls.now.items) ∙ ap (λ cs. c.args.calls.now.items ++ cs) (sym (calls_none c.args.number c.args.object.now.records c.args.memory.now))

pub loop-k-preserved : goal.loop-k-preserved
loop-k-preserved c =
    let object = c.args.object.now.records in
    let memory = c.args.memory.now in
    let at = ap (λ f. f.records.arrays.init_at) c.file.ensures in
    let array = ap (λ a. a.init_at) c.arrays-arrays.ensures.arrays in
    let slot : c.base.result + c.arrays-arrays.result.init_at + 16 * c.loop-k.k ≡ memory.base + object.arrays.init_at + 16 * c.loop-k.k = omega (arith, c.base.ensures, at, array) in
    let found = c.in_ok-push_call.ensures ∙ ap (λ g. c.loop-k.calls.items ++ found_call c.args.number (tagged_word memory g)) slot in
    found
    ∙ ap (λ cs. cs ++ found_call c.args.number (tagged_word memory (memory.base + object.arrays.init_at + 16 * c.loop-k.k))) c.loop-k.invariant
    ∙ append_assoc c.args.calls.now.items (calls_below c.args.number object memory c.loop-k.k) (found_call c.args.number (tagged_word memory (memory.base + object.arrays.init_at + 16 * c.loop-k.k)))
    ∙ ap (λ cs. c.args.calls.now.items ++ cs) (sym (calls_more c.args.number object memory c.loop-k.k))

pub returns : goal.returns
returns c =
    let object = c.args.object.now.records in
    let memory = c.args.memory.now in
    let size = ap (λ f. f.records.arrays.init_size) c.file.ensures in
    let array = ap (λ a. a.init_size) c.arrays-arrays.ensures.arrays in
    let n : c.loop-k.k ≡ object.arrays.init_size / 16 = omega (arith, size, array) in
    c.loop-k.invariant ∙ ap (λ cs. c.args.calls.now.items ++ cs) (ap (calls_below c.args.number object memory) n ∙ calls_all c.args.number object memory)

use Rattle.std.proofs.Common.{ap, ℕ, ◌≡◌, ◌+◌, ◌*◌, ◌%◌, bit_xor, sym, subst, arith, rules}
use Rattle.cap_conc.specs.declared.word.Word.{Word}
use Rattle.cap_conc.specs.Decoding.{DecodesTo}
use Rattle.cap_conc.specs.Encoding.{metadata, compressed, fields_with, word_of}
use Rattle.cap_conc.proofs.EncodingLemmas.{DecodesTo-word_of}
use Rattle.cap_conc.proofs.Unique.{DecodesTo-unique}
use Rattle.cap_conc.proofs.ComputedLemmas.{DecodesTo-fields_of, is_exact-IsExact}
use Rattle.cap_conc.proofs.encoding.encode.Goals as goal

abbrev stored : ℕ → ℕ → Word
stored cursor meta = record { address = cursor; meta = bit_xor meta 35184305078276 }

pub returns-clause-word : goal.returns-clause-word
unfolding word_of
returns-clause-word c =
    let a = c.args in
    let e : metadata a.perms a.flag a.otype (compressed a.base a.len) ≡ c.from.result * 281474976710656 % 18446744073709551616 + c.from-2.result * 35184372088832 % 18446744073709551616 + c.from-3.result * 134217728 % 18446744073709551616 + c.compress.result = search rules in
    ap (λ x. stored a.cursor x) (sym e)

pub returns-clause-decodes : goal.returns-clause-decodes
returns-clause-decodes c =
    let a = c.args in
    let r = c.requires in
    subst (λ w. DecodesTo w (fields_with a.base a.len a.cursor a.perms a.flag a.otype)) (sym (returns-clause-word c))
    (DecodesTo-word_of a.base a.len a.cursor a.perms a.flag a.otype ((is_exact-IsExact a.base a.len).0 r.exact) r.end r.from_base r.to_top (omega arith) (omega arith) r.object_type)

pub returns-clause-fields : goal.returns-clause-fields
returns-clause-fields c =
    DecodesTo-unique _ _ _ (DecodesTo-fields_of _) (returns-clause-decodes c)

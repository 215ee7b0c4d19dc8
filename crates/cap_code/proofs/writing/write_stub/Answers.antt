use Rattle.std.proofs.Common.{◌≡◌, ℕ, ◌++◌, ◌∷◌, [], take, ap, ◌∙◌}
use Rattle.std.specs.List.{flat_map}
use Rattle.cap_base.specs.Field.{number_bytes}
use Rattle.cap_code.specs.Forms.{with_form, upper_form, immediate_form}
use Rattle.cap_code.specs.Patched.{high_part, low_part, stub_value, stub_bytes}
use Rattle.cap_code.proofs.Stubs.{four_words}
use Rattle.cap_code.proofs.writing.write_stub.Goals as goal

pub returns-clause-written : goal.returns-clause-written
unfolding stub_bytes
returns-clause-written c =
    let before = take c.args.at c.args.bodies.now.stubs in
    let value : c.stub_value-value.result ≡ stub_value c.args.scene.now.lists c.args.target.now = c.stub_value-value.ensures in
    let upper = c.high_word.ensures ∙ ap (with_form upper_form 0x397) (c.high_part.ensures ∙ ap high_part value) in
    let lower = c.low_word.ensures ∙ ap (with_form immediate_form 0x3A38F) (c.low_part.ensures ∙ ap low_part value) in
    four_words c.args.bodies.now.stubs c.write_word.new.bodies.stubs c.write_word-2.new.bodies.stubs c.write_word-3.new.bodies.stubs c.write_word-4.new.bodies.stubs c.args.at c.high_word.result c.low_word.result 0xFEC3805B 0x13 c.write_word.ensures.written c.write_word-2.ensures.written c.write_word-3.ensures.written c.write_word-4.ensures.written
    ∙ ap (λ (w : ℕ). before ++ flat_map (number_bytes 4) (w ∷ c.low_word.result ∷ 0xFEC3805B ∷ 0x13 ∷ [])) upper
    ∙ ap (λ (w : ℕ). before ++ flat_map (number_bytes 4) (with_form upper_form 0x397 (high_part (stub_value c.args.scene.now.lists c.args.target.now)) ∷ w ∷ 0xFEC3805B ∷ 0x13 ∷ [])) lower

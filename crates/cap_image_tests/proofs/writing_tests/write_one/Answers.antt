use Rattle.cap_image_tests.proofs.OneMemory.{one_can, written_one}
use Rattle.cap_image_tests.proofs.writing_tests.write_one.Goals as goal

pub write-requires : goal.write-requires
write-requires g c =
    let name = c.expect_one.ensures in
    let symbol = c.expect_one-2.ensures in
    let whole = c.expect_pages.ensures in
    written_one c.args.names.now c.args.symbols.now c.args.memory.now _ _ c.from_ref.ensures.value c.from_ref-2.ensures.value
    (one_can c.args.names.now c.args.symbols.now c.args.memory.now name.count name.some name.short symbol.count symbol.short whole.pages whole.size whole.end c.requires)

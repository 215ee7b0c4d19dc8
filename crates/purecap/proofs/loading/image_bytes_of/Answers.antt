use Rattle.purecap.proofs.Written.{can_be_written}
use Rattle.purecap.proofs.ReadBack.{written_reads_back}
use Rattle.purecap.proofs.loading.image_bytes_of.Goals as goal

pub write-requires : goal.write-requires
write-requires c =
    rw (c.names.ensures, c.symbols.ensures, c.memories.ensures) (can_be_written c.args.session.now c.requires)

pub returns-clause-reads_back : goal.returns-clause-reads_back
returns-clause-reads_back c =
    let laws = c.reading_laws.ensures in
    written_reads_back (λ v. v.items) laws.reads_back laws.are_images c.args.session.now c.requires c.write.result
    (rw (c.names.ensures, c.symbols.ensures, c.memories.ensures) at c.write.ensures.value) (rw c.memories.ensures at c.write.ensures.sound)

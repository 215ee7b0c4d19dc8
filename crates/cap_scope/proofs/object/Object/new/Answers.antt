use Rattle.std.proofs.Common.{List, ℕ, sym, subst}
use Rattle.cap_chain.specs.Adopted.{IsTableOf}
use Rattle.cap_names.specs.Named.{Named}
use Rattle.cap_scope.proofs.Tables.{table_is}
use Rattle.cap_scope.proofs.object.Object.new.Goals as goal

pub count_chains-requires : goal.count_chains-requires
count_chains-requires c =
    subst (λ (words : List ℕ). IsTableOf words c.in-Ok.names) (sym c.hash_words.ensures.words)
    (subst (λ (names : List Named). IsTableOf c.args.file.records.hash_words names) (sym c.in-Ok.ensures) (table_is c.args.file.records c.hash_words.ensures.sound))

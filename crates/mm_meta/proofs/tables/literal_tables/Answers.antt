use Rattle.std.proofs.lemmas.List.{map-id}
use Rattle.mm_meta.specs.NameTable.{IsTableOf}
use Rattle.mm_meta.proofs.TableLemmas.{zip_more}
use Rattle.mm_meta.proofs.tables.literal_tables.Goals as goal

pub enums-preserved : goal.enums-preserved
enums-preserved c =
    rw c.in_ok-push.ensures.items
    (zip_more IsTableOf (λ e. e.literals) c.enums.tables.items c.args.enums.now c.enums.e-index c.in_ok-of.field-0 c.e-item.result
    c.enums-test.true c.e-item.is c.enums.invariant (rw (c.as_slice.ensures, map-id c.e-item.result.literals) at c.in_ok-of.ensures))

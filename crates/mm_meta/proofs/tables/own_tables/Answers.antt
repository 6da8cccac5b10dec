use Rattle.std.proofs.Common.{map}
use Rattle.mm_meta.specs.NameTable.{IsTableOf}
use Rattle.mm_meta.proofs.TableLemmas.{zip_more}
use Rattle.mm_meta.proofs.tables.own_tables.Goals as goal

pub classes-preserved : goal.classes-preserved
classes-preserved c =
    rw c.in_ok-push.ensures.items
    (zip_more IsTableOf (λ k. map (λ f. f.name) k.features) c.classes.tables.items c.args.classes.now c.classes.class-index c.in_ok-of.field-0 c.class-item.result
    c.classes-test.true c.class-item.is c.classes.invariant (rw c.as_slice.ensures at c.in_ok-of.ensures))

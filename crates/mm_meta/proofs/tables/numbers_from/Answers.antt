use Rattle.std.proofs.Common.{◌∙◌, ◌++◌, List, ℕ, ap, append_assoc, sym}
use Rattle.mm_meta.proofs.TableLemmas.{range_more}
use Rattle.mm_meta.proofs.tables.numbers_from.Goals as goal

pub numbers-preserved : goal.numbers-preserved
numbers-preserved c =
    let more = range_more c.numbers.n _ c.numbers-test.true in
    rw (c.in_ok-push.ensures.items, append_assoc) (ap (λ (s : List ℕ). c.numbers.numbers.items ++ s) (sym more) ∙ c.numbers.invariant)

use Rattle.std.proofs.Common.{◌++◌, ◌∙◌, [], ap, arith, refl, sym}
use Rattle.journal.specs.Lines.{entries, recovered_lines}
use Rattle.journal.proofs.CutLemmas.{read_drop, read_len, read_more, read_split}
use Rattle.journal.proofs.entries.entries_len.Goals as goal

pub entries-init : goal.entries-init
entries-init c = record { lines = []; plain = tt; bytes_are = refl }

pub entries-preserved : goal.entries-preserved
entries-preserved c = read_more _ _ _ _ c.entries.invariant c.in-Some.ensures

pub overflow_sub-result : goal.overflow_sub-result
overflow_sub-result c = omega (arith, read_len _ _ c.entries.invariant c.in_default.ensures)

pub returns-clause-split : goal.returns-clause-split
returns-clause-split c =
    let none = c.in_default.ensures in
    read_split _ _ c.entries.invariant none ∙ ap (λ rest. entries (recovered_lines c.args.bytes.now) ++ rest) (sym (read_drop _ _ c.entries.invariant none))

pub returns-clause-len : goal.returns-clause-len
returns-clause-len c = omega (arith, read_len _ _ c.entries.invariant c.in_default.ensures)

pub returns-clause-rest : goal.returns-clause-rest
returns-clause-rest c = ap recovered_lines (read_drop _ _ c.entries.invariant c.in_default.ensures) ∙ c.in_default.ensures

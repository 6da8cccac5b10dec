use Rattle.std.proofs.Common.{Some, refl, subst}
use Rattle.node_slots.specs.declared.row.RowEdit.{RowEdit}
use Rattle.node_slots.specs.Rows.{RowFits}
use Rattle.node_slots.proofs.RowLemmas.{changed}
use Rattle.node_slots.proofs.row.Row.edit.Goals as goal

pub edit-requires-clause-places : goal.edit-requires-clause-places
edit-requires-clause-places c = (subst (λ (x : RowEdit). RowFits x (Some c.args.self.now)) c.in-Change.is c.requires).0

pub edit-requires-clause-can : goal.edit-requires-clause-can
edit-requires-clause-can c = (subst (λ (x : RowEdit). RowFits x (Some c.args.self.now)) c.in-Change.is c.requires).1

pub returns-in-Change : goal.returns-in-Change
returns-in-Change c = changed c.in-Change.feature c.in-Change.edit c.args.self.now (record c.args.self.now { slots = c.edit.new.self }) c.args.edit c.edit.ensures c.in-Change.is refl refl refl

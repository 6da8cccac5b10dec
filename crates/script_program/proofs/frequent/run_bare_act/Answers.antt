use Rattle.script_program.proofs.frequent.run_bare_act.Goals as goal

pub returns-clause-ok : goal.returns-clause-ok
returns-clause-ok g c = rw (c.act_of.ensures _ _) (rw (← c.feature_number-feature.ensures) c.run_act.ensures.ok)

pub returns-clause-left : goal.returns-clause-left
returns-clause-left g c = rw (c.act_of.ensures _ _) (rw (← c.feature_number-feature.ensures) c.run_act.ensures.left)

use Rattle.std.proofs.Common.{ap}
use Rattle.frequent_lines.specs.Frequent.{act_line}
use Rattle.script_program.proofs.frequent.run_at.Goals as goal

pub returns-in-Get-clause-ok : goal.returns-in-Get-clause-ok
returns-in-Get-clause-ok g c = rw (ap (act_line c.args.object c.args.name) c.in-Get.is) (rw c.as_str-name.ensures at c.run_read.ensures.ok)

pub returns-in-IsSet-clause-ok : goal.returns-in-IsSet-clause-ok
returns-in-IsSet-clause-ok g c = rw (ap (act_line c.args.object c.args.name) c.in-IsSet.is) (rw c.as_str-name.ensures at c.run_is_set.ensures.ok)

pub returns-in-Set-clause-ok : goal.returns-in-Set-clause-ok
returns-in-Set-clause-ok g c = rw (ap (act_line c.args.object c.args.name) c.in-Set.is) (rw (c.as_str-name.ensures, c.as_str.ensures) at c.run_set.ensures.ok)

pub returns-in-Add-clause-ok : goal.returns-in-Add-clause-ok
returns-in-Add-clause-ok g c = rw (ap (act_line c.args.object c.args.name) c.in-Add.is) (rw (c.as_str-name.ensures, c.as_str-word.ensures) at c.run_add.ensures.ok)

pub returns-in-RemoveValue-clause-ok : goal.returns-in-RemoveValue-clause-ok
returns-in-RemoveValue-clause-ok g c = rw (ap (act_line c.args.object c.args.name) c.in-RemoveValue.is) (rw (c.as_str-name.ensures, c.as_str-in-RemoveValue.ensures) at c.run_remove_value.ensures.ok)

pub returns-in-Bare-clause-ok : goal.returns-in-Bare-clause-ok
returns-in-Bare-clause-ok g c = rw (ap (act_line c.args.object c.args.name) c.in-Bare.is) (rw c.as_str-name.ensures at c.run_bare_act.ensures.ok)

-- ---- what is left if the answer could not be added

pub returns-in-Get-clause-left : goal.returns-in-Get-clause-left
returns-in-Get-clause-left g c = rw (ap (act_line c.args.object c.args.name) c.in-Get.is) (rw c.as_str-name.ensures at c.run_read.ensures.left)

pub returns-in-IsSet-clause-left : goal.returns-in-IsSet-clause-left
returns-in-IsSet-clause-left g c = rw (ap (act_line c.args.object c.args.name) c.in-IsSet.is) (rw c.as_str-name.ensures at c.run_is_set.ensures.left)

pub returns-in-Set-clause-left : goal.returns-in-Set-clause-left
returns-in-Set-clause-left g c = rw (ap (act_line c.args.object c.args.name) c.in-Set.is) (rw (c.as_str-name.ensures, c.as_str.ensures) at c.run_set.ensures.left)

pub returns-in-Add-clause-left : goal.returns-in-Add-clause-left
returns-in-Add-clause-left g c = rw (ap (act_line c.args.object c.args.name) c.in-Add.is) (rw (c.as_str-name.ensures, c.as_str-word.ensures) at c.run_add.ensures.left)

pub returns-in-RemoveValue-clause-left : goal.returns-in-RemoveValue-clause-left
returns-in-RemoveValue-clause-left g c = rw (ap (act_line c.args.object c.args.name) c.in-RemoveValue.is) (rw (c.as_str-name.ensures, c.as_str-in-RemoveValue.ensures) at c.run_remove_value.ensures.left)

pub returns-in-Bare-clause-left : goal.returns-in-Bare-clause-left
returns-in-Bare-clause-left g c = rw (ap (act_line c.args.object c.args.name) c.in-Bare.is) (rw c.as_str-name.ensures at c.run_bare_act.ensures.left)

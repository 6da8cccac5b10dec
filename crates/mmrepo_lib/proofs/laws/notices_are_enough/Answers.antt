use Rattle.mmrepo_lib.proofs.EnoughLemmas.{closed-enough, detached-enough, notices-enough, told-enough}
use Rattle.mmrepo_lib.proofs.laws.notices_are_enough.Goals as goal

pub returns-clause-kept : goal.returns-clause-kept
returns-clause-kept c = notices-enough

pub returns-clause-told : goal.returns-clause-told
returns-clause-told c = told-enough

pub returns-clause-detached : goal.returns-clause-detached
returns-clause-detached c = detached-enough

pub returns-clause-closed : goal.returns-clause-closed
returns-clause-closed c = closed-enough

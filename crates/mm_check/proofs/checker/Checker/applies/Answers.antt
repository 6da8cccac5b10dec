use Rattle.std.proofs.Common.{arith}
use Rattle.mm_check.proofs.Unique.{unique_before}
use Rattle.mm_check.proofs.checker.Checker.applies.Goals as goal

pub lacks_opposite-requires : goal.lacks_opposite-requires
lacks_opposite-requires c = unique_before c.args.self.now c.args.condition (rw c.in-Opposite.is (omega arith)) c.requires.none_before

pub both_contain-requires : goal.both_contain-requires
both_contain-requires c = unique_before c.args.self.now c.args.condition (rw c.in-BothContain.is (omega arith)) c.requires.none_before

pub has_bad_container_bound-requires : goal.has_bad_container_bound-requires
has_bad_container_bound-requires c = unique_before c.args.self.now c.args.condition (rw c.in-ContainerBound.is (omega arith)) c.requires.none_before

pub returns-in-DuplicateName : goal.returns-in-DuplicateName
returns-in-DuplicateName c = rw c.in-DuplicateName.is c.has_duplicate.ensures

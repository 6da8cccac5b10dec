use Rattle.std.proofs.Common.{◌<◌, arith, length}
use Rattle.mm_check.proofs.Inside.{enum_inside}
use Rattle.mm_check.proofs.checker.Checker.first_enum.Goals as goal

pub returns : goal.returns
returns c i h =
    let low : i < length c.args.self.now.enums = enum_inside c.args.self.now c.args.condition i h in
    c.enums.invariant i (omega arith) h

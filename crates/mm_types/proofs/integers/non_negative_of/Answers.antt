use Rattle.std.proofs.Common.{◌∙◌, rules}
use Rattle.mm_types.proofs.IntegerLemmas.{positive_parsed}
use Rattle.mm_types.proofs.integers.non_negative_of.Goals as goal

pub returns : goal.returns
returns c = c.ok.ensures.value ∙ positive_parsed c.args.word.now c.parse.result c.parse.ensures.value.0 (search rules)

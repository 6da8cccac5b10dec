use Rattle.std.proofs.Common.{◌≡◌, ◌∙◌, Some, position, sym, arith}
use Rattle.std.proofs.lemmas.Grind.{common_steps}
use Rattle.notice_chain.specs.Listed.{is_at}
use Rattle.adapter_list.proofs.GoingLemmas.{gone-at, none-gone}
use Rattle.adapter_list.proofs.going.drop_target.Goals as goal

pub returns-in-Some : goal.returns-in-Some
returns-in-Some c =
    let found : Some c.in-Some.index ≡ position (is_at c.args.node) c.args.targets.now.items = sym c.in-Some.is ∙ c.index_among.ensures in
    grind (arith, common_steps) ∙ gone-at c.args.node c.args.targets.now.items c.in-Some.index c.requires found

pub returns-in_default : goal.returns-in_default
returns-in_default c = none-gone c.args.node c.args.targets.now.items c.requires (sym c.in_default.is ∙ c.index_among.ensures)

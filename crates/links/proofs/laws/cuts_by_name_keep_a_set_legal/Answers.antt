use Rattle.links.proofs.CutNamedLemmas.{without_all_above, without_all_kinds, without_all_legal, without_all_no_cycle}
use Rattle.links.proofs.laws.cuts_by_name_keep_a_set_legal.Goals as goal

pub returns-clause-legal : goal.returns-clause-legal
returns-clause-legal c = λ s ts legal. without_all_legal s ts legal

pub returns-clause-kinds : goal.returns-clause-kinds
returns-clause-kinds c = λ m s ts kinds. without_all_kinds m s ts kinds

pub returns-clause-no_cycle : goal.returns-clause-no_cycle
returns-clause-no_cycle c = λ s ts legal free. without_all_no_cycle s ts legal free

pub returns-clause-above : goal.returns-clause-above
returns-clause-above c = λ s ts legal free x y h. without_all_above s ts legal free x y h

use Rattle.links.proofs.GoneLemmas.{end-without_nodes, holder-without_nodes, untouched, without_all-nodes, without_nodes_kinds, without_nodes_legal, without_nodes_no_cycle}
use Rattle.links.proofs.laws.a_set_without_nodes_names_none_of_them.Goals as goal

pub returns-clause-makes : goal.returns-clause-makes
returns-clause-makes c = λ s gone legal. record {
  ends = end-without_nodes s gone legal;
  holders = holder-without_nodes s gone legal;
  untouched = untouched s gone legal;
}

pub returns-clause-legal : goal.returns-clause-legal
returns-clause-legal c = λ s gone legal. without_nodes_legal s gone legal

pub returns-clause-kinds : goal.returns-clause-kinds
returns-clause-kinds c = λ m s gone kinds. without_nodes_kinds m s gone kinds

pub returns-clause-no_cycle : goal.returns-clause-no_cycle
returns-clause-no_cycle c = λ s gone legal free. without_nodes_no_cycle s gone legal free

pub returns-clause-by_cuts : goal.returns-clause-by_cuts
returns-clause-by_cuts c = λ m ok s gone ts legal kinds same. without_all-nodes m ok s gone ts legal kinds same

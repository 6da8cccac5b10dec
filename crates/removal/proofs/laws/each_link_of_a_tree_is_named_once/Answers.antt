use Rattle.removal.proofs.TreeLemmas.{tree-named}
use Rattle.removal.proofs.laws.each_link_of_a_tree_is_named_once.Goals as goal

pub returns : goal.returns
returns c = tree-named

use Rattle.links.proofs.CutLemmas.{end-cut}
use Rattle.links.proofs.HolderLemmas.{holder-cut}
use Rattle.links.proofs.ScanLemmas.{cut_value_is}
use Rattle.links.proofs.laws.a_cut_loses_at_both_ends.Goals as goal

pub returns : goal.returns
returns c = λ s l legal within. record {
  named = λ e k v at. cut_value_is s e v l k legal.placed within at;
  ends = end-cut s legal.placed l within;
  holders = holder-cut s legal.placed legal.held l within;
}

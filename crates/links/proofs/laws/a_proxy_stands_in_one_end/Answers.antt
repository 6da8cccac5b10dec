use Rattle.links.proofs.HolderLemmas.{holder-put_proxy}
use Rattle.links.proofs.PutLemmas.{end-put_proxy_near, end-put_proxy_other}
use Rattle.links.proofs.laws.a_proxy_stands_in_one_end.Goals as goal

pub returns : goal.returns
returns c = λ s e i t legal fits. record {
  near = end-put_proxy_near s e i t legal.placed fits;
  others = end-put_proxy_other s e i t legal.placed fits;
  holders = holder-put_proxy s e i t legal.held;
}

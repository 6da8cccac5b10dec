use Rattle.links.proofs.SameLinksLemmas.{same_by_ends}
use Rattle.links.proofs.laws.the_ends_determine_the_links.Goals as goal

pub returns : goal.returns
returns c = λ m s t legal_s legal_t kinds_s kinds_t same. same_by_ends m s t legal_s.placed legal_t.placed kinds_s kinds_t same

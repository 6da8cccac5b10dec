use Rattle.links.proofs.CutNamedLemmas.{end-cut_value, holder-cut_value}
use Rattle.links.proofs.laws.a_cut_by_name_loses_what_it_names.Goals as goal

pub returns : goal.returns
returns c = λ m ok s e v legal kinds. record { ends = end-cut_value m ok s legal kinds e v; holders = holder-cut_value m ok s legal kinds e v }

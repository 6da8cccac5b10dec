use Rattle.links.proofs.CutNamedLemmas.{end-without_all, holder-without_all, lacks-without_all, length-without_all, without_all_less}
use Rattle.links.proofs.laws.cuts_by_name_lose_what_they_name.Goals as goal

pub returns : goal.returns
returns c = λ m ok s ts legal kinds. record {
  ends = end-without_all m ok s ts legal kinds;
  holders = holder-without_all m ok s ts legal kinds;
  less = without_all_less s ts legal;
  lacks = lacks-without_all m ok s ts legal kinds;
  shorter = length-without_all m ok s ts legal kinds;
}

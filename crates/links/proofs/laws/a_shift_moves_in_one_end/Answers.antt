use Rattle.links.proofs.CutLemmas.{end-shift_near, end-shift_other}
use Rattle.links.proofs.HolderLemmas.{holder-shift}
use Rattle.links.proofs.laws.a_shift_moves_in_one_end.Goals as goal

pub returns : goal.returns
returns c = λ s e to from legal fits. record {
  near = end-shift_near s legal.placed e to from fits.0 fits.1;
  others = end-shift_other s legal.placed e to from fits.0 fits.1;
  holders = holder-shift s e to from legal.held;
}

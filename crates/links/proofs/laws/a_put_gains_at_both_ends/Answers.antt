use Rattle.links.proofs.ContainedLemmas.{free_new}
use Rattle.links.proofs.HolderLemmas.{holder-put}
use Rattle.links.proofs.PutLemmas.{apart_of, put_far, end-put_near, end-put_other}
use Rattle.links.proofs.laws.a_put_gains_at_both_ends.Goals as goal

pub returns : goal.returns
returns c = λ s e i o g c legal fits. record {
  near = end-put_near s legal.placed e i o c fits.0.in_range g (apart_of s e o g fits.1);
  far = put_far s legal.placed e i o c fits.0.in_range g fits.1;
  others = end-put_other s legal.placed e i o c fits.0.in_range g (apart_of s e o g fits.1);
  holders = holder-put s e i o g c legal.held (free_new s e i o g c (apart_of s e o g fits.1) fits.2);
}

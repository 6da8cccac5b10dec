use Rattle.links.proofs.KindLemmas.{kinds_put}
use Rattle.links.proofs.LegalLemmas.{put_legal}
use Rattle.links.proofs.PutEndLemmas.{put_outside, put_without_cycle}
use Rattle.links.proofs.laws.a_put_keeps_a_set_legal.Goals as goal

pub returns-clause-legal : goal.returns-clause-legal
returns-clause-legal c = λ s e i o g h legal fits. put_legal s e i o g h legal fits

pub returns-clause-kinds : goal.returns-clause-kinds
returns-clause-kinds c = λ m ok s e i o kinds. kinds_put m ok s e i o kinds

pub returns-clause-outside : goal.returns-clause-outside
returns-clause-outside c = λ s e i o g h legal fits free clear. put_outside s e i o g h legal fits free clear

pub returns-clause-no_cycle : goal.returns-clause-no_cycle
returns-clause-no_cycle c = λ s e i o g h legal fits free clear. put_without_cycle s e i o g h legal fits free clear

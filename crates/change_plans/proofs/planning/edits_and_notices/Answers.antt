use Rattle.handshake.proofs.LoadLemmas.{fits-in}
use Rattle.change_plans.proofs.planning.edits_and_notices.Goals as goal

pub links_and_notices-requires : goal.links_and_notices-requires
links_and_notices-requires g c = record {
  asked = c.requires.asked;
  allowed = c.requires.allowed;
  removal = c.requires.removal;
  found = c.requires.found;
  fits = fits-in c.args.model.now c.args.change c.lemma_is_legal.ensures c.requires.allowed c.requires.read;
  one = c.requires.one;
}

pub value_edits-requires-clause-fits : goal.value_edits-requires-clause-fits
value_edits-requires-clause-fits g c = fits-in c.args.model.now c.args.change c.lemma_is_legal.ensures c.requires.allowed c.requires.read

use Rattle.reloading.proofs.SavedLemmas.{loads-saved}
use Rattle.reloading.proofs.laws.what_was_saved_is_loaded_as_it_was.Goals as goal

pub returns : goal.returns
returns c = loads-saved

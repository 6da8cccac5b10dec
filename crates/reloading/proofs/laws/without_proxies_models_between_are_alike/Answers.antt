use Rattle.reloading.proofs.AlikeLemmas.{alike-of}
use Rattle.reloading.proofs.laws.without_proxies_models_between_are_alike.Goals as goal

pub returns : goal.returns
returns c = alike-of

use Rattle.reloading.proofs.AlikeLemmas.{alike-of}
use Rattle.mmrepo_lib.proofs.laws.without_proxies_what_stands_between_is_alike.Goals as goal

pub returns : goal.returns
returns c = alike-of

use Rattle.durable.proofs.TwinLemmas.{alike_again, none_refused}
use Rattle.durable.proofs.laws.what_was_kept_comes_back.Goals as goal

pub returns-clause-alike : goal.returns-clause-alike
returns-clause-alike g c s t x y ls ps =
    let twin = g.met.S.Twin in
    alike_again g.S.Session.runs g.S.Twin.alike g.S.Twin.is_alone twin.others twin.kept twin.done twin.alone s t x y ls ps

pub returns-clause-done : goal.returns-clause-done
returns-clause-done g c s t x ls ps =
    let twin = g.met.S.Twin in
    none_refused g.S.Session.runs g.S.Twin.alike g.S.Twin.is_alone twin.others twin.kept twin.done twin.alone s t x ls ps

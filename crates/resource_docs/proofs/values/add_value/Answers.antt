use Rattle.std.proofs.lemmas.List.Elements.{All-push, All-same}
use Rattle.borrowed_json.specs.View.{view}
use Rattle.resource_docs.specs.Texts.{base_of}
use Rattle.resource_docs.specs.Values.{IsProxyValue}
use Rattle.resource_docs.proofs.ReadingLemmas.{found_value, lost_value}
use Rattle.resource_docs.proofs.values.add_value.Goals as goal

pub returns-in_ok-push-in-Some-clause-value : goal.returns-in_ok-push-in-Some-clause-value
returns-in_ok-push-in-Some-clause-value c = λ ps path known first ds count before.
    found_value c.args.source.now.meta.now (base_of c.args.source.now.uri.now) ps path c.args.feature c.args.kind.now ds (view c.args.json.now) c.args.position c.in_ok-value.field-0 c.in-Some.value c.push.new.self c.args.read.now
    count c.in-Some.is (c.in_ok-value.ensures.value ps path known first) before c.in_ok-push-in-Some.ensures

pub returns-in_ok-push-in-Some-clause-proxy : goal.returns-in_ok-push-in-Some-clause-proxy
returns-in_ok-push-in-Some-clause-proxy c = λ all.
    All-same IsProxyValue c.push.new.self _ c.in_ok-push-in-Some.ensures (All-push IsProxyValue c.args.read.now.values c.in-Some.value all (rw c.in-Some.is at c.in_ok-value.ensures.proxy))

pub returns-in-None-clause-value : goal.returns-in-None-clause-value
returns-in-None-clause-value c = λ ps path known first ds count before.
    lost_value c.args.source.now.meta.now (base_of c.args.source.now.uri.now) ps path c.args.feature c.args.kind.now ds (view c.args.json.now) c.args.position c.in_ok-value.field-0 c.is_link.result c.args.read.now c.note_lost.new.read
    count c.in-None.is (c.in_ok-value.ensures.value ps path known first) c.is_link.ensures before c.note_lost.ensures

use Rattle.std.proofs.Common.{subst}
use Rattle.borrowed_json.specs.View.{view}
use Rattle.doc_parts.specs.FoundParts.{Walks}
use Rattle.doc_parts.specs.Keys.{RootKey}
use Rattle.doc_parts.proofs.WalkLemmas.{root_walked}
use Rattle.doc_parts.proofs.walk.walk_roots.Goals as goal

pub roots-preserved : goal.roots-preserved
roots-preserved c = λ ps kn.
    root_walked c.args.meta.now c.args.levels c.roots.found c.walk.new.found c.args.roots.now c.roots.i c.index-roots-i.result ps c.roots-test.true c.index-roots-i.is
    (subst (λ i. Walks c.args.meta.now c.args.levels c.roots.found c.walk.new.found (RootKey i) 1 (view c.index-roots-i.result)) c.in_ok-position.ensures.index c.in_ok-walk.ensures) (c.roots.invariant ps kn)

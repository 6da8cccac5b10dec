use Rattle.std.proofs.Common.{◌∙◌, ◌<◌, ◌≤◌, ap, arith, length, sym}
use Rattle.mm_types.specs.Resolved.{feature_no}
use Rattle.mm_meta.proofs.ByNameLemmas.{Known, comes_to_end, found_here, known, known_long, known_next}
use Rattle.mm_meta.proofs.MetaLemmas.{few_features}
use Rattle.mm_meta.proofs.meta.Meta.search.Goals as goal

pub overflow_cast-feature : goal.overflow_cast-feature
overflow_cast-feature c =
    let k : Known c.args.self.now c.self.inside.names = known c.self.inside _ c.self.invariant c.self.view_is in
    omega (arith, c.same-test.true, ap length c.next-next.ensures, known_long _ _ k, few_features _ k.document)

pub returns-then-has_feature : goal.returns-then-has_feature
returns-then-has_feature c =
    let k : Known c.args.self.now c.self.inside.names = known c.self.inside _ c.self.invariant c.self.view_is in
    let low : c.same.at < length c.args.self.now.features = omega (arith, c.same-test.true, ap length c.next-next.ensures, known_long _ _ k) in
    sym (found_here _ k.document c.args.class c.args._name.now (feature_no c.same.at) (c.same.invariant.here low) (sym c.has_feature.ensures ∙ c.if-has_feature.true))

pub same-preserved : goal.same-preserved
same-preserved c =
    let k : Known c.args.self.now c.self.inside.names = known c.self.inside _ c.self.invariant c.self.view_is in
    let low : c.same.at < length c.args.self.now.features = omega (arith, c.same-test.true, ap length c.next-next.ensures, known_long _ _ k) in
    rw c.next-next.ensures (known_next _ _ k c.args.class c.args._name.now _ c.same.invariant low (sym c.has_feature.ensures ∙ c.if-has_feature.false))

pub returns : goal.returns
returns c =
    let k : Known c.args.self.now c.self.inside.names = known c.self.inside _ c.self.invariant c.self.view_is in
    let past : length c.args.self.now.features ≤ c.same.at = omega (arith, c.same-test.false, ap length c.next-next.ensures, known_long _ _ k) in
    sym (comes_to_end _ k.document c.args.class c.args._name.now c.same.at c.same.invariant past)

use Rattle.std.proofs.Common.{◌∙◌, ap, arith, sym}
use Rattle.mm_types.specs.Lookups.{feature_by_name}
use Rattle.mm_types.specs.Resolved.{feature_no}
use Rattle.mm_meta.proofs.ByNameLemmas.{IsFirst, Known, found_here, known, known_first, known_next, named_nowhere}
use Rattle.mm_meta.proofs.MetaLemmas.{few_features}
use Rattle.mm_meta.proofs.meta.Meta.feature_by_name.Goals as goal

pub returns-in_err-first : goal.returns-in_err-first
returns-in_err-first c =
    let k : Known c.args.self.now c.self.inside.names = known c.self.inside _ c.self.invariant c.self.view_is in
    c.from_residual.ensures ∙ sym (named_nowhere _ k.document c.args.class c.args.name.now (sym (c.in_err-first.ensures _ k.names)))

pub overflow_cast-feature : goal.overflow_cast-feature
overflow_cast-feature c =
    let k : Known c.args.self.now c.self.inside.names = known c.self.inside _ c.self.invariant c.self.view_is in
    let first : IsFirst c.args.self.now c.args.class c.args.name.now c.in_ok-first.first = known_first _ _ k c.args.class c.args.name.now _ c.in_ok-first.ensures in
    omega (arith, first.low, few_features _ k.document)

pub returns-then-has_feature : goal.returns-then-has_feature
returns-then-has_feature c =
    let k : Known c.args.self.now c.self.inside.names = known c.self.inside _ c.self.invariant c.self.view_is in
    let first : IsFirst c.args.self.now c.args.class c.args.name.now c.in_ok-first.first = known_first _ _ k c.args.class c.args.name.now _ c.in_ok-first.ensures in
    sym (found_here _ k.document c.args.class c.args.name.now (feature_no c.in_ok-first.first) (first.came.here first.low) (sym c.has_feature.ensures ∙ c.if-has_feature.true))

pub search-requires : goal.search-requires
search-requires c =
    let k : Known c.args.self.now c.self.inside.names = known c.self.inside _ c.self.invariant c.self.view_is in
    let first : IsFirst c.args.self.now c.args.class c.args.name.now c.in_ok-first.first = known_first _ _ k c.args.class c.args.name.now _ c.in_ok-first.ensures in
    rw c.next.ensures (known_next _ _ k c.args.class c.args.name.now _ first.came first.low (sym c.has_feature.ensures ∙ c.if-has_feature.false))

pub returns-in-Some : goal.returns-in-Some
returns-in-Some c =
    let k : Known c.args.self.now c.self.inside.names = known c.self.inside _ c.self.invariant c.self.view_is in
    let first : IsFirst c.args.self.now c.args.class c.args.name.now c.in_ok-first.first = known_first _ _ k c.args.class c.args.name.now _ c.in_ok-first.ensures in
    c.in-Some.ensures ∙ ap (feature_by_name c.args.self.now c.args.class) (first.came.here first.low)

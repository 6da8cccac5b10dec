use Rattle.std.proofs.Common.{◌≡◌, ◌∙◌, [], List, Option, get_or, subst, sym}
use Rattle.std.proofs.lemmas.List.{get_or_read}
use Rattle.mm_types.specs.Lookups.{feature_name}
use Rattle.mm_types.specs.Resolved.{Metamodel, feature_no}
use Rattle.mm_types.specs.declared.numbers.FeatureNo.{FeatureNo}
use Rattle.mm_meta.specs.FeatureNames.{AreRows, IsRow}
use Rattle.mm_meta.proofs.ByNameLemmas.{kept_is}
use Rattle.mm_meta.proofs.ResolverLemmas.{got}
use Rattle.mm_meta.proofs.meta.Meta.kept.Goals as goal

pub returns : goal.returns
returns c =
    let m : Metamodel = c.args.self.now in
    let rows : AreRows m c.deref.result.now =
    rw c.deref.ensures.value (subst (λ (m : Metamodel). AreRows m c.self.inside.common.items) c.self.view_is c.self.invariant.finds_common) in
    let read : c.in_ok-by_class.by_class.now ≡ get_or c.deref.result.now c.args.first [] =
    get_or_read c.deref.result.now c.args.first c.in_ok-by_class.by_class.now c.in_ok-by_class.ensures.lookup.3.0 c.in_ok-by_class.ensures.lookup.1 [] in
    let known : IsRow m (feature_name m (feature_no c.args.first)) c.as_slice.result.now =
    subst (λ (by_class : List (Option FeatureNo)). IsRow m (feature_name m (feature_no c.args.first)) by_class) (sym (c.as_slice.ensures ∙ read)) (rows c.args.first c.in_ok-by_class.ensures.lookup.3.0) in
    kept_is m (feature_name m (feature_no c.args.first)) c.as_slice.result.now c.args.class.0 c.copied.result (c.copied.ensures ∙ got _ _ c.get-2.result c.get-2.ensures.lookup) known

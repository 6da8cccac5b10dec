use Rattle.std.proofs.Common.{◌∙◌, ◌≤◌, ◌∷◌, [], Bool, List, ℕ, map, length, arith, refl, slice_get, subst, sym, ap}
use Rattle.std.proofs.lemmas.Option.{none-some}
use Rattle.mm_types.specs.Resolved.{Metamodel, feature_no, resolved_metamodel}
use Rattle.mm_types.specs.declared.class.Class.{Class}
use Rattle.mm_types.specs.declared.numbers.ClassNo.{ClassNo}
use Rattle.mm_graph.specs.ConformTable.{IsConformTable}
use Rattle.mm_meta.proofs.MetaLemmas.{few_features, resolved_is, supertypes_resolved}
use Rattle.mm_meta.proofs.meta.Meta.new.Goals as goal

pub invariant_of-meta : goal.invariant_of-meta
invariant_of-meta c =
    let parts = c.requires.resolution in
    record {
      of_document = record {
        raw = c.args.raw;
        fits = c.into_parts-enums.ensures.fits;
        well_formed = c.requires.well_formed;
        is = resolved_is c.args.raw _ c.into_parts-enums.ensures.enums parts.classes parts.features;
      };
      conforms =
          subst (λ (g : List (List ℕ)). IsConformTable g c.args.resolution.conformance)
          (sym (ap (map (λ (k : Class). map (λ (s : ClassNo). s.0) k.supers)) parts.classes ∙ supertypes_resolved c.args.raw.classes)) parts.conformance;
      finds_classes = rw c.as_slice.ensures at c.in_ok-class_table.ensures;
      finds_literals = rw c.as_slice-2.ensures at c.in_ok-literal_tables.ensures;
      finds_features = rw c.as_slice-3.ensures at c.in_ok-names.ensures;
      finds_common = λ f low. absurd (omega arith);
      finds_containments = λ k b is. absurd (none-some b (ap (λ (found : List Bool). slice_get found k) (sym c.new-2.ensures.items) ∙ is));
      null = refl;
      contents = ap (λ n. feature_no n ∷ []) c.len.ensures;
    }

pub overflow_cast-contents : goal.overflow_cast-contents
overflow_cast-contents c =
    let m = resolved_metamodel c.args.raw in
    let few : length m.features ≤ 256000 = few_features m (record { raw = c.args.raw; fits = c.into_parts-enums.ensures.fits; well_formed = c.requires.well_formed; is = refl }) in
    let same = ap (λ (k : Metamodel). length k.features) (resolved_is c.args.raw _ c.into_parts-enums.ensures.enums c.requires.resolution.classes c.requires.resolution.features) in
    omega (arith, few, same)

pub returns : goal.returns
returns c = c.keep_containments.ensures ∙ c.keep_common.ensures ∙ resolved_is c.args.raw _ c.into_parts-enums.ensures.enums c.requires.resolution.classes c.requires.resolution.features

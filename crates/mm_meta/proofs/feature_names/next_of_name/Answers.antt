use Rattle.std.proofs.Common.{◌≡◌, ◌∙◌, ◌-◌, ◌<◌, [], List, None, Some, ap, arith, get_or, length, map, set, subst, suc, sym, ℕ}
use Rattle.std.specs.Prelude.{position}
use Rattle.std.specs.Str.{bytes_eq}
use Rattle.std.proofs.lemmas.List.{get_or_read, length-map}
use Rattle.std.proofs.lemmas.List.Quantifiers.{position-Some}
use Rattle.mm_types.specs.declared.feature.Feature.{Feature}
use Rattle.mm_meta.proofs.FeatureNameLemmas.{AreMet, met_more, name_read, stands}
use Rattle.mm_meta.proofs.feature_names.next_of_name.Goals as goal

pub back-preserved-in-Some : goal.back-preserved-in-Some
back-preserved-in-Some c =
    let names : List (List ℕ) = map (λ x. x.name) c.args.features.now in
    let long : length names ≡ length c.args.features.now = length-map c.args.features.now (λ x. x.name) in
    let f : ℕ = c.back.f - 1 in
    let next : c.back.f ≡ suc f = omega (arith, c.back-test.true) in
    let before : AreMet names (suc f) c.back.next.items c.back.met.items = subst (λ (k : ℕ). AreMet names k c.back.next.items c.back.met.items) next c.back.invariant in
    let low : f < length c.args.features.now = omega (arith, before.low) in
    let name : get_or names f [] ≡ c.as_str.result.now = name_read c.args.features.now f c.index-features-f.result low c.index-features-f.is ∙ (ap (λ (x : Feature). x.name) c.index-features-f.is ∙ sym c.as_str.ensures) in
    let is : position (λ n. bytes_eq n (get_or names f [])) names ≡ Some c.in-Some.p =
    subst (λ (w : List ℕ). position (λ n. bytes_eq n w) names ≡ Some c.in-Some.p) (sym name) (sym (c.position.ensures names c.requires) ∙ c.in-Some.is) in
    let inside : c.in-Some.p < length c.back.met.items = omega (arith, (position-Some (λ n. bytes_eq n (get_or names f [])) names c.in-Some.p [] is).0, before.long_met) in
    let met : c.index.result.now ≡ get_or c.back.met.items c.in-Some.p 0 = get_or_read c.back.met.items c.in-Some.p c.index.result.now inside c.index.ensures 0 in
    subst (λ (v : ℕ). AreMet names f (set c.back.next.items f v) (set c.back.met.items c.in-Some.p f)) (sym met)
    (met_more names f c.in-Some.p c.back.next.items c.back.met.items before is)

pub back-preserved : goal.back-preserved
back-preserved c =
    let names : List (List ℕ) = map (λ x. x.name) c.args.features.now in
    let long : length names ≡ length c.args.features.now = length-map c.args.features.now (λ x. x.name) in
    let f : ℕ = c.back.f - 1 in
    let low : f < length c.args.features.now = omega (arith, c.back-test.true, c.back.invariant.low) in
    let name : get_or names f [] ≡ c.as_str.result.now = name_read c.args.features.now f c.index-features-f.result low c.index-features-f.is ∙ (ap (λ (x : Feature). x.name) c.index-features-f.is ∙ sym c.as_str.ensures) in
    let is : position (λ n. bytes_eq n (get_or names f [])) names ≡ None =
    subst (λ (w : List ℕ). position (λ n. bytes_eq n w) names ≡ None) (sym name) (sym (c.position.ensures names c.requires) ∙ c.in-None.is) in
    absurd (stands names f (omega arith) is)

use Rattle.std.proofs.Common.{◌≡◌, ◌∙◌, ◌<◌, None, Some, ap, arith, length, map, sym}
use Rattle.std.specs.Prelude.{option_map, position}
use Rattle.std.specs.Str.{bytes_eq}
use Rattle.mm_types.specs.Resolved.{class_no}
use Rattle.mm_meta.specs.Meta.{metamodel}
use Rattle.mm_meta.proofs.MetaLemmas.{few_classes, position_low}
use Rattle.mm_meta.proofs.NameLemmas.{position-map}
use Rattle.mm_meta.proofs.meta.Meta.class_by_name.Goals as goal

pub returns-in_err-position : goal.returns-in_err-position
returns-in_err-position c =
    let classes = c.self.inside.classes in
    let found : None ≡ position (λ k. bytes_eq k.name c.args.name.now) classes =
    c.in_err-position.ensures (map (λ k. k.name) classes) c.self.invariant.finds_classes ∙ position-map (λ n. bytes_eq n c.args.name.now) (λ k. k.name) classes in
    rw (← c.self.view_is) (c.from_residual.ensures ∙ ap (option_map class_no) found)

pub overflow_cast-result : goal.overflow_cast-result
overflow_cast-result c =
    let classes = c.self.inside.classes in
    let found : Some c.in_ok-position.position ≡ position (λ k. bytes_eq k.name c.args.name.now) classes =
    c.in_ok-position.ensures (map (λ k. k.name) classes) c.self.invariant.finds_classes ∙ position-map (λ n. bytes_eq n c.args.name.now) (λ k. k.name) classes in
    let low : c.in_ok-position.position < length classes = position_low (λ k. bytes_eq k.name c.args.name.now) classes c.in_ok-position.position (sym found) in
    omega (arith, few_classes (metamodel c.self.inside) c.self.invariant.of_document)

pub returns : goal.returns
returns c =
    let classes = c.self.inside.classes in
    let found : Some c.in_ok-position.position ≡ position (λ k. bytes_eq k.name c.args.name.now) classes =
    c.in_ok-position.ensures (map (λ k. k.name) classes) c.self.invariant.finds_classes ∙ position-map (λ n. bytes_eq n c.args.name.now) (λ k. k.name) classes in
    rw (← c.self.view_is) (ap (option_map class_no) found)

use Rattle.std.proofs.Common.{◌≡◌, ◌∙◌, ◌<◌, ap, arith, length, map, subst, sym}
use Rattle.std.specs.List.{All}
use Rattle.mm_types.specs.Features.{all_features}
use Rattle.mm_types.specs.Graph.{by_class}
use Rattle.mm_types.specs.Resolved.{class_no, feature_no, graph_of, own_of}
use Rattle.mm_meta.proofs.ClassLemmas.{IsSmall, length-own_from, long_graph, small_supers}
use Rattle.mm_meta.proofs.ResolverLemmas.{row_read}
use Rattle.mm_meta.proofs.resolver.Resolver.resolved_class.Goals as goal

pub class_numbers-requires : goal.class_numbers-requires
class_numbers-requires c =
    let raw = c.args.self.now in
    let low : c.args.c < length c.args.graph.now = omega (arith, long_graph raw.classes c.args.graph.now c.requires.graph) in
    let row_is : by_class (graph_of raw.classes) c.args.c ≡ c.as_slice.result.now =
    row_read (graph_of raw.classes) c.args.graph.now c.args.c c.index-graph-c.result c.requires.graph low c.index-graph-c.is ∙ sym c.as_slice.ensures in
    subst (All IsSmall) row_is (small_supers raw c.args.c c.own-own.ensures.fits c.requires.inside)

pub bounds-own-c : goal.bounds-own-c
bounds-own-c c = omega (arith, ap length c.own-own.ensures.value, length-own_from 0 c.args.self.now.classes)

pub returns : goal.returns
returns c =
    let raw = c.args.self.now in
    let low_graph : c.args.c < length c.args.graph.now = omega (arith, long_graph raw.classes c.args.graph.now c.requires.graph) in
    let supers_is : by_class (graph_of raw.classes) c.args.c ≡ c.as_slice.result.now =
    row_read (graph_of raw.classes) c.args.graph.now c.args.c c.index-graph-c.result c.requires.graph low_graph c.index-graph-c.is ∙ sym c.as_slice.ensures in
    let low_own : c.args.c < length c.own-own.result.now = omega (arith, ap length c.own-own.ensures.value, length-own_from 0 raw.classes) in
    let own_is : by_class (own_of raw.classes) c.args.c ≡ c.as_slice-2.result.now =
    row_read (own_of raw.classes) c.own-own.result.now c.args.c c.index-own-c.result c.own-own.ensures.value low_own c.index-own-c.is ∙ sym c.as_slice-2.ensures in
    let supers : c.in_ok-supers.supers ≡ map class_no (by_class (graph_of raw.classes) c.args.c) = c.in_ok-supers.ensures ∙ ap (map class_no) (sym supers_is) in
    let own : c.in_ok-own.own ≡ map feature_no (by_class (own_of raw.classes) c.args.c) = c.in_ok-own.ensures ∙ ap (map feature_no) (sym own_is) in
    let all : c.in_ok-all.all ≡ map feature_no (all_features (graph_of raw.classes) (own_of raw.classes) c.args.c) = c.in_ok-all.ensures ∙ ap (map feature_no) c.requires.all in
    λ i. record { name = c.in_ok-name.ensures.cases i; is_abstract = c.args.raw.now.is_abstract; supers = supers i; own = own i; all = all i }

use Rattle.std.proofs.Common.{◌≡◌, ◌∙◌, List, ap, sym, ℕ}
use Rattle.std.specs.Prelude.{option_and_then, slice_get}
use Rattle.mm_types.specs.Graph.{by_class}
use Rattle.mm_types.specs.Raw.{RawMetamodel}
use Rattle.mm_types.specs.Resolved.{own_of}
use Rattle.mm_meta.proofs.ResolverLemmas.{got, row_read}
use Rattle.mm_meta.proofs.resolver.Resolver.own_named.Goals as goal

pub returns : goal.returns
returns c =
    let raw = c.args.self.now in
    let rows_are : c.deref.result.now ≡ own_of raw.classes = c.deref.ensures.value ∙ (c.self.invariant.own_is ∙ ap (λ (r : RawMetamodel). own_of r.classes) c.self.view_is) in
    let row_is : by_class (own_of raw.classes) c.args.class ≡ c.as_slice.result.now =
    row_read (own_of raw.classes) c.deref.result.now c.args.class c.in_ok-get.field-0.now rows_are c.in_ok-get.ensures.lookup.3.0 c.in_ok-get.ensures.lookup.1 ∙ sym c.as_slice.ensures in
    c.copied.ensures
    ∙ (got _ _ c.get-2.result c.get-2.ensures.lookup
    ∙ (ap (λ (r : List ℕ). slice_get r c.in_ok-index.index) (sym row_is) ∙ ap (option_and_then (slice_get (by_class (own_of raw.classes) c.args.class))) c.in_ok-index.ensures))

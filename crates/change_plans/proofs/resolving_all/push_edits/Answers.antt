use Rattle.std.proofs.Common.{◌≡◌, ◌∙◌, ◌++◌, [], List, OnOk, Option, append_assoc, ap, map, option_map, option_to_list, slice_get, subst}
use Rattle.mm_types.specs.declared.end.End.{End}
use Rattle.mm_types.specs.declared.value.Value.{Value}
use Rattle.links.specs.declared.plan.Edit.{Edit}
use Rattle.models.specs.Model.{reading}
use Rattle.models.specs.Reading.{Reading}
use Rattle.removal.specs.TreeLinkEnds.{link_end}
use Rattle.removal.specs.declared.link_end.LinkEnd.{LinkEnd}
use Rattle.handshake.specs.Displaced.{counter_link_end, link_end_in}
use Rattle.handshake.specs.Edits.{cut_of, joining_edits}
use Rattle.change_plans.specs.Joining.{edits_by}
use Rattle.proxies.specs.Proxies.{end_of}
use Rattle.change_plans.specs.declared.joining.Joint.{Joint}
use Rattle.change_plans.proofs.resolving_all.push_edits.Goals as goal

-- the cuts, and then the puts
pushed : (r : Reading) (j : Joint) (e : End) → e ≡ end_of j.site → (old mid : List Edit) (none ts us : List LinkEnd) (v : Option Value) → none ≡ [] → v ≡ slice_get (r.values e) j.site.index
    → ts ≡ none ++ option_to_list (option_map (link_end e) v) → us ≡ ts ++ counter_link_end r j.target → mid ≡ old ++ map cut_of us
    → mid ++ joining_edits r e j.site.index j.target ≡ old ++ edits_by r j
pushed r j e is old mid none ts us v empty found here both cut =
    let i = j.site.index in
    let d = end_of j.site in
    let near : ts ≡ link_end_in r e i = here ∙ (λ k. empty k ++ option_to_list (option_map (link_end e) (found k))) in
    let cuts : us ≡ link_end_in r d i ++ counter_link_end r j.target = both ∙ ap (λ (xs : List LinkEnd). xs ++ counter_link_end r j.target) (near ∙ ap (λ (y : End). link_end_in r y i) is) in
    ap (λ (y : End). mid ++ joining_edits r y i j.target) is
    ∙ ap (λ (xs : List Edit). xs ++ joining_edits r d i j.target) (cut ∙ ap (λ (xs : List LinkEnd). old ++ map cut_of xs) cuts)
    ∙ append_assoc old (map cut_of (link_end_in r d i ++ counter_link_end r j.target)) (joining_edits r d i j.target)

pub returns : goal.returns
returns g c =
    subst (λ (xs : List Edit). OnOk c.push_joining.result (c.push_joining.new.edits ≡ xs))
    (pushed (reading c.args.model.now) c.args.joint c.far_end-end.result c.far_end-end.ensures c.args.edits.now c.push_cuts.new.edits c.new-link_ends.result.items c.push_link_end.new.link_ends.items c.add_counterpart.new.link_ends.items
    _ c.new-link_ends.ensures.items c.value_in.ensures c.in_ok-push_link_end.ensures c.in_ok-add_counterpart.ensures c.in_ok-push_cuts.ensures)
    c.push_joining.ensures

use Rattle.std.proofs.Common.{◌≡◌, true, List, Option, Some, None, fold, option_map, option_to_list, slice_get, sym, ap, ◌∙◌, subst}
use Rattle.std.specs.Prelude.{OnOk}
use Rattle.mm_types.specs.Resolved.{Metamodel}
use Rattle.mm_types.specs.Shapes.{shape}
use Rattle.mm_types.specs.declared.value.Value.{Value}
use Rattle.models.specs.Found.{found_value}
use Rattle.models.specs.Model.{reading}
use Rattle.models.specs.declared.reads.Found.{Found}
use Rattle.removal.specs.TreeLinkEnds.{link_end}
use Rattle.removal.specs.declared.link_end.LinkEnd.{LinkEnd}
use Rattle.handshake.specs.Displaced.{with_link_end}
use Rattle.handshake.proofs.CutLinkEndLemmas.{link_ends-single}
use Rattle.handshake.proofs.displaced.add_held.Goals as goal

pub returns-in_ok-value-in-Some : goal.returns-in_ok-value-in-Some
returns-in_ok-value-in-Some g c =
    let s = c.args.model.now in
    let r = reading s in
    let e = c.args.end in
    let single : (shape s.metamodel e.feature).is_single ≡ true = sym (ap (λ (m : Metamodel). (shape m e.feature).is_single) c.meta.ensures) ∙ sym c.is_single.ensures ∙ c.if-not-is_single.false in
    let here : slice_get (r.values e) 0 ≡ Some c.in_ok-value-in-Some.value =
    sym c.value_in.ensures ∙ ap (λ (q : Option Found). option_map found_value q) c.in-Some.is ∙ ap (λ (v : Value). Some v) (sym c.in_ok-value-in-Some.ensures) in
    let link_ends = link_ends-single s e c.lemma_is_legal.ensures c.requires.reference single ∙ ap (λ (q : Option Value). option_to_list (option_map (link_end e) q)) here in
    subst (λ (ts : List LinkEnd). OnOk c.add.result (c.add.new.link_ends.items ≡ fold (with_link_end r) c.args.link_ends.now.items ts)) (sym link_ends) c.add.ensures

pub returns-in-None : goal.returns-in-None
returns-in-None g c =
    let s = c.args.model.now in
    let r = reading s in
    let e = c.args.end in
    let single : (shape s.metamodel e.feature).is_single ≡ true = sym (ap (λ (m : Metamodel). (shape m e.feature).is_single) c.meta.ensures) ∙ sym c.is_single.ensures ∙ c.if-not-is_single.false in
    let here : slice_get (r.values e) 0 ≡ None = sym c.value_in.ensures ∙ ap (λ (q : Option Found). option_map found_value q) c.in-None.is in
    let link_ends = link_ends-single s e c.lemma_is_legal.ensures c.requires.reference single ∙ ap (λ (q : Option Value). option_to_list (option_map (link_end e) q)) here in
    ap (λ (ts : List LinkEnd). fold (with_link_end r) c.args.link_ends.now.items ts) (sym link_ends)

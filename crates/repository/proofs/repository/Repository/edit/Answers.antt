use Rattle.std.proofs.Common.{◌∙◌, [], refl, sym, ap, subst}
use Rattle.mm_values.specs.Values.{ValuesState, values_after_edits}
use Rattle.mm_values.specs.Room.{values_of}
use Rattle.links.specs.Holders.{above}
use Rattle.links.specs.Laws.{touches_containment}
use Rattle.links.specs.Links.{Links}
use Rattle.links.specs.Plans as links
use Rattle.models.specs.Legal.{kinds_of}
use Rattle.models.specs.Model.{model_of}
use Rattle.repository.specs.Repository.{KeepsFragments, state}
use Rattle.repository.specs.State.{IsLegal, State, reads}
use Rattle.repository.specs.Views.{command_of}
use Rattle.repository.proofs.InsideLemmas.{known-after, made, no-memory, seen, unchanged}
use Rattle.repository.proofs.LegalLemmas.{stepped-legal}
use Rattle.repository.proofs.RememberedLemmas.{some-kept}
use Rattle.repository.proofs.ValueLemmas.{changed-quietly}
use Rattle.repository.proofs.repository.Repository.edit.Goals as goal

pub returns-in-Err : goal.returns-in-Err
returns-in-Err g c = λ text change answer given. rw (← c.self.view_is, c.reserve.ensures.links, c.reserve.ensures.values) (no-memory _ _ text change _ _ _ _ _ c.self.view_is given)

pub returns-in-Err-apply : goal.returns-in-Err-apply
returns-in-Err-apply g c = λ text change answer given. rw (← c.self.view_is, c.in-Err-apply.ensures.links_kept, c.in-Err-apply.ensures.values_kept, c.reserve.ensures.links, c.reserve.ensures.values) (no-memory _ _ text change _ _ _ _ _ c.self.view_is given)

pub invariant_of-self-in-Err-apply : goal.invariant_of-self-in-Err-apply
invariant_of-self-in-Err-apply g c =
    let s : State = state g.L.LinkStore.links c.self.inside in
    let m = c.self.inside.meta in
    let p = seen s c.args.self.now c.requires.ready.0 c.requires.ready.1 c.requires.ready.2 [] (g.E.Edits.edits_of_links c.args.edits) (g.E.Edits.edits_of_values c.args.edits) [] c.self.view_is c.requires.ready.3 in
    unchanged g.L.LinkStore.links g.L.LinkStore.kinds c.self.inside c.apply.new.store c.apply.new.values c.self.inside.adapters c.forget.new.paths c.forget.new.hearers
    (c.in-Err-apply.ensures.links_kept ∙ c.reserve.ensures.links) (c.apply.ensures.kinds (kinds_of m) (c.reserve.ensures.kinds (kinds_of m) c.self.invariant.kinds_are) p.of_kind) (c.in-Err-apply.ensures.values_kept ∙ c.reserve.ensures.values) refl
    (subst (KeepsFragments (reads s)) (sym c.forget.ensures.paths) (some-kept (reads s) c.self.inside.paths (touches_containment (kinds_of m) (g.E.Edits.edits_of_links c.args.edits)) c.self.invariant.paths))
    (c.forget.ensures.hearers (above (g.L.LinkStore.links c.self.inside.store)) c.self.inside.adapters.0 (λ out. c.self.invariant.hearers)) c.self.invariant

pub returns : goal.returns
returns g c = λ text change answer given.
    let s : State = state g.L.LinkStore.links c.self.inside in
    let es = g.E.Edits.edits_of_links c.args.edits in
    let vs = g.E.Edits.edits_of_values c.args.edits in
    let p = seen s c.args.self.now text change answer [] es vs [] c.self.view_is given in
    let values = c.in-Ok-apply.ensures.values ∙ ap (λ (v : ValuesState). values_after_edits v vs) c.reserve.ensures.values ∙ p.values_made in
    let made_links = c.in-Ok-apply.ensures.links ∙ ap (λ (l : Links). links.links_after_edits l es) c.reserve.ensures.links ∙ p.links_made in
    let t : State = record { model = model_of c.self.inside.meta (values_of c.apply.new.values) (g.L.LinkStore.links c.apply.new.store); adapters = c.self.inside.adapters.0 } in
    rw (← c.self.view_is) (changed-quietly s t text change es vs answer p (λ i. model_of c.self.inside.meta (values i) (made_links i)) refl)

pub invariant_of-self-2 : goal.invariant_of-self-2
invariant_of-self-2 g c =
    let s : State = state g.L.LinkStore.links c.self.inside in
    let m = c.self.inside.meta in
    let text = c.requires.ready.0 in
    let change = c.requires.ready.1 in
    let answer = c.requires.ready.2 in
    let es = g.E.Edits.edits_of_links c.args.edits in
    let vs = g.E.Edits.edits_of_values c.args.edits in
    let p = seen s c.args.self.now text change answer [] es vs [] c.self.view_is c.requires.ready.3 in
    let new = g.L.LinkStore.links c.apply.new.store in
    let edited = c.in-Ok-apply.ensures.links ∙ ap (λ (l : Links). links.links_after_edits l es) c.reserve.ensures.links in
    let valued = c.in-Ok-apply.ensures.values ∙ ap (λ (v : ValuesState). values_after_edits v vs) c.reserve.ensures.values in
    let legal = stepped-legal _ _ (command_of text change) _ (subst IsLegal c.self.view_is c.self.invariant.legal) (returns g c text change answer c.requires.ready.3) in
    let known = known-after g.L.LinkStore.links g.L.LinkStore.kinds c.self.inside c.apply.new.store c.apply.new.values c.self.inside.adapters c.forget.new.paths c.forget.new.hearers text change answer [] es vs [] p edited legal c.self.invariant c.self.inside.adapters.0 c.self.inside.hearers c.self.invariant.hearers in
    made g.L.LinkStore.links g.L.LinkStore.kinds c.self.inside c.apply.new.store c.apply.new.values c.self.inside.adapters c.forget.new.paths c.forget.new.hearers text change answer [] es vs [] p edited legal c.self.invariant
    (c.apply.ensures.kinds (kinds_of m) (c.reserve.ensures.kinds (kinds_of m) c.self.invariant.kinds_are) p.of_kind) valued c.forget.ensures.paths (c.forget.ensures.hearers (above new) c.self.inside.adapters.0 known)

use Rattle.std.proofs.Common.{◌≡◌, ◌∙◌, ◌++◌, ℕ, true, false, List, [], Option, Some, None, is_some, refl, sym, ap, subst}
use Rattle.std.specs.Prelude.{Box, IfSome}
use Rattle.mm_values.specs.Values.{ValuesState, values_after_edits}
use Rattle.mm_values.specs.Room.{values_of}
use Rattle.notice_chain.specs.Listed.{Listed, tell_chain, told_list}
use Rattle.notice_chain.specs.Released.{Released, Spot, released_adapters}
use Rattle.notice_chain.specs.declared.notice.Notice.{Notice}
use Rattle.adapter_list.specs.Attached.{views_of}
use Rattle.adapter_list.specs.Hearing.{AreKnown}
use Rattle.adapter_list.specs.Rounds.{RoundView, adapters_after_copies, round_copies}
use Rattle.adapter_list.proofs.RoundLemmas.{adapters_after_copies-round_copies}
use Rattle.links.specs.Holders.{above}
use Rattle.links.specs.Laws.{touches_containment}
use Rattle.links.specs.Links.{Links}
use Rattle.links.specs.Plans as links
use Rattle.models.specs.Legal.{kinds_of}
use Rattle.models.specs.Model.{model_of}
use Rattle.handshake.specs.declared.change.Change.{Change}
use Rattle.adapter_list.specs.declared.leaving.Leaving.{Leaving}
use Rattle.adapter_list.specs.Leaving.{HasRoom, leavers, spots_in}
use Rattle.repository.specs.Leaving.{going_with}
use Rattle.repository.specs.Views.{command_of}
use Rattle.repository.specs.Repository.{KeepsFragments, state}
use Rattle.repository.specs.State.{IsLegal, State, reads}
use Rattle.repository.proofs.InsideLemmas.{known-after, made, no-memory, round-here, seen, unchanged}
use Rattle.repository.proofs.RememberedLemmas.{known-adapters_after_copies, some-kept}
use Rattle.repository.proofs.PlanLemmas.{chain_err, changed_to, releases_of}
use Rattle.repository.proofs.LegalLemmas.{stepped-legal}
use Rattle.repository.proofs.repository.Repository.finish.Goals as goal

none-go : {A B : Type 0} (q : Option (Box (Leaving A) B)) → is_some q ≡ false → spots_in q ≡ []
none-go None h = refl
none-go (Some x) h = absurd (let no : true ≡ false = h in cc)

pub reserve_round-requires : goal.reserve_round-requires
reserve_round-requires g c =
    let s : State = state g.L.LinkStore.links c.self.inside in
    record { round = ((reads s).above, c.requires.ready.2, round-here _ _ c.requires.ready.2 c.args.round c.self.view_is c.requires.ready.3) }

-- if memory or capacity is refused, the view has not changed
pub returns-in-Err : goal.returns-in-Err
returns-in-Err g c = λ text change ns is given. rw (← c.self.view_is, c.reserve.ensures.links, c.reserve.ensures.values) (no-memory _ _ text change _ _ _ _ _ c.self.view_is given)

pub invariant_of-self : goal.invariant_of-self
invariant_of-self g c =
    unchanged g.L.LinkStore.links g.L.LinkStore.kinds c.self.inside c.reserve.new.store c.reserve.new.values c.self.inside.adapters c.self.inside.paths c.self.inside.hearers c.reserve.ensures.links (c.reserve.ensures.kinds (kinds_of c.self.inside.meta) c.self.invariant.kinds_are) c.reserve.ensures.values refl c.self.invariant.paths c.self.invariant.hearers c.self.invariant

pub returns-in-Err-with_room : goal.returns-in-Err-with_room
returns-in-Err-with_room g c = λ text change ns is given. rw (← c.self.view_is, c.reserve.ensures.links, c.reserve.ensures.values) (no-memory _ _ text change _ _ _ _ _ c.self.view_is given)

pub invariant_of-self-in-Err-with_room : goal.invariant_of-self-in-Err-with_room
invariant_of-self-in-Err-with_room g c =
    unchanged g.L.LinkStore.links g.L.LinkStore.kinds c.self.inside c.reserve.new.store c.reserve.new.values c.self.inside.adapters c.self.inside.paths c.self.inside.hearers c.reserve.ensures.links (c.reserve.ensures.kinds (kinds_of c.self.inside.meta) c.self.invariant.kinds_are) c.reserve.ensures.values refl c.self.invariant.paths c.self.invariant.hearers c.self.invariant

pub returns-in-Err-reserve_round : goal.returns-in-Err-reserve_round
returns-in-Err-reserve_round g c =
    let s : State = state g.L.LinkStore.links c.self.inside in
    λ text change ns same given.
    let reserved = c.in-Err-reserve_round.ensures (reads s).above ns (round-here _ _ ns c.args.round c.self.view_is same) in
    let p = seen s _ text change _ _ _ _ _ c.self.view_is given in
    rw (← c.self.view_is, c.reserve.ensures.links, c.reserve.ensures.values, reserved.kept) (chain_err s text change _ c.in-Err-reserve_round.refused p.proper p.asked p.allowed p.tells reserved.reason)

pub invariant_of-self-in-Err-reserve_round : goal.invariant_of-self-in-Err-reserve_round
invariant_of-self-in-Err-reserve_round g c =
    let s : State = state g.L.LinkStore.links c.self.inside in
    let reserved = c.in-Err-reserve_round.ensures (reads s).above c.requires.ready.2 (round-here _ _ c.requires.ready.2 c.args.round c.self.view_is c.requires.ready.3) in
    unchanged g.L.LinkStore.links g.L.LinkStore.kinds c.self.inside c.reserve.new.store c.reserve.new.values c.reserve_round.new.self c.self.inside.paths c.self.inside.hearers c.reserve.ensures.links (c.reserve.ensures.kinds (kinds_of c.self.inside.meta) c.self.invariant.kinds_are) c.reserve.ensures.values reserved.kept c.self.invariant.paths c.self.invariant.hearers c.self.invariant

pub returns-in-Err-apply : goal.returns-in-Err-apply
returns-in-Err-apply g c =
    let s : State = state g.L.LinkStore.links c.self.inside in
    let reserved = c.in-Ok-reserve_round.ensures (reads s).above c.requires.ready.2 (round-here _ _ c.requires.ready.2 c.args.round c.self.view_is c.requires.ready.3) in
    λ text change ns is given. rw (← c.self.view_is, c.in-Err-apply.ensures.links_kept, c.in-Err-apply.ensures.values_kept, c.reserve.ensures.links, c.reserve.ensures.values, reserved.kept) (no-memory _ _ text change _ _ _ _ _ c.self.view_is given)

pub invariant_of-self-in-Err-apply : goal.invariant_of-self-in-Err-apply
invariant_of-self-in-Err-apply g c =
    let s : State = state g.L.LinkStore.links c.self.inside in
    let p = seen s _ c.requires.ready.0 c.requires.ready.1 _ _ _ _ _ c.self.view_is c.requires.ready.4 in
    let m = c.self.inside.meta in
    let reserved = c.in-Ok-reserve_round.ensures (reads s).above c.requires.ready.2 (round-here _ _ c.requires.ready.2 c.args.round c.self.view_is c.requires.ready.3) in
    let old = above (g.L.LinkStore.links c.self.inside.store) in
    unchanged g.L.LinkStore.links g.L.LinkStore.kinds c.self.inside c.apply.new.store c.apply.new.values c.reserve_round.new.self c.forget.new.paths c.forget_if.new.self
    (c.in-Err-apply.ensures.links_kept ∙ c.reserve.ensures.links) (c.apply.ensures.kinds (kinds_of m) (c.reserve.ensures.kinds (kinds_of c.self.inside.meta) c.self.invariant.kinds_are) p.of_kind) (c.in-Err-apply.ensures.values_kept ∙ c.reserve.ensures.values) reserved.kept
    (subst (KeepsFragments (reads s)) (sym c.forget.ensures.paths) (some-kept (reads s) c.self.inside.paths (touches_containment (kinds_of m) (g.E.Edits.edits_of_links c.args.prepared.edits)) c.self.invariant.paths))
    (c.forget_if.ensures old c.self.inside.adapters.0 (λ stay. c.forget.ensures.hearers old c.self.inside.adapters.0 (λ out. c.self.invariant.hearers))) c.self.invariant

pub deliver_and_release-told-requires : goal.deliver_and_release-told-requires
deliver_and_release-told-requires g c =
    let s : State = state g.L.LinkStore.links c.self.inside in
    record {
      fits = (c.in-Ok-reserve_round.ensures (reads s).above c.requires.ready.2 (round-here _ _ c.requires.ready.2 c.args.round c.self.view_is c.requires.ready.3)).fits;
      room = subst (λ (n : ℕ). IfSome c.in-Ok-with_room.leaving (λ x. HasRoom n x.value)) c.told_len.ensures.len c.in-Ok-with_room.ensures.room;
    }

pub returns : goal.returns
returns g c =
    let s : State = state g.L.LinkStore.links c.self.inside in
    let q = c.args.prepared in
    let es = g.E.Edits.edits_of_links q.edits in
    let vs = g.E.Edits.edits_of_values q.edits in
    let up = (reads s).above in
    λ text change ns same given.
    let is = round-here _ _ ns c.args.round c.self.view_is same in
    let reserved = c.in-Ok-reserve_round.ensures up ns is in
    let p = seen s _ text change _ _ _ _ _ c.self.view_is given in
    let values = c.in-Ok-apply.ensures.values ∙ ap (λ (v : ValuesState). values_after_edits v vs) c.reserve.ensures.values ∙ p.values_made in
    let made_links = c.in-Ok-apply.ensures.links ∙ ap (λ (l : Links). links.links_after_edits l es) c.reserve.ensures.links ∙ p.links_made in
    let rs : List Listed = c.reserve_round.new.self.0 in
    let round : RoundView = c.args.round in
    let delivery : adapters_after_copies round.copies rs ≡ tell_chain up ns s.adapters = ap (λ (r : RoundView). adapters_after_copies r.copies rs) is ∙ ap (adapters_after_copies (round_copies up ns s.adapters)) reserved.kept ∙ adapters_after_copies-round_copies up ns s.adapters in
    let ss = spots_in c.in-Ok-with_room.leaving in
    let go : ss ≡ going_with (reads s) s.adapters change = c.in-Ok-with_room.ensures.spots ∙ p.spots in
    let left : leavers ss round.copies rs ≡ releases_of s change ns = λ i. released_adapters (go i) (delivery i) in
    let told = c.from_vec.ensures ∙ c.deliver_and_release-told.ensures.told ∙ ap (λ (r : RoundView). r.told ++ (leavers ss round.copies rs).told) is ∙ ap (λ (x : Released). told_list up ns s.adapters ++ x.told) left in
    let views = ap (views_of g.A.Adapter.heard) c.from_vec-2.ensures ∙ c.deliver_and_release-told.ensures.released ∙ ap (λ (x : Released). x.views) left in
    let adapters = c.deliver_and_release-told.ensures.others ∙ ap (λ (x : Released). x.others) left in
    let t : State = record { model = model_of c.self.inside.meta (values_of c.apply.new.values) (g.L.LinkStore.links c.apply.new.store); adapters = c.deliver_and_release-told.new.self.0 } in
    rw (← c.self.view_is)
    (changed_to s t text change ns q.answer c.from_vec.result (views_of g.A.Adapter.heard c.from_vec-2.result) p.proper p.asked p.allowed p.tells reserved.counted p.answered told views
    (λ i. model_of c.self.inside.meta (values i) (made_links i)) adapters)

pub invariant_of-self-2 : goal.invariant_of-self-2
invariant_of-self-2 g c =
    let s : State = state g.L.LinkStore.links c.self.inside in
    let q = c.args.prepared in
    let es = g.E.Edits.edits_of_links q.edits in
    let vs = g.E.Edits.edits_of_values q.edits in
    let ns : List Notice = c.requires.ready.2 in
    let p = seen s _ c.requires.ready.0 c.requires.ready.1 q.answer q.spots.items es vs ns c.self.view_is c.requires.ready.4 in
    let m = c.self.inside.meta in
    let text = c.requires.ready.0 in
    let change : Change = c.requires.ready.1 in
    let reserved = c.in-Ok-reserve_round.ensures (reads s).above c.requires.ready.2 (round-here _ _ c.requires.ready.2 c.args.round c.self.view_is c.requires.ready.3) in
    let new = above (g.L.LinkStore.links c.apply.new.store) in
    let rs : List Listed = c.reserve_round.new.self.0 in
    let copies = c.args.round.copies in
    let edited = c.in-Ok-apply.ensures.links ∙ ap (λ (l : Links). links.links_after_edits l es) c.reserve.ensures.links in
    let valued = c.in-Ok-apply.ensures.values ∙ ap (λ (v : ValuesState). values_after_edits v vs) c.reserve.ensures.values in
    let legal = stepped-legal _ _ (command_of text change) _ (subst IsLegal c.self.view_is c.self.invariant.legal) (returns g c text change ns c.requires.ready.3 c.requires.ready.4) in
    let told = known-adapters_after_copies (above (g.L.LinkStore.links c.self.inside.store)) copies c.self.inside.adapters.0 c.self.inside.hearers c.self.invariant.hearers in
    let stays = known-after g.L.LinkStore.links g.L.LinkStore.kinds c.self.inside c.apply.new.store c.apply.new.values c.deliver_and_release-told.new.self c.forget.new.paths c.forget_if.new.self text change q.answer q.spots.items es vs ns p edited legal c.self.invariant
    (adapters_after_copies copies c.self.inside.adapters.0) c.self.inside.hearers told in
    made g.L.LinkStore.links g.L.LinkStore.kinds c.self.inside c.apply.new.store c.apply.new.values c.deliver_and_release-told.new.self c.forget.new.paths c.forget_if.new.self text change q.answer q.spots.items es vs ns p edited legal c.self.invariant
    (c.apply.ensures.kinds (kinds_of m) (c.reserve.ensures.kinds (kinds_of c.self.inside.meta) c.self.invariant.kinds_are) p.of_kind) valued c.forget.ensures.paths
    (c.forget_if.ensures new c.deliver_and_release-told.new.self.0 (λ stay. c.forget.ensures.hearers new c.deliver_and_release-told.new.self.0 (λ out.
    let nobody : spots_in c.in-Ok-with_room.leaving ≡ [] = none-go c.in-Ok-with_room.leaving (sym c.is_some.ensures ∙ stay) in
    let others : c.deliver_and_release-told.new.self.0 ≡ adapters_after_copies copies c.self.inside.adapters.0 = c.deliver_and_release-told.ensures.others ∙ ap (λ (ss : List Spot). (leavers ss copies rs).others) nobody ∙ ap (adapters_after_copies copies) reserved.kept in
    subst (λ (qs : List Listed). AreKnown new qs c.self.inside.hearers) (sym others) (stays out))))

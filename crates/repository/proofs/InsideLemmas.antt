-- The invariant of a repository holds again after the edits of a change, and after memory for them was refused.
use Rattle.std.proofs.Common.{◌≡◌, ◌∙◌, ℕ, List, None, Err, ap, sym, subst}
use Rattle.std.specs.FinMap as map
use Rattle.std.specs.Prelude.{false, if◌then◌else◌}
use Rattle.links.specs.Holders.{above}
use Rattle.links.specs.Laws.{touches_containment}
use Rattle.links.specs.LegalSets.{Kinds}
use Rattle.links.specs.Links.{Links}
use Rattle.links.specs.Plans.{links_after_edits}
use Rattle.links.specs.declared.plan.Edit.{Edit}
use Rattle.mm_values.specs.Room.{values_of}
use Rattle.mm_values.specs.Values.{values_after_edits}
use Rattle.mm_values.specs.declared.value_edit.ValueEdit.{ValueEdit}
use Rattle.mm_values.specs.declared.values.Values.{Values}
use Rattle.models.specs.Legal as models
use Rattle.models.specs.Legal.{kinds_of}
use Rattle.models.specs.Model.{model_of, reading}
use Rattle.models.specs.Steady.{HasSteadyTexts}
use Rattle.fragment_paths.specs.Kept.{Kept}
use Rattle.notice_chain.specs.Listed.{Listed}
use Rattle.notice_chain.specs.Released.{Spot}
use Rattle.notice_chain.specs.declared.notice.Notice.{Notice}
use Rattle.adapter_list.specs.Hearing.{AreKnown}
use Rattle.adapter_list.specs.Rounds.{RoundView, round_of}
use Rattle.adapter_list.specs.declared.hearers.Hearers.{Hearers}
use Rattle.handshake.specs.declared.change.Change.{Change}
use Rattle.handshake.proofs.ProxyLemmas.{change-keeps-steady}
use Rattle.repository.specs.Repository.{IsLegalInside, KeepsFragments, state}
use Rattle.repository.specs.Prepared.{IsReady}
use Rattle.repository.specs.Remembered.{may_change_containers}
use Rattle.repository.specs.State.{IsLegal, State, reads}
use Rattle.repository.specs.declared.reply.Answer.{Answer}
use Rattle.repository.specs.declared.repository.Repository.TheInside.{Inside}
use Rattle.mm_types.specs.declared.refused.Refused.TheVariants.{Memory}
use Rattle.repository.specs.Run.{Executed}
use Rattle.repository.specs.Views.{command_of}
use Rattle.repository.proofs.LoadLemmas.{proper-steady}
use Rattle.repository.proofs.PlanLemmas.{out_of_memory}
use Rattle.repository.proofs.RememberedLemmas.{hearers-kept, kept-after}

-- a change that is ready for the abstract state is ready for the state of the repository
pub seen : (s v : State) (text : List ℕ) (c : Change) (a : Answer) (ss : List Spot) (es : List Edit) (vs : List ValueEdit) (ns : List Notice) → s ≡ v → IsReady v text c a ss es vs ns → IsReady s text c a ss es vs ns
seen s v text c a ss es vs ns is ready = subst (λ (t : State). IsReady t text c a ss es vs ns) (sym is) ready

-- a round of a chain by the abstract state is its round by the state of the repository
pub round-here : (s v : State) (ns : List Notice) (r : RoundView) → s ≡ v → r ≡ round_of (reads v).above ns v.adapters → r ≡ round_of (reads s).above ns s.adapters
round-here s v ns r is same = same ∙ ap (λ (t : State). round_of (reads t).above ns t.adapters) (sym is)

-- a change that is ready may be refused memory
pub no-memory : (s v : State) (text : List ℕ) (c : Change) (a : Answer) (ss : List Spot) (es : List Edit) (vs : List ValueEdit) (ns : List Notice) → s ≡ v → IsReady v text c a ss es vs ns → Executed s (command_of text c) (Err (record { refused = Memory; given_back = None })) s
no-memory s v text c a ss es vs ns is ready =
    let here = seen s v text c a ss es vs ns is ready in
    out_of_memory s text c here.proper here.asked

module _ {L A : Type 0} (links : L → Links) (kinds : L → Kinds → Type 0) (r : Inside L A) (s : L) (w : Values) (qs : List Listed × List ℕ) (p : Kept) (h : Hearers) where
  -- the repository with other parts
  abbrev pub with_parts : Inside L A
  with_parts = record { alloc = r.alloc; meta = r.meta; values = w; store = s; adapters = qs; paths = p; hearers = h }

  -- parts whose view is as before
  pub unchanged : links s ≡ links r.store → kinds s (kinds_of r.meta) → values_of w ≡ values_of r.values → qs.0 ≡ r.adapters.0 → KeepsFragments (reads (state links r)) p → AreKnown (above (links r.store)) r.adapters.0 h → IsLegalInside links kinds r → IsLegalInside links kinds with_parts
  unchanged same_links agree same_values same_adapters kept known holds =
      let is : state links r ≡ state links with_parts = λ i. record { model = model_of r.meta (sym same_values i) (sym same_links i); adapters = sym same_adapters i } in
      record {
        legal = subst IsLegal is holds.legal;
        steady = subst (λ (t : State). HasSteadyTexts t.model) is holds.steady;
        kinds_are = agree;
        paths = subst (λ (t : State). KeepsFragments (reads t) p) is kept;
        hearers = subst (λ (l : Links). AreKnown (above l) qs.0 h) (sym same_links) (subst (λ (rs : List Listed). AreKnown (above (links r.store)) rs h) (sym same_adapters) known);
      }

  module _ (text : List ℕ) (c : Change) (a : Answer) (ss : List Spot) (es : List Edit) (vs : List ValueEdit) (ns : List Notice) (ready : IsReady (state links r) text c a ss es vs ns) (edited : links s ≡ links_after_edits (links r.store) es) (legal : IsLegal (state links with_parts)) (holds : IsLegalInside links kinds r) where
    legal-after : models.IsLegal (model_of r.meta (values_of w) (links_after_edits (links r.store) es))
    legal-after = subst (λ (l : Links). models.IsLegal (model_of r.meta (values_of w) l)) edited legal.model

    -- the adapters that are remembered for a node are right after the edits too, if these give no node another container
    pub known-after : (rs : List Listed) (h0 : Hearers) → AreKnown (above (links r.store)) rs h0 → may_change_containers (kinds_of r.meta) es ≡ false → AreKnown (above (links s)) rs h0
    known-after rs h0 known out =
        subst (λ (l : Links). AreKnown (above l) rs h0) (sym edited)
        (hearers-kept r.meta (values_of r.values) (values_of w) (links r.store) es holds.legal.model legal-after ready.fits ready.of_kind rs h0 known out)

    -- the edits of a change that is ready
    pub made : kinds s (kinds_of r.meta) → values_of w ≡ values_after_edits (values_of r.values) vs → p ≡ (if touches_containment (kinds_of r.meta) es then map.empty else r.paths) → AreKnown (above (links s)) qs.0 h → IsLegalInside links kinds with_parts
    made agree valued forgotten known =
        record {
          legal = legal;
          steady = subst HasSteadyTexts (sym (λ i. model_of r.meta ((valued ∙ ready.values_made) i) ((edited ∙ ready.links_made) i))) (change-keeps-steady (state links r).model c holds.steady (proper-steady (reads (state links r)) text c ready.proper));
          kinds_are = agree;
          paths = subst (KeepsFragments (reading (model_of r.meta (values_of w) (links s)))) (sym forgotten)
              (subst (λ (l : Links). KeepsFragments (reading (model_of r.meta (values_of w) l)) (if touches_containment (kinds_of r.meta) es then map.empty else r.paths)) (sym edited)
              (kept-after r.meta (values_of r.values) (values_of w) (links r.store) es holds.legal.model legal-after ready.fits ready.of_kind r.paths holds.paths));
          hearers = known;
        }

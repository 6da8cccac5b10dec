-- The loads of all saved resources, one after another, in any order.
use Rattle.std.proofs.Common.{List, [], ◌∷◌, ◌++◌, arith, refl}
use Rattle.std.specs.List.{IsDistinct}
use Rattle.std.proofs.lemmas.Bool.{false≢true}
use Rattle.mm_types.specs.declared.numbers.ResourceNo.{ResourceNo}
use Rattle.mm_values.specs.Values.{ValuesState}
use Rattle.links.specs.Links.{Links, no_links}
use Rattle.models.specs.Legal.{IsLegal}
use Rattle.models.specs.Model.{Model, empty_model, model_of, reading}
use Rattle.models.specs.Steady.{HasSteadyTexts}
use Rattle.models.proofs.EmptyLemmas.{empty-legal}
use Rattle.round_trip.specs.Copied.{copied_document}
use Rattle.handshake.specs.Effects.{model_after}
use Rattle.handshake.specs.declared.change.Change.TheVariants.{Load, NewResource}
use Rattle.reloading.specs.Between.{Between}
use Rattle.reloading.specs.Orders.{AreAllowed, Fill, IsOrder, IsSaved, LoadsGiveBetween, Make, Task, after_all, changes, is_same, number_of, uri_of}
use Rattle.reloading.proofs.FillLemmas.{fill-allowed, filled-so-far}
use Rattle.reloading.proofs.LoadedLemmas.{loaded-between}
use Rattle.reloading.proofs.MakeLemmas.{made-so-far, make-allowed}
use Rattle.reloading.proofs.SoFarLemmas.{HasSoFar}

module _ (s : Model) (legal : IsLegal s) (steady : HasSteadyTexts s) (saved : IsSaved (reading s)) where
  -- the rest of the tasks from a model
  pub record AreDone (t : Model) (made : List ResourceNo) (ts : List Task) : Type 0 where
    pub allowed : AreAllowed t (changes (reading s) made ts)
    pub legal_then : IsLegal (after_all t (changes (reading s) made ts))
    pub between : Between (reading s) (reading (after_all t (changes (reading s) made ts)))

  done : (ts : List Task) (w : ValuesState) (b : Links) (made filled : List ResourceNo) → HasSoFar s w b made filled → IsOrder (reading s) made filled ts → AreDone (model_of s.metamodel w b) made ts
  done [] w b made filled so_far order = record { allowed = tt; legal_then = so_far.legal; between = loaded-between s legal steady saved w b made filled so_far order }
  done (Make k ∷ ts) w b made filled so_far order =
      let t = model_of s.metamodel w b in
      let u = model_after t (NewResource (uri_of (reading s) k)) in
      let rest = done ts u.values u.links (made ++ k ∷ []) filled (made-so-far s legal steady saved w b made filled so_far k order.0) order.1 in
      record { allowed = (make-allowed s legal steady saved w b made filled so_far k order.0, rest.allowed); legal_then = rest.legal_then; between = rest.between }
  done (Fill k ∷ ts) w b made filled so_far order =
      let t = model_of s.metamodel w b in
      let u = model_after t (Load (number_of made k) (copied_document (reading s) k)) in
      let rest = done ts u.values u.links made (filled ++ k ∷ []) (filled-so-far s legal steady saved w b made filled so_far k order.0) order.1 in
      record { allowed = (fill-allowed s legal steady saved w b made filled so_far k order.0, rest.allowed); legal_then = rest.legal_then; between = rest.between }

  nothing-once : IsDistinct is_same []
  unfolding IsDistinct
  nothing-once = tt

  pub at-first : HasSoFar s (record { objects = []; uris = [] }) no_links [] []
  at-first = record {
    legal = empty-legal s.metamodel legal.metamodel;
    uris = refl;
    once = nothing-once;
    there = λ k h. absurd (false≢true h);
    filled_once = nothing-once;
    filled_made = λ k h. h;
    empty = λ k h unfilled. absurd (false≢true h);
    base = λ k. 0;
    copies = λ k h. absurd (false≢true h);
    only = λ p low. absurd (omega (arith, low));
    count = refl;
  }

  pub all-loaded : (ts : List Task) → IsOrder (reading s) [] [] ts → AreDone (empty_model s.metamodel) [] ts
  all-loaded ts order = done ts (record { objects = []; uris = [] }) no_links [] [] at-first order

pub loads-give-between : (s : Model) → LoadsGiveBetween s
loads-give-between s legal steady saved ts order =
    let all = all-loaded s legal steady saved ts order in
    record { allowed = all.allowed; legal = all.legal_then; between = all.between }

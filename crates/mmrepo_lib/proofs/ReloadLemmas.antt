-- The commands of a reload, one after another.
use Rattle.std.proofs.Common.{◌≡◌, ◌∙◌, ℕ, true, List, [], ◌∷◌, ◌++◌, Option, is_some, slice_get, unwrap_or, if◌then◌else◌, arith, rules, refl, sym, ap, subst, ◌+◌}
use Rattle.std.specs.Prelude.{Ok}
use Rattle.std.specs.List.{IsDistinct}
use Rattle.std.proofs.lemmas.List.Elements.{All-contains}
use Rattle.mm_types.specs.Shapes.{shape}
use Rattle.mm_types.specs.declared.numbers.FeatureNo.{FeatureNo}
use Rattle.mm_types.specs.declared.numbers.Node.{Node}
use Rattle.mm_types.specs.declared.numbers.Node.TheVariants as node
use Rattle.mm_types.specs.declared.numbers.ObjectNo.{ObjectNo}
use Rattle.mm_types.specs.declared.numbers.ResourceNo.{ResourceNo}
use Rattle.mm_values.specs.Values.{ValuesState}
use Rattle.web_uris.specs.Joined.{IsWebUri}
use Rattle.links.specs.Links.{Links, no_links}
use Rattle.models.specs.Legal.{IsLegal}
use Rattle.models.specs.Model.{Model, empty_model, model_of, reading}
use Rattle.models.specs.Reading.{Reading, at_end, has_resource}
use Rattle.models.specs.Steady.{HasSteadyTexts}
use Rattle.notice_chain.specs.View.{View}
use Rattle.resource_docs.specs.Causes.{reads_bytes}
use Rattle.doc_loader.proofs.SoundLemmas.{at-map}
use Rattle.round_trip.specs.Copied.{copied_document}
use Rattle.round_trip.proofs.BackLemmas.{text-back}
use Rattle.round_trip.proofs.ValuesListLemmas.{stands}
use Rattle.handshake.specs.Effects.{model_after}
use Rattle.proxies.specs.Resolving.{proxy_at}
use Rattle.handshake.specs.declared.change.Change.{Change}
use Rattle.handshake.specs.declared.change.Change.TheVariants.{At, Load, NewResource}
use Rattle.handshake.specs.declared.act.Act.TheVariants.{Resolve}
use Rattle.reloading.specs.Alike.{Alike}
use Rattle.reloading.specs.Between.{Between}
use Rattle.reloading.specs.Laws.{IsResolvedBetween}
use Rattle.reloading.specs.Orders as orders
use Rattle.reloading.specs.Orders.{Fill, IsFilling, IsMaking, IsOrder, IsSaved, Make, Task, after_all, changes, number_of, uri_of}
use Rattle.reloading.specs.Proxies.{HasNoProxy, proxies_len}
use Rattle.reloading.specs.Reload as models
use Rattle.reloading.proofs.AfterLemmas.{now-legal}
use Rattle.reloading.proofs.AlikeLemmas.{alike-of}
use Rattle.reloading.proofs.FillLemmas.{fill-allowed, filled-so-far}
use Rattle.reloading.proofs.LoadedLemmas.{readable, uri-at}
use Rattle.reloading.proofs.MakeLemmas.{made-so-far, room, uri-new, uri-short}
use Rattle.reloading.proofs.OrdersLemmas.{at-first, loads-give-between}
use Rattle.reloading.proofs.AgainLemmas as reloads_of
use Rattle.reloading.proofs.AgainLemmas.{same-metamodel}
use Rattle.reloading.proofs.ResolveLemmas.{left-at, none-at-root, resolves-between}
use Rattle.reloading.proofs.ResolveAllLemmas.{resolves-all}
use Rattle.reloading.proofs.SoFarLemmas.{HasSoFar, numbered}
use Rattle.repository.specs.Loads.{reads_into, uri_at}
use Rattle.repository.specs.Run.{run}
use Rattle.repository.specs.State as legal_state
use Rattle.repository.specs.State.{State, reads, state_of_model}
use Rattle.repository.specs.Step.{Stepped}
use Rattle.repository.specs.declared.command.Command.{Command}
use Rattle.repository.specs.Commands.{resolve}
use Rattle.repository.specs.declared.command.Command.TheVariants as command
use Rattle.mmrepo_lib.specs.Reload.{AllDone, AreLoads, AreResolves, AreTexts, IsAllResolved, IsDone, IsReloaded, LoadsGiveBetween, ReloadsInAnyOrder, ResolvesAll, ResolvesBetween, commands, reloaded_state}
use Rattle.mmrepo_lib.proofs.BareStepLemmas.{IsStep, filled, made, resolved}

---------------------------------------------------------------- runs

-- commands succeed, and leave a model
record IsRunOf (t : Model) (cs : List (Command View)) (u : Model) : Type 0 where
  done : AllDone (run (state_of_model t) cs).outcomes
  after_them : (run (state_of_model t) cs).after ≡ state_of_model u

one-more : (t u v : Model) (c : Command View) (cs : List (Command View)) → IsStep t c u → IsRunOf u cs v → IsRunOf t (c ∷ cs) v
one-more t u v c cs is rest = record {
  done = subst (λ (y : Stepped). AllDone (y.outcome ∷ (run y.after cs).outcomes)) (sym is) (tt, rest.done);
  after_them = ap (λ (y : Stepped). (run y.after cs).after) is ∙ rest.after_them;
}

---------------------------------------------------------------- loads

module _ (s : Model) (legal : IsLegal s) (steady : HasSteadyTexts s) (saved : IsSaved (reading s)) (texts : ResourceNo → List ℕ) (are : AreTexts (reading s) texts) where
  abbrev r : Reading
  r = reading s

  module _ (w : ValuesState) (b : Links) (done filled_ones : List ResourceNo) (so_far : HasSoFar s w b done filled_ones) (k : ResourceNo) where
    abbrev t : Model
    t = model_of s.metamodel w b

    makes : IsMaking r done k → IsStep t (command.CreateResource (uri_of r k)) (model_after t (NewResource (uri_of r k)))
    makes making =
        made t (uri_of r k) (All-contains IsWebUri s.values.uris (uri_of r k) steady.uris (stands s.values.uris k.0 (uri_of r k) (uri-at s legal steady saved k making.there)))
        (uri-short s legal steady saved w b done filled_ones so_far k making) (room s legal steady saved w b done filled_ones so_far k making) (uri-new s legal steady saved w b done filled_ones so_far k making)

    fills : IsFilling done filled_ones k → IsStep t (command.Load (number_of done k) (texts k)) (model_after t (Load (number_of done k) (copied_document r k)))
    fills filling =
        filled t (number_of done k) (texts k) (copied_document r k) read (fill-allowed s legal steady saved w b done filled_ones so_far k filling)
      where
        there : has_resource r k ≡ true
        there = so_far.there k filling.there

        same_uri : uri_at (reading t) (number_of done k) ≡ uri_of r k
        same_uri =
            ap (λ (us : List (List ℕ)). unwrap_or (slice_get us (number_of done k).0) []) so_far.uris
            ∙ ap (λ (x : Option (List ℕ)). unwrap_or x []) (at-map (uri_of r) done (number_of done k).0 k (numbered done k filling.there).there)

        read : reads_into (reading t) (number_of done k) (texts k) ≡ Ok (copied_document r k)
        read = ap (λ (u : List ℕ). reads_bytes s.metamodel u (texts k)) same_uri ∙ text-back s legal steady k (uri_of r k) (readable s legal steady saved k there) (texts k) (are.reads k there) (are.utf8 k there)

  all-made : (ts : List Task) (w : ValuesState) (b : Links) (done filled_ones : List ResourceNo) → HasSoFar s w b done filled_ones → IsOrder r done filled_ones ts
      → IsRunOf (model_of s.metamodel w b) (commands r texts done ts) (after_all (model_of s.metamodel w b) (changes r done ts))
  all-made [] w b done filled_ones so_far order = record { done = tt; after_them = refl }
  all-made (Make k ∷ ts) w b done filled_ones so_far order =
      let t = model_of s.metamodel w b in
      let u = model_after t (NewResource (uri_of r k)) in
      one-more t u (after_all u (changes r (done ++ k ∷ []) ts)) (command.CreateResource (uri_of r k)) (commands r texts (done ++ k ∷ []) ts) (makes w b done filled_ones so_far k order.0)
      (all-made ts u.values u.links (done ++ k ∷ []) filled_ones (made-so-far s legal steady saved w b done filled_ones so_far k order.0) order.1)
  all-made (Fill k ∷ ts) w b done filled_ones so_far order =
      let t = model_of s.metamodel w b in
      let u = model_after t (Load (number_of done k) (copied_document r k)) in
      one-more t u (after_all u (changes r done ts)) (command.Load (number_of done k) (texts k)) (commands r texts done ts) (fills w b done filled_ones so_far k order.0)
      (all-made ts u.values u.links done (filled_ones ++ k ∷ []) (filled-so-far s legal steady saved w b done filled_ones so_far k order.0) order.1)

---------------------------------------------------------------- resolves

module _ (s : Model) (legal : IsLegal s) (none : HasNoProxy (reading s)) where
  record AreDone (t : State) (cs : List (Command View)) : Type 0 where
    done : AllDone (run t cs).outcomes
    alike : Alike (reading s) (reads (run t cs).after)

  module _ (w : ValuesState) (b : Links) (other : IsLegal (model_of s.metamodel w b)) (between : Between (reading s) (reading (model_of s.metamodel w b))) (o : ObjectNo) (f : FeatureNo) (i : ℕ)
      (there : is_some (proxy_at (reading (model_of s.metamodel w b)) (at_end (node.Object o) f) i) ≡ true) where
    abbrev before : Model
    before = model_of s.metamodel w b

    one : IsResolvedBetween (reading s) before o f i
    one = resolves-between s w b legal other none between o f i there

    abbrev change : Change
    change = At (at_end (node.Object o) f) (Resolve i)

    then-legal : IsLegal (model_after before change)
    then-legal = now-legal (left-at s w b legal other none between o f i there)

    stepped : IsStep before (resolve o f i) (model_after before change)
    stepped = resolved before (at_end (node.Object o) f) i (record { early = one.early; late = one.late })

  -- a proxy of an object is resolved, and then the rest
  first-resolved : (n : Node) (f : FeatureNo) (i : ℕ) (cs : List (Command View))
      → ((w : ValuesState) (b : Links) → IsLegal (model_of s.metamodel w b) → Between (reading s) (reading (model_of s.metamodel w b)) → AreResolves (state_of_model (model_of s.metamodel w b)) cs → AreDone (state_of_model (model_of s.metamodel w b)) cs)
      → (w : ValuesState) (b : Links) → IsLegal (model_of s.metamodel w b) → Between (reading s) (reading (model_of s.metamodel w b)) → AreResolves (state_of_model (model_of s.metamodel w b)) (command.At (at_end n f) (Resolve i) ∷ cs) → AreDone (state_of_model (model_of s.metamodel w b)) (command.At (at_end n f) (Resolve i) ∷ cs)
  first-resolved (node.Object o) f i cs rest_of w b other between resolves =
      let u = model_after (model_of s.metamodel w b) (At (at_end (node.Object o) f) (Resolve i)) in
      let is = stepped w b other between o f i resolves.0 in
      let rest = rest_of u.values u.links (then-legal w b other between o f i resolves.0) (one w b other between o f i resolves.0).between (subst (λ (y : Stepped). AreResolves y.after cs) is resolves.1) in
      record {
        done = subst (λ (y : Stepped). AllDone (y.outcome ∷ (run y.after cs).outcomes)) (sym is) (tt, rest.done);
        alike = subst (λ (y : Stepped). Alike (reading s) (reads (run y.after cs).after)) (sym is) rest.alike;
      }
  first-resolved (node.Resource k) f i cs rest_of w b other between resolves = absurd (none-at-root (model_of s.metamodel w b) other k f i resolves.0)

  all-resolved : (cs : List (Command View)) (w : ValuesState) (b : Links) → IsLegal (model_of s.metamodel w b) → Between (reading s) (reading (model_of s.metamodel w b)) → AreResolves (state_of_model (model_of s.metamodel w b)) cs → AreDone (state_of_model (model_of s.metamodel w b)) cs
  all-resolved [] w b other between resolves = record { done = tt; alike = alike-of (reading s) (reading (model_of s.metamodel w b)) none resolves between }
  all-resolved (command.At e (Resolve i) ∷ cs) w b other between resolves = first-resolved e.node e.feature i cs (λ v c other between resolves. all-resolved cs v c other between resolves) w b other between resolves
  all-resolved (_ ∷ cs) w b other between resolves = absurd resolves

  -- resolves of a model are commands of this kind
  first-command : (n : Node) (f : FeatureNo) (i : ℕ) (cs : List Change)
      → ((w : ValuesState) (b : Links) → IsLegal (model_of s.metamodel w b) → Between (reading s) (reading (model_of s.metamodel w b)) → models.AreResolves (model_of s.metamodel w b) cs → (rs : List (Command View)) × AreResolves (state_of_model (model_of s.metamodel w b)) rs)
      → (w : ValuesState) (b : Links) → IsLegal (model_of s.metamodel w b) → Between (reading s) (reading (model_of s.metamodel w b)) → models.AreResolves (model_of s.metamodel w b) (At (at_end n f) (Resolve i) ∷ cs) → (rs : List (Command View)) × AreResolves (state_of_model (model_of s.metamodel w b)) rs
  first-command (node.Object o) f i cs rest_of w b other between resolves =
      let u = model_after (model_of s.metamodel w b) (At (at_end (node.Object o) f) (Resolve i)) in
      let is = stepped w b other between o f i resolves.0 in
      let rest = rest_of u.values u.links (then-legal w b other between o f i resolves.0) (one w b other between o f i resolves.0).between resolves.1 in
      (resolve o f i ∷ rest.0, (resolves.0, subst (λ (y : Stepped). AreResolves y.after rest.0) (sym is) rest.1))
  first-command (node.Resource k) f i cs rest_of w b other between resolves = absurd (none-at-root (model_of s.metamodel w b) other k f i resolves.0)

  as-commands : (cs : List Change) (w : ValuesState) (b : Links) → IsLegal (model_of s.metamodel w b) → Between (reading s) (reading (model_of s.metamodel w b)) → models.AreResolves (model_of s.metamodel w b) cs
      → (rs : List (Command View)) × AreResolves (state_of_model (model_of s.metamodel w b)) rs
  as-commands [] w b other between resolves = ([], resolves)
  as-commands (At e (Resolve i) ∷ cs) w b other between resolves = first-command e.node e.feature i cs (λ v c other between resolves. as-commands cs v c other between resolves) w b other between resolves
  as-commands (_ ∷ cs) w b other between resolves = absurd resolves

pub resolves-stay-between : (s : State) (w : ValuesState) (b : Links) → ResolvesBetween s w b
resolves-stay-between state w b legal other none between o f i there =
    let s = state.model in
    let is = stepped s legal.model none w b other.model between o f i there in
    let x = one s legal.model none w b other.model between o f i there in
    record {
      done = subst (λ (y : Stepped). IsDone y.outcome) (sym is) tt;
      between = subst (λ (y : Stepped). Between (reading s) (reads y.after)) (sym is) x.between;
      fewer = x.fewer ∙ sym (ap (λ (y : Stepped). (if is_some (shape s.metamodel f).opposite then 2 else 1) + proxies_len (reads y.after)) is);
    }

pub all-at-once : (s : State) (w : ValuesState) (b : Links) → ResolvesAll s w b
all-at-once s w b legal other none between =
    let x = resolves-all s.model w b legal.model other.model none between in
    record { done = x.left; none = x.none; alike = x.alike }

---------------------------------------------------------------- all of it

-- a state without adapters is as legal as its model
state_of_model-legal : (t : Model) → IsLegal t → legal_state.IsLegal (state_of_model t)
unfolding IsDistinct
state_of_model-legal t legal = record { model = legal; few = omega arith; distinct = tt; adapters = search rules }

module _ (state : State) (legal : legal_state.IsLegal state) (steady : HasSteadyTexts state.model) (saved : IsSaved (reads state)) (texts : ResourceNo → List ℕ) (are : AreTexts (reads state) texts)
    (ts : List Task) (order : IsOrder (reads state) [] [] ts) where
  abbrev s : Model
  s = state.model

  abbrev loaded : Model
  loaded = models.reloaded_model s ts

  abbrev over : Model
  over = model_of s.metamodel loaded.values loaded.links

  same : loaded ≡ over
  same = λ i. record { metamodel = same-metamodel (empty_model s.metamodel) (changes (reading s) [] ts) i; values = loaded.values; links = loaded.links }

  l : orders.AreLoads s ts
  l = loads-give-between s legal.model steady saved ts order

  other : IsLegal over
  other = subst IsLegal same l.legal

  between : Between (reading s) (reading over)
  between = subst (λ (x : Model). Between (reading s) (reading x)) same l.between

  ran : IsRunOf (empty_model s.metamodel) (commands (reading s) texts [] ts) loaded
  ran = all-made s legal.model steady saved texts are ts (record { objects = []; uris = [] }) no_links [] [] (at-first s legal.model steady saved) order

  now : reloaded_state state texts ts ≡ state_of_model over
  now = ran.after_them ∙ ap state_of_model same

  loads : AreLoads state texts ts
  loads = record {
    done = ran.done;
    legal = subst legal_state.IsLegal (sym now) (state_of_model-legal over other);
    between = subst (λ (y : State). Between (reading s) (reads y)) (sym now) between;
  }

  reloaded-so : IsReloaded state texts ts
  reloaded-so =
      let some = (reloads_of.reloads s legal.model steady saved ts order).some in
      record {
        loads = ran.done;
        all = subst (λ (y : State). IsAllResolved (reading s) y) (sym now) (all-at-once state loaded.values loaded.links legal (state_of_model-legal over other) saved.resolved between);
        some = subst (λ (y : State). (rs : List (Command View)) × AreResolves y rs) (sym now) (as-commands s legal.model saved.resolved some.0 loaded.values loaded.links other between (subst (λ (x : Model). models.AreResolves x some.0) same some.1));
        had = λ rs resolves.
            (let x = subst (λ (y : State). AreDone s legal.model saved.resolved y rs) (sym now) (all-resolved s legal.model saved.resolved rs loaded.values loaded.links other between (subst (λ (y : State). AreResolves y rs) now resolves)) in
            record { resolves = x.done; alike = x.alike });
      }

pub loads-between : (s : State) → LoadsGiveBetween s
loads-between s legal steady saved texts are ts order = loads s legal steady saved texts are ts order

pub reloads : (s : State) → ReloadsInAnyOrder s
reloads s legal steady saved texts are ts order = reloaded-so s legal steady saved texts are ts order

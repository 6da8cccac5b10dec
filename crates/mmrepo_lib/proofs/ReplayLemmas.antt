-- The ends of a node that exists before and after a command.
use Rattle.std.proofs.Common.{◌≡◌, ◌&&◌, ◌||◌, Bool, true, false, cond, IsTrue, List, [], ◌∷◌, map, Option, Some, None, option_map, refl, sym, ap, ◌∙◌}
use Rattle.std.specs.List.{list_any}
use Rattle.std.specs.Option.{option_map_or}
use Rattle.std.proofs.lemmas.Bool.{and_parts}
use Rattle.mm_types.specs.Ends.{Held}
use Rattle.mm_types.specs.Same.{same_end, same_node}
use Rattle.mm_types.specs.Shapes.{shape}
use Rattle.mm_types.proofs.SameLemmas.{same_node-true}
use Rattle.mm_types.specs.Resolved.{Metamodel}
use Rattle.mm_types.specs.declared.end.End.{End}
use Rattle.mm_types.specs.declared.numbers.FeatureNo.{FeatureNo}
use Rattle.mm_types.specs.declared.numbers.Node.{Node}
use Rattle.notice_chain.specs.Listed.{Above, Listed, brings_in, heard_of, hears}
use Rattle.notice_chain.specs.Replay.{end_after_notices, ends_after_notices, names, notices_naming}
use Rattle.notice_chain.specs.View.{View}
use Rattle.notice_chain.specs.declared.notice.Notice.{Notice}
use Rattle.notice_chain.specs.declared.target.Target.{Target}
use Rattle.notice_chain.proofs.ReplayLemmas.{ends_after_notices-at}
use Rattle.models.specs.Legal as models
use Rattle.models.specs.Model.{Model, reading}
use Rattle.models.specs.Reading.{Reading, all_features_of, at_end, held_at, is_within}
use Rattle.handshake.specs.FeatureChange.{has_flag}
use Rattle.handshake.specs.FeatureChanges as planned_chain
use Rattle.handshake.specs.declared.change.Change.{Change}
use Rattle.handshake.proofs.AllLemmas.{chain-replays}
use Rattle.repository.specs.Refusals.{chain, change_of, early_refusal, late_refusal}
use Rattle.mmrepo_lib.specs.Enough.{is_deep_of}
use Rattle.repository.specs.State.{State, is_there, reads}
use Rattle.repository.specs.Step.{model_after}
use Rattle.repository.specs.declared.command.Command.{Command}
use Rattle.mmrepo_lib.proofs.HeardLemmas.{AreOfNoFeature}
use Rattle.snapshots.specs.declared.snapshot.FeatureState.{FeatureState}
use Rattle.snapshots.specs.declared.snapshot.NodeState.{NodeState}
use Rattle.snapshots.specs.Snapshots.{class_at, feature_state, flag_of, node_state}
use Rattle.repository.proofs.AllowedLemmas.{IsAllowed, change-allowed}
use Rattle.repository.proofs.KeptNodeLemmas.{class-by, comes-by, features-by, goes-by, metamodel-by, model_by}
use Rattle.snapshots.proofs.NodeLemmas.{feature_after, feature_after-flag, feature_after-plain, filter-filter, node_after, node_after-features, same_values-each}

---------------------------------------------------------------- one end

-- replaying the chain of a change, if there is one, gives the values of an end after it
Replays : Model → Option Change → End → Type 0
Replays s o d = ends_after_notices (has_flag s.metamodel) (held_at (reading s)) (option_map_or (planned_chain.chain (reading s)) o []) d ≡ held_at (reading (model_by s o)) d

abbrev IsThere : Model → Node → Type 0
IsThere s n = IsTrue (is_there (reading s) n)

-- of a change that is allowed, if there is one
change-replays : (s : State) (o : Option Change) → models.IsLegal s.model → ((x : Change) → o ≡ Some x → IsAllowed s x)
    → (d : End) → IsThere s.model d.node → IsThere (model_by s.model o) d.node → Replays s.model o d
unfolding Replays
change-replays s None legal allowed d before later = refl
change-replays s (Some x) legal allowed d before later =
    let a = allowed x refl in
    chain-replays s.model x legal a.early a.late a.read d (goes-by s.model x d.node later) (comes-by s.model x d.node before)

pub command-replays : (s : State) (c : Command View) → models.IsLegal s.model → early_refusal (reads s) s.adapters c ≡ None → late_refusal (reads s) s.adapters c ≡ None
    → (d : End) → IsThere s.model d.node → IsThere (model_after s.model c) d.node
    → ends_after_notices (has_flag s.model.metamodel) (held_at (reads s)) (chain (reads s) c) d ≡ held_at (reading (model_after s.model c)) d
unfolding Replays
command-replays s c legal early late d before later = change-replays s (change_of (reads s) c) legal (λ x is. change-allowed s c x is early late) d before later

---------------------------------------------------------------- its notifications

deep-brings : (up : Above) (target x : Node) (ts : List Target) → list_any (λ t. t.deep && same_node t.node target) ts ≡ true → (same_node target x || list_any (same_node target) (up x)) ≡ true → list_any (brings_in up x) ts ≡ true
deep-brings up target x [] deep within = deep
deep-brings up target x (t ∷ ts) deep within =
    elim (t.deep && same_node t.node target) as (λ b. (t.deep && same_node t.node target) ≡ b → (b || list_any (λ q. q.deep && same_node q.node target) ts) ≡ true → (brings_in up x t || list_any (brings_in up x) ts) ≡ true) [
      | true ↦ λ here _.
          let parts = and_parts t.deep (same_node t.node target) here in
          let brings : brings_in up x t ≡ true = ap (λ d. same_node t.node x || (d && list_any (same_node t.node) (up x))) parts.0 ∙ ap (λ (n : Node). same_node n x || list_any (same_node n) (up x)) (same_node-true t.node target parts.1) ∙ within in
          ap (λ b. b || list_any (brings_in up x) ts) brings
      | false ↦ λ _ later. ap (λ b. brings_in up x t || b) (deep-brings up target x ts later within) ∙ last (brings_in up x t)
    ] refl deep
  where
    last : (b : Bool) → (b || true) ≡ true
    last true = refl
    last false = refl

-- an adapter with a deep target that is above a node, or is the node, gets each notification that names an end of the node
hears-named : (r : Reading) (a : Listed) (target : Node) (d : End) → is_deep_of target a ≡ true → is_within r target d.node ≡ true → (x : Notice) → names d x ≡ true → hears r.above a x ≡ true
hears-named r a target d deep within x named =
    let at : x.notifier ≡ d.node = by x.feature named in
    deep-brings r.above target x.notifier a.targets deep (ap (λ (n : Node). same_node target n || list_any (same_node target) (r.above n)) at ∙ within)
  where
    by : (f : Option FeatureNo) → option_map_or (λ y. same_end y d) (option_map (λ g. let e : End = record { node = x.notifier; feature = g } in e) f) false ≡ true → x.notifier ≡ d.node
    by None h = absurd (cc)
    by (Some g) h = same_node-true x.notifier d.node (and_parts _ _ h).0

pub heard-notices_naming : (r : Reading) (a : Listed) (target : Node) (ns : List Notice) (d : End) → is_deep_of target a ≡ true → is_within r target d.node ≡ true → notices_naming d (heard_of r.above ns a) ≡ notices_naming d ns
heard-notices_naming r a target ns d deep within = filter-filter (names d) (λ n. hears r.above a n) ns (hears-named r a target d deep within)

-- a notification of no feature names no end
unnamed : (d : End) (ns : List Notice) → AreOfNoFeature ns → notices_naming d ns ≡ []
unnamed d [] h = refl
unnamed d (n ∷ ns) h = ap (λ (o : Option FeatureNo). cond (option_map_or (λ y. same_end y d) (option_map (λ g. let e : End = record { node = n.notifier; feature = g } in e) o) false) (n ∷ notices_naming d ns) (notices_naming d ns)) h.0 ∙ unnamed d ns h.1

---------------------------------------------------------------- one node

abbrev state_of : FeatureNo → Bool → Held → FeatureState
state_of f u h = record { feature = f; values = h.values; flag = flag_of u h.flag }

feature-step : (at : Node) (ns : List Notice) (f : FeatureNo) (u : Bool) (g h : Held) → end_after_notices u (notices_naming (at_end at f) ns) g ≡ h → feature_after at ns (state_of f u g) ≡ state_of f u h
feature-step at ns f true g h e = feature_after-flag at ns f g.values g.flag ∙ ap (state_of f true) e
feature-step at ns f false g h e =
    feature_after-plain at ns f g.values
    ∙ ap (λ vs. let y : FeatureState = record { feature = f; values = vs; flag = None } in y) (same_values-each false (notices_naming (at_end at f) ns) (record { values = g.values; flag = false }) g refl ∙ ap (λ (x : Held). x.values) e)

map-step : (g : FeatureState → FeatureState) (a b : FeatureNo → FeatureState) (fs : List FeatureNo) → ((f : FeatureNo) → g (a f) ≡ b f) → map g (map a fs) ≡ map b fs
map-step g a b [] h = refl
map-step g a b (f ∷ fs) h = λ i. h f i ∷ map-step g a b fs h i

-- if a node exists before and after a command, replaying the notifications of the command on its state before gives its state after
pub node-step : (s : State) (c : Command View) (a : Listed) (target n : Node) → models.IsLegal s.model → early_refusal (reads s) s.adapters c ≡ None → late_refusal (reads s) s.adapters c ≡ None
    → is_deep_of target a ≡ true → is_within (reads s) target n ≡ true → IsThere s.model n → IsThere (model_after s.model c) n
    → node_after (heard_of (reads s).above (chain (reads s) c) a) (node_state (reads s) n) ≡ node_state (reading (model_after s.model c)) n
node-step s c a target n legal early late deep within before later =
    let r = reads s in
    let o = change_of r c in
    let t = model_after s.model c in
    let m = s.model.metamodel in
    let ns = chain r c in
    let hs = heard_of r.above ns a in
    let ends : (f : FeatureNo) → feature_after n hs (feature_state r n f) ≡ feature_state (reading t) n f =
    λ (f : FeatureNo).
    let d = at_end n f in
    let all : end_after_notices (has_flag m f) (notices_naming d ns) (held_at r d) ≡ held_at (reading t) d = sym (ends_after_notices-at (has_flag m) (held_at r) ns d) ∙ command-replays s c legal early late d before later in
    let heard : end_after_notices (has_flag m f) (notices_naming d hs) (held_at r d) ≡ held_at (reading t) d = ap (λ xs. end_after_notices (has_flag m f) xs (held_at r d)) (heard-notices_naming r a target ns d deep within) ∙ all in
    feature-step n hs f (has_flag m f) (held_at r d) (held_at (reading t) d) heard
    ∙ ap (λ (q : Metamodel). state_of f (shape q f).is_unsettable (held_at (reading t) d)) (sym (metamodel-by s.model o)) in
    let features : map (feature_after n hs) (map (feature_state r n) (all_features_of r n)) ≡ map (feature_state (reading t) n) (all_features_of (reading t) n) =
    map-step (feature_after n hs) (feature_state r n) (feature_state (reading t) n) (all_features_of r n) ends
    ∙ ap (map (feature_state (reading t) n)) (sym (features-by s.model o n before later)) in
    let class = sym (class-by s.model o n before later) in
    node_after-features hs (node_state r n)
    ∙ (λ i. let y : NodeState = record { node = n; class = class i; features = features i } in y)

-- notifications without a feature do not change this state
pub node-same : (r : Reading) (n : Node) (ns : List Notice) → AreOfNoFeature ns → node_after ns (node_state r n) ≡ node_state r n
node-same r n ns none =
    let ends : (f : FeatureNo) → feature_after n ns (feature_state r n f) ≡ feature_state r n f =
    λ (f : FeatureNo).
    let d = at_end n f in
    feature-step n ns f (shape r.metamodel f).is_unsettable (held_at r d) (held_at r d) (ap (λ xs. end_after_notices (shape r.metamodel f).is_unsettable xs (held_at r d)) (unnamed d ns none)) in
    node_after-features ns (node_state r n)
    ∙ ap (λ (fs : List FeatureState). let y : NodeState = record { node = n; class = class_at r n; features = fs } in y) (map-step (feature_after n ns) (feature_state r n) (feature_state r n) (all_features_of r n) ends)

-- Notifications are enough, command by command.
use Rattle.std.proofs.Common.{◌≡◌, true, false, IsTrue, List, [], ◌∷◌, ◌++◌, drop, length, Option, Some, None, is_some, option_map, refl, sym, ap, ◌∙◌, subst}
use Rattle.std.specs.Option.{option_map_or}
use Rattle.std.proofs.lemmas.List.{append-nil}
use Rattle.std.proofs.lemmas.Option.{none-some, same_Some}
use Rattle.mm_types.specs.declared.numbers.AdapterNo.{AdapterNo}
use Rattle.mm_types.specs.declared.numbers.Node.{Node}
use Rattle.mm_types.specs.declared.refused.Refused.{Refused}
use Rattle.notice_chain.specs.Listed.{Listed, adapter, heard_of, tell_chain}
use Rattle.notice_chain.specs.Released.{is_any, released_adapters, spots}
use Rattle.notice_chain.specs.View.{View, hear_all}
use Rattle.notice_chain.specs.declared.notice.Notice.{Notice}
use Rattle.notice_chain.proofs.ViewLemmas.{hear_all-append, kept-hear_all_unbounded}
use Rattle.models.specs.Model.{Model, reading}
use Rattle.models.specs.Reading.{held_at, is_within}
use Rattle.handshake.proofs.KnownLemmas.{none-else_by}
use Rattle.mmrepo_lib.specs.Enough.{AllAlong, AreEnough, ChainReplays, ClosedKeepsEnough, DetachedKeepsEnough, HasDeepTarget, HasEachNode, IsAtOrBelow, KeepsEnough, NoticesAreEnough, ToldIsEnough, is_deep_of}
use Rattle.mmrepo_lib.specs.Heard.{handed_out, handed_out_by, told_by, told_by_all, told_to}
use Rattle.repository.specs.Refusals.{chain}
use Rattle.repository.specs.Run.{run}
use Rattle.repository.specs.State.{State, IsLegal, is_there, reads}
use Rattle.repository.specs.Step.{adapters_after, going_spots, model_after, refusal_of, releases, step, step_unless}
use Rattle.repository.specs.declared.command.Command.{Command}
use Rattle.repository.specs.declared.command.Command.TheVariants.{Detach}
use Rattle.mmrepo_lib.proofs.HeardLemmas.{AreOfNoFeature, handed-heard, handed-out-view, no-feature-released_adapters, stays-told, told-parts, told_to-append}
use Rattle.repository.proofs.LegalLemmas.{step-legal}
use Rattle.mmrepo_lib.proofs.ReplayLemmas.{command-replays, node-same, node-step}
use Rattle.mmrepo_lib.proofs.ThereLemmas.{target-there, within-there}
use Rattle.snapshots.specs.Replayed.{replayed_notices, state_at}
use Rattle.snapshots.specs.Snapshots.{node_state, snapshot_of}
use Rattle.snapshots.specs.declared.snapshot.NodeState.{NodeState}
use Rattle.snapshots.proofs.EachLemmas.{state_at-snapshot}
use Rattle.snapshots.proofs.NodeLemmas.{node_after, state_at-notices}

-- the notifications of a command that succeeds replay its result
pub chain-replays-ends : (s : State) (c : Command View) → ChainReplays s c
chain-replays-ends s c legal none d before later =
    let first = none-else_by _ _ none in
    let second = none-else_by _ _ first.1 in
    let is = ap (λ (r : Option Refused). (step_unless s c r).after.model) none in
    command-replays s c legal.model first.0 second.0 d before (subst (λ (m : Model). IsTrue (is_there (reading m) d.node)) is later) ∙ ap (λ (m : Model). held_at (reading m) d) (sym is)

---------------------------------------------------------------- one command, and a list of them

-- a node exists, and is a given node or below it
abbrev is_there_below : Node → Node → State → Type 0
is_there_below target n s = IsTrue (is_there (reads s) n) × (is_within (reads s) target n ≡ true)

-- since the adapter of a number had a view, it got these notifications, and replaying them on the former state of a node gives its present
-- state
record Heard (s : State) (v : View) (number : AdapterNo) (n : Node) (t : State) (heard : List Notice) : Type 0 where
  b : Listed
  attached : adapter number t.adapters ≡ Some b
  view : b.view ≡ hear_all v heard
  same : node_after heard (node_state (reads s) n) ≡ node_state (reads t) n

node_after-append : (ns ms : List Notice) (x : NodeState) → node_after (ns ++ ms) x ≡ node_after ms (node_after ns x)
node_after-append [] ms x = refl
node_after-append (n ∷ ns) ms x = node_after-append ns ms _

deep-attached : (target : Node) (o : Option Listed) → IsTrue (option_map_or (is_deep_of target) o false) → IsTrue (is_some o)
deep-attached target None h = h
deep-attached target (Some a) h = refl

one-command : (s : State) (c : Command View) (number : AdapterNo) (target : Node) (a : Listed) (n : Node) → IsLegal s → adapter number s.adapters ≡ Some a → is_deep_of target a ≡ true
    → is_there_below target n s → HasDeepTarget number target (step s c).after → is_there_below target n (step s c).after → Heard s a.view number n (step s c).after (told_to number (told_by (step s c).outcome))
one-command s c number target a n legal some deep before after later =
    elim (refusal_of s c) as (λ r. refusal_of s c ≡ r → HasDeepTarget number target (step_unless s c r).after → IsTrue (is_there (reads (step_unless s c r).after) n) → Heard s a.view number n (step_unless s c r).after (told_to number (told_by (step_unless s c r).outcome))) [
      | Some r ↦ λ e att there. record { b = a; attached = some; view = refl; same = refl }
      | None ↦ λ e att there.
          let first = none-else_by _ _ e in
          let second = none-else_by _ _ first.1 in
          let r = reads s in
          let stays = stays-told r s.adapters c number a legal.distinct some (deep-attached target (adapter number (adapters_after r s.adapters c)) att) in
          let heard = heard_of r.above (chain r c) a in
          record {
            b = stays.b;
            attached = stays.attached;
            view = stays.view;
            same = ap (λ (ns : List Notice). node_after ns (node_state r n)) stays.told
                ∙ node_after-append heard stays.more (node_state r n)
                ∙ ap (node_after stays.more) (node-step s c a target n legal.model first.0 second.0 deep before.1 before.0 there)
                ∙ node-same (reading (model_after s.model c)) n stays.more stays.passed;
          }
    ] refl after later.0

first-along : (P : State → Type 0) (s : State) (cs : List (Command View)) → AllAlong P s cs → P s
first-along P s [] h = h
first-along P s (c ∷ cs) h = h.0

deep-of : (target : Node) (a : Listed) (o : Option Listed) → o ≡ Some a → IsTrue (option_map_or (is_deep_of target) o false) → is_deep_of target a ≡ true
deep-of target a o is h = sym (ap (λ (q : Option Listed). option_map_or (is_deep_of target) q false) is) ∙ h

many-commands : (cs : List (Command View)) (s : State) (number : AdapterNo) (target : Node) (a : Listed) (n : Node) → IsLegal s → adapter number s.adapters ≡ Some a
    → AllAlong (HasDeepTarget number target) s cs → AllAlong (is_there_below target n) s cs → Heard s a.view number n (run s cs).after (told_to number (told_by_all (run s cs).outcomes))
many-commands [] s number target a n legal some deep below = record { b = a; attached = some; view = refl; same = refl }
many-commands (c ∷ cs) s number target a n legal some deep below =
    let t = (step s c).after in
    let one = one-command s c number target a n legal some (deep-of target a (adapter number s.adapters) some deep.0) below.0 (first-along (HasDeepTarget number target) t cs deep.1) (first-along (is_there_below target n) t cs below.1) in
    let rest = many-commands cs t number target one.b n (step-legal s c legal) one.attached deep.1 below.1 in
    let first = told_to number (told_by (step s c).outcome) in
    let later = told_to number (told_by_all (run t cs).outcomes) in
    let both : told_to number (told_by_all (run s (c ∷ cs)).outcomes) ≡ first ++ later = told_to-append number (told_by (step s c).outcome) (told_by_all (run t cs).outcomes) in
    record {
      b = rest.b;
      attached = rest.attached;
      view = rest.view ∙ ap (λ v. hear_all v later) one.view ∙ sym (hear_all-append a.view first later) ∙ ap (hear_all a.view) (sym both);
      same = ap (λ (ns : List Notice). node_after ns (node_state (reads s) n)) both ∙ node_after-append first later (node_state (reads s) n) ∙ ap (node_after later) one.same ∙ rest.same;
    }

---------------------------------------------------------------- in a legal state a node below a target is there

found-of : (o : Option Listed) → IsTrue (is_some o) → (a : Listed) × (o ≡ Some a)
found-of None h = absurd (let no : false ≡ true = h in cc)
found-of (Some a) h = (a, refl)

there-now : (s : State) (number : AdapterNo) (target n : Node) → IsLegal s → HasDeepTarget number target s → IsAtOrBelow target n s → is_there_below target n s
there-now s number target n legal deep below =
    let found = found-of (adapter number s.adapters) (deep-attached target (adapter number s.adapters) deep) in
    let there = target-there s number target found.0 legal found.1 (deep-of target found.0 (adapter number s.adapters) found.1 deep) in
    (within-there s.model legal.model target n there below, below)

there-along : (cs : List (Command View)) (s : State) (number : AdapterNo) (target n : Node) → IsLegal s → AllAlong (HasDeepTarget number target) s cs → AllAlong (IsAtOrBelow target n) s cs → AllAlong (is_there_below target n) s cs
there-along [] s number target n legal deep below = there-now s number target n legal deep below
there-along (c ∷ cs) s number target n legal deep below = (there-now s number target n legal deep.0 below.0, there-along cs (step s c).after number target n (step-legal s c legal) deep.1 below.1)

---------------------------------------------------------------- the law

drop-length : (xs ys : List Notice) → drop (length xs) (xs ++ ys) ≡ ys
drop-length [] ys = refl
drop-length (x ∷ xs) ys = drop-length xs ys

last-along : (P : State → Type 0) (s : State) (cs : List (Command View)) → AllAlong P s cs → P (run s cs).after
last-along P s [] h = h
last-along P s (c ∷ cs) h = last-along P (step s c).after cs h.1

-- the notifications, and then some without a feature, replay the commands
module _ (s : State) (cs : List (Command View)) (number : AdapterNo) (target : Node) (a : Listed) (n : Node) (legal : IsLegal s) (some : adapter number s.adapters ≡ Some a)
    (deep : AllAlong (HasDeepTarget number target) s cs) (below : AllAlong (IsAtOrBelow target n) s cs) where
  abbrev told : List Notice
  told = told_to number (told_by_all (run s cs).outcomes)

  there : AllAlong (is_there_below target n) s cs
  there = there-along cs s number target n legal deep below

  all : Heard s a.view number n (run s cs).after told
  all = many-commands cs s number target a n legal some deep there

  replays : (more : List Notice) → AreOfNoFeature more → AreEnough s cs target n (told ++ more)
  replays more none =
      let t = (run s cs).after in
      let first = first-along (is_there_below target n) s cs there in
      let last = last-along (is_there_below target n) s cs there in
      state_at-notices n (told ++ more) (snapshot_of (reads s) target)
      ∙ ap (option_map (node_after (told ++ more))) (state_at-snapshot s.model target n first.0 first.1)
      ∙ ap Some (node_after-append told more (node_state (reads s) n) ∙ ap (node_after more) all.same ∙ node-same (reads t) n more none)
      ∙ sym (state_at-snapshot t.model target n last.0 last.1)

  -- the same holds for the notifications that a view has kept after it got both
  kept-since : (w : View) (more : List Notice) → AreOfNoFeature more → w ≡ hear_all a.view (told ++ more) → KeepsEnough s cs target n a.view w
  kept-since w more none is unbounded =
      let kept : w.kept ≡ a.view.kept ++ (told ++ more) = ap (λ (v : View). v.kept) is ∙ kept-hear_all_unbounded a.view (told ++ more) unbounded in
      subst (AreEnough s cs target n) (sym (ap (drop (length a.view.kept)) kept ∙ drop-length a.view.kept (told ++ more))) (replays more none)

  legal-after : IsLegal (run s cs).after
  legal-after = run-legal cs s legal
    where
      run-legal : (ds : List (Command View)) (u : State) → IsLegal u → IsLegal (run u ds).after
      run-legal [] u h = h
      run-legal (d ∷ ds) u h = run-legal ds (step u d).after (step-legal u d h)

pub told-enough : (s : State) (cs : List (Command View)) (number : AdapterNo) (target : Node) (a : Listed) (n : Node) → ToldIsEnough s cs number target a n
told-enough s cs number target a n legal some deep below =
    subst (AreEnough s cs target n) (append-nil (told_to number (told_by_all (run s cs).outcomes))) (replays s cs number target a n legal some deep below [] tt)

pub notices-enough : (s : State) (cs : List (Command View)) (number : AdapterNo) (target : Node) (a b : Listed) (n : Node) → NoticesAreEnough s cs number target a b n
notices-enough s cs number target a b n legal some deep below found unbounded =
    let h = all s cs number target a n legal some deep below in
    let is : b ≡ h.b = same_Some b h.b (sym found ∙ h.attached) in
    kept-since s cs number target a n legal some deep below b.view [] tt
    (ap (λ (x : Listed). x.view) is ∙ h.view ∙ ap (hear_all a.view) (sym (append-nil (told_to number (told_by_all (run s cs).outcomes))))) unbounded

pub detached-enough : (s : State) (cs : List (Command View)) (number : AdapterNo) (target : Node) (a : Listed) (w : View) (n : Node) → DetachedKeepsEnough s cs number target a w n
detached-enough s cs number target a w n legal some deep below out unbounded =
    let h = all s cs number target a n legal some deep below in
    let t = (run s cs).after in
    let c = Detach number in
    let r = reads t in
    elim (refusal_of t c) as (λ q. handed_out number (handed_out_by (step_unless t c q).outcome) ≡ Some w → AreEnough s cs target n (drop (length a.view.kept) w.kept)) [
      | Some q ↦ λ o. absurd (none-some w o)
      | None ↦ λ o.
          let lost = told_to number (releases r t.adapters c).told in
          kept-since s cs number target a n legal some deep below w lost
          (no-feature-released_adapters (going_spots r t.adapters c) (tell_chain r.above (chain r c) t.adapters) number)
          (handed-heard r t.adapters c number h.b (legal-after s cs number target a n legal some deep below).distinct h.attached w o
          ∙ ap (hear_all h.b.view) (told-parts r t.adapters c number h.b (legal-after s cs number target a n legal some deep below).distinct h.attached)
          ∙ ap (λ (v : View). hear_all v lost) h.view ∙ sym (hear_all-append a.view (told_to number (told_by_all (run s cs).outcomes)) lost)) unbounded
    ] out

pub closed-enough : (s : State) (cs : List (Command View)) (number : AdapterNo) (target : Node) (a : Listed) (w : View) (n : Node) → ClosedKeepsEnough s cs number target a w n
closed-enough s cs number target a w n legal some deep below out unbounded =
    let h = all s cs number target a n legal some deep below in
    let rs = (run s cs).after.adapters in
    let lost = told_to number (released_adapters (spots is_any rs) rs).told in
    kept-since s cs number target a n legal some deep below w lost (no-feature-released_adapters (spots is_any rs) rs number)
    (handed-out-view (spots is_any rs) rs number h.b w (legal-after s cs number target a n legal some deep below).distinct h.attached out
    ∙ ap (λ (v : View). hear_all v lost) h.view ∙ sym (hear_all-append a.view (told_to number (told_by_all (run s cs).outcomes)) lost)) unbounded

pub has-each : (s : Model) (target n : Node) → HasEachNode s target n
has-each s target n legal there within = state_at-snapshot s target n (within-there s legal target n there within) within

-- Reloading in any order: the resources of a state are made in a new repository and their texts loaded, and then proxies are resolved, one
-- after another or all at once.
use Rattle.std.specs.Prelude.{◌≡◌, ℕ, ◌+◌, true, List, [], ◌∷◌, ◌++◌, is_some, Ok, Err, if◌then◌else◌}
use Rattle.std.specs.List.{AllByRecursion}
use Rattle.std.specs.Str.{is_utf8}
use Rattle.mm_types.specs.Shapes.{shape}
use Rattle.mm_types.specs.declared.numbers.FeatureNo.{FeatureNo}
use Rattle.mm_types.specs.declared.numbers.Node.TheVariants as node
use Rattle.mm_types.specs.declared.numbers.ObjectNo.{ObjectNo}
use Rattle.mm_types.specs.declared.numbers.ResourceNo.{ResourceNo}
use Rattle.mm_values.specs.Values.{ValuesState}
use Rattle.links.specs.Links.{Links}
use Rattle.models.specs.Model.{Model, model_of}
use Rattle.models.specs.Reading.{Reading, at_end, has_resource}
use Rattle.models.specs.Steady.{HasSteadyTexts}
use Rattle.notice_chain.specs.View.{View}
use Rattle.doc_writer.specs.Saved.{IsReadAs}
use Rattle.proxies.specs.Resolving.{proxy_at}
use Rattle.reloading.specs.Alike.{Alike}
use Rattle.reloading.specs.Between.{Between}
use Rattle.reloading.specs.Orders.{Fill, IsOrder, IsSaved, Make, Task, number_of, uri_of}
use Rattle.reloading.specs.Proxies.{HasNoProxy, proxies_len}
use Rattle.repository.specs.Run.{run}
use Rattle.repository.specs.State.{State, IsLegal, state_of_model, empty_state, reads}
use Rattle.repository.specs.Step.{step}
use Rattle.repository.specs.Views.{Outcome}
use Rattle.repository.specs.declared.command.Command.{Command}
use Rattle.handshake.specs.declared.act.Act.TheVariants.{Resolve}
use Rattle.repository.specs.Commands.{resolve}
use Rattle.repository.specs.declared.command.Command.TheVariants as command
use Rattle.repository.specs.declared.reply.Answer.{Answer}
use Rattle.repository.specs.declared.reply.Answer.TheVariants as answer

-- the commands that do a list of tasks: r is the saved state, `texts` has the text of each resource of r, and `made` lists the resources of
-- r that were already made anew, in order
abbrev pub commands : Reading → (ResourceNo → List ℕ) → List ResourceNo → List Task → List (Command View)
commands r texts made [] = []
commands r texts made (Make k ∷ ts) = command.CreateResource (uri_of r k) ∷ commands r texts (made ++ k ∷ []) ts
commands r texts made (Fill k ∷ ts) = command.Load (number_of made k) (texts k) ∷ commands r texts made ts

-- each resource was saved as its text in `texts`: the text is read as the document of the resource (`IsReadAs`), and is UTF-8
pub record AreTexts (r : Reading) (texts : ResourceNo → List ℕ) : Type 0 where
  pub reads : (k : ResourceNo) → has_resource r k ≡ true → IsReadAs r k (texts k)
  pub utf8 : (k : ResourceNo) → has_resource r k ≡ true → is_utf8 (texts k) ≡ true

-- each command resolves a proxy of the state that the commands before it leave, and no proxy is left after the last command
abbrev pub AreResolves : State → List (Command View) → Type 0
AreResolves t [] = HasNoProxy (reads t)
AreResolves t (command.At e (Resolve i) ∷ cs) = (is_some (proxy_at (reads t) e i) ≡ true) × AreResolves (step t (command.At e (Resolve i))).after cs
AreResolves t (c ∷ cs) = ⊥

-- an outcome is no refusal
abbrev pub IsDone : Outcome → Type 0
IsDone (Ok r) = Unit {0}
IsDone (Err f) = ⊥

abbrev pub AllDone : List Outcome → Type 0
AllDone os = AllByRecursion IsDone os

---------------------------------------------------------------- loads

-- the state after a list of tasks, which are done in a new repository over the metamodel of s
abbrev pub reloaded_state : State → (ResourceNo → List ℕ) → List Task → State
reloaded_state s texts ts = (run (empty_state s.model.metamodel) (commands (reads s) texts [] ts)).after

-- the commands of the tasks are not refused; the state that they leave is legal, and a partly resolved copy of the saved state s
pub record AreLoads (s : State) (texts : ResourceNo → List ℕ) (ts : List Task) : Type 0 where
  pub done : AllDone (run (empty_state s.model.metamodel) (commands (reads s) texts [] ts)).outcomes
  pub legal : IsLegal (reloaded_state s texts ts)
  pub between : Between (reads s) (reads (reloaded_state s texts ts))

-- P is true of a state s, texts and tasks, if these conditions apply: s is legal and has normalised URIs and no proxies; each resource of s
-- can be saved, and no text of a reference is too long; the resources were saved as the texts; and the tasks make each resource once, and
-- fill each resource once after it is made
abbrev pub OfSaved : ((s : State) → (ResourceNo → List ℕ) → List Task → Type 0) → State → Type 0
OfSaved P s =
    IsLegal s → HasSteadyTexts s.model → IsSaved (reads s) → (texts : ResourceNo → List ℕ) → AreTexts (reads s) texts → (ts : List Task) → IsOrder (reads s) [] [] ts → P s texts ts

-- `AreLoads` is true under the conditions of `OfSaved`
abbrev pub LoadsGiveBetween : State → Type 0
LoadsGiveBetween = OfSaved AreLoads

---------------------------------------------------------------- resolves

-- the resolve of a proxy in the state t is not refused; the state after the resolve is a partly resolved copy of the saved state r, and has
-- one proxy fewer than t, or two fewer if the reference of the proxy has an opposite
pub record IsResolvedBetween (r : Reading) (t : State) (o : ObjectNo) (f : FeatureNo) (i : ℕ) : Type 0 where
  pub done : IsDone (step t (resolve o f i)).outcome
  pub between : Between r (reads (step t (resolve o f i)).after)
  pub fewer : proxies_len (reads t) ≡ (if is_some (shape t.model.metamodel f).opposite then 2 else 1) + proxies_len (reads (step t (resolve o f i)).after)

-- the answer says that n proxies are left
abbrev pub CountsLeft : Answer → ℕ → Type 0
CountsLeft (answer.Resolved done left) n = left ≡ n
CountsLeft _ n = ⊥

abbrev pub LeavesProxies : Outcome → ℕ → Type 0
LeavesProxies (Ok r) n = CountsLeft r.answer n
LeavesProxies (Err f) n = ⊥

-- the resolve of all proxies is not refused; no proxy is left, and the answer says so; the state after the resolve is isomorphic to the
-- saved state
pub record IsAllResolved (r : Reading) (t : State) : Type 0 where
  pub done : LeavesProxies (step t command.ResolveAll).outcome 0
  pub none : HasNoProxy (reads (step t command.ResolveAll).after)
  pub alike : Alike r (reads (step t command.ResolveAll).after)

-- P is true of the states s and t, if both are legal, s has no proxies, and t is a partly resolved copy of s. t has no adapters; it has the
-- metamodel of s, the links b, and what w has: the objects with their attribute values and set flags, and the URIs.
abbrev pub OfBetween : (Reading → State → Type 0) → State → ValuesState → Links → Type 0
OfBetween P s w b =
    let t = state_of_model (model_of s.model.metamodel w b) in
    IsLegal s → IsLegal t → HasNoProxy (reads s) → Between (reads s) (reads t) → P (reads s) t

abbrev pub ResolvesBetween : State → ValuesState → Links → Type 0
ResolvesBetween s w b =
    OfBetween (λ r t. (o : ObjectNo) (f : FeatureNo) (i : ℕ) → is_some (proxy_at (reads t) (at_end (node.Object o) f) i) ≡ true → IsResolvedBetween r t o f i) s w b

abbrev pub ResolvesAll : State → ValuesState → Links → Type 0
ResolvesAll s w b = OfBetween IsAllResolved s w b

---------------------------------------------------------------- all of it

-- the resolves are not refused, and the state that they leave is isomorphic to the saved one
pub record IsHadAgain (s : State) (texts : ResourceNo → List ℕ) (ts : List Task) (rs : List (Command View)) : Type 0 where
  pub resolves : AllDone (run (reloaded_state s texts ts) rs).outcomes
  pub alike : Alike (reads s) (reads (run (reloaded_state s texts ts) rs).after)

-- The commands of the tasks are not refused. The resolve of all proxies at once then gives a state that is isomorphic to the saved one.
-- There is a list of single resolves that leaves no proxy. If a list of single resolves leaves no proxy, none of these resolves is refused,
-- and the state after them is isomorphic to the saved one.
pub record IsReloaded (s : State) (texts : ResourceNo → List ℕ) (ts : List Task) : Type 0 where
  pub loads : AllDone (run (empty_state s.model.metamodel) (commands (reads s) texts [] ts)).outcomes
  pub all : IsAllResolved (reads s) (reloaded_state s texts ts)
  pub some : (rs : List (Command View)) × AreResolves (reloaded_state s texts ts) rs
  pub had : (rs : List (Command View)) → AreResolves (reloaded_state s texts ts) rs → IsHadAgain s texts ts rs

abbrev pub ReloadsInAnyOrder : State → Type 0
ReloadsInAnyOrder = OfSaved IsReloaded

-- What was saved comes back: load all that was saved, in any order, and then resolve proxies until none is left.
use Rattle.std.specs.Prelude.{◌≡◌, true, List, [], ◌∷◌, is_some}
use Rattle.mm_types.specs.declared.numbers.Node.TheVariants as node
use Rattle.models.specs.Legal.{IsLegal}
use Rattle.models.specs.Model.{Model, empty_model, reading}
use Rattle.models.specs.Reading.{at_end}
use Rattle.models.specs.Steady.{HasSteadyTexts}
use Rattle.handshake.specs.Effects.{model_after}
use Rattle.proxies.specs.Resolving.{proxy_at}
use Rattle.handshake.specs.declared.change.Change.{Change}
use Rattle.handshake.specs.declared.change.Change.TheVariants.{At}
use Rattle.handshake.specs.declared.act.Act.TheVariants.{Resolve}
use Rattle.reloading.specs.Alike.{Alike}
use Rattle.reloading.specs.Laws.{IsAllResolved}
use Rattle.reloading.specs.Orders.{AreAllowed, IsOrder, IsSaved, Task, after_all, changes}
use Rattle.reloading.specs.Proxies.{HasNoProxy}

-- each change resolves a proxy of the model as it is after the changes before it, and no proxy is left after the last change
abbrev pub AreResolves : Model → List Change → Type 0
AreResolves t [] = HasNoProxy (reading t)
AreResolves t (At e (Resolve i) ∷ cs) = (is_some (proxy_at (reading t) e i) ≡ true) × AreResolves (model_after t (At e (Resolve i))) cs
AreResolves t (c ∷ cs) = ⊥

-- the model that the tasks ts leave: they make the resources of s in an empty model, and load their documents
abbrev pub reloaded_model : Model → List Task → Model
reloaded_model s ts = after_all (empty_model s.metamodel) (changes (reading s) [] ts)

-- neither the tasks ts nor the resolves cs are refused, and the model after them is isomorphic to s
pub record IsHadAgain (s : Model) (ts : List Task) (cs : List Change) : Type 0 where
  pub loads : AreAllowed (empty_model s.metamodel) (changes (reading s) [] ts)
  pub resolves : AreAllowed (reloaded_model s ts) cs
  pub alike : Alike (reading s) (reading (after_all (reloaded_model s ts) cs))

-- in the model after the tasks ts: there is a list of resolves that leaves no proxy; each list of resolves that leaves no proxy is not
-- refused, and gives a model isomorphic to s; one resolve of all proxies leaves no proxy, and gives a model isomorphic to s too
pub record IsReloaded (s : Model) (ts : List Task) : Type 0 where
  pub some : (cs : List Change) × AreResolves (reloaded_model s ts) cs
  pub had : (cs : List Change) → AreResolves (reloaded_model s ts) cs → IsHadAgain s ts cs
  pub all : IsAllResolved (reading s) (reloaded_model s ts)

abbrev pub ReloadsInAnyOrder : Model → Type 0
ReloadsInAnyOrder s = IsLegal s → HasSteadyTexts s → IsSaved (reading s) → (ts : List Task) → IsOrder (reading s) [] [] ts → IsReloaded s ts

use Rattle.std.proofs.Common.{Some, ap, ◌≡◌, ◌++◌, ◌∷◌, [], ◌∙◌}
use Rattle.models.specs.Model.{reading}
use Rattle.web_uris.specs.declared.path.Path.{Path}
use Rattle.web_uris.specs.declared.path.Step.{Step}
use Rattle.fragment_paths.specs.Fragments.{step_into}
use Rattle.fragment_paths.proofs.UpLemmas.{locate-falls, locate-none, locate-part, locate-root}
use Rattle.fragment_paths.proofs.paths.locate.Goals as goal

pub returns-in-Resource : goal.returns-in-Resource
returns-in-Resource g c =
    ap (λ (p : Path). Some (record { resource = c.in-Resource.resource; path = p })) c.path_by-path.ensures
    ∙ locate-root c.args.positions.now c.lemma_is_legal.ensures c.up.at c.in-Some.end c.in-Resource.resource c.up.steps.items _ c.in-Some.ensures c.in-Resource.is c.up.invariant

pub up-smaller : goal.up-smaller
up-smaller g c = locate-falls c.args.positions.now c.lemma_is_legal.ensures c.up.at c.in-Some.end c.in-Object.above c.in-Some.ensures c.in-Object.is

pub up-preserved : goal.up-preserved
up-preserved g c =
    let pushed : c.push.new.self.items ≡ c.up.steps.items ++ step_into (reading c.args.positions.now) c.in-Some.end c.up.at ∷ [] =
    c.in_ok-push-in-Object.ensures.items ∙ ap (λ (t : Step). c.up.steps.items ++ t ∷ []) c.in_ok-step_into-in-Object.ensures in
    locate-part c.args.positions.now c.lemma_is_legal.ensures c.up.at c.in-Some.end c.in-Object.above c.up.steps.items c.push.new.self.items _ c.in-Some.ensures c.in-Object.is pushed c.up.invariant

pub returns : goal.returns
returns g c = locate-none c.args.positions.now c.lemma_is_legal.ensures c.up.at c.up.steps.items _ c.in_default.ensures c.up.invariant

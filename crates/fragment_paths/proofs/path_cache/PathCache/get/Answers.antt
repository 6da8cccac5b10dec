use Rattle.std.proofs.Common.{◌∙◌, sym, ap}
use Rattle.std.specs.FinMap as map
use Rattle.std.specs.Option.{option_copied}
use Rattle.fragment_paths.specs.Kept.{Kept}
use Rattle.fragment_paths.proofs.KeptLemmas.{get-kept}
use Rattle.fragment_paths.proofs.path_cache.PathCache.get.Goals as goal

pub returns-in_err-text : goal.returns-in_err-text
returns-in_err-text c =
    let o = c.args.object.0 in
    ap option_copied c.from_residual.ensures ∙ sym (ap option_copied c.in_err-text.was) ∙ c.get.ensures.value ∙ sym (get-kept c.self.inside.texts.entries o) ∙ ap (λ (m : Kept). map.get m o) c.self.view_is

pub returns : goal.returns
returns c =
    let o = c.args.object.0 in
    rw c.as_str.ensures (sym (ap option_copied c.in_ok-text.was) ∙ c.get.ensures.value ∙ sym (get-kept c.self.inside.texts.entries o) ∙ ap (λ (m : Kept). map.get m o) c.self.view_is)

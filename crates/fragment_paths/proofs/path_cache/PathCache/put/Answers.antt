use Rattle.std.proofs.Common.{◌∙◌, sym, ap, subst, inl, inr}
use Rattle.std.specs.FinMap as map
use Rattle.fragment_paths.specs.Kept.{Kept, kept_map}
use Rattle.fragment_paths.proofs.KeptLemmas.{AreKept, both-ok, either, insert-kept, kept-insert, longer-by}
use Rattle.fragment_paths.proofs.path_cache.PathCache.put.Goals as goal

pub invariant_of-self : goal.invariant_of-self
invariant_of-self c =
    let es = c.self.inside.texts.entries in
    let ds = c.insert.new.self.entries in
    let free = rw (← c.self.view_is) at c.requires in
    elim (either c.insert.result (both-ok _ _ c.insert.result c.insert.ensures.updates (longer-by c.insert.result _ _ _ c.insert.ensures.old c.insert.ensures.len)) c.insert.ensures.err) [
      | inl made ↦ insert-kept es ds c.args.object.0 c.args.text made.0.0 made.1 c.self.invariant free
      | inr same ↦ subst AreKept (sym same) c.self.invariant
    ]

pub returns : goal.returns
returns c =
    let es = c.self.inside.texts.entries in
    let o = c.args.object in
    elim (either c.insert.result c.insert.ensures.updates c.insert.ensures.err) [
      | inl made ↦ inl (kept-insert es c.insert.new.self.entries o.0 c.args.text made.0 ∙ ap (λ (m : Kept). map.insert m o.0 c.args.text) c.self.view_is)
      | inr same ↦ inr (ap kept_map same ∙ c.self.view_is)
    ]

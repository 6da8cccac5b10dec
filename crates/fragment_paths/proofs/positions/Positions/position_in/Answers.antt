use Rattle.std.proofs.Common.{◌≡◌, sym, subst, ◌∙◌}
use Rattle.mm_types.proofs.SameLemmas.{same_end-true}
use Rattle.mm_types.specs.declared.end.End.{End}
use Rattle.models.specs.Model.{reading}
use Rattle.fragment_paths.specs.Fragments.{position_in}
use Rattle.fragment_paths.proofs.positions.Positions.position_in.Goals as goal

pub returns-in-Some : goal.returns-in-Some
returns-in-Some g c =
    let s = c.self.inside.model.now in
    let noted = c.in-Some.noted.now in
    let same = same_end-true noted.end c.args.end (sym c.is_at.ensures ∙ c.if-is_at.true) in
    rw (← c.self.view_is) (sym (subst (λ (e : End). position_in (reading s) e c.args.object ≡ noted.index) same (c.self.invariant c.args.object noted (sym c.in-Some.ensures.value))))

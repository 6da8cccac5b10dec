use Rattle.std.proofs.Common.{◌≡◌, Bool, true, false, ℕ, ap, refl, ◌∙◌}
use Rattle.std.specs.Option.{is_some}
use Rattle.notice_chain.specs.Listed.{is_target}
use Rattle.notice_chain.specs.Released.{index_at}
use Rattle.adapter_list.proofs.GoingLemmas.{position-found}
use Rattle.adapter_list.proofs.MoveLemmas.{spot-at}
use Rattle.adapter_list.proofs.list.AdapterList.is_target.Goals as goal

is-some : (b : Bool) (i : ℕ) → is_some (spot-at b i) ≡ b
is-some true i = refl
is-some false i = refl

pub returns : goal.returns
returns g c =
    let rs = c.args.self.now.0 in
    let found = position-found c.self.invariant.sound rs (ap (λ v. v.0) c.self.view_is) c.args.node c.args.no in
    c.is_some.ensures ∙ ap is_some (c.index_of.ensures ∙ found) ∙ is-some (is_target c.args.no c.args.node rs) (index_at (c.args.no, c.args.node) rs)

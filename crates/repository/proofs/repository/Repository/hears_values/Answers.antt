use Rattle.std.proofs.Common.{◌≡◌, ◌∙◌, false, refl, sym, subst}
use Rattle.mm_types.specs.declared.end.End.{End}
use Rattle.mm_types.specs.declared.numbers.Node.{Node}
use Rattle.adapter_list.specs.Hearing.{is_heard}
use Rattle.handshake.specs.declared.act.Act.{Act}
use Rattle.handshake.specs.declared.change.Change.{Change}
use Rattle.handshake.specs.declared.change.Change.TheVariants.{At}
use Rattle.change_plans.proofs.ValueLemmas.{near-notifiers, near_at}
use Rattle.repository.specs.State.{reads}
use Rattle.repository.proofs.repository.Repository.hears_values.Goals as goal

near-else : (P : Node → Type 0) (c : Change) → ((e : End) (a : Act) → c ≡ At e a → ⊥) → near_at P c
near-else P (At e a) none = absurd (none e a refl)
near-else P _ none = tt

pub returns-in-At : goal.returns-in-At
returns-in-At g c = λ other.
    let s = c.args.self.now in
    let P : Node → Type 0 = λ x. is_heard (reads s).above x s.adapters ≡ false in
    near-notifiers P (reads s) c.args.change.now c.requires.values (subst (near_at P) (sym c.in-At.is) (sym c.is_heard.ensures ∙ other))

pub returns-in_default : goal.returns-in_default
returns-in_default g c = λ other.
    let s = c.args.self.now in
    let P : Node → Type 0 = λ x. is_heard (reads s).above x s.adapters ≡ false in
    near-notifiers P (reads s) c.args.change.now c.requires.values (near-else P c.args.change.now c.in_default.not-At)

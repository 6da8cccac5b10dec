use Rattle.std.proofs.Common.{rules, ◌≡◌, List, ℕ, [], ◌∷◌, ◌∙◌, ap, sym, subst, arith}
use Rattle.std.proofs.lemmas.Grind.{common_steps}
use Rattle.std.specs.Vec.Iter.{into_iter_items}
use Rattle.notice_chain.specs.declared.notice.Notice.{Notice}
use Rattle.adapter_list.specs.Rounds.{CopiesFit, adapters_after_copies}
use Rattle.adapter_list.proofs.DeliveryLemmas.{adapters_after_copies-tell_at, adapters_after_copies_from-nil, CopiesFit-rest, CopiesFit-first}
use Rattle.adapter_list.proofs.list.AdapterList.tell_each.Goals as goal

pub tell_at-requires : goal.tell_at-requires
tell_at-requires g c =
    let rest = into_iter_items c.next.new.self in
    let fits : CopiesFit c.loop-ordinal.self.0 c.loop-ordinal.self.1 ((c.in-Some.ordinal, c.in-Some.notice) ∷ rest) = subst (λ (cs : List (ℕ × Notice)). CopiesFit c.loop-ordinal.self.0 c.loop-ordinal.self.1 cs) c.in-Some.ensures.steps.0 c.loop-ordinal.invariant.fits in
    record { within = fits.within.0; spare = CopiesFit-first c.in-Some.ordinal c.in-Some.notice rest c.loop-ordinal.self.0 c.loop-ordinal.self.1 fits }

pub loop-ordinal-preserved : goal.loop-ordinal-preserved
loop-ordinal-preserved g c =
    let rest = into_iter_items c.next.new.self in
    let fits : CopiesFit c.loop-ordinal.self.0 c.loop-ordinal.self.1 ((c.in-Some.ordinal, c.in-Some.notice) ∷ rest) = subst (λ (cs : List (ℕ × Notice)). CopiesFit c.loop-ordinal.self.0 c.loop-ordinal.self.1 cs) c.in-Some.ensures.steps.0 c.loop-ordinal.invariant.fits in
    let left : CopiesFit c.tell_at.new.self.0 c.tell_at.new.self.1 rest = rw (c.tell_at.ensures.heard, c.tell_at.ensures.places) (CopiesFit-rest c.in-Some.ordinal c.in-Some.notice rest c.loop-ordinal.self.0 c.loop-ordinal.self.1 fits) in
    record {
      can = tt;
      ends = tt;
      fits = left;
      heard = ap (adapters_after_copies rest) c.tell_at.ensures.heard ∙ adapters_after_copies-tell_at c.in-Some.ordinal c.in-Some.notice rest c.loop-ordinal.self.0 ∙ ap (λ cs. adapters_after_copies cs c.loop-ordinal.self.0) (sym c.in-Some.ensures.steps.0) ∙ c.loop-ordinal.invariant.heard;
    }

pub returns : goal.returns
returns g c =
    let none : into_iter_items c.loop-ordinal.ordinal-iterator ≡ [] = grind (arith, common_steps) in
    let all : into_iter_items c.into_iter-ordinal-iterator.result ≡ c.args.copies.items = search rules in
    record { heard = sym (adapters_after_copies_from-nil 0 c.loop-ordinal.self.0) ∙ ap (λ cs. adapters_after_copies cs c.loop-ordinal.self.0) (sym none) ∙ c.loop-ordinal.invariant.heard ∙ ap (λ cs. adapters_after_copies cs c.args.self.now.0) all }

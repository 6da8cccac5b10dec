use Rattle.std.proofs.Common.{◌≡◌, refl, ap, sym, subst, ◌∙◌, arith, filter, length}
use Rattle.std.specs.List.{IsDistinct}
use Rattle.std.proofs.lemmas.List.{length-map}
use Rattle.notice_chain.specs.Listed.{same_no}
use Rattle.notice_chain.specs.Released.{staying_adapters}
use Rattle.adapter_list.specs.Attached.{numbers_of}
use Rattle.adapter_list.proofs.SplitLemmas.{has, stays}
use Rattle.adapter_list.proofs.going.Going.hand_out.Goals as goal

pub renumber-requires-clause-room : goal.renumber-requires-clause-room
renumber-requires-clause-room g c =
    let items = c.self.inside.attached.items in
    let stay = stays c.self.invariant c.split.result.items (c.split.ensures.stay ∙ ap (λ v. filter (has g.A.Adapter.heard) v.items) c.replace-attached.ensures.value) in
    let numbers : length c.self.inside.numbers.keys ≡ length items = ap (λ ks. length ks) c.self.invariant.numbered ∙ length-map items (λ a. a.no) in
    omega (arith, ap (λ xs. length xs) c.deref.ensures.value, stay.fewer, numbers)

pub renumber-requires-clause-distinct : goal.renumber-requires-clause-distinct
renumber-requires-clause-distinct g c =
    let stay = stays c.self.invariant c.split.result.items (c.split.ensures.stay ∙ ap (λ v. filter (has g.A.Adapter.heard) v.items) c.replace-attached.ensures.value) in
    subst (λ xs. IsDistinct same_no (numbers_of xs)) (sym c.deref.ensures.value) stay.distinct

pub invariant_of-self : goal.invariant_of-self
invariant_of-self g c =
    let stay = stays c.self.invariant c.split.result.items (c.split.ensures.stay ∙ ap (λ v. filter (has g.A.Adapter.heard) v.items) c.replace-attached.ensures.value) in
    let numbered : c.renumber.new.numbers.keys ≡ numbers_of c.split.result.items = c.renumber.ensures.keys ∙ ap (λ xs. numbers_of xs) c.deref.ensures.value in
    record {
      few = c.self.invariant.few;
      counted = stay.counted;
      ready = stay.ready;
      numbered = numbered;
      distinct = subst (λ ks. IsDistinct same_no ks) (sym numbered) stay.distinct;
      once = stay.once;
      tied = stay.tied;
      none_empty = c.self.invariant.none_empty;
      marked = c.self.invariant.marked;
      unused = refl;
      releasable = omega arith;
    }

pub returns-clause-others : goal.returns-clause-others
returns-clause-others g c =
    let stay = stays c.self.invariant c.split.result.items (c.split.ensures.stay ∙ ap (λ v. filter (has g.A.Adapter.heard) v.items) c.replace-attached.ensures.value) in
    stay.now ∙ ap staying_adapters c.self.view_is

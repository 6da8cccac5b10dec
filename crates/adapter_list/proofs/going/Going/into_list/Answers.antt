use Rattle.std.proofs.Common.{List, ◌∙◌, ap, sym, subst, arith, length}
use Rattle.std.proofs.lemmas.List.{length-map}
use Rattle.notice_chain.specs.Listed.{HaveTargets, Listed}
use Rattle.adapter_list.specs.Attached.{listed_one}
use Rattle.adapter_list.proofs.going.Going.into_list.Goals as goal

pub invariant_of-result : goal.invariant_of-result
invariant_of-result g c =
    let items = c.self.inside.attached.items in
    let many = ap (λ (qs : List Listed). length qs) (sym c.self.view_is) ∙ length-map items (listed_one g.A.Adapter.heard) in
    record {
      sound = record {
        few = c.self.invariant.few;
        counted = c.self.invariant.counted;
        ready = c.self.invariant.ready;
        numbered = c.self.invariant.numbered;
        distinct = c.self.invariant.distinct;
        once = c.self.invariant.once;
        tied = c.self.invariant.tied;
        none_empty = c.self.invariant.none_empty;
        marked = c.self.invariant.marked;
        unused = c.requires.room.0;
        releasable = omega (arith, many, c.requires.room.1);
      };
      some = subst HaveTargets (sym c.self.view_is) c.requires.some;
    }

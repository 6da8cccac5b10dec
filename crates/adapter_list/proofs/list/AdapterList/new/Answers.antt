use Rattle.std.proofs.Common.{rules, List, ap, sym, ◌∙◌, get_or, false}
use Rattle.mm_types.specs.declared.numbers.Node.TheVariants as node
use Rattle.adapter_list.specs.Attached.{listed_adapters}
use Rattle.adapter_list.specs.Targets.{entries, is_any}
use Rattle.adapter_list.specs.declared.attached.Attached.{Attached}
use Rattle.adapter_list.proofs.list.AdapterList.new.Goals as goal

pub invariant_of-result : goal.invariant_of-result
invariant_of-result g c =
    let heard = g.A.Adapter.heard in
    let none = c.new.ensures.items in
    let no_entry = c.new-3.ensures.entries in
    record {
      sound = record {
        few = search rules;
        counted = search rules;
        ready = search rules;
        numbered = search rules;
        distinct = search rules;
        once = search rules;
        tied = λ x. no_entry x ∙ sym (ap (λ (xs : List (Attached g.row.A.Denot)). entries x (listed_adapters heard xs)) none);
        none_empty = c.new-3.ensures.none_empty;
        marked = λ o. ap (λ bs. get_or bs o.0 false) c.new-4.ensures.items ∙ sym (ap is_any (no_entry (node.Object o)));
        unused = search rules;
        releasable = search rules;
      };
      some = search rules;
    }

use Rattle.std.proofs.Common.{◌≡◌, ◌||◌, List, [], not, sym, ap, ◌∙◌}
use Rattle.std.specs.List.{list_any}
use Rattle.adapter_list.specs.Targets.{entries, is_marked}
use Rattle.adapter_list.specs.declared.target_lists.Entry.{Entry}
use Rattle.adapter_list.proofs.HeardLemmas.{any-entries}
use Rattle.adapter_list.proofs.MarkLemmas.{unmarked-none}
use Rattle.adapter_list.proofs.list.AdapterList.has_attached.Goals as goal

pub returns-then-is_marked : goal.returns-then-is_marked
returns-then-is_marked g c =
    let rs = c.args.self.now.0 in
    let tied : c.at.result.now ≡ entries c.args.node rs = c.at.ensures ∙ c.self.invariant.sound.tied c.args.node ∙ ap (λ v. entries c.args.node v.0) c.self.view_is in
    c.has_asked_for.ensures ∙ ap (λ (es : List Entry). list_any (λ (e : Entry). not c.args.only_deep || e.deep) es) tied ∙ any-entries c.args.node c.args.only_deep rs

-- a node without a mark has no adapters
pub returns-else-is_marked : goal.returns-else-is_marked
returns-else-is_marked g c =
    let inside = c.self.inside in
    let rs = c.args.self.now.0 in
    let none : entries c.args.node rs ≡ [] =
    ap (λ v. entries c.args.node v.0) (sym c.self.view_is) ∙ sym (c.self.invariant.sound.tied c.args.node)
    ∙ unmarked-none inside.marks.items inside.by_target c.args.node c.self.invariant.sound.marked (ap (λ bs. is_marked bs c.args.node) (sym c.deref.ensures.value) ∙ sym c.is_marked.ensures ∙ c.if-is_marked.false) in
    c.if-is_marked.false ∙ ap (λ (es : List Entry). list_any (λ (e : Entry). not c.args.only_deep || e.deep) es) (sym none) ∙ any-entries c.args.node c.args.only_deep rs

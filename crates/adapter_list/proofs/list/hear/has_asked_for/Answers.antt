use Rattle.std.proofs.Common.{◌||◌, ◌+◌, Bool, not, drop, sym, ap, ◌∙◌}
use Rattle.std.specs.List.{list_any}
use Rattle.std.proofs.lemmas.List.{drop_all, drop_more}
use Rattle.adapter_list.specs.declared.target_lists.Entry.{Entry}
use Rattle.adapter_list.proofs.list.hear.has_asked_for.Goals as goal

pub returns-then-is_asked_for : goal.returns-then-is_asked_for
returns-then-is_asked_for c =
    let counts : Entry → Bool = λ e. not c.args.only_deep || e.deep in
    let es = c.args.entries.now in
    let i = c.loop-entry.entry-index in
    sym (ap (λ b. b || list_any counts (drop (i + 1) es)) (sym c.is_asked_for.ensures ∙ c.if-is_asked_for.true)) ∙ ap (list_any counts) (sym (drop_more es i _ c.loop-entry-test.true)) ∙ c.loop-entry.invariant

pub loop-entry-preserved : goal.loop-entry-preserved
loop-entry-preserved c =
    let counts : Entry → Bool = λ e. not c.args.only_deep || e.deep in
    let es = c.args.entries.now in
    let i = c.loop-entry.entry-index in
    sym (ap (λ b. b || list_any counts (drop (i + 1) es)) (sym c.is_asked_for.ensures ∙ c.if-is_asked_for.false)) ∙ ap (list_any counts) (sym (drop_more es i _ c.loop-entry-test.true)) ∙ c.loop-entry.invariant

pub returns : goal.returns
returns c =
    let counts : Entry → Bool = λ e. not c.args.only_deep || e.deep in
    ap (list_any counts) (sym (drop_all c.loop-entry.entry-index c.args.entries.now c.loop-entry-test.false)) ∙ c.loop-entry.invariant

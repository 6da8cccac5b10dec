use Rattle.std.proofs.Common.{◌≡◌, ◌∙◌, List, ℕ, Option, None, Some, ap, option_map, sym}
use Rattle.mm_types.specs.declared.numbers.Node.TheVariants as node
use Rattle.mm_types.specs.declared.numbers.ObjectNo.{ObjectNo}
use Rattle.script_lines.specs.Forms.{line_with}
use Rattle.frequent_lines.specs.Frequent.{act_line}
use Rattle.frequent_lines.specs.declared.frequent_act.FrequentAct.TheVariants as act
use Rattle.script_lines.specs.Values.{value_in}
use Rattle.script_lines.specs.declared.form.FeatureForm.TheVariants as feature
use Rattle.script_lines.specs.declared.form.Form.TheVariants as asks
use Rattle.script_lines.specs.declared.written_value.WrittenValue.{WrittenValue}
use Rattle.script_program.specs.Session.{session}
use Rattle.script_program.proofs.BoundLemmas.{bound}
use Rattle.script_program.proofs.LeftLemmas.{unchanged}
use Rattle.script_program.proofs.frequent.run_remove_value.Goals as goal

-- what the line asks for, by what its word is
asked : (o : ObjectNo) (name word : List ℕ) (w : Option WrittenValue) → value_in word ≡ w
    → act_line o name (act.RemoveValue word) ≡ line_with (option_map (λ v. asks.At (node.Object o) name (feature.RemoveValue v)) w)
asked o name word w is = ap (λ x. line_with (option_map (λ v. asks.At (node.Object o) name (feature.RemoveValue v)) x)) is

pub returns-clause-ok : goal.returns-clause-ok
returns-clause-ok g c =
    let b = bound c.args.repository.now (node.Object c.args.object) c.args.name.now c.in-Some.written _ _ _ c.meta.ensures c.feature_number-feature.ensures c.value_in-value.ensures in
    rw (asked c.args.object c.args.name.now c.args.word.now (Some c.in-Some.written) (sym c.in_ok-written.ensures ∙ c.in-Some.is), b.1, b.0) c.run_act.ensures.ok

-- the word is no value
pub returns-in_default-clause-ok : goal.returns-in_default-clause-ok
returns-in_default-clause-ok g c =
    rw (asked c.args.object c.args.name.now c.args.word.now None (sym c.in_ok-written.ensures ∙ c.in_default.is)) (c.print_bad.ensures (session c.args.repository.now c.args.pool.now))

-- ---- what is left if the answer could not be added

pub returns-clause-left : goal.returns-clause-left
returns-clause-left g c =
    let b = bound c.args.repository.now (node.Object c.args.object) c.args.name.now c.in-Some.written _ _ _ c.meta.ensures c.feature_number-feature.ensures c.value_in-value.ensures in
    rw (asked c.args.object c.args.name.now c.args.word.now (Some c.in-Some.written) (sym c.in_ok-written.ensures ∙ c.in-Some.is), b.1, b.0) c.run_act.ensures.left

pub returns-in_default-clause-left : goal.returns-in_default-clause-left
returns-in_default-clause-left g c = unchanged c.print_bad.result _ c.args.repository.now

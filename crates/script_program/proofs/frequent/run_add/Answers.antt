use Rattle.std.proofs.Common.{◌≡◌, ◌∙◌, List, ℕ, Option, None, Some, ap, option_map, true, refl, sym}
use Rattle.mm_types.specs.declared.numbers.Node.TheVariants as node
use Rattle.mm_types.specs.declared.numbers.ObjectNo.{ObjectNo}
use Rattle.notice_chain.specs.View.{View}
use Rattle.repository.specs.Commands.{add}
use Rattle.repository.specs.Run.{change_outcome, read_outcome}
use Rattle.repository.specs.Views.{changed_view}
use Rattle.repository.specs.declared.command.Command.{Command}
use Rattle.repository.specs.declared.reply.Answer.TheVariants as answer
use Rattle.frequent_lines.specs.Frequent.{add_form, act_line}
use Rattle.frequent_lines.specs.declared.frequent_act.FrequentAct.TheVariants as act
use Rattle.script_lines.specs.Forms.{line_with}
use Rattle.script_lines.specs.Values.{value_in}
use Rattle.script_lines.specs.declared.form.FeatureForm.TheVariants as feature
use Rattle.script_lines.specs.declared.form.Form.TheVariants as asks
use Rattle.script_lines.specs.declared.line.Line.{Line}
use Rattle.script_lines.specs.declared.line.Line.TheVariants as line
use Rattle.script_lines.specs.declared.written_value.WrittenValue.{WrittenValue}
use Rattle.handshake.specs.declared.act.Act.TheVariants.{Add}
use Rattle.mm_types.specs.Resolved.{Metamodel}
use Rattle.mm_types.specs.declared.end.End.{End}
use Rattle.repository.specs.declared.command.Command.TheVariants.{At}
use Rattle.script_program.specs.Bind.{at_command, named_end, value_in as value_of}
use Rattle.script_program.specs.Script.{RunsCommand, command_printed}
use Rattle.script_program.specs.Session.{Session, session}
use Rattle.script_program.proofs.BoundLemmas.{bound}
use Rattle.script_program.proofs.LeftLemmas.{as_executed, unchanged}
use Rattle.script_program.proofs.SessionLemmas.{adds-run, unheard-pool}
use Rattle.script_program.proofs.frequent.run_add.Goals as goal

-- what the line asks for, by what its word is
asked : (o : ObjectNo) (name word : List ℕ) (i : Option ℕ) (w : Option WrittenValue) → value_in word ≡ w
    → act_line o name (act.Add word i) ≡ line_with (option_map (λ v. asks.At (node.Object o) name (add_form i v)) w)
asked o name word i w is = ap (λ x. line_with (option_map (λ v. asks.At (node.Object o) name (add_form i v)) x)) is

-- the command that an addition asks for
added : (m : Metamodel) (e : End) (w : WrittenValue) (i : Option ℕ) → at_command {A = View} m e (add_form i w) ≡ At e (Add (value_of m e.feature w) i)
added m e w None = refl
added m e w (Some k) = refl

pub returns-in-Unheard-clause-ok : goal.returns-in-Unheard-clause-ok
returns-in-Unheard-clause-ok g c =
    let s : Session = session c.args.repository.now c.args.pool.now in
    let t : Session = session c.add_brief.new.self c.args.pool.now in
    let k : Command View = add (node.Object c.args.object) c.feature_number-feature.result c.value_in-value.result c.args.index in
    let o = read_outcome (λ u. answer.Flag true) c.in-Unheard.outcome in
    let b = bound c.args.repository.now (node.Object c.args.object) c.args.name.now c.in-Some.written _ _ _ c.meta.ensures c.feature_number-feature.ensures c.value_in-value.ensures in
    rw (asked c.args.object c.args.name.now c.args.word.now c.args.index (Some c.in-Some.written) (sym c.in_ok-written.ensures ∙ c.in-Some.is), added c.args.repository.now.model.metamodel (named_end c.args.repository.now (node.Object c.args.object) c.args.name.now) c.in-Some.written c.args.index, b.1, b.0)
    (adds-run c.print_change.result _ _ (λ p. p ≡ command_printed s.state.model.metamodel k o) (λ p. RunsCommand s k p t)
    (λ p is. record { outcome = o; executed = rw c.in-Unheard.is at c.add_brief.ensures; pool = unheard-pool _ k (λ u. answer.Flag true) c.in-Unheard.outcome refl; printed = is })
    (c.print_change.ensures s.state.model.metamodel k (answer.Flag true) refl))

pub returns-in-Replied-clause-ok : goal.returns-in-Replied-clause-ok
returns-in-Replied-clause-ok g c =
    let b = bound c.args.repository.now (node.Object c.args.object) c.args.name.now c.in-Some.written _ _ _ c.meta.ensures c.feature_number-feature.ensures c.value_in-value.ensures in
    rw (asked c.args.object c.args.name.now c.args.word.now c.args.index (Some c.in-Some.written) (sym c.in_ok-written.ensures ∙ c.in-Some.is), added c.args.repository.now.model.metamodel (named_end c.args.repository.now (node.Object c.args.object) c.args.name.now) c.in-Some.written c.args.index, b.1, b.0) (c.finish_change.ensures c.args.repository.now (add (node.Object c.args.object) c.feature_number-feature.result c.value_in-value.result c.args.index) refl refl (rw c.in-Replied.is at c.add_brief.ensures))

-- the word is no value
pub returns-in_default-clause-ok : goal.returns-in_default-clause-ok
returns-in_default-clause-ok g c = rw (asked c.args.object c.args.name.now c.args.word.now c.args.index None (sym c.in_ok-written.ensures ∙ c.in_default.is)) (c.print_bad.ensures (session c.args.repository.now c.args.pool.now))

-- ---- what is left if the answer could not be added

pub returns-in-Unheard-clause-left : goal.returns-in-Unheard-clause-left
returns-in-Unheard-clause-left g c =
    let s : Session = session c.args.repository.now c.args.pool.now in
    let k : Command View = add (node.Object c.args.object) c.feature_number-feature.result c.value_in-value.result c.args.index in
    let b = bound c.args.repository.now (node.Object c.args.object) c.args.name.now c.in-Some.written _ _ _ c.meta.ensures c.feature_number-feature.ensures c.value_in-value.ensures in
    rw (asked c.args.object c.args.name.now c.args.word.now c.args.index (Some c.in-Some.written) (sym c.in_ok-written.ensures ∙ c.in-Some.is), added c.args.repository.now.model.metamodel (named_end c.args.repository.now (node.Object c.args.object) c.args.name.now) c.in-Some.written c.args.index, b.1, b.0) (as_executed c.print_change.result s k (read_outcome (λ u. answer.Flag true) c.in-Unheard.outcome) c.add_brief.new.self (rw c.in-Unheard.is at c.add_brief.ensures))

pub returns-in-Replied-clause-left : goal.returns-in-Replied-clause-left
returns-in-Replied-clause-left g c =
    let s : Session = session c.args.repository.now c.args.pool.now in
    let k : Command View = add (node.Object c.args.object) c.feature_number-feature.result c.value_in-value.result c.args.index in
    let b = bound c.args.repository.now (node.Object c.args.object) c.args.name.now c.in-Some.written _ _ _ c.meta.ensures c.feature_number-feature.ensures c.value_in-value.ensures in
    rw (asked c.args.object c.args.name.now c.args.word.now c.args.index (Some c.in-Some.written) (sym c.in_ok-written.ensures ∙ c.in-Some.is), added c.args.repository.now.model.metamodel (named_end c.args.repository.now (node.Object c.args.object) c.args.name.now) c.in-Some.written c.args.index, b.1, b.0) (as_executed c.finish_change.result s k (change_outcome (changed_view g.A.Adapter.heard c.in-Replied.outcome)) c.add_brief.new.self (rw c.in-Replied.is at c.add_brief.ensures))

pub returns-in_default-clause-left : goal.returns-in_default-clause-left
returns-in_default-clause-left g c = unchanged c.print_bad.result _ c.args.repository.now

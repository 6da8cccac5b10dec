use Rattle.std.proofs.Common.{refl, rules}
use Rattle.std.proofs.lemmas.Result.{IfErr-weaker, err_from_is_err_and, on_ok_weaker}
use Rattle.durable.proofs.DialogueLemmas.{at_error, counts_end, disk_fails, disk_waiting, goes_first, goes_given, goes_on, goes_over, goes_waited, leaves_between, leaves_on, leaves_waiting, long_waiting, never_too_long, stopped_between, stopped_waiting, stopped_within}
use Rattle.durable.proofs.RunLemmas.{begun}
use Rattle.script_streams.specs.declared.run_fault.RunFault.TheVariants.{Journal, Memory, TooLong}
use Rattle.durable.proofs.dialogue.run_dialogue.Goals as goal

pub lines-init : goal.lines-init
lines-init g c = goes_first _ _ _ _ (begun _ _ _ c.requires.noted c.requires.held c.requires.at_rest)

-- ---- a line is read

pub returns-in_err-end-clause-stopped : goal.returns-in_err-end-clause-stopped
returns-in_err-end-clause-stopped g c =
    let e = err_from_is_err_and c.from_residual.result c.from_residual.ensures.1 in
    rw (e.1, e.2) (stopped_waiting _ _ _ _ _ _ _ c.read_line_waiting.new.waits _ c.lines.invariant _ c.in_err-end.ensures.stopped)

pub returns-in_err-end-clause-long : goal.returns-in_err-end-clause-long
returns-in_err-end-clause-long g c =
    let e = err_from_is_err_and c.from_residual.result c.from_residual.ensures.1 in
    rw (e.1, e.2) (λ is. long_waiting _ _ _ _ _ _ _ c.read_line_waiting.new.waits _ c.lines.invariant _ (cc is) c.in_err-end.ensures.stopped)

pub returns-in_err-end-clause-disk : goal.returns-in_err-end-clause-disk
returns-in_err-end-clause-disk g c =
    let e = err_from_is_err_and c.from_residual.result c.from_residual.ensures.1 in
    rw (e.1, e.2) (λ is. disk_waiting _ _ _ _ _ _ _ c.read_line_waiting.new.waits _ c.lines.invariant _ (cc is) c.in_err-end.ensures.stopped)

pub returns-in_err-end-clause-any_moment : goal.returns-in_err-end-clause-any_moment
returns-in_err-end-clause-any_moment g c = leaves_waiting _ _ _ _ _ _ _ c.read_line_waiting.new.waits _ c.lines.invariant _ c.in_err-end.ensures.stopped

-- ---- the input is at its end

pub returns-then-over-clause-ok : goal.returns-then-over-clause-ok
returns-then-over-clause-ok g c =
    let goes = goes_waited _ _ _ _ _ _ _ _ c.lines.invariant c.read_line_waiting.new.waits c.in_ok-end.ensures.waited in
    let last = c.is_over-over.ensures.last (search rules) in
    let none = c.is_over-over.ensures.none (search rules) in
    on_ok_weaker c.settle.result
    (λ given. goes_over _ _ _ _ _ _ _ _ goes _ c.settle.new.self _ _ c.in_ok-end.end c.in_ok-end.ensures.ok last c.as_slice.ensures.value none given)
    c.settle.ensures.ok

pub returns-then-over-clause-stopped : goal.returns-then-over-clause-stopped
returns-then-over-clause-stopped g c =
    let goes = goes_waited _ _ _ _ _ _ _ _ c.lines.invariant c.read_line_waiting.new.waits c.in_ok-end.ensures.waited in
    IfErr-weaker c.settle.result _ _ (λ fault failed. stopped_within _ _ _ _ _ _ _ _ goes fault c.settle.new.self failed c.settle.ensures.any_moment) c.settle.ensures.stopped

pub returns-then-over-clause-long : goal.returns-then-over-clause-long
returns-then-over-clause-long g c =
    let goes = goes_waited _ _ _ _ _ _ _ _ c.lines.invariant c.read_line_waiting.new.waits c.in_ok-end.ensures.waited in
    λ is. absurd (never_too_long _ _ _ _ _ _ _ _ goes TooLong refl c.settle.new.self (at_error c.settle.result _ _ c.settle.ensures.stopped is))

pub returns-then-over-clause-disk : goal.returns-then-over-clause-disk
returns-then-over-clause-disk g c =
    let goes = goes_waited _ _ _ _ _ _ _ _ c.lines.invariant c.read_line_waiting.new.waits c.in_ok-end.ensures.waited in
    λ is. disk_fails _ _ _ _ _ _ _ _ goes Journal refl c.settle.new.self (at_error c.settle.result _ _ c.settle.ensures.stopped is)

pub returns-then-over-clause-any_moment : goal.returns-then-over-clause-any_moment
returns-then-over-clause-any_moment g c =
    let goes = goes_waited _ _ _ _ _ _ _ _ c.lines.invariant c.read_line_waiting.new.waits c.in_ok-end.ensures.waited in
    leaves_on _ _ _ _ _ _ _ _ goes c.settle.new.self c.settle.ensures.any_moment

-- ---- a line is taken

pub returns-in_err-take-clause-stopped : goal.returns-in_err-take-clause-stopped
returns-in_err-take-clause-stopped g c =
    let goes = goes_waited _ _ _ _ _ _ _ _ c.lines.invariant c.read_line_waiting.new.waits c.in_ok-end.ensures.waited in
    let e = err_from_is_err_and c.from_residual-in_err-take.result c.from_residual-in_err-take.ensures.1 in
    rw (e.1, e.2, c.in_err-take.ensures.kind) (stopped_between _ _ _ _ _ _ _ _ goes Memory tt c.take.new.self c.take.ensures.disk c.take.ensures.writer)

pub returns-in_err-take-clause-any_moment : goal.returns-in_err-take-clause-any_moment
returns-in_err-take-clause-any_moment g c =
    let goes = goes_waited _ _ _ _ _ _ _ _ c.lines.invariant c.read_line_waiting.new.waits c.in_ok-end.ensures.waited in
    leaves_between _ _ _ _ _ _ _ _ goes c.take.new.self c.take.ensures.disk

-- ---- the outbox is full

pub returns-in_err-settle_if_full-clause-stopped : goal.returns-in_err-settle_if_full-clause-stopped
returns-in_err-settle_if_full-clause-stopped g c =
    let goes = goes_waited _ _ _ _ _ _ _ _ c.lines.invariant c.read_line_waiting.new.waits c.in_ok-end.ensures.waited in
    let taken = goes_on _ _ _ _ _ _ _ _ goes _ c.take.new.session c.take.new.self _ _ _ c.in_ok-end.end c.in_ok-end.ensures.ok c.as_slice.ensures.value (c.is_over-over.ensures.some (search rules))
    c.as_slice-in-lines.ensures.value c.in_ok-take.ensures.ok c.take.ensures.disk c.take.ensures.writer c.take.ensures.at_rest in
    let e = err_from_is_err_and c.from_residual-in_err-settle_if_full.result c.from_residual-in_err-settle_if_full.ensures.1 in
    rw (e.1, e.2) (stopped_within _ _ _ _ _ _ _ _ taken _ c.settle_if_full.new.self c.in_err-settle_if_full.ensures.stopped c.settle_if_full.ensures.any_moment)

pub returns-in_err-settle_if_full-clause-long : goal.returns-in_err-settle_if_full-clause-long
returns-in_err-settle_if_full-clause-long g c =
    let goes = goes_waited _ _ _ _ _ _ _ _ c.lines.invariant c.read_line_waiting.new.waits c.in_ok-end.ensures.waited in
    let taken = goes_on _ _ _ _ _ _ _ _ goes _ c.take.new.session c.take.new.self _ _ _ c.in_ok-end.end c.in_ok-end.ensures.ok c.as_slice.ensures.value (c.is_over-over.ensures.some (search rules))
    c.as_slice-in-lines.ensures.value c.in_ok-take.ensures.ok c.take.ensures.disk c.take.ensures.writer c.take.ensures.at_rest in
    let e = err_from_is_err_and c.from_residual-in_err-settle_if_full.result c.from_residual-in_err-settle_if_full.ensures.1 in
    rw (e.1, e.2) (λ is. absurd (never_too_long _ _ _ _ _ _ _ _ taken _ (cc is) c.settle_if_full.new.self c.in_err-settle_if_full.ensures.stopped))

pub returns-in_err-settle_if_full-clause-disk : goal.returns-in_err-settle_if_full-clause-disk
returns-in_err-settle_if_full-clause-disk g c =
    let goes = goes_waited _ _ _ _ _ _ _ _ c.lines.invariant c.read_line_waiting.new.waits c.in_ok-end.ensures.waited in
    let taken = goes_on _ _ _ _ _ _ _ _ goes _ c.take.new.session c.take.new.self _ _ _ c.in_ok-end.end c.in_ok-end.ensures.ok c.as_slice.ensures.value (c.is_over-over.ensures.some (search rules))
    c.as_slice-in-lines.ensures.value c.in_ok-take.ensures.ok c.take.ensures.disk c.take.ensures.writer c.take.ensures.at_rest in
    let e = err_from_is_err_and c.from_residual-in_err-settle_if_full.result c.from_residual-in_err-settle_if_full.ensures.1 in
    rw (e.1, e.2) (λ is. disk_fails _ _ _ _ _ _ _ _ taken _ (cc is) c.settle_if_full.new.self c.in_err-settle_if_full.ensures.stopped)

pub returns-in_err-settle_if_full-clause-any_moment : goal.returns-in_err-settle_if_full-clause-any_moment
returns-in_err-settle_if_full-clause-any_moment g c =
    let goes = goes_waited _ _ _ _ _ _ _ _ c.lines.invariant c.read_line_waiting.new.waits c.in_ok-end.ensures.waited in
    let taken = goes_on _ _ _ _ _ _ _ _ goes _ c.take.new.session c.take.new.self _ _ _ c.in_ok-end.end c.in_ok-end.ensures.ok c.as_slice.ensures.value (c.is_over-over.ensures.some (search rules))
    c.as_slice-in-lines.ensures.value c.in_ok-take.ensures.ok c.take.ensures.disk c.take.ensures.writer c.take.ensures.at_rest in
    leaves_on _ _ _ _ _ _ _ _ taken c.settle_if_full.new.self c.settle_if_full.ensures.any_moment

pub lines-preserved : goal.lines-preserved
lines-preserved g c =
    let goes = goes_waited _ _ _ _ _ _ _ _ c.lines.invariant c.read_line_waiting.new.waits c.in_ok-end.ensures.waited in
    let taken = goes_on _ _ _ _ _ _ _ _ goes _ c.take.new.session c.take.new.self _ _ _ c.in_ok-end.end c.in_ok-end.ensures.ok c.as_slice.ensures.value (c.is_over-over.ensures.some (search rules))
    c.as_slice-in-lines.ensures.value c.in_ok-take.ensures.ok c.take.ensures.disk c.take.ensures.writer c.take.ensures.at_rest in
    goes_given _ _ _ _ _ _ _ _ taken c.settle_if_full.new.self c.in_ok-settle_if_full.ensures.ok c.settle_if_full.ensures.any_moment c.settle_if_full.ensures.later

-- ---- there are too many lines

pub returns-clause-long : goal.returns-clause-long
returns-clause-long g c = λ _. counts_end _ _ _ _ _ _ _ _ c.lines.invariant (search rules)

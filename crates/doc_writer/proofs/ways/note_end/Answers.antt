use Rattle.std.proofs.Common.{◌≡◌, ◌∙◌, ℕ, ◌<◌, false, length, slice_get, subst}
use Rattle.std.specs.Option.{option_and_then, option_map_or}
use Rattle.models.specs.Model.{Model, reading}
use Rattle.models.specs.Reading.{object_of}
use Rattle.doc_writer.specs.Saved.{is_dangling}
use Rattle.doc_writer.proofs.ListLemmas.{any-here, any-on}
use Rattle.doc_writer.proofs.ways.note_end.Goals as goal

pub returns-then-branch-clause-dangling : goal.returns-then-branch-clause-dangling
returns-then-branch-clause-dangling g c =
    let r = reading c.args.positions.now in
    let counted = subst (λ (s : Model). c.len-index-end.result ≡ length ((reading s).values c.args.end)) c.model.ensures c.len-index-end.ensures in
    let noted = subst (λ (s : Model). c.in_ok-note_at.field-0 ≡ option_map_or (is_dangling (reading s)) (option_and_then object_of (slice_get ((reading s).values c.args.end) c.positions.index)) false) c.positions.invariant.same c.in_ok-note_at.ensures.dangling in
    any-here (is_dangling r) (r.values c.args.end) c.positions.index c.in_ok-note_at.field-0 (subst (λ (n : ℕ). c.positions.index < n) counted c.positions-test.true) noted c.if-branch.true c.positions.invariant.rest

pub positions-preserved : goal.positions-preserved
positions-preserved g c =
    let r = reading c.args.positions.now in
    let counted = subst (λ (s : Model). c.len-index-end.result ≡ length ((reading s).values c.args.end)) c.model.ensures c.len-index-end.ensures in
    let noted = subst (λ (s : Model). c.in_ok-note_at.field-0 ≡ option_map_or (is_dangling (reading s)) (option_and_then object_of (slice_get ((reading s).values c.args.end) c.positions.index)) false) c.positions.invariant.same c.in_ok-note_at.ensures.dangling in
    record {
      same = c.note_at.ensures.same ∙ c.positions.invariant.same;
      rest = any-on (is_dangling r) (r.values c.args.end) c.positions.index c.in_ok-note_at.field-0 (subst (λ (n : ℕ). c.positions.index < n) counted c.positions-test.true) noted c.if-branch.false c.positions.invariant.rest;
    }

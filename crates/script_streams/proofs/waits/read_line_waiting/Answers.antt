use Rattle.std.proofs.Common.{◌<◌, inr, length, refl, rules, subst}
use Rattle.std.specs.Io.Buffered.{reader_inner, reader_remaining}
use Rattle.mm_types.specs.declared.limits.TheConstants.{INPUT_BYTES}
use Rattle.script_streams.specs.Line.{ReadsPiece}
use Rattle.script_streams.proofs.LineLemmas.{ended_too_long, ends, goes_on}
use Rattle.script_streams.proofs.WaitLemmas.{more_ready}
use Rattle.script_streams.proofs.waits.read_line_waiting.Goals as goal

pub pieces-preserved : goal.pieces-preserved
pieces-preserved g c =
    let remaining = reader_remaining g.R.Read.remaining in
    let so_far = c.pieces.invariant in
    let had = c.pieces.line.items in
    let line = c.wait_and_read.new.line.items in
    let piece = subst (ReadsPiece (remaining c.pieces.reader) (remaining c.wait_and_read.new.reader) had line) c.in_default.is c.in_ok-end.ensures.ok in
    let more = goes_on (remaining c.args.reader.now) (remaining c.pieces.reader) (remaining c.wait_and_read.new.reader) had line so_far.consumed so_far.in_line piece in
    record {
      consumed = more.0;
      in_line = more.1;
      waited = g.met.X.Waits.goes_on c.args.waits.now c.pieces.waits c.wait_and_read.new.waits so_far.waited c.in_ok-end.ensures.waited;
      again = c.in_ok-end.ensures.again;
      ready = more_ready g.X.Waits.is_ready (reader_inner c.args.reader.now) (reader_inner c.pieces.reader) (reader_inner c.wait_and_read.new.reader) c.pieces.waits c.wait_and_read.new.waits so_far.ready c.in_ok-end.ensures.ready;
    }

pub returns-else-len-le-INPUT_BYTES-clause-stopped : goal.returns-else-len-le-INPUT_BYTES-clause-stopped
returns-else-len-le-INPUT_BYTES-clause-stopped g c =
    let remaining = reader_remaining g.R.Read.remaining in
    let so_far = c.pieces.invariant in
    let first = remaining c.args.reader.now in
    let now = remaining c.wait_and_read.new.reader in
    let had = c.pieces.line.items in
    let line = c.wait_and_read.new.line.items in
    let end = c.in-Some.end in
    let piece = subst (ReadsPiece (remaining c.pieces.reader) now had line) c.in-Some.is c.in_ok-end.ensures.ok in
    let read = ends first (remaining c.pieces.reader) now had line end so_far.consumed so_far.in_line piece in
    let long : INPUT_BYTES < length line = search rules in
    inr (inr (record {
      became = g.met.X.Waits.goes_on c.args.waits.now c.pieces.waits c.wait_and_read.new.waits so_far.waited c.in_ok-end.ensures.waited;
      may = c.in_ok-end.ensures.again;
      kind = refl;
      long = ended_too_long first now line end read long;
    }))

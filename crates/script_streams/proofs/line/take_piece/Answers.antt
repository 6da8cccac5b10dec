use Rattle.std.proofs.Common.{◌==◌, ◌<◌, length, rules}
use Rattle.std.specs.Io.Buffered.{reader_buffer, reader_capacity, reader_remaining}
use Rattle.script_streams.proofs.LineLemmas.{ahead_consumed, piece}
use Rattle.script_streams.proofs.line.take_piece.Goals as goal

pub returns-clause-ok : goal.returns-clause-ok
returns-clause-ok g c =
    let remaining = reader_remaining g.R.Read.remaining in
    let reader = c.args.reader.now in
    let ahead = reader_buffer reader in
    let one = rw c.buffer.ensures at c.in_ok-n.ensures in
    let gone = ahead_consumed (reader_capacity reader == 0) ahead (g.R.Read.remaining reader.inner) (remaining c.consume.new.self) c.in_ok-n.n one.within c.requires.some c.consume.ensures.bytes in
    piece (remaining reader) (remaining c.consume.new.self) ahead c.args.line.now.items c.append_piece.new.line.items c.in_ok-n.n c.in_ok-n.end c.requires.some one gone

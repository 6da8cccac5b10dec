use Rattle.std.specs.Io.Buffered.{reader_remaining}
use Rattle.script_program.specs.Session.{session_with}
use Rattle.script_program.proofs.LiveLemmas.{silent}
use Rattle.script_program.proofs.live.live_over.Goals as goal

pub returns-in_default-clause-stopped : goal.returns-in_default-clause-stopped
returns-in_default-clause-stopped g c =
    silent (session_with g.A.Adapter.heard c.args.repository.now c.args.boxes.items) (reader_remaining g.R.Read.remaining c.args.reader.now) (g.W.Write.contents c.args.writer.now)

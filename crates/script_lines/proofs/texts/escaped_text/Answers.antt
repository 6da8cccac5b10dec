use Rattle.std.proofs.Common.{rules}
use Rattle.script_lines.proofs.ValueLemmas.{text_read}
use Rattle.script_lines.proofs.texts.escaped_text.Goals as goal

pub returns-in-Ok : goal.returns-in-Ok
returns-in-Ok c =
    let reads = text_read c.args.word.now _ (search rules) c.utf8.word c.in-Ok.ensures.ok in
    rw reads at c.string_of.ensures

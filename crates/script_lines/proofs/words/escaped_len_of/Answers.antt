use Rattle.script_lines.proofs.WordLemmas.{quoted_backslash, quoted_escaped, quoted_other}
use Rattle.script_lines.proofs.words.escaped_len_of.Goals as goal
use Rattle.script_lines.proofs.words.escaped_len_of.Goals.{then-escaped, else-escaped+else-byte-eq-QUOTE+then-byte-eq-BACKSLASH, else-escaped+else-byte-eq-QUOTE+else-byte-eq-BACKSLASH}

pub bytes-preserved : goal.bytes-preserved
bytes-preserved c = elim c.if-escaped.branch [
  | then-escaped w ↦ rw w.escaped-is (quoted_escaped c.args.bytes.now c.bytes.i _ c.bytes-test.true (rw w.if-escaped.true at c.bytes.invariant))
  | else-escaped+else-byte-eq-QUOTE+then-byte-eq-BACKSLASH w ↦ rw w.escaped-is (quoted_backslash c.args.bytes.now c.bytes.i _ c.bytes-test.true w.if-byte-eq-BACKSLASH.true (rw w.if-escaped.false at c.bytes.invariant))
  | else-escaped+else-byte-eq-QUOTE+else-byte-eq-BACKSLASH w ↦ rw (w.escaped-is, w.if-escaped.false) (quoted_other c.args.bytes.now c.bytes.i _ c.bytes-test.true w.if-byte-eq-QUOTE.false w.if-byte-eq-BACKSLASH.false (rw w.if-escaped.false at c.bytes.invariant))
]

use Rattle.std.proofs.Common.{◌≡◌, ◌+◌, drop, false}
use Rattle.script_lines.specs.Words.{quoted_len}
use Rattle.script_lines.proofs.words.escaped_len_of.Given as goal

abbrev pub invariant-bytes : goal.invariant-bytes
invariant-bytes l = l.i + quoted_len l.escaped (drop l.i l.bytes) ≡ quoted_len false l.bytes

use Rattle.std.proofs.Common.{◌≡◌, ◌≤◌, ◌+◌, ◌-◌, ◌++◌, drop, length, vec_capacity, vec_len}
use Rattle.script_output.proofs.output.push_bytes.Given as goal

-- what is left to add has capacity
abbrev pub invariant-loop-byte : goal.invariant-loop-byte
invariant-loop-byte l = record {
  rest : l.bytes.items ++ drop l.byte-index l.added ≡ l.fn.bytes.items ++ l.fn.added;
  room : vec_len l.bytes + (length l.added - l.byte-index) ≤ vec_capacity l.bytes;
}

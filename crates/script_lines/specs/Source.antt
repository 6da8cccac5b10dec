-- The bytes of a script, which may be known to be UTF-8.
use Rattle.std.specs.Prelude.{◌≡◌, ℕ, List, Option, Some, None, length}
use Rattle.script_lines.specs.Lines.{IsCut}
use Rattle.script_lines.specs.declared.source.Source.{Source}
use Rattle.script_lines.specs.declared.source.Source.TheVariants.{Text, Bytes}

abbrev pub bytes_of : Source → List ℕ
bytes_of (Text text) = text.now
bytes_of (Bytes bytes) = bytes.now

-- the result of a cut is the first line of some bytes and the rest, or none if there are no bytes
abbrev pub CutsSource : Option (Source × Source) → List ℕ → Type 0
CutsSource None bytes = length bytes ≡ 0
CutsSource (Some p) bytes = IsCut bytes (bytes_of p.0) (bytes_of p.1)

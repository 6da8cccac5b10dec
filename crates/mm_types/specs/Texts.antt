-- The bytes of a text, whether it is stored as a short or as a long text.
use Rattle.std.specs.Prelude.{ℕ, List, string_bytes}
use Rattle.mm_types.specs.declared.text.Layout.{Layout}
use Rattle.mm_types.specs.declared.text.Layout.TheVariants.{Long, Short}

abbrev pub bytes_of : Layout → List ℕ
bytes_of (Short text) = text
bytes_of (Long text) = string_bytes text.value

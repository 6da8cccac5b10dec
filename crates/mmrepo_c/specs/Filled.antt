-- A text that is copied into a buffer.
use Rattle.std.specs.Prelude.{ℕ, List, ◌++◌, length, min, take, drop}

-- a buffer after a text was copied into it: the buffer begins with as many bytes of the text as it can hold, and the rest of the buffer is
-- as it was
abbrev pub filled_buffer : List ℕ → List ℕ → List ℕ
filled_buffer text room = take (min (length text) (length room)) text ++ drop (min (length text) (length room)) room

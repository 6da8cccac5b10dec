-- The first line of a journal, its head.
use Rattle.std.specs.Prelude.{◌≡◌, ◌⊎◌, ℕ, List, [], ◌∷◌, Option, None, Some}
use Rattle.std.specs.Borrow.{Bor}
use Rattle.journal.specs.Journal.{StandsFor}
use Rattle.journal.specs.Lines.{recovered_lines}
use Rattle.durable.specs.declared.opening.JournalFault.{JournalFault}
use Rattle.durable.specs.declared.opening.JournalFault.TheVariants as refused

-- the lines of a journal after it is begun: the head alone if the file had no line, else the lines that the file had
abbrev pub begun_lines : List ℕ → List (List ℕ) → List (List ℕ)
begun_lines head [] = head ∷ []
begun_lines head (l ∷ ls) = l ∷ ls

-- the result of a search for the head of a file: the bytes of the file after the head, or none if the file has no line
abbrev pub FindsLines : Option (Bor (List ℕ)) → List ℕ → List ℕ → Type 0
FindsLines None bytes head = recovered_lines bytes ≡ []
FindsLines (Some rest) bytes head = recovered_lines bytes ≡ head ∷ recovered_lines rest.now

-- the lines that are recovered from a file are ls; if ls is empty, they may also be the head alone
abbrev pub IsBegunOrNot : List ℕ → List (List ℕ) → List ℕ → Type 0
IsBegunOrNot head ls file = StandsFor ls file ⊎ StandsFor (begun_lines head ls) file

-- the faults that a search for the head can find: the file is no journal, or its journal was begun with a different metamodel document
abbrev pub IsOfHead : JournalFault → Type 0
IsOfHead refused.NoJournal = Unit {0}
IsOfHead refused.OtherMetamodel = Unit {0}
IsOfHead _ = ⊥

use Rattle.std.proofs.Common.{length}
use Rattle.journal_tests.proofs.journals.lines_of.Given as goal

abbrev pub decreases-lines : goal.decreases-lines
decreases-lines l = length l.rest

use Rattle.std.proofs.Common.{◌∙◌, [], sym}
use Rattle.std.proofs.lemmas.Bool.{false≢true}
use Rattle.repository.specs.Answers.{is_answered_late}
use Rattle.repository.proofs.LeavingLemmas.{found-early, found-late}
use Rattle.repository.proofs.answering.known_answer.Goals as goal

pub unreachable-requires : goal.unreachable-requires
unreachable-requires g c =
    let late = found-late (is_answered_late c.args.change.now) _ _ (c.in_ok-answer.ensures [] c.requires.proper.0 c.requires.proper.1) c.in-None.is in
    false≢true (sym c.requires.known ∙ late)

pub returns : goal.returns
returns g c = λ rs text proper. found-early (is_answered_late c.args.change.now) _ _ _ (c.in_ok-answer.ensures rs text proper) c.in-Some.is

use Rattle.std.proofs.Common.{lit<}
use Rattle.web_uris.specs.Paths.{is_slash}
use Rattle.web_uris.proofs.CutLemmas.{split_in_two, split_whole}
use Rattle.web_uris.proofs.segments.first_segment.Goals as goal

pub returns-in-Some-clause-segments : goal.returns-in-Some-clause-segments
returns-in-Some-clause-segments c =
    let (before, after, below) = c.in-Some.ensures.byte (lit< tt) (λ w o f. f) in
    split_in_two is_slash c.args.text.now _ _ before after below

pub returns-in-None-clause-segments : goal.returns-in-None-clause-segments
returns-in-None-clause-segments c = split_whole is_slash c.args.text.now (c.in-None.ensures.byte (lit< tt) (λ w o f. f))

use Rattle.std.proofs.Common.{◌∙◌, sym}
use Rattle.doc_parts.specs.Keys.{key_of, number_at}
use Rattle.doc_parts.proofs.FindLemmas.{finds_same, found_again, found_new, own_place}
use Rattle.doc_parts.proofs.PlaceLemmas.{put_back, put_last}
use Rattle.doc_parts.proofs.found.Numbers.number.Goals as goal

pub returns-in_ok-put-in-Some : goal.returns-in_ok-put-in-Some
returns-in_ok-put-in-Some c = λ ps p count f is.
    let had = sym c.in_ok-number.ensures.had ∙ c.in-Some.is in
    let (finds, first) = found_again c.args.self.now ps p (key_of c.args.key) c.in-Some.number f is had in
    (finds_same c.args.self.now c.put-in-Some.new.self _ (put_back (number_at c.args.self.now) (number_at c.put.new.self) (number_at c.put-in-Some.new.self) c.args.key c.in-Some.number c.args.next had c.in_ok-number.ensures.number c.in_ok-put-in-Some.ensures.number) finds, first)

pub returns-in-None : goal.returns-in-None
returns-in-None c = λ ps p count f is.
    let none = sym c.in_ok-number.ensures.had ∙ c.in-None.is in
    found_new c.args.self.now c.put.new.self ps p c.args.key c.args.next count f is none (λ k. c.in_ok-number.ensures.number k ∙ put_last (number_at c.args.self.now) c.args.key c.args.next k none) (own_place c.args.key)

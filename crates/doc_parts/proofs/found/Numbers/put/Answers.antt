use Rattle.std.proofs.Common.{◌∙◌, ap}
use Rattle.std.specs.Map.{lookup}
use Rattle.doc_parts.specs.Keys.{is_at, key_of}
use Rattle.doc_parts.specs.contracts.found.PartKeyPartialEq.TheImpl.{ghosts}
use Rattle.doc_parts.proofs.PlaceLemmas.{derived, lookup_congr, lookup_insert}
use Rattle.doc_parts.proofs.found.Numbers.put.Goals as goal

pub returns : goal.returns
returns c =
    record {
      number = λ k. ap (lookup (is_at k)) c.in_ok-had.ensures.entries ∙ lookup_insert ghosts.eq derived c.args.self.now.numbers.entries c.args.key c.args.number k;
      had = c.in_ok-had.ensures.old ∙ lookup_congr (ghosts.eq c.args.key) (is_at (key_of c.args.key)) (derived c.args.key) c.args.self.now.numbers.entries;
    }

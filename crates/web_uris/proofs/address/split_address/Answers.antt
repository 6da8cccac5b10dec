use Rattle.std.proofs.Common.{◌≡◌, ℕ, List, Bor, Option, Some, None, MatchOption, ◌<◌, length, lit<, true, false}
use Rattle.std.specs.List.{after_first, before_first, position_or_len}
use Rattle.web_uris.proofs.CutLemmas.{none_passes, one_passes}
use Rattle.web_uris.specs.Addresses.{fragment_part, has_mark, uri_part}
use Rattle.web_uris.specs.Joined.{is_mark}
use Rattle.web_uris.proofs.address.split_address.Goals as goal

cut : (t : List ℕ) (r : Option (Bor (List ℕ) × Bor (List ℕ)))
    → MatchOption r (position_or_len is_mark t ≡ length t) (λ x. (x.0.now ≡ before_first is_mark t) × (x.1.now ≡ after_first is_mark t) × (position_or_len is_mark t < length t))
    → MatchOption r (has_mark t ≡ false) (λ parts. (has_mark t ≡ true) × (parts.0.now ≡ uri_part t) × (parts.1.now ≡ fragment_part t))
cut t None last = none_passes is_mark t last
cut t (Some x) (before, after, below) = (one_passes is_mark t below, before, after)

pub returns : goal.returns
returns c = cut c.args.text.now _ (c.split_once.ensures.byte (lit< tt) (λ w o f. f))

-- How many last notifications a release gives.
use Rattle.std.proofs.Common.{◌≤◌, true, false, List, [], ◌∷◌, length, length-append, if◌then◌else◌, arith}
use Rattle.mm_types.specs.declared.numbers.AdapterNo.{AdapterNo}
use Rattle.notice_chain.specs.Listed.{Listed, is_target}
use Rattle.notice_chain.specs.Released.{Spot, adapters_without_target, last_notice, released_adapters, told_of_all, told_of_leaving}
use Rattle.notice_chain.specs.declared.notice.Notice.{Notice}

-- there are at most as many last notifications as targets that are removed
told_all-few : (ss : List Spot) (rs : List Listed) → length (told_of_all ss rs) ≤ length ss
told_all-few [] rs = omega arith
told_all-few (s ∷ ss) rs =
    let last : AdapterNo × Notice = (s.0, last_notice s rs) in
    let one : length (told_of_leaving s rs) ≤ 1 = elim (is_target s.0 s.1 rs) as (λ b. length (if b then last ∷ [] else []) ≤ 1) [ true ↦ omega arith | false ↦ omega arith ] in
    omega (arith, one, told_all-few ss (adapters_without_target s rs), length-append (told_of_leaving s rs) (told_of_all ss (adapters_without_target s rs)))

pub told-few : (ss : List Spot) (rs : List Listed) → length (released_adapters ss rs).told ≤ length ss
told-few [] rs = omega arith
told-few (s ∷ ss) rs = told_all-few (s ∷ ss) rs

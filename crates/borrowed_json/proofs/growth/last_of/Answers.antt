use Rattle.std.proofs.Common.{◌≡◌, ◌∙◌, ◌+◌, ◌-◌, ap, arith, bytes_eq, drop, false, get_or, length, sym}
use Rattle.std.proofs.lemmas.List.{drop_all, drop_more}
use Rattle.std.specs.Prelude.{◌&&◌, not}
use Rattle.std.specs.List.{list_all}
use Rattle.borrowed_json.proofs.ViewLemmas.{Entry, no_entry}
use Rattle.borrowed_json.proofs.growth.last_of.Goals as goal

pub loop-left-init : goal.loop-left-init
loop-left-init c =
    let xs = c.args.members.now in
    (omega arith, ap (list_all (λ (m : Entry). not (bytes_eq m.0.now c.args.key.now))) (drop_all (length xs) xs (omega arith)))

pub loop-left-preserved : goal.loop-left-preserved
loop-left-preserved c =
    let xs = c.args.members.now in
    let i = c.loop-left.left - 1 in
    let m = get_or xs i no_entry in
    let next : c.loop-left.left ≡ i + 1 = omega arith in
    let other : bytes_eq m.0.now c.args.key.now ≡ false = grind arith in
    let p = λ (e : Entry). not (bytes_eq e.0.now c.args.key.now) in (
      omega arith,
      ap (list_all p) (drop_more xs i no_entry (omega arith)) ∙ ap (λ b. not b && list_all p (drop (i + 1) xs)) other
          ∙ ap (λ n. list_all p (drop n xs)) (sym next) ∙ c.loop-left.invariant.1,
    )

pub returns-then-eq : goal.returns-then-eq
returns-then-eq c =
    let xs = c.args.members.now in
    let i = c.loop-left.left - 1 in
    let next : c.loop-left.left ≡ i + 1 = omega arith in
    (omega arith, ap (λ n. list_all (λ (e : Entry). not (bytes_eq e.0.now c.args.key.now)) (drop n xs)) (sym next) ∙ c.loop-left.invariant.1)

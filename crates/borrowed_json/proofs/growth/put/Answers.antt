use Rattle.std.proofs.Common.{◌≡◌, ◌∙◌, ◌<◌, ◌+◌, suc, List, ap, arith, bytes_eq, drop, length, subst, sym, true}
use Rattle.std.proofs.lemmas.List.{drop-set-add, get_or-drop, take_rest}
use Rattle.std.proofs.lemmas.Slice.Eq.{bytes_eq-Decides}
use Rattle.std.specs.Prelude.{not}
use Rattle.std.specs.List.{list_all}
use Rattle.borrowed_json.specs.View.{members_view}
use Rattle.borrowed_json.proofs.PutLemmas.{members_set}
use Rattle.borrowed_json.proofs.ViewLemmas.{Entry}
use Rattle.borrowed_json.proofs.growth.put.Goals as goal

pub returns-in-Some-clause-members : goal.returns-in-Some-clause-members
returns-in-Some-clause-members c =
    let base = c.args.base in
    let xs = c.args.members.now.items in
    let own = drop base xs in
    let i = c.in-Some.index in
    let e : Entry = (c.args.key, c.args.value) in
    let m = c.index.result.now in
    let k = c.args.key.now in
    let same : bytes_eq m.0.now k ≡ true = grind arith in
    let on : suc i ≡ i + 1 = omega arith in
    let found = subst (λ (ms : List Entry). (i < length ms) × (list_all (λ (e : Entry). not (bytes_eq e.0.now k)) (drop (i + 1) ms) ≡ true))
    (take_rest c.deref.result.now base ∙ ap (drop base) c.deref.ensures.value) c.in-Some.ensures in
    ap members_view (drop-set-add base xs i e)
    ∙ members_set own i e m found.0 (ap (λ (y : Entry). y.0.now) (get_or-drop base xs i m ∙ sym c.index.ensures) ∙ (bytes_eq-Decides m.0.now k).0 same)
    (ap (λ n. list_all (λ (e : Entry). not (bytes_eq e.0.now k)) (drop n own)) on ∙ found.1)

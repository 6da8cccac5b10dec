use Rattle.std.proofs.Common.{◌≡◌, ◌+◌, ◌-◌, ◌<◌, ◌≤◌, ℕ, List, [], ◌∷◌, ◌++◌, get_or, length, take, Bool, true, false, cond, Some, sym, ap, ◌∙◌, arith}
use Rattle.std.proofs.lemmas.List.{take_more}
use Rattle.std.specs.Str.{bytes_eq}
use Rattle.serde_json.specs.Find.{get_member}
use Rattle.borrowed_json.specs.View.{members_view, view}
use Rattle.borrowed_json.proofs.ViewLemmas.{Entry, get_member-push, no_entry}
use Rattle.borrowed_json.proofs.members.find.Goals as goal

-- a search through the first members finds what a search through one member less finds, unless the last of them has the key
one_less : (name : List ℕ) (xs : List Entry) (left : ℕ) → 0 < left → left ≤ length xs
    → get_member name (members_view (take left xs))
    ≡ cond (bytes_eq (get_or xs (left - 1) no_entry).0.now name) (Some (view (get_or xs (left - 1) no_entry).1)) (get_member name (members_view (take (left - 1) xs)))
one_less name xs left some within =
    let m = get_or xs (left - 1) no_entry in
    let next : left ≡ (left - 1) + 1 = omega (arith, some) in
    let front : take left xs ≡ take (left - 1) xs ++ m ∷ [] = ap (λ k. take k xs) next ∙ take_more xs (left - 1) no_entry (omega (arith, some, within)) in
    ap (λ ys. get_member name (members_view ys)) front ∙ get_member-push name (take (left - 1) xs) m

pub returns-then-eq : goal.returns-then-eq
returns-then-eq c =
    let xs = c.args.members.now in
    let m = get_or xs (c.loop-left.left - 1) no_entry in
    let name = c.args.key.now in
    let pick = λ (b : Bool). cond b (Some (view m.1)) (get_member name (members_view (take (c.loop-left.left - 1) xs))) in
    let same : bytes_eq m.0.now name ≡ true = grind arith in
    sym (c.loop-left.invariant.0 ∙ one_less name xs c.loop-left.left (omega arith) (omega arith) ∙ ap pick same)

pub loop-left-preserved : goal.loop-left-preserved
loop-left-preserved c =
    let xs = c.args.members.now in
    let m = get_or xs (c.loop-left.left - 1) no_entry in
    let name = c.args.key.now in
    let pick = λ (b : Bool). cond b (Some (view m.1)) (get_member name (members_view (take (c.loop-left.left - 1) xs))) in
    let other : bytes_eq m.0.now name ≡ false = grind arith in
    (c.loop-left.invariant.0 ∙ one_less name xs c.loop-left.left (omega arith) (omega arith) ∙ ap pick other, omega arith)

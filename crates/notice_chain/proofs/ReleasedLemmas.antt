-- Releasing some targets and then others, and releasing all targets.
use Rattle.std.proofs.Common.{◌≡◌, ◌+◌, ◌<◌, ℕ, Bool, true, false, cond, not, ◌&&◌, ◌||◌, List, [], ◌∷◌, ◌++◌, map, filter, length, if◌then◌else◌, refl, sym, ap, ◌∙◌, append_assoc, eq-eqb, le-leb}
use Rattle.std.specs.List.{AllByRecursion, IsDistinct, list_any, prefix_len}
use Rattle.std.proofs.lemmas.Bool.{eqb-false, ne_eqb}
use Rattle.std.proofs.lemmas.List.Elements.{recursion_from_All}
use Rattle.std.proofs.lemmas.Map.Keys.{IsDistinct-head, IsDistinct-tail}
use Rattle.mm_types.proofs.SameLemmas.{same_node-self, same_node-true}
use Rattle.mm_types.specs.Same.{same_node}
use Rattle.mm_types.specs.declared.numbers.AdapterNo.{AdapterNo}
use Rattle.mm_types.specs.declared.numbers.Node.{Node}
use Rattle.notice_chain.specs.View.{View, hear, hear_all}
use Rattle.notice_chain.specs.Listed.{HasDistinctNumbers, HasDistinctTargets, HaveTargets, Listed, has_no, has_target, is_at, is_target, same_no, with_changed}
use Rattle.notice_chain.specs.Released.{Released, Spot, adapter_after_loss, adapters_with_target, adapters_without_target, adapters_without_targets, all_released, has_targets, index_at, is_any, last_notice, leaving_adapters, released_adapters, released_where, removing_notice, spots, staying_adapters, told_of_all, told_of_leaving}
use Rattle.notice_chain.specs.declared.target.Target.{Target}

pub adapters_without_targets-append : (ss ts : List Spot) (rs : List Listed) → adapters_without_targets (ss ++ ts) rs ≡ adapters_without_targets ts (adapters_without_targets ss rs)
adapters_without_targets-append [] ts rs = refl
adapters_without_targets-append (s ∷ ss) ts rs = adapters_without_targets-append ss ts (adapters_without_target s rs)

pub told_of_all-append : (ss ts : List Spot) (rs : List Listed) → told_of_all (ss ++ ts) rs ≡ told_of_all ss rs ++ told_of_all ts (adapters_without_targets ss rs)
told_of_all-append [] ts rs = refl
told_of_all-append (s ∷ ss) ts rs =
    ap (λ ns. told_of_leaving s rs ++ ns) (told_of_all-append ss ts (adapters_without_target s rs)) ∙ sym (append_assoc (told_of_leaving s rs) (told_of_all ss (adapters_without_target s rs)) (told_of_all ts (adapters_without_targets ss (adapters_without_target s rs))))

---------------------------------------------------------------- each has a target

all-have : (rs : List Listed) → AllByRecursion (λ r. 0 < length r.targets) rs → (staying_adapters rs ≡ rs) × (leaving_adapters rs ≡ [])
all-have [] h = (refl, refl)
all-have (r ∷ rs) h =
    let rest = all-have rs h.1 in
    let has : has_targets r ≡ true = le-leb _ _ h.0 in (
      ap (λ b. cond b (r ∷ staying_adapters rs) (staying_adapters rs)) has ∙ ap (λ (qs : List Listed). r ∷ qs) rest.0,
      ap (λ b. map (λ (q : Listed). (q.no, q.view)) (cond (not b) (r ∷ filter (λ q. not (has_targets q)) rs) (filter (λ q. not (has_targets q)) rs))) has ∙ rest.1,
    )

-- if each adapter has a target, all stay and none is released
pub all-stay : (rs : List Listed) → HaveTargets rs → (staying_adapters rs ≡ rs) × (leaving_adapters rs ≡ [])
all-stay rs h = all-have rs (recursion_from_All (λ (r : Listed). 0 < length r.targets) rs h)

-- releasing targets, in its parts
pub released_adapters-parts : (ss : List Spot) (rs : List Listed) → HaveTargets rs → released_adapters ss rs ≡ record { told = told_of_all ss rs; views = leaving_adapters (adapters_without_targets ss rs); others = staying_adapters (adapters_without_targets ss rs) }
released_adapters-parts [] rs some = let all = all-stay rs some in λ i. let x : Released = record { told = []; views = sym all.1 i; others = sym all.0 i } in x
released_adapters-parts (s ∷ ss) rs some = refl

---------------------------------------------------------------- all targets of one adapter

-- the adapter after all its targets were taken away, if no adapter before it has any of them
abbrev finished : Listed → Listed
finished r = record { no = r.no; targets = []; view = hear_all r.view (map (λ t. removing_notice r.no t.node 0) r.targets) }

abbrev AreBare : List Listed → Type 0
AreBare ds = AllByRecursion (λ d. d.targets ≡ []) ds

module _ (number : AdapterNo) where
  changed-behind : (f : Listed → Listed) (ds rs : List Listed) (r : Listed) → list_any (has_no number) ds ≡ false → has_no number r ≡ true → with_changed number f (ds ++ r ∷ rs) ≡ ds ++ f r ∷ rs
  changed-behind f [] rs r none has = ap (λ b. if b then (f r ∷ rs) else r ∷ with_changed number f rs) has
  changed-behind f (d ∷ ds) rs r none has =
      elim (has_no number d) as (λ b. (b || list_any (has_no number) ds) ≡ false → (if b then (f d ∷ (ds ++ r ∷ rs)) else d ∷ with_changed number f (ds ++ r ∷ rs)) ≡ d ∷ (ds ++ f r ∷ rs)) [
        | true ↦ λ h. absurd (true-false h)
        | false ↦ λ h. ap (λ (qs : List Listed). d ∷ qs) (changed-behind f ds rs r h has)
      ] none
    where
      true-false : true ≡ false → ⊥
      true-false h = cc

  target-behind : (x : Node) (ds rs : List Listed) (r : Listed) → has_no number r ≡ true → has_target x r ≡ true → is_target number x (ds ++ r ∷ rs) ≡ true
  target-behind x [] rs r has target = ap (λ b. (b && has_target x r) || is_target number x rs) has ∙ ap (λ b. b || is_target number x rs) target
  target-behind x (d ∷ ds) rs r has target = ap (λ b. (has_no number d && has_target x d) || b) (target-behind x ds rs r has target) ∙ or-true (has_no number d && has_target x d)
    where
      or-true : (b : Bool) → (b || true) ≡ true
      or-true true = refl
      or-true false = refl

  -- adapters without targets are not counted
  index-behind : (x : Node) (ds rs : List Listed) (r : Listed) → AreBare ds → has_no number r ≡ true → has_target x r ≡ true → index_at (number, x) (ds ++ r ∷ rs) ≡ 0
  index-behind x [] rs r bare has target =
      ap (λ b. prefix_len (λ q. not (has_no number q)) (cond b (r ∷ adapters_with_target x rs) (adapters_with_target x rs))) target ∙ ap (λ b. cond (not b) (1 + prefix_len (λ q. not (has_no number q)) (adapters_with_target x rs)) 0) has
  index-behind x (d ∷ ds) rs r bare has target =
      let other : has_target x d ≡ false = ap (λ (ts : List Target). list_any (is_at x) ts) bare.0 in
      ap (λ b. prefix_len (λ q. not (has_no number q)) (cond b (d ∷ adapters_with_target x (ds ++ r ∷ rs)) (adapters_with_target x (ds ++ r ∷ rs)))) other ∙ index-behind x ds rs r bare.1 has target

-- two nodes are the same in either order
pub same_node-turned : (x y : Node) → same_node x y ≡ false → same_node y x ≡ false
same_node-turned x y other =
    elim (same_node y x) as (λ b. same_node y x ≡ b → b ≡ false) [
      | true ↦ λ same. sym (same_node-self y) ∙ ap (λ (z : Node). same_node z y) (same_node-true y x same) ∙ other
      | false ↦ λ _. refl
    ] refl

none-there : (x : Node) (ts : List Target) → AllByRecursion (λ y. same_node x y ≡ false) (map (λ t. t.node) ts) → filter (λ t. not (is_at x t)) ts ≡ ts
none-there x [] h = refl
none-there x (t ∷ ts) h = ap (λ b. cond (not b) (t ∷ filter (λ q. not (is_at x q)) ts) (filter (λ q. not (is_at x q)) ts)) (same_node-turned x t.node h.0) ∙ ap (λ (qs : List Target). t ∷ qs) (none-there x ts h.1)

all-gone : (number : AdapterNo) (ds rs : List Listed) (ts : List Target) (v : View) → AreBare ds → list_any (has_no number) ds ≡ false → IsDistinct same_node (map (λ t. t.node) ts)
    → adapters_without_targets (map (λ t. (number, t.node)) ts) (ds ++ record { no = number; targets = ts; view = v } ∷ rs) ≡ ds ++ record { no = number; targets = []; view = hear_all v (map (λ t. removing_notice number t.node 0) ts) } ∷ rs
all-gone number ds rs [] v bare apart once = refl
all-gone number ds rs (t ∷ ts) v bare apart once =
    let r : Listed = record { no = number; targets = t ∷ ts; view = v } in
    let all = ds ++ r ∷ rs in
    let has : has_no number r ≡ true = eq-eqb number.0 number.0 refl in
    let target : has_target t.node r ≡ true = ap (λ b. b || list_any (is_at t.node) ts) (same_node-self t.node) in
    let index : last_notice (number, t.node) all ≡ removing_notice number t.node 0 = ap (λ (k : ℕ). removing_notice number t.node k) (index-behind number t.node ds rs r bare has target) in
    let left : filter (λ q. not (is_at t.node q)) (t ∷ ts) ≡ ts = ap (λ b. cond (not b) (t ∷ filter (λ q. not (is_at t.node q)) ts) (filter (λ q. not (is_at t.node q)) ts)) (same_node-self t.node) ∙ none-there t.node ts (IsDistinct-head same_node t.node (map (λ q. q.node) ts) once) in
    let lost : adapter_after_loss t.node (last_notice (number, t.node) all) r ≡ record { no = number; targets = ts; view = hear v (removing_notice number t.node 0) } = λ i. let x : Listed = record { no = number; targets = left i; view = hear v (index i) } in x in
    let next : adapters_without_target (number, t.node) all ≡ ds ++ record { no = number; targets = ts; view = hear v (removing_notice number t.node 0) } ∷ rs =
    ap (λ b. if b then with_changed number (adapter_after_loss t.node (last_notice (number, t.node) all)) all else all) (target-behind number t.node ds rs r has target)
    ∙ changed-behind number (adapter_after_loss t.node (last_notice (number, t.node) all)) ds rs r apart has
    ∙ ap (λ (q : Listed). ds ++ q ∷ rs) lost in
    ap (adapters_without_targets (map (λ q. (number, q.node)) ts)) next ∙ all-gone number ds rs ts (hear v (removing_notice number t.node 0)) bare apart (IsDistinct-tail same_node t.node (map (λ q. q.node) ts) once)

---------------------------------------------------------------- all targets of all

bare-last : (ds : List Listed) (r : Listed) → AreBare ds → AreBare (ds ++ finished r ∷ [])
bare-last [] r h = (refl, tt)
bare-last (d ∷ ds) r h = (h.0, bare-last ds r h.1)

-- no adapter of some has the number of one of others
abbrev AreApart : List Listed → List Listed → Type 0
AreApart ds rs = AllByRecursion (λ r. list_any (has_no r.no) ds ≡ false) rs

apart-last : (ds : List Listed) (r : Listed) (rs : List Listed) → AreApart ds rs → AllByRecursion (λ k. same_no r.no k ≡ false) (map (λ q. q.no) rs) → AreApart (ds ++ finished r ∷ []) rs
apart-last ds r [] h apart = tt
apart-last ds r (q ∷ rs) h apart = (one ds h.0, apart-last ds r rs h.1 apart.1)
  where
    other : has_no q.no r ≡ false
    other = ne_eqb q.no.0 r.no.0 (λ (e : q.no.0 ≡ r.no.0). eqb-false r.no.0 q.no.0 apart.0 (sym e))

    one : (es : List Listed) → list_any (has_no q.no) es ≡ false → list_any (has_no q.no) (es ++ finished r ∷ []) ≡ false
    one [] none = ap (λ b. b || false) other
    one (e ∷ es) none =
        elim (has_no q.no e) as (λ b. (b || list_any (has_no q.no) es) ≡ false → (b || list_any (has_no q.no) (es ++ finished r ∷ [])) ≡ false) [
          | true ↦ λ k. k
          | false ↦ λ k. one es k
        ] none

all-pass : (ts : List Target) → filter (λ t. true) ts ≡ ts
all-pass [] = refl
all-pass (t ∷ ts) = ap (λ (qs : List Target). t ∷ qs) (all-pass ts)

all-finished : (ds rs : List Listed) → AreBare ds → AreApart ds rs → HasDistinctNumbers rs → AllByRecursion (λ r. IsDistinct same_node (map (λ t. t.node) r.targets)) rs → adapters_without_targets (spots is_any rs) (ds ++ rs) ≡ ds ++ map finished rs
all-finished ds [] bare apart distinct once = refl
all-finished ds (r ∷ rs) bare apart distinct once =
    let head = IsDistinct-head same_no r.no (map (λ q. q.no) rs) distinct in
    let more = ds ++ finished r ∷ [] in
    adapters_without_targets-append (map (λ t. (r.no, t.node)) (filter (λ t. true) r.targets)) (spots is_any rs) (ds ++ r ∷ rs)
    ∙ ap (λ (ts : List Target). adapters_without_targets (spots is_any rs) (adapters_without_targets (map (λ t. (r.no, t.node)) ts) (ds ++ r ∷ rs))) (all-pass r.targets)
    ∙ ap (adapters_without_targets (spots is_any rs)) (all-gone r.no ds rs r.targets r.view bare apart.0 once.0 ∙ sym (append_assoc ds (finished r ∷ []) rs))
    ∙ all-finished more rs (bare-last ds r bare) (apart-last ds r rs apart.1 head) (IsDistinct-tail same_no r.no (map (λ q. q.no) rs) distinct) once.1
    ∙ append_assoc ds (finished r ∷ []) (map finished rs)

finished-leave : (rs : List Listed) → leaving_adapters (map finished rs) ≡ all_released rs
finished-leave [] = refl
finished-leave (r ∷ rs) = ap (λ vs. (r.no, hear_all r.view (map (λ t. removing_notice r.no t.node 0) r.targets)) ∷ vs) (finished-leave rs)

none-apart : (rs : List Listed) → AreApart [] rs
none-apart [] = tt
none-apart (r ∷ rs) = (refl, none-apart rs)

pub released-all : (rs : List Listed) → HasDistinctNumbers rs → HasDistinctTargets rs → HaveTargets rs → (released_where is_any rs).views ≡ all_released rs
released-all rs distinct once some =
    ap (λ (x : Released). x.views) (released_adapters-parts (spots is_any rs) rs some)
    ∙ ap leaving_adapters (all-finished [] rs tt (none-apart rs) distinct (recursion_from_All (λ (r : Listed). IsDistinct same_node (map (λ t. t.node) r.targets)) rs once))
    ∙ finished-leave rs

pub ruleset releasing = (adapters_without_targets-append, told_of_all-append, released-all)

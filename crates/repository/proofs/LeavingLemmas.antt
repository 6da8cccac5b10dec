-- The targets that are removed with the objects that a change destroys.
use Rattle.std.proofs.Common.{◌≡◌, ℕ, suc, ◌+◌, ◌≤◌, ◌<◌, ◌||◌, Bool, true, false, cond, List, [], ◌∷◌, ◌++◌, length, map, filter, drop, get_or, slice_get, Option, None, Some, option_map, append_assoc, refl, ap, sym, subst, ◌∙◌, arith}
use Rattle.std.specs.Prelude.{IfSome}
use Rattle.std.specs.List.{flat_map, list_any}
use Rattle.std.specs.Option.{option_map_or}
use Rattle.std.proofs.lemmas.Bool.{false≢true, or_parts}
use Rattle.std.proofs.lemmas.List.{append-nil, drop_all, drop_more}
use Rattle.std.proofs.lemmas.Option.{none-some, same_Some}
use Rattle.mm_types.specs.Same.{same_node}
use Rattle.mm_types.specs.declared.numbers.AdapterNo.{AdapterNo}
use Rattle.mm_types.specs.declared.numbers.Node.{Node}
use Rattle.mm_types.specs.declared.numbers.Node.TheVariants as node
use Rattle.mm_types.specs.declared.numbers.ObjectNo.{ObjectNo}
use Rattle.notice_chain.specs.Listed.{Listed, is_at}
use Rattle.notice_chain.specs.Released.{Spot, is_gone_at, spots, spots_of}
use Rattle.notice_chain.specs.declared.target.Target.{Target}
use Rattle.adapter_list.specs.Hearing.{is_touched, ordinals_from, touched_indexes}
use Rattle.containment.specs.Forest.{is_node_among}
use Rattle.models.specs.Reading.{Reading}
use Rattle.removal.specs.Outer.{is_in_subtree}
use Rattle.removal.specs.Ranks.{is_in}
use Rattle.removal.specs.Removals.{IsRemoval}
use Rattle.removal.specs.declared.gone.Removal.{Removal}
use Rattle.change_plans.specs.Plans.{removal_in, resolved_in, target_in}
use Rattle.change_plans.specs.declared.planned.Finding.{Finding}
use Rattle.change_plans.specs.declared.planned.Finding.TheVariants as finding
use Rattle.handshake.specs.Changes.{IsRemovalOf}
use Rattle.handshake.specs.Refusals.{late_refusal}
use Rattle.handshake.specs.FeatureChanges.{destroyed_by, resolved_by, target_of}
use Rattle.handshake.specs.declared.change.Change.{Change}
use Rattle.handshake.specs.declared.change.Change.TheVariants.{At, Delete, ResolveAll}
use Rattle.handshake.specs.declared.act.Act.TheVariants.{Resolve}
use Rattle.proxies.specs.declared.resolved.Resolved.{Resolved}
use Rattle.proxies.specs.declared.resolved_proxy.ResolvedProxy.{ResolvedProxy as Found}
use Rattle.handshake.proofs.KnownLemmas.{resolvable}
use Rattle.handshake.proofs.RemovalLemmas.{of-objects}
use Rattle.repository.specs.Answers.{IsEarlyAnswer, answer_of, is_answered_late, planned_answer}
use Rattle.repository.specs.Leaving.{going_with}
use Rattle.repository.specs.Views.{command_of}
use Rattle.repository.specs.declared.reply.Answer.{Answer}
use Rattle.repository.specs.declared.reply.Answer.TheVariants as answer

---------------------------------------------------------------- the targets at what is destroyed

any-both : {X : Type 0} (p q : X → Bool) (xs : List X) → list_any (λ x. p x || q x) xs ≡ false → (list_any p xs ≡ false) × (list_any q xs ≡ false)
any-both p q [] h = (refl, refl)
any-both p q (x ∷ xs) h =
    let parts = or_parts (p x || q x) (list_any (λ y. p y || q y) xs) h in
    let here = or_parts (p x) (q x) parts.0 in
    let later = any-both p q xs parts.1 in
    (ap (λ b. b || list_any p xs) here.0 ∙ later.0, ap (λ b. b || list_any q xs) here.1 ∙ later.1)

none-at : (os : List ObjectNo) (n : Node) → list_any (λ o. same_node n (node.Object o)) os ≡ false → is_node_among os n ≡ false
none-at os (node.Object p) h = h
none-at os (node.Resource k) h = refl

-- these nodes, as targets of an adapter
abbrev spots_at : AdapterNo → List Target → List Spot
spots_at k ts = map (λ t. (k, t.node)) ts

-- an adapter that has none of some objects as a target loses no target with them
untouched : (os : List ObjectNo) (k : AdapterNo) (ts : List Target) → list_any (λ o. list_any (is_at (node.Object o)) ts) os ≡ false → spots_at k (filter (λ t. is_node_among os t.node) ts) ≡ []
untouched os k [] h = refl
untouched os k (t ∷ ts) h =
    let both = any-both (λ o. same_node t.node (node.Object o)) (λ o. list_any (is_at (node.Object o)) ts) os h in
    let rest : List Target = filter (λ q. is_node_among os q.node) ts in
    ap (λ b. spots_at k (cond b (t ∷ rest) rest)) (none-at os t.node both.0) ∙ untouched os k ts both.1

-- the targets of the adapters at some indexes, if all other adapters lose none
module _ (os : List ObjectNo) (all : List Listed) where
  goes : AdapterNo → Node → Bool
  goes k n = is_node_among os n

  abbrev at_place : ℕ → List Spot
  at_place k = option_map_or (spots_of (λ j n. is_node_among os n)) (slice_get all k) []

  by-places : (k : ℕ) (rs : List Listed) → ((i : ℕ) → slice_get all (k + i) ≡ slice_get rs i) → flat_map at_place (ordinals_from (is_touched os) k rs) ≡ spots (λ j n. is_node_among os n) rs
  by-places k [] here = refl
  by-places k (r ∷ rs) here =
      let first : slice_get all k ≡ Some r = subst (λ (j : ℕ). slice_get all j ≡ Some r) (let e : k + 0 ≡ k = omega arith in e) (here 0) in
      let rest = by-places (suc k) rs (λ i. subst (λ (j : ℕ). slice_get all j ≡ slice_get rs i) (let e : k + suc i ≡ suc k + i = omega arith in e) (here (suc i))) in
      elim (is_touched os r) as (λ b. is_touched os r ≡ b → flat_map at_place (cond b (k ∷ ordinals_from (is_touched os) (suc k) rs) (ordinals_from (is_touched os) (suc k) rs)) ≡ spots_of (λ j n. is_node_among os n) r ++ spots (λ j n. is_node_among os n) rs) [
        | true ↦ λ _. ap (λ (o : Option Listed). option_map_or (spots_of (λ j n. is_node_among os n)) o [] ++ flat_map at_place (ordinals_from (is_touched os) (suc k) rs)) first ∙ ap (λ (ss : List Spot). spots_of (λ j n. is_node_among os n) r ++ ss) rest
        | false ↦ λ none. rest ∙ sym (ap (λ (ss : List Spot). ss ++ spots (λ j n. is_node_among os n) rs) (untouched os r.no r.targets none))
      ] refl

  pub at-places : flat_map at_place (touched_indexes os all) ≡ spots (λ j n. is_node_among os n) all
  at-places = by-places 0 all (λ i. let e : 0 + i ≡ i = omega arith in ap (slice_get all) e)

-- the targets at the nodes of a removal are the targets at its objects
pub gone-spots : (r : Reading) (x : Removal) (rs : List Listed) → IsRemoval r x → flat_map (λ k. option_map_or (spots_of (is_gone_at (is_in x.numbers))) (slice_get rs k) []) (touched_indexes x.objects.items rs) ≡ spots (is_gone_at (is_in x.numbers)) rs
gone-spots r x rs is =
    let same : (n : Node) → is_in x.numbers n ≡ is_node_among x.objects.items n = λ n. is.numbers n ∙ ap (λ (os : List ObjectNo). is_node_among os n) (sym is.objects) in
    subst (λ (g : Node → Bool). flat_map (λ k. option_map_or (spots_of (is_gone_at g)) (slice_get rs k) []) (touched_indexes x.objects.items rs) ≡ spots (is_gone_at g) rs) (λ i n. sym (same n) i) (at-places x.objects.items rs)

-- the adapter at an index, as it was read
pub spots-there : (g : Node → Bool) (k : AdapterNo) (ts : List Target) (q : Option Listed) → Some (k, ts) ≡ option_map (λ (r : Listed). let p : AdapterNo × List Target = (r.no, r.targets) in p) q → option_map_or (spots_of (is_gone_at g)) q [] ≡ map (λ t. (k, t.node)) (filter (λ t. g t.node) ts)
spots-there g k ts None is = absurd (none-some (k, ts) (sym is))
spots-there g k ts (Some r) is = ap (λ (p : AdapterNo × List Target). map (λ (t : Target). let s : Spot = (p.0, t.node) in s) (filter (λ t. g t.node) p.1)) (sym (same_Some (k, ts) (r.no, r.targets) is))

pub spots-nowhere : (g : Node → Bool) (q : Option Listed) → None ≡ option_map (λ (r : Listed). let p : AdapterNo × List Target = (r.no, r.targets) in p) q → option_map_or (spots_of (is_gone_at g)) q [] ≡ []
spots-nowhere g None is = refl
spots-nowhere g (Some r) is = absurd (none-some (r.no, r.targets) is)

-- one more index
pub spots-more : (f : ℕ → List Spot) (ks : List ℕ) (i : ℕ) (out new all : List Spot) → i < length ks → new ≡ out ++ f (get_or ks i 0) → out ++ flat_map f (drop i ks) ≡ all → new ++ flat_map f (drop (i + 1) ks) ≡ all
spots-more f ks i out new all low made whole =
    ap (λ (ss : List Spot). ss ++ flat_map f (drop (i + 1) ks)) made
    ∙ append_assoc out (f (get_or ks i 0)) (flat_map f (drop (i + 1) ks))
    ∙ ap (λ (js : List ℕ). out ++ flat_map f js) (sym (drop_more ks i 0 low))
    ∙ whole

pub spots-end : (f : ℕ → List Spot) (ks : List ℕ) (i : ℕ) (out all : List Spot) → length ks ≤ i → out ++ flat_map f (drop i ks) ≡ all → out ≡ all
spots-end f ks i out all past whole = sym (append-nil out) ∙ ap (λ (js : List ℕ). out ++ flat_map f js) (sym (drop_all i ks past)) ∙ whole

-- the targets that are removed with a change, as they were found in the model
pub spots-found : (r : Reading) (c : Change) (q : Option Removal) (rs : List Listed) → IsRemovalOf r c q → option_map_or (λ x. spots (is_gone_at (is_in x.numbers)) rs) q [] ≡ going_with r rs c
spots-found r c q rs of = by q (destroyed_by c) of.whose of.found
  where
    by : (q : Option Removal) (o : Option ObjectNo) → option_map (λ (x : Removal). x.object) q ≡ o → IfSome q (IsRemoval r) → option_map_or (λ x. spots (is_gone_at (is_in x.numbers)) rs) q [] ≡ option_map_or (λ k. spots (is_gone_at (is_in_subtree r k)) rs) o []
    by None None is found = refl
    by None (Some o) is found = absurd (none-some o is)
    by (Some x) None is found = absurd (none-some x.object (sym is))
    by (Some x) (Some o) is found =
        let goes : is_in x.numbers ≡ is_in_subtree r o = (λ i n. found.numbers n i) ∙ ap (is_in_subtree r) (same_Some x.object o is) in
        ap (λ (g : Node → Bool). spots (is_gone_at g) rs) goes

-- an answer that is found before planning is the answer of the change
pub found-early : (late : Bool) (x a : Answer) (q : Option Answer) → IsEarlyAnswer late x q → q ≡ Some a → a ≡ x
found-early true x a q is some = absurd (none-some a (sym is ∙ some))
found-early false x a q is some = same_Some a x (sym some ∙ is)

-- if none is found before planning, the answer is found later
pub found-late : (late : Bool) (x : Answer) (q : Option Answer) → IsEarlyAnswer late x q → q ≡ None → late ≡ true
found-late true x q is none = refl
found-late false x q is none = absurd (none-some x (sym none ∙ is))

-- an answer that is found later is computed from what planning finds
pub answer-planned : (r : Reading) (rs : List Listed) (text : List ℕ) (c : Change) (f : Finding) → is_answered_late c ≡ true → late_refusal r c ≡ None → IsRemovalOf r c (removal_in f) → target_in f ≡ target_of r c → resolved_in f ≡ resolved_by r c
    → planned_answer f ≡ Some (answer_of r rs (command_of text c))
answer-planned r rs text c f late allowed removed found resolved = by c f late allowed removed.whose removed.found found resolved
  where
    by : (d : Change) (f : Finding) → is_answered_late d ≡ true → late_refusal r d ≡ None → option_map (λ (z : Removal). z.object) (removal_in f) ≡ destroyed_by d → IfSome (removal_in f) (IsRemoval r) → target_in f ≡ target_of r d → resolved_in f ≡ resolved_by r d
        → planned_answer f ≡ Some (answer_of r rs (command_of text d))
    by (Delete o) (finding.Removal x) late allowed whose is target counted = ap (λ (n : ℕ). Some (answer.Destroyed n)) (of-objects length 0 r (Some x) o whose is)
    by (Delete o) _ late allowed whose is target counted = absurd (none-some o whose)
    by (At e (Resolve i)) (finding.Target x) late allowed whose is target counted = ap (λ (z : Option Found). Some (answer.Object (option_map_or (λ (w : Found). w.object) z (record { 0 = 0 })))) target
    by (At e (Resolve i)) _ late allowed whose is target counted = let known = resolvable r e i allowed in absurd (none-some known.target (target ∙ known.is))
    by ResolveAll (finding.Counts n) late allowed whose is target counted = ap (option_map (λ (m : Resolved). answer.Resolved m.done m.left)) counted
    by ResolveAll _ late allowed whose is target counted = absurd (none-some _ counted)
    by _ f late allowed whose is target counted = absurd (false≢true late)

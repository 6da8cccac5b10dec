-- The effects of attaching, watching, unwatching and detaching.
use Rattle.std.proofs.Common.{◌≡◌, ◌∙◌, ◌++◌, ℕ, Bool, true, false, not, List, [], ◌∷◌, filter, map, Option, Some, None, option_map, Ok, Err, cond, if◌then◌else◌, is_some, refl, sym, ap, subst, eqb-true}
use Rattle.std.specs.Prelude.{Result, IsTrue}
use Rattle.std.specs.List.{AllByRecursion}
use Rattle.std.specs.Option.{option_map_or}
use Rattle.std.proofs.lemmas.List.{append-nil}
use Rattle.std.proofs.lemmas.Map.Keys.{IsDistinct-head, IsDistinct-tail}
use Rattle.std.proofs.lemmas.Option.{none-some, same_Some}
use Rattle.mm_types.specs.Conditions.{◌else_by◌, ◌unless◌, ◌where_so◌, is_memory_refusal}
use Rattle.mm_types.specs.declared.numbers.AdapterNo.{AdapterNo}
use Rattle.mm_types.specs.declared.numbers.Node.{Node}
use Rattle.mm_types.specs.declared.refused.Refused.{Refused}
use Rattle.mm_types.specs.declared.refused.Refused.TheVariants.{AdapterFull, Memory, NoAdapter, NoObject, NoResource}
use Rattle.notice_chain.specs.View.{View}
use Rattle.notice_chain.specs.Listed.{HasDistinctNumbers, Listed, adapter, has_no, is_chain_full, is_target, same_no, tell_chain}
use Rattle.notice_chain.specs.Released.{Spot, is_of, released_adapters, spots}
use Rattle.notice_chain.specs.declared.target.Target.{Target}
use Rattle.adapter_list.specs.Refusals.{attach_refusal, but_memory, watch_refusal}
use Rattle.models.specs.Model.{Model, reading}
use Rattle.models.specs.Reading.{is_node_live, is_resource_there}
use Rattle.models.specs.Existence.{node_refusal}
use Rattle.repository.specs.declared.command.Command.{Command}
use Rattle.repository.specs.declared.command.Command.TheVariants.{Attach, Detach, Unwatch, Watch}
use Rattle.repository.specs.declared.reply.Answer.{Answer}
use Rattle.repository.specs.declared.reply.Answer.TheVariants as answer
use Rattle.repository.specs.declared.reply.Reply.{Reply}
use Rattle.repository.specs.Leaving.{LetsGo, released_reply}
use Rattle.repository.specs.Refusals.{adapter_refusal}
use Rattle.repository.specs.Run.{Executed, change_outcome, is_plain, may_want_memory}
use Rattle.repository.specs.State.{State, reads}
use Rattle.repository.specs.Step.{Stepped, adapters_after_attach, attached_adapters, done_step, refusal_of, step_unless}
use Rattle.repository.specs.Views.{Outcome, brought_adapter}
use Rattle.repository.specs.declared.reply.Failure.{Failure}
use Rattle.repository.proofs.AdapterLemmas.{tell_chain-nil}
use Rattle.repository.proofs.QuietLemmas.{done_quiet, refusal_quiet}

-- a node is refused for what it names, never for memory
node-refused : (s : State) (n : Node) (r : Refused) → node_refusal (reads s) n ≡ Some r → is_memory_refusal r ≡ false
node-refused s n r e = subst (λ (o : Option Refused). option_map_or is_memory_refusal o false ≡ false) e (elim (is_node_live (reads s) n) as (λ a. option_map_or is_memory_refusal ((if a then None else Some NoObject) else_by (if is_resource_there (reads s) n then None else Some NoResource)) false ≡ false) [
  | true ↦ elim (is_resource_there (reads s) n) as (λ b. option_map_or is_memory_refusal (if b then None else Some NoResource) false ≡ false) [ true ↦ refl | false ↦ refl ]
  | false ↦ refl
])

-- a refusal of a node that is found in the model is one of the abstract state
pub found-refusal : (s v : State) (m : Model) (n : Node) (found q : Option Refused) → s ≡ v → m ≡ v.model → found ≡ node_refusal (reading m) n → found ≡ q → node_refusal (reads s) n ≡ q
found-refusal s v m n found q seen read is same = ap (λ (t : State). node_refusal (reads t) n) seen ∙ ap (λ (x : Model). node_refusal (reading x) n) (sym read) ∙ sym is ∙ same

---------------------------------------------------------------- attaching

module _ (s : State) (number : AdapterNo) (target : Node) (deep : Bool) (view : View) where
  -- the refusal of an attach
  attach-refusal : node_refusal (reads s) target ≡ None → refusal_of s (Attach number target deep view) ≡ attach_refusal s.adapters number view
  attach-refusal there = ap (λ (o : Option Refused). o else_by (attach_refusal s.adapters number view else_by (AdapterFull where_so is_chain_full (reads s).above [] s.adapters))) there ∙ refusal_quiet (reads s).above (attach_refusal s.adapters number view) s.adapters

  pub nowhere_to_attach : (r : Refused) → node_refusal (reads s) target ≡ Some r → Executed s (Attach number target deep view) (Err (record { refused = r; given_back = Some view })) s
  nowhere_to_attach r e = rw (node-refused s target r e) (ap (step_unless s (Attach number target deep view)) (ap (λ (o : Option Refused). o else_by (attach_refusal s.adapters number view else_by (AdapterFull where_so is_chain_full (reads s).above [] s.adapters))) e))

  pub attached : node_refusal (reads s) target ≡ None → attach_refusal s.adapters number view ≡ None → Executed s (Attach number target deep view) (Ok (record { answer = answer.Done; told = []; released = [] })) (record { model = s.model; adapters = s.adapters ++ attached_adapters (Attach number target deep view) })
  attached there free = ap (step_unless s (Attach number target deep view)) (attach-refusal there ∙ free) ∙ done_quiet (reads s).above s.model s.adapters (adapters_after_attach (Attach number target deep view)) answer.Done

  pub not_attached : (r : Refused) → node_refusal (reads s) target ≡ None → but_memory r ≡ attach_refusal s.adapters number view → Executed s (Attach number target deep view) (Err (record { refused = r; given_back = Some view })) s
  not_attached Memory there e = record {
    may = ap (λ (o : Option Refused). not (option_map_or is_plain o false)) (attach-refusal there ∙ sym e);
    outcome = refl;
    state = refl;
  }
  not_attached r there e = ap (step_unless s (Attach number target deep view)) (attach-refusal there ∙ sym e)

---------------------------------------------------------------- one target more

module _ (s : State) (number : AdapterNo) (target : Node) (deep : Bool) where
  watch-refusal : node_refusal (reads s) target ≡ None → refusal_of s (Watch number target deep) ≡ watch_refusal s.adapters number target
  watch-refusal there = ap (λ (o : Option Refused). o else_by (watch_refusal s.adapters number target else_by (AdapterFull where_so is_chain_full (reads s).above [] s.adapters))) there ∙ refusal_quiet (reads s).above (watch_refusal s.adapters number target) s.adapters

  pub nowhere_to_watch : (r : Refused) → node_refusal (reads s) target ≡ Some r → Executed s (Watch number target deep) (Err (record { refused = r; given_back = None })) s
  nowhere_to_watch r e = rw (node-refused s target r e) (ap (step_unless s (Watch number target deep)) (ap (λ (o : Option Refused). o else_by (watch_refusal s.adapters number target else_by (AdapterFull where_so is_chain_full (reads s).above [] s.adapters))) e))

  pub watched : (b : Bool) → b ≡ not (is_target number target s.adapters) → node_refusal (reads s) target ≡ None → watch_refusal s.adapters number target ≡ None → Executed s (Watch number target deep) (Ok (record { answer = answer.Flag b; told = []; released = [] })) (record { model = s.model; adapters = adapters_after_attach (Watch number target deep) s.adapters })
  watched b is there free =
      ap (step_unless s (Watch number target deep)) (watch-refusal there ∙ free)
      ∙ done_quiet (reads s).above s.model s.adapters (adapters_after_attach (Watch number target deep)) (answer.Flag (not (is_target number target s.adapters)))
      ∙ ap (λ (c : Bool). let x : Stepped = record { outcome = Ok (record { answer = answer.Flag c; told = []; released = [] }); after = record { model = s.model; adapters = adapters_after_attach (Watch number target deep) s.adapters } } in x) (sym is)

  pub not_watched : (r : Refused) → node_refusal (reads s) target ≡ None → but_memory r ≡ watch_refusal s.adapters number target → Executed s (Watch number target deep) (Err (record { refused = r; given_back = None })) s
  not_watched Memory there e = record {
    may = ap (λ (o : Option Refused). not (option_map_or is_plain o false)) (watch-refusal there ∙ sym e);
    outcome = refl;
    state = refl;
  }
  not_watched r there e = ap (step_unless s (Watch number target deep)) (watch-refusal there ∙ sym e)

---------------------------------------------------------------- targets that go

-- the step if these targets are removed, and this is the answer
let_go-done : Answer → List Spot → State → List Listed → Stepped
let_go-done a ss s rs = record {
  outcome = Ok (released_reply a (released_adapters ss rs));
  after = record { model = s.model; adapters = (released_adapters ss rs).others };
}

module _ (s : State) (c : Command View) (ss : List Spot) (a : Answer) (given : brought_adapter c ≡ None) (may : IsTrue (may_want_memory s c)) (free : refusal_of s c ≡ None) (does : done_step s c ≡ let_go-done a ss s (tell_chain (reads s).above [] s.adapters)) where
  wanting : Executed s c (Err (record { refused = Memory; given_back = None })) s
  wanting = record { may = may; outcome = ap (λ (g : Option View). let f : Failure View = record { refused = Memory; given_back = g } in let o : Outcome = Err f in o) (sym given); state = refl }

  gone : (o : Result (Reply View) Refused) (t : State) → LetsGo s ss a o t → Executed s c (change_outcome o) t
  unfolding let_go-done
  gone (Ok r) t went =
      ap (step_unless s c) free ∙ does ∙ ap (let_go-done a ss s) (tell_chain-nil (reads s).above s.adapters)
      ∙ sym (λ i. record { outcome = Ok (went.0 i); after = went.1 i })
  gone (Err e) t went =
      subst (λ (r : Refused). Executed s c (Err (record { refused = r; given_back = None })) t) (sym went.0)
      (subst (λ (u : State). Executed s c (Err (record { refused = Memory; given_back = None })) u) (sym went.1) wanting)

---------------------------------------------------------------- one target less

module _ (s : State) (number : AdapterNo) (target : Node) where
  unwatch-refusal : node_refusal (reads s) target ≡ None → refusal_of s (Unwatch number target) ≡ adapter_refusal s.adapters number
  unwatch-refusal there = ap (λ (o : Option Refused). (o else_by adapter_refusal s.adapters number) else_by (None else_by (AdapterFull where_so is_chain_full (reads s).above [] s.adapters))) there ∙ refusal_quiet (reads s).above (adapter_refusal s.adapters number) s.adapters

  unwatch-free : node_refusal (reads s) target ≡ None → is_some (adapter number s.adapters) ≡ true → refusal_of s (Unwatch number target) ≡ None
  unwatch-free there known = unwatch-refusal there ∙ ap (λ b. NoAdapter unless b) known

  pub unwatched : (a : Answer) → a ≡ answer.Flag (is_target number target s.adapters) → node_refusal (reads s) target ≡ None → is_some (adapter number s.adapters) ≡ true
      → (o : Result (Reply View) Refused) (t : State) → LetsGo s ((number, target) ∷ []) a o t → Executed s (Unwatch number target) (change_outcome o) t
  unfolding let_go-done
  unwatched a is there known o t went =
      gone s (Unwatch number target) ((number, target) ∷ []) (answer.Flag (is_target number target s.adapters)) refl
      (ap (λ (q : Option Refused). not (option_map_or is_plain q false)) (unwatch-free there known)) (unwatch-free there known) refl o t
      (subst (λ (b : Answer). LetsGo s ((number, target) ∷ []) b o t) is went)

---------------------------------------------------------------- detaching

counted-found : (number : AdapterNo) (rs : List Listed) → is_some (option_map (λ (r : Listed). r.view.told) (adapter number rs)) ≡ is_some (adapter number rs)
counted-found number rs = elim (adapter number rs) as (λ o. is_some (option_map (λ (r : Listed). r.view.told) o) ≡ is_some o) [ None ↦ refl | Some r ↦ refl ]

-- the adapter of a number is attached if its count was found
pub known : (rs : List Listed) (number : AdapterNo) (o : Option ℕ) (b : Bool) → o ≡ option_map (λ (r : Listed). r.view.told) (adapter number rs) → is_some o ≡ b → is_some (adapter number rs) ≡ b
known rs number o b counted is = sym (counted-found number rs) ∙ ap is_some (sym counted) ∙ is

-- these nodes, as targets of an adapter
abbrev spots_at : AdapterNo → List Target → List Spot
spots_at k ts = map (λ t. (k, t.node)) ts

own-all : (k : AdapterNo) (b : Bool) (ts : List Target) → map (λ t. (k, t.node)) (filter (λ t. true) ts) ≡ spots_at k ts
own-all k b [] = refl
own-all k b (t ∷ ts) = ap (λ (ss : List Spot). (k, t.node) ∷ ss) (own-all k b ts)

own-none : (k : AdapterNo) (ts : List Target) → spots_at k (filter (λ t. false) ts) ≡ []
own-none k [] = refl
own-none k (t ∷ ts) = own-none k ts

same-adapter : (j k : AdapterNo) → same_no j k ≡ true → k ≡ j
same-adapter j k h = ap (λ (m : ℕ). let n : AdapterNo = record { 0 = m } in n) (sym (eqb-true j.0 k.0 h))

spots-other : (number : AdapterNo) (rs : List Listed) → AllByRecursion (λ k. same_no number k ≡ false) (map (λ r. r.no) rs) → spots (is_of number) rs ≡ []
spots-other number [] apart = refl
spots-other number (r ∷ rs) apart =
    ap (λ b. spots_at r.no (filter (λ (t : Target). b) r.targets) ++ spots (is_of number) rs) apart.0
    ∙ ap (λ (ss : List Spot). ss ++ spots (is_of number) rs) (own-none r.no r.targets)
    ∙ spots-other number rs apart.1

-- the targets of one adapter
own-spots : (number : AdapterNo) (rs : List Listed) (a : Listed) → HasDistinctNumbers rs → adapter number rs ≡ Some a → map (λ t. (number, t.node)) a.targets ≡ spots (is_of number) rs
own-spots number [] a distinct h = absurd (none-some a h)
own-spots number (r ∷ rs) a distinct h =
    elim (has_no number r) as (λ b. has_no number r ≡ b → cond b (Some r) (adapter number rs) ≡ Some a → map (λ t. (number, t.node)) a.targets ≡ map (λ t. (r.no, t.node)) (filter (λ (t : Target). b) r.targets) ++ spots (is_of number) rs) [
      | true ↦ λ mine e.
          let is : r.no ≡ number = same-adapter number r.no mine in
          let apart : AllByRecursion (λ k. same_no number k ≡ false) (map (λ q. q.no) rs) = subst (λ (n : AdapterNo). AllByRecursion (λ k. same_no n k ≡ false) (map (λ q. q.no) rs)) is (IsDistinct-head same_no r.no (map (λ q. q.no) rs) distinct) in
          ap (λ (q : Listed). spots_at number q.targets) (sym (same_Some r a e))
          ∙ sym (ap (λ (n : AdapterNo). spots_at n r.targets) is)
          ∙ sym (own-all r.no true r.targets)
          ∙ sym (append-nil (map (λ t. (r.no, t.node)) (filter (λ (t : Target). true) r.targets)))
          ∙ ap (λ (ss : List Spot). map (λ t. (r.no, t.node)) (filter (λ (t : Target). true) r.targets) ++ ss) (sym (spots-other number rs apart))
      | false ↦ λ other e.
          own-spots number rs a (IsDistinct-tail same_no r.no (map (λ q. q.no) rs) distinct) e
          ∙ sym (ap (λ (ss : List Spot). ss ++ spots (is_of number) rs) (own-none r.no r.targets))
    ] refl h

module _ (s : State) (number : AdapterNo) where
  -- the targets of the adapter, if it is attached
  targets_of : Option Listed → Option (List Target)
  targets_of o = option_map (λ (r : Listed). r.targets) o

  detach-free : (o : Option Listed) → adapter number s.adapters ≡ o → is_some o ≡ true → refusal_of s (Detach number) ≡ None
  detach-free o e some = refusal_quiet (reads s).above (NoAdapter unless is_some (adapter number s.adapters)) s.adapters ∙ ap (λ (q : Option Listed). NoAdapter unless is_some q) e ∙ ap (λ b. NoAdapter unless b) some

  -- facts about an adapter that has these targets
  Known : List Target → Type 0
  Known ts = (refusal_of s (Detach number) ≡ None) × (spots_at number ts ≡ spots (is_of number) s.adapters)

  own : (ts : List Target) → HasDistinctNumbers s.adapters → Some ts ≡ option_map (λ (r : Listed). r.targets) (adapter number s.adapters) → Known ts
  unfolding Known
  own ts distinct some =
      elim (adapter number s.adapters) as (λ o. adapter number s.adapters ≡ o → Some ts ≡ option_map (λ (r : Listed). r.targets) o → (refusal_of s (Detach number) ≡ None) × (spots_at number ts ≡ spots (is_of number) s.adapters)) [
        | None ↦ λ _ none. absurd (none-some ts (sym none))
        | Some r ↦ λ e is. (detach-free (Some r) e refl, ap (λ (qs : List Target). spots_at number qs) (same_Some ts r.targets is) ∙ own-spots number s.adapters r distinct e)
      ] refl some

  pub detached : (ts : List Target) → HasDistinctNumbers s.adapters → Some ts ≡ option_map (λ (r : Listed). r.targets) (adapter number s.adapters)
      → (o : Result (Reply View) Refused) (t : State) → LetsGo s (map (λ q. (number, q.node)) ts) answer.Done o t → Executed s (Detach number) (change_outcome o) t
  unfolding let_go-done Known
  detached ts distinct some o t went =
      let has = own ts distinct some in
      gone s (Detach number) (spots (is_of number) s.adapters) answer.Done refl (ap (λ (q : Option Refused). not (option_map_or is_plain q false)) has.0) has.0 refl o t
      (subst (λ (ss : List Spot). LetsGo s ss answer.Done o t) has.1 went)

  pub detach_wanting : (ts : List Target) → HasDistinctNumbers s.adapters → Some ts ≡ option_map (λ (r : Listed). r.targets) (adapter number s.adapters) → Executed s (Detach number) (Err (record { refused = Memory; given_back = None })) s
  unfolding Known
  detach_wanting ts distinct some = record { may = ap (λ (q : Option Refused). not (option_map_or is_plain q false)) (own ts distinct some).0; outcome = refl; state = refl }

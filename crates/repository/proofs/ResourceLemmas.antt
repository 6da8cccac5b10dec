-- The text of a new resource.
use Rattle.std.proofs.Common.{◌≡◌, ℕ, Bool, true, false, ◌&&◌, not, IsTrue, List, [], ◌++◌, length, nat_lt, Option, Some, None, is_some, option_map, Ok, Err, if◌then◌else◌, refl, sym, ap, ◌∙◌}
use Rattle.std.specs.Prelude.{MatchBool}
use Rattle.std.specs.Option.{option_map_or}
use Rattle.mm_types.specs.Conditions.{◌else_by◌, ◌unless◌, ◌where_so◌, is_memory_refusal}
use Rattle.mm_types.specs.declared.limits.TheConstants.{RESOURCES}
use Rattle.mm_types.specs.declared.refused.Refused.{Refused}
use Rattle.mm_types.specs.declared.refused.Refused.TheVariants.{AdapterFull, BadUri, Limit, ResourceExists, TextLength}
use Rattle.notice_chain.specs.Listed.{is_chain_full, tell_chain, told_list}
use Rattle.notice_chain.specs.Released.{Released, released_adapters}
use Rattle.web_uris.proofs.JoinFacts.{joined_uri-web}
use Rattle.web_uris.specs.Joined.{IsWebUri, joined_uri}
use Rattle.models.specs.Legal.{is_short_text}
use Rattle.models.specs.Reading.{has_uri}
use Rattle.handshake.specs.Effects as effects
use Rattle.handshake.specs.FeatureChanges.{chain}
use Rattle.handshake.specs.declared.change.Change.TheVariants.{NewResource}
use Rattle.repository.specs.Answers.{answer_of}
use Rattle.repository.specs.Run.{Executed, IsWanting, is_memory, is_plain, may_want_memory}
use Rattle.repository.specs.State.{State, reads}
use Rattle.repository.specs.Step.{Stepped, refusal_of, refused_step, step, step_unless}
use Rattle.repository.specs.Views.{Outcome}
use Rattle.repository.specs.declared.command.Command.TheVariants.{CreateResource}
use Rattle.change_plans.proofs.RefusalLemmas.{IsNot, later-not, unless-not, where-not}

module _ (s : State) where
  -- an adapter that is notified of a resource with this URI can't count any further
  full_for : Option (List ℕ) → Option Refused
  full_for uri = AdapterFull where_so is_chain_full (reads s).above (option_map_or (chain (reads s)) (option_map NewResource uri) []) s.adapters

  -- the refusal of the resource, by whether the text is short and by the URI that it gives
  asked : Bool → Option (List ℕ) → Option Refused
  asked short uri =
      (TextLength unless (short && option_map_or is_short_text uri true) else_by
      (Limit unless nat_lt (length (reads s).uris) RESOURCES else_by
      (BadUri unless is_some uri else_by
      (ResourceExists where_so option_map_or (has_uri (reads s)) uri false)))) else_by full_for uri

  refusal-asked : (t : List ℕ) → refusal_of s (CreateResource t) ≡ asked (is_short_text t) (joined_uri [] t)
  unfolding asked full_for
  refusal-asked t = refl

  asked-not-plain : (short : Bool) (uri : Option (List ℕ)) → IsNot is_plain (asked short uri)
  unfolding asked full_for
  asked-not-plain short uri =
      later-not is_plain _ _
      (later-not is_plain _ _ (unless-not is_plain TextLength (short && option_map_or is_short_text uri true) refl)
      (later-not is_plain _ _ (unless-not is_plain Limit (nat_lt (length (reads s).uris) RESOURCES) refl)
      (later-not is_plain _ _ (unless-not is_plain BadUri (is_some uri) refl) (where-not is_plain ResourceExists (option_map_or (has_uri (reads s)) uri false) refl))))
      (where-not is_plain AdapterFull _ refl)

  may-want-resource : (t : List ℕ) → IsTrue (may_want_memory s (CreateResource t))
  may-want-resource t = ap (λ (o : Option Refused). not (option_map_or is_plain o false)) (refusal-asked t) ∙ ap not (asked-not-plain (is_short_text t) (joined_uri [] t))

  resource-refused_step : (t : List ℕ) (r : Refused) → is_memory_refusal r ≡ false → asked (is_short_text t) (joined_uri [] t) ≡ Some r → Executed s (CreateResource t) (Err (record { refused = r; given_back = None })) s
  resource-refused_step t r other found = rw other (ap (step_unless s (CreateResource t)) (refusal-asked t ∙ found))

  pub too_long : (t : List ℕ) → is_short_text t ≡ false → Executed s (CreateResource t) (Err (record { refused = TextLength; given_back = None })) s
  unfolding asked
  too_long t long = resource-refused_step t TextLength refl (ap (λ (b : Bool). asked b (joined_uri [] t)) long)

  no-uri : (b : Bool) → nat_lt (length (reads s).uris) RESOURCES ≡ b → asked true None ≡ (if b then Some BadUri else Some Limit)
  unfolding asked
  no-uri true room = rw room refl
  no-uri false room = rw room refl

  ---------------------------------------------------------------- a text and the URI that it gives

  -- the step with this URI
  done_by : Option (List ℕ) → Stepped
  done_by uri =
      let ns = option_map_or (chain (reads s)) (option_map NewResource uri) [] in
      let x : Released = released_adapters [] (tell_chain (reads s).above ns s.adapters) in
      record {
        outcome = Ok (record { answer = answer_of (reads s) s.adapters (CreateResource []); told = told_list (reads s).above ns s.adapters ++ x.told; released = x.views });
        after = record { model = option_map_or (effects.model_after s.model) (option_map NewResource uri) s.model; adapters = x.others };
      }

  unless_by : Option Refused → Option (List ℕ) → Stepped
  unless_by (Some r) uri = refused_step s (CreateResource []) r
  unless_by None uri = done_by uri

  step_unless-by : (t : List ℕ) (o : Option Refused) → step_unless s (CreateResource t) o ≡ unless_by o (joined_uri [] t)
  unfolding done_by unless_by
  step_unless-by t None = refl
  step_unless-by t (Some r) = refl

  step-by : (t : List ℕ) → step s (CreateResource t) ≡ unless_by (asked (is_short_text t) (joined_uri [] t)) (joined_uri [] t)
  step-by t = step_unless-by t (refusal_of s (CreateResource t)) ∙ ap (λ (o : Option Refused). unless_by o (joined_uri [] t)) (refusal-asked t)

  as-short : (u : List ℕ) (b : Bool) → is_short_text u ≡ b → asked true (Some u) ≡ asked b (Some u)
  unfolding asked
  as-short u true short = refl
  as-short u false long = rw long refl

  -- a short text has the same step as its URI
  step-same : (t u : List ℕ) → is_short_text t ≡ true → joined_uri [] t ≡ Some u → IsWebUri u → step s (CreateResource t) ≡ step s (CreateResource u)
  step-same t u short gives web =
      let own = joined_uri-web [] u web in
      step-by t ∙ (λ i. unless_by (asked (short i) (gives i)) (gives i))
      ∙ ap (λ (o : Option Refused). unless_by o (Some u)) (as-short u (is_short_text u) refl)
      ∙ sym (step-by u ∙ (λ i. unless_by (asked (is_short_text u) (own i)) (own i)))

  pub as_uri : (t u : List ℕ) → is_short_text t ≡ true → joined_uri [] t ≡ Some u → IsWebUri u → (o : Outcome) (x : State) → Executed s (CreateResource u) o x → Executed s (CreateResource t) o x
  as_uri t u short gives web o x was =
      elim (is_memory o) as (λ b. MatchBool b (IsWanting s (CreateResource u) o x) (step s (CreateResource u) ≡ record { outcome = o; after = x }) → MatchBool b (IsWanting s (CreateResource t) o x) (step s (CreateResource t) ≡ record { outcome = o; after = x })) [
        | true ↦ λ w. record { may = may-want-resource t; outcome = w.outcome; state = w.state }
        | false ↦ λ done. step-same t u short gives web ∙ done
      ] was

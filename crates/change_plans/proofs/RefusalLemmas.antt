-- Which refusals planning never finds: out of memory is one of them.
use Rattle.std.proofs.Common.{◌≡◌, ℕ, Bool, true, false, not, ◌&&◌, List, length, Option, Some, None, nat_le, nat_lt, if◌then◌else◌, refl, sym, ap, subst, ◌∙◌}
use Rattle.std.specs.Prelude.{◌+◌, is_some}
use Rattle.std.specs.Option.{option_map_or}
use Rattle.mm_types.specs.Conditions.{◌else_by◌, ◌unless◌, ◌where_so◌, is_memory_refusal}
use Rattle.mm_types.specs.declared.limits.TheConstants.{OBJECTS, RESOURCES}
use Rattle.mm_types.specs.declared.refused.Refused.{Refused}
use Rattle.mm_types.specs.declared.refused.Refused.TheVariants.{WrongType, TextLength, Index, Duplicate, Bound, Recursive, Limit, ResourceExists, NotEmpty, NotProxy, Unloaded, Unresolved, Unmatched}
use Rattle.mm_types.specs.declared.end.End.{End}
use Rattle.mm_types.specs.declared.numbers.FeatureNo.{FeatureNo}
use Rattle.mm_types.specs.declared.numbers.ObjectNo.{ObjectNo}
use Rattle.mm_types.specs.declared.value.Value.{Value}
use Rattle.mm_types.specs.declared.value.Value.TheVariants as value
use Rattle.web_uris.specs.Addresses.{uri_part}
use Rattle.models.specs.Legal.{is_short, is_short_text}
use Rattle.models.specs.Reading.{Reading, has_uri, is_repeat, position_for, takes}
use Rattle.doc_loader.specs.Loading.{is_empty_resource}
use Rattle.handshake.specs.Displaced.{has_already}
use Rattle.handshake.specs.Refusals.{count_at, gain_refusal, is_at_limit, is_full_at, is_recursive, late_refusal, link_refusal, of_either, set_refusal, type_refusal, uri_refusal}
use Rattle.proxies.specs.Refusals.{is_mistyped, is_there_already, target_refusal}
use Rattle.handshake.specs.declared.change.Change.{Change}
use Rattle.handshake.specs.FeatureChanges.{resolves_all}
use Rattle.handshake.specs.declared.change.Change.TheVariants.{At, Create, NewResource, ResolveAll, Load}
use Rattle.handshake.specs.declared.act.Act.TheVariants.{Set, Add, Remove, RemoveValue, Move, Resolve}
use Rattle.proxies.specs.Resolving.{is_unmatched, proxy_at, target_at}
use Rattle.proxies.specs.declared.resolved_proxy.ResolvedProxy.{ResolvedProxy}

-- a result that is none of some refusals
abbrev pub IsNot : (Refused → Bool) → Option Refused → Type 0
IsNot q o = option_map_or q o false ≡ false

pub later-not : (q : Refused → Bool) (o p : Option Refused) → IsNot q o → IsNot q p → IsNot q (o else_by p)
later-not q None p a b = b
later-not q (Some r) p a b = a

pub where-not : (q : Refused → Bool) (r : Refused) (b : Bool) → q r ≡ false → IsNot q (r where_so b)
where-not q r true h = h
where-not q r false h = refl

pub unless-not : (q : Refused → Bool) (r : Refused) (b : Bool) → q r ≡ false → IsNot q (r unless b)
unless-not q r true h = refl
unless-not q r false h = h

either-not : (q : Refused → Bool) (b : Bool) (o p : Option Refused) → IsNot q o → IsNot q p → IsNot q (if b then o else p)
either-not q true o p x y = x
either-not q false o p x y = y

---------------------------------------------------------------- what planning finds

-- none of the refusals that planning finds is one of these
pub record IsNeverLate (q : Refused → Bool) : Type 0 where
  pub wrong_type : q WrongType ≡ false
  pub text_length : q TextLength ≡ false
  pub index : q Index ≡ false
  pub duplicate : q Duplicate ≡ false
  pub bound : q Bound ≡ false
  pub recursive : q Recursive ≡ false
  pub limit : q Limit ≡ false
  pub resource_exists : q ResourceExists ≡ false
  pub not_empty : q NotEmpty ≡ false
  pub not_proxy : q NotProxy ≡ false
  pub unloaded : q Unloaded ≡ false
  pub unresolved : q Unresolved ≡ false
  pub unmatched : q Unmatched ≡ false

module _ (q : Refused → Bool) (never : IsNeverLate q) where
  link-not : (r : Reading) (e : End) (o : ObjectNo) → IsNot q (link_refusal r e o)
  link-not r e o =
      later-not q _ _ (where-not q Bound (of_either (is_full_at r) r e o) never.bound)
      (later-not q _ _ (where-not q Recursive (is_recursive r e o) never.recursive) (where-not q Limit (of_either (is_at_limit r) r e o) never.limit))

  value-not : (r : Reading) (e : End) → IsNot q (Bound where_so is_full_at r e else_by (Limit where_so is_at_limit r e))
  value-not r e = later-not q _ _ (where-not q Bound (is_full_at r e) never.bound) (where-not q Limit (is_at_limit r e) never.limit)

  gain-not : (r : Reading) (e : End) (v : Value) → IsNot q (gain_refusal r e v)
  gain-not r e (value.Object o) = link-not r e o
  gain-not r e value.Null = value-not r e
  gain-not r e (value.Bool b) = value-not r e
  gain-not r e (value.Int n) = value-not r e
  gain-not r e (value.Text t) = value-not r e
  gain-not r e (value.Literal i) = value-not r e
  gain-not r e (value.Proxy t) = value-not r e

  set-not : (r : Reading) (e : End) (v : Value) → IsNot q (set_refusal r e v)
  set-not r e (value.Object o) = either-not q (has_already r e (value.Object o)) None (link_refusal r e o) refl (link-not r e o)
  set-not r e value.Null = refl
  set-not r e (value.Bool b) = refl
  set-not r e (value.Int n) = refl
  set-not r e (value.Text t) = refl
  set-not r e (value.Literal i) = refl
  set-not r e (value.Proxy t) = refl

  type-not : (r : Reading) (f : FeatureNo) (v : Value) → IsNot q (type_refusal r f v)
  type-not r f v = later-not q _ _ (unless-not q WrongType (takes r f v) never.wrong_type) (unless-not q TextLength (is_short v) never.text_length)

  uri-not : (r : Reading) (u : List ℕ) → IsNot q (uri_refusal r u)
  uri-not r u =
      later-not q _ _ (unless-not q TextLength (is_short_text u) never.text_length)
      (later-not q _ _ (unless-not q Limit (nat_lt (length r.uris) RESOURCES) never.limit) (where-not q ResourceExists (has_uri r u) never.resource_exists))

  resolve-not : (r : Reading) (e : End) (i : ℕ) (x : Option ResolvedProxy) → IsNot q (target_refusal r e i x)
  resolve-not r e i x =
      later-not q _ _ (where-not q WrongType (is_mistyped r e x) never.wrong_type)
      (later-not q _ _ (unless-not q Index (nat_lt i (count_at r e)) never.index)
      (later-not q _ _ (where-not q Duplicate (is_there_already r e x) never.duplicate)
      (later-not q _ _ (unless-not q NotProxy (is_some (proxy_at r e i)) never.not_proxy)
      (later-not q _ _ (where-not q Unloaded (option_map_or (λ (t : List ℕ). not (has_uri r (uri_part t))) (proxy_at r e i) false) never.unloaded)
      (later-not q _ _ (unless-not q Unresolved (is_some x) never.unresolved)
      (where-not q Unmatched (option_map_or (is_unmatched r e) x false) never.unmatched))))))

  pub late-not : (r : Reading) (c : Change) → IsNot q (late_refusal r c)
  late-not r (Create c) = unless-not q Limit (nat_lt r.next OBJECTS) never.limit
  late-not r (At e (Set v)) = later-not q _ _ (type-not r e.feature v) (set-not r e v)
  late-not r (At e (Add v i)) =
      later-not q _ _ (type-not r e.feature v)
      (later-not q _ _ (unless-not q Index (nat_le (position_for r e i) (count_at r e)) never.index)
      (either-not q (is_repeat r e v) (Duplicate where_so is_some i) (gain_refusal r e v) (where-not q Duplicate (is_some i) never.duplicate) (gain-not r e v)))
  late-not r (At e (Remove i)) = unless-not q Index (nat_lt i (count_at r e)) never.index
  late-not r (At e (RemoveValue v)) = type-not r e.feature v
  late-not r (At e (Move to from)) = unless-not q Index (nat_lt to (count_at r e) && nat_lt from (count_at r e)) never.index
  late-not r (NewResource u) = uri-not r u
  late-not r (At e (Resolve i)) = resolve-not r e i (target_at r e i)
  late-not r (Load k doc) =
      later-not q _ _ (unless-not q Limit (nat_le (r.next + length doc.objects) OBJECTS) never.limit) (unless-not q NotEmpty (is_empty_resource r k) never.not_empty)
  late-not r _ = refl

pub late-not-memory : (r : Reading) (c : Change) → IsNot is_memory_refusal (late_refusal r c)
late-not-memory r c = late-not is_memory_refusal (record { wrong_type = refl; text_length = refl; index = refl; duplicate = refl; bound = refl; recursive = refl; limit = refl; resource_exists = refl; not_empty = refl; not_proxy = refl; unloaded = refl; unresolved = refl; unmatched = refl }) r c

-- the refusal that planning finds is the one that it returns
pub late-refused : (r : Reading) (c : Change) (x : Refused) → late_refusal r c ≡ Some x → late_refusal r c ≡ (if is_memory_refusal x then None else Some x)
late-refused r c x found = found ∙ ap (λ (b : Bool). if b then None else Some x) (sym (subst (IsNot is_memory_refusal) found (late-not-memory r c)))

-- a change that is not the one that resolves all proxies
pub not-all : (c : Change) → (c ≡ ResolveAll → ⊥) → resolves_all c ≡ false
not-all ResolveAll none = absurd (none refl)
not-all _ none = refl

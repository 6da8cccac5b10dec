-- An index before which a list has no proxy, after an edit of the list.
use Rattle.std.proofs.Common.{◌≡◌, ℕ, suc, ◌-◌, ◌<◌, ◌≤◌, false, List, length, get_or, Option, Some, None, option_map, unwrap_or, refl, sym, ap, ◌∙◌, inl, inr, arith, true≢false}
use Rattle.std.specs.Prelude.{option_and_then}
use Rattle.std.specs.List.{insert, remove, slice_get}
use Rattle.std.specs.Option.{option_map_or}
use Rattle.std.proofs.lemmas.Bool.{cases_lt}
use Rattle.std.proofs.lemmas.Option.{none-some, slice_get-get_or}
use Rattle.mm_types.specs.declared.value.Value.{Value}
use Rattle.mm_types.specs.declared.value.Value.TheVariants as value
use Rattle.links.specs.Links.{text_of}
use Rattle.links.proofs.ListLemmas.{slice_get-remove_above, slice_get-remove_below, length_remove}
use Rattle.slot_lists.specs.Moved.{list_after_move}
use Rattle.end_values.specs.Proxies.{HasNoProxyBefore, is_proxy}

no_text : (v : Value) → is_proxy v ≡ false → text_of v ≡ None
no_text (value.Proxy t) plain = absurd (true≢false plain)
no_text value.Null plain = refl
no_text (value.Bool b) plain = refl
no_text (value.Int n) plain = refl
no_text (value.Text t) plain = refl
no_text (value.Literal k) plain = refl
no_text (value.Object o) plain = refl

-- a value is taken out past them
pub none_before-remove_past : (n i : ℕ) (vs : List Value) → n ≤ i → HasNoProxyBefore n vs → HasNoProxyBefore n (remove vs i)
none_before-remove_past n i vs le none k lt =
    ap (option_and_then text_of) (slice_get-remove_below vs i k (omega (arith, lt, le))) ∙ none k lt

-- a value is taken out among them
pub none_before-remove : (n i : ℕ) (vs : List Value) → HasNoProxyBefore n vs → HasNoProxyBefore (n - 1) (remove vs i)
none_before-remove n i vs none k lt = elim (cases_lt k i) [
  | inl below ↦ ap (option_and_then text_of) (slice_get-remove_below vs i k below) ∙ none k (omega (arith, lt))
  | inr past ↦ ap (option_and_then text_of) (slice_get-remove_above vs i k past) ∙ none (suc k) (omega (arith, lt))
]

-- a move takes a value out and puts it back
pub none_before-moved : (m n : ℕ) (vs : List Value) (to from : ℕ) → to < length vs → from < length vs
    → HasNoProxyBefore m (remove vs from)
    → ((ws : List Value) (v : Value) → to ≤ length ws → is_proxy v ≡ option_map_or is_proxy (slice_get vs from) false → HasNoProxyBefore m ws → HasNoProxyBefore n (insert ws to v))
    → HasNoProxyBefore n (list_after_move vs to from)
none_before-moved m n vs to from t f without put = elim (slice_get vs from) as (λ o. slice_get vs from ≡ o → HasNoProxyBefore n (unwrap_or (option_map (insert (remove vs from) to) o) vs)) [
  | None ↦ λ h. absurd (none-some (get_or vs from value.Null) (sym h ∙ slice_get-get_or vs from value.Null f))
  | Some v ↦ λ h. put (remove vs from) v (omega (arith, t, length_remove vs from f)) (sym (ap (λ (o : Option Value). option_map_or is_proxy o false) h)) without
] refl

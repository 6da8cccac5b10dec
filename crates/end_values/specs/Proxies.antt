-- An index before which a list has no proxy.
use Rattle.std.specs.Prelude.{◌≡◌, ℕ, ◌<◌, Bool, true, false, List, slice_get, None, option_and_then}
use Rattle.mm_types.specs.declared.value.Value.{Value}
use Rattle.mm_types.specs.declared.value.Value.TheVariants as value
use Rattle.links.specs.Links.{text_of}

abbrev pub is_proxy : Value → Bool
is_proxy (value.Proxy t) = true
is_proxy _ = false

-- no proxy is at an index below n
abbrev pub HasNoProxyBefore : ℕ → List Value → Type 0
HasNoProxyBefore n vs = (k : ℕ) → k < n → option_and_then text_of (slice_get vs k) ≡ None

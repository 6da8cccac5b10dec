-- The proxies of a model.
use Rattle.std.specs.Prelude.{ℕ, List, Contains, length}
use Rattle.mm_types.specs.declared.end.End.{End}
use Rattle.mm_types.specs.declared.value.Value.TheVariants as value
use Rattle.models.specs.Reading.{Reading}
use Rattle.proxies.specs.Proxies.{sites}

-- how many proxies the objects of a model have
abbrev pub proxies_len : Reading → ℕ
proxies_len r = length (sites r)

-- no end has a proxy
abbrev pub HasNoProxy : Reading → Type 0
HasNoProxy r = (e : End) (t : List ℕ) → Contains (r.values e) (value.Proxy t) → ⊥

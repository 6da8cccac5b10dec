-- Addresses of objects: the URI of a resource, `#`, and a fragment (RFC 3986, section 3.5).
use Rattle.std.specs.Prelude.{ℕ, ◌++◌, Bool, IsTrue, List, ◌∷◌, is_some}
use Rattle.std.specs.List.{after_first, before_first, list_any}
use Rattle.web_uris.specs.Joined.{IsJoined, IsWebUri, is_mark}
use Rattle.web_uris.specs.Paths.{parse}

-- whether a text has `#` in it
abbrev pub has_mark : List ℕ → Bool
has_mark t = list_any is_mark t

-- the text before the first `#`, or the whole text without a `#`; and `fragment_part`, the text after the first `#`, empty without a `#`
abbrev pub uri_part : List ℕ → List ℕ
uri_part t = before_first is_mark t

abbrev pub fragment_part : List ℕ → List ℕ
fragment_part t = after_first is_mark t

abbrev pub address_text : List ℕ → List ℕ → List ℕ
address_text uri fragment = uri ++ 35 ∷ fragment

-- the text of a proxy: a URI that is a result of joining, `#`, and a fragment
pub record IsProxyText (t : List ℕ) : Type 0 where
  pub mark : IsTrue (has_mark t)
  pub uri : IsJoined (uri_part t)
  pub fragment : IsTrue (is_some (parse (fragment_part t)))

-- the text of a proxy with a normalised URI
pub record IsSteadyProxy (t : List ℕ) : Type 0 where
  pub text : IsProxyText t
  pub steady : IsWebUri (uri_part t)

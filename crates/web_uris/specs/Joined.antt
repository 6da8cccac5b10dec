-- A reference joined with its base URI (RFC 3986, section 5, as the URL Standard has it).
use Rattle.std.specs.Prelude.{◌≡◌, ℕ, ◌||◌, ◌==◌, Bool, List, bytes_eq, codes, Option, Some, None, Result, Ok, Err, option_and_then, String, string_bytes, if◌then◌else◌}
use Rattle.std.specs.declared.alloc.Global.{Global}
use Rattle.std.specs.List.{list_any}
use Rattle.std.specs.Option.{option_or}
use Rattle.url.specs.Parser.{Parsed, parse_url}
use Rattle.url.specs.Parts.{Parts, serialize}
use Rattle.web_uris.specs.declared.joining.UriFault.{UriFault}
use Rattle.web_uris.specs.declared.joining.UriFault.TheVariants.{Bad, Memory}

abbrev pub if_parsed : Parsed Parts → Option Parts
if_parsed (Ok u) = Some u
if_parsed (Err e) = None

-- the parts of the URL that a reference gives relative to a base; none if the base can't be read as a URL, or if the reference can't be
-- read relative to it
abbrev pub reference_parts : List ℕ → List ℕ → Option Parts
reference_parts base reference = option_and_then (λ b. if_parsed (parse_url (Some b) reference)) (if_parsed (parse_url None base))

-- the parts of the URL that a reference gives by itself; if the reference can't be read by itself, the parts that it gives relative to the
-- base, if it gives any
abbrev pub parts_of : List ℕ → List ℕ → Option Parts
parts_of base reference = option_or (if_parsed (parse_url None reference)) (reference_parts base reference)

abbrev pub is_web : Parts → Bool
is_web u = bytes_eq u.scheme (codes "http") || bytes_eq u.scheme (codes "https")

-- whether a byte is `#`
abbrev pub is_mark : ℕ → Bool
is_mark c = c == 35

-- the text of a URL whose scheme is http or https, and that has no fragment; none for any other URL
abbrev pub web_text : Parts → Option (List ℕ)
web_text u = if is_web u then (if list_any is_mark (serialize u) then None else Some (serialize u)) else None

-- the URL that a text gives without a base, written as a text; none if the text gives no URL, or if the URL has a fragment, or a scheme
-- other than http and https
abbrev pub own_text : List ℕ → Option (List ℕ)
own_text u = option_and_then web_text (if_parsed (parse_url None u))

-- the URI u is normalised: its scheme is http or https, it has no fragment, and it is written as the crate `url` writes it. So joining u
-- with any base gives u
abbrev pub IsWebUri : List ℕ → Type 0
IsWebUri u = own_text u ≡ Some u

-- the URI that a reference gives by itself, or, if it gives none by itself, joined with a base. None if the reference gives no URI, or if
-- the URI that it gives has a fragment, or a scheme other than http and https
unfoldable pub joined_uri : List ℕ → List ℕ → Option (List ℕ)
joined_uri base reference = option_and_then web_text (parts_of base reference)

-- u is a result of joining: the URI that some reference gives with some base
pub record IsJoined (u : List ℕ) : Type 0 where
  pub base : List ℕ
  pub reference : List ℕ
  pub gives : joined_uri base reference ≡ Some u

-- the result is the text; or it is `Bad`, and there is no text; or it is `Memory`, whether there is a text or not
abbrev pub GivesText : Result (String Global) UriFault → Option (List ℕ) → Type 0
GivesText (Ok t) text = text ≡ Some (string_bytes t)
GivesText (Err Bad) text = text ≡ None
GivesText (Err Memory) text = Unit {0}

-- the result of joining is the URI; or it is `Bad`, and there is no URI; or it is `Memory`, whether there is a URI or not
abbrev pub Joins : Result (String Global) UriFault → List ℕ → List ℕ → Type 0
Joins result base reference = GivesText result (joined_uri base reference)

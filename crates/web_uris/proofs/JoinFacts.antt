-- Joining a URI that joining gave with any base gives it again, and the text of a valid URL of http or https is a URI of this kind.
use Rattle.std.proofs.Common.{◌≡◌, ℕ, Bool, true, false, cond, List, [], Option, Some, None, Ok, Err, ap, bytes_eq, refl, string_bytes, subst, ◌∙◌, sym}
use Rattle.std.specs.Prelude.{◌||◌, IfOk, Result, String, codes, is_some, option_and_then}
use Rattle.std.specs.List.{list_any}
use Rattle.std.specs.declared.alloc.Global.{Global}
use Rattle.std.proofs.lemmas.Option.{same_Some}
use Rattle.std.proofs.lemmas.Slice.Eq.{bytes_eq-Decides}
use Rattle.url.specs.Scheme.{default_port, scheme_type}
use Rattle.web_uris.specs.declared.joining.UriFault.{UriFault}
use Rattle.std.proofs.lemmas.Bool.{true≢false}
use Rattle.std.specs.Option.{option_or}
use Rattle.url.specs.Parser.{parse_url}
use Rattle.url.specs.Parts.{Parts, IsValid, kind_of, serialize}
use Rattle.url.specs.declared.scheme.SchemeType.TheVariants.{SpecialNotFile}
use Rattle.url.proofs.Theorems.{parse_url-serialize_special}
use Rattle.web_uris.specs.Joined.{GivesText, IsJoined, IsWebUri, if_parsed, is_mark, is_web, joined_uri, web_text}

-- a text that parses by itself is not joined with a base
first_of : (a b : Option Parts) (u : List ℕ) → option_and_then web_text a ≡ Some u → option_and_then web_text (option_or a b) ≡ Some u
first_of None b u known = absurd (true≢false (sym (ap is_some known)))
first_of (Some p) b u known = known

pub joined_uri-web : (base u : List ℕ) → IsWebUri u → joined_uri base u ≡ Some u
unfolding joined_uri
joined_uri-web base u known =
    first_of (if_parsed (parse_url None u)) (option_and_then (λ b. if_parsed (parse_url (Some b) u)) (if_parsed (parse_url None base))) u known

-- so joining gives the URI itself
pub web_joined : (u : List ℕ) → IsWebUri u → IsJoined u
web_joined u web = record { base = []; reference = u; gives = joined_uri-web [] u web }

pub web-serialize : (p : Parts) → IsValid p → kind_of p ≡ SpecialNotFile → web_text p ≡ Some (serialize p) → IsWebUri (serialize p)
web-serialize p valid special web = ap (λ r. option_and_then web_text (if_parsed r)) (parse_url-serialize_special p None valid special) ∙ web

http_special : scheme_type (codes "http") ≡ SpecialNotFile
unfolding scheme_type default_port
http_special = refl

https_special : scheme_type (codes "https") ≡ SpecialNotFile
unfolding scheme_type default_port
https_special = refl

special_as : (s w : List ℕ) → bytes_eq s w ≡ true → scheme_type w ≡ SpecialNotFile → scheme_type s ≡ SpecialNotFile
special_as s w same special = ap scheme_type ((bytes_eq-Decides s w).0 same) ∙ special

either_special : (s : List ℕ) (b c : Bool) → bytes_eq s (codes "http") ≡ b → bytes_eq s (codes "https") ≡ c → b || c ≡ true → scheme_type s ≡ SpecialNotFile
either_special s true c first second h = special_as s (codes "http") first http_special
either_special s false true first second h = special_as s (codes "https") second https_special
either_special s false false first second h = cc

web_scheme : (s : List ℕ) → bytes_eq s (codes "http") || bytes_eq s (codes "https") ≡ true → scheme_type s ≡ SpecialNotFile
web_scheme s h = either_special s _ _ refl refl h

no_text : {X : Type 0} (b c : Bool) (x t : X) → cond b (cond c None (Some x)) None ≡ Some t → (b ≡ true) × (x ≡ t)
no_text true true x t h = cc
no_text true false x t h = (refl, same_Some x t h)
no_text false c x t h = cc

-- so the text of a valid URL of http or https is a URI that joining gives
pub web-text : (u : Parts) (t : List ℕ) → IsValid u → web_text u ≡ Some t → IsWebUri t
web-text u t valid known =
    let (web, same) = no_text (is_web u) (list_any is_mark (serialize u)) (serialize u) t known in
    subst IsWebUri same (web-serialize u valid (web_scheme u.scheme web) (known ∙ ap Some (sym same)))

pub given-web : (u : Parts) (r : Result (String Global) UriFault) → IsValid u → GivesText r (web_text u) → IfOk r (λ t. IsWebUri (string_bytes t))
given-web u (Ok t) valid known = web-text u (string_bytes t) valid known
given-web u (Err e) valid known = tt

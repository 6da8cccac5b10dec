-- A URI that joining gives, `#` and a fragment are the text of a proxy.
use Rattle.std.proofs.Common.{◌≡◌, ◌∙◌, ◌∷◌, Bool, true, false, cond, List, Option, Some, None, ℕ, ap, refl, subst, sym}
use Rattle.std.specs.Prelude.{◌||◌, is_some, option_and_then}
use Rattle.std.specs.List.{list_any}
use Rattle.std.proofs.lemmas.List.Folds.{list_any-append}
use Rattle.std.proofs.lemmas.Option.{option_and_then_some, same_Some}
use Rattle.url.specs.Parts.{Parts, serialize}
use Rattle.web_uris.specs.Addresses.{IsProxyText, IsSteadyProxy, address_text, fragment_part, has_mark, uri_part}
use Rattle.web_uris.specs.Joined.{IsJoined, IsWebUri, is_mark, is_web, joined_uri, parts_of, web_text}
use Rattle.web_uris.specs.Paths.{parse}
use Rattle.web_uris.specs.declared.path.Path.{Path}
use Rattle.web_uris.proofs.CutLemmas.{after_around, before_around}
use Rattle.web_uris.proofs.JoinFacts.{web_joined}

unmarked_text : (b c : Bool) (x t : List ℕ) → list_any is_mark x ≡ c → cond b (cond c None (Some x)) None ≡ Some t → list_any is_mark t ≡ false
unmarked_text true true x t marks known = cc
unmarked_text true false x t marks known = ap (list_any is_mark) (sym (same_Some x t known)) ∙ marks
unmarked_text false c x t marks known = cc

web_text-unmarked : (o : Option Parts) (t : List ℕ) → option_and_then web_text o ≡ Some t → has_mark t ≡ false
web_text-unmarked o t known = option_and_then_some web_text o t known (λ u is text. unmarked_text (is_web u) (list_any is_mark (serialize u)) (serialize u) t refl text)

-- a URI that joining gives has no `#`
pub joined_unmarked : (uri : List ℕ) → IsJoined uri → has_mark uri ≡ false
unfolding joined_uri
joined_unmarked uri is = web_text-unmarked (parts_of is.base is.reference) uri is.gives

either_true : (b c : Bool) → b || (true || c) ≡ true
either_true true c = refl
either_true false c = refl

-- the URI of an address is found in it
pub uri-of_address : (uri rest : List ℕ) → IsJoined uri → uri_part (address_text uri rest) ≡ uri
uri-of_address uri rest is = before_around is_mark uri 35 rest (joined_unmarked uri is) refl

pub proxy_text : (uri rest : List ℕ) (p : Path) → IsJoined uri → parse rest ≡ Some p → IsProxyText (address_text uri rest)
proxy_text uri rest p is parsed =
    let none = joined_unmarked uri is in
    let marked : has_mark (address_text uri rest) ≡ true = list_any-append is_mark uri (35 ∷ rest) ∙ either_true (list_any is_mark uri) (list_any is_mark rest) in
    let after : fragment_part (address_text uri rest) ≡ rest = after_around is_mark uri 35 rest none refl in
    let read : is_some (parse (fragment_part (address_text uri rest))) ≡ true = ap (λ t. is_some (parse t)) after ∙ ap is_some parsed in
    record { mark = marked; uri = subst IsJoined (sym (uri-of_address uri rest is)) is; fragment = read }

-- if joining leaves a URI as it is, it leaves the URI of the address as it is
pub steady_proxy : (uri rest : List ℕ) (p : Path) → IsWebUri uri → parse rest ≡ Some p → IsSteadyProxy (address_text uri rest)
steady_proxy uri rest p web parsed =
    let is = web_joined uri web in
    record { text = proxy_text uri rest p is parsed; steady = subst IsWebUri (sym (uri-of_address uri rest is)) web }

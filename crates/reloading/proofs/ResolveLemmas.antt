-- The law on resolves: in a partly resolved model a proxy is resolved, and one or two fewer are left.
use Rattle.std.proofs.Common.{◌≡◌, ◌∙◌, ◌&&◌, ℕ, true, not, List, Option, Some, None, is_some, slice_get, refl, ap, subst, sym}
use Rattle.std.specs.Prelude.{option_and_then}
use Rattle.std.proofs.lemmas.Bool.{false≢true}
use Rattle.mm_types.specs.declared.numbers.FeatureNo.{FeatureNo}
use Rattle.mm_types.specs.declared.numbers.Node.TheVariants as node
use Rattle.mm_types.specs.declared.numbers.ObjectNo.{ObjectNo}
use Rattle.mm_types.specs.declared.numbers.ResourceNo.{ResourceNo}
use Rattle.mm_types.specs.Shapes.{Shape}
use Rattle.mm_types.specs.declared.value.Value.{Value}
use Rattle.mm_types.specs.declared.value.Value.TheVariants as value
use Rattle.mm_values.specs.Values.{ValuesState}
use Rattle.links.specs.Links.{Links, end, text_of}
use Rattle.models.specs.Legal.{IsLegal}
use Rattle.models.specs.Model.{Model, model_of, reading, values_at}
use Rattle.models.specs.Reading.{at_end}
use Rattle.proxies.specs.Resolving.{proxy_at}
use Rattle.handshake.proofs.KnownLemmas.{resource-shape}
use Rattle.containment.proofs.PartLemmas.{legal-at, values-linked}
use Rattle.doc_writer.proofs.PlainLemmas.{reference-of}
use Rattle.reloading.specs.Between.{Between}
use Rattle.reloading.specs.Laws.{ResolvesBetween}
use Rattle.reloading.specs.Proxies.{HasNoProxy}
use Rattle.reloading.proofs.AfterLemmas.{between-after, fewer-left}
use Rattle.reloading.proofs.MatchLemmas.{LeftProxy, early-none, late-none}

text-is : (v : Value) → is_some (text_of v) ≡ true → (t : List ℕ) × (v ≡ value.Proxy t)
text-is (value.Proxy t) h = (t, refl)
text-is _ h = absurd (false≢true h)

-- the proxy at a position that has one
pub text-at : (q : Option Value) → is_some (option_and_then text_of q) ≡ true → (t : List ℕ) × (q ≡ Some (value.Proxy t))
text-at None h = absurd (false≢true h)
text-at (Some v) h = let is = text-is v h in (is.0, ap (λ (w : Value). Some w) is.1)

-- no proxy is at a resource, since `contents` is a containment
pub none-at-root : (t : Model) → IsLegal t → (k : ResourceNo) (f : FeatureNo) (i : ℕ) → is_some (proxy_at (reading t) (at_end (node.Resource k) f) i) ≡ true → ⊥
none-at-root t legal k f i there =
    let e = at_end (node.Resource k) f in
    let x = text-at (slice_get (values_at t e) i) there in
    let v = value.Proxy x.0 in
    let linked = values-linked t e (reference-of t legal e i v x.1 refl) in
    let at = legal-at (reading t) e (end t.links e) i v (legal.links.ends e) (subst (λ (vs : List Value). slice_get vs i ≡ Some v) linked x.1) in
    false≢true (ap (λ (a : Shape). a.is_reference && not (is_some a.containing)) (sym (resource-shape (reading t) k f at.0)) ∙ at.1)

abbrev pub left-at : (s : Model) (w : ValuesState) (b : Links) → IsLegal s → IsLegal (model_of s.metamodel w b) → HasNoProxy (reading s) → Between (reading s) (reading (model_of s.metamodel w b))
    → (o : ObjectNo) (f : FeatureNo) (i : ℕ) → is_some (proxy_at (reading (model_of s.metamodel w b)) (at_end (node.Object o) f) i) ≡ true → LeftProxy
left-at s w b legal other none between o f i there =
    let x = text-at (slice_get (values_at (model_of s.metamodel w b) (at_end (node.Object o) f)) i) there in
    record { s = s; w = w; c = b; legal = legal; other = other; none = none; between = between; p = o; f = f; i = i; text = x.0; here = x.1 }

pub resolves-between : (s : Model) (w : ValuesState) (b : Links) → ResolvesBetween s w b
resolves-between s w b legal other none between o f i there =
    let left = left-at s w b legal other none between o f i there in
    record { early = early-none left; late = late-none left; between = between-after left; fewer = fewer-left left }

-- When a model is a partly resolved copy of a saved model: it has the same objects at the same addresses, and some values may still be
-- proxies.
use Rattle.std.specs.Prelude.{◌≡◌, ℕ, Bool, true, List, Contains, Some, is_some}
use Rattle.mm_types.specs.Ends.{has_value}
use Rattle.mm_types.specs.Shapes.{shape}
use Rattle.mm_types.specs.declared.numbers.FeatureNo.{FeatureNo}
use Rattle.mm_types.specs.declared.numbers.ObjectNo.{ObjectNo}
use Rattle.mm_types.specs.declared.numbers.Node.TheVariants as node
use Rattle.mm_types.specs.declared.value.Value.TheVariants as value
use Rattle.models.specs.Reading.{Reading, at_end, is_live}
use Rattle.fragment_paths.specs.Fragments.{address}
use Rattle.reloading.specs.Addressed.{meant_value}
use Rattle.reloading.specs.Alike.{HaveSame}

-- whether a feature of an object has a proxy with a given address as a value
abbrev pub has_proxy : Reading → ObjectNo → FeatureNo → List ℕ → Bool
has_proxy r o f a = has_value (r.values (at_end (node.Object o) f)) (value.Proxy a)

-- for each link of s with two ends: at both ends t has a proxy in place of the link, or at neither end. So if t has a proxy in place of
-- such a link, that proxy has a counterpart at the opposite end
abbrev pub AreBothOrNone : Reading → Reading → Type 0
AreBothOrNone s t =
    (f g : FeatureNo) (o b p q : ObjectNo) (x y : List ℕ) → (shape s.metamodel f).opposite ≡ Some g → Contains (s.values (at_end (node.Object o) f)) (value.Object b)
    → address s o ≡ Some x → address s b ≡ Some y → address t p ≡ Some x → address t q ≡ Some y → has_proxy t p f y ≡ has_proxy t q g x

-- t has the same contents as s, if a proxy counts as the object at its address; for each link of s with two ends, t has proxies at both
-- ends or at neither; and each live object of t is in a resource
pub record Between (s t : Reading) : Type 0 where
  pub same : HaveSame meant_value s t
  pub pairs : AreBothOrNone s t
  pub inside : (p : ObjectNo) → is_live t p ≡ true → is_some (address t p) ≡ true

-- If a partly resolved model has no proxies, it is isomorphic to the saved model.
use Rattle.std.proofs.Common.{◌≡◌, ◌∙◌, ℕ, List, map, refl, sym, subst}
use Rattle.std.specs.Prelude.{Contains}
use Rattle.mm_types.specs.declared.end.End.{End}
use Rattle.mm_types.specs.declared.numbers.Node.TheVariants as node
use Rattle.mm_types.specs.declared.numbers.ObjectNo.{ObjectNo}
use Rattle.mm_types.specs.declared.value.Value.{Value}
use Rattle.mm_types.specs.declared.value.Value.TheVariants as value
use Rattle.models.specs.Reading.{Reading, at_end, roots_end}
use Rattle.round_trip.proofs.ListLemmas.{each-of, map-each}
use Rattle.reloading.specs.Addressed.{meant_value, named_value}
use Rattle.reloading.specs.Alike.{Alike, IsThere}
use Rattle.reloading.specs.Between.{Between}
use Rattle.reloading.specs.Proxies.{HasNoProxy}

-- the two names differ only for proxies
name-same : (r : Reading) (v : Value) → ((t : List ℕ) → v ≡ value.Proxy t → ⊥) → named_value r v ≡ meant_value r v
name-same r (value.Proxy t) other = absurd (other t refl)
name-same r (value.Object o) other = refl
name-same r value.Null other = refl
name-same r (value.Bool x) other = refl
name-same r (value.Int x) other = refl
name-same r (value.Text x) other = refl
name-same r (value.Literal x) other = refl

names-same : (r : Reading) → HasNoProxy r → (e : End) → map (named_value r) (r.values e) ≡ map (meant_value r) (r.values e)
names-same r none e =
    map-each (named_value r) (meant_value r) (r.values e) (each-of _ (r.values e) (λ v there. name-same r v (λ t is. none e t (subst (Contains (r.values e)) is there))))

pub alike-of : (s t : Reading) → HasNoProxy s → HasNoProxy t → Between s t → Alike s t
alike-of s t first second b = record {
  uris = b.same.uris;
  roots = λ u k j x y. names-same t second (roots_end t j) ∙ b.same.roots u k j x y ∙ sym (names-same s first (roots_end s k));
  there = λ o a is. by o a (b.same.there o a is);
  back = b.same.back;
}
  where
    by : (o : ObjectNo) (a : List ℕ) → IsThere meant_value s t o a → IsThere named_value s t o a
    by o a h = record {
      object = h.object;
      at = h.at;
      same = record {
        class = h.same.class;
        values = λ f. names-same t second (at_end (node.Object h.object) f) ∙ h.same.values f ∙ sym (names-same s first (at_end (node.Object o) f));
        flags = h.same.flags;
      };
    }

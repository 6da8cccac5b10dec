-- A placed set of links of known kinds is determined by its ends.
use Rattle.std.proofs.Common.{◌≡◌, ◌≢◌, ℕ, List, Some, sym, ap, ◌∙◌, subst, arith}
use Rattle.std.specs.List.{slice_get}
use Rattle.links.proofs.CutLemmas.{indexed_at, indexed_near}
use Rattle.links.proofs.ScanLemmas.{same_links}
use Rattle.links.proofs.ShownLemmas.{shown_in}
use Rattle.links.specs.LegalSets.{AreOfKind, FarOfKind, IsPlaced, Kinds}
use Rattle.links.specs.Links.{In, Links, end}
use Rattle.links.specs.Indexed.{far_value, indexed_value}
use Rattle.links.specs.declared.link.Far.TheVariants.{At}
use Rattle.links.specs.declared.link.Far.{Far}
use Rattle.links.specs.declared.link.Link.{Link}
use Rattle.mm_types.specs.Same.{node_value}
use Rattle.mm_types.specs.declared.end.End.{End}
use Rattle.mm_types.specs.declared.value.Value.{Value}

module _ (kinds : Kinds) (s t : Links) (ls : IsPlaced s) (lt : IsPlaced t) (ks : AreOfKind kinds s) (kt : AreOfKind kinds t) (same : (e : End) → end s e ≡ end t e) where
  -- t has at a position the value that a link of s has there
  there : (l : Link) → In l s → (e : End) (k : ℕ) (v : Value) → indexed_value l e ≡ Some (k, v) → slice_get (end t e) k ≡ Some v
  there l h e k v at = sym (ap (λ (xs : List Value). slice_get xs k) (same e)) ∙ (ls.ends e).has k v (l, h, at)

  apart : (l : Link) (d : End) (j : ℕ) → In l s → l.far ≡ At d j → l.end ≢ d
  apart l d j h far q =
      let kind = subst (λ (x : Far). FarOfKind kinds l.end.feature x) far (ks l h).far in
      omega (arith, kind.2, ap (λ (x : End). x.feature.0) q)

  below : (l : Link) → In l s → In l t
  below l h = shown_in kinds t lt kt l (record {
    kind = ks l h;
    sides = ls.sides l h;
    near = there l h l.end l.index (far_value l.far) (indexed_near l);
    far = λ d j far. there l h d j (node_value l.end.node) (indexed_at l d j far (apart l d j h far));
  })

-- so if a store has the ends of an edited set, it has the edited set
pub same_by_ends : (kinds : Kinds) (s t : Links) → IsPlaced s → IsPlaced t → AreOfKind kinds s → AreOfKind kinds t → ((e : End) → end s e ≡ end t e) → s ≡ t
same_by_ends kinds s t ls lt ks kt same = same_links s t (below kinds s t ls lt ks kt same) (below kinds t s lt ls kt ks (λ e. sym (same e)))

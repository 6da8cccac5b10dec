-- Links coded as lists of numbers, and the order of these lists. Only the type of a set of links needs the codes and their order.
use Rattle.std.specs.Prelude.{◌≡◌, ℕ, zero, suc, List, [], ◌∷◌, Option, Some, None, refl}
use Rattle.std.specs.declared.cmp.Ordering.{Ordering}
use Rattle.std.specs.Ordering.{nat_cmp}
use Rattle.std.specs.Cmp.{IsTotalOrder}
use Rattle.std.specs.Cmp.Lexicographic.{slice_cmp, on_texts}
use Rattle.std.specs.FinSet.{IsAntisymmetric, nat_cmp-IsAntisymmetric, slice_cmp-IsAntisymmetric}
use Rattle.std.specs.Coded.{Coded, code_by, coded_list, coded_ℕ}
use Rattle.std.proofs.Common.{sym, ap, ◌∙◌}
use Rattle.mm_types.specs.declared.numbers.FeatureNo.{FeatureNo}
use Rattle.mm_types.specs.declared.numbers.Node.{Node}
use Rattle.mm_types.specs.declared.numbers.Node.TheVariants.{Object, Resource}
use Rattle.links.specs.declared.link.Far.{Far}
use Rattle.links.specs.declared.link.Far.TheVariants.{At, Alone, Proxy}
use Rattle.links.specs.declared.link.Link.{Link}

abbrev feature_code : Option FeatureNo → ℕ
feature_code None = zero
feature_code (Some f) = suc f.0

abbrev node_code : Node → List ℕ → List ℕ
node_code (Object o) rest = 0 ∷ o.0 ∷ rest
node_code (Resource r) rest = 1 ∷ r.0 ∷ rest

abbrev far_code : Far → List ℕ
far_code (At e j) = 0 ∷ j ∷ e.feature.0 ∷ node_code e.node []
far_code (Alone o) = 1 ∷ o.0 ∷ []
far_code (Proxy t) = 2 ∷ t

-- a link as a list of numbers
abbrev pub link_code : Link → List ℕ
link_code l = feature_code l.container ∷ l.index ∷ l.end.feature.0 ∷ node_code l.end.node (far_code l.far)

abbrev first : List ℕ → ℕ
first [] = 0
first (x ∷ xs) = x

abbrev rest : List ℕ → List ℕ
rest [] = []
rest (x ∷ xs) = xs

abbrev feature_of : ℕ → Option FeatureNo
feature_of zero = None
feature_of (suc f) = Some (record { 0 = f })

abbrev node_of : ℕ → ℕ → Node
node_of zero n = Object (record { 0 = n })
node_of (suc k) n = Resource (record { 0 = n })

abbrev node_in : List ℕ → Node
node_in c = node_of (first c) (first (rest c))

abbrev far_of : ℕ → List ℕ → Far
far_of zero c = At (record { node = node_in (rest (rest c)); feature = record { 0 = first (rest c) } }) (first c)
far_of (suc zero) c = Alone (record { 0 = first c })
far_of (suc (suc k)) c = Proxy c

abbrev pub link_of : List ℕ → Link
link_of c =
    record {
      end = record { node = node_in (rest (rest (rest c))); feature = record { 0 = first (rest (rest c)) } };
      index = first (rest c);
      far = far_of (first (rest (rest (rest (rest (rest c)))))) (rest (rest (rest (rest (rest (rest c))))));
      container = feature_of (first c);
    }

feature_back : (o : Option FeatureNo) → feature_of (feature_code o) ≡ o
feature_back None = refl
feature_back (Some f) = refl

node_back : (n : Node) (c : List ℕ) → node_in (node_code n c) ≡ n
node_back (Object o) c = refl
node_back (Resource r) c = refl

rest_back : (n : Node) (c : List ℕ) → rest (rest (node_code n c)) ≡ c
rest_back (Object o) c = refl
rest_back (Resource r) c = refl

far_back : (x : Far) → far_of (first (far_code x)) (rest (far_code x)) ≡ x
far_back (At e j) = λ i. At (record { node = node_back e.node [] i; feature = e.feature }) j
far_back (Alone o) = refl
far_back (Proxy t) = refl

pub link_back : (l : Link) → link_of (link_code l) ≡ l
link_back l = λ i.
    record {
      end = record { node = node_back l.end.node (far_code l.far) i; feature = l.end.feature };
      index = l.index;
      far = (ap (λ c. far_of (first c) (rest c)) (rest_back l.end.node (far_code l.far)) ∙ far_back l.far) i;
      container = feature_back l.container i;
    }

pub link_cmp : Link → Link → Ordering
link_cmp l m = slice_cmp nat_cmp (link_code l) (link_code m)

pub link_cmp_total : IsTotalOrder link_cmp
unfolding link_cmp
link_cmp_total = on_texts link_code

pub link_cmp_exact : IsAntisymmetric link_cmp
unfolding link_cmp
link_cmp_exact l m e =
    sym (link_back l) ∙ ap link_of (slice_cmp-IsAntisymmetric nat_cmp-IsAntisymmetric (link_code l) (link_code m) e) ∙ link_back m

abbrev pub coded_link : Coded Link
coded_link = code_by (List ℕ) (coded_list coded_ℕ) link_code link_of link_back

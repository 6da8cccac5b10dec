-- No two parts of a document have the same path, and each part that is no root comes after the part that contains it.
use Rattle.std.proofs.Common.{◌≡◌, ◌∙◌, ◌+◌, ◌<◌, ◌++◌, ℕ, zero, suc, true, false, cond, List, [], ◌∷◌, Option, Some, None, append_assoc, append-nil, length, length-append, map, take, refl, sym, ap, subst, arith}
use Rattle.std.specs.Prelude.{flat_map, option_map, slice_get, unwrap_or, if◌then◌else◌}
use Rattle.std.specs.List.{AllByRecursion, enumerate_from}
use Rattle.std.specs.Option.{option_map_or}
use Rattle.std.proofs.lemmas.List.{same_from_push, take_at}
use Rattle.std.proofs.lemmas.Option.{none-some, same_Some, slice_get_within}
use Rattle.serde_json.specs.Data.{Data, Members, depth}
use Rattle.serde_json.specs.Find.{as_array}
use Rattle.mm_types.specs.Lookups as lookups
use Rattle.mm_types.specs.Resolved.{Metamodel}
use Rattle.mm_types.specs.Shapes.{is_containment, shape}
use Rattle.mm_types.specs.declared.numbers.ClassNo.{ClassNo}
use Rattle.mm_types.specs.declared.numbers.FeatureNo.{FeatureNo}
use Rattle.web_uris.specs.Paths.{new_path, new_step, same_path, with_step}
use Rattle.web_uris.specs.declared.path.Path.{Path}
use Rattle.web_uris.specs.declared.path.Step.{Step}
use Rattle.doc_parts.specs.Layout.{Top, top}
use Rattle.doc_parts.specs.Parts.{Entry, Part, class_and_members, content_at, entries, entries_in, entry_at, list_of, new_entry, number_of, parts, parts_from, parts_in, root_parts, step_to, values_of}
use Rattle.doc_parts.proofs.WayLemmas.{number_tells, position_cons, same_path_tells}
use Rattle.doc_loader.proofs.GainLemmas.{got_left, got_mid}
use Rattle.doc_loader.proofs.PairLemmas.{AllPairs, Apart, all-at, all-every, all-flat_map, all-flat_map_every, all-map, all-more, apart-both, apart-filter_map, apart-flat_map, apart-map, pairs-of}

---------------------------------------------------------------- paths

pub step-same : (p q : Path) (s t : Step) → with_step p s ≡ with_step q t → (p ≡ q) × (s ≡ t)
step-same p q s t h =
    let roots = ap (λ (x : Path). x.root) h in
    let both = same_from_push p.steps q.steps s t (ap (λ (x : Path). x.steps) h) in
    ((λ i. record { root = roots i; steps = both.0 i }), both.1)

pub not-root : (i : ℕ) (r : Path) (s : Step) → new_path i [] ≡ with_step r s → ⊥
not-root i r s h = let e = ap (λ (x : Path). length x.steps) h in let n = length-append r.steps (s ∷ []) in omega (arith, e, n)

-- a path goes on from another
record Extends (p q : Path) : Type 0 where
  more : List Step
  root : q.root ≡ p.root
  steps : q.steps ≡ p.steps ++ more

extends-self : (p : Path) → Extends p p
extends-self p = record { more = []; root = refl; steps = sym (append-nil p.steps) }

extends-step : (p q : Path) (s : Step) → Extends (with_step p s) q → Extends p q
extends-step p q s h = record { more = s ∷ h.more; root = h.root; steps = h.steps ∙ append_assoc p.steps (s ∷ []) h.more }

same-front : (xs ys us vs : List Step) → length xs ≡ length ys → xs ++ us ≡ ys ++ vs → xs ≡ ys
same-front xs ys us vs long h = sym (take_at xs us (length xs) refl) ∙ ap (take (length xs)) h ∙ take_at ys vs (length xs) (sym long)

extends-one : (p q x y : Path) → length p.steps ≡ length q.steps → Extends p x → Extends q y → x ≡ y → p ≡ q
extends-one p q x y long a b h =
    let roots = sym a.root ∙ ap (λ (z : Path). z.root) h ∙ b.root in
    let steps = same-front p.steps q.steps a.more b.more long (sym a.steps ∙ ap (λ (z : Path). z.steps) h ∙ b.steps) in
    λ i. record { root = roots i; steps = steps i }

---------------------------------------------------------------- what is below a part

-- the part is by a step of a name
abbrev IsNamed : Path → List ℕ → Part → Type 0
IsNamed r name c = (i : Option ℕ) × (c.path ≡ with_step r (new_step name i))

abbrev IsChild : Path → Part → Type 0
IsChild r c = (s : Step) × (c.path ≡ with_step r s)

abbrev pub HaveOtherPaths : Part → Part → Type 0
HaveOtherPaths p q = p.path ≡ q.path → ⊥

abbrev part_at : Metamodel → Path → FeatureNo → ℕ × Data → Part
part_at m r f v = record { path = with_step r (step_to m f v.0); json = v.1 }

named-in : (m : Metamodel) (r : Path) (e : Entry) → AllByRecursion (IsNamed r (lookups.feature_name m e.feature)) (parts_in m r e)
named-in m r e =
    elim (is_containment m e.feature) as (λ b. AllByRecursion (IsNamed r (lookups.feature_name m e.feature)) (if b then map (part_at m r e.feature) (enumerate_from 0 (values_of m e)) else [])) [
      | true ↦ all-map (IsNamed r (lookups.feature_name m e.feature)) (part_at m r e.feature) (enumerate_from 0 (values_of m e)) (all-every (λ v. IsNamed r (lookups.feature_name m e.feature) (part_at m r e.feature v)) (enumerate_from 0 (values_of m e)) (λ v. ((if (shape m e.feature).is_single then None else Some v.0), refl)))
      | false ↦ tt
    ]

child-of : (r : Path) (name : List ℕ) (c : Part) → IsNamed r name c → IsChild r c
child-of r name c h = (new_step name h.0, h.1)

children : (m : Metamodel) (r : Path) (es : List Entry) → AllByRecursion (IsChild r) (flat_map (parts_in m r) es)
children m r es = all-flat_map_every (IsChild r) (parts_in m r) es (λ e. all-more (IsNamed r (lookups.feature_name m e.feature)) (IsChild r) (parts_in m r e) (child-of r (lookups.feature_name m e.feature)) (named-in m r e))

-- the numbered parts under a name have different paths than a part of a lower number
numbered-apart : (r : Path) (name : List ℕ) (j i : ℕ) (ds : List Data) → j < i → AllByRecursion (λ (v : ℕ × Data). with_step r (new_step name (Some j)) ≡ with_step r (new_step name (Some v.0)) → ⊥) (enumerate_from i ds)
numbered-apart r name j i [] lt = tt
numbered-apart r name j i (d ∷ ds) lt = (
  (λ h. (let e = same_Some j i (ap (λ (s : Step). s.index) (step-same r r (new_step name (Some j)) (new_step name (Some i)) h).1) in omega (arith, e, lt))),
  numbered-apart r name j (i + 1) ds (omega (arith, lt)),
)

list-apart : (r : Path) (name : List ℕ) (i : ℕ) (ds : List Data) → Apart (λ (v w : ℕ × Data). with_step r (new_step name (Some v.0)) ≡ with_step r (new_step name (Some w.0)) → ⊥) (enumerate_from i ds)
list-apart r name i [] = tt
list-apart r name i (d ∷ ds) = (numbered-apart r name i (i + 1) ds (omega arith), list-apart r name (i + 1) ds)

entry-apart : (m : Metamodel) (r : Path) (e : Entry) → Apart HaveOtherPaths (parts_in m r e)
entry-apart m r e =
    let name = lookups.feature_name m e.feature in
    elim (is_containment m e.feature) as (λ b. Apart HaveOtherPaths (if b then map (part_at m r e.feature) (enumerate_from 0 (values_of m e)) else [])) [
      | true ↦
          apart-map HaveOtherPaths (part_at m r e.feature) (enumerate_from 0 (values_of m e))
          (elim (shape m e.feature).is_single as (λ b. Apart (λ (v w : ℕ × Data). with_step r (new_step (lookups.feature_name m e.feature) (if b then None else Some v.0)) ≡ with_step r (new_step (lookups.feature_name m e.feature) (if b then None else Some w.0)) → ⊥) (enumerate_from 0 (if b then e.content ∷ [] else option_map_or list_of (as_array e.content) []))) [
            | true ↦ (tt, tt)
            | false ↦ list-apart r (lookups.feature_name m e.feature) 0 (option_map_or list_of (as_array e.content) [])
          ])
      | false ↦ tt
    ]

abbrev pub HaveOtherNames : Metamodel → Entry → Entry → Type 0
HaveOtherNames m d e = lookups.feature_name m d.feature ≡ lookups.feature_name m e.feature → ⊥

across-entries : (m : Metamodel) (r : Path) (d e : Entry) → HaveOtherNames m d e → AllPairs HaveOtherPaths (parts_in m r d) (parts_in m r e)
across-entries m r d e other =
    pairs-of (IsNamed r (lookups.feature_name m d.feature)) (IsNamed r (lookups.feature_name m e.feature)) HaveOtherPaths (parts_in m r d) (parts_in m r e)
    (λ x y a b h. other (ap (λ (s : Step). s.name) (step-same r r (new_step (lookups.feature_name m d.feature) a.0) (new_step (lookups.feature_name m e.feature) b.0) (sym a.1 ∙ h ∙ b.1)).1))
    (named-in m r d) (named-in m r e)

---------------------------------------------------------------- names

-- no two features of a class share a name
abbrev pub NamesAreApart : Metamodel → Type 0
NamesAreApart m = (c : ClassNo) → Apart (λ f g. lookups.feature_name m f ≡ lookups.feature_name m g → ⊥) (unwrap_or (lookups.features m c) [])

pub entry-feature : (f : FeatureNo) (o : Option Data) (e : Entry) → option_map (new_entry f) o ≡ Some e → e.feature ≡ f
entry-feature f None e h = absurd (none-some e h)
entry-feature f (Some d) e h = ap (λ (x : Entry). x.feature) (sym (same_Some (new_entry f d) e h))

pub entries-apart : (m : Metamodel) → NamesAreApart m → (d : Data) → Apart (HaveOtherNames m) (entries m d)
entries-apart m names d = by (class_and_members m d)
  where
    by : (o : Option (ClassNo × Members)) → Apart (HaveOtherNames m) (option_map_or (λ k. entries_in m k.0 k.1) o [])
    by None = tt
    by (Some (c, ms)) =
        apart-filter_map (λ f g. lookups.feature_name m f ≡ lookups.feature_name m g → ⊥) (HaveOtherNames m) (entry_at m ms) (unwrap_or (lookups.features m c) [])
        (λ f g x y other a b h. other (ap (lookups.feature_name m) (sym (entry-feature f (content_at m ms f) x a)) ∙ h ∙ ap (lookups.feature_name m) (entry-feature g (content_at m ms g) y b))) (names c)

---------------------------------------------------------------- all parts

below-extends : (m : Metamodel) (n : ℕ) (p : Part) → AllByRecursion (λ q. Extends p.path q.path) (parts_from m n p)
below-extends m zero p = tt
below-extends m (suc n) p = (
  extends-self p.path,
  all-flat_map (IsChild p.path) (λ q. Extends p.path q.path) (parts_from m n) (flat_map (parts_in m p.path) (entries m p.json))
      (λ c is. all-more (λ q. Extends c.path q.path) (λ q. Extends p.path q.path) (parts_from m n c) (λ q h. extends-step p.path q.path is.0 (subst (λ (x : Path). Extends x q.path) is.1 h)) (below-extends m n c))
      (children m p.path (entries m p.json)),
)

abbrev HaveOtherWays : ℕ → Part → Part → Type 0
HaveOtherWays n p q = HaveOtherPaths p q × ((length p.path.steps ≡ n) × (length q.path.steps ≡ n))

across-parts : (m : Metamodel) (n k : ℕ) (p q : Part) → HaveOtherWays k p q → AllPairs HaveOtherPaths (parts_from m n p) (parts_from m n q)
across-parts m n k p q other =
    pairs-of (λ x. Extends p.path x.path) (λ y. Extends q.path y.path) HaveOtherPaths (parts_from m n p) (parts_from m n q)
    (λ x y a b h. other.0 (extends-one p.path q.path x.path y.path (other.1.0 ∙ sym other.1.1) a b h)) (below-extends m n p) (below-extends m n q)

child-length : (r : Path) (c : Part) → IsChild r c → length c.path.steps ≡ suc (length r.steps)
child-length r c h = let n = length-append r.steps (h.0 ∷ []) in let e = ap (λ (x : Path). length x.steps) h.1 in omega (arith, n, e)

-- the path of a part is no extension of the path of a part in it
not-itself : (p q : Part) (s : Step) → Extends (with_step p.path s) q.path → p.path ≡ q.path → ⊥
not-itself p q s h same =
    let e = ap length (ap (λ (x : Path). x.steps) same ∙ h.steps) in
    let a = length-append (p.path.steps ++ s ∷ []) h.more in
    let b = length-append p.path.steps (s ∷ []) in
    omega (arith, e, a, b)

module _ (m : Metamodel) (names : NamesAreApart m) where
  list-of-parts : (n k : ℕ) (ps : List Part) → Apart HaveOtherPaths ps → AllByRecursion (λ p. length p.path.steps ≡ k) ps → ((p : Part) → Apart HaveOtherPaths (parts_from m n p)) → Apart HaveOtherPaths (flat_map (parts_from m n) ps)
  list-of-parts n k ps apart long each = apart-flat_map (HaveOtherWays k) HaveOtherPaths (parts_from m n) ps each (λ p q r. across-parts m n k p q r) (apart-both HaveOtherPaths (λ p. length p.path.steps ≡ k) ps apart long)

  parts-apart : (n : ℕ) (p : Part) → Apart HaveOtherPaths (parts_from m n p)
  parts-apart zero p = tt
  parts-apart (suc n) p =
      let cs = flat_map (parts_in m p.path) (entries m p.json) in (
        all-flat_map (IsChild p.path) (HaveOtherPaths p) (parts_from m n) cs
            (λ c is. all-more (λ q. Extends c.path q.path) (HaveOtherPaths p) (parts_from m n c) (λ q h. not-itself p q is.0 (subst (λ (x : Path). Extends x q.path) is.1 h)) (below-extends m n c))
            (children m p.path (entries m p.json)),
        list-of-parts n (suc (length p.path.steps)) cs
            (apart-flat_map (HaveOtherNames m) HaveOtherPaths (parts_in m p.path) (entries m p.json) (entry-apart m p.path) (across-entries m p.path) (entries-apart m names p.json))
            (all-more (IsChild p.path) (λ c. length c.path.steps ≡ suc (length p.path.steps)) cs (child-length p.path) (children m p.path (entries m p.json)))
            (parts-apart n),
      )

  abbrev root_at : ℕ × Data → Part
  root_at v = record { path = new_path v.0 []; json = v.1 }

  root-apart : (j i : ℕ) (ds : List Data) → j < i → AllByRecursion (λ (v : ℕ × Data). new_path j [] ≡ new_path v.0 [] → ⊥) (enumerate_from i ds)
  root-apart j i [] lt = tt
  root-apart j i (d ∷ ds) lt = ((λ h. (let e = ap (λ (x : Path). x.root) h in omega (arith, e, lt))), root-apart j (i + 1) ds (omega (arith, lt)))

  numbers-apart : (i : ℕ) (ds : List Data) → Apart (λ (v w : ℕ × Data). new_path v.0 [] ≡ new_path w.0 [] → ⊥) (enumerate_from i ds)
  numbers-apart i [] = tt
  numbers-apart i (d ∷ ds) = (root-apart i (i + 1) ds (omega arith), numbers-apart (i + 1) ds)

  pub roots-apart : (d : Data) → Apart HaveOtherPaths (root_parts d)
  roots-apart d = by (top d)
    where
      by : (o : Option Top) → Apart HaveOtherPaths (option_map_or (λ t. map (λ v. record { path = new_path v.0 []; json = v.1 }) (enumerate_from 0 (list_of t.roots))) o [])
      by None = tt
      by (Some t) = apart-map HaveOtherPaths root_at (enumerate_from 0 (list_of t.roots)) (numbers-apart 0 (list_of t.roots))

  abbrev IsRoot : Part → Type 0
  IsRoot p = (i : ℕ) × (p.path ≡ new_path i [])

  pub roots-are : (d : Data) → AllByRecursion IsRoot (root_parts d)
  roots-are d = by (top d)
    where
      by : (o : Option Top) → AllByRecursion IsRoot (option_map_or (λ t. map (λ v. record { path = new_path v.0 []; json = v.1 }) (enumerate_from 0 (list_of t.roots))) o [])
      by None = tt
      by (Some t) = all-map IsRoot root_at (enumerate_from 0 (list_of t.roots)) (all-every (λ v. IsRoot (root_at v)) (enumerate_from 0 (list_of t.roots)) (λ v. (v.0, refl)))

  -- no two parts have the same path
  pub all-apart : (d : Data) → Apart HaveOtherPaths (parts m d)
  unfolding parts
  all-apart d = list-of-parts (depth d) 0 (root_parts d) (roots-apart d) (all-more IsRoot (λ p. length p.path.steps ≡ 0) (root_parts d) (λ p is. ap (λ (x : Path). length x.steps) is.1) (roots-are d)) (parts-apart (depth d))

---------------------------------------------------------------- what comes before

-- if the path of a part ends with a step, the part with the path before this step is among some parts
abbrev HasWhole : List Part → Part → Type 0
HasWhole seen q = (r : Path) (s : Step) → q.path ≡ with_step r s → (k : ℕ) × (x : Part) × (slice_get seen k ≡ Some x) × (x.path ≡ r)

abbrev Follows : List Part → List Part → Type 0
Follows seen [] = Unit {0}
Follows seen (q ∷ qs) = HasWhole seen q × Follows (seen ++ q ∷ []) qs

follows-append : (seen xs ys : List Part) → Follows seen xs → Follows (seen ++ xs) ys → Follows seen (xs ++ ys)
follows-append seen [] ys a b = subst (λ (s : List Part). Follows s ys) (append-nil seen) b
follows-append seen (x ∷ xs) ys a b = (a.0, follows-append (seen ++ x ∷ []) xs ys a.1 (subst (λ (s : List Part). Follows s ys) (sym (append_assoc seen (x ∷ []) xs)) b))

whole-more : (seen more : List Part) (q : Part) → HasWhole seen q → HasWhole (seen ++ more) q
whole-more seen more q h r s is = let w = h r s is in (w.0, w.1, got_left seen more w.0 w.1 w.2, w.3)

follows-list : (f : Part → List Part) (ps seen : List Part) → ((p : Part) (s : List Part) → HasWhole s p → Follows s (f p)) → AllByRecursion (HasWhole seen) ps → Follows seen (flat_map f ps)
follows-list f [] seen each all = tt
follows-list f (p ∷ ps) seen each all =
    follows-append seen (f p) (flat_map f ps) (each p seen all.0)
    (follows-list f ps (seen ++ f p) each (all-more (HasWhole seen) (HasWhole (seen ++ f p)) ps (whole-more seen (f p)) all.1))

child-whole : (seen : List Part) (p c : Part) → IsChild p.path c → HasWhole (seen ++ p ∷ []) c
child-whole seen p c child r s is = (length seen, p, got_mid seen p [], sym (step-same r p.path s child.0 (sym is ∙ child.1)).0)

follows-from : (m : Metamodel) (n : ℕ) (p : Part) (seen : List Part) → HasWhole seen p → Follows seen (parts_from m n p)
follows-from m zero p seen whole = tt
follows-from m (suc n) p seen whole =
    let cs = flat_map (parts_in m p.path) (entries m p.json) in
    (whole, follows-list (parts_from m n) cs (seen ++ p ∷ []) (follows-from m n) (all-more (IsChild p.path) (HasWhole (seen ++ p ∷ [])) cs (child-whole seen p) (children m p.path (entries m p.json))))

follows-at : (seen ps : List Part) (j : ℕ) (q : Part) → Follows seen ps → slice_get ps j ≡ Some q → (r : Path) (s : Step) → q.path ≡ with_step r s
    → (i : ℕ) × (x : Part) × (slice_get (seen ++ ps) i ≡ Some x) × (x.path ≡ r) × (i < length seen + j)
follows-at seen [] j q all at r s is = absurd (none-some q at)
follows-at seen (p ∷ ps) zero q all at r s is =
    let w = all.0 r s (ap (λ (x : Part). x.path) (same_Some p q at) ∙ is) in
    let low = slice_get_within seen w.0 w.1 w.2 in
    (w.0, w.1, got_left seen (p ∷ ps) w.0 w.1 w.2, w.3, omega (arith, low))
follows-at seen (p ∷ ps) (suc j) q all at r s is =
    let w = follows-at (seen ++ p ∷ []) ps j q all.1 at r s is in
    let low = w.4 in
    let n = length-append seen (p ∷ []) in
    (w.0, w.1, ap (λ (xs : List Part). slice_get xs w.0) (sym (append_assoc seen (p ∷ []) ps)) ∙ w.2, w.3, omega (arith, low, n))

root-whole : (p : Part) → (i : ℕ) × (p.path ≡ new_path i []) → HasWhole [] p
root-whole p is r s h = absurd (not-root is.0 r s (sym is.1 ∙ h))

pub all-follow : (m : Metamodel) → NamesAreApart m → (d : Data) → Follows [] (parts m d)
unfolding parts
all-follow m names d = follows-list (parts_from m (depth d)) (root_parts d) [] (follows-from m (depth d)) (all-more (λ p. (i : ℕ) × (p.path ≡ new_path i [])) (HasWhole []) (root_parts d) root-whole (roots-are m names d))

---------------------------------------------------------------- numbers

apart-at : (ps : List Part) (j k : ℕ) (p q : Part) → Apart HaveOtherPaths ps → slice_get ps j ≡ Some p → slice_get ps k ≡ Some q → p.path ≡ q.path → j ≡ k
apart-at [] j k p q apart a b same = absurd (none-some p a)
apart-at (x ∷ xs) zero zero p q apart a b same = refl
apart-at (x ∷ xs) zero (suc k) p q apart a b same = absurd (all-at (HaveOtherPaths x) xs k q apart.0 b (ap (λ (y : Part). y.path) (same_Some x p a) ∙ same))
apart-at (x ∷ xs) (suc j) zero p q apart a b same = absurd (all-at (HaveOtherPaths x) xs j p apart.0 a (ap (λ (y : Part). y.path) (same_Some x q b) ∙ sym same))
apart-at (x ∷ xs) (suc j) (suc k) p q apart a b same = ap suc (apart-at xs j k p q apart.1 a b same)

number-later : (o : Option ℕ) (b : ℕ) → option_map suc o ≡ Some b → (c : ℕ) × (o ≡ Some c) × (b ≡ suc c)
number-later None b h = absurd (none-some b h)
number-later (Some c) b h = (c, refl, sym (same_Some (suc c) b h))

pub number-at : (ps : List Part) (q : Path) (b : ℕ) → number_of ps q ≡ Some b → (p : Part) × (slice_get ps b ≡ Some p) × (p.path ≡ q)
number-at [] q b h = cc
number-at (p ∷ ps) q b h =
    elim (same_path q p.path) as (λ t. same_path q p.path ≡ t → cond t (Some 0) (option_map suc (number_of ps q)) ≡ Some b → (x : Part) × (slice_get (p ∷ ps) b ≡ Some x) × (x.path ≡ q)) [
      | true ↦ λ is at. (p, ap (λ (n : ℕ). slice_get (p ∷ ps) n) (sym (same_Some 0 b at)), sym (same_path_tells q p.path is))
      | false ↦ λ is at.
          let l = number-later (number_of ps q) b at in
          let r = number-at ps q l.0 l.1 in
          (r.0, ap (λ (n : ℕ). slice_get (p ∷ ps) n) l.2 ∙ r.1, r.2)
    ] refl (sym (position_cons (λ (x : Part). same_path q x.path) p ps) ∙ h)

module _ (m : Metamodel) (names : NamesAreApart m) (d : Data) where
  -- a part has a higher number than the part that contains it
  pub part-later : (a b : ℕ) (p : Part) (s : Step) → slice_get (parts m d) a ≡ Some p → number_of (parts m d) (with_step p.path s) ≡ Some b → a < b
  part-later a b p s at number =
      let there = number-at (parts m d) (with_step p.path s) b number in
      let w = follows-at [] (parts m d) b there.0 (all-follow m names d) there.1 p.path s there.2 in
      let same = apart-at (parts m d) a w.0 p w.1 (all-apart m names d) at w.2 (sym w.3) in
      let low = w.4 in
      omega (arith, same, low)

  -- a part is at only one index
  pub part-once : (a c b : ℕ) (p q : Part) (s t : Step) → slice_get (parts m d) a ≡ Some p → slice_get (parts m d) c ≡ Some q
      → number_of (parts m d) (with_step p.path s) ≡ Some b → number_of (parts m d) (with_step q.path t) ≡ Some b → (a ≡ c) × (s ≡ t)
  part-once a c b p q s t at there x y =
      let same = step-same p.path q.path s t (number_tells (with_step p.path s) (with_step q.path t) (parts m d) b x y) in
      (apart-at (parts m d) a c p q (all-apart m names d) at there same.0, same.1)

-- The first proxy at a reference that leads to an object is found among all proxies of a legal model.
use Rattle.std.proofs.Common.{◌≡◌, append_assoc, get_or, take, ℕ, zero, suc, ◌+◌, ◌<◌, ◌≤◌, ◌&&◌, ◌||◌, nat_eq, Bool, true, false, List, [], ◌∷◌, ◌++◌, filter, flat_map, map, Option, Some, None, is_some, length, option_map, slice_get, if◌then◌else◌, refl, sym, ap, ◌∙◌, subst, arith}
use Rattle.std.specs.Prelude.{cond, option_and_then, position, unwrap_or}
use Rattle.std.specs.List.{list_any, range_with_len}
use Rattle.std.specs.Option.{option_map_or, option_or}
use Rattle.std.proofs.lemmas.Bool.{false≢true}
use Rattle.std.proofs.lemmas.Bool.Decides.{nat_tests}
use Rattle.std.proofs.lemmas.Grind.{flat_map-append}
use Rattle.std.proofs.lemmas.List.{append-nil, map-append, take_more}
use Rattle.std.proofs.lemmas.List.FromFn.{filter_of_map_range_with_len_more, map-range_with_len_more}
use Rattle.doc_parts.proofs.WayLemmas.{position_cons}
use Rattle.mm_types.specs.Lookups as lookups
use Rattle.mm_types.specs.Resolved.{Metamodel}
use Rattle.mm_types.specs.Shapes.{shape}
use Rattle.mm_types.specs.declared.end.End.{End}
use Rattle.mm_types.specs.declared.numbers.ClassNo.{ClassNo}
use Rattle.mm_types.specs.declared.numbers.FeatureNo.{FeatureNo}
use Rattle.mm_types.specs.declared.numbers.Node.TheVariants as node
use Rattle.mm_types.specs.declared.numbers.ObjectNo.{ObjectNo}
use Rattle.mm_types.specs.declared.value.Value.{Value}
use Rattle.links.specs.Links.{end, text_of}
use Rattle.models.specs.Legal.{IsLegal}
use Rattle.models.specs.Model.{Model, reading}
use Rattle.models.specs.Reading.{Reading, all_features_of, at_end}
use Rattle.containment.proofs.PartLemmas.{legal-at, live-made, values-linked}
use Rattle.fragment_paths.specs.Finding.{at}
use Rattle.models.specs.ReferenceKeys.{reference_key, same_reference_key}
use Rattle.proxies.specs.Leads.{first_index, is_by, lead, leads}
use Rattle.proxies.specs.Proxies.{is_proxy_site, site, sites_of, sites_under}
use Rattle.proxies.specs.Resolving.{leads_to}
use Rattle.models.specs.declared.reference_key.ReferenceKey.{ReferenceKey}
use Rattle.proxies.specs.declared.lead.Lead.{Lead}
use Rattle.proxies.specs.declared.site.ProxySite.{ProxySite}
use Rattle.proxies.proofs.PositionLemmas.{position-passes}

first-append : (xs ys : List Lead) (k : ReferenceKey) → first_index (xs ++ ys) k ≡ option_or (first_index xs k) (first_index ys k)
first-append [] ys k = refl
first-append (x ∷ xs) ys k = elim (is_by k x) as (λ b. (if b then Some x.site.index else first_index (xs ++ ys) k) ≡ option_or (if b then Some x.site.index else first_index xs k) (first_index ys k)) [ true ↦ refl | false ↦ first-append xs ys k ]

-- the leads of several elements, if those of the elements that pass a test give one index, and those of the others none
first-each : {X : Type 0} (g : X → List ProxySite) (r : Reading) (test : X → Bool) (k : ReferenceKey) (q : Option ℕ)
    → ((x : X) → test x ≡ true → first_index (map (lead r) (g x)) k ≡ q) → ((x : X) → test x ≡ false → first_index (map (lead r) (g x)) k ≡ None)
    → (xs : List X) → first_index (map (lead r) (flat_map g xs)) k ≡ (if list_any test xs then q else None)
first-each g r test k q here other [] = refl
first-each g r test k q here other (x ∷ xs) =
    let rest = first-each g r test k q here other xs in
    ap (λ ls. first_index ls k) (map-append (lead r) (g x) (flat_map g xs)) ∙ first-append (map (lead r) (g x)) (map (lead r) (flat_map g xs)) k
    ∙ elim (test x) as (λ b. test x ≡ b → option_or (first_index (map (lead r) (g x)) k) (first_index (map (lead r) (flat_map g xs)) k) ≡ (if b || list_any test xs then q else None)) [
      | true ↦ λ is. (λ i. option_or (here x is i) (rest i)) ∙ again q (list_any test xs)
      | false ↦ λ is. λ i. option_or (other x is i) (rest i)
    ] refl
  where
    again : (q : Option ℕ) (b : Bool) → option_or q (if b then q else None) ≡ q
    again None true = refl
    again None false = refl
    again (Some n) b = refl

pub eq-self : (n : ℕ) → nat_eq n n ≡ true
eq-self n = grind (arith, nat_tests)

module _ (r : Reading) (b : ObjectNo) (f : FeatureNo) (a : ObjectNo) where
  abbrev k : ReferenceKey
  k = reference_key b f a.0

  abbrev e : End
  e = at_end (node.Object b) f

  abbrev leads_back : Value → Bool
  leads_back = leads_to r (node.Object a)

  abbrev index : Option ℕ
  index = position (leads_to r (node.Object a)) (r.values (at_end (node.Object b) f))

  ---------------------------------------------------------------- at the end

  -- the value at an index leads to the object to which its lead leads
  by-value : (n : ℕ) (v : Value) → slice_get (r.values e) n ≡ Some v → is_by k (lead r (site b f n)) ≡ leads_back v
  by-value n v at_n = ap (λ (q : Option Value). option_map_or (λ (o : ObjectNo). same_reference_key (reference_key b f o.0) k) (option_and_then (at r) (option_and_then text_of q)) false) at_n ∙ by (option_and_then (at r) (text_of v))
    where
      by : (q : Option ObjectNo) → option_map_or (λ (o : ObjectNo). nat_eq b.0 b.0 && (nat_eq f.0 f.0 && nat_eq o.0 a.0)) q false ≡ option_map_or (λ (o : ObjectNo). nat_eq o.0 a.0) q false
      by None = refl
      by (Some o) = λ i. eq-self b.0 i && (eq-self f.0 i && nat_eq o.0 a.0)

  -- a value without a text leads nowhere
  no-text : (v : Value) → is_some (text_of v) ≡ false → leads_back v ≡ false
  no-text v none = by (text_of v) none
    where
      by : (q : Option (List ℕ)) → is_some q ≡ false → option_map_or (λ (o : ObjectNo). nat_eq o.0 a.0) (option_and_then (at r) q) false ≡ false
      by None h = refl
      by (Some t) h = absurd (false≢true (sym h))

  first-one : (n : ℕ) (v : Value) → slice_get (r.values e) n ≡ Some v → (rest : List ProxySite)
      → first_index (map (lead r) (cond (is_proxy_site r (site b f n)) (site b f n ∷ rest) rest)) k ≡ cond (leads_back v) (Some n) (first_index (map (lead r) rest) k)
  first-one n v at_n rest =
      let p = site b f n in
      let proxy : is_proxy_site r p ≡ is_some (text_of v) = ap (λ (q : Option Value). is_some (option_and_then text_of q)) at_n in
      ap (λ (c : Bool). first_index (map (lead r) (cond c (p ∷ rest) rest)) k) proxy
      ∙ elim (is_some (text_of v)) as (λ c. is_some (text_of v) ≡ c → first_index (map (lead r) (cond c (p ∷ rest) rest)) k ≡ cond (leads_back v) (Some n) (first_index (map (lead r) rest) k)) [
        | true ↦ λ _. ap (λ (c : Bool). cond c (Some n) (first_index (map (lead r) rest) k)) (by-value n v at_n)
        | false ↦ λ none. sym (ap (λ (c : Bool). cond c (Some n) (first_index (map (lead r) rest) k)) (no-text v none))
      ] refl

  first-from : (vs : List Value) (n : ℕ) → ((i j : ℕ) → j ≡ n + i → slice_get (r.values e) j ≡ slice_get vs i)
      → first_index (map (lead r) (filter (is_proxy_site r) (map (site b f) (range_with_len n (length vs))))) k ≡ option_map (λ i. n + i) (position leads_back vs)
  first-from [] n same = refl
  first-from (v ∷ vs) n same =
      first-one n v (same 0 n (omega arith)) (filter (is_proxy_site r) (map (site b f) (range_with_len (n + 1) (length vs))))
      ∙ ap (cond (leads_back v) (Some n)) (first-from vs (n + 1) (λ i j is. same (suc i) j (omega (arith, is))))
      ∙ further (leads_back v) (position leads_back vs)
      ∙ sym (ap (option_map (λ i. n + i)) (position_cons leads_back v vs))
    where
      further : (c : Bool) (q : Option ℕ) → cond c (Some n) (option_map (λ i. (n + 1) + i) q) ≡ option_map (λ i. n + i) (cond c (Some 0) (option_map suc q))
      further true q = ap Some (omega arith)
      further false None = refl
      further false (Some i) = ap Some (omega arith)

  first-under : first_index (map (lead r) (sites_under r b f)) k ≡ index
  first-under = first-from (r.values e) 0 (λ i j is. ap (slice_get (r.values e)) (omega (arith, is))) ∙ plain index
    where
      plain : (q : Option ℕ) → option_map (λ i. 0 + i) q ≡ q
      plain None = refl
      plain (Some i) = ap Some (omega arith)

  ---------------------------------------------------------------- at other ends

  other-lead : (o : ObjectNo) (g : FeatureNo) → (nat_eq o.0 b.0 && nat_eq g.0 f.0) ≡ false → (n : ℕ) → is_by k (lead r (site o g n)) ≡ false
  other-lead o g other n = by (lead r (site o g n)).object
    where
      apart : (x y z : Bool) → (x && y) ≡ false → (x && (y && z)) ≡ false
      apart true true z h = absurd (false≢true (sym h))
      apart true false z h = refl
      apart false y z h = refl

      by : (q : Option ObjectNo) → option_map_or (λ (c : ObjectNo). same_reference_key (reference_key o g c.0) k) q false ≡ false
      by None = refl
      by (Some c) = apart (nat_eq o.0 b.0) (nat_eq g.0 f.0) (nat_eq c.0 a.0) other

  other-sites : (o : ObjectNo) (g : FeatureNo) → (nat_eq o.0 b.0 && nat_eq g.0 f.0) ≡ false → (ns : List ℕ) → first_index (map (lead r) (filter (is_proxy_site r) (map (site o g) ns))) k ≡ None
  other-sites o g other [] = refl
  other-sites o g other (n ∷ ns) =
      let rest = filter (is_proxy_site r) (map (site o g) ns) in
      elim (is_proxy_site r (site o g n)) as (λ c. first_index (map (lead r) (cond c (site o g n ∷ rest) rest)) k ≡ None) [
        | true ↦ ap (λ (c : Bool). cond c (Some n) (first_index (map (lead r) rest) k)) (other-lead o g other n) ∙ other-sites o g other ns
        | false ↦ other-sites o g other ns
      ]

  other-under : (o : ObjectNo) (g : FeatureNo) → (nat_eq o.0 b.0 && nat_eq g.0 f.0) ≡ false → first_index (map (lead r) (sites_under r o g)) k ≡ None
  other-under o g other = other-sites o g other (range_with_len 0 (length (r.values (at_end (node.Object o) g))))

  -- the leads under the features of the object
  first-of : first_index (map (lead r) (sites_of r b)) k ≡ (if list_any (λ (g : FeatureNo). nat_eq g.0 f.0) (all_features_of r (node.Object b)) then index else None)
  first-of =
      first-each (sites_under r b) r (λ (g : FeatureNo). nat_eq g.0 f.0) k index
      (λ g same. subst (λ (h : FeatureNo). first_index (map (lead r) (sites_under r b h)) k ≡ index) (feature-is g same) first-under)
      (λ g other. other-under b g (λ i. eq-self b.0 i && other i))
      (all_features_of r (node.Object b))
    where
      feature-is : (g : FeatureNo) → nat_eq g.0 f.0 ≡ true → f ≡ g
      feature-is g same = λ i. record { 0 = number-is f.0 g.0 same i }
        where
          number-is : (m n : ℕ) → nat_eq n m ≡ true → m ≡ n
          number-is m n h = grind (arith, nat_tests)

  other-of : (o : ObjectNo) → nat_eq o.0 b.0 ≡ false → first_index (map (lead r) (sites_of r o)) k ≡ None
  other-of o other =
      first-each (sites_under r o) r (λ (g : FeatureNo). false) k None (λ g no_way. absurd (false≢true no_way)) (λ g _. other-under o g (ap (λ (c : Bool). c && nat_eq g.0 f.0) other)) (all_features_of r (node.Object o))
      ∙ none-either (list_any (λ (g : FeatureNo). false) (all_features_of r (node.Object o)))
    where
      none-either : (c : Bool) → (let q : Option ℕ = None in (if c then q else q) ≡ q)
      none-either true = refl
      none-either false = refl

  -- the leads of all proxies
  first-lead : first_index (leads r) k ≡ (if list_any (λ n. nat_eq n b.0) (range_with_len 0 r.next) then first_index (map (lead r) (sites_of r b)) k else None)
  first-lead =
      first-each (λ n. sites_of r (record { 0 = n })) r (λ n. nat_eq n b.0) k (first_index (map (lead r) (sites_of r b)) k)
      (λ n same. ap (λ m. first_index (map (lead r) (sites_of r (record { 0 = m }))) k) (number-is n b.0 same))
      (λ n other. other-of (record { 0 = n }) other)
      (range_with_len 0 r.next)
    where
      number-is : (m n : ℕ) → nat_eq m n ≡ true → m ≡ n
      number-is m n h = grind (arith, nat_tests)

---------------------------------------------------------------- in a legal model

within-range : (x a n : ℕ) → a ≤ x → x < a + n → list_any (λ m. nat_eq m x) (range_with_len a n) ≡ true
within-range x a zero low high = absurd (omega (arith, low, high))
within-range x a (suc n) low high =
    elim (nat_eq a x) as (λ c. nat_eq a x ≡ c → (c || list_any (λ m. nat_eq m x) (range_with_len (a + 1) n)) ≡ true) [
      | true ↦ λ _. refl
      | false ↦ λ other. within-range x (a + 1) n (past a x low other) (omega (arith, high))
    ] refl
  where
    past : (a x : ℕ) → a ≤ x → nat_eq a x ≡ false → a + 1 ≤ x
    past a x low other = grind (arith, nat_tests)

-- a feature of a class is among all its features
known-of : (m : Metamodel) (f : FeatureNo) (q : Option ClassNo) → option_map_or (λ c. lookups.has_feature m c f) q false ≡ true
    → (is_some q ≡ true) × (list_any (λ (g : FeatureNo). nat_eq g.0 f.0) (unwrap_or (option_and_then (lookups.features m) q) []) ≡ true)
known-of m f None h = absurd (false≢true h)
known-of m f (Some c) h = (refl, by (lookups.features m c) h)
  where
    by : (q : Option (List FeatureNo)) → option_map_or (λ all. list_any (λ (g : FeatureNo). nat_eq g.0 f.0) all) q false ≡ true → list_any (λ (g : FeatureNo). nat_eq g.0 f.0) (unwrap_or q []) ≡ true
    by None h = absurd (false≢true h)
    by (Some all) h = h

-- for each reference and object the table of leads has the result of a search there
module _ (s : Model) (legal : IsLegal s) (b : ObjectNo) (f : FeatureNo) (reference : (shape s.metamodel f).is_reference ≡ true) (a : ObjectNo) where
  abbrev r : Reading
  r = reading s

  abbrev there_end : End
  there_end = at_end (node.Object b) f

  abbrev i : Option ℕ
  i = position (leads_to (reading s) (node.Object a)) ((reading s).values (at_end (node.Object b) f))

  abbrev known : Bool
  known = list_any (λ (g : FeatureNo). nat_eq g.0 f.0) (all_features_of (reading s) (node.Object b))

  abbrev within : Bool
  within = list_any (λ n. nat_eq n b.0) (range_with_len 0 (reading s).next)

  nowhere : (c d : Bool) (q : Option ℕ) → q ≡ None → (if c then (if d then q else None) else None) ≡ q
  nowhere true true q none = refl
  nowhere true false q none = sym none
  nowhere false d q none = sym none

  somewhere : (j : ℕ) → i ≡ Some j → (within ≡ true) × (known ≡ true)
  somewhere j there =
      let passes = position-passes (leads_to r (node.Object a)) (r.values there_end) j there in
      let at_j = subst (λ (vs : List Value). slice_get vs j ≡ Some passes.0) (values-linked s there_end reference) passes.1 in
      let has = (legal-at r there_end (end s.links there_end) j passes.0 (legal.links.ends there_end) at_j).0 in
      let of = known-of s.metamodel f (r.class b) has in
      let low = live-made s b of.0 in
      (within-range b.0 0 r.next (omega arith) (omega (arith, low)), of.1)

  pub first-is : first_index (leads (reading s)) (reference_key b f a.0) ≡ position (leads_to (reading s) (node.Object a)) ((reading s).values (at_end (node.Object b) f))
  first-is =
      first-lead r b f a ∙ ap (λ (q : Option ℕ). if within then q else None) (first-of r b f a)
      ∙ elim i as (λ q. i ≡ q → (if within then (if known then i else None) else None) ≡ i) [
        | None ↦ λ none. nowhere within known i none
        | Some j ↦ λ there. let at_j = somewhere j there in λ k. if at_j.0 k then (if at_j.1 k then i else None) else None
      ] refl

---------------------------------------------------------------- loops

map-self : (xs : List ℕ) → map (λ x. x) xs ≡ xs
map-self [] = refl
map-self (x ∷ xs) = ap (λ (ys : List ℕ). x ∷ ys) (map-self xs)

range-more : (n : ℕ) → range_with_len 0 (n + 1) ≡ range_with_len 0 n ++ n ∷ []
range-more n = sym (map-self (range_with_len 0 (n + 1))) ∙ map-range_with_len_more (λ (x : ℕ). x) 0 n n (omega arith) ∙ ap (λ (xs : List ℕ). xs ++ n ∷ []) (map-self (range_with_len 0 n))

-- the leads of one more object
pub objects-step : (r : Reading) (n : ℕ) (old new : List Lead) → new ≡ old ++ map (lead r) (sites_of r (record { 0 = n })) → old ≡ map (lead r) (flat_map (λ k. sites_of r (record { 0 = k })) (range_with_len 0 n))
    → new ≡ map (lead r) (flat_map (λ k. sites_of r (record { 0 = k })) (range_with_len 0 (n + 1)))
objects-step r n old new more so_far =
    let f : ℕ → List ProxySite = λ k. sites_of r (record { 0 = k }) in
    more ∙ ap (λ (ls : List Lead). ls ++ map (lead r) (f n)) so_far
    ∙ sym (map-append (lead r) (flat_map f (range_with_len 0 n)) (f n))
    ∙ ap (map (lead r)) (ap (λ (ps : List ProxySite). flat_map f (range_with_len 0 n) ++ ps) (sym (append-nil (f n))) ∙ sym (flat_map-append f (range_with_len 0 n) (n ∷ [])) ∙ ap (flat_map f) (sym (range-more n)))

-- the leads of one more index
pub indices-step : (r : Reading) (o : ObjectNo) (f : FeatureNo) (n : ℕ) (was old new : List Lead) → new ≡ old ++ (if is_proxy_site r (site o f n) then lead r (site o f n) ∷ [] else [])
    → old ≡ was ++ map (lead r) (filter (is_proxy_site r) (map (site o f) (range_with_len 0 n))) → new ≡ was ++ map (lead r) (filter (is_proxy_site r) (map (site o f) (range_with_len 0 (n + 1))))
indices-step r o f n was old new more so_far =
    let p = site o f n in
    let before = filter (is_proxy_site r) (map (site o f) (range_with_len 0 n)) in
    more ∙ ap (λ (ls : List Lead). ls ++ (if is_proxy_site r p then lead r p ∷ [] else [])) so_far
    ∙ append_assoc was (map (lead r) before) (if is_proxy_site r p then lead r p ∷ [] else [])
    ∙ ap (λ (ls : List Lead). was ++ ls)
    (ap (λ (ls : List Lead). map (lead r) before ++ ls) (one (is_proxy_site r p)) ∙ sym (map-append (lead r) before (cond (is_proxy_site r p) (p ∷ []) []))
    ∙ ap (map (lead r)) (sym (filter_of_map_range_with_len_more (is_proxy_site r) (site o f) 0 n n (omega arith))))
  where
    one : (b : Bool) → (if b then lead r (site o f n) ∷ [] else []) ≡ map (lead r) (cond b (site o f n ∷ []) [])
    one true = refl
    one false = refl

-- the first index with one more lead
pub first-step : (xs : List Lead) (i : ℕ) (d : Lead) (k : ReferenceKey) (old new : Option ℕ) → i < length xs → new ≡ option_or old (first_index (get_or xs i d ∷ []) k) → old ≡ first_index (take i xs) k → new ≡ first_index (take (i + 1) xs) k
first-step xs i d k old new low more so_far =
    more ∙ ap (λ (q : Option ℕ). option_or q (first_index (get_or xs i d ∷ []) k)) so_far ∙ sym (first-append (take i xs) (get_or xs i d ∷ []) k) ∙ ap (λ (ls : List Lead). first_index ls k) (sym (take_more xs i d low))

-- The values of each end after the edits of a document.
use Rattle.std.proofs.Common.{◌≡◌, ◌≢◌, ◌∙◌, ◌+◌, ◌≤◌, ◌++◌, ℕ, Bool, true, false, cond, List, [], Option, Some, None, append-nil, append_assoc, arith, length, refl, sym, ap, subst}
use Rattle.std.specs.Prelude.{slice_get}
use Rattle.std.proofs.lemmas.List.{length-map}
use Rattle.std.proofs.lemmas.Option.{none-some}
use Rattle.mm_types.specs.Resolved.{Metamodel}
use Rattle.mm_types.specs.Shapes.{shape}
use Rattle.mm_types.specs.declared.limits.TheConstants.{OBJECTS}
use Rattle.mm_types.specs.declared.end.End.{End}
use Rattle.mm_types.specs.declared.numbers.FeatureNo.{FeatureNo}
use Rattle.mm_types.specs.declared.numbers.ObjectNo.{ObjectNo}
use Rattle.mm_types.specs.declared.numbers.ResourceNo.{ResourceNo}
use Rattle.mm_types.specs.declared.value.Value.{Value}
use Rattle.mm_types.specs.declared.value.Value.TheVariants as value
use Rattle.links.proofs.CycleLemmas.{plan_makes_no_cycle}
use Rattle.links.proofs.KindLemmas.{plan_keeps_kinds}
use Rattle.links.proofs.LegalLemmas.{PlanFits-append, PlanMakesNoCycle-append, links_after_edits-append, plan_keeps_legal}
use Rattle.links.specs.Holders.{HasNoCycle}
use Rattle.links.specs.LegalSets.{AreOfKind, IsLegalSet}
use Rattle.links.specs.Links.{Links, end}
use Rattle.links.specs.Plans.{PlanFits, PlanMakesNoCycle, links_after_edits}
use Rattle.links.specs.declared.plan.Edit.{Edit}
use Rattle.models.specs.Legal.{kinds_of}
use Rattle.resource_docs.specs.Read.{values_in, values_under}
use Rattle.resource_docs.specs.declared.doc.Doc.{Doc}
use Rattle.resource_docs.specs.declared.doc.DocObject.{DocObject}
use Rattle.doc_loader.specs.Laws.{IsRoomFor}
use Rattle.doc_loader.specs.LoadEdits.{is_ascending_from, load_edits, near_edits, proxy_edits, root_puts}
use Rattle.doc_loader.specs.Loading.{loaded_number, loaded_value, object_end, of_contents, roots_loaded}
use Rattle.doc_loader.specs.Pairs.{lower_of}
use Rattle.doc_loader.proofs.AgainLemmas.{IsLowerEnd, IsNotHigher, again-edits, agains, agains-good, answered-in, last-higher, last-none, target-in, target-object}
use Rattle.doc_loader.proofs.FillLemmas.{AreFilled, IsReady, all_filled, at-others, end_filled, fills-kinds, is_no_proxy, others, others-ascending, others-at, others-distinct, others-loaded, proxies-loaded}
use Rattle.doc_loader.proofs.ProxyEndLemmas.{filled-higher, filled-none, proxies-fill}
use Rattle.doc_loader.proofs.GainLemmas.{IsMade, good_kinds}
use Rattle.doc_loader.proofs.NearLemmas.{good-ends, near-all_good, near_end, near_end-elsewhere, near_end-far, near_end-own, near_end-roots, near_made, not-contents, place_of, values-distinct, values-few, IsPlaceOf, at_far, at_near, at_roots, elsewhere}
use Rattle.doc_loader.proofs.RotateLemmas.{ArePutAgain, again_kinds, all_again, all_put_again, at-among, put_all_last, put_all_last-whole}
use Rattle.doc_loader.proofs.SideLemmas.{IsFarSide, IsHigher, IsNearSide, IsPlainFeature, higher, higher-far, lower-is, near-reference, near-side, not-near, opposite-reference}
use Rattle.doc_loader.proofs.SoundLemmas.{filter-at, object-there, there-object, IsSound}
use Rattle.doc_loader.proofs.SourceLemmas.{ascending-one, ascending-test, at-loaded, at-source, loaded-at, loaded-distinct, loaded_values, source-at, sources-ascending, sources_from}
use Rattle.doc_loader.proofs.TotalLemmas.{IsElsewhere}
use Rattle.models.specs.Reading.{contents_end}

module _ (m : Metamodel) (n : ℕ) (k : ResourceNo) (doc : Doc) (sound : IsSound m doc) (s : Links) (legal : IsLegalSet s) (kinds : AreOfKind (kinds_of m) s) (free : HasNoCycle s) (room : IsRoomFor m n k s) (fit : n + length doc.objects ≤ OBJECTS) where
  abbrev first_plan : List Edit
  first_plan = root_puts m n k doc ++ of_contents (near_edits m n) doc

  abbrev again_plan : List Edit
  again_plan = all_again (kinds_of m) (agains m n doc sound)

  abbrev first : Links
  first = links_after_edits s (root_puts m n k doc ++ of_contents (near_edits m n) doc)

  abbrev second : Links
  second = links_after_edits (links_after_edits s (root_puts m n k doc ++ of_contents (near_edits m n) doc)) (all_again (kinds_of m) (agains m n doc sound))

  abbrev fill_plan : List Edit
  fill_plan = of_contents (proxy_edits m n) doc

  abbrev pub loaded_set : Links
  loaded_set = links_after_edits (links_after_edits (links_after_edits s (root_puts m n k doc ++ of_contents (near_edits m n) doc)) (all_again (kinds_of m) (agains m n doc sound))) (of_contents (proxy_edits m n) doc)

  first-made : IsMade (kinds_of m) sound.kinds n (near_end m n k doc sound s legal kinds free room fit) (good-ends m n k doc sound s legal kinds free room fit) s first_plan
  first-made = near_made m n k doc sound s legal kinds free room fit

  first-legal : IsLegalSet first
  first-legal = plan_keeps_legal s first_plan legal first-made.fits

  first-kinds : AreOfKind (kinds_of m) first
  first-kinds = plan_keeps_kinds (kinds_of m) sound.kinds s first_plan kinds (good_kinds (kinds_of m) n (near_end m n k doc sound s legal kinds free room fit) first_plan (near-all_good m n k doc sound s legal kinds free room fit))

  first-free : HasNoCycle first
  first-free = plan_makes_no_cycle s first_plan legal first-made.fits first-made.no_cycle free

  again-made : ArePutAgain (kinds_of m) first (agains m n doc sound) again_plan
  again-made =
      all_put_again (kinds_of m) sound.kinds (IsLowerEnd m n doc sound) (near_end m n k doc sound s legal kinds free room fit) (agains m n doc sound) first first-legal first-kinds first-free (λ d near. first-made.ends d)
      (agains-good m n doc sound (near_end m n k doc sound s legal kinds free room fit) (near_end-own m n k doc sound s legal kinds free room fit) (values-distinct m n k doc sound s legal kinds free room fit))

  second-legal : IsLegalSet second
  second-legal = plan_keeps_legal first again_plan first-legal again-made.fits

  second-kinds : AreOfKind (kinds_of m) second
  second-kinds = plan_keeps_kinds (kinds_of m) sound.kinds first again_plan first-kinds (again_kinds (kinds_of m) (agains m n doc sound))

  ---------------------------------------------------------------- ends

  second-stays : (d : End) → IsNotHigher m n doc sound d → end second d ≡ near_end m n k doc sound s legal kinds free room fit d
  second-stays d stays = again-made.ends d ∙ ap (λ (us : List Value). put_all_last us (end first d)) (last-none m n doc sound d stays) ∙ first-made.ends d

  module _ (b : ObjectNo) (g f : FeatureNo) (high : IsHigher m sound.kinds g f) where
    abbrev vs : List Value
    vs = values_in doc b g

    abbrev from : List Value
    from = sources_from n (λ (x : DocObject). values_under x f) b 0 doc.objects

    back : (shape m f).opposite ≡ Some g
    back = sound.kinds.inverse g f high.pair

    plain-back : (shape m f).containing ≡ None
    plain-back = sym (sound.kinds.one_container g f high.pair) ∙ high.plain

    value-object : (i : ℕ) (v : Value) → slice_get (others (values_in doc b g)) i ≡ Some v → (a : ObjectNo) × (v ≡ value.Object a)
    value-object i v at =
        let x = filter-at is_no_proxy (values_in doc b g) i v at in
        target-object v (target-in m doc sound b g x.0 v (opposite-reference m g f high.pair) x.1) x.2

    from-in : (i : ℕ) (v : Value) → slice_get from i ≡ Some v → (j : ℕ) × (slice_get (loaded_values n (others vs)) j ≡ Some v)
    from-in i v at =
        let r = source-at n (λ (x : DocObject). values_under x f) b doc.objects i v at in
        let named : slice_get (values_in doc r.0 f) r.4.0 ≡ Some (value.Object b) = there-object doc r.0 f r.1 r.4.0 (value.Object b) r.2 r.4.1 in
        let there = answered-in m doc sound r.0 f g b r.4.0 plain-back back named in
        let kept = at-others vs there.0 (value.Object r.0) refl there.1 in
        (kept.0, loaded-at n (others vs) kept.0 (value.Object r.0) kept.1 ∙ ap Some (sym r.3))

    from-object : (i : ℕ) (a : ObjectNo) → slice_get (values_in doc b g) i ≡ Some (value.Object a) → (j : ℕ) × (slice_get from j ≡ Some (value.Object (loaded_number n a)))
    from-object i a at =
        let named = answered-in m doc sound b g f a i high.plain high.pair at in
        let x = object-there doc a f named.0 (value.Object b) named.1 in
        at-source n (λ (x : DocObject). values_under x f) b doc.objects a x.0 named.0 x.1 x.2

    loaded-is : (u v : Value) (a : ObjectNo) → u ≡ value.Object a → loaded_value n u ≡ v → value.Object (loaded_number n a) ≡ v
    loaded-is u v a is h = sym (ap (loaded_value n) is) ∙ h

    in-from : (i : ℕ) (v : Value) → slice_get (loaded_values n (others vs)) i ≡ Some v → (j : ℕ) × (slice_get from j ≡ Some v)
    in-from i v at =
        let w = at-loaded n (others vs) i v at in
        let a = value-object i w.0 w.1 in
        let x = others-at vs i w.0 w.1 in
        let r = from-object x.0 a.0 (x.1 ∙ ap Some a.1) in
        (r.0, r.1 ∙ ap Some (loaded-is w.0 v a.0 a.1 w.2))

    ordered : (t : Bool) → is_ascending_from 0 vs ≡ t → put_all_last (cond t [] (loaded_values n (others vs))) from ≡ loaded_values n (others vs)
    ordered true is =
        ascending-one (n + 0) from (loaded_values n (others vs)) (sources-ascending n (λ (x : DocObject). values_under x f) b 0 doc.objects)
        (ascending-test n 0 (others vs) value-object (others-ascending 0 vs ∙ is)) from-in in-from
    ordered false is =
        put_all_last-whole (loaded_values n (others vs)) from (loaded-distinct n (others vs) (others-distinct vs (values-distinct m n k doc sound s legal kinds free room fit b g (opposite-reference m g f high.pair))))
        (λ i w at. (let r = from-in i w at in at-among (loaded_values n (others vs)) r.0 w r.1))

    second-higher : end second (object_end n b g) ≡ loaded_values n (others (values_in doc b g))
    second-higher =
        again-made.ends (object_end n b g)
        ∙ (λ i. put_all_last (last-higher m n doc sound b g f high i) ((first-made.ends (object_end n b g) ∙ near_end-far m n k doc sound s legal kinds free room fit b g f (higher-far m sound.kinds g f high)) i))
        ∙ ordered (is_ascending_from 0 vs) refl

    ready-higher : IsReady second fill_plan (object_end n b g)
    ready-higher = record {
      last = loaded_values n (values_in doc b g);
      distinct = loaded-distinct n vs (values-distinct m n k doc sound s legal kinds free room fit b g (opposite-reference m g f high.pair));
      few = (let e = length-map (values_in doc b g) (loaded_value n) in let few = values-few m n k doc sound s legal kinds free room fit b g in omega (arith, e, few));
      waits = record {
        there = [];
        waiting = loaded_values n (values_in doc b g);
        whole = refl;
        now = second-higher ∙ sym (others-loaded n vs);
        next = filled-higher m n doc sound b g f high ∙ sym (proxies-loaded n 0 vs);
      };
    }

  ready-stays : (d : End) → IsNotHigher m n doc sound d → IsReady second fill_plan d
  ready-stays d stays =
      let last = near_end m n k doc sound s legal kinds free room fit d in
      let good = good-ends m n k doc sound s legal kinds free room fit in
      record {
        last = near_end m n k doc sound s legal kinds free room fit d;
        distinct = good.distinct d;
        few = good.few d;
        waits = record {
          there = near_end m n k doc sound s legal kinds free room fit d;
          waiting = [];
          whole = sym (append-nil last);
          now = second-stays d stays ∙ sym (append-nil last);
          next = filled-none m n doc sound d stays;
        };
      }

  -- a near side, a container and an attribute are no higher feature
  near-stays : (o : ObjectNo) (f : FeatureNo) → IsNearSide m f → IsNotHigher m n doc sound (object_end n o f)
  near-stays o f side = λ b g h high q. not-near (shape m f) f h (subst (λ (x : FeatureNo). lower_of (shape m x) x ≡ Some h) (ap (λ (x : End). x.feature) q) (lower-is m sound.kinds g h high)) side.near

  lowest-stays : (o : ObjectNo) (g : FeatureNo) → lower_of (shape m g) g ≡ None → IsNotHigher m n doc sound (object_end n o g)
  lowest-stays o g none = λ c i j high q. none-some j (sym none ∙ subst (λ (x : FeatureNo). lower_of (shape m x) x ≡ Some j) (ap (λ (x : End). x.feature) q) (lower-is m sound.kinds i j high))

  ready : (d : End) → IsReady second fill_plan d
  ready d = by d (place_of m n k doc sound s legal kinds free room fit d)
    where
      far : (b : ObjectNo) (g : FeatureNo) (o : Option FeatureNo) → lower_of (shape m g) g ≡ o → IsReady second fill_plan (object_end n b g)
      far b g None none = ready-stays (object_end n b g) (lowest-stays b g none)
      far b g (Some f) is = ready-higher b g f (higher m sound.kinds g f is)

      by : (d : End) → IsPlaceOf m n k doc sound s legal kinds free room fit d → IsReady second fill_plan d
      by d (at_roots q) = ready-stays d (λ b g f high p. not-contents m n k b g (p ∙ sym q))
      by d (at_near o f q side) = subst (IsReady second fill_plan) q (ready-stays (object_end n o f) (near-stays o f side))
      by d (at_far b g f q side) = subst (IsReady second fill_plan) q (far b g (lower_of (shape m g) g) refl)
      by d (elsewhere outside other) = ready-stays d (λ b g f high q. outside b g (opposite-reference m g f high.pair) q)

  ---------------------------------------------------------------- proxies

  fill-made : AreFilled second fill_plan
  fill-made = all_filled (kinds_of m) fill_plan second second-legal (proxies-fill m n doc sound) ready

  pub loaded-legal : IsLegalSet loaded_set
  loaded-legal = plan_keeps_legal second fill_plan second-legal fill-made.fits

  pub loaded-kinds : AreOfKind (kinds_of m) loaded_set
  loaded-kinds = plan_keeps_kinds (kinds_of m) sound.kinds second fill_plan second-kinds (fills-kinds (kinds_of m) fill_plan (proxies-fill m n doc sound))

  end-last : (d : End) (r : IsReady second fill_plan d) → end loaded_set d ≡ r.last
  end-last d r = end_filled (kinds_of m) fill_plan second second-legal (proxies-fill m n doc sound) fill-made.fits d r

  end-stays : (d : End) → IsNotHigher m n doc sound d → end loaded_set d ≡ near_end m n k doc sound s legal kinds free room fit d
  unfolding ready-stays
  end-stays d stays = end-last d (ready-stays d stays)

  end-higher : (b : ObjectNo) (g f : FeatureNo) (high : IsHigher m sound.kinds g f) → end loaded_set (object_end n b g) ≡ loaded_values n (values_in doc b g)
  unfolding ready-higher
  end-higher b g f high = end-last (object_end n b g) (ready-higher b g f high)

  ---------------------------------------------------------------- the whole plan

  abbrev two_plans : List Edit
  two_plans = first_plan ++ again_plan

  whole : two_plans ++ fill_plan ≡ load_edits m n k doc
  whole =
      append_assoc first_plan again_plan fill_plan
      ∙ append_assoc (root_puts m n k doc) (of_contents (near_edits m n) doc) (again_plan ++ fill_plan)
      ∙ ap (λ (es : List Edit). root_puts m n k doc ++ (of_contents (near_edits m n) doc ++ (es ++ fill_plan))) (again-edits m n doc sound)

  second-is : links_after_edits s two_plans ≡ second
  second-is = links_after_edits-append s first_plan again_plan

  pub loaded-fits : PlanFits s (load_edits m n k doc)
  loaded-fits =
      subst (PlanFits s) whole (PlanFits-append s two_plans fill_plan (PlanFits-append s first_plan again_plan first-made.fits again-made.fits)
      (subst (λ (t : Links). PlanFits t fill_plan) (sym second-is) fill-made.fits))

  pub loaded-no_cycle : PlanMakesNoCycle s (load_edits m n k doc)
  loaded-no_cycle =
      subst (PlanMakesNoCycle s) whole (PlanMakesNoCycle-append s two_plans fill_plan (PlanMakesNoCycle-append s first_plan again_plan first-made.no_cycle again-made.no_cycle)
      (subst (λ (t : Links). PlanMakesNoCycle t fill_plan) (sym second-is) fill-made.no_cycle))

  pub loaded-set_is : links_after_edits s (load_edits m n k doc) ≡ loaded_set
  loaded-set_is = ap (links_after_edits s) (sym whole) ∙ links_after_edits-append s two_plans fill_plan ∙ ap (λ (t : Links). links_after_edits t fill_plan) second-is

  pub end-roots : end loaded_set (contents_end m k) ≡ roots_loaded n doc
  end-roots = end-stays (contents_end m k) (λ b g f high q. not-contents m n k b g q) ∙ near_end-roots m n k doc sound s legal kinds free room fit

  -- an end of a near feature has the values of the document
  pub end-near : (o : ObjectNo) (f : FeatureNo) → IsNearSide m f → end loaded_set (object_end n o f) ≡ loaded_values n (values_in doc o f)
  end-near o f side =
      end-stays (object_end n o f) (near-stays o f side)
      ∙ near_end-own m n k doc sound s legal kinds free room fit o f side

  -- each reference that is no container reference has the values of the document
  pub end-values : (o : ObjectNo) (f : FeatureNo) → (shape m f).is_reference ≡ true → IsPlainFeature m f → end loaded_set (object_end n o f) ≡ loaded_values n (values_in doc o f)
  end-values o f reference plain = by (lower_of (shape m f) f) refl
    where
      by : (h : Option FeatureNo) → lower_of (shape m f) f ≡ h → end loaded_set (object_end n o f) ≡ loaded_values n (values_in doc o f)
      by None none = end-near o f (near-side m sound.kinds f plain (near-reference (shape m f) f reference none))
      by (Some g) some = end-higher o f g (higher m sound.kinds f g some)

  same-source : (u v : Value) (a c : ObjectNo) → u ≡ value.Object (loaded_number n a) → v ≡ value.Object (loaded_number n c) → a ≡ c → u ≡ v
  same-source u v a c p q same = p ∙ ap (λ (x : ObjectNo). value.Object (loaded_number n x)) same ∙ sym q

  -- at most one object names an object under a containment
  pub one-source : (b : ObjectNo) (f h : FeatureNo) → (shape m f).containing ≡ Some h → (i j : ℕ) (u v : Value)
      → slice_get (sources_from n (λ (x : DocObject). values_under x f) b 0 doc.objects) i ≡ Some u → slice_get (sources_from n (λ (x : DocObject). values_under x f) b 0 doc.objects) j ≡ Some v → u ≡ v
  one-source b f h contains i j u v x y =
      let p = source-at n (λ (x : DocObject). values_under x f) b doc.objects i u x in
      let q = source-at n (λ (x : DocObject). values_under x f) b doc.objects j v y in
      let only = sound.once p.0 q.0 f f h h p.4.0 q.4.0 b contains contains (there-object doc p.0 f p.1 p.4.0 (value.Object b) p.2 p.4.1) (there-object doc q.0 f q.1 q.4.0 (value.Object b) q.2 q.4.1) in
      same-source u v p.0 q.0 p.3 q.3 only.0

  -- a container reference has the object that names its object
  pub end-held : (b : ObjectNo) (g f h : FeatureNo) → IsFarSide m g f → (shape m g).containing ≡ Some h → end loaded_set (object_end n b g) ≡ sources_from n (λ (x : DocObject). values_under x f) b 0 doc.objects
  end-held b g f h side contains =
      end-stays (object_end n b g) (λ c i j high q. none-some h (sym high.plain ∙ ap (λ (x : End). (shape m x.feature).containing) q ∙ contains))
      ∙ near_end-far m n k doc sound s legal kinds free room fit b g f side

  pub end-elsewhere : (d : End) → IsElsewhere m n doc sound d → contents_end m k ≢ d → end loaded_set d ≡ end s d
  end-elsewhere d outside other =
      end-stays d (λ b g f high q. outside b g (opposite-reference m g f high.pair) q)
      ∙ near_end-elsewhere m n k doc sound s legal kinds free room fit d outside other

-- A tree has no more levels than objects were made, so a subtree is an object and the subtrees of its parts.
use Rattle.std.proofs.Common.{◌≡◌, ℕ, zero, suc, ◌+◌, ◌<◌, ◌≤◌, true, length, List, [], ◌∷◌, ◌++◌, flat_map, reverse, append_assoc, refl, sym, ap, ◌∙◌, subst, arith}
use Rattle.std.specs.List.{AllByRecursion}
use Rattle.std.proofs.lemmas.Grind.{flat_map-append}
use Rattle.std.proofs.lemmas.List.{append-nil, reverse-append, reverse-reverse}
use Rattle.mm_types.specs.declared.numbers.ObjectNo.{ObjectNo}
use Rattle.mm_types.specs.declared.numbers.Node.{Node}
use Rattle.mm_types.specs.declared.numbers.Node.TheVariants as node
use Rattle.mm_types.specs.declared.numbers.ResourceNo.{ResourceNo}
use Rattle.links.proofs.AboveLemmas.{above_held}
use Rattle.links.specs.Holders.{above}
use Rattle.models.specs.Legal.{IsLegal}
use Rattle.models.specs.Model.{Model, reading}
use Rattle.models.specs.Reading.{is_live}
use Rattle.containment.proofs.ChainLemmas.{numbers, part-depth}
use Rattle.containment.proofs.PartLemmas.{IsPart, contents-parts, live-made}
use Rattle.containment.specs.Forest.{contents, node_subtree, subtree, tree}

same-flat_map : {P : ObjectNo → Type 0} (f g : ObjectNo → List ObjectNo) (xs : List ObjectNo) → AllByRecursion P xs → ((c : ObjectNo) → P c → f c ≡ g c) → flat_map f xs ≡ flat_map g xs
same-flat_map f g [] all same = refl
same-flat_map f g (x ∷ xs) all same = let here = same x all.0 in let rest = same-flat_map f g xs all.1 same in λ i. here i ++ rest i

-- the subtrees of the objects that wait, the last one first
abbrev pub waiting-trees : Model → List ObjectNo → List ObjectNo
waiting-trees s os = flat_map (subtree (reading s)) (reverse os)

module _ (s : Model) (legal : IsLegal s) where
  -- how many objects are above one
  pub depth : ObjectNo → ℕ
  depth o = length (numbers (above s.links (node.Object o)))

  pub part-deeper : (o c : ObjectNo) → IsPart s (node.Object o) c → depth c ≡ suc (depth o)
  unfolding depth
  part-deeper o c part =
      ap (λ (ns : List Node). length (numbers ns)) (above_held s.links legal.links.set legal.links.forest (node.Object c) part.by part.held)
      ∙ ap (λ (n : Node). length (numbers (n ∷ above s.links n))) part.here

  pub part-shallow : (o c : ObjectNo) → IsPart s (node.Object o) c → depth c < length s.values.objects
  unfolding depth
  part-shallow o c part = part-depth s legal (node.Object o) c part

  -- if there are more levels than the deepest object has, one more level adds nothing
  more-levels : (k : ℕ) (o : ObjectNo) → 0 < k → length s.values.objects ≤ k + depth o → tree (reading s) (suc k) o ≡ tree (reading s) k o
  more-levels zero o some far = absurd (omega (arith, some))
  more-levels (suc k) o some far =
      ap (λ os. o ∷ os) (same-flat_map (tree (reading s) (suc k)) (tree (reading s) k) (contents (reading s) (node.Object o)) (contents-parts s legal (node.Object o)) (λ c part.
      let deeper = part-deeper o c part in
      let shallow = part-shallow o c part in
      more-levels k c (omega (arith, deeper, shallow, far)) (omega (arith, deeper, far))))

  pub subtree-levels : (o : ObjectNo) → tree (reading s) (suc (suc (length s.values.objects))) o ≡ subtree (reading s) o
  subtree-levels o = more-levels (suc (length s.values.objects)) o (omega arith) (omega arith)

  -- as many levels as objects were made are enough
  pub enough-levels : (o : ObjectNo) → 0 < length s.values.objects → tree (reading s) (length s.values.objects) o ≡ subtree (reading s) o
  enough-levels o some = sym (more-levels (length s.values.objects) o some (omega arith))

  -- a subtree is an object and then the subtrees of its contents
  pub subtree-parts : (o : ObjectNo) → subtree (reading s) o ≡ o ∷ flat_map (subtree (reading s)) (contents (reading s) (node.Object o))
  subtree-parts o = sym (subtree-levels o)

  ---------------------------------------------------------------- the walk

  -- the next object is found, and its parts wait in its place
  next-tree : (os : List ObjectNo) (o : ObjectNo) → waiting-trees s (os ++ o ∷ []) ≡ o ∷ waiting-trees s (os ++ reverse (contents (reading s) (node.Object o)))
  next-tree os o =
      let trees = flat_map (subtree (reading s)) in
      let parts = contents (reading s) (node.Object o) in
      ap trees (reverse-append os (o ∷ []))
      ∙ ap (λ ts. ts ++ trees (reverse os)) (subtree-parts o)
      ∙ ap (λ ts. o ∷ ts) (sym (flat_map-append (subtree (reading s)) parts (reverse os))
      ∙ ap trees (sym (reverse-append os (reverse parts) ∙ ap (λ ps. ps ++ reverse os) (reverse-reverse parts))))

  -- the last waiting object is replaced by its parts
  step : (old rest parts back now : List ObjectNo) (o : ObjectNo) → old ≡ rest ++ o ∷ [] → now ≡ rest ++ back → back ≡ reverse parts → parts ≡ contents (reading s) (node.Object o)
      → waiting-trees s old ≡ o ∷ waiting-trees s now
  step old rest parts back now o was is turned here =
      ap (waiting-trees s) was
      ∙ next-tree rest o
      ∙ ap (λ os. o ∷ waiting-trees s os) (sym (is ∙ ap (λ ps. rest ++ ps) turned ∙ ap (λ ps. rest ++ reverse ps) here))

  pub walk-falls : (old rest parts back now : List ObjectNo) (o : ObjectNo) → old ≡ rest ++ o ∷ [] → now ≡ rest ++ back → back ≡ reverse parts → parts ≡ contents (reading s) (node.Object o)
      → length (waiting-trees s now) < length (waiting-trees s old)
  walk-falls old rest parts back now o was is turned here = let one = ap length (step old rest parts back now o was is turned here) in omega (arith, one)

  pub walk-on : (old rest parts back now found more all : List ObjectNo) (o : ObjectNo) → old ≡ rest ++ o ∷ [] → now ≡ rest ++ back → back ≡ reverse parts → parts ≡ contents (reading s) (node.Object o)
      → more ≡ found ++ o ∷ [] → found ++ waiting-trees s old ≡ all → more ++ waiting-trees s now ≡ all
  walk-on old rest parts back now found more all o was is turned here pushed whole =
      ap (λ os. os ++ waiting-trees s now) pushed
      ∙ append_assoc found (o ∷ []) (waiting-trees s now)
      ∙ ap (λ os. found ++ os) (sym (step old rest parts back now o was is turned here))
      ∙ whole

-- at first no object is found
pub walk-starts : (s : Model) (found waiting : List ObjectNo) → found ≡ [] → found ++ waiting-trees s waiting ≡ waiting-trees s waiting
walk-starts s found waiting none = ap (λ os. os ++ waiting-trees s waiting) none

-- if no object waits, all are found
pub walk-ends : (s : Model) (found waiting all : List ObjectNo) → waiting ≡ [] → found ++ waiting-trees s waiting ≡ all → found ≡ all
walk-ends s found waiting all none whole = sym (append-nil found) ∙ ap (λ os. found ++ waiting-trees s os) (sym none) ∙ whole

-- if one object waits, its subtree will be found
pub one-waits : (s : Model) (waiting : List ObjectNo) (o : ObjectNo) → waiting ≡ o ∷ [] → waiting-trees s waiting ≡ subtree (reading s) o
one-waits s waiting o one = ap (waiting-trees s) one ∙ append-nil (subtree (reading s) o)

-- if the roots of a resource wait, all objects in it will be found
pub roots-wait : (s : Model) (n : Node) (k : ResourceNo) (waiting roots : List ObjectNo) → n ≡ node.Resource k → waiting ≡ reverse roots → roots ≡ contents (reading s) n → waiting-trees s waiting ≡ node_subtree (reading s) n
roots-wait s n k waiting roots is turned here =
    let trees = flat_map (subtree (reading s)) in
    ap (waiting-trees s) (turned ∙ ap reverse here)
    ∙ ap trees (reverse-reverse (contents (reading s) n))
    ∙ subst (λ (m : Node). trees (contents (reading s) m) ≡ node_subtree (reading s) m) (sym is) refl

pub some-made : (s : Model) (o : ObjectNo) → is_live (reading s) o ≡ true → 0 < length s.values.objects
some-made s o live = let low = live-made s o live in omega (arith, low)

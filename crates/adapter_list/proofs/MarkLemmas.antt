-- Marks of the objects that have adapters.
use Rattle.std.proofs.Common.{◌≡◌, ◌≤◌, ◌<◌, ◌++◌, ℕ, zero, suc, Bool, true, false, List, [], ◌∷◌, get_or, set, take, replicate, length, insert, nat_eq, if◌then◌else◌, refl, sym, ap, subst, ◌∙◌, arith, eqb-true}
use Rattle.std.proofs.lemmas.Bool.{eqb-false, false≢true}
use Rattle.std.proofs.lemmas.List.{get_or-set_other, get_or-set_same}
use Rattle.mm_types.proofs.SameLemmas.{same_node-true}
use Rattle.mm_types.specs.Same.{same_node}
use Rattle.mm_types.specs.declared.numbers.Node.{Node}
use Rattle.mm_types.specs.declared.numbers.Node.TheVariants as node
use Rattle.mm_types.specs.declared.numbers.ObjectNo.{ObjectNo}
use Rattle.adapter_list.specs.Targets.{AreMarked, AreSetAt, HasMarkRoom, entries_in, is_any, is_marked}
use Rattle.adapter_list.specs.declared.target_lists.Entry.{Entry}
use Rattle.adapter_list.specs.declared.target_lists.TargetLists.{TargetLists}
use Rattle.adapter_list.proofs.TableLemmas.{insert-some, is_any-some}

none-at : (k i : ℕ) → get_or (replicate k false) i false ≡ false
none-at zero i = refl
none-at (suc k) zero = refl
none-at (suc k) (suc i) = none-at k i

-- more marks, none of them set
pub marks-longer : (bs : List Bool) (n k : ℕ) → length bs ≤ n → (i : ℕ) → get_or (take n bs ++ replicate k false) i false ≡ get_or bs i false
marks-longer [] zero k low i = none-at k i
marks-longer [] (suc n) k low i = none-at k i
marks-longer (b ∷ bs) zero k low i = absurd (omega (arith, low))
marks-longer (b ∷ bs) (suc n) k low zero = refl
marks-longer (b ∷ bs) (suc n) k low (suc i) = marks-longer bs n k (omega (arith, low)) i

-- past the last mark nothing is marked
pub mark-past : (bs : List Bool) (i : ℕ) → length bs ≤ i → get_or bs i false ≡ false
mark-past [] i low = refl
mark-past (b ∷ bs) zero low = absurd (omega (arith, low))
mark-past (b ∷ bs) (suc i) low = mark-past bs i (omega (arith, low))

pub mark-set : (bs : List Bool) (n : ℕ) (b : Bool) → n < length bs → (i : ℕ) → get_or (set bs n b) i false ≡ (if nat_eq n i then b else get_or bs i false)
mark-set bs n b low i =
    elim (nat_eq n i) as (λ c. nat_eq n i ≡ c → get_or (set bs n b) i false ≡ (if c then b else get_or bs i false)) [
      | true ↦ λ same. ap (λ (j : ℕ). get_or (set bs n b) j false) (sym (eqb-true n i same)) ∙ get_or-set_same bs n b false low
      | false ↦ λ other. get_or-set_other bs n i b false (λ (e : i ≡ n). eqb-false n i other (sym e))
    ] refl

-- if there is no entry for a mark, the mark is not set
pub mark-absent : (bs : List Bool) (n : ℕ) (b : Bool) → (b ≡ true → n < length bs) → length bs ≤ n → (i : ℕ) → get_or bs i false ≡ (if nat_eq n i then b else get_or bs i false)
mark-absent bs n true room past i = absurd (let low = room refl in omega (arith, low, past))
mark-absent bs n false room past i =
    elim (nat_eq n i) as (λ c. nat_eq n i ≡ c → get_or bs i false ≡ (if c then false else get_or bs i false)) [
      | true ↦ λ same. mark-past bs i (let e : n ≡ i = eqb-true n i same in omega (arith, e, past))
      | false ↦ λ _. refl
    ] refl

-- a node that is marked has an entry for the mark
pub mark-room : (bs : List Bool) (x : Node) (es : List Entry) → ((o : ObjectNo) → x ≡ node.Object o → get_or bs o.0 false ≡ is_any es) → is_any es ≡ true → HasMarkRoom bs x
mark-room bs (node.Object o) es marked some = within bs o.0 (marked o refl ∙ some)
  where
    within : (cs : List Bool) (i : ℕ) → get_or cs i false ≡ true → i < length cs
    within [] i h = absurd (false≢true h)
    within (c ∷ cs) zero h = omega arith
    within (c ∷ cs) (suc i) h = let low = within cs i h in omega (arith, low)
mark-room bs (node.Resource k) es marked some = tt

-- a node that is not marked has no adapters
pub unmarked-none : (bs : List Bool) (t : TargetLists) (x : Node) → AreMarked bs t → is_marked bs x ≡ false → entries_in t x ≡ []
unmarked-none bs t (node.Object o) marked other = none (entries_in t (node.Object o)) (sym (marked o) ∙ other)
  where
    none : (es : List Entry) → is_any es ≡ false → es ≡ []
    none [] h = refl
    none (e ∷ es) h = absurd (false≢true (sym h))
unmarked-none bs t (node.Resource k) marked other = absurd (false≢true (sym other))

-- the mark of a node to which an adapter is attached
pub mark-put : (b c : Bool) (es : List Entry) (i : ℕ) (e : Entry) → c ≡ is_any es → (if b then true else c) ≡ is_any (if b then insert es i e else es)
mark-put true c es i e same = is_any-some (insert es i e) (insert-some es i e)
mark-put false c es i e same = same

-- the marks after the entry of an adapter is taken out
pub mark-removed : (x y : Node) (v c : Bool) (old new : TargetLists) → v ≡ is_any (entries_in new x) → c ≡ is_any (entries_in old y) → (same_node x y ≡ false → entries_in new y ≡ entries_in old y) → (if same_node x y then v else c) ≡ is_any (entries_in new y)
mark-removed x y v c old new here there others =
    elim (same_node x y) as (λ b. same_node x y ≡ b → (if b then v else c) ≡ is_any (entries_in new y)) [
      | true ↦ λ same. here ∙ ap (λ (z : Node). is_any (entries_in new z)) (same_node-true x y same)
      | false ↦ λ other. there ∙ ap is_any (sym (others other))
    ] refl

pub marks-lengthened : (b : Bool) (old new : List Bool) (n k : ℕ) → new ≡ (if b then take n old ++ replicate k false else old) → length old ≤ n → (i : ℕ) → get_or new i false ≡ get_or old i false
marks-lengthened true old new n k is low i = ap (λ bs. get_or bs i false) is ∙ marks-longer old n k low i
marks-lengthened false old new n k is low i = ap (λ bs. get_or bs i false) is

-- an object by its number
pub set-object : (old new : List Bool) (x : Node) (n : ObjectNo) (b : Bool) → x ≡ node.Object n → ((i : ℕ) → get_or new i false ≡ (if nat_eq n.0 i then b else get_or old i false)) → AreSetAt old x b new
set-object old new x n b is set = subst (λ (y : Node). AreSetAt old y b new) (sym is) (λ o. set o.0)

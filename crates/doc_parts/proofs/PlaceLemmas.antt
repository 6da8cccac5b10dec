-- A key has the number of the first part of its path, and keeps it while more parts are found.
use Rattle.std.proofs.Common.{◌≡◌, ◌∙◌, Bool, true, false, List, [], ◌∷◌, Option, Some, None, ℕ, ap, cond, refl, sym}
use Rattle.std.specs.Prelude.{◌&&◌, nat_eq}
use Rattle.std.specs.Map.{lookup}
use Rattle.std.specs.Option.{option_or}
use Rattle.std.specs.Str.{bytes_eq}
use Rattle.std.proofs.lemmas.Bool.{and_parts, true≢false}
use Rattle.std.proofs.lemmas.Bool.Decides.{Decides-eqb}
use Rattle.std.proofs.lemmas.Slice.Eq.{bytes_eq-Decides}
use Rattle.indexmap.specs.IndexMap.{insert_entry}
use Rattle.web_uris.specs.Paths.{same_index}
use Rattle.doc_parts.specs.declared.found.PartKey.{PartKey}
use Rattle.doc_parts.specs.declared.found.PartKey.TheVariants.{Root, Under}
use Rattle.doc_parts.specs.Keys.{Key, RootKey, UnderKey, is_at, key_of}
use Rattle.doc_parts.specs.contracts.found.PartKeyPartialEq.TheImpl.{ghosts}

---------------------------------------------------------------- keys

pub same_index_tells : (i j : Option ℕ) → same_index i j ≡ true → i ≡ j
same_index_tells None None h = refl
same_index_tells (Some i) (Some j) h = ap Some ((Decides-eqb i j).0 h)
same_index_tells None (Some j) h = cc
same_index_tells (Some i) None h = cc

pub is_at_tells : (k : Key) (p : PartKey) → is_at k p ≡ true → k ≡ key_of p
is_at_tells (RootKey i) (Root j) h = ap RootKey ((Decides-eqb i j).0 h)
is_at_tells (RootKey i) (Under n w j) h = cc
is_at_tells (UnderKey n w i) (Root j) h = cc
is_at_tells (UnderKey n w i) (Under k v j) h =
    let (first, rest) = and_parts (nat_eq n k) (bytes_eq w v.now && same_index i j) h in
    let (second, third) = and_parts (bytes_eq w v.now) (same_index i j) rest in
    ap (λ x. UnderKey x w i) ((Decides-eqb n k).0 first) ∙ ap (λ x. UnderKey k x i) ((bytes_eq-Decides w v.now).0 second) ∙ ap (UnderKey k v.now) (same_index_tells i j third)

-- two keys of parts are equal if one is at the other
pub derived : (p q : PartKey) → ghosts.eq p q ≡ is_at (key_of p) q
derived (Root i) (Root j) = refl
derived (Root i) (Under n w j) = refl
derived (Under n w i) (Root j) = refl
derived (Under n w i) (Under k v j) = refl

pub lookup_congr : {K V : Type 0} (p q : K → Bool) → ((k : K) → p k ≡ q k) → (es : List (K × V)) → lookup p es ≡ lookup q es
lookup_congr p q same [] = refl
lookup_congr p q same (e ∷ es) = ap (λ b. cond b (Some e.1) (lookup p es)) (same e.0) ∙ ap (λ o. cond (q e.0) (Some e.1) o) (lookup_congr p q same es)

behind : {V : Type 0} (b c : Bool) (v w : V) (o : Option V) → option_or (cond b (Some v) o) (cond c (Some w) None) ≡ cond b (Some v) (option_or o (cond c (Some w) None))
behind true c v w o = refl
behind false c v w o = refl

-- a key that is equal to one with a value has that value
pub found_by_equal : {V : Type 0} (es : List (PartKey × V)) (p q : PartKey) (v : V) → lookup (ghosts.eq p) es ≡ Some v → ghosts.eq p q ≡ true → lookup (is_at (key_of q)) es ≡ Some v
found_by_equal es p q v at same =
    ap (λ k. lookup (is_at k) es) (sym (is_at_tells (key_of p) q (sym (derived p q) ∙ same)))
    ∙ sym (lookup_congr (ghosts.eq p) (is_at (key_of p)) (derived p) es)
    ∙ at

---------------------------------------------------------------- a number that is put in the place of another

abbrev same_key : Key → Key → Bool
same_key (RootKey i) (RootKey j) = nat_eq i j
same_key (RootKey i) (UnderKey k v j) = false
same_key (UnderKey n w i) (RootKey j) = false
same_key (UnderKey n w i) (UnderKey k v j) = nat_eq n k && (bytes_eq w v && same_index i j)

is_at-same_key : (k : Key) (p : PartKey) → is_at k p ≡ same_key k (key_of p)
is_at-same_key (RootKey i) (Root j) = refl
is_at-same_key (RootKey i) (Under n w j) = refl
is_at-same_key (UnderKey n w i) (Root j) = refl
is_at-same_key (UnderKey n w i) (Under k v j) = refl

alike : (k : Key) (p q : PartKey) → key_of p ≡ key_of q → is_at k p ≡ is_at k q
alike k p q same = is_at-same_key k p ∙ ap (same_key k) same ∙ sym (is_at-same_key k q)

twice : (b : Bool) (x y o : Option ℕ) → cond b x o ≡ cond b x (cond b y o)
twice true x y o = refl
twice false x y o = refl

exchange : (a b : Bool) (x y o : Option ℕ) → (a ≡ true → b ≡ true → ⊥) → cond a x (cond b y o) ≡ cond b y (cond a x o)
exchange true true x y o apart = absurd (apart refl refl)
exchange true false x y o apart = refl
exchange false true x y o apart = refl
exchange false false x y o apart = refl

module _ (eq : PartKey → PartKey → Bool) (derived : (p q : PartKey) → eq p q ≡ is_at (key_of p) q) where
  pub lookup_insert : (es : List (PartKey × ℕ)) (key : PartKey) (v : ℕ) (k : Key) → lookup (is_at k) (insert_entry eq es key v) ≡ cond (is_at k key) (Some v) (lookup (is_at k) es)
  lookup_insert [] key v k = refl
  lookup_insert (e ∷ es) key v k = by (eq key e.0) refl (lookup_insert es key v k)
    where
      by : (b : Bool) → eq key e.0 ≡ b → lookup (is_at k) (insert_entry eq es key v) ≡ cond (is_at k key) (Some v) (lookup (is_at k) es)
          → lookup (is_at k) (cond b ((e.0, v) ∷ es) (e ∷ insert_entry eq es key v)) ≡ cond (is_at k key) (Some v) (cond (is_at k e.0) (Some e.1) (lookup (is_at k) es))
      by true is rest =
          let same : is_at k e.0 ≡ is_at k key = sym (alike k key e.0 (is_at_tells (key_of key) e.0 (sym (derived key e.0) ∙ is))) in
          ap (λ c. cond c (Some v) (lookup (is_at k) es)) same
          ∙ twice (is_at k key) (Some v) (Some e.1) (lookup (is_at k) es)
          ∙ ap (λ c. cond (is_at k key) (Some v) (cond c (Some e.1) (lookup (is_at k) es))) (sym same)
      by false is rest =
          ap (λ o. cond (is_at k e.0) (Some e.1) o) rest
          ∙ exchange (is_at k e.0) (is_at k key) (Some e.1) (Some v) (lookup (is_at k) es) (λ at own. true≢false (sym at ∙ ap (λ x. is_at x e.0) (is_at_tells k key own) ∙ sym (derived key e.0) ∙ is))

-- a key that had no number comes last
put_by : (at : Key → Option ℕ) (key : PartKey) (n : ℕ) (k : Key) (b : Bool) → is_at k key ≡ b → at (key_of key) ≡ None → cond b (Some n) (at k) ≡ option_or (at k) (cond b (Some n) None)
put_by at key n k true is none = sym (ap (λ o. option_or o (Some n)) (ap at (is_at_tells k key is) ∙ none))
put_by at key n k false is none = sym (or_nothing (at k))
  where
    or_nothing : (o : Option ℕ) → option_or o None ≡ o
    or_nothing None = refl
    or_nothing (Some x) = refl

pub put_last : (at : Key → Option ℕ) (key : PartKey) (n : ℕ) (k : Key) → at (key_of key) ≡ None → cond (is_at k key) (Some n) (at k) ≡ option_or (at k) (cond (is_at k key) (Some n) None)
put_last at key n k none = put_by at key n k (is_at k key) refl none

-- a number that was there is put back
back_by : (at : Key → Option ℕ) (key : PartKey) (n v : ℕ) (k : Key) (b : Bool) → is_at k key ≡ b → at (key_of key) ≡ Some n → cond b (Some n) (cond b (Some v) (at k)) ≡ at k
back_by at key n v k true is first = sym (ap at (is_at_tells k key is) ∙ first)
back_by at key n v k false is first = refl

pub put_back : (at once twice : Key → Option ℕ) (key : PartKey) (n v : ℕ) → at (key_of key) ≡ Some n → ((k : Key) → once k ≡ cond (is_at k key) (Some v) (at k)) → ((k : Key) → twice k ≡ cond (is_at k key) (Some n) (once k)) → (k : Key) → twice k ≡ at k
put_back at once twice key n v first one two k = two k ∙ ap (cond (is_at k key) (Some n)) (one k) ∙ back_by at key n v k (is_at k key) refl first

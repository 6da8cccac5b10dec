-- A path is followed from its root on.
use Rattle.std.proofs.Common.{◌≡◌, ◌∙◌, ◌<◌, ◌++◌, List, [], ◌∷◌, Option, Some, None, ℕ, append_assoc, ap, drop, drop-cons, get_or, length, refl, suc, sym}
use Rattle.std.specs.Prelude.{reverse}
use Rattle.std.proofs.lemmas.List.{reverse-append}
use Rattle.web_uris.specs.declared.path.Step.{Step}
use Rattle.doc_parts.specs.Keys.{Key, RootKey, UnderKey, descend, way}

pub descend_none : (at : Key → Option ℕ) (ss : List Step) → descend at None ss ≡ None
descend_none at [] = refl
descend_none at (s ∷ ss) = descend_none at ss

descend_way : (at : Key → Option ℕ) (i : ℕ) (rs ss : List Step) → descend at (way at i rs) ss ≡ way at i (reverse ss ++ rs)
descend_way at i rs [] = refl
descend_way at i rs (s ∷ ss) =
    descend_way at i (s ∷ rs) ss
    ∙ ap (way at i) (sym (append_assoc (reverse ss) (s ∷ []) rs) ∙ ap (λ xs. xs ++ rs) (sym (reverse-append (s ∷ []) ss)))

append_nil : (xs : List Step) → xs ++ [] ≡ xs
append_nil [] = refl
append_nil (x ∷ xs) = ap (λ ys. x ∷ ys) (append_nil xs)

pub descend_is : (at : Key → Option ℕ) (i : ℕ) (ss : List Step) → descend at (at (RootKey i)) ss ≡ way at i (reverse ss)
descend_is at i ss = descend_way at i [] ss ∙ ap (way at i) (append_nil (reverse ss))

-- from the root on, if it exists
pub path_from : (at : Key → Option ℕ) (i : ℕ) (ss : List Step) (o : Option ℕ) → o ≡ at (RootKey i) → descend at o ss ≡ way at i (reverse ss)
path_from at i ss o is = ap (λ x. descend at x ss) is ∙ descend_is at i ss

pub path_none : (at : Key → Option ℕ) (i : ℕ) (ss : List Step) → None ≡ at (RootKey i) → None ≡ way at i (reverse ss)
path_none at i ss is = sym (descend_none at ss) ∙ path_from at i ss None is

pub descended_none : (at : Key → Option ℕ) (n : ℕ) (ss : List Step) (i : ℕ) (s : Step) (w : List ℕ) (all : Option ℕ) → i < length ss → s ≡ get_or ss i s → w ≡ s.name → None ≡ at (UnderKey n w s.index)
    → descend at (Some n) (drop i ss) ≡ all → None ≡ all
descended_none at n ss i s w all below is names none before =
    sym (descend_none at (drop (suc i) ss))
    ∙ ap (λ o. descend at o (drop (suc i) ss)) (none ∙ ap (λ x. at (UnderKey n x s.index)) names)
    ∙ ap (descend at (Some n)) (ap (λ x. x ∷ drop (suc i) ss) is ∙ sym (drop-cons ss i s below))
    ∙ before

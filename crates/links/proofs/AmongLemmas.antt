-- The links that a filter keeps.
use Rattle.std.proofs.Common.{◌≡◌, Bool, true, false, cond, List, [], ◌∷◌, refl, sym, ap, ◌∙◌, subst, inl, inr}
use Rattle.std.specs.List.{filter}
use Rattle.std.proofs.lemmas.Bool.{true≢false, false≢true}
use Rattle.links.proofs.EndLemmas.{Among, Among_cases, Among_head, Among_tail}
use Rattle.links.specs.declared.link.Link.{Link}

pub Among-filter : (p : Link → Bool) (ls : List Link) (m : Link) → Among m (filter p ls) → Among m ls × (p m ≡ true)
Among-filter p [] m h = absurd (false≢true h)
Among-filter p (l ∷ ls) m h =
    elim (p l) as (λ b. p l ≡ b → Among m (cond b (l ∷ filter p ls) (filter p ls)) → Among m (l ∷ ls) × (p m ≡ true)) [
      | true ↦ λ e q. elim (Among_cases m l (filter p ls) q) [
        | inl same ↦ (subst (λ (x : Link). Among x (l ∷ ls)) (sym same) (Among_head l ls), ap p same ∙ e)
        | inr later ↦ let rest = Among-filter p ls m later in (Among_tail m l ls rest.0, rest.1)
      ]
      | false ↦ λ e q. let rest = Among-filter p ls m q in (Among_tail m l ls rest.0, rest.1)
    ] refl h

pub Among_filter : (p : Link → Bool) (ls : List Link) (m : Link) → Among m ls → p m ≡ true → Among m (filter p ls)
Among_filter p [] m h e = absurd (false≢true h)
Among_filter p (l ∷ ls) m h e =
    elim (p l) as (λ b. p l ≡ b → Among m (cond b (l ∷ filter p ls) (filter p ls))) [
      | true ↦ λ q. elim (Among_cases m l ls h) [
        | inl same ↦ subst (λ (x : Link). Among x (l ∷ filter p ls)) (sym same) (Among_head l (filter p ls))
        | inr later ↦ Among_tail m l (filter p ls) (Among_filter p ls m later e)
      ]
      | false ↦ λ q. elim (Among_cases m l ls h) [
        | inl same ↦ absurd (true≢false (sym e ∙ ap p same ∙ q))
        | inr later ↦ Among_filter p ls m later e
      ]
    ] refl

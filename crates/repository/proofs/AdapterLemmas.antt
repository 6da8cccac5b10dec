-- The adapters after a chain.
use Rattle.std.proofs.Common.{◌≡◌, ◌∙◌, ◌||◌, ◌++◌, Bool, true, false, List, [], ◌∷◌, length, map, nat_lt, if◌then◌else◌, refl, sym, ap, subst, arith, le-leb}
use Rattle.std.proofs.lemmas.Bool.{false≢true, or_parts}
use Rattle.notice_chain.specs.Listed.{Above, Listed, adapter_after_notices, audience, heard_of, hears, is_chain_full, is_full, tell_chain, told_list}
use Rattle.notice_chain.specs.declared.notice.Notice.{Notice}
use Rattle.adapter_list.specs.Hearing.{IsUnheard, is_heard}
use Rattle.repository.specs.Prepared.{TellsAll}

---------------------------------------------------------------- no notifications

pub tell_chain-nil : (up : Above) (rs : List Listed) → tell_chain up [] rs ≡ rs
tell_chain-nil up [] = refl
tell_chain-nil up (r ∷ rs) = ap (λ xs. r ∷ xs) (tell_chain-nil up rs)

pub is_chain_full-nil : (up : Above) (rs : List Listed) → is_chain_full up [] rs ≡ false
is_chain_full-nil up [] = refl
is_chain_full-nil up (r ∷ rs) = is_chain_full-nil up rs

---------------------------------------------------------------- no adapters

pub told_list-none : (up : Above) (ns : List Notice) → told_list up ns [] ≡ []
told_list-none up [] = refl
told_list-none up (n ∷ ns) = told_list-none up ns

pub heard_where_attached : (up : Above) (made chain : List Notice) (rs : List Listed) → made ≡ (if nat_lt 0 (length rs) then chain else []) → TellsAll up made chain rs
heard_where_attached up made chain [] e = record {
  told = told_list-none up made ∙ sym (told_list-none up chain);
  adapters = refl;
  full = refl;
}
heard_where_attached up made chain (r ∷ rs) e =
    let more : nat_lt 0 (length (r ∷ rs)) ≡ true = le-leb _ _ (omega arith) in
    let same : made ≡ chain = e ∙ ap (λ (b : Bool). if b then chain else []) more in
    record {
      told = ap (λ ns. told_list up ns (r ∷ rs)) same;
      adapters = ap (λ ns. tell_chain up ns (r ∷ rs)) same;
      full = ap (λ ns. is_chain_full up ns (r ∷ rs)) same;
    }

-- if no adapter is attached, no adapter is notified
pub nobody-hears : (up : Above) (ns : List Notice) (rs : List Listed) → nat_lt 0 (length rs) ≡ false → IsUnheard up ns rs
nobody-hears up [] [] h = tt
nobody-hears up (n ∷ ns) [] h = (refl, nobody-hears up ns [] h)
nobody-hears up ns (r ∷ rs) h = absurd (false≢true (sym h ∙ le-leb _ _ (omega arith)))

---------------------------------------------------------------- no adapter is notified

-- an adapter that doesn't get a notification is not among those that do
no-audience : (up : Above) (n : Notice) (rs : List Listed) → is_heard up n.notifier rs ≡ false → audience up n rs ≡ []
no-audience up n [] h = refl
no-audience up n (r ∷ rs) h =
    let both = or_parts (hears up r n) (is_heard up n.notifier rs) h in
    ap (λ b. if b then (r ∷ audience up n rs) else audience up n rs) both.0 ∙ no-audience up n rs both.1

told_list-unheard : (up : Above) (ns : List Notice) (rs : List Listed) → IsUnheard up ns rs → told_list up ns rs ≡ []
told_list-unheard up [] rs h = refl
told_list-unheard up (n ∷ ns) rs h = ap (λ qs. map (λ (r : Listed). (r.no, n)) qs ++ told_list up ns rs) (no-audience up n rs h.0) ∙ told_list-unheard up ns rs h.1

-- one of the adapters gets no notification of the chain, and the others get none
heard_of-unheard : (up : Above) (ns : List Notice) (r : Listed) (rs : List Listed) → IsUnheard up ns (r ∷ rs) → (heard_of up ns r ≡ []) × IsUnheard up ns rs
heard_of-unheard up [] r rs h = (refl, tt)
heard_of-unheard up (n ∷ ns) r rs h =
    let both = or_parts (hears up r n) (is_heard up n.notifier rs) h.0 in
    let later = heard_of-unheard up ns r rs h.1 in
    (ap (λ b. if b then (n ∷ heard_of up ns r) else heard_of up ns r) both.0 ∙ later.0, (both.1, later.1))

tell_chain-unheard : (up : Above) (ns : List Notice) (rs : List Listed) → IsUnheard up ns rs → rs ≡ tell_chain up ns rs
tell_chain-unheard up ns [] h = refl
tell_chain-unheard up ns (r ∷ rs) h =
    let here = heard_of-unheard up ns r rs h in
    λ i. adapter_after_notices r (sym here.0 i) ∷ tell_chain-unheard up ns rs here.1 i

is_chain_full-unheard : (up : Above) (ns : List Notice) (rs : List Listed) → IsUnheard up ns rs → is_chain_full up ns rs ≡ false
is_chain_full-unheard up ns [] h = refl
is_chain_full-unheard up ns (r ∷ rs) h =
    let here = heard_of-unheard up ns r rs h in
    ap (λ (qs : List Notice). is_full (length qs) (length r.targets) r.view || is_chain_full up ns rs) here.0 ∙ is_chain_full-unheard up ns rs here.1

-- a chain that notifies no adapter has the same effect as an empty chain
pub unheard-tells : (up : Above) (chain : List Notice) (rs : List Listed) → IsUnheard up chain rs → TellsAll up [] chain rs
unheard-tells up chain rs h = record {
  told = sym (told_list-unheard up chain rs h);
  adapters = tell_chain-nil up rs ∙ tell_chain-unheard up chain rs h;
  full = is_chain_full-nil up rs ∙ sym (is_chain_full-unheard up chain rs h);
}

-- the chain itself, if an adapter may have to get it, and otherwise an empty chain
pub heard-tells : (b : Bool) (up : Above) (made chain : List Notice) (rs : List Listed) → made ≡ (if b then chain else []) → (b ≡ false → IsUnheard up chain rs) → TellsAll up made chain rs
heard-tells true up made chain rs is unheard = record { told = ap (λ ns. told_list up ns rs) is; adapters = ap (λ ns. tell_chain up ns rs) is; full = ap (λ ns. is_chain_full up ns rs) is }
heard-tells false up made chain rs is unheard = subst (λ ns. TellsAll up ns chain rs) (sym is) (unheard-tells up chain rs (unheard refl))

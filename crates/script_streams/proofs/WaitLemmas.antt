-- A line may have to be read in pieces, with a wait before each.
use Rattle.std.proofs.Common.{◌≡◌, ◌⊎◌, ◌∙◌, inl, inr, subst, sym}

-- one more piece: the stream was not read, or nothing is left to do
pub more_ready : {T X : Type 0} (is_ready : X → Type 0) (a b c : T) (x y : X) → (b ≡ a) ⊎ is_ready x → ((c ≡ b) × (y ≡ x)) ⊎ is_ready y → (c ≡ a) ⊎ is_ready y
more_ready is_ready a b c x y had (inr ready) = inr ready
more_ready is_ready a b c x y (inl same) (inl kept) = inl (kept.0 ∙ same)
more_ready is_ready a b c x y (inr ready) (inl kept) = inr (subst is_ready (sym kept.1) ready)

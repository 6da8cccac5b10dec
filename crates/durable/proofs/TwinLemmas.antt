-- Lines that were kept are run again.
use Rattle.std.proofs.Common.{◌≡◌, ◌∙◌, ◌++◌, inl, inr, ℕ, true, false, List, [], ◌∷◌, ap, append_assoc, refl, subst, sym}
use Rattle.std.proofs.lemmas.Bool.{both_ways, cases_Bool}
use Rattle.journal.specs.Lines.{IsEntry, recovered_lines}
use Rattle.durable.specs.Printed.{Printed, Refuses, Runs, RunsKept, RunsLines, is_kept, is_lost, kept_line, kept_lines}

module _ {S : Type 0} (runs : Runs S) where
  -- ---- one line more

  kept_push : (s : S) (ls : List (List ℕ)) (t : S) (l : List ℕ) (p : Printed) (u : S) → RunsKept runs s ls t → runs t l p u → is_kept p.turn ≡ true
      → RunsKept runs s (ls ++ l ∷ []) u
  kept_push s [] t l p u so_far ran is = (p, u, subst (λ (x : S). runs x l p u) so_far ran, is, refl)
  kept_push s (k ∷ ls) t l p u so_far ran is = (so_far.0, so_far.1, so_far.2, so_far.3, kept_push so_far.1 ls t l p u so_far.4 ran is)

  refuses_push : (s : S) (ls : List (List ℕ)) (t : S) (l : List ℕ) (rest : List (List ℕ)) (p : Printed) (u : S) → RunsKept runs s ls t → runs t l p u
      → is_kept p.turn ≡ false → is_lost p.turn ≡ false → Refuses runs s (ls ++ l ∷ rest)
  refuses_push s [] t l rest p u so_far ran is not_lost = (p, u, subst (λ (x : S). runs x l p u) so_far ran, inl (is, not_lost))
  refuses_push s (k ∷ ls) t l rest p u so_far ran is not_lost =
      (so_far.0, so_far.1, so_far.2, inr (so_far.3, refuses_push so_far.1 ls t l rest p u so_far.4 ran is not_lost))

  -- Some lines of a file were run, and the others are left.
  pub record Replayed (s : S) (all : List (List ℕ)) (t : S) (rest : List (List ℕ)) : Type 0 where
    pub first : List (List ℕ)
    pub lines_are : all ≡ first ++ rest
    pub ran : RunsKept runs s first t

  module _ (s : S) (all : List (List ℕ)) (t : S) (rest line more : List ℕ) (so_far : Replayed s all t (recovered_lines rest)) (one : IsEntry rest line more)
      (p : Printed) (u : S) (ran : runs t line p u) where
    all_are : all ≡ so_far.first ++ line ∷ recovered_lines more
    all_are = so_far.lines_are ∙ ap (λ (ls : List (List ℕ)). so_far.first ++ ls) one.lines_are

    pub replays : is_kept p.turn ≡ true → Replayed s all u (recovered_lines more)
    replays is = record {
      first = so_far.first ++ line ∷ [];
      lines_are = all_are ∙ sym (append_assoc so_far.first (line ∷ []) (recovered_lines more));
      ran = kept_push s so_far.first t line p u so_far.ran ran is;
    }

    pub refuses : is_kept p.turn ≡ false → is_lost p.turn ≡ false → Refuses runs s all
    refuses is not_lost = subst (Refuses runs s) (sym all_are) (refuses_push s so_far.first t line (recovered_lines more) p u so_far.ran ran is not_lost)

  -- ---- a twin

  kept_line-kept : (l : List ℕ) (p : Printed) (ks : List (List ℕ)) → is_kept p.turn ≡ true → kept_line l p ++ ks ≡ l ∷ ks
  kept_line-kept l p ks is = rw is refl

  kept_line-other : (l : List ℕ) (p : Printed) (ks : List (List ℕ)) → is_kept p.turn ≡ false → kept_line l p ++ ks ≡ ks
  kept_line-other l p ks is = rw is refl

  module _ (alike : S → S → Type 0) (is_alone : S → Type 0)
      (others : (s t x : S) (l : List ℕ) (p : Printed) → runs s l p t → is_kept p.turn ≡ false → alike s x → alike t x)
      (kept : (s t x y : S) (l : List ℕ) (p q : Printed) → runs s l p t → is_kept p.turn ≡ true → alike s x → runs x l q y → is_kept q.turn ≡ true → alike t y)
      (done : (s t x y : S) (l : List ℕ) (p q : Printed) → runs s l p t → is_kept p.turn ≡ true → alike s x → is_alone x → runs x l q y → is_kept q.turn ≡ false
      → is_lost q.turn ≡ true)
      (alone : (x y : S) (l : List ℕ) (q : Printed) → is_alone x → runs x l q y → is_kept q.turn ≡ true → is_alone y) where
    pub alike_again : (s t x y : S) (ls : List (List ℕ)) (ps : List Printed) → alike s x → RunsLines runs s ls ps t → RunsKept runs x (kept_lines ls ps) y → alike t y
    alike_again s t x y [] [] same ran again = subst (λ (z : S). alike z y) (sym ran) (subst (λ (z : S). alike s z) (sym again) same)
    alike_again s t x y [] (p ∷ ps) same ran again = absurd ran
    alike_again s t x y (l ∷ ls) [] same ran again = absurd ran
    alike_again s t x y (l ∷ ls) (p ∷ ps) same ran again = elim (cases_Bool (is_kept p.turn)) [
      | inl is ↦
          let a = subst (λ (ks : List (List ℕ)). RunsKept runs x ks y) (kept_line-kept l p (kept_lines ls ps) is) again in
          alike_again ran.0 t a.1 y ls ps (kept s ran.0 x a.1 l p a.0 ran.1 is same a.2 a.3) ran.2 a.4
      | inr is ↦
          let a = subst (λ (ks : List (List ℕ)). RunsKept runs x ks y) (kept_line-other l p (kept_lines ls ps) is) again in
          alike_again ran.0 t x y ls ps (others s ran.0 x l p ran.1 is same) ran.2 a
    ]

    pub none_refused : (s t x : S) (ls : List (List ℕ)) (ps : List Printed) → alike s x → is_alone x → RunsLines runs s ls ps t → Refuses runs x (kept_lines ls ps) → ⊥
    none_refused s t x [] [] same lone ran refused = refused
    none_refused s t x [] (p ∷ ps) same lone ran refused = ran
    none_refused s t x (l ∷ ls) [] same lone ran refused = ran
    none_refused s t x (l ∷ ls) (p ∷ ps) same lone ran refused = elim (cases_Bool (is_kept p.turn)) [
      | inl is ↦
          let a = subst (λ (ks : List (List ℕ)). Refuses runs x ks) (kept_line-kept l p (kept_lines ls ps) is) refused in
          elim a.3 [
            | inl here ↦ both_ways (is_lost a.0.turn) here.1 (done s ran.0 x a.1 l p a.0 ran.1 is same lone a.2 here.0)
            | inr later ↦ none_refused ran.0 t a.1 ls ps (kept s ran.0 x a.1 l p a.0 ran.1 is same a.2 later.0) (alone x a.1 l a.0 lone a.2 later.0) ran.2 later.1
          ]
      | inr is ↦
          let a = subst (λ (ks : List (List ℕ)). Refuses runs x ks) (kept_line-other l p (kept_lines ls ps) is) refused in
          none_refused ran.0 t x ls ps (others s ran.0 x l p ran.1 is same) lone ran.2 a
    ]

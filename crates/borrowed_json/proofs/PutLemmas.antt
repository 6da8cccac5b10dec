-- Members that replace earlier members of the same key.
use Rattle.std.proofs.Common.{◌≡◌, ◌∙◌, ◌<◌, ℕ, zero, suc, List, [], ◌∷◌, Bool, true, false, Bor, Ordering, Less, Equal, Greater, ap, arith, bytes_eq, drop, get_or, is_eq, length, map, nat_cmp, refl, set, sym, true≢false}
use Rattle.std.proofs.lemmas.Cmp.{nat_list_cmp_total, tied_itself}
use Rattle.std.proofs.lemmas.Map.Text.{is_eq-slice_cmp}
use Rattle.std.specs.Prelude.{◌&&◌, fold, not}
use Rattle.std.specs.Cmp.Lexicographic.{slice_cmp}
use Rattle.std.specs.List.{list_all}
use Rattle.std.specs.Ordering.{match_ordering, ordering_reverse}
use Rattle.serde_json.specs.Data.{Data, Members, no_members, member, put}
use Rattle.borrowed_json.specs.View.{members_view, view}
use Rattle.borrowed_json.proofs.ViewLemmas.{Entry}

abbrev cmp : List ℕ → List ℕ → Ordering
cmp k l = slice_cmp nat_cmp k l

same_text : (k : List ℕ) → cmp k k ≡ Equal
same_text k = tied_itself nat_list_cmp_total k

abbrev step : Ordering → List ℕ → List ℕ → Data → Data → Members → Members → Members
step o k l d e ms later = match_ordering o (member k d (member l e ms)) (member l d ms) (member l e later)

-- a second put at a key replaces the first
put-put_at : (o : Ordering) (k l : List ℕ) (d e f : Data) (ms : Members) → cmp k l ≡ o → put k d (put k e ms) ≡ put k d ms
    → put k d (step o k l e f ms (put k e ms)) ≡ step o k l d f ms (put k d ms)
put-put_at Less k l d e f ms is later = ap (λ o. step o k k d e (member l f ms) (put k d (member l f ms))) (same_text k)
put-put_at Equal k l d e f ms is later = ap (λ o. step o k l d e ms (put k d ms)) is
put-put_at Greater k l d e f ms is later = ap (λ o. step o k l d f (put k e ms) (put k d (put k e ms))) is ∙ ap (member l f) later

put-put : (k : List ℕ) (d e : Data) (ms : Members) → put k d (put k e ms) ≡ put k d ms
put-put k d e no_members = ap (λ o. step o k k d e no_members (put k d no_members)) (same_text k)
put-put k d e (member l f ms) = put-put_at (cmp k l) k l d e f ms refl (put-put k d e ms)

reversed : (k l : List ℕ) (o : Ordering) → cmp k l ≡ o → cmp l k ≡ ordering_reverse o
reversed k l o is = nat_list_cmp_total.antisymm l k ∙ ap ordering_reverse is

-- k comes before l
commute_at : (o n : Ordering) (k l m : List ℕ) (d e f : Data) (ms : Members) → cmp k l ≡ Less → cmp k m ≡ o → cmp l m ≡ n → put k d (put l e ms) ≡ put l e (put k d ms)
    → put k d (step n l m e f ms (put l e ms)) ≡ put l e (step o k m d f ms (put k d ms))
commute_at Less Less k l m d e f ms less is at later =
    ap (λ o. step o k l d e (member m f ms) (put k d (member m f ms))) less
    ∙ sym (ap (λ o. step o l k e d (member m f ms) (put l e (member m f ms))) (reversed k l Less less) ∙ ap (λ o. member k d (step o l m e f ms (put l e ms))) at)
commute_at Less Equal k l m d e f ms less is at later =
    ap (λ o. step o k m d e ms (put k d ms)) is
    ∙ sym (ap (λ o. step o l k e d (member m f ms) (put l e (member m f ms))) (reversed k l Less less) ∙ ap (λ o. member k d (step o l m e f ms (put l e ms))) at)
commute_at Less Greater k l m d e f ms less is at later =
    ap (λ o. step o k m d f (put l e ms) (put k d (put l e ms))) is
    ∙ sym (ap (λ o. step o l k e d (member m f ms) (put l e (member m f ms))) (reversed k l Less less) ∙ ap (λ o. member k d (step o l m e f ms (put l e ms))) at)
commute_at Equal n k l m d e f ms less is at later =
    let above : cmp l m ≡ Greater = reversed m l Less (sym (nat_list_cmp_total.congr k m l is) ∙ less) in
    ap (λ x. put k d (step x l m e f ms (put l e ms))) (sym at ∙ above)
    ∙ ap (λ o. step o k m d f (put l e ms) (put k d (put l e ms))) is
    ∙ sym (ap (λ o. step o l m e d ms (put l e ms)) above)
commute_at Greater n k l m d e f ms less is at later =
    let below : cmp m k ≡ Less = reversed k m Greater is in
    let above : cmp l m ≡ Greater = reversed m l Less (nat_list_cmp_total.trans m k l below less) in
    ap (λ x. put k d (step x l m e f ms (put l e ms))) (sym at ∙ above)
    ∙ ap (λ o. step o k m d f (put l e ms) (put k d (put l e ms))) is
    ∙ ap (member m f) later
    ∙ sym (ap (λ o. step o l m e f (put k d ms) (put l e (put k d ms))) above)

commute_less : (k l : List ℕ) (d e : Data) (ms : Members) → cmp k l ≡ Less → put k d (put l e ms) ≡ put l e (put k d ms)
commute_less k l d e no_members less =
    ap (λ o. step o k l d e no_members (put k d no_members)) less ∙ sym (ap (λ o. step o l k e d no_members (put l e no_members)) (reversed k l Less less))
commute_less k l d e (member m f ms) less = commute_at (cmp k m) (cmp l m) k l m d e f ms less refl refl (commute_less k l d e ms less)

apart : (o : Ordering) (k l : List ℕ) (d e : Data) (ms : Members) → cmp k l ≡ o → bytes_eq k l ≡ false → put k d (put l e ms) ≡ put l e (put k d ms)
apart Less k l d e ms is other = commute_less k l d e ms is
apart Equal k l d e ms is other = absurd (true≢false (sym (ap is_eq is) ∙ is_eq-slice_cmp k l ∙ other))
apart Greater k l d e ms is other = sym (commute_less l k e d ms (reversed k l Greater is))

---------------------------------------------------------------- members as they are written

abbrev onto : Members → List Entry → Members
onto old [] = old
onto old (m ∷ ms) = onto (put m.0.now (view m.1) old) ms

onto-fold : (old : Members) (ms : List Entry) → fold (λ found (m : Bor (List ℕ) × Data). put m.0.now m.1 found) old (map (λ (m : Entry). (m.0, view m.1)) ms) ≡ onto old ms
onto-fold old [] = refl
onto-fold old (m ∷ ms) = onto-fold (put m.0.now (view m.1) old) ms

abbrev others : List ℕ → List Entry → Bool
others k ms = list_all (λ m. not (bytes_eq m.0.now k)) ms

both : (a b : Bool) → not a && b ≡ true → (a ≡ false) × (b ≡ true)
both true b h = absurd (true≢false (sym h))
both false b h = (refl, h)

-- a key that does not come again may be put before the others
put_before : (k : List ℕ) (d : Data) (old : Members) (ms : List Entry) → others k ms ≡ true → put k d (onto old ms) ≡ onto (put k d old) ms
put_before k d old [] h = refl
put_before k d old (m ∷ ms) h =
    let apart_here = both (bytes_eq m.0.now k) (others k ms) h in
    put_before k d (put m.0.now (view m.1) old) ms apart_here.1
    ∙ ap (λ x. onto x ms) (sym (apart (cmp m.0.now k) m.0.now k (view m.1) d old refl apart_here.0))

set_onto : (old : Members) (ms : List Entry) (i : ℕ) (e x : Entry) → i < length ms → (get_or ms i x).0.now ≡ e.0.now → others e.0.now (drop (suc i) ms) ≡ true
    → onto old (set ms i e) ≡ put e.0.now (view e.1) (onto old ms)
set_onto old [] i e x within same last = absurd (omega arith)
set_onto old (m ∷ ms) zero e x within same last =
    sym (put_before e.0.now (view e.1) (put m.0.now (view m.1) old) ms last
    ∙ ap (λ k. onto (put e.0.now (view e.1) (put k (view m.1) old)) ms) same
    ∙ ap (λ y. onto y ms) (put-put e.0.now (view e.1) (view m.1) old))
set_onto old (m ∷ ms) (suc i) e x within same last = set_onto (put m.0.now (view m.1) old) ms i e x (omega arith) same last

-- the last member of a key gets a new value
pub members_set : (ms : List Entry) (i : ℕ) (e x : Entry) → i < length ms → (get_or ms i x).0.now ≡ e.0.now → others e.0.now (drop (suc i) ms) ≡ true
    → members_view (set ms i e) ≡ put e.0.now (view e.1) (members_view ms)
members_set ms i e x within same last =
    onto-fold no_members (set ms i e) ∙ set_onto no_members ms i e x within same last ∙ ap (put e.0.now (view e.1)) (sym (onto-fold no_members ms))

-- A list has a value twice if a value is the same as an earlier one.
use Rattle.std.proofs.Common.{◌≡◌, ◌∙◌, ◌+◌, ◌<◌, ◌++◌, Bool, true, false, List, [], ◌∷◌, ℕ, suc, nat_le, ap, arith, cond, drop, get_or, length, map, refl, sym, take}
use Rattle.std.specs.Prelude.{◌||◌, not}
use Rattle.std.specs.List.{list_any}
use Rattle.std.proofs.lemmas.Bool.{and_parts, false≢true, leb-true}
use Rattle.std.proofs.lemmas.List.{map-append, take-append-drop, take_more}
use Rattle.indexmap.specs.IndexSet.{insert_key}
use Rattle.mm_types.specs.Same.{same_value}
use Rattle.mm_types.specs.SameValues.{same_value_laws}
use Rattle.mm_types.specs.declared.value.Value.{Value}
use Rattle.mm_types.specs.declared.value.Value.TheVariants as value
use Rattle.resource_docs.specs.Causes.{repeats_value}
use Rattle.resource_docs.specs.Keys.{rising_from, value_of_key}
use Rattle.resource_docs.specs.declared.repeats.Key.{Key}
use Rattle.resource_docs.specs.declared.repeats.Key.TheVariants as key
use Rattle.resource_docs.specs.contracts.repeats.KeyPartialEq.TheImpl.{ghosts}
use Rattle.resource_docs.proofs.AnyLemmas.{differ}
use Rattle.resource_docs.proofs.ReadingLemmas.{any-push}

pub same_key : (k l : Key) → ghosts.eq k l ≡ same_value (value_of_key k) (value_of_key l)
same_key key.Null key.Null = refl
same_key (key.Bool true) (key.Bool true) = refl
same_key (key.Bool true) (key.Bool false) = refl
same_key (key.Bool false) (key.Bool true) = refl
same_key (key.Bool false) (key.Bool false) = refl
same_key (key.Int a) (key.Int b) = refl
same_key (key.Text a) (key.Text b) = refl
same_key (key.Literal a) (key.Literal b) = refl
same_key (key.Object a) (key.Object b) = refl
same_key (key.Proxy a) (key.Proxy b) = refl
same_key _ _ = refl

pub any_key : (k : Key) (ks : List Key) → list_any (ghosts.eq k) ks ≡ list_any (same_value (value_of_key k)) (map value_of_key ks)
any_key k [] = refl
any_key k (l ∷ ks) = ap (λ b. b || list_any (ghosts.eq k) ks) (same_key k l) ∙ ap (λ b. same_value (value_of_key k) (value_of_key l) || b) (any_key k ks)

exchange : (a b c d : Bool) → (a || b) || (c || d) ≡ (a || c) || (b || d)
exchange true b c d = refl
exchange false true true d = refl
exchange false true false d = refl
exchange false false true d = refl
exchange false false false d = refl

pub repeats-push : (vs : List Value) (v : Value) → repeats_value (vs ++ v ∷ []) ≡ repeats_value vs || list_any (same_value v) vs
repeats-push [] v = refl
repeats-push (x ∷ xs) v =
    ap (λ b. b || repeats_value (xs ++ v ∷ [])) (any-push (same_value x) xs v)
    ∙ ap (λ b. (list_any (same_value x) xs || same_value x v) || b) (repeats-push xs v)
    ∙ ap (λ b. (list_any (same_value x) xs || b) || (repeats_value xs || list_any (same_value v) xs)) (same_value_laws.symm x v)
    ∙ exchange (list_any (same_value x) xs) (same_value v x) (repeats_value xs) (list_any (same_value v) xs)

either_longer : (a b c d : Bool) → (a ≡ true → c ≡ true) → (b ≡ true → d ≡ true) → a || b ≡ true → c || d ≡ true
either_longer true b c d f g h = let e = f refl in rw e refl
either_longer false true true d f g h = refl
either_longer false true false d f g h = g refl
either_longer false false c d f g h = cc

any_longer : (v : Value) (vs ws : List Value) → list_any (same_value v) vs ≡ true → list_any (same_value v) (vs ++ ws) ≡ true
any_longer v [] ws h = cc
any_longer v (x ∷ xs) ws h = either_longer (same_value v x) (list_any (same_value v) xs) (same_value v x) (list_any (same_value v) (xs ++ ws)) (λ e. e) (any_longer v xs ws) h

repeats_longer : (vs ws : List Value) → repeats_value vs ≡ true → repeats_value (vs ++ ws) ≡ true
repeats_longer [] ws h = cc
repeats_longer (x ∷ xs) ws h =
    either_longer (list_any (same_value x) xs) (repeats_value xs) (list_any (same_value x) (xs ++ ws)) (repeats_value (xs ++ ws)) (any_longer x xs ws) (repeats_longer xs ws) h

repeats_more : (vs : List Value) (i : ℕ) (v : Value) → i < length vs → v ≡ get_or vs i v → repeats_value (take (i + 1) vs) ≡ repeats_value (take i vs) || list_any (same_value v) (take i vs)
repeats_more vs i v below is = ap repeats_value (take_more vs i v below ∙ ap (λ x. take i vs ++ x ∷ []) (sym is)) ∙ repeats-push (take i vs) v

-- whether the value of a key is among the values of earlier keys
seen_before : (vs : List Value) (i : ℕ) (v : Value) (k : Key) (ks : List Key) → value_of_key k ≡ v → map value_of_key ks ≡ take i vs → list_any (ghosts.eq k) ks ≡ list_any (same_value v) (take i vs)
seen_before vs i v k ks is keys = any_key k ks ∙ ap (λ x. list_any (same_value x) (map value_of_key ks)) is ∙ ap (list_any (same_value v)) keys

or_true : (b : Bool) → b || true ≡ true
or_true true = refl
or_true false = refl

pub repeats_found : (vs : List Value) (i : ℕ) (v : Value) (k : Key) (ks : List Key) → i < length vs → v ≡ get_or vs i v → value_of_key k ≡ v → map value_of_key ks ≡ take i vs
    → list_any (ghosts.eq k) ks ≡ true → repeats_value vs ≡ true
repeats_found vs i v k ks below is key keys there =
    ap repeats_value (sym (take-append-drop (i + 1) vs))
    ∙ repeats_longer (take (i + 1) vs) (drop (i + 1) vs)
    (repeats_more vs i v below is ∙ ap (λ b. repeats_value (take i vs) || b) (sym (seen_before vs i v k ks key keys) ∙ there) ∙ or_true (repeats_value (take i vs)))

pub repeats_none : (vs : List Value) (i : ℕ) (v : Value) (k : Key) (ks : List Key) → i < length vs → v ≡ get_or vs i v → value_of_key k ≡ v → map value_of_key ks ≡ take i vs
    → list_any (ghosts.eq k) ks ≡ false → repeats_value (take i vs) ≡ false → repeats_value (take (i + 1) vs) ≡ false
repeats_none vs i v k ks below is key keys there none =
    repeats_more vs i v below is ∙ ap (λ b. b || list_any (same_value v) (take i vs)) none ∙ sym (seen_before vs i v k ks key keys) ∙ there

if_new : (b : Bool) (k : Key) (ks new : List Key) → new ≡ cond b ks (ks ++ k ∷ []) → b ≡ false → new ≡ ks ++ k ∷ []
if_new true k ks new more none = cc
if_new false k ks new more none = more

-- a new key goes last
pub keys_more : (vs : List Value) (i : ℕ) (v : Value) (k : Key) (ks new : List Key) → i < length vs → v ≡ get_or vs i v → value_of_key k ≡ v → map value_of_key ks ≡ take i vs
    → list_any (ghosts.eq k) ks ≡ false → new ≡ insert_key ghosts.eq ks k → map value_of_key new ≡ take (i + 1) vs
keys_more vs i v k ks new below is key keys none more =
    ap (map value_of_key) (if_new (list_any (ghosts.eq k) ks) k ks new more none)
    ∙ map-append value_of_key ks (k ∷ [])
    ∙ ap (λ xs. xs ++ value_of_key k ∷ []) keys
    ∙ ap (λ x. take i vs ++ x ∷ []) (key ∙ is)
    ∙ sym (take_more vs i v below)

pub is_there : (r b : Bool) → r ≡ not b → r ≡ false → b ≡ true
is_there r true said off = refl
is_there r false said off = let e : true ≡ false = sym said ∙ off in cc

pub is_absent : (r b : Bool) → r ≡ not b → r ≡ true → b ≡ false
is_absent r true said on = let e : false ≡ true = sym said ∙ on in cc
is_absent r false said on = refl

pub few_repeat_none : (vs : List Value) → length vs < 2 → false ≡ repeats_value vs
few_repeat_none [] few = refl
few_repeat_none (v ∷ []) few = refl
few_repeat_none (v ∷ w ∷ vs) few = absurd (omega (arith, few))

---------------------------------------------------------------- objects in the order of their numbers

rising_above : (n k : ℕ) (vs : List Value) → rising_from n vs ≡ true → k < n → list_any (same_value (value.Object (record { 0 = k }))) vs ≡ false
rising_above n k [] h low = refl
rising_above n k (value.Object o ∷ vs) h low =
    let both = and_parts (nat_le n o.0) (rising_from (suc o.0) vs) h in
    let least = leb-true n o.0 both.0 in
    let under : k < o.0 = omega arith in
    ap (λ b. b || list_any (same_value (value.Object (record { 0 = k }))) vs) (differ k o.0 under) ∙ rising_above (suc o.0) k vs both.1 (omega arith)
rising_above n k (_ ∷ vs) h low = absurd (false≢true h)

pub rising_none : (n : ℕ) (vs : List Value) → rising_from n vs ≡ true → repeats_value vs ≡ false
rising_none n [] h = refl
rising_none n (value.Object o ∷ vs) h =
    let both = and_parts (nat_le n o.0) (rising_from (suc o.0) vs) h in
    ap (λ b. b || repeats_value vs) (rising_above (suc o.0) o.0 vs both.1 (omega arith)) ∙ rising_none (suc o.0) vs both.1
rising_none n (_ ∷ vs) h = absurd (false≢true h)

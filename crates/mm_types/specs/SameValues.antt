-- Laws of `same_value`: it is true of equal values, and of no others.
use Rattle.std.proofs.Common.{◌≡◌, ℕ, Bool, true, false, not, if◌then◌else◌, refl, sym, ap, ◌∙◌, eqb-true, eq-eqb}
use Rattle.std.specs.Cmp.{IsPartialEquivalence}
use Rattle.std.proofs.lemmas.Bool.Decides.{Decides-int_eq}
use Rattle.std.proofs.lemmas.Slice.Eq.{bytes_eq-Decides}
use Rattle.mm_types.specs.Same.{same_value}
use Rattle.mm_types.specs.declared.value.Value.TheVariants as value
use Rattle.mm_types.specs.declared.value.Value.{Value}

same_bit : (a b : Bool) → (if a then b else not b) ≡ true → a ≡ b
same_bit true true h = refl
same_bit true false h = cc
same_bit false true h = cc
same_bit false false h = refl

same_bit-self : (a : Bool) → (if a then a else not a) ≡ true
same_bit-self true = refl
same_bit-self false = refl

pub same_value-true : (x y : Value) → same_value x y ≡ true → x ≡ y
same_value-true value.Null value.Null h = refl
same_value-true (value.Bool a) (value.Bool b) h = ap value.Bool (same_bit a b h)
same_value-true (value.Int a) (value.Int b) h = ap value.Int ((Decides-int_eq a b).0 h)
same_value-true (value.Text a) (value.Text b) h = ap value.Text ((bytes_eq-Decides a b).0 h)
same_value-true (value.Literal a) (value.Literal b) h = ap value.Literal (eqb-true a b h)
same_value-true (value.Object a) (value.Object b) h = ap (λ (k : ℕ). value.Object (record { 0 = k })) (eqb-true a.0 b.0 h)
same_value-true (value.Proxy a) (value.Proxy b) h = ap value.Proxy ((bytes_eq-Decides a b).0 h)
same_value-true _ _ h = cc

pub same_value-self : (x : Value) → same_value x x ≡ true
same_value-self value.Null = refl
same_value-self (value.Bool a) = same_bit-self a
same_value-self (value.Int a) = (Decides-int_eq a a).1 refl
same_value-self (value.Text a) = (bytes_eq-Decides a a).1 refl
same_value-self (value.Literal a) = eq-eqb a a refl
same_value-self (value.Object a) = eq-eqb a.0 a.0 refl
same_value-self (value.Proxy a) = (bytes_eq-Decides a a).1 refl

-- `same_value` is symmetric
same_value_both : (x y : Value) (a b : Bool) → same_value x y ≡ a → same_value y x ≡ b → a ≡ b
same_value_both x y true true h k = refl
same_value_both x y false false h k = refl
same_value_both x y true false h k = sym (same_value-self x) ∙ ap (λ (z : Value). same_value z x) (same_value-true x y h) ∙ k
same_value_both x y false true h k = sym h ∙ ap (λ (z : Value). same_value x z) (same_value-true y x k) ∙ same_value-self x

pub same_value_laws : IsPartialEquivalence same_value
same_value_laws = record {
  symm = λ x y. same_value_both x y (same_value x y) (same_value y x) refl refl;
  trans = λ x y z h k. ap (λ (w : Value). same_value w z) (same_value-true x y h) ∙ k;
}

-- Values as keys of a set; and lists of objects in rising order, which repeat nothing.
use Rattle.std.specs.Prelude.{◌&&◌, ℕ, suc, nat_le, Bool, true, false, List, [], ◌∷◌}
use Rattle.mm_types.specs.declared.value.Value.{Value}
use Rattle.mm_types.specs.declared.value.Value.TheVariants as value
use Rattle.resource_docs.specs.declared.repeats.Key.{Key}
use Rattle.resource_docs.specs.declared.repeats.Key.TheVariants as key

abbrev pub value_of_key : Key → Value
value_of_key key.Null = value.Null
value_of_key (key.Bool b) = value.Bool b
value_of_key (key.Int n) = value.Int n
value_of_key (key.Text t) = value.Text t.now
value_of_key (key.Literal i) = value.Literal i
value_of_key (key.Object o) = value.Object (record { 0 = o })
value_of_key (key.Proxy t) = value.Proxy t.now

-- whether a list has only objects, whose numbers rise along the list and are at least n
abbrev pub rising_from : ℕ → List Value → Bool
rising_from n [] = true
rising_from n (value.Object o ∷ vs) = nat_le n o.0 && rising_from (suc o.0) vs
rising_from n (v ∷ vs) = false

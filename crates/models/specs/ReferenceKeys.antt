-- Keys of tables about references. A key has the number of an object, the number of a reference of this object, and a third number. In some
-- tables the third number is the index of a value of the reference. In others it is the number of the object that a value is, or to which a
-- proxy leads.
use Rattle.std.specs.Prelude.{ℕ, ◌&&◌, Bool, nat_eq}
use Rattle.mm_types.specs.declared.numbers.FeatureNo.{FeatureNo}
use Rattle.mm_types.specs.declared.numbers.ObjectNo.{ObjectNo}
use Rattle.models.specs.declared.reference_key.ReferenceKey.{ReferenceKey}

abbrev pub reference_key : ObjectNo → FeatureNo → ℕ → ReferenceKey
reference_key o f n = record { object = o.0; feature = f.0; number = n }

abbrev pub same_reference_key : ReferenceKey → ReferenceKey → Bool
same_reference_key j k = nat_eq j.object k.object && (nat_eq j.feature k.feature && nat_eq j.number k.number)

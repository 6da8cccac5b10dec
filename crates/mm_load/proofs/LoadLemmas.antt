-- The result of reading the bytes of a document, by cases.
use Rattle.std.proofs.Common.{◌≡◌, Bool, true, false, List, ℕ, None, Some, Ok, Err, IsUtf8, ap, cond, refl}
use Rattle.std.specs.Prelude.{Result}
use Rattle.std.specs.Str.{is_utf8}
use Rattle.std.proofs.lemmas.Str.{IsUtf8-from_is_utf8, is_utf8-from_IsUtf8}
use Rattle.serde_json.specs.Data.{Data}
use Rattle.serde_json.specs.Read.{read}
use Rattle.mm_load.specs.Layout.{document}
use Rattle.mm_load.specs.Loaded.{Loads, metamodel_of_bytes, metamodel_of_json, metamodel_of_layout}
use Rattle.mm_types.specs.Raw.{RawMetamodel}
use Rattle.mm_types.specs.declared.meta_fault.MetaFault.{MetaFault}
use Rattle.mm_types.specs.declared.meta_fault.MetaFault.TheVariants.{Syntax, Layout, Limit, IllFormed, Memory}

chosen_else : {X : Type 0} (b : Bool) (x y : X) → (b ≡ true → x ≡ y) → cond b x y ≡ y
chosen_else true x y h = h refl
chosen_else false x y h = refl

pub not_json : (bytes : List ℕ) → (IsUtf8 bytes → read bytes ≡ None) → metamodel_of_bytes bytes ≡ Err Syntax
unfolding metamodel_of_bytes
not_json bytes h = chosen_else (is_utf8 bytes) (metamodel_of_json (read bytes)) (Err Syntax) (λ e. ap metamodel_of_json (h (IsUtf8-from_is_utf8 bytes e)))

pub json : (bytes : List ℕ) (d : Data) → IsUtf8 bytes → read bytes ≡ Some d → metamodel_of_bytes bytes ≡ metamodel_of_layout (document d)
unfolding metamodel_of_bytes
json bytes d utf8 is = let e = is_utf8-from_IsUtf8 bytes utf8 in rw e (ap metamodel_of_json is)

pub loads_equal : (result wanted : Result RawMetamodel MetaFault) → wanted ≡ result → Loads result wanted
loads_equal (Ok raw) wanted h = h
loads_equal (Err Syntax) wanted h = h
loads_equal (Err Layout) wanted h = h
loads_equal (Err Limit) wanted h = h
loads_equal (Err (IllFormed condition place)) wanted h = h
loads_equal (Err Memory) wanted h = tt

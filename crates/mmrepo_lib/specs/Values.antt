-- The variants of `Value`.
pub use Rattle.mm_types.specs.declared.value.Value.TheVariants.{Bool, Int, Literal, Null, Object, Proxy, Text}

-- The variants of `Node`, and the numbers of objects and resources.
pub use Rattle.mm_types.specs.declared.numbers.Node.TheVariants.{Object, Resource}
pub use Rattle.mm_types.specs.declared.numbers.ObjectNo.{ObjectNo}
pub use Rattle.mm_types.specs.declared.numbers.ResourceNo.{ResourceNo}

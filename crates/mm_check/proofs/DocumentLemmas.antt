-- The result of a document, from the results of reading and checking it.
use Rattle.std.proofs.Common.{◌≡◌, refl, inl, inr, ℕ, List, Result, Ok, Err}
use Rattle.mm_types.specs.Raw.{RawMetamodel}
use Rattle.mm_types.specs.Resolved.{Metamodel}
use Rattle.mm_types.specs.declared.meta_fault.MetaFault.{MetaFault}
use Rattle.mm_types.specs.declared.meta_fault.MetaFault.TheVariants.{Syntax, Layout, Limit, IllFormed, Memory}
use Rattle.mm_load.specs.Loaded.{Loads, metamodel_of_bytes}
use Rattle.mm_check.specs.Checks.{Checks}
use Rattle.mm_check.specs.Documents.{Gives}

pub gives_unread : (bytes : List ℕ) (f : MetaFault) → Loads (Err f) (metamodel_of_bytes bytes) → Gives bytes (Err f)
gives_unread bytes Syntax read = inr (inl read)
gives_unread bytes Layout read = inr (inl read)
gives_unread bytes Limit read = inr (inl read)
gives_unread bytes (IllFormed condition place) read = inr (inl read)
gives_unread bytes Memory read = inl refl

pub gives_checked : (bytes : List ℕ) (raw : RawMetamodel) (result : Result Metamodel MetaFault) → Loads (Ok raw) (metamodel_of_bytes bytes) → Checks raw result → Gives bytes result
gives_checked bytes raw (Ok m) read checked = (raw, read, checked.0, checked.1)
gives_checked bytes raw (Err f) read checked = inr (inr (raw, read, checked))

-- The commands of a repository. Commands that name a feature, and reads, are functions with the names of the calls of `Repository`, without
-- the prefix `e_`; `move` is the command of the call `move_to`. Each other command is a variant of `Command`, such as `Delete`.
pub use Rattle.repository.specs.Commands.{add, adapter_kept, adapter_told, class, container, contents, fragment, get, is_set, move, object_at, remove, remove_value, resolve, resource, save, set, snapshot, unset, validate}
pub use Rattle.repository.specs.declared.command.Command.{Command}
pub use Rattle.repository.specs.declared.command.Command.TheVariants.{Attach, Create, CreateResource, Delete, Detach, Load, ResolveAll, Unwatch, Watch}

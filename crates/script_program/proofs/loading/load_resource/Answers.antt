use Rattle.std.proofs.Common.{Err, Ok, refl}
use Rattle.repository.specs.Run.{change_outcome}
use Rattle.repository.specs.Views.{changed_view, reply_view}
use Rattle.script_program.proofs.loading.load_resource.Goals as goal

pub returns-in-Ok : goal.returns-in-Ok
returns-in-Ok g c =
    record {
      made = Ok (reply_view g.A.Adapter.heard c.in-Ok.made);
      between = c.create_resource.new.self;
      makes = c.in-Ok.ensures;
      loads = rw c.resource_in.ensures at c.load_into.ensures;
    }

pub returns-in-Err : goal.returns-in-Err
returns-in-Err g c =
    record {
      made = change_outcome (Err c.in-Err.refused);
      between = c.create_resource.new.self;
      makes = c.in-Err.ensures;
      loads = (refl, refl);
    }

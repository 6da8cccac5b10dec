-- The event of a call.
use Rattle.file_disk.specs.Events.{Event, cut, opened, synced, written}
use Rattle.file_disk.specs.declared.call.Call.{Call}
use Rattle.file_disk.specs.declared.call.Call.TheVariants as call

abbrev pub event_of : Call → Event
event_of (call.Opened bytes) = opened bytes.now
event_of (call.Written at bytes done) = written at bytes.now done
event_of (call.Cut len done) = cut len done
event_of (call.Synced done) = synced done

use Rattle.journal.proofs.RepairLemmas.{after_cut, after_last, after_newline, after_sync}
use Rattle.journal.proofs.journal.repair.Goals as goal

pub returns-in_err-cut-clause-any_moment : goal.returns-in_err-cut-clause-any_moment
returns-in_err-cut-clause-any_moment g c =
    let s = c.requires in
    let k = g.D.Disk in
    after_cut k.seen k.may_leave k.moment k.left_since g.met.D.Disk.only_now c.args.disk.now c.args.end s.split s.end s.rest s.durable
    c.cut.new.self c.cut.ensures.crash c.cut.ensures.time

pub returns-in_err-sync-clause-any_moment : goal.returns-in_err-sync-clause-any_moment
returns-in_err-sync-clause-any_moment g c =
    let s = c.requires in
    let k = g.D.Disk in
    after_sync k.seen k.may_leave k.moment k.left_since g.met.D.Disk.only_now c.args.disk.now c.args.end s.split s.end s.rest s.durable
    c.cut.new.self c.cut.ensures.crash c.cut.ensures.time
    c.sync.new.self c.sync.ensures.crash c.sync.ensures.time

pub returns-in_err-write_at-clause-any_moment : goal.returns-in_err-write_at-clause-any_moment
returns-in_err-write_at-clause-any_moment g c =
    let s = c.requires in
    let k = g.D.Disk in
    after_newline k.seen k.may_leave k.moment k.left_since g.met.D.Disk.only_now c.args.disk.now c.args.end s.split s.end s.rest s.durable
    c.cut.new.self c.cut.ensures.crash c.cut.ensures.time
    c.sync.new.self c.sync.ensures.crash c.sync.ensures.time c.in_ok-cut.ensures.cut c.sync.ensures.seen c.in_ok-sync.ensures.durable
    c.write_at.new.self c.write_at.ensures.crash c.write_at.ensures.time

pub returns-clause-any_moment : goal.returns-clause-any_moment
returns-clause-any_moment g c =
    let s = c.requires in
    let k = g.D.Disk in
    after_last k.seen k.may_leave k.moment k.left_since g.met.D.Disk.only_now c.args.disk.now c.args.end s.split s.end s.rest s.durable
    c.cut.new.self c.cut.ensures.crash c.cut.ensures.time
    c.sync.new.self c.sync.ensures.crash c.sync.ensures.time c.in_ok-cut.ensures.cut c.sync.ensures.seen c.in_ok-sync.ensures.durable
    c.write_at.new.self c.write_at.ensures.crash c.write_at.ensures.time
    c.sync-2.new.self c.sync-2.ensures.crash c.sync-2.ensures.time

use Rattle.std.proofs.Common.{◌∙◌}
use Rattle.std.proofs.lemmas.Result.{on_ok_weaker}
use Rattle.journal.proofs.CommitLemmas.{after_last, after_mark, after_sync, after_write, second_is}
use Rattle.journal.proofs.journal.append.Goals as goal

pub returns-in_err-write_at-clause-any_moment : goal.returns-in_err-write_at-clause-any_moment
returns-in_err-write_at-clause-any_moment g c =
    let s = c.requires in
    let k = g.D.Disk in
    after_write k.seen k.may_leave k.moment k.left_since g.met.D.Disk.only_now c.args.disk.now c.args.end c.args.text.now s.file s.end s.durable s.text s.some
    c.write_at.new.self c.write_at.ensures.crash c.write_at.ensures.time

pub returns-in_err-sync-clause-any_moment : goal.returns-in_err-sync-clause-any_moment
returns-in_err-sync-clause-any_moment g c =
    let s = c.requires in
    let k = g.D.Disk in
    after_sync k.seen k.may_leave k.moment k.left_since g.met.D.Disk.only_now c.args.disk.now c.args.end c.args.text.now s.file s.end s.durable s.text s.some
    c.write_at.new.self c.write_at.ensures.crash c.write_at.ensures.time
    c.sync.new.self c.sync.ensures.crash c.sync.ensures.time

pub returns-in_err-write_at-2-clause-any_moment : goal.returns-in_err-write_at-2-clause-any_moment
returns-in_err-write_at-2-clause-any_moment g c =
    let s = c.requires in
    let k = g.D.Disk in
    after_mark k.seen k.may_leave k.moment k.left_since g.met.D.Disk.only_now c.args.disk.now c.args.end c.args.text.now s.file s.end s.durable s.text s.some
    c.write_at.new.self c.write_at.ensures.crash c.write_at.ensures.time
    c.sync.new.self c.sync.ensures.crash c.sync.ensures.time c.in_ok-write_at.ensures.written c.sync.ensures.seen c.in_ok-sync.ensures.durable
    c.write_at-2.new.self c.write_at-2.ensures.crash c.write_at-2.ensures.time

pub returns-clause-written : goal.returns-clause-written
returns-clause-written g c =
    let s = c.requires in
    let k = g.D.Disk in
    let is = second_is k.seen k.may_leave k.moment k.left_since g.met.D.Disk.only_now c.args.disk.now c.args.end c.args.text.now s.file s.end s.durable s.text s.some
    c.write_at.new.self c.write_at.ensures.crash c.write_at.ensures.time
    c.sync.new.self c.sync.ensures.crash c.sync.ensures.time c.in_ok-write_at.ensures.written c.sync.ensures.seen c.in_ok-sync.ensures.durable
    c.write_at-2.new.self c.write_at-2.ensures.crash c.write_at-2.ensures.time c.in_ok-write_at-2.ensures.written in
    on_ok_weaker c.sync-2.result (λ _. c.sync-2.ensures.seen ∙ is) c.sync-2.ensures.durable

pub returns-clause-any_moment : goal.returns-clause-any_moment
returns-clause-any_moment g c =
    let s = c.requires in
    let k = g.D.Disk in
    after_last k.seen k.may_leave k.moment k.left_since g.met.D.Disk.only_now c.args.disk.now c.args.end c.args.text.now s.file s.end s.durable s.text s.some
    c.write_at.new.self c.write_at.ensures.crash c.write_at.ensures.time
    c.sync.new.self c.sync.ensures.crash c.sync.ensures.time c.in_ok-write_at.ensures.written c.sync.ensures.seen c.in_ok-sync.ensures.durable
    c.write_at-2.new.self c.write_at-2.ensures.crash c.write_at-2.ensures.time
    c.sync-2.new.self c.sync-2.ensures.crash c.sync-2.ensures.time

use Rattle.std.proofs.Common.{rules, codes, IsErrOf}
use Rattle.cy_store.specs.declared.error.SinkError.TheVariants as sink_error
use Rattle.cyber_cli.specs.Told.{Gets, GetsFront}
use Rattle.cyber_cli.proofs.Fronts.{fails_first, fails_second, fails_third, GetsFront-none}
use Rattle.cyber_cli.proofs.telling.write_named.Goals as goal

pub returns-in_err-write-clause-failed : goal.returns-in_err-write-clause-failed
returns-in_err-write-clause-failed g c e =
    let failed : IsErrOf c.write.result sink_error.Failed = search rules in
    let old = g.O.Sink.shows c.args.sink.now in
    let new = g.O.Sink.shows c.write.new.self in
    let front : GetsFront old new (codes "cyber: ") = rw (← c.as_bytes.ensures.value) (c.write.ensures.prefix failed) in
    fails_first old new (codes "cyber: ") c.args.name.now c.args.what.now front

pub returns-in_err-write-2-clause-failed : goal.returns-in_err-write-2-clause-failed
returns-in_err-write-2-clause-failed g c e =
    let failed : IsErrOf c.write-2.result sink_error.Failed = search rules in
    let old = g.O.Sink.shows c.args.sink.now in
    let mid = g.O.Sink.shows c.write.new.self in
    let new = g.O.Sink.shows c.write-2.new.self in
    let first : Gets old mid (codes "cyber: ") = search rules in
    let front : GetsFront mid new c.args.name.now = rw (← c.as_bytes-2.ensures.value) (c.write-2.ensures.prefix failed) in
    fails_second old mid new (codes "cyber: ") c.args.name.now c.args.what.now first front

pub returns-in_err-write-2-clause-memory : goal.returns-in_err-write-2-clause-memory
returns-in_err-write-2-clause-memory g c e =
    let starved : IsErrOf c.write-2.result sink_error.Memory = search rules in
    let old = g.O.Sink.shows c.args.sink.now in
    let mid = g.O.Sink.shows c.write.new.self in
    let new = g.O.Sink.shows c.write-2.new.self in
    let first : Gets old mid (codes "cyber: ") = search rules in
    fails_second old mid new (codes "cyber: ") c.args.name.now c.args.what.now first
    (GetsFront-none mid new c.args.name.now (c.write-2.ensures.memory starved))

pub returns-clause-failed : goal.returns-clause-failed
returns-clause-failed g c e =
    let old = g.O.Sink.shows c.args.sink.now in
    let first = g.O.Sink.shows c.write.new.self in
    let second = g.O.Sink.shows c.write-2.new.self in
    let new = g.O.Sink.shows c.write-3.new.self in
    let named : Gets old first (codes "cyber: ") = search rules in
    let told : Gets first second c.args.name.now = search rules in
    let front : GetsFront second new c.args.what.now = rw (← c.as_bytes-3.ensures.value) (c.write-3.ensures.prefix e) in
    fails_third old first second new (codes "cyber: ") c.args.name.now c.args.what.now named told front

pub returns-clause-memory : goal.returns-clause-memory
returns-clause-memory g c e =
    let old = g.O.Sink.shows c.args.sink.now in
    let first = g.O.Sink.shows c.write.new.self in
    let second = g.O.Sink.shows c.write-2.new.self in
    let new = g.O.Sink.shows c.write-3.new.self in
    let named : Gets old first (codes "cyber: ") = search rules in
    let told : Gets first second c.args.name.now = search rules in
    fails_third old first second new (codes "cyber: ") c.args.name.now c.args.what.now named told
    (GetsFront-none second new c.args.what.now (c.write-3.ensures.memory e))

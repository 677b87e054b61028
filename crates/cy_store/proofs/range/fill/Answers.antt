use Rattle.std.proofs.Common.{◌≡◌, ◌≤◌, ◌+◌, ◌-◌, length, take, drop, Option, rules, subst}
use Rattle.std.specs.Prelude.{◌⊎◌}
use Rattle.cy_store.specs.Files.{Files, Holds}
use Rattle.cy_store.proofs.ReadFront.{read_more, front_read, read_whole}
use Rattle.cy_store.proofs.range.fill.Goals as goal

pub returns-then-read-eq0-clause-read : goal.returns-then-read-eq0-clause-read
returns-then-read-eq0-clause-read g c =
    let name = c.args.name.now in
    let n = c.loop-read.filled in
    let buffer = c.loop-read.buffer in
    let was = take (length buffer - n) (drop n buffer) in
    let rest = drop (length buffer - n) (drop n buffer) in
    let old = g.S.Store.shows c.args.store.now in
    let mid = g.S.Store.shows c.loop-read.store in
    let read = front_read name c.args.at n c.in_ok-read.read buffer was c.read_piece.new.rest rest old mid c.loop-read.invariant c.in_ok-read.ensures.within (search rules) c.in_ok-read.ensures.value in
    read_whole name c.args.at n c.in_ok-read.read (length c.args.buffer.now) _ was _ old.files (search rules) (search rules) read c.then-read-eq0.either
    (λ none. subst (λ (files : Option Files). Holds files name (λ bytes. (length was ≡ 0) ⊎ (length bytes ≤ c.args.at + n))) c.loop-read.invariant.same (c.in_ok-read.ensures.end none))

pub loop-read-preserved : goal.loop-read-preserved
loop-read-preserved g c =
    read_more c.args.name.now c.args.at c.loop-read.filled c.in_ok-read.read c.loop-read.buffer _ c.read_piece.new.rest _ (g.S.Store.shows c.args.store.now) (g.S.Store.shows c.loop-read.store) (g.S.Store.shows c.read_piece.new.store)
    c.loop-read.invariant c.in_ok-read.ensures.within (search rules) c.in_ok-read.ensures.value c.in_ok-read.ensures.same (c.read_piece.ensures.cause.quiet (λ e. search rules))

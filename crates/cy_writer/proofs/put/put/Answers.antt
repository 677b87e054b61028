use Rattle.std.proofs.Common.{rules, ◌≤◌, ◌+◌, length, arith}
use Rattle.cy_store.specs.Write.{Put}
use Rattle.cy_writer.proofs.Puts.{causes_put, makes_put, holds_put, length-written_at, written_at-long}
use Rattle.cy_writer.proofs.put.put.Goals as goal

pub returns-in_err-put_at-clause-puts : goal.returns-in_err-put_at-clause-puts
returns-in_err-put_at-clause-puts g c =
    let old = g.S.Store.shows c.args.store.now in
    let new = g.S.Store.shows c.put_at.new.self in
    record {
      makes = makes_put {r = c.put_at.result} c.from_residual.result (Put c.args.name.now c.args.at c.args.bytes.now) old new
          (search rules) (λ e. c.put_at.ensures.torn e) (λ e. c.put_at.ensures.memory e) (λ e. search rules) (λ e. search rules) (λ e. search rules);
      longer = search rules;
      memory = λ e. search rules;
      told = search rules;
      causes = causes_put c.put_at.result c.args.name.now (λ bytes. c.args.at ≤ length bytes) old new c.requires c.put_at.ensures.cause (λ e. search rules) (λ e. search rules);
    }

pub returns-clause-puts : goal.returns-clause-puts
returns-clause-puts g c =
    let old = g.S.Store.shows c.args.store.now in
    let new = g.S.Store.shows c.put_at.new.self in
    record {
      makes = search rules;
      longer = holds_put c.args.name.now c.args.at c.args.bytes.now (λ bytes. c.args.at ≤ length bytes) (λ bytes. c.args.at + length c.args.bytes.now ≤ length bytes)
          old.files new.files (λ bytes there. written_at-long bytes c.args.bytes.now c.args.at there) c.in_ok-put_at.ensures.put c.requires;
      memory = λ e. search rules;
      told = search rules;
      causes = causes_put c.put_at.result c.args.name.now (λ bytes. c.args.at ≤ length bytes) old new c.requires c.put_at.ensures.cause (λ e. search rules) (λ e. search rules);
    }

pub returns-clause-kept : goal.returns-clause-kept
returns-clause-kept g c n long unfailed =
    holds_put c.args.name.now c.args.at c.args.bytes.now (λ old. n ≤ length old) (λ new. n ≤ length new)
    (g.S.Store.shows c.args.store.now).files (g.S.Store.shows c.put_at.new.self).files
    (λ old there. omega (arith, there, length-written_at old c.args.bytes.now c.args.at)) c.in_ok-put_at.ensures.put long

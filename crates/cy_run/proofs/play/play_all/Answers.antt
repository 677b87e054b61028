use Rattle.std.proofs.Common.{rules, ◌+◌, length, None}
use Rattle.cy_msg.specs.declared.token.Token.{Token}
use Rattle.cy_run.proofs.Played.{next_for, plays_more, plays_raised, raised_on, raised_all, can_close, played_all}
use Rattle.cy_run.proofs.play.play_all.Goals as goal

abbrev none : Token
none = record { channel = 0; seq = 0; time = 0; whole = None; origin = None }

pub play-requires-clause-next : goal.play-requires-clause-next
play-requires-clause-next g c = let t = c.args.table.now in let tokens = c.args.list.now.tokens in let i = c.loop-played.played in
    next_for t tokens c.as_slice-tokens.result.now i none c.args.player.now c.raise_after.new.player c.args.list.now.timed c.args.list.now.numbered c.requires.list.made (search rules) c.loop-played-test.true
    (plays_raised t tokens i c.args.player.now c.loop-played.player c.raise_after.new.player c.loop-played.invariant.1 c.raise_after.ensures.mine c.raise_after.ensures.seat) c.raise_after.ensures.raised

pub loop-played-preserved : goal.loop-played-preserved
loop-played-preserved g c = let t = c.args.table.now in let tokens = c.args.list.now.tokens in let i = c.loop-played.played in
    let token = Rattle.std.proofs.Common.get_or c.as_slice-tokens.result.now i none in (
      search rules,
      plays_more t tokens c.as_slice-tokens.result.now i none c.args.player.now c.raise_after.new.player c.play.new.player c.args.list.now.timed (search rules) c.loop-played-test.true
          (plays_raised t tokens i c.args.player.now c.loop-played.player c.raise_after.new.player c.loop-played.invariant.1 c.raise_after.ensures.mine c.raise_after.ensures.seat)
          c.play.ensures.mine c.play.ensures.seat c.play.ensures.bound,
      raised_on c.raise_after.new.player c.play.new.player token (i + 1) c.play.ensures.seat c.raise_after.ensures.raised,
      search rules,
      search rules,
    )

pub end_play-requires-clause-all : goal.end_play-requires-clause-all
end_play-requires-clause-all g c κs within = let t = c.args.table.now in let tokens = c.args.list.now.tokens in let i = c.loop-played.played in
    can_close c.put.ensures t tokens c.as_slice-tokens.result.now i c.args.player.now c.raise_after-2.new.player c.requires.list.made (search rules) c.loop-played-test.false
    (plays_raised t tokens i c.args.player.now c.loop-played.player c.raise_after-2.new.player c.loop-played.invariant.1 c.raise_after-2.ensures.mine c.raise_after-2.ensures.seat)
    (raised_all c.put.ensures t tokens (length c.as_slice-tokens.result.now) c.raise_after-2.new.player c.requires.list.made c.requires.list.within (search rules) c.raise_after-2.ensures.mine (search rules))

pub returns-clause-played : goal.returns-clause-played
returns-clause-played g c = let t = c.args.table.now in let tokens = c.args.list.now.tokens in let i = c.loop-played.played in
    played_all t tokens c.as_slice-tokens.result.now i c.args.player.now c.raise_after-2.new.player c.end_play.new.player (search rules) c.loop-played-test.false
    (plays_raised t tokens i c.args.player.now c.loop-played.player c.raise_after-2.new.player c.loop-played.invariant.1 c.raise_after-2.ensures.mine c.raise_after-2.ensures.seat)
    (raised_all c.put.ensures t tokens (length c.as_slice-tokens.result.now) c.raise_after-2.new.player c.requires.list.made c.requires.list.within (search rules) c.raise_after-2.ensures.mine (search rules))
    c.end_play.ensures.mine c.end_play.ensures.seat

use Rattle.std.proofs.Common.{◌≡◌, ◌≤◌, arith, ◌++◌, ◌∷◌, [], true, Some, sym, ◌∙◌, ap, length, slice_get}
use Rattle.std.proofs.lemmas.Option.{slice_get_within}
use Rattle.cy_msg.specs.declared.token.Token.{Token}
use Rattle.cy_trace.specs.Tapes.{entry_of}
use Rattle.cy_verify.specs.declared.walk.Walk.{Walk}
use Rattle.cy_verify.proofs.Heard.{there_is}
use Rattle.wake_core.specs.Run.{routes_of, writes_from}
use Rattle.cy_verify.proofs.WalkLed.{has_room, next_played, played_led}
use Rattle.cy_verify.proofs.Walked.{some_one, played_walks, played_puts}
use Rattle.cy_verify.proofs.walk.Walk.put_played.Goals as goal

pub returns-clause-walked : goal.returns-clause-walked
returns-clause-walked c = λ is.
    played_walks c.args.wiring.now c.args.list.now c.args.told.now c.args.self.now c.requires.walked c.requires.may c.args.list.now.numbered c.in-Some.token.now
    (rw (← c.as_slice.ensures) (there_is c.as_slice.result.now c.args.self.now.played c.in-Some.token.now c.in-Some.ensures.lookup.3.0 c.in-Some.ensures.lookup.1))
    c.put.new.self (ap (λ (v : Walk). v.followers) c.put.ensures.same) (c.put.ensures.put is) c.put.ensures.room (ap (λ (v : Walk). v.played) c.put.ensures.same) (ap (λ (v : Walk). v.spent) c.put.ensures.same) (ap (λ (v : Walk). v.fixed) c.put.ensures.same)

pub returns-clause-puts : goal.returns-clause-puts
returns-clause-puts c = λ is.
    played_puts c.args.wiring.now c.args.list.now c.args.told.now c.args.self.now c.requires.walked c.requires.may c.args.list.now.numbered c.in-Some.token.now
    (rw (← c.as_slice.ensures) (there_is c.as_slice.result.now c.args.self.now.played c.in-Some.token.now c.in-Some.ensures.lookup.3.0 c.in-Some.ensures.lookup.1))
    (entry_of (c.args.name.now, c.args.seq)) (ap (slice_get c.args.wiring.now.names) c.if-token-channel.false ∙ c.requires.named) (c.put.ensures.number is) c.put.new.self (c.put.ensures.put is)

pub returns-in_default-clause-leads : goal.returns-in_default-clause-leads
returns-in_default-clause-leads c = λ w token led next its unwritten number.
    let is = next_played c.args.wiring.now c.args.list.now c.args.told.now c.args.self.now c.requires.walked w led token next (ap (writes_from 0 (routes_of c.args.wiring.now.plans)) its ∙ unwritten) in
    let here = slice_get_within c.args.list.now.tokens c.args.self.now.played token is in
    let all : length c.args.list.now.tokens ≤ c.args.self.now.played = rw (← c.as_slice.ensures) c.in_default.ensures.lookup.3 in
    absurd (omega (arith, here, all))

pub returns-then-token-channel-clause-leads : goal.returns-then-token-channel-clause-leads
returns-then-token-channel-clause-leads c = λ w token led next its unwritten number.
    let is = next_played c.args.wiring.now c.args.list.now c.args.told.now c.args.self.now c.requires.walked w led token next (ap (writes_from 0 (routes_of c.args.wiring.now.plans)) its ∙ unwritten) in
    let found : slice_get c.args.list.now.tokens c.args.self.now.played ≡ Some c.in-Some.token.now = rw (← c.as_slice.ensures) (there_is c.as_slice.result.now c.args.self.now.played c.in-Some.token.now c.in-Some.ensures.lookup.3.0 c.in-Some.ensures.lookup.1) in
    absurd (c.if-token-channel.true (ap (λ (t : Token). t.channel) (some_one (sym found ∙ is)) ∙ its))

pub returns-clause-leads : goal.returns-clause-leads
returns-clause-leads c = λ w token led next its unwritten number.
    let is = next_played c.args.wiring.now c.args.list.now c.args.told.now c.args.self.now c.requires.walked w led token next (ap (writes_from 0 (routes_of c.args.wiring.now.plans)) its ∙ unwritten) in
    let found : slice_get c.args.list.now.tokens c.args.self.now.played ≡ Some c.in-Some.token.now = rw (← c.as_slice.ensures) (there_is c.as_slice.result.now c.args.self.now.played c.in-Some.token.now c.in-Some.ensures.lookup.3.0 c.in-Some.ensures.lookup.1) in
    let same : c.in-Some.token.now ≡ token = some_one (sym found ∙ is) in
    let puts : c.put.result ≡ true = c.put.ensures.takes (ap (λ (t : Token). t.seq) same ∙ number) (has_room led next) in (
      puts,
      played_led c.args.wiring.now c.args.list.now c.args.told.now c.args.self.now c.requires.walked w led token next (ap (writes_from 0 (routes_of c.args.wiring.now.plans)) its ∙ unwritten)
          c.put.new.self (ap (λ (v : Walk). v.followers) c.put.ensures.same) (c.put.ensures.put puts ∙ ap (λ (t : Token). c.args.self.now.tape.items ++ t ∷ []) same) c.put.ensures.room (ap (λ (v : Walk). v.fixed) c.put.ensures.same),
    )

use Rattle.std.proofs.Common.{◌≡◌, ◌++◌, ◌∷◌, [], true, Some, None, sym, ◌∙◌, ap, get_or, List}
use Rattle.cy_msg.specs.declared.token.Token.{Token}
use Rattle.cy_comp.specs.declared.plan.Plan.{Plan}
use Rattle.cy_trace.specs.Tapes.{entry_of}
use Rattle.cy_verify.specs.declared.walk.Walk.{Walk}
use Rattle.wake_core.specs.WorldOf.{stop_in}
use Rattle.cy_verify.specs.private.Led.{ended_in}
use Rattle.cy_verify.specs.private.Walking.{names_it}
use Rattle.cy_verify.proofs.Heard.{there_is}
use Rattle.cy_verify.proofs.WalkLed.{has_room, leads_now, puts_out, output_led}
use Rattle.cy_verify.proofs.Walked.{its_may, its_follows, output_walks, output_puts}
use Rattle.cy_verify.proofs.walk.Walk.put_output.Goals as goal

pub output-requires-clause-may : goal.output-requires-clause-may
output-requires-clause-may c = rw c.as_slice-tape.ensures.value (its_may c.args.wiring.now c.args.list.now c.args.told.now c.args.self.now c.requires.walked c.requires.told c.args.writer c.requires.writer c.index-as_slice-writer.result
    (c.index-as_slice-writer.is ∙ ap (λ (ps : List Plan). get_or ps c.args.writer c.index-as_slice-writer.result) c.as_slice.ensures) c.index-told-writer.result c.index-told-writer.is c.index_mut.result.now c.index_mut.ensures.value)

pub output-requires-clause-follows : goal.output-requires-clause-follows
output-requires-clause-follows c = rw c.as_slice-tape.ensures.value (its_follows c.args.wiring.now c.args.list.now c.args.told.now c.args.self.now c.requires.walked c.requires.told c.args.writer c.requires.writer c.index-as_slice-writer.result
    (c.index-as_slice-writer.is ∙ ap (λ (ps : List Plan). get_or ps c.args.writer c.index-as_slice-writer.result) c.as_slice.ensures) c.index-told-writer.result c.index-told-writer.is c.index_mut.result.now c.index_mut.ensures.value)

pub returns-clause-walked : goal.returns-clause-walked
returns-clause-walked c = λ is.
    output_walks c.args.wiring.now c.args.list.now c.args.told.now c.args.self.now c.requires.walked c.requires.told c.args.writer c.requires.writer c.index-as_slice-writer.result
    (c.index-as_slice-writer.is ∙ ap (λ (ps : List Plan). get_or ps c.args.writer c.index-as_slice-writer.result) c.as_slice.ensures) c.index-told-writer.result c.index-told-writer.is c.index_mut.result.now c.index_mut.ensures.value
    c.output.new.self c.in-Some.token c.output.ensures.stays (rw (← c.as_slice-tape.ensures.value) (c.output.ensures.sends c.in-Some.token c.in-Some.is))
    c.put.new.self (ap (λ (v : Walk). v.followers.items) c.put.ensures.same) (c.put.ensures.put is) c.put.ensures.room (ap (λ (v : Walk). v.played) c.put.ensures.same) (ap (λ (v : Walk). v.spent) c.put.ensures.same) (ap (λ (v : Walk). v.fixed) c.put.ensures.same)

pub returns-clause-puts : goal.returns-clause-puts
returns-clause-puts c = λ is.
    output_puts c.args.wiring.now c.args.list.now c.args.told.now c.args.self.now c.requires.walked c.requires.told c.args.writer c.requires.writer c.index-as_slice-writer.result
    (c.index-as_slice-writer.is ∙ ap (λ (ps : List Plan). get_or ps c.args.writer c.index-as_slice-writer.result) c.as_slice.ensures) c.index-told-writer.result c.index-told-writer.is c.index_mut.result.now c.index_mut.ensures.value
    c.in-Some.token c.output.new.self (entry_of (c.args.name.now, c.args.seq)) (rw (← c.as_slice-tape.ensures.value) (c.output.ensures.sends c.in-Some.token c.in-Some.is))
    (c.requires.named c.index-as_slice-writer.result (there_is c.args.wiring.now.plans c.args.writer c.index-as_slice-writer.result c.requires.writer (c.index-as_slice-writer.is ∙ ap (λ (ps : List Plan). get_or ps c.args.writer c.index-as_slice-writer.result) c.as_slice.ensures)))
    (c.put.ensures.number is) c.put.new.self (c.put.ensures.put is)

none_some : {X : Type 0} {a : X} → None ≡ Some a → ⊥
none_some e = cc

some_one : {X : Type 0} {a b : X} → Some a ≡ Some b → a ≡ b
some_one e = cc

pub returns-in_default-clause-leads : goal.returns-in_default-clause-leads
returns-in_default-clause-leads c = λ w p token led next at its number.
    let leads = leads_now c.args.wiring.now c.args.list.now c.args.told.now c.args.self.now c.requires.walked c.requires.told c.args.writer c.requires.writer c.index-as_slice-writer.result
    (c.index-as_slice-writer.is ∙ ap (λ (ps : List Plan). get_or ps c.args.writer c.index-as_slice-writer.result) c.as_slice.ensures) c.index-told-writer.result c.index-told-writer.is c.index_mut.result.now c.index_mut.ensures.value w led p at token its next in
    let puts = puts_out c.args.wiring.now c.args.list.now c.args.told.now c.args.self.now c.requires.walked c.requires.told c.args.writer c.requires.writer c.index-as_slice-writer.result
    (c.index-as_slice-writer.is ∙ ap (λ (ps : List Plan). get_or ps c.args.writer c.index-as_slice-writer.result) c.as_slice.ensures) c.index-told-writer.result c.index-told-writer.is c.index_mut.result.now c.index_mut.ensures.value w led p at token its next in
    absurd (none_some (sym c.in_default.is ∙ (c.output.ensures.leads (names_it (stop_in c.args.self.now.fixed) c.args.writer) (ended_in w c.args.writer) token (rw c.as_slice-tape.ensures.value leads) (rw c.as_slice-tape.ensures.value puts)).0))

pub returns-clause-leads : goal.returns-clause-leads
returns-clause-leads c = λ w p token led next at its number.
    let leads = leads_now c.args.wiring.now c.args.list.now c.args.told.now c.args.self.now c.requires.walked c.requires.told c.args.writer c.requires.writer c.index-as_slice-writer.result
    (c.index-as_slice-writer.is ∙ ap (λ (ps : List Plan). get_or ps c.args.writer c.index-as_slice-writer.result) c.as_slice.ensures) c.index-told-writer.result c.index-told-writer.is c.index_mut.result.now c.index_mut.ensures.value w led p at token its next in
    let puts = puts_out c.args.wiring.now c.args.list.now c.args.told.now c.args.self.now c.requires.walked c.requires.told c.args.writer c.requires.writer c.index-as_slice-writer.result
    (c.index-as_slice-writer.is ∙ ap (λ (ps : List Plan). get_or ps c.args.writer c.index-as_slice-writer.result) c.as_slice.ensures) c.index-told-writer.result c.index-told-writer.is c.index_mut.result.now c.index_mut.ensures.value w led p at token its next in
    let put = c.output.ensures.leads (names_it (stop_in c.args.self.now.fixed) c.args.writer) (ended_in w c.args.writer) token (rw c.as_slice-tape.ensures.value leads) (rw c.as_slice-tape.ensures.value puts) in
    let same : c.in-Some.token ≡ token = some_one (sym c.in-Some.is ∙ put.0) in
    let puts : c.put.result ≡ true = c.put.ensures.takes (ap (λ (t : Token). t.seq) same ∙ number) (has_room led next) in (
      puts,
      output_led c.args.wiring.now c.args.list.now c.args.told.now c.args.self.now c.requires.walked c.requires.told c.args.writer c.requires.writer c.index-as_slice-writer.result
          (c.index-as_slice-writer.is ∙ ap (λ (ps : List Plan). get_or ps c.args.writer c.index-as_slice-writer.result) c.as_slice.ensures) c.index-told-writer.result c.index-told-writer.is c.index_mut.result.now c.index_mut.ensures.value w led p at token its next
          c.output.new.self (rw (← c.as_slice-tape.ensures.value) put.1) c.put.new.self (ap (λ (v : Walk). v.followers.items) c.put.ensures.same) (c.put.ensures.put puts ∙ ap (λ (t : Token). c.args.self.now.tape.items ++ t ∷ []) same) c.put.ensures.room (ap (λ (v : Walk). v.fixed) c.put.ensures.same),
    )

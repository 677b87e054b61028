use Rattle.std.proofs.Common.{ℕ, zero, suc, ◌≡◌, ◌≤◌, Bool, true, false, List, [], ◌∷◌, slice_get, refl, sym, ◌∙◌, ap, length, Some, None, arith}
use Rattle.cy_comp.specs.declared.call.Outcome.{Outcome}
use Rattle.cy_comp.specs.Calls.{is_last}
use Rattle.wake_core.specs.Run.{route_of}
use Rattle.cy_trace.specs.TraceOfRun.{output_of_call}
use Rattle.cy_verify.proofs.CallLed.{told_more, unended, awaits_told, finds_some, told_position, told_seqs, told_out, leads_made}
use Rattle.cy_verify.proofs.CallMade.{takes, few_outputs, takes_stays, one_more, made}
use Rattle.cy_verify.proofs.follower.Follower.call.Goals as goal
use Rattle.cy_verify.proofs.follower.Follower.call.Goals.{then-self-via-then-self, then-self-via-else-self+then-not-listen, then-position-call-via-then-position-call, then-position-call-via-else-position-call+then-not-has_numbers}

wrong : {b : Bool} → b ≡ true → b ≡ false → ⊥
wrong e n = cc

none_there : {X : Type 0} (xs : List X) (n : ℕ) → slice_get xs n ≡ None → length xs ≤ n
none_there [] n e = omega arith
none_there (x ∷ xs) zero e = cc
none_there (x ∷ xs) (suc n) e = omega (arith, none_there xs n e)

pub took-requires : goal.took-requires
took-requires c =
    takes c.fetches_find.ensures.find (route_of c.args.plan.now) c.args.told.now c.args.tape.now c.args.self.now c.listen.new.self c.requires.may c.requires.follows c.listen.ensures.stays (rw (← c.as_slice.ensures) (c.if-not-listen.ensures.listens refl))
    c.cursor-cursor.result c.cursor-cursor.ensures c.in-Some-try_fetch.tuple c.in-Some-try_fetch.position c.in-Some-try_fetch.tail (sym c.try_fetch.ensures.found ∙ c.in-Some-try_fetch.is)
    (λ roles arrivals. c.bounds.ensures.messages roles arrivals)

pub is_told-requires : goal.is_told-requires
is_told-requires c =
    few_outputs c.fetches_find.ensures.find (route_of c.args.plan.now) c.args.told.now c.args.tape.now c.args.self.now c.listen.new.self c.requires.may c.requires.follows c.listen.ensures.stays (rw (← c.as_slice.ensures) (c.if-not-listen.ensures.listens refl))
    c.cursor-cursor.result c.cursor-cursor.ensures c.in-Some-try_fetch.tuple c.in-Some-try_fetch.position c.in-Some-try_fetch.tail (sym c.try_fetch.ensures.found ∙ c.in-Some-try_fetch.is)

pub returns-clause-stays : goal.returns-clause-stays
returns-clause-stays c =
    takes_stays c.fetches_find.ensures.find (route_of c.args.plan.now) c.args.told.now c.args.tape.now c.args.self.now c.listen.new.self c.requires.may c.requires.follows c.listen.ensures.stays (rw (← c.as_slice.ensures) (c.if-not-listen.ensures.listens refl))
    c.cursor-cursor.result c.cursor-cursor.ensures c.in-Some-try_fetch.tuple c.in-Some-try_fetch.position c.in-Some-try_fetch.tail (sym c.try_fetch.ensures.found ∙ c.in-Some-try_fetch.is)
    c.took.new.self c.is_last-self.result c.took.ensures.taken

pub returns-clause-called : goal.returns-clause-called
returns-clause-called c = λ is.
    made c.fetches_find.ensures.find (route_of c.args.plan.now) c.args.told.now c.args.tape.now c.args.self.now c.listen.new.self c.requires.may c.requires.follows c.listen.ensures.stays (rw (← c.as_slice.ensures) (c.if-not-listen.ensures.listens refl))
    c.cursor-cursor.result c.cursor-cursor.ensures c.in-Some-try_fetch.tuple c.in-Some-try_fetch.position c.in-Some-try_fetch.tail (sym c.try_fetch.ensures.found ∙ c.in-Some-try_fetch.is)
    c.requires.numbered c.in-Some.call (rw (← c.call_count.ensures) (sym c.get.ensures ∙ c.in-Some.is)) c.if-self.false (c.if-not-listen.ensures.tail refl) c.if-position-call.false (sym c.as_slice-else-position-call.ensures.value ∙ c.if-not-has_numbers.ensures.numbers refl) c.took.new.self c.took.ensures.taken c.is_last-self.result (c.is_last-self.ensures ∙ ap (λ (o : Outcome). is_last (Some o)) c.took.ensures.outcome)
    (c.is_told.ensures.told is ∙ ap (output_of_call c.listen.new.self.outputs) c.pending.ensures)

pub returns-clause-one : goal.returns-clause-one
returns-clause-one c = λ _.
    one_more c.fetches_find.ensures.find (route_of c.args.plan.now) c.args.told.now c.args.tape.now c.args.self.now c.listen.new.self c.requires.may c.requires.follows c.listen.ensures.stays (rw (← c.as_slice.ensures) (c.if-not-listen.ensures.listens refl))
    c.cursor-cursor.result c.cursor-cursor.ensures c.in-Some-try_fetch.tuple c.in-Some-try_fetch.position c.in-Some-try_fetch.tail (sym c.try_fetch.ensures.found ∙ c.in-Some-try_fetch.is)
    c.took.new.self c.took.ensures.taken

pub returns-in_default-clause-leads : goal.returns-in_default-clause-leads
returns-in_default-clause-leads c = λ stopped r lead can. absurd (told_more (route_of c.args.plan.now) c.args.told.now stopped r c.args.tape.now c.args.self.now lead can (rw (← c.call_count.ensures) (none_there c.args.told.now.calls c.call_count.result (sym c.get.ensures ∙ c.in_default.is))))

pub returns-then-self-clause-leads : goal.returns-then-self-clause-leads
returns-then-self-clause-leads c = λ stopped r lead can. elim c.then-self.branch [
  | then-self-via-then-self w ↦ absurd (wrong w.if-self.true (unended (route_of c.args.plan.now) c.args.told.now stopped r c.args.tape.now c.args.self.now lead can c.requires.follows.ended))
  | then-self-via-else-self+then-not-listen w ↦ absurd (wrong (w.listen.ensures.awaited r.arrivals (rw w.as_slice.ensures (awaits_told (route_of c.args.plan.now) c.args.told.now stopped r c.args.tape.now c.args.self.now lead can c.in-Some.call (rw (← c.call_count.ensures) (sym c.get.ensures ∙ c.in-Some.is))))).0 w.if-not-listen.true)
]

pub returns-in_default-try_fetch-clause-leads : goal.returns-in_default-try_fetch-clause-leads
returns-in_default-try_fetch-clause-leads c = λ stopped r lead can.
    absurd (finds_some (route_of c.args.plan.now) c.args.told.now stopped r c.args.tape.now c.args.self.now lead can c.fetches_find.ensures.find c.requires.may c.requires.follows c.listen.new.self c.listen.ensures.stays (rw (← c.as_slice.ensures) (c.if-not-listen.ensures.listens refl))
    (rw (← c.as_slice.ensures) (c.listen.ensures.awaited r.arrivals (rw c.as_slice.ensures (awaits_told (route_of c.args.plan.now) c.args.told.now stopped r c.args.tape.now c.args.self.now lead can c.in-Some.call (rw (← c.call_count.ensures) (sym c.get.ensures ∙ c.in-Some.is))))).1)
    c.in-Some.call (rw (← c.call_count.ensures) (sym c.get.ensures ∙ c.in-Some.is)) (c.if-not-listen.ensures.tail refl) c.cursor-cursor.result c.cursor-cursor.ensures (sym c.try_fetch.ensures.found ∙ c.in_default-try_fetch.is))

pub returns-then-position-call-clause-leads : goal.returns-then-position-call-clause-leads
returns-then-position-call-clause-leads c = λ stopped r lead can. elim c.then-position-call.branch [
  | then-position-call-via-then-position-call w ↦ absurd (w.if-position-call.true (told_position (route_of c.args.plan.now) c.args.told.now stopped r c.args.tape.now c.args.self.now lead can c.fetches_find.ensures.find c.requires.may c.requires.follows c.listen.new.self c.listen.ensures.stays (rw (← c.as_slice.ensures) (c.if-not-listen.ensures.listens refl))
      (rw (← c.as_slice.ensures) (c.listen.ensures.awaited r.arrivals (rw c.as_slice.ensures (awaits_told (route_of c.args.plan.now) c.args.told.now stopped r c.args.tape.now c.args.self.now lead can c.in-Some.call (rw (← c.call_count.ensures) (sym c.get.ensures ∙ c.in-Some.is))))).1)
      c.in-Some.call (rw (← c.call_count.ensures) (sym c.get.ensures ∙ c.in-Some.is)) (c.if-not-listen.ensures.tail refl) c.cursor-cursor.result c.cursor-cursor.ensures c.in-Some-try_fetch.tuple c.in-Some-try_fetch.position c.in-Some-try_fetch.tail (sym c.try_fetch.ensures.found ∙ c.in-Some-try_fetch.is)))
  | then-position-call-via-else-position-call+then-not-has_numbers w ↦ absurd (wrong (w.has_numbers.ensures.equal (w.as_slice-else-position-call.ensures.value ∙ told_seqs (route_of c.args.plan.now) c.args.told.now stopped r c.args.tape.now c.args.self.now lead can c.fetches_find.ensures.find c.requires.may c.requires.follows c.listen.new.self c.listen.ensures.stays (rw (← c.as_slice.ensures) (c.if-not-listen.ensures.listens refl))
      (rw (← c.as_slice.ensures) (c.listen.ensures.awaited r.arrivals (rw c.as_slice.ensures (awaits_told (route_of c.args.plan.now) c.args.told.now stopped r c.args.tape.now c.args.self.now lead can c.in-Some.call (rw (← c.call_count.ensures) (sym c.get.ensures ∙ c.in-Some.is))))).1)
      c.in-Some.call (rw (← c.call_count.ensures) (sym c.get.ensures ∙ c.in-Some.is)) (c.if-not-listen.ensures.tail refl) c.cursor-cursor.result c.cursor-cursor.ensures c.in-Some-try_fetch.tuple c.in-Some-try_fetch.position c.in-Some-try_fetch.tail (sym c.try_fetch.ensures.found ∙ c.in-Some-try_fetch.is))) w.if-not-has_numbers.true)
]

pub returns-clause-leads : goal.returns-clause-leads
returns-clause-leads c = λ stopped r lead can. (
  c.is_told.ensures.equal (told_out (route_of c.args.plan.now) c.args.told.now stopped r c.args.tape.now c.args.self.now lead can c.fetches_find.ensures.find c.requires.may c.requires.follows c.listen.new.self c.listen.ensures.stays (rw (← c.as_slice.ensures) (c.if-not-listen.ensures.listens refl))
      (rw (← c.as_slice.ensures) (c.listen.ensures.awaited r.arrivals (rw c.as_slice.ensures (awaits_told (route_of c.args.plan.now) c.args.told.now stopped r c.args.tape.now c.args.self.now lead can c.in-Some.call (rw (← c.call_count.ensures) (sym c.get.ensures ∙ c.in-Some.is))))).1)
      c.in-Some.call (rw (← c.call_count.ensures) (sym c.get.ensures ∙ c.in-Some.is)) (c.if-not-listen.ensures.tail refl) c.cursor-cursor.result c.cursor-cursor.ensures c.in-Some-try_fetch.tuple c.in-Some-try_fetch.position c.in-Some-try_fetch.tail (sym c.try_fetch.ensures.found ∙ c.in-Some-try_fetch.is) c.took.new.self c.took.ensures.taken ∙ ap (output_of_call c.listen.new.self.outputs) (sym c.pending.ensures)),
  leads_made (route_of c.args.plan.now) c.args.told.now stopped r c.args.tape.now c.args.self.now lead can c.fetches_find.ensures.find c.requires.may c.requires.follows c.listen.new.self c.listen.ensures.stays (rw (← c.as_slice.ensures) (c.if-not-listen.ensures.listens refl))
      (rw (← c.as_slice.ensures) (c.listen.ensures.awaited r.arrivals (rw c.as_slice.ensures (awaits_told (route_of c.args.plan.now) c.args.told.now stopped r c.args.tape.now c.args.self.now lead can c.in-Some.call (rw (← c.call_count.ensures) (sym c.get.ensures ∙ c.in-Some.is))))).1)
      c.in-Some.call (rw (← c.call_count.ensures) (sym c.get.ensures ∙ c.in-Some.is)) (c.if-not-listen.ensures.tail refl) c.cursor-cursor.result c.cursor-cursor.ensures c.in-Some-try_fetch.tuple c.in-Some-try_fetch.position c.in-Some-try_fetch.tail (sym c.try_fetch.ensures.found ∙ c.in-Some-try_fetch.is) c.took.new.self c.is_last-self.result c.took.ensures.taken,
)

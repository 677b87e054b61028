-- Runs worked out event by event: the definitions allow them, and come to what is expected.
use Rattle.std.proofs.Common.{ℕ, ◌-◌, ◌≡◌, refl, sym, ap, inl, arith, Option, Some, None, option_map, option_and_then, slice_get, length, [], ◌∷◌, map}
use Rattle.cy_msg.specs.declared.token.Token.{Token}
use Rattle.cy_msg.specs.declared.token.Tuple.TheVariants.{One}
use Rattle.cy_fuse.specs.Fusion.{fused}
use Rattle.cy_fuse.specs.Fetch.{fetch as fetch_rule}
use Rattle.cy_fuse.specs.Laws.{FetchesFind}
use Rattle.cy_comp.specs.declared.call.Call.{Call}
use Rattle.cy_comp.specs.Calls.{outs}
use Rattle.wake_core.specs.Run.{Route, set_at}
use Rattle.wake_core.specs.Plain.{Plain, hand, DataWait, Known, opening_world, tail_at}
use Rattle.wake_core.specs.Events.{Checks, Asks, call_on, next_call, after_acquire, after_spend, after_ready, after_check, after_ask, after_none, after_call, after_fetch, after_tape, after_fill, after_look, after_clear, after_yield, after_release}
use Rattle.wake_core.specs.Laws.{Events, none, more, acquire, spend, ready, check, ask, fetch, tape, fill, look, clear, yield_as, release, tick}
use Rattle.wake_core.proofs.Places.{set_at_is}

-- A message of channel 0.
abbrev pub message : (seq time : ℕ) → Token
message seq time = record { channel = 0; seq = seq; time = time; whole = None; origin = None }

-- A component of any class that reads channel 0 alone.
abbrev pub alone : (queue : ℕ) → Route → Route
alone queue r = record r { readers = 0 ∷ []; queue = queue; out = 1 }

-- Thread 1 holds it, Known and READY, after one call: its next fetch begins at 2, and one tuple was fused.
abbrev called_once : Route → Plain
called_once r = record (opening_world (alone 1 r ∷ []) (2 ∷ 0 ∷ []) None) {
  cursors = λ c. 2;
  calls = λ c. record { position = 1; tail = 1; tuple = One (message 1 1); out = None } ∷ [];
  arrivals = λ c. (0, message 1 1) ∷ [];
  hands = set_at 1 (hand 0 Known) (λ p. None);
  tape = message 1 1 ∷ [];
  clock = 2;
}

abbrev position_of : Plain → Option ℕ
position_of w = option_map (λ x. x.position) (next_call w 0)

-- The call that comes of what a fetch finds.
next_by : (c : ℕ) (w : Plain) (x : Route) (o : Option ℕ) → slice_get w.routes c ≡ Some x → fetch_rule (w.cursors c) (tail_at x w c) x.queue x.overflow ≡ o
    → next_call w c ≡ option_and_then (λ (n : ℕ). option_map (call_on x w c n) (slice_get (fused (w.arrivals c) (length x.readers)) (n - 1))) o
next_by c w x o at is = rw at (ap (λ (o : Option ℕ). option_and_then (λ (n : ℕ). option_map (call_on x w c n) (slice_get (fused (w.arrivals c) (length x.readers)) (n - 1))) o) is)

-- A fetch that finds nothing.
misses : (p c : ℕ) (w : Plain) (x : Route) → slice_get w.routes c ≡ Some x → fetch_rule (w.cursors c) (tail_at x w c) x.queue x.overflow ≡ None → after_none p c w ≡ after_fetch p c (next_call w c) w
misses p c w x at is = ap (λ (o : Option Call). after_fetch p c o w) (sym (next_by c w x None at is))

-- The look for the stop, and Ask.
look_then_ask : (p c : ℕ) (w v u : Plain) → Checks p c w (after_check p c w) → Asks p c (after_check p c w) v → Events v u → Events w u
look_then_ask p c w v u a b rest = more {m = after_check p c w} (check {p = p} {c = c} a) (more {m = v} (ask {p = p} {c = c} b) rest)

-- A message that comes between the fetch and the parking isn't lost: its Look sees DATA_WAIT, the flag is cleared, and so the
-- component is woken and called on it.
park_race : FetchesFind → (r : Route) → (v : Plain) × Events (called_once r) v × (position_of v ≡ Some 2)
unfolding set_at fused outs
park_race law r =
    let w0 = called_once r in
    let w1 = after_ask 1 0 (after_check 1 0 w0) in
    let w2 = after_none 1 0 w1 in
    let w3 = after_tape 0 (message 2 2) w2 in
    let w4 = after_fill 0 0 0 [] w3 in
    let w5 = after_look 0 0 [] w4 in
    let w6 = after_clear 0 0 [] w5 in
    let w7 = after_yield 1 0 DataWait w6 in
    let w8 = after_release 1 w7 in
    let w9 = after_acquire 1 0 w8 in
    let w10 = after_spend 1 0 w9 in
    let w11 = after_ready 1 0 w10 in
    let w12 = after_ask 1 0 (after_check 1 0 w11) in (
      w12,
      look_then_ask 1 0 w0 w1 _ record { held = refl; ready = refl; effect = refl } record { held = refl; none_held = refl; effect = refl }
          (more {m = w2} (fetch {p = 1} {c = 0} record { held = refl; effect = misses 1 0 w1 (alone 1 r) refl (law.past 2 1 1 r.overflow (omega arith)) })
          (more {m = w3} (tape {t = message 2 2} record { owes = record { filled = refl; looked = refl; cleared = refl }; raised = λ s e all. cc; next = record { unwritten = refl; next = refl; within = omega arith }; now = refl; effect = refl })
          (more {m = w4} (fill {p = 0} {u = 0} {j = 0} record { later = []; first = refl; effect = refl })
          (more {m = w5} (look {p = 0} {c = 0} record { later = []; filled = refl; first = refl; effect = refl })
          (more {m = w6} (clear {p = 0} {c = 0} record { before = []; after = []; there = refl; effect = refl })
          (more {m = w7} (yield_as {p = 1} {c = 0} {state = DataWait} record { owes = record { filled = refl; looked = refl; cleared = refl }; held = inl (refl, refl); effect = refl })
          (more {m = w8} (release {p = 1} {c = 0} record { held = inl refl; effect = refl })
          (more {m = w9} (acquire {p = 1} {c = 0} record { known = omega arith; idle = refl; free = λ p f e. grind (arith, set_at_is, e); effect = refl })
          (more {m = w10} (spend {p = 1} {c = 0} {seen = 2} record { held = refl; past = omega arith; not_due = λ d. d; effect = refl })
          (more {m = w11} (ready {p = 1} {c = 0} record { held = inl refl; effect = refl })
          (look_then_ask 1 0 w11 w12 _ record { held = refl; ready = refl; effect = refl } record { held = refl; none_held = refl; effect = refl }
          none))))))))))),
      ap (option_map (λ (x : Call). x.position)) (next_by 0 w12 (alone 1 r) (Some 2) refl (law.next 2 2 1 r.overflow (omega arith) (omega arith) (omega arith))),
    )

-- One that comes while the component is READY needs no wake: the fetch that follows finds it.
fetch_without_wake : FetchesFind → (r : Route) → (v : Plain) × Events (called_once r) v × (position_of v ≡ Some 2)
unfolding set_at fused outs
fetch_without_wake law r =
    let w0 = called_once r in
    let w1 = after_tape 0 (message 2 2) w0 in
    let w2 = after_fill 0 0 0 [] w1 in
    let w3 = after_look 0 0 [] w2 in
    let w4 = after_ask 1 0 (after_check 1 0 w3) in (
      w4,
      more {m = w1} (tape {t = message 2 2} record { owes = record { filled = refl; looked = refl; cleared = refl }; raised = λ s e all. cc; next = record { unwritten = refl; next = refl; within = omega arith }; now = refl; effect = refl })
          (more {m = w2} (fill {p = 0} {u = 0} {j = 0} record { later = []; first = refl; effect = refl })
          (more {m = w3} (look {p = 0} {c = 0} record { later = []; filled = refl; first = refl; effect = refl })
          (look_then_ask 1 0 w3 w4 _ record { held = refl; ready = refl; effect = refl } record { held = refl; none_held = refl; effect = refl }
          none))),
      ap (option_map (λ (x : Call). x.position)) (next_by 0 w4 (alone 1 r) (Some 2) refl (law.next 2 2 1 r.overflow (omega arith) (omega arith) (omega arith))),
    )

-- A message of channel 0 is played at its time, while its reader is READY.
abbrev played_to_ready : (seq : ℕ) → Plain → Plain
played_to_ready seq w = after_look 0 0 [] (after_fill 0 0 0 [] (after_tape 0 (message seq seq) record w { clock = seq }))

-- Four that come before the first resume: the first fetch takes the newest, and the next begins behind it.
four_before_the_first_resume : FetchesFind → (r : Route) → let w0 = opening_world (alone 4 r ∷ []) (4 ∷ 0 ∷ []) None in
    (v : Plain) × Events w0 v × (v.arrivals 0 ≡ (0, message 1 1) ∷ (0, message 2 2) ∷ (0, message 3 3) ∷ (0, message 4 4) ∷ [])
    × (map (λ x. x.position) (v.calls 0) ≡ 4 ∷ []) × (map (λ x. x.tail) (v.calls 0) ≡ 4 ∷ []) × (v.cursors 0 ≡ 5)
unfolding set_at fused outs
four_before_the_first_resume law r =
    let w0 = opening_world (alone 4 r ∷ []) (4 ∷ 0 ∷ []) None in
    let w1 = played_to_ready 1 w0 in
    let w2 = played_to_ready 2 w1 in
    let w3 = played_to_ready 3 w2 in
    let w4 = played_to_ready 4 w3 in
    let w5 = after_acquire 1 0 w4 in
    let w6 = after_spend 1 0 w5 in
    let w7 = after_ask 1 0 (after_check 1 0 w6) in
    let w8 = after_call 1 0 (call_on (alone 4 r) w7 0 4 (One (message 4 4))) w7 in (
      w8,
      more {m = record w0 { clock = 1 }} (tick {time = 1} record { later = omega arith; effect = refl })
          (more {m = after_tape 0 (message 1 1) record w0 { clock = 1 }} (tape {t = message 1 1} record { owes = record { filled = refl; looked = refl; cleared = refl }; raised = λ s e all. cc; next = record { unwritten = refl; next = refl; within = omega arith }; now = refl; effect = refl })
          (more {m = after_fill 0 0 0 [] (after_tape 0 (message 1 1) record w0 { clock = 1 })} (fill {p = 0} {u = 0} {j = 0} record { later = []; first = refl; effect = refl })
          (more {m = w1} (look {p = 0} {c = 0} record { later = []; filled = refl; first = refl; effect = refl })
          (more {m = record w1 { clock = 2 }} (tick {time = 2} record { later = omega arith; effect = refl })
          (more {m = after_tape 0 (message 2 2) record w1 { clock = 2 }} (tape {t = message 2 2} record { owes = record { filled = refl; looked = refl; cleared = refl }; raised = λ s e all. cc; next = record { unwritten = refl; next = refl; within = omega arith }; now = refl; effect = refl })
          (more {m = after_fill 0 0 0 [] (after_tape 0 (message 2 2) record w1 { clock = 2 })} (fill {p = 0} {u = 0} {j = 0} record { later = []; first = refl; effect = refl })
          (more {m = w2} (look {p = 0} {c = 0} record { later = []; filled = refl; first = refl; effect = refl })
          (more {m = record w2 { clock = 3 }} (tick {time = 3} record { later = omega arith; effect = refl })
          (more {m = after_tape 0 (message 3 3) record w2 { clock = 3 }} (tape {t = message 3 3} record { owes = record { filled = refl; looked = refl; cleared = refl }; raised = λ s e all. cc; next = record { unwritten = refl; next = refl; within = omega arith }; now = refl; effect = refl })
          (more {m = after_fill 0 0 0 [] (after_tape 0 (message 3 3) record w2 { clock = 3 })} (fill {p = 0} {u = 0} {j = 0} record { later = []; first = refl; effect = refl })
          (more {m = w3} (look {p = 0} {c = 0} record { later = []; filled = refl; first = refl; effect = refl })
          (more {m = record w3 { clock = 4 }} (tick {time = 4} record { later = omega arith; effect = refl })
          (more {m = after_tape 0 (message 4 4) record w3 { clock = 4 }} (tape {t = message 4 4} record { owes = record { filled = refl; looked = refl; cleared = refl }; raised = λ s e all. cc; next = record { unwritten = refl; next = refl; within = omega arith }; now = refl; effect = refl })
          (more {m = after_fill 0 0 0 [] (after_tape 0 (message 4 4) record w3 { clock = 4 })} (fill {p = 0} {u = 0} {j = 0} record { later = []; first = refl; effect = refl })
          (more {m = w4} (look {p = 0} {c = 0} record { later = []; filled = refl; first = refl; effect = refl })
          (more {m = w5} (acquire {p = 1} {c = 0} record { known = omega arith; idle = refl; free = λ p f e. grind (arith, set_at_is, e); effect = refl })
          (more {m = w6} (spend {p = 1} {c = 0} {seen = 4} record { held = refl; past = omega arith; not_due = λ d. d; effect = refl })
          (look_then_ask 1 0 w6 w7 _ record { held = refl; ready = refl; effect = refl } record { held = refl; none_held = refl; effect = refl }
          (more {m = w8} (fetch {p = 1} {c = 0} record { held = refl; effect = ap (λ (o : Option Call). after_fetch 1 0 o w7) (sym (next_by 0 w7 (alone 4 r) (Some 4) refl (law.first 4 4 r.overflow (omega arith)))) })
          none))))))))))))))))))),
      refl,
      refl,
      refl,
      refl,
    )

-- A component of any class that reads channels 0 and 1.
abbrev of_two : Route → Route
of_two r = record r { readers = 0 ∷ 1 ∷ []; queue = 1; out = 2 }

-- Where nothing comes to the second reader nothing is fused: each message wakes the component, which finds nothing and parks.
never_fuses : FetchesFind → (r : Route) → let w0 = opening_world (of_two r ∷ []) (2 ∷ 0 ∷ 0 ∷ []) None in
    (v : Plain) × Events w0 v × (map (λ x. x.0) (v.arrivals 0) ≡ 0 ∷ 0 ∷ []) × (v.calls 0 ≡ []) × (v.cursors 0 ≡ 0) × (v.states 0 ≡ DataWait)
unfolding set_at fused outs
never_fuses law r =
    let w0 = opening_world (of_two r ∷ []) (2 ∷ 0 ∷ 0 ∷ []) None in
    let w1 = record w0 { clock = 1 } in
    let w2 = after_tape 0 (message 1 1) w1 in
    let w3 = after_fill 0 0 0 [] w2 in
    let w4 = after_look 0 0 [] w3 in
    let w5 = after_acquire 1 0 w4 in
    let w6 = after_spend 1 0 w5 in
    let w7 = after_ask 1 0 (after_check 1 0 w6) in
    let w8 = after_none 1 0 w7 in
    let w9 = after_yield 1 0 DataWait w8 in
    let w10 = after_release 1 w9 in
    let w11 = record w10 { clock = 2 } in
    let w12 = after_tape 0 (message 2 2) w11 in
    let w13 = after_fill 0 0 0 [] w12 in
    let w14 = after_look 0 0 [] w13 in
    let w15 = after_clear 0 0 [] w14 in
    let w16 = after_acquire 1 0 w15 in
    let w17 = after_spend 1 0 w16 in
    let w18 = after_ready 1 0 w17 in
    let w19 = after_ask 1 0 (after_check 1 0 w18) in
    let w20 = after_none 1 0 w19 in
    let w21 = after_yield 1 0 DataWait w20 in
    let w22 = after_release 1 w21 in (
      w22,
      more {m = w1} (tick {time = 1} record { later = omega arith; effect = refl })
          (more {m = w2} (tape {t = message 1 1} record { owes = record { filled = refl; looked = refl; cleared = refl }; raised = λ s e all. cc; next = record { unwritten = refl; next = refl; within = omega arith }; now = refl; effect = refl })
          (more {m = w3} (fill {p = 0} {u = 0} {j = 0} record { later = []; first = refl; effect = refl })
          (more {m = w4} (look {p = 0} {c = 0} record { later = []; filled = refl; first = refl; effect = refl })
          (more {m = w5} (acquire {p = 1} {c = 0} record { known = omega arith; idle = refl; free = λ p f e. grind (arith, set_at_is, e); effect = refl })
          (more {m = w6} (spend {p = 1} {c = 0} {seen = 1} record { held = refl; past = omega arith; not_due = λ d. d; effect = refl })
          (look_then_ask 1 0 w6 w7 _ record { held = refl; ready = refl; effect = refl } record { held = refl; none_held = refl; effect = refl }
          (more {m = w8} (fetch {p = 1} {c = 0} record { held = refl; effect = misses 1 0 w7 (of_two r) refl (law.empty 0 1 r.overflow) })
          (more {m = w9} (yield_as {p = 1} {c = 0} {state = DataWait} record { owes = record { filled = refl; looked = refl; cleared = refl }; held = inl (refl, refl); effect = refl })
          (more {m = w10} (release {p = 1} {c = 0} record { held = inl refl; effect = refl })
          (more {m = w11} (tick {time = 2} record { later = omega arith; effect = refl })
          (more {m = w12} (tape {t = message 2 2} record { owes = record { filled = refl; looked = refl; cleared = refl }; raised = λ s e all. cc; next = record { unwritten = refl; next = refl; within = omega arith }; now = refl; effect = refl })
          (more {m = w13} (fill {p = 0} {u = 0} {j = 0} record { later = []; first = refl; effect = refl })
          (more {m = w14} (look {p = 0} {c = 0} record { later = []; filled = refl; first = refl; effect = refl })
          (more {m = w15} (clear {p = 0} {c = 0} record { before = []; after = []; there = refl; effect = refl })
          (more {m = w16} (acquire {p = 1} {c = 0} record { known = omega arith; idle = refl; free = λ p f e. grind (arith, set_at_is, e); effect = refl })
          (more {m = w17} (spend {p = 1} {c = 0} {seen = 2} record { held = refl; past = omega arith; not_due = λ d. d; effect = refl })
          (more {m = w18} (ready {p = 1} {c = 0} record { held = inl refl; effect = refl })
          (look_then_ask 1 0 w18 w19 _ record { held = refl; ready = refl; effect = refl } record { held = refl; none_held = refl; effect = refl }
          (more {m = w20} (fetch {p = 1} {c = 0} record { held = refl; effect = misses 1 0 w19 (of_two r) refl (law.empty 0 1 r.overflow) })
          (more {m = w21} (yield_as {p = 1} {c = 0} {state = DataWait} record { owes = record { filled = refl; looked = refl; cleared = refl }; held = inl (refl, refl); effect = refl })
          (more {m = w22} (release {p = 1} {c = 0} record { held = inl refl; effect = refl })
          none))))))))))))))))))))),
      refl,
      refl,
      refl,
      refl,
    )

-- Turns of a scan: each is a step of the serial run or parks a croutine, and they come to an end.
use Rattle.std.proofs.Common.{ℕ, zero, suc, ◌+◌, ◌*◌, ◌≡◌, ◌≢◌, ◌≤◌, ◌<◌, Bool, true, false, refl, sym, ◌∙◌, ap, subst, inl, inr, arith, List, length, Option, Some, None, find, option_map, is_some, if◌then◌else◌, not, ◌&&◌}
use Rattle.wake_core.specs.Run.{Route, Run, played_of}
use Rattle.wake_core.specs.Settle.{Settles, still, goes}
use Rattle.wake_core.specs.Serial.{Raised, stop_of, is_roused, is_runnable, resume, next}
use Rattle.wake_core.specs.Plain.{Plain, Stop, State, Ready, DataWait, Sleep, Finished, stops, unsent_of, lists}
use Rattle.wake_core.specs.Events.{IsDue, is_finished}
use Rattle.wake_core.specs.Laws as event
use Rattle.wake_core.specs.Laws.{Events}
use Rattle.wake_core.specs.Sound.{Sound}
use Rattle.wake_core.specs.Rest.{IsAtRest, run_shown, StaysFixed, IsScanOf, HeedsStop, Heeds, is_loose}
use Rattle.wake_core.specs.Turns.{Takes, Passes, Finds, IsNamed, IsStep, Rests, Resumes, Turns, IsSettled, sum_below, loose, loose_of, left_of, turns_left}
use Rattle.wake_core.proofs.Places.{set_at_same, set_at_other}
use Rattle.wake_core.proofs.Playing.{shown_stored}
use Rattle.wake_core.proofs.Parking.{parked_still, find_behind, find_none, unsent_some}
use Rattle.wake_core.proofs.Resuming.{sum_less}
use Rattle.wake_core.proofs.Taking.{passes_rest}
use Rattle.wake_core.proofs.Obeying.{named_stops}
use Rattle.wake_core.proofs.Ways.{linked}
use Rattle.wake_core.proofs.Heeding.{heeds_on, passes_keeps, takes_keeps}
use Rattle.std.proofs.lemmas.Bool.Decides.{eqb_tells}
use Rattle.cy_msg.proofs.Lists.{place}

-- What a world shows while croutines are taken and given back.
passes_shown : (order : List ℕ) (w v : Plain) → Passes order w v → run_shown v ≡ run_shown w
passes_shown order w v p = ap run_shown p.effect

takes_shown : (c : ℕ) (w v : Plain) → Takes c w v → run_shown v ≡ run_shown w
takes_shown c w v t = ap run_shown t.same ∙ ap (λ (f : ℕ → State). run_shown (record w { states = f })) t.states ∙ shown_stored c (v.states c) w t.ended

-- Worlds that were passed through heed the stop still.
pub passes_heed : (stop : Option Raised) (order : List ℕ) (w v : Plain) → Sound v → Passes order w v → Heeds stop w → Heeds stop v
passes_heed stop order w v s p h = heeds_on stop w v (ap (λ (x : Plain). x.stop) p.effect) (ap (λ (x : Plain). x.raised) p.effect)
    (λ k. (passes_keeps order w v s p k).heard) (λ k is. inl (passes_keeps order w v s p k)) h

takes_heed : (stop : Option Raised) (c : ℕ) (w v : Plain) → Sound w → Takes c w v → Heeds stop w → Heeds stop v
takes_heed stop c w v s t h = heeds_on stop w v (ap (λ (x : Plain). x.stop) t.same) (ap (λ (x : Plain). x.raised) t.same)
    (λ k. (takes_keeps c w v s t k).heard) (λ k is. inl (takes_keeps c w v s t k)) h

resumes_heed : (stop : Option Raised) (c : ℕ) (w v : Plain) → Resumes c w v → Heeds stop w → Heeds stop v
resumes_heed stop c w v r h = heeds_on stop w v r.stays.stop r.stays.raised r.hears (λ k is. elim (place k c) [
  | inl same ↦ inr (ap v.states same ∙ r.ended (ap (stops w.stop w.raised) (sym same) ∙ is))
  | inr apart ↦ inl (r.keeps k apart)
]) h

-- The stop that names a croutine.
stop_is : (stop : Option Raised) (c : ℕ) (r : Raised) → stop_of stop c ≡ Some r → (stop ≡ Some r) × (r.stop.component ≡ c)
stop_is None c r e = cc
stop_is (Some q) c r e = elim (eqb_tells q.stop.component c) [
  | inl i ↦ let is : Some q ≡ Some r = sym (ap (λ b. if b then Some q else None) i.0) ∙ e in let one : q ≡ r = cc in (is, subst (λ (x : Raised). x.stop.component ≡ c) one i.1)
  | inr i ↦ absurd (none_some (sym (ap (λ b. if b then Some q else None) i.0) ∙ e))
]
  where
    none_some : None ≡ Some r → ⊥
    none_some e = cc

-- What Heeds says of the croutine in hand, which is READY.
named : (stop : Option Raised) (c : ℕ) (w : Plain) → w.states c ≡ Ready → Heeds stop w → IsNamed (stop_of stop c) c w
named None c w ready h = h c
named (Some q) c w ready h = elim (eqb_tells q.stop.component c) [
  | inl i ↦ subst (λ (o : Option Raised). IsNamed o c w) (sym (ap (λ b. if b then Some q else None) i.0)) (
    ap (stops w.stop w.raised) (sym i.1) ∙ named_stops w.stop w.raised q.stop h.given h.raised,
    λ none. sym (subst (λ n. is_finished (w.states n) ≡ false → unsent_of w n ≡ None → is_loose (w.states n) (w.spent n) ≡ is_roused q (w.arrivals n)) i.1 h.roused (ap is_finished ready) none)
        ∙ ap (λ (x : State). is_loose x (w.spent c)) ready,
  )
  | inr i ↦ subst (λ (o : Option Raised). IsNamed o c w) (sym (ap (λ b. if b then Some q else None) i.0))
      (ap (λ (o : Option Stop). stops o w.raised c) h.given ∙ ap (λ b. w.raised && b) i.0 ∙ and_false w.raised)
]
  where
    and_false : (b : Bool) → (b && false) ≡ false
    and_false true = refl
    and_false false = refl

-- Those that were passed can't be resumed.
passed_still : (stop : Option Raised) (order : List ℕ) (w v : Plain) → IsAtRest w → Sound v → Heeds stop w → Passes order w v → (k : ℕ) → lists k order ≡ true
    → is_runnable w.routes (stop_of stop k) (run_shown w) k ≡ false
passed_still stop order w v rest s heeds p k among =
    ap (λ (x : Plain). is_runnable x.routes (stop_of stop k) (run_shown w) k) (sym p.effect)
    ∙ ap (λ (r : Run). is_runnable v.routes (stop_of stop k) r k) (sym (passes_shown order w v p))
    ∙ parked_still (stop_of stop k) k v (passes_rest order w v rest p) s (p.parked k among) (quiet (passes_heed stop order w v s p heeds))
  where
    quiet : Heeds stop v → (r : Raised) → stop_of stop k ≡ Some r → is_finished (v.states k) ≡ false → unsent_of v k ≡ None → is_roused r (v.arrivals k) ≡ false
    quiet h r is going none =
        let both = stop_is stop k r is in
        let h' : HeedsStop r v = subst (λ (o : Option Raised). Heeds o v) both.0 h in
        let roused = subst (λ n. is_finished (v.states n) ≡ false → unsent_of v n ≡ None → is_loose (v.states n) (v.spent n) ≡ is_roused r (v.arrivals n)) both.1 h'.roused in
        sym (roused going none) ∙ tight (v.states k) (v.spent k) (p.parked k among).resting (p.parked k among).spent
      where
        tight : (x : State) (b : Bool) → x ≢ Ready → b ≡ true → is_loose x b ≡ false
        tight Ready b other e = absurd (other refl)
        tight DataWait b other e = ap not e
        tight (Sleep u) b other e = ap not e
        tight Finished b other e = ap not e

loose_one : (s : State) (b : Bool) → loose s b ≤ 1
loose_one Ready b = omega arith
loose_one DataWait true = omega arith
loose_one DataWait false = omega arith
loose_one (Sleep until) true = omega arith
loose_one (Sleep until) false = omega arith
loose_one Finished true = omega arith
loose_one Finished false = omega arith

-- A croutine whose flag is spent meanwhile is no looser.
loose_fewer : (s : State) (b d : Bool) → (b ≡ true → d ≡ true) → loose s d ≤ loose s b
loose_fewer Ready b d more = omega arith
loose_fewer DataWait b true more = omega arith
loose_fewer DataWait true false more = absurd (false_true (more refl))
  where
    false_true : false ≡ true → ⊥
    false_true e = cc
loose_fewer DataWait false false more = omega arith
loose_fewer (Sleep until) b true more = omega arith
loose_fewer (Sleep until) true false more = absurd (false_true (more refl))
  where
    false_true : false ≡ true → ⊥
    false_true e = cc
loose_fewer (Sleep until) false false more = omega arith
loose_fewer Finished b true more = omega arith
loose_fewer Finished true false more = absurd (false_true (more refl))
  where
    false_true : false ≡ true → ⊥
    false_true e = cc
loose_fewer Finished false false more = omega arith

loose_ready : (b : Bool) → loose Ready b ≡ 1
loose_ready b = refl

loose_clear : (s : State) → loose s false ≡ 1
loose_clear Ready = refl
loose_clear DataWait = refl
loose_clear (Sleep until) = refl
loose_clear Finished = refl

sum_few : (n : ℕ) (f : ℕ → ℕ) → ((k : ℕ) → f k ≤ 1) → sum_below n f ≤ n
sum_few zero f one = omega arith
sum_few (suc n) f one = let here = one n in let rest = sum_few n f one in omega (arith, here, rest)

-- Less room weighs more than all that may be loose.
turns_less : (a b n x y : ℕ) → a < b → x ≤ n → a * (n + 1) + x < b * (n + 1) + y
turns_less a b n x y l few = let more = times a b n l in omega (arith, more, few)
  where
    times : (a b n : ℕ) → a < b → a * (n + 1) + (n + 1) ≤ b * (n + 1)
    times a b n l = grind (arith, l)

module _ (order : List ℕ) (c : ℕ) (w m v : Plain) (rest : IsAtRest w) (f : Finds order c w m) (r : Resumes c m v) where
  found_shown : run_shown m ≡ run_shown w
  found_shown = takes_shown c f.between m f.takes ∙ passes_shown f.before w f.between f.passes

  found_routes : m.routes ≡ w.routes
  found_routes = ap (λ (x : Plain). x.routes) f.takes.same ∙ ap (λ (x : Plain). x.routes) f.passes.effect

  found_left : left_of m ≡ left_of w
  found_left = ap left_of f.takes.same ∙ ap left_of f.passes.effect

  found_stays : StaysFixed w v
  found_stays = record {
    routes = r.stays.routes ∙ found_routes;
    counts = r.stays.counts ∙ ap (λ (x : Plain). x.counts) f.takes.same ∙ ap (λ (x : Plain). x.counts) f.passes.effect;
    stop = r.stays.stop ∙ ap (λ (x : Plain). x.stop) f.takes.same ∙ ap (λ (x : Plain). x.stop) f.passes.effect;
    raised = r.stays.raised ∙ ap (λ (x : Plain). x.raised) f.takes.same ∙ ap (λ (x : Plain). x.raised) f.passes.effect;
    closing = r.stays.closing ∙ ap (λ (x : Plain). x.closing) f.takes.same ∙ ap (λ (x : Plain). x.closing) f.passes.effect;
    clock = r.stays.clock ∙ ap (λ (x : Plain). x.clock) f.takes.same ∙ ap (λ (x : Plain). x.clock) f.passes.effect;
    played = r.stays.played ∙ ap (λ (x : Plain). played_of x.routes x.tape) f.takes.same ∙ ap (λ (x : Plain). played_of x.routes x.tape) f.passes.effect;
  }

  -- The world in which it is in hand heeds the stop.
  module _ (stop : Option Raised) (heeds : Heeds stop w) where
    hand_heeds : Heeds stop m
    hand_heeds = takes_heed stop c f.between m f.sound f.takes (passes_heed stop f.before w f.between f.sound f.passes heeds)

    -- The step is that of the serial run.
    stepped_next : ((o : Option Raised) → IsNamed o c m → IsStep c m v o) → next w.routes stop order (run_shown w) ≡ Some (run_shown v)
    stepped_next t =
        let step = t (stop_of stop c) (named stop c m f.ready hand_heeds) in
        let can : is_runnable w.routes (stop_of stop c) (run_shown w) c ≡ true =
        ap (λ (x : List Route). is_runnable x (stop_of stop c) (run_shown w) c) (sym found_routes) ∙ ap (λ (x : Run). is_runnable m.routes (stop_of stop c) x c) (sym found_shown) ∙ step.can in
        let first : find (λ k. is_runnable w.routes (stop_of stop k) (run_shown w) k) order ≡ Some c =
        ap (find (λ k. is_runnable w.routes (stop_of stop k) (run_shown w) k)) f.there
        ∙ find_behind (λ k. is_runnable w.routes (stop_of stop k) (run_shown w) k) f.before f.after c (passed_still stop f.before w f.between rest f.sound heeds f.passes) can in
        ap (option_map (λ k. resume w.routes (stop_of stop k) (run_shown w) k)) first
        ∙ ap (λ (x : List Route). Some (resume x (stop_of stop c) (run_shown w) c)) (sym found_routes)
        ∙ ap (λ (x : Run). Some (resume m.routes (stop_of stop c) x c)) (sym found_shown)
        ∙ ap (λ (x : Run). Some x) (sym step.run)

  few_loose : loose_of v ≤ length w.routes
  few_loose = rw (found_stays.routes) (sum_few (length w.routes) (λ k. loose (v.states k) (v.spent k)) (λ k. loose_one (v.states k) (v.spent k)))

  stepped_fewer : left_of v < left_of m → turns_left v < turns_left w
  stepped_fewer fewer =
      let less : left_of v < left_of w = subst (λ n. left_of v < n) found_left fewer in
      subst (λ (x : List Route). left_of v * (length x + 1) + loose_of v < turns_left w) (sym found_stays.routes)
      (turns_less (left_of v) (left_of w) (length w.routes) (loose_of v) (loose_of w) less few_loose)

  waited_shown : Rests c DataWait m v → run_shown v ≡ run_shown w
  waited_shown t = ap run_shown t.same ∙ shown_stored c DataWait m (sym (ap is_finished f.ready)) ∙ found_shown

  module _ (state : State) (tight : loose state true ≡ 0) (t : Rests c state m v) where
    -- It wasn't due, since one that sleeps holds an output back.
    not_due : IsDue (f.between.states c) f.between.clock → ⊥
    not_due = by (f.between.states c) refl
      where
        some_none : true ≡ false → ⊥
        some_none e = cc

        by : (s : State) → f.between.states c ≡ s → IsDue s f.between.clock → ⊥
        by Ready e due = due
        by DataWait e due = due
        by Finished e due = due
        by (Sleep until) e due =
            let some = unsent_some f.between c (f.sound.consistent.held.asleep c until e) in
            let none : is_some (unsent_of f.between c) ≡ false = ap (λ (x : Plain). is_some (unsent_of x c)) (sym f.takes.same) ∙ ap is_some t.none_held in
            some_none (sym some ∙ none)

    waited_spent : v.spent c ≡ true
    waited_spent = ap (λ (x : Plain). x.spent c) t.same ∙ f.takes.flag not_due

    was_loose : loose (f.between.states c) (f.between.spent c) ≡ 1
    was_loose = elim (f.takes.woken f.ready not_due) [
      | inl e ↦ ap (λ s. loose s (f.between.spent c)) e ∙ loose_ready (f.between.spent c)
      | inr e ↦ ap (loose (f.between.states c)) e ∙ loose_clear (f.between.states c)
    ]

    states_were : (k : ℕ) → f.between.states k ≡ w.states k
    states_were k = ap (λ (x : Plain). x.states k) f.passes.effect

    looser : (k : ℕ) → loose (f.between.states k) (f.between.spent k) ≤ loose (w.states k) (w.spent k)
    looser k = rw (states_were k) (loose_fewer (w.states k) (w.spent k) (f.between.spent k) (f.passes.spends k))

    now : loose (v.states c) (v.spent c) ≡ 0
    now = ap (λ s. loose s (v.spent c)) (ap (λ (x : Plain). x.states c) t.same ∙ set_at_same c state m.states) ∙ ap (loose state) waited_spent ∙ tight

    others : (k : ℕ) → k ≢ c → loose (v.states k) (v.spent k) ≡ loose (f.between.states k) (f.between.spent k)
    others k apart =
        ap (λ s. loose s (v.spent k)) (ap (λ (x : Plain). x.states k) t.same ∙ set_at_other c state m.states k apart ∙ ap (λ (g : ℕ → State). g k) f.takes.states ∙ set_at_other c (m.states c) f.between.states k apart)
        ∙ ap (loose (f.between.states k)) (ap (λ (x : Plain). x.spent k) t.same ∙ ap (λ (g : ℕ → Bool). g k) f.takes.spent ∙ set_at_other c (m.spent c) f.between.spent k apart)

    no_looser : (k : ℕ) → loose (v.states k) (v.spent k) ≤ loose (w.states k) (w.spent k)
    no_looser k = elim (place k c) [
      | inl e ↦ subst (λ n. loose (v.states n) (v.spent n) ≤ loose (w.states n) (w.spent n)) (sym e) (rw now (omega arith))
      | inr apart ↦ rw (others k apart) (looser k)
    ]

    less_loose : loose (v.states c) (v.spent c) < loose (w.states c) (w.spent c)
    less_loose = let l = looser c in rw now (omega (arith, l, was_loose))

    waited_fewer : turns_left v < turns_left w
    waited_fewer =
        let known : c < length w.routes = subst (λ (x : List Route). c < length x) (ap (λ (x : Plain). x.routes) f.passes.effect) f.takes.known in
        let less = sum_less (length w.routes) (λ k. loose (w.states k) (w.spent k)) (λ k. loose (v.states k) (v.spent k)) c known less_loose no_looser in
        let left : left_of v ≡ left_of w = ap left_of t.same ∙ found_left in
        subst (λ (x : List Route). left_of v * (length x + 1) + sum_below (length x) (λ k. loose (v.states k) (v.spent k)) < turns_left w) (sym found_stays.routes)
        (subst (λ n. n * (length w.routes + 1) + sum_below (length w.routes) (λ k. loose (v.states k) (v.spent k)) < turns_left w) (sym left) (add_less (left_of w * (length w.routes + 1)) _ _ less))
      where
        add_less : (a x y : ℕ) → x < y → a + x < a + y
        add_less a x y l = omega (arith, l)

  pub turns_by : Turns order w v
  turns_by = record {
    events = linked (linked f.passes.events f.takes.events) r.events;
    rest = r.rest;
    stays = found_stays;
    shows = λ stop heeds. (
      elim r.turn [
        | inl t ↦ inl (stepped_next stop heeds t.step)
        | inr t ↦ elim t [ inl u ↦ inl (stepped_next stop heeds u.step) | inr u ↦ inr (waited_shown u) ]
      ],
      resumes_heed stop c m v r (hand_heeds stop heeds),
    );
    fewer = elim r.turn [
      | inl t ↦ stepped_fewer t.left
      | inr t ↦ elim t [ inl u ↦ waited_fewer Finished refl u.rests | inr u ↦ waited_fewer DataWait refl u ]
    ];
  }

-- What settles from here settles from the beginning.
pub record SettlesOn (scan : List ℕ) (first w : Plain) : Type 0 where
  pub events : Events first w
  pub rest : IsAtRest w
  pub stays : StaysFixed first w
  pub onward : (stop : Option Raised) → Heeds stop first
      → ((e : Run) → Settles (next first.routes stop scan) (run_shown w) e → Settles (next first.routes stop scan) (run_shown first) e) × Heeds stop w

pub stays_same : (w : Plain) → StaysFixed w w
stays_same w = record { routes = refl; counts = refl; stop = refl; closing = refl; raised = refl; clock = refl; played = refl }

pub stays_on : (w m v : Plain) → StaysFixed w m → StaysFixed m v → StaysFixed w v
stays_on w m v a b = record {
  routes = b.routes ∙ a.routes;
  counts = b.counts ∙ a.counts;
  stop = b.stop ∙ a.stop;
  closing = b.closing ∙ a.closing;
  raised = b.raised ∙ a.raised;
  clock = b.clock ∙ a.clock;
  played = b.played ∙ a.played;
}

pub settles_begin : (scan : List ℕ) (w : Plain) → IsAtRest w → SettlesOn scan w w
settles_begin scan w rest = record { events = event.none; rest = rest; stays = stays_same w; onward = λ stop heeds. (λ e s. s, heeds) }

pub settles_step : (scan : List ℕ) (first w v : Plain) → Turns scan w v → SettlesOn scan first w → SettlesOn scan first v
settles_step scan first w v t h = record {
  events = linked h.events t.events;
  rest = t.rest;
  stays = stays_on first w v h.stays t.stays;
  onward = λ stop heeds.
      let before = h.onward stop heeds in
      let now = t.shows stop before.1 in (
        λ e s. elim now.0 [
          | inl step ↦ before.0 e (goes (ap (λ (x : List Route). next x stop scan (run_shown w)) (sym h.stays.routes) ∙ step) s)
          | inr same ↦ before.0 e (subst (λ (x : Run). Settles (next first.routes stop scan) x e) same s)
        ],
        now.1,
      );
}

pub settles_end : (scan : List ℕ) (first w v : Plain) → Sound v → Passes scan w v → SettlesOn scan first w → IsSettled scan first v
settles_end scan first w v s p h = record {
  events = linked h.events p.events;
  rest = passes_rest scan w v h.rest p;
  stays = stays_on first w v h.stays record {
    routes = ap (λ (x : Plain). x.routes) p.effect;
    counts = ap (λ (x : Plain). x.counts) p.effect;
    stop = ap (λ (x : Plain). x.stop) p.effect;
    closing = ap (λ (x : Plain). x.closing) p.effect;
    raised = ap (λ (x : Plain). x.raised) p.effect;
    clock = ap (λ (x : Plain). x.clock) p.effect;
    played = ap (λ (x : Plain). played_of x.routes x.tape) p.effect;
  };
  settles = λ stop heeds.
      let before = h.onward stop heeds in
      let none : next first.routes stop scan (run_shown w) ≡ None =
      ap (λ (x : List Route). next x stop scan (run_shown w)) (sym h.stays.routes)
      ∙ ap (option_map (λ k. resume w.routes (stop_of stop k) (run_shown w) k)) (find_none (λ k. is_runnable w.routes (stop_of stop k) (run_shown w) k) scan (passed_still stop scan w v h.rest s before.1 p)) in (
        subst (λ (x : Run). Settles (next first.routes stop scan) (run_shown first) x) (sym (passes_shown scan w v p)) (before.0 (run_shown w) (still none)),
        passes_heed stop scan w v s p before.1,
      );
  parked = p.parked;
}

pub settles_known : (scan : List ℕ) (first w : Plain) → SettlesOn scan first w → IsScanOf (length first.routes) scan → (c : ℕ) → lists c scan ≡ true → c < length w.routes
settles_known scan first w h each c among = subst (λ (x : List Route). c < length x) (sym h.stays.routes) (each.known c among)

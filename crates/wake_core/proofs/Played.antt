-- A list of messages that is played in two parts, with the stop between them where there is one.
use Rattle.std.proofs.Common.{ℕ, zero, suc, ◌+◌, ◌-◌, ◌≡◌, ◌≢◌, ◌≤◌, ◌<◌, ◌⊎◌, ◌==◌, ◌||◌, Bool, true, false, true≢false, not, nat_lt, cond, refl, sym, ◌∙◌, ap, subst, inl, inr, arith, List, [], ◌∷◌, ◌++◌, length, take, drop, Option, Some, None, is_some, slice_get, slice_index, get_or}
use Rattle.std.proofs.lemmas.Bool.Decides.{nat_tests, eqb_tells}
use Rattle.std.proofs.lemmas.Option.{slice_get_within, slice_get-get_or}
use Rattle.std.proofs.lemmas.List.{take_all, length-take, length-drop}
use mathlib.Core.Path.{fun_ext}
use Rattle.cy_msg.specs.declared.token.Token.{Token}
use Rattle.cy_msg.specs.declared.placement.ContextPlan.{ContextPlan}
use Rattle.cy_msg.specs.Placement.{scan_of}
use Rattle.cy_msg.specs.Tokens.{on_channel, IsNumbered, IsTimed}
use Rattle.cy_msg.proofs.Lists.{take_next}
use Rattle.cy_comp.specs.Calls.{outs}
use Rattle.cy_comp.specs.Laws.{OutcomesAreAnswers}
use Rattle.wake_core.specs.Run.{Route, Run, opening, readers_of, writes_from, played_of}
use Rattle.wake_core.specs.Settle.{Settles, Runs}
use Rattle.wake_core.specs.Serial.{Raised, raised_in, heard_by, is_roused, play, next, last_clock, Plays, SerialRun}
use Rattle.wake_core.specs.Plain.{Plain, Stop, State, Ready, DataWait, Sleep, Finished, opening_world, stops, to_play_from, to_play, played_count, unsent_of}
use Rattle.wake_core.specs.Events.{Ticks, IsRaised, after_stop}
use Rattle.wake_core.specs.Laws as event
use Rattle.wake_core.specs.Laws.{Events}
use Rattle.wake_core.specs.Sound.{Sound}
use Rattle.wake_core.specs.LawfulRun.{Quiet, LawfulRun}
use Rattle.wake_core.specs.Rest.{IsAtRest, run_shown, IsOpening, IsToPlay, IsScanOf, MayPlay, StaysMade, HeedsStop, Heeds, is_loose}
use Rattle.wake_core.specs.WorldCalls.{MayStop}
use Rattle.wake_core.specs.Turns.{PlaysOne, MayPut, IsSettled, IsPlayedTo, MayPlayOn, PlaysOn, place_of}
use Rattle.wake_core.proofs.Listed.{on_played, to_play_total}
use Rattle.wake_core.proofs.Heeding.{heeds_on, told_keeps, sleeper_holds, hears_more}
use Rattle.wake_core.proofs.Ending.{settled_quiet}
use Rattle.wake_core.proofs.Ways.{one as single, linked}

-- What is behind the first of a list stands there so much further on.
get_dropped : {X : Type 0} (n : ℕ) (xs : List X) (k : ℕ) → slice_get (drop n xs) k ≡ slice_get xs (n + k)
get_dropped zero xs k = let same : 0 + k ≡ k = omega arith in ap (slice_get xs) (sym same)
get_dropped (suc n) [] k = refl
get_dropped (suc n) (x ∷ xs) k = let more : suc n + k ≡ suc (n + k) = omega arith in get_dropped n xs k ∙ ap (slice_get (x ∷ xs)) (sym more)

-- One more is put.
runs_one : {W T : Type 0} (next : W → Option W) (put : T → W → W) (xs : List T) (t : T) (a m v : W) → Runs next put xs a m → Settles next (put t m) v → Runs next put (xs ++ t ∷ []) a v
runs_one next put [] t a m v r s = (v, subst (λ x. Settles next (put t x) v) r s, refl)
runs_one next put (x ∷ xs) t a m v r s = (r.0, r.1, runs_one next put xs t r.0 m v r.2 s)

-- A message that was played is heeded.
put_heeds : (stop : Option Raised) (t : Token) (w m : Plain) → Sound w → PlaysOne t w m → Heeds stop w → Heeds stop m
put_heeds stop t w m s p h = heeds_on stop w m p.stop p.raised
    (λ k. let same = ap (λ (r : Run). heard_by (r.arrivals k)) p.run in let more = hears_more (readers_of w.routes t.channel) t w.arrivals k in omega (arith, same, more))
    (λ k is. inl (told_keeps k (readers_of w.routes t.channel) t w m (ap (λ (r : Run). r.arrivals) p.run) (ap (λ (f : ℕ → State). f k) p.states) (p.spent k) (p.unsent k) (sleeper_holds w s k))) h

module _ (tokens : List Token) (w : Plain) (i : ℕ) (t : Token) (timed : IsTimed tokens) (numbered : IsNumbered tokens) (at : slice_get tokens i ≡ Some t) (p : IsPlayedTo tokens w i) where
  -- The next message comes next.
  pub next_unwritten : writes_from 0 w.routes t.channel ≡ None
  next_unwritten = p.made.unwritten i t at

  next_seq : t.seq ≡ length (on_channel t.channel w.tape) + 1
  next_seq =
      numbered i t at ∙ ap (λ l. length (on_channel t.channel l) + 1) (sym p.played)
      ∙ ap (λ l. length l + 1) (on_played w.routes t.channel w.tape next_unwritten)

  next_within : t.seq ≤ slice_index w.counts t.channel
  next_within = within (on_front tokens i t at) (numbered i t at) (p.made.counted t.channel)
    where
      within : length (on_channel t.channel (take i tokens)) + 1 ≤ length (on_channel t.channel tokens) → t.seq ≡ length (on_channel t.channel (take i tokens)) + 1
          → length (on_channel t.channel tokens) ≡ slice_index w.counts t.channel → t.seq ≤ slice_index w.counts t.channel
      within l seq total = omega (arith, l, seq, total)

      on_front : (xs : List Token) (i : ℕ) (t : Token) → slice_get xs i ≡ Some t → length (on_channel t.channel (take i xs)) + 1 ≤ length (on_channel t.channel xs)
      on_front [] i t e = cc
      on_front (x ∷ xs) zero t e =
          let same : x ≡ t = cc in
          subst (λ (y : Token). 1 ≤ length (on_channel y.channel (x ∷ xs))) same (one_more x xs)
        where
          one_more : (x : Token) (xs : List Token) → 1 ≤ length (on_channel x.channel (x ∷ xs))
          one_more x xs = elim (eqb_tells x.channel x.channel) [ inl h ↦ rw h.0 (omega arith) | inr h ↦ absurd (h.1 refl) ]
      on_front (x ∷ xs) (suc i) t e = by (x.channel == t.channel) (on_front xs i t e)
        where
          by : (b : Bool) → length (on_channel t.channel (take i xs)) + 1 ≤ length (on_channel t.channel xs)
              → length (cond b (x ∷ on_channel t.channel (take i xs)) (on_channel t.channel (take i xs))) + 1 ≤ length (cond b (x ∷ on_channel t.channel xs) (on_channel t.channel xs))
          by true l = omega (arith, l)
          by false l = l

  inside : i < length tokens
  inside = slice_get_within tokens i t at

  many : length (take i tokens) ≡ i
  many = let n = length-take i tokens in omega (arith, n, inside)

  pub next_may : (m : ℕ) → i < m → ((s : Stop) → w.stop ≡ Some s → (w.raised ≡ true) ⊎ (m ≤ s.after)) → MayPut t w
  next_may m below in_time = record {
    next = record { unwritten = next_unwritten; next = next_seq; within = next_within };
    raised = λ s given all. elim (in_time s given) [ inl up ↦ up | inr l ↦ absurd (late s l (sym many ∙ ap length (sym p.played) ∙ all)) ];
  }
    where
      late : (s : Stop) → m ≤ s.after → i ≡ s.after → ⊥
      late s l all = omega (arith, below, l, all)

-- So many were played, from a place on, ..
pub plays_begin : (scan : List ℕ) (tokens : List Token) (n : ℕ) (w : Plain) → IsPlayedTo tokens w n → PlaysOn scan tokens n n w w
plays_begin scan tokens n w p = record {
  events = event.none;
  ordered = omega arith;
  none = λ e. refl;
  played = p;
  made = record { routes = refl; counts = refl; stop = refl; closing = refl };
  raised = refl;
  plays = λ stop heeds. (subst (λ l. Plays w.routes stop scan l (run_shown w) (run_shown w)) (sym (nothing n (drop n tokens))) refl, heeds);
  parked = λ less. absurd (never n less);
}
  where
    nothing : {X : Type 0} (n : ℕ) (xs : List X) → take (n - n) xs ≡ []
    nothing n xs = let z : n - n ≡ 0 = omega arith in ap (λ k. take k xs) z

    never : (n : ℕ) → n < n → ⊥
    never n l = omega (arith, l)

-- .. and one more.
pub plays_step : (scan : List ℕ) (tokens : List Token) (n i : ℕ) (first w m v : Plain) (t : Token) → IsTimed tokens → slice_get tokens i ≡ Some t → Sound w → PlaysOn scan tokens n i first w
    → PlaysOne t w m → IsSettled scan m v → PlaysOn scan tokens n (i + 1) first v
plays_step scan tokens n i first w m v t timed at s h played settled = record {
  events = linked h.events (linked played.events settled.events);
  ordered = let o = h.ordered in omega (arith, o);
  none = λ e. absurd (past h.ordered e);
  played = record {
    rest = settled.rest;
    made = record {
      counted = λ channel. h.played.made.counted channel ∙ ap (λ l. slice_index l channel) (sym counts);
      unwritten = λ k x there. ap (λ (r : List Route). writes_from 0 r x.channel) routes ∙ h.played.made.unwritten k x there;
    };
    played = settled.stays.played ∙ played.played ∙ ap (λ l. l ++ t ∷ []) h.played.played ∙ sym (take_next tokens i t at);
    later = λ later e. rw (settled.stays.clock ∙ ap (λ (r : Run). r.clock) played.run) (timed i t later at e);
  };
  made = record {
    routes = routes ∙ h.made.routes;
    counts = counts ∙ h.made.counts;
    stop = settled.stays.stop ∙ played.stop ∙ h.made.stop;
    closing = settled.stays.closing ∙ played.closing ∙ h.made.closing;
  };
  raised = settled.stays.raised ∙ played.raised ∙ h.raised;
  plays = λ stop heeds.
      let before = h.plays stop heeds in
      let now = settled.settles stop (put_heeds stop t w m s played before.1) in (
        subst (λ l. Plays first.routes stop scan l (run_shown first) (run_shown v)) (sym parts)
            (runs_one (next first.routes stop scan) (play first.routes) (take (i - n) (drop n tokens)) t (run_shown first) (run_shown w) (run_shown v) before.0
            (subst (λ (x : List Route). Settles (next x stop scan) (play x t (run_shown w)) (run_shown v)) h.made.routes
            (subst (λ (x : List Route). Settles (next x stop scan) (play w.routes t (run_shown w)) (run_shown v)) played.routes
            (subst (λ (x : Run). Settles (next m.routes stop scan) x (run_shown v)) played.run now.0)))),
        now.1,
      );
  parked = λ less. settled.parked;
}
  where
    routes : v.routes ≡ w.routes
    routes = settled.stays.routes ∙ played.routes

    counts : v.counts ≡ w.counts
    counts = settled.stays.counts ∙ played.counts

    past : n ≤ i → n ≡ i + 1 → ⊥
    past l e = omega (arith, l, e)

    parts : take (i + 1 - n) (drop n tokens) ≡ take (i - n) (drop n tokens) ++ t ∷ []
    parts =
        let more : i + 1 - n ≡ i - n + 1 = let o = h.ordered in omega (arith, o) in
        let place : n + (i - n) ≡ i = let o = h.ordered in omega (arith, o) in
        ap (λ k. take k (drop n tokens)) more ∙ take_next (drop n tokens) (i - n) t (get_dropped n tokens (i - n) ∙ ap (slice_get tokens) place ∙ at)

pub plays_known : (scan : List ℕ) (tokens : List Token) (n i : ℕ) (first w m : Plain) (t : Token) → PlaysOn scan tokens n i first w → PlaysOne t w m → IsScanOf (length first.routes) scan → IsScanOf (length m.routes) scan
plays_known scan tokens n i first w m t h p each = subst (λ (x : List Route). IsScanOf (length x) scan) (sym (p.routes ∙ h.made.routes)) each

opening_shown : (w : Plain) → IsOpening w → run_shown w ≡ opening
unfolding outs
opening_shown w o = ap run_shown o ∙ ap (λ (f : ℕ → Bool). record opening { unsent = f }) (fun_ext (λ c. by c (slice_get w.routes c) refl))
  where
    by : (c : ℕ) (r : Option Route) → slice_get w.routes c ≡ r → is_some (unsent_of (opening_world w.routes w.counts w.stop) c) ≡ false
    by c None at = rw at refl
    by c (Some x) at = rw at (nothing x.out)
      where
        nothing : (channel : ℕ) → is_some (slice_get (outs channel []) 0) ≡ false
        nothing channel = refl

opening_played : (tokens : List Token) (w : Plain) → IsOpening w → IsToPlay w tokens → IsPlayedTo tokens w 0
opening_played tokens w o made = record {
  rest = λ p. record {
    hand = ap (λ (x : Plain). x.hands p) o;
    owes = record { filled = ap (λ (x : Plain). x.fills p) o; looked = ap (λ (x : Plain). x.news p) o; cleared = ap (λ (x : Plain). x.clearing p) o };
  };
  made = made;
  played = ap (λ (x : Plain). played_of x.routes x.tape) o;
  later = λ t at. rw (ap (λ (x : Plain). x.clock) o) (omega arith);
}

-- The first part may be played in a world in which nothing has happened.
module _ (scan : List ℕ) (tokens : List Token) (first : Plain) (may : MayPlay first tokens scan) (timed : IsTimed tokens) (numbered : IsNumbered tokens) where
  total : to_play first ≡ length tokens
  total = to_play_total first tokens may.made

  pub place_within : place_of first.stop (length tokens) ≤ length tokens
  place_within = by first.stop refl
    where
      by : (o : Option Stop) → first.stop ≡ o → place_of o (length tokens) ≤ length tokens
      by None e = omega arith
      by (Some s) e = let l = may.within.after s e in omega (arith, l, total)

  pub first_may : MayPlayOn tokens 0 (place_of first.stop (length tokens)) first
  first_may = record {
    timed = timed;
    numbered = numbered;
    played = opening_played tokens first may.opening may.made;
    within = place_within;
    in_time = λ s given. inr (let same = ap (λ (o : Option Stop). place_of o (length tokens)) given in omega (arith, same));
  }

  opening_heeds : Heeds None first
  opening_heeds c = ap (λ b. stops first.stop b c) (ap (λ (x : Plain). x.raised) may.opening) ∙ unraised first.stop
    where
      unraised : (o : Option Stop) → stops o false c ≡ false
      unraised None = refl
      unraised (Some s) = refl

  -- Then the stop may be raised.
  module _ (w : Plain) (one : PlaysOn scan tokens 0 (place_of first.stop (length tokens)) first w) where
    pub stop_may : (s : Stop) → w.stop ≡ Some s → MayStop w
    stop_may s given = record {
      owes = (one.played.rest 0).owes;
      given = s;
      there = given;
      unraised = one.raised ∙ ap (λ (x : Plain). x.raised) may.opening;
      played = ap length one.played.played ∙ many ∙ ap (λ (o : Option Stop). place_of o (length tokens)) (sym one.made.stop ∙ given);
      effect = refl;
    }
      where
        many : length (take (place_of first.stop (length tokens)) tokens) ≡ place_of first.stop (length tokens)
        many = let n = length-take (place_of first.stop (length tokens)) tokens in let l = place_within in omega (arith, n, l)

    module _ (u : Plain) (none : w.stop ≡ None → u ≡ w) (some : (s : Stop) → w.stop ≡ Some s → u ≡ after_stop w) where
      raised_same : (u.routes ≡ w.routes) × (u.counts ≡ w.counts) × (u.stop ≡ w.stop) × (u.closing ≡ w.closing) × (run_shown u ≡ run_shown w)
      raised_same = by w.stop refl
        where
          by : (o : Option Stop) → w.stop ≡ o → (u.routes ≡ w.routes) × (u.counts ≡ w.counts) × (u.stop ≡ w.stop) × (u.closing ≡ w.closing) × (run_shown u ≡ run_shown w)
          by None e = let same = none e in (ap (λ (x : Plain). x.routes) same, ap (λ (x : Plain). x.counts) same, ap (λ (x : Plain). x.stop) same, ap (λ (x : Plain). x.closing) same, ap run_shown same)
          by (Some s) e = let same = some s e in (ap (λ (x : Plain). x.routes) same, ap (λ (x : Plain). x.counts) same, ap (λ (x : Plain). x.stop) same, ap (λ (x : Plain). x.closing) same, ap run_shown same)

      raised_played : IsPlayedTo tokens u (place_of first.stop (length tokens))
      raised_played = by w.stop refl
        where
          by : (o : Option Stop) → w.stop ≡ o → IsPlayedTo tokens u (place_of first.stop (length tokens))
          by None e = subst (λ (x : Plain). IsPlayedTo tokens x (place_of first.stop (length tokens))) (sym (none e)) one.played
          by (Some s) e = subst (λ (x : Plain). IsPlayedTo tokens x (place_of first.stop (length tokens))) (sym (some s e)) record {
            rest = λ p. record { hand = (one.played.rest p).hand; owes = record { filled = (one.played.rest p).owes.filled; looked = (one.played.rest p).owes.looked; cleared = (one.played.rest p).owes.cleared } };
            made = record { counted = one.played.made.counted; unwritten = one.played.made.unwritten };
            played = one.played.played;
            later = one.played.later;
          }

      up : (s : Stop) → u.stop ≡ Some s → u.raised ≡ true
      up s given = ap (λ (x : Plain). x.raised) (some s (sym raised_same.2 ∙ given))

      pub second_may : MayPlayOn tokens (place_of first.stop (length tokens)) (length tokens) u
      second_may = record { timed = timed; numbered = numbered; played = raised_played; within = omega arith; in_time = λ s given. inl (up s given) }

      pub second_scan : IsScanOf (length u.routes) scan
      second_scan = subst (λ (x : List Route). IsScanOf (length x) scan) (sym (raised_same.0 ∙ one.made.routes)) may.scan

      -- The world heeds the stop that was raised.
      raised_heeds : (s : Stop) → first.stop ≡ Some s → Heeds (Some (raised_in s (run_shown w))) u
      raised_heeds s given =
          let there : w.stop ≡ Some s = one.made.stop ∙ given in
          subst (HeedsStop (raised_in s (run_shown w))) (sym (some s there)) record {
            given = there;
            raised = refl;
            heard = omega arith;
            roused = λ going held. by (s.after == 0) refl;
          }
        where
          c : ℕ
          c = s.component

          same_heard : (n : ℕ) → nat_lt n n ≡ false
          same_heard n = let l : n < n → ⊥ = λ l. omega (arith, l) in grind (arith, nat_tests, l)

          tight : (x : State) (b : Bool) → x ≢ Ready → b ≡ true → is_loose x b ≡ false
          tight Ready b other e = absurd (other refl)
          tight DataWait b other e = ap not e
          tight (Sleep n) b other e = ap not e
          tight Finished b other e = ap not e

          place : place_of first.stop (length tokens) ≡ s.after
          place = ap (λ (o : Option Stop). place_of o (length tokens)) given

          by : (b : Bool) → (s.after == 0) ≡ b → is_loose (w.states c) (w.spent c) ≡ is_roused (raised_in s (run_shown w)) (w.arrivals c)
          by true z =
              let at : s.after ≡ 0 = grind (arith, nat_tests, z) in
              let start : w ≡ first = one.none (sym (place ∙ at)) in
              ap (λ (x : Plain). is_loose (x.states c) (x.spent c)) (start ∙ may.opening) ∙ sym (ap (λ a. a || nat_lt (heard_by (w.arrivals c)) (heard_by (w.arrivals c))) z)
          by false z =
              let some : s.after ≢ 0 = λ e. true≢false (sym (zero_is s.after e) ∙ z) in
              let parked = one.parked (above some place) c (may.scan.each c (may.within.component s given)) in
              tight (w.states c) (w.spent c) parked.resting parked.spent
              ∙ sym (ap (λ a. a || nat_lt (heard_by (w.arrivals c)) (heard_by (w.arrivals c))) z ∙ same_heard (heard_by (w.arrivals c)))
            where
              zero_is : (n : ℕ) → n ≡ 0 → (n == 0) ≡ true
              zero_is n e = grind (arith, nat_tests, e)

              above : s.after ≢ 0 → place_of first.stop (length tokens) ≡ s.after → 0 < place_of first.stop (length tokens)
              above n e = omega (arith, n, e)

      -- All is played, the clock is set to its greatest value, and what is left to do settles.
      module _ (x m : Plain) (two : PlaysOn scan tokens (place_of first.stop (length tokens)) (length tokens) u x) (tick : Ticks last_clock x m) where
        pub last_rest : IsAtRest m
        last_rest = subst IsAtRest (sym tick.effect) (λ p. record { hand = (two.played.rest p).hand; owes = record { filled = (two.played.rest p).owes.filled; looked = (two.played.rest p).owes.looked; cleared = (two.played.rest p).owes.cleared } })

        ends_routes : x.routes ≡ first.routes
        ends_routes = two.made.routes ∙ raised_same.0 ∙ one.made.routes

        last_routes : m.routes ≡ first.routes
        last_routes = ap (λ (y : Plain). y.routes) tick.effect ∙ ends_routes

        pub last_scan : IsScanOf (length m.routes) scan
        last_scan = subst (λ (y : List Route). IsScanOf (length y) scan) (sym last_routes) may.scan

        clock_heeds : (stop : Option Raised) → Heeds stop x → Heeds stop m
        clock_heeds None h = λ c. ap (λ (y : Plain). stops y.stop y.raised c) tick.effect ∙ h c
        clock_heeds (Some r) h = subst (HeedsStop r) (sym tick.effect) record { given = h.given; raised = h.raised; heard = h.heard; roused = h.roused }

        module _ (v : Plain) (settled : IsSettled scan m v) (s : Sound v) where
          ends : (stop : Option Raised) → Heeds stop x → Settles (next first.routes stop scan) (record (run_shown x) { clock = last_clock }) (run_shown v)
          ends stop h =
              subst (λ (r : Run). Settles (next first.routes stop scan) r (run_shown v)) (ap run_shown tick.effect)
              (subst (λ (y : List Route). Settles (next y stop scan) (run_shown m) (run_shown v)) last_routes (settled.settles stop (clock_heeds stop h)).0)

          all_of : {X : Type 0} (n : ℕ) (xs : List X) → length xs ≤ n → take n xs ≡ xs
          all_of n xs l = take_all n xs l

          pub serial_run : SerialRun first.routes first.stop scan tokens (run_shown v)
          serial_run = by first.stop refl
            where
              by : (o : Option Stop) → first.stop ≡ o → SerialRun first.routes o scan tokens (run_shown v)
              by None e =
                  let played = one.plays None opening_heeds in
                  let u_heeds : Heeds None u = λ c. ap (λ (y : Plain). stops y.stop y.raised c) (none (one.made.stop ∙ e)) ∙ played.1 c in
                  let more = two.plays None u_heeds in
                  let place : place_of first.stop (length tokens) ≡ length tokens = ap (λ (o : Option Stop). place_of o (length tokens)) e in
                  let none_more : run_shown x ≡ run_shown w = ap run_shown (two.none place) ∙ raised_same.4 in
                  let whole : take (place_of first.stop (length tokens) - 0) (drop 0 tokens) ≡ tokens = all_of (place_of first.stop (length tokens) - 0) tokens (let p = place in omega (arith, p)) in (
                    run_shown x,
                    subst (λ (r : Run). Plays first.routes None scan tokens opening r) (sym none_more)
                        (subst (λ (r : Run). Plays first.routes None scan tokens r (run_shown w)) (opening_shown first may.opening)
                        (subst (λ l. Plays first.routes None scan l (run_shown first) (run_shown w)) whole played.0)),
                    ends None more.1,
                  )
              by (Some t) e =
                  let played = one.plays None opening_heeds in
                  let stop : Option Raised = Some (raised_in t (run_shown w)) in
                  let more = two.plays stop (raised_heeds t e) in
                  let place : place_of first.stop (length tokens) ≡ t.after = ap (λ (o : Option Stop). place_of o (length tokens)) e in
                  let front : take (place_of first.stop (length tokens) - 0) (drop 0 tokens) ≡ take t.after tokens = let n : place_of first.stop (length tokens) - 0 ≡ t.after = omega (arith, place) in ap (λ k. take k tokens) n in
                  let back : take (length tokens - place_of first.stop (length tokens)) (drop (place_of first.stop (length tokens)) tokens) ≡ drop t.after tokens =
                  all_of (length tokens - place_of first.stop (length tokens)) (drop (place_of first.stop (length tokens)) tokens) (let l = length-drop (place_of first.stop (length tokens)) tokens in omega (arith, l))
                  ∙ ap (λ k. drop k tokens) place in (
                    run_shown w,
                    run_shown x,
                    subst (λ (r : Run). Plays first.routes None scan (take t.after tokens) r (run_shown w)) (opening_shown first may.opening)
                        (subst (λ l. Plays first.routes None scan l (run_shown first) (run_shown w)) front played.0),
                    subst (λ (y : List Route). Plays y stop scan (drop t.after tokens) (run_shown w) (run_shown x)) (raised_same.0 ∙ one.made.routes)
                        (subst (λ (r : Run). Plays u.routes stop scan (drop t.after tokens) r (run_shown x)) raised_same.4
                        (subst (λ l. Plays u.routes stop scan l (run_shown u) (run_shown x)) back more.0)),
                    ends stop more.1,
                  )

          final_stop : v.stop ≡ first.stop
          final_stop = settled.stays.stop ∙ ap (λ (y : Plain). y.stop) tick.effect ∙ two.made.stop ∙ raised_same.2 ∙ one.made.stop

          final_routes : v.routes ≡ first.routes
          final_routes = settled.stays.routes ∙ last_routes

          final_counts : v.counts ≡ first.counts
          final_counts = settled.stays.counts ∙ ap (λ (y : Plain). y.counts) tick.effect ∙ two.made.counts ∙ raised_same.1 ∙ one.made.counts

          final_played : played_of v.routes v.tape ≡ tokens
          final_played = settled.stays.played ∙ ap (λ (y : Plain). played_of y.routes y.tape) tick.effect ∙ two.played.played ∙ take_all (length tokens) tokens (omega arith)

          final_raised : IsRaised v
          final_raised t given = settled.stays.raised ∙ ap (λ (y : Plain). y.raised) tick.effect ∙ two.raised ∙ up t (raised_same.2 ∙ one.made.stop ∙ sym final_stop ∙ given)

          pub serial_lawful : OutcomesAreAnswers → LawfulRun tokens first.routes first.stop v
          serial_lawful law = record {
            wired = final_routes;
            given = final_stop;
            sound = s;
            quiet = settled_quiet law scan v settled.rest s (subst (λ (y : List Route). IsScanOf (length y) scan) (sym final_routes) may.scan) settled.parked
                (settled.stays.clock ∙ ap (λ (y : Plain). y.clock) tick.effect)
                (ap length final_played ∙ sym total ∙ ap (λ (y : List Route). to_play_from y 0 first.counts) (sym final_routes) ∙ ap (to_play_from v.routes 0) (sym final_counts))
                final_raised;
            exact = final_played;
          }

          -- All of it is by events.
          pub serial_events : Events first v
          serial_events = linked one.events (linked (by w.stop refl) (linked two.events (event.more (event.tick tick) settled.events)))
            where
              by : (o : Option Stop) → w.stop ≡ o → Events w u
              by None e = subst (Events w) (sym (none e)) event.none
              by (Some s) e = subst (Events w) (sym (some s e)) (single (event.stop (stop_may s e)))

          pub serial_stays : StaysMade first v
          serial_stays = record {
            routes = final_routes;
            counts = final_counts;
            stop = final_stop;
            closing = settled.stays.closing ∙ ap (λ (y : Plain). y.closing) tick.effect ∙ two.made.closing ∙ raised_same.3 ∙ one.made.closing;
          }

-- Where all was played, the stop raised, and the clock is at its greatest value, what settles is quiet.
pub finished_quiet : OutcomesAreAnswers → (scan : List ℕ) (w v : Plain) → played_count w ≡ to_play w → IsRaised w → w.clock ≡ last_clock → IsScanOf (length w.routes) scan → IsSettled scan w v → Sound v → Quiet v
finished_quiet law scan w v played up clock each settled s = settled_quiet law scan v settled.rest s
    (subst (λ (x : List Route). IsScanOf (length x) scan) (sym settled.stays.routes) each) settled.parked
    (settled.stays.clock ∙ clock)
    (ap length settled.stays.played ∙ played ∙ ap (λ (x : List Route). to_play_from x 0 w.counts) (sym settled.stays.routes) ∙ ap (to_play_from v.routes 0) (sym settled.stays.counts))
    (λ t given. settled.stays.raised ∙ up t (sym settled.stays.stop ∙ given))

-- A message of a list, as it is read there.
pub list_at : (tokens items : List Token) (i : ℕ) (d : Token) → items ≡ tokens → i < length items → slice_get tokens i ≡ Some (get_or items i d)
list_at tokens items i d same inside = ap (λ l. slice_get l i) (sym same) ∙ slice_get-get_or items i d inside

pub settled_at : (xs ys : List ContextPlan) (w v : Plain) → xs ≡ ys → IsSettled (scan_of xs) w v → IsSettled (scan_of ys) w v
settled_at xs ys w v same s = subst (λ (l : List ContextPlan). IsSettled (scan_of l) w v) same s

-- What the calls on a croutine in hand need and give, where thread 0 alone does anything.
use Rattle.std.proofs.Common.{ℕ, ◌≡◌, ◌≢◌, Bool, true, false, refl, sym, ◌∙◌, ap, subst, inl, inr, List, [], Option, Some, None, is_some, option_map, arith, ◌<◌, ◌∷◌, ◌++◌, length, slice_get, if◌then◌else◌}
use Rattle.cy_msg.specs.declared.token.Token.{Token}
use Rattle.cy_msg.specs.declared.token.Tuple.{Tuple}
use Rattle.cy_msg.proofs.Lists.{get_last}
use Rattle.cy_fuse.specs.Laws.{FetchesFind}
use Rattle.cy_comp.specs.declared.call.Call.{Call}
use Rattle.cy_comp.specs.declared.call.Outcome.{Outcome}
use Rattle.cy_comp.specs.Calls.{held_until}
use Rattle.wake_core.specs.Run.{set_at, writes_from, readers_of}
use Rattle.wake_core.specs.Serial.{Raised}
use Rattle.wake_core.specs.Plain.{Plain, hand, State, Ready, DataWait, Phase, Known, Checked, Stopping, Empty, Running, Sending, stops, last_of, unsent_of, played_count}
use Rattle.wake_core.specs.Events.{Ticks, Checks, Tapes, Sends, Yields, Releases, IsNext, OwesNothing, next_call, state_after, after_check, after_tape, after_send, after_ask, after_none, after_fetch, after_yield}
use Rattle.wake_core.specs.Laws as event
use Rattle.wake_core.specs.Sound.{Sound}
use Rattle.wake_core.specs.WorldCalls.{in_hand, phase_sent, MayTape, Taped, IsStepped}
use Rattle.wake_core.specs.Rest.{IsAtRest}
use Rattle.wake_core.specs.Turns.{Delivers, OutputDelivered, PlaysOne, MayPut, IsInHand, Calls, IsCalledFrom, MaySendOut, MayGiveBack, GivesBack, SendsOut, IsNamed, Resumes, Finds, is_held}
use Rattle.wake_core.proofs.Places.{set_at_same, set_at_other}
use Rattle.wake_core.proofs.Playing.{plays_by, idle_by}
use Rattle.wake_core.proofs.Taping.{send_written}
use Rattle.wake_core.proofs.Sending.{delivered_by}
use Rattle.wake_core.proofs.Resuming.{held_resumes, none_resumes}
use Rattle.wake_core.proofs.Called.{called_by, called_quiet, called_sent}
use Rattle.wake_core.proofs.Taking.{takes_hand, passes_rest}
use Rattle.wake_core.proofs.Handing.{in_hand_is}

-- The channel of a message on the tape is known.
tape_known : (t : Token) (tape : List Token) (n : Plain) → n.tape ≡ tape ++ t ∷ [] → Sound n → t.channel < length n.counts
tape_known t tape n is s = s.consistent.room.channels (length tape) t (ap (λ l. slice_get l (length tape)) is ∙ get_last tape t)

-- The next message may be played.
module _ (t : Token) (w m : Plain) (rest : IsAtRest w) (may : MayPut t w) (tick : Ticks t.time w m) where
  next_on : IsNext t m
  next_on = subst (IsNext t) (sym tick.effect) record { unwritten = may.next.unwritten; next = may.next.next; within = may.next.within }

  play_tapes : Tapes t m (after_tape 0 t m)
  play_tapes = record {
    owes = subst (OwesNothing 0) (sym tick.effect) record { filled = (rest 0).owes.filled; looked = (rest 0).owes.looked; cleared = (rest 0).owes.cleared };
    raised = λ s given all. ap (λ (x : Plain). x.raised) tick.effect ∙ may.raised s (sym (ap (λ (x : Plain). x.stop) tick.effect) ∙ given) (sym (ap played_count tick.effect) ∙ all);
    next = next_on;
    now = sym (ap (λ (x : Plain). x.clock) tick.effect);
    effect = refl;
  }

  pub play_may : MayTape 0 t m
  play_may = record { player = λ none. refl; played = λ none. play_tapes; sent = λ some. absurd (some next_on.unwritten) }

  pub play_stepped : (to_step : ℕ → Option Tuple) → writes_from 0 m.routes t.channel ≢ None → IsStepped 0 m to_step
  play_stepped to_step some = absurd (some next_on.unwritten)

  module _ (n : Plain) (taped : Taped 0 t m n) where
    play_taped : Tapes t m n
    play_taped = taped.played next_on.unwritten

    pub play_token : n.tokens 0 ≡ t
    play_token = ap (λ (x : Plain). x.tokens 0) play_taped.effect ∙ set_at_same 0 t m.tokens

    pub play_looked : n.news 0 ≡ []
    play_looked = ap (λ (x : Plain). x.news 0) play_taped.effect ∙ play_tapes.owes.looked

    pub play_cleared : n.clearing 0 ≡ []
    play_cleared = ap (λ (x : Plain). x.clearing 0) play_taped.effect ∙ play_tapes.owes.cleared

    pub play_all : n.fills 0 ≡ readers_of n.routes t.channel
    play_all = ap (λ (x : Plain). x.fills 0) play_taped.effect ∙ set_at_same 0 (readers_of m.routes t.channel) m.fills
        ∙ ap (λ (x : Plain). readers_of x.routes t.channel) (sym play_taped.effect)

    pub play_known : Sound n → t.channel < length n.counts
    play_known = tape_known t m.tape n (ap (λ (x : Plain). x.tape) play_taped.effect)

    pub play_plays : (v : Plain) → Delivers 0 n v → PlaysOne t w v
    play_plays v d = plays_by t w m n v rest tick play_taped d

-- An output of the croutine in hand may be sent.
module _ (t : Token) (w : Plain) (may : MaySendOut t w) (s : Sound w) where
  out_written : writes_from 0 w.routes t.channel ≡ Some (in_hand 0 w)
  out_written = send_written w (in_hand 0 w) t may.sends.unsent s.consistent.wired

  some_none : (n : ℕ) → Some n ≡ None → ⊥
  some_none n e = cc

  written : writes_from 0 w.routes t.channel ≢ None
  written e = some_none (in_hand 0 w) (sym out_written ∙ e)

  pub send_may : MayTape 0 t w
  send_may = record { player = λ none. refl; played = λ none. absurd (written none); sent = λ some. may.sends }

  module _ (m : Plain) (taped : Taped 0 t w m) where
    send_taped : Sends 0 (in_hand 0 w) (phase_sent (w.hands 0)) t w m
    send_taped = taped.sent written

    pub send_token : m.tokens 0 ≡ t
    send_token = ap (λ (x : Plain). x.tokens 0) send_taped.effect ∙ set_at_same 0 t w.tokens

    pub send_looked : m.news 0 ≡ []
    send_looked = ap (λ (x : Plain). x.news 0) send_taped.effect ∙ send_taped.owes.looked

    pub send_cleared : m.clearing 0 ≡ []
    send_cleared = ap (λ (x : Plain). x.clearing 0) send_taped.effect ∙ send_taped.owes.cleared

    pub send_all : m.fills 0 ≡ readers_of m.routes t.channel
    send_all = ap (λ (x : Plain). x.fills 0) send_taped.effect ∙ set_at_same 0 (readers_of w.routes t.channel) w.fills
        ∙ ap (λ (x : Plain). readers_of x.routes t.channel) (sym send_taped.effect)

    pub send_known : Sound m → t.channel < length m.counts
    send_known = tape_known t w.tape m (ap (λ (x : Plain). x.tape) send_taped.effect)

    pub send_delivered : (v : Plain) → Delivers 0 m v → OutputDelivered (in_hand 0 w) (phase_sent (w.hands 0)) t w v
    send_delivered v d = delivered_by (in_hand 0 w) (phase_sent (w.hands 0)) t w m v may.alone s.consistent send_taped d

-- One in hand in another phase than Running is not to be stepped.
pub other_stepped : (c : ℕ) (f : Phase) (w : Plain) (to_step : ℕ → Option Tuple) → w.hands 0 ≡ hand c f → f ≢ Running → IsStepped 0 w to_step
other_stepped c f w to_step held other running = absurd (other (phase_of (sym held ∙ running)))
  where
    phase_of : {n : ℕ} → hand c f ≡ hand n Running → f ≡ Running
    phase_of e = grind (arith, e)

pub here_stepped : (c : ℕ) (f : Phase) (w : Plain) (to_step : ℕ → Option Tuple) → w.hands 0 ≡ hand c f → to_step c ≡ None → IsStepped 0 w to_step
here_stepped c f w to_step held none running = ap to_step (in_hand_is c f w held) ∙ none

-- A held output.
module _ (c : ℕ) (t : Token) (w : Plain) (h : IsInHand c Checked w) (ready : w.states c ≡ Ready) (calm : stops w.stop w.raised c ≡ false) (unsent : unsent_of w c ≡ Some t) where
  known_sends : phase_sent (w.hands 0) ≡ Sending
  known_sends = ap phase_sent h.held

  it : in_hand 0 w ≡ c
  it = in_hand_is c Checked w h.held

  pub held_may : MaySendOut t w
  held_may = record {
    alone = h.alone;
    sends = subst (λ n. Sends 0 n (phase_sent (w.hands 0)) t w (after_send 0 n (phase_sent (w.hands 0)) t w)) (sym it)
        record { owes = h.owes; held = inr (inl (h.held, known_sends)); unsent = unsent; effect = refl };
  }

  pub held_stepped : (to_step : ℕ → Option Tuple) → IsStepped 0 w to_step
  held_stepped to_step = other_stepped c Checked w to_step h.held (λ e. cc)

  module _ (m : Plain) (d : OutputDelivered (in_hand 0 w) (phase_sent (w.hands 0)) t w m) where
    held_sent : OutputDelivered c Sending t w m
    held_sent = subst (λ f. OutputDelivered c f t w m) known_sends (subst (λ n. OutputDelivered n (phase_sent (w.hands 0)) t w m) it d)

    sent_it : in_hand 0 m ≡ c
    sent_it = in_hand_is c Sending m held_sent.in_hand.held

    pub sent_may : MayGiveBack Ready m
    sent_may = subst (λ n. Yields 0 n Ready m (after_yield 0 n Ready m)) (sym sent_it)
        record { owes = held_sent.in_hand.owes; held = inr (inr (inl (held_sent.in_hand.held, refl, held_sent.all))); effect = refl }

    pub sent_stepped : (to_step : ℕ → Option Tuple) → IsStepped 0 m to_step
    sent_stepped to_step = other_stepped c Sending m to_step held_sent.in_hand.held (λ e. cc)

    pub held_back_resumes : (v : Plain) → Sound w → GivesBack Ready m v → Resumes c w v
    held_back_resumes v s g = held_resumes c t w m g.between v h s ready calm unsent held_sent
        (subst (λ n. Yields 0 n Ready m g.between) sent_it g.yields)
        (subst (λ n. Releases 0 n g.between v) sent_it g.releases)

-- A call whose fetch found nothing.
module _ (c : ℕ) (w v : Plain) (h : IsInHand c Checked w) (calm : stops w.stop w.raised c ≡ false) (k : Calls c None w v) where
  none_call : next_call k.between c ≡ None
  none_call = by (next_call k.between c) k.found
    where
      by : (o : Option Call) → false ≡ is_some o → o ≡ None
      by None e = refl
      by (Some x) e = cc

  nothing_is : v ≡ after_none 0 c (after_ask 0 c w)
  nothing_is = k.fetches.effect ∙ ap (λ (o : Option Call). after_fetch 0 c o k.between) none_call ∙ ap (after_none 0 c) k.asks.effect

  nothing_held : v.hands 0 ≡ hand c Empty
  nothing_held = ap (λ (x : Plain). x.hands 0) nothing_is ∙ set_at_same 0 (hand c Empty) (after_ask 0 c w).hands

  nothing_it : in_hand 0 v ≡ c
  nothing_it = in_hand_is c Empty v nothing_held

  pub nothing_may : MayGiveBack DataWait v
  nothing_may = subst (λ n. Yields 0 n DataWait v (after_yield 0 n DataWait v)) (sym nothing_it) record {
    owes = record {
      filled = ap (λ (x : Plain). x.fills 0) nothing_is ∙ h.owes.filled;
      looked = ap (λ (x : Plain). x.news 0) nothing_is ∙ h.owes.looked;
      cleared = ap (λ (x : Plain). x.clearing 0) nothing_is ∙ h.owes.cleared;
    };
    held = inl (nothing_held, refl);
    effect = refl;
  }

  pub nothing_stepped : (to_step : ℕ → Option Tuple) → IsStepped 0 v to_step
  nothing_stepped to_step = other_stepped c Empty v to_step nothing_held (λ e. cc)

  pub nothing_resumes : (o : Plain) → GivesBack DataWait v o → Resumes c w o
  nothing_resumes o g = none_resumes c w k.between v g.between o h calm k.asks k.fetches none_call
      (subst (λ n. Yields 0 n DataWait v g.between) nothing_it g.yields)
      (subst (λ n. Releases 0 n g.between o) nothing_it g.releases)

-- A call that was made.
module _ (c : ℕ) (outcome : Outcome) (w v : Plain) (h : IsInHand c Checked w) (ready : w.states c ≡ Ready) (calm : stops w.stop w.raised c ≡ false) (s : Sound w) (k : Calls c (Some outcome) w v) where
  pub some_call : (x : Call) × (next_call k.between c ≡ Some x)
  some_call = by (next_call k.between c) k.found refl
    where
      by : (o : Option Call) → true ≡ is_some o → next_call k.between c ≡ o → (x : Call) × (next_call k.between c ≡ Some x)
      by None e is = cc
      by (Some x) e is = (x, is)

  pub made_called : IsCalledFrom c some_call.0 w v
  made_called = record {
    before = h;
    sound = s;
    ready = ready;
    unstopped = calm;
    called = called_by c some_call.0 w k.between v h k.asks k.fetches some_call.1;
  }

  pub made_in_hand : IsInHand c Running v
  made_in_hand = made_called.called.in_hand

  pub made_last : last_of v.routes v.calls c ≡ Some outcome
  made_last = k.outcome outcome refl

-- What follows a call.
module _ (c : ℕ) (w : Plain) (h : IsInHand c Running w) (outcome : Outcome) (last : last_of w.routes w.calls c ≡ Some outcome) where
  running_it : in_hand 0 w ≡ c
  running_it = in_hand_is c Running w h.held

  running_sends : phase_sent (w.hands 0) ≡ Running
  running_sends = ap phase_sent h.held

  -- Its output is held back.
  pub holds_out : (answer : Bool) → answer ≡ is_held (held_until (Some outcome)) → answer ≡ true → SendsOut c w w
  holds_out answer says is = record { turn = inl (refl, λ none. absurd (true_false (sym is ∙ says ∙ ap is_held (sym (ap held_until last) ∙ none)))) }
    where
      true_false : true ≡ false → ⊥
      true_false e = cc

  -- It isn't, and there is none, ..
  pub none_out : unsent_of w c ≡ None → SendsOut c w w
  none_out none = record { turn = inl (refl, λ e. none) }

  -- .. or there is one.
  module _ (answer : Bool) (says : answer ≡ is_held (held_until (Some outcome))) (isnt : answer ≡ false) (t : Token) (unsent : unsent_of w c ≡ Some t) where
    none_held_back : held_until (last_of w.routes w.calls c) ≡ None
    none_held_back = ap held_until last ∙ by (held_until (Some outcome)) (sym says ∙ isnt)
      where
        by : (o : Option ℕ) → is_held o ≡ false → o ≡ None
        by None e = refl
        by (Some n) e = cc

    pub out_may : MaySendOut t w
    out_may = record {
      alone = h.alone;
      sends = subst (λ n. Sends 0 n (phase_sent (w.hands 0)) t w (after_send 0 n (phase_sent (w.hands 0)) t w)) (sym running_it)
          record { owes = h.owes; held = inl (h.held, none_held_back, running_sends); unsent = unsent; effect = refl };
    }

    pub out_sent : (v : Plain) → OutputDelivered (in_hand 0 w) (phase_sent (w.hands 0)) t w v → SendsOut c w v
    out_sent v d = record { turn = inr (t, none_held_back, unsent, subst (λ f. OutputDelivered c f t w v) running_sends (subst (λ n. OutputDelivered n (phase_sent (w.hands 0)) t w v) running_it d)) }

  -- It yields as the outcome says.
  module _ (m : Plain) (sends : SendsOut c w m) where
    after_hand : IsInHand c Running m
    after_hand = elim sends.turn [ inl k ↦ subst (IsInHand c Running) (sym k.0) h | inr k ↦ k.3.in_hand ]

    after_last : last_of m.routes m.calls c ≡ Some outcome
    after_last = elim sends.turn [
      | inl k ↦ ap (λ (x : Plain). last_of x.routes x.calls c) k.0 ∙ last
      | inr k ↦ ap (λ (x : Plain). last_of x.routes x.calls c) k.3.same ∙ last
    ]

    after_unsent : held_until (last_of m.routes m.calls c) ≡ None → unsent_of m c ≡ None
    after_unsent e = elim sends.turn [
      | inl k ↦ ap (λ (x : Plain). unsent_of x c) k.0 ∙ k.1 (ap held_until last ∙ sym (ap held_until after_last) ∙ e)
      | inr k ↦ k.3.all
    ]

    after_it : in_hand 0 m ≡ c
    after_it = in_hand_is c Running m after_hand.held

    pub follow_may : (state : State) → state ≡ state_after outcome → MayGiveBack state m
    follow_may state is = subst (λ n. Yields 0 n state m (after_yield 0 n state m)) (sym after_it) record {
      owes = after_hand.owes;
      held = inr (inl (after_hand.held, ap (option_map state_after) after_last ∙ ap (λ s. Some s) (sym is), after_unsent));
      effect = refl;
    }

    pub follow_stepped : (before after : ℕ → Option Tuple) → before c ≡ None → after ≡ before → IsStepped 0 m after
    follow_stepped before after none same = here_stepped c Running m after after_hand.held (ap (λ (f : ℕ → Option Tuple). f c) same ∙ none)

    pub follow_resumes : FetchesFind → (state : State) (v : Plain) → GivesBack state m v → (first : Plain) (x : Call) → IsCalledFrom c x first w → Resumes c first v
    follow_resumes law state v g first x k =
        let yields : Yields 0 c state m g.between = subst (λ n. Yields 0 n state m g.between) after_it g.yields in
        let releases : Releases 0 c g.between v = subst (λ n. Releases 0 n g.between v) after_it g.releases in
        elim sends.turn [
          | inl j ↦ called_quiet c x first w k.before k.sound k.ready k.unstopped k.called law j.1 state g.between v (subst (λ (y : Plain). Yields 0 c state y g.between) j.0 yields) releases
          | inr j ↦ called_sent c x first w k.before k.sound k.ready k.unstopped k.called law j.0 m j.1 j.2 j.3 state g.between v yields releases
        ]

-- What was found is in hand.
pub found_hand : (order : List ℕ) (c : ℕ) (w m : Plain) → IsAtRest w → Finds order c w m → IsInHand c Known m
found_hand order c w m rest f = takes_hand c f.between m (passes_rest f.before w f.between rest f.passes) f.takes

-- After the look for the stop the croutine is in hand in the phase that it gives.
module _ (c : ℕ) (w v : Plain) (h : IsInHand c Known w) (k : Checks 0 (in_hand 0 w) w v) where
  pub looked_it : in_hand 0 w ≡ c
  looked_it = in_hand_is c Known w h.held

  looked : (b : Bool) → stops w.stop w.raised c ≡ b → v ≡ record w { hands = set_at 0 (hand c (if b then Stopping else Checked)) w.hands }
  looked b is = k.effect ∙ ap (λ n. after_check 0 n w) looked_it ∙ ap (λ (a : Bool). record w { hands = set_at 0 (hand c (if a then Stopping else Checked)) w.hands }) is

  pub looked_hand : (b : Bool) → stops w.stop w.raised c ≡ b → IsInHand c (if b then Stopping else Checked) v
  looked_hand b is = subst (IsInHand c (if b then Stopping else Checked)) (sym (looked b is)) record {
    alone = λ q other. idle_by q w (record w { hands = set_at 0 (hand c (if b then Stopping else Checked)) w.hands }) (set_at_other 0 (hand c (if b then Stopping else Checked)) w.hands q other) refl refl refl (h.alone q other);
    held = set_at_same 0 (hand c (if b then Stopping else Checked)) w.hands;
    owes = record { filled = h.owes.filled; looked = h.owes.looked; cleared = h.owes.cleared };
  }

  -- What follows it is what follows.
  pub looked_resumes : (o : Plain) → Resumes c v o → Resumes c w o
  looked_resumes o r = by (subst (λ (x : Plain). Resumes c x o) (looked (stops w.stop w.raised c) refl) r)
    where
      by : Resumes c (record w { hands = set_at 0 (hand c (if stops w.stop w.raised c then Stopping else Checked)) w.hands }) o → Resumes c w o
      by x = record {
        events = event.more (event.check k) r.events;
        rest = x.rest;
        stays = record { routes = x.stays.routes; counts = x.stays.counts; stop = x.stays.stop; closing = x.stays.closing; raised = x.stays.raised; clock = x.stays.clock; played = x.stays.played };
        turn = elim x.turn [
          | inl t ↦ inl record { step = λ stop named. let y = t.step stop (of_name stop named) in record { can = y.can; run = y.run }; left = t.left }
          | inr t ↦ elim t [
            | inl u ↦ inr (inl record { step = λ stop named. let y = u.step stop (of_name stop named) in record { can = y.can; run = y.run }; rests = record { same = u.rests.same; none_held = u.rests.none_held } })
            | inr u ↦ inr (inr record { same = u.same; none_held = u.none_held })
          ]
        ];
        ended = x.ended;
        hears = x.hears;
        keeps = λ n apart. let y = x.keeps n apart in record { more = y.more; heard = y.heard; hears = y.hears; silent = y.silent; went_on = y.went_on; held_none = y.held_none; looser = y.looser };
      }
        where
          of_name : (stop : Option Raised) → IsNamed stop c w → IsNamed stop c (record w { hands = set_at 0 (hand c (if stops w.stop w.raised c then Stopping else Checked)) w.hands })
          of_name None n = n
          of_name (Some r) n = n

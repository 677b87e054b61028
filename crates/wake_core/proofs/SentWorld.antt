-- A message that comes onto the tape of a world, over its fields.
use Rattle.std.proofs.Common.{ℕ, ◌+◌, ◌≡◌, ◌<◌, ◌∷◌, ◌++◌, Bool, true, refl, sym, ◌∙◌, ap, arith, Option, Some, None, is_some, List, [], length, get_or, set, drop, length-append, option_map, vec_capacity}
use Rattle.std.specs.Option.{option_map_or}
use Rattle.cy_msg.specs.declared.token.Token.{Token}
use Rattle.cy_msg.proofs.Lists.{there, get_last}
use Rattle.cy_comp.specs.Calls.{cursor_after}
use Rattle.cy_comp.specs.Routine.{RoutineView}
use Rattle.wake_core.specs.declared.world.World.{World}
use Rattle.wake_core.specs.declared.found.Found.{Found}
use Rattle.wake_core.specs.declared.owed.Owed.{Owed}
use Rattle.wake_core.specs.declared.entries.TheConstants.{MOST_PLANNED}
use Rattle.wake_core.specs.Run.{set_at, readers_of, writes_from, played_of}
use Rattle.wake_core.specs.Plain.{Hand, hand, Ready, Phase, Running, blank}
use Rattle.wake_core.specs.Events.{Tapes, Sends, after_tape, after_send}
use Rattle.wake_core.specs.private.Owing.{HasToFill}
use Rattle.wake_core.specs.WorldOf.{plain_of, to_step}
use Rattle.wake_core.specs.WorldCalls.{phase_sent}
use Rattle.wake_core.specs.Fields.{read, no_visitor, no_routine, IsRoomy}
use Rattle.wake_core.specs.private.Shown.{fills_of, calls_at, IsFlagged, IsStepping, IsWaiting, AreOwing}
use Rattle.wake_core.proofs.Arriving.{planned_messages}
use Rattle.wake_core.proofs.Reading.{read-set, read-set_same, read_is, read_within, hands_set}
use Rattle.wake_core.proofs.Flags.{phase_flags, hand_stepping}
use Rattle.wake_core.proofs.Shown.{calls_stepped, waiting_unsent}
use Rattle.wake_core.proofs.Taping.{message_room, send_room, send_taped, send_written, send_all, played_taped}
use Rattle.wake_core.proofs.Totals.{output_room, message_total}
use Rattle.wake_core.proofs.Timing.{played-own, played-other}
use Rattle.wake_core.proofs.Owing.{owing_set, owed_each}
use Rattle.wake_core.proofs.Sent.{readers_few, taped_few, played_few, sent_owing, fills_sent, news_sent, clearing_sent, tokens_sent, unpended, calls_sent, played_world, sent_world, tapes, sends, played_waiting, sent_waiting, sent_roomy, some_waits}

-- A message that is played.
module _ (s : World) (t : Token) (may : Tapes t (plain_of s) (after_tape 0 t (plain_of s))) where
  pub play_room : length s.tape.items < vec_capacity s.tape
  unfolding plain_of
  play_room = let room = message_total (plain_of s) t may.next s.sound.consistent in omega (arith, room, s.roomy.messages)

  pub play_few : s.played < MOST_PLANNED
  unfolding plain_of
  play_few =
      let room = message_total (plain_of s) t may.next s.sound.consistent in
      omega (arith, room, planned_messages s.fixed.routes.items s.fixed.counts.items, s.fixed.lawful.limited, s.counted, played_few s.fixed.routes.items s.tape.items)

  pub play_known : t.channel < length s.fixed.counts.items
  unfolding plain_of
  play_known = (message_room t (plain_of s) may.next s.sound.consistent).channels (length s.tape.items) t (get_last s.tape.items t)

  pub play_thread : 0 < length s.owed.items
  play_thread = omega (arith, s.sized.owed_fit)

  module _ (count : ℕ) (o n : Owed) (tape : List Token) (at : o ≡ get_or s.owed.items 0 o) (is : HasToFill t count o n) (all : count ≡ length (readers_of s.fixed.routes.items t.channel)) (more : tape ≡ s.tape.items ++ t ∷ []) where
    pub play_event : Tapes t (plain_of s) record (plain_of s) {
      fills = read (fills_of s.fixed.routes.items) [] (set s.owed.items 0 n);
      news = read (λ o. drop o.looked o.news.items) [] (set s.owed.items 0 n);
      clearing = read (λ o. o.clearing.items) [] (set s.owed.items 0 n);
      tokens = read (λ o. o.token) blank (set s.owed.items 0 n);
      tape = tape;
    }
    unfolding plain_of
    play_event = tapes may (played_world (plain_of s) t
        (fills_sent s.fixed.routes.items s.owed.items 0 t count o n play_thread at is all)
        (news_sent s.fixed.routes.items s.owed.items 0 t count o n play_thread at is may.owes.looked)
        (clearing_sent s.fixed.routes.items s.owed.items 0 t count o n play_thread at is)
        (tokens_sent s.fixed.routes.items s.owed.items 0 t count o n play_thread at is)
        more)

    pub play_owing : AreOwing s.fixed.routes.items (set s.owed.items 0 n)
    unfolding plain_of
    play_owing = owing_set 0 n play_thread (sent_owing is all (readers_few t.channel s.fixed.routes.items s.fixed.lawful.few_readers)
        (sym (read_is (λ o. o.clearing.items) [] s.owed.items 0 o play_thread at) ∙ may.owes.cleared) (owed_each 0 o play_thread at s.owing)) s.owing

    pub play_counted : s.played + 1 ≡ length (played_of s.fixed.routes.items tape)
    unfolding plain_of
    play_counted = rw (more, played-own s.fixed.routes.items s.tape.items t may.next.unwritten, length-append (played_of s.fixed.routes.items s.tape.items) (t ∷ [])) (ap (λ n. n + 1) s.counted)

    pub play_waiting : IsWaiting s.fixed.routes.items (read (λ r. r) no_routine s.routines.items) (read (λ f. f) None s.found.items) (read (λ n. n) 0 s.sent.items) tape
    unfolding plain_of
    play_waiting = rw more (played_waiting t (played_taped (plain_of s) t may.next.unwritten) s.waiting)

-- An output that is sent by the holder of its component, which isn't to be stepped.
module _ (s : World) (p : ℕ) (h : Hand) (t : Token) (held : (plain_of s).hands p ≡ Some h) (may : Sends p h.croutine (phase_sent (Some h)) t (plain_of s) (after_send p h.croutine (phase_sent (Some h)) t (plain_of s)))
    (stepped : to_step s h.croutine ≡ None) where
  pub send_known : h.croutine < length s.fixed.routes.items
  unfolding plain_of
  send_known = s.sound.consistent.held.known p h.croutine h.phase held

  pub send_thread : p < length s.hands.items
  unfolding plain_of
  send_thread = read_within (λ h. h) None s.hands.items p (λ none. some_none (sym held ∙ none))
    where
      some_none : Some h ≡ None → ⊥
      some_none e = cc

  pub send_owed : p < length s.owed.items
  send_owed = omega (arith, send_thread, s.sized.hands_fit, s.sized.owed_fit)

  its_found : read (λ f. f) None s.found.items h.croutine ≡ None
  unfolding to_step
  its_found = none_of (read (λ f. f) None s.found.items h.croutine) stepped
    where
      none_of : (o : Option Found) → option_map (λ (f : Found). f.tuple) o ≡ None → o ≡ None
      none_of None e = refl
      none_of (Some f) e = absurd (cc)

  same_calls : (read (λ r. r) no_routine s.routines.items h.croutine).calls ≡ (plain_of s).calls h.croutine
  unfolding plain_of
  same_calls = calls_stepped s.routines.items s.found.items h.croutine (read (λ r. r) no_routine s.routines.items h.croutine) refl its_found

  pub send_waits : is_some (read (λ r. r) no_routine s.routines.items h.croutine).pending ≡ true
  unfolding plain_of
  send_waits =
      let x = there s.fixed.routes.items h.croutine send_known in
      some_waits _ (read (λ r. r) no_routine s.routines.items h.croutine).pending t (sym (waiting_unsent (plain_of s).calls h.croutine x.0 s.waiting x.1 same_calls) ∙ may.unsent)

  pub send_room_left : length s.tape.items < vec_capacity s.tape
  unfolding plain_of
  send_room_left = let room = output_room (plain_of s) h.croutine t may.unsent s.sound.consistent in omega (arith, room, s.roomy.messages)

  pub send_few : read (λ n. n) 0 s.sent.items h.croutine < MOST_PLANNED
  unfolding plain_of
  send_few =
      let room = output_room (plain_of s) h.croutine t may.unsent s.sound.consistent in
      omega (arith, room, planned_messages s.fixed.routes.items s.fixed.counts.items, s.fixed.lawful.limited, s.waiting.counted h.croutine, taped_few s.fixed.routes.items s.tape.items h.croutine)

  pub send_channel : t.channel < length s.fixed.counts.items
  unfolding plain_of
  send_channel = (send_room (plain_of s) h.croutine t may.unsent s.sound.consistent).channels (length s.tape.items) t (get_last s.tape.items t)

  written : writes_from 0 (plain_of s).routes t.channel ≡ Some h.croutine
  unfolding plain_of
  written = send_written (plain_of s) h.croutine t may.unsent s.sound.consistent.wired

  pub send_counted : (tape : List Token) → tape ≡ s.tape.items ++ t ∷ [] → s.played ≡ length (played_of s.fixed.routes.items tape)
  unfolding plain_of
  send_counted tape more = rw (more, played-other s.fixed.routes.items s.tape.items t h.croutine written) s.counted

  module _ (count : ℕ) (o n : Owed) (r routine : RoutineView) (tape : List Token) (new : Hand) (at : o ≡ get_or s.owed.items p o) (is : HasToFill t count o n) (all : count ≡ length (readers_of s.fixed.routes.items t.channel))
      (there_at : r ≡ get_or s.routines.items h.croutine r) (unwaits : routine ≡ unpended r) (more : tape ≡ s.tape.items ++ t ∷ []) (same : new.croutine ≡ h.croutine) (phase : new.phase ≡ phase_sent (Some h)) where
    its_routine : read (λ r. r) no_routine s.routines.items h.croutine ≡ r
    its_routine = read_is (λ r. r) no_routine s.routines.items h.croutine r (omega (arith, send_known, s.sized.routines_fit)) there_at

    pub new_hand : Some new ≡ hand h.croutine (phase_sent (Some h))
    new_hand = ap (λ (c : ℕ). Some record { croutine = c; phase = new.phase }) same ∙ ap (λ (f : Phase). hand h.croutine f) phase

    pub send_hands : read (λ h. h) None (set s.hands.items p (Some new)) ≡ set_at p (hand h.croutine (phase_sent (Some h))) (read (λ h. h) None s.hands.items)
    send_hands = hands_set s.hands.items p (Some new) send_thread ∙ ap (λ (x : Option Hand). set_at p x (read (λ h. h) None s.hands.items)) new_hand

    pub send_event : Sends p h.croutine (phase_sent (Some h)) t (plain_of s) record (plain_of s) {
      states = read (λ r. r.state) Ready (set s.routines.items h.croutine routine);
      cursors = λ k. cursor_after (calls_at (set s.routines.items h.croutine routine) s.found.items k);
      calls = calls_at (set s.routines.items h.croutine routine) s.found.items;
      hands = read (λ h. h) None (set s.hands.items p (Some new));
      fills = read (fills_of s.fixed.routes.items) [] (set s.owed.items p n);
      news = read (λ o. drop o.looked o.news.items) [] (set s.owed.items p n);
      clearing = read (λ o. o.clearing.items) [] (set s.owed.items p n);
      tokens = read (λ o. o.token) blank (set s.owed.items p n);
      tape = tape;
    }
    unfolding plain_of
    send_event = sends may (sent_world (plain_of s) p h.croutine (phase_sent (Some h)) t refl
        (read-set_same (λ r. r.state) Ready s.routines.items h.croutine routine r (ap (λ (r : RoutineView). r.state) unwaits ∙ ap (λ (r : RoutineView). r.state) there_at))
        (calls_sent s.routines.items s.found.items h.croutine r routine (omega (arith, send_known, s.sized.routines_fit)) its_routine unwaits)
        send_hands
        (fills_sent s.fixed.routes.items s.owed.items p t count o n send_owed at is all)
        (news_sent s.fixed.routes.items s.owed.items p t count o n send_owed at is may.owes.looked)
        (clearing_sent s.fixed.routes.items s.owed.items p t count o n send_owed at is)
        (tokens_sent s.fixed.routes.items s.owed.items p t count o n send_owed at is)
        more)

    pub send_owing : AreOwing s.fixed.routes.items (set s.owed.items p n)
    unfolding plain_of
    send_owing = owing_set p n send_owed (sent_owing is all (readers_few t.channel s.fixed.routes.items s.fixed.lawful.few_readers)
        (sym (read_is (λ o. o.clearing.items) [] s.owed.items p o send_owed at) ∙ may.owes.cleared) (owed_each p o send_owed at s.owing)) s.owing

    pub send_flagged : {held_flags : ℕ → Bool} → IsFlagged (length s.fixed.routes.items) held_flags (read (λ h. h) None s.hands.items) → IsFlagged (length s.fixed.routes.items) held_flags (read (λ h. h) None (set s.hands.items p (Some new)))
    unfolding plain_of
    send_flagged f = rw send_hands (phase_flags p h.croutine h.phase (phase_sent (Some h)) held f)

    pub send_stepping : IsStepping (read (λ h. h) None (set s.hands.items p (Some new))) (read (λ f. f) None s.found.items)
    unfolding plain_of
    send_stepping = rw send_hands (hand_stepping p (hand h.croutine (phase_sent (Some h))) (λ c some runs. some (ap (read (λ f. f) None s.found.items) (croutine_of c (sym held ∙ runs)) ∙ its_found)) s.stepping)
      where
        croutine_of : (c : ℕ) → Some h ≡ hand c Running → c ≡ h.croutine
        croutine_of c e = sym (ap (λ (o : Option Hand). option_map_or (λ (h : Hand). h.croutine) o 0) e)

    pub send_waiting : (count_sent : ℕ) → count_sent ≡ get_or s.sent.items h.croutine count_sent
        → IsWaiting s.fixed.routes.items (read (λ r. r) no_routine (set s.routines.items h.croutine routine)) (read (λ f. f) None s.found.items) (read (λ n. n) 0 (set s.sent.items h.croutine (count_sent + 1))) tape
    unfolding plain_of
    send_waiting count_sent sent_at =
        let within : h.croutine < length s.sent.items = omega (arith, send_known, s.sized.sent_fit) in
        rw (
          more,
          read-set (λ r. r) no_routine s.routines.items h.croutine routine (omega (arith, send_known, s.sized.routines_fit)),
          read-set (λ n. n) 0 s.sent.items h.croutine (count_sent + 1) within,
          unwaits,
          sym its_routine,
          sym (read_is (λ n. n) 0 s.sent.items h.croutine count_sent within sent_at),
        ) (sent_waiting (plain_of s).calls h.croutine t (send_taped (plain_of s) h.croutine t may.unsent s.sound.consistent.wired) same_calls may.unsent
        (send_all p h.croutine (phase_sent (Some h)) t (plain_of s) may.held may.unsent s.sound.consistent) s.waiting)

    pub send_roomy : {capacity : ℕ} → capacity ≡ vec_capacity s.tape → IsRoomy s.fixed.routes.items s.fixed.counts.items (read (λ v. v) no_visitor s.visitors.items) (read (λ r. r) no_routine (set s.routines.items h.croutine routine)) capacity
    send_roomy same_room = rw (
      same_room,
      read-set (λ r. r) no_routine s.routines.items h.croutine routine (omega (arith, send_known, s.sized.routines_fit)),
      unwaits,
      sym its_routine,
    ) (sent_roomy h.croutine s.roomy)

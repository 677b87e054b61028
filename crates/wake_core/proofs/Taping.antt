-- What a message that comes onto the tape keeps.
use Rattle.std.proofs.Common.{ℕ, ◌+◌, ◌-◌, take, ◌≡◌, ◌≢◌, ◌≤◌, ◌<◌, ◌⊎◌, true, refl, sym, ◌∙◌, ap, subst, inl, inr, arith, List, [], ◌∷◌, ◌++◌, length, Some, None, Option, slice_get, slice_index, length-append}
use Rattle.std.proofs.lemmas.Option.{slice_get_within, slice_get_past}
use Rattle.cy_msg.specs.declared.token.Token.{Token}
use Rattle.cy_msg.specs.Tokens.{on_channel}
use Rattle.cy_comp.specs.Calls.{outs}
use Rattle.wake_core.specs.Run.{Route, set_at, writes_from}
use Rattle.wake_core.specs.Planned.{planned_count, first_reader}
use Rattle.wake_core.specs.Plain.{Plain, hand, State, Ready, Phase, Woken, Checked, Stopping, Asked, Running, Sending, LastSending, made_of, taped_of, outs_of, unsent_of}
use Rattle.wake_core.specs.Events.{OwesNothing, IsNext, MaySend, after_tape, after_send}
use Rattle.wake_core.specs.Sound.{HeldIn, Consistent, IsWired, Room, state_in, is_ending, is_handing, hands_on}
use Rattle.wake_core.specs.TapeLaws.{IsUnsent}
use Rattle.wake_core.proofs.Places.{set_at_there, set_at_itself}
use Rattle.wake_core.proofs.HeldCalls.{OneTaped, send_running_held, send_held_held, same_taped_held}
use Rattle.wake_core.proofs.Arrived.{on_channel-own, on_channel-other}
use Rattle.wake_core.proofs.Delivering.{handing, hands_its, idle_hand_delivered, tape_delivered}
use Rattle.wake_core.proofs.Standing.{item_stands}
use Rattle.wake_core.proofs.Calling.{tape_causal}
use Rattle.wake_core.proofs.Outputs.{outs_at, outs_few, outs_but_last}
use Rattle.wake_core.proofs.Writers.{unwritten_out, writes_own, planned_root, counted_known}
use Rattle.wake_core.proofs.Rooming.{tape_room}

-- A message of a channel that no component writes is no component's output.
pub played_taped : (w : Plain) (t : Token) → writes_from 0 w.routes t.channel ≡ None → (k : ℕ) → taped_of w.routes (w.tape ++ t ∷ []) k ≡ taped_of w.routes w.tape k
played_taped w t unwritten k = by (slice_get w.routes k) refl
  where
    by : (o : Option Route) → slice_get w.routes k ≡ o → taped_of w.routes (w.tape ++ t ∷ []) k ≡ taped_of w.routes w.tape k
    by None at = rw at refl
    by (Some x) at = rw at (ap length (on_channel-other x.out w.tape t (λ e. unwritten_out w.routes t.channel unwritten k x at (sym e))))

pub tape_in : (t : Token) (w : Plain) → writes_from 0 w.routes t.channel ≡ None → HeldIn w → HeldIn (after_tape 0 t w)
tape_in t w unwritten h = same_taped_held (played_taped w t unwritten) h

pub message_room : (t : Token) (w : Plain) → IsNext t w → Consistent w → Room w.routes w.counts w.calls (w.tape ++ t ∷ [])
message_room t w next s = tape_room t (rw (planned_root w.routes w.counts t.channel next.unwritten) (within t.seq (length (on_channel t.channel w.tape)) (slice_index w.counts t.channel) next.next next.within))
    (counted_known w.counts t.channel (length (on_channel t.channel w.tape)) (within t.seq (length (on_channel t.channel w.tape)) (slice_index w.counts t.channel) next.next next.within)) s.room
  where
    within : (seq n most : ℕ) → seq ≡ n + 1 → seq ≤ most → n + 1 ≤ most
    within seq n most e l = omega arith

pub tape_consistent : (t : Token) (w : Plain) → OwesNothing 0 w → IsNext t w → Consistent w → Consistent (after_tape 0 t w)
tape_consistent t w owes next s = record {
  wired = s.wired;
  held = tape_in t w next.unwritten s.held;
  called = s.called;
  delivered = tape_delivered 0 t owes.filled owes.looked owes.cleared
      (λ q other some same. other (s.delivered.player q some (ap (writes_from 0 w.routes) same ∙ next.unwritten)))
      next.next
      (λ c x at same. absurd (unwritten_out w.routes t.channel next.unwritten c x at (sym same)))
      (λ none. refl)
      (λ c some. absurd (none_some c (sym next.unwritten ∙ some)))
      s.delivered;
  causal = tape_causal t (item_stands s.delivered) s.causal;
  room = message_room t w next s;
}
  where
    none_some : (c : ℕ) → None ≡ Some c → ⊥
    none_some c e = cc

pub unsent_is : (w : Plain) (c : ℕ) (t : Token) → unsent_of w c ≡ Some t → IsUnsent w c t
unsent_is w c t e = by (slice_get w.routes c) refl
  where
    nothing : (n : ℕ) → slice_get [] n ≡ Some t → ⊥
    nothing n e = cc

    by : (o : Option Route) → slice_get w.routes c ≡ o → IsUnsent w c t
    by None at = absurd (nothing 0 (rw at at e))
    by (Some x) at =
        let next : slice_get (outs x.out (w.calls c)) (length (on_channel x.out w.tape)) ≡ Some t = rw at at e in
        let is = outs_at x.out (w.calls c) (length (on_channel x.out w.tape)) t next in
        record { route = x; at = at; next = next; its = is.its; number = is.number }

-- An unsent output leaves room for itself.
pub send_room : (w : Plain) (c : ℕ) (t : Token) → unsent_of w c ≡ Some t → Consistent w → Room w.routes w.counts w.calls (w.tape ++ t ∷ [])
send_room w c t is s =
    let u = unsent_is w c t is in
    tape_room t
    (rw (ap (λ n. length (on_channel n w.tape) + 1) u.its, ap (planned_count w.routes w.counts) u.its, s.wired.planned c u.route u.at) (fits u (s.room.called c u.route u.at)))
    (rw u.its (s.wired.outs_known c u.route u.at)) s.room
  where
    fits : (u : IsUnsent w c t) → length (w.calls c) ≤ planned_count w.routes w.counts (first_reader u.route)
        → length (on_channel u.route.out w.tape) + 1 ≤ planned_count w.routes w.counts (first_reader u.route)
    fits u l = omega (arith, slice_get_within (outs u.route.out (w.calls c)) (length (on_channel u.route.out w.tape)) t u.next, outs_few u.route.out (w.calls c))

-- It is one more of its component's on the tape, and none of another's.
pub send_taped : (w : Plain) (c : ℕ) (t : Token) → unsent_of w c ≡ Some t → IsWired w.routes w.counts → OneTaped c (taped_of w.routes w.tape) (taped_of w.routes (w.tape ++ t ∷ []))
send_taped w c t is wired =
    let u = unsent_is w c t is in
    record {
      one = rw u.at (ap length (on_channel-own u.route.out w.tape t u.its) ∙ length-append (on_channel u.route.out w.tape) (t ∷ []));
      other = λ k apart. by u k apart (slice_get w.routes k) refl;
    }
  where
    by : IsUnsent w c t → (k : ℕ) → k ≢ c → (o : Option Route) → slice_get w.routes k ≡ o → taped_of w.routes (w.tape ++ t ∷ []) k ≡ taped_of w.routes w.tape k
    by u k apart None at = rw at refl
    by u k apart (Some x) at = rw at (ap length (on_channel-other x.out w.tape t (λ e. apart (wired.own_outs k c x u.route at u.at (sym e ∙ u.its)))))

-- Its channel is written by that component.
pub send_written : {counts : List ℕ} (w : Plain) (c : ℕ) (t : Token) → unsent_of w c ≡ Some t → IsWired w.routes counts → writes_from 0 w.routes t.channel ≡ Some c
send_written w c t is wired = let u = unsent_is w c t is in ap (writes_from 0 w.routes) u.its ∙ writes_own wired c u.route u.at

-- One that held its output back, before and after that is sent.
pub record FromHeld (p c : ℕ) (next : Phase) (w : Plain) : Type 0 where
  pub old : Phase
  pub in_hand : w.hands p ≡ hand c old
  pub calm : old ≢ Running
  pub unwatched : (old ≢ Woken) × (old ≢ Asked)
  pub ready : state_in old ≡ Some Ready
  pub next_calm : next ≢ Running
  pub next_ready : (s : State) → state_in next ≡ Some s → Ready ≡ s
  pub handing : is_handing next ≡ true
  pub ending : is_ending next ≡ true → is_ending old ≡ true

pub from_held : (p c : ℕ) (next : Phase) (w : Plain) → ((w.hands p ≡ hand c Checked) × (next ≡ Sending)) ⊎ ((w.hands p ≡ hand c Stopping) × (next ≡ LastSending)) → FromHeld p c next w
from_held p c next w (inl k) = record {
  old = Checked;
  in_hand = k.0;
  calm = λ e. cc;
  unwatched = ((λ e. cc), (λ e. cc));
  ready = refl;
  next_calm = λ e. sending_runs (sym k.1 ∙ e);
  next_ready = λ s e. some_of s (ap state_in (sym k.1) ∙ e);
  handing = ap is_handing k.1;
  ending = λ e. absurd (sending_ends (ap is_ending (sym k.1) ∙ e));
}
  where
    sending_runs : Sending ≡ Running → ⊥
    sending_runs e = cc

    some_of : (s : State) → Some Ready ≡ Some s → Ready ≡ s
    some_of s e = cc

    sending_ends : is_ending Sending ≡ true → ⊥
    sending_ends e = cc
from_held p c next w (inr k) = record {
  old = Stopping;
  in_hand = k.0;
  calm = λ e. cc;
  unwatched = ((λ e. cc), (λ e. cc));
  ready = refl;
  next_calm = λ e. sending_runs (sym k.1 ∙ e);
  next_ready = λ s e. some_of s (ap state_in (sym k.1) ∙ e);
  handing = ap is_handing k.1;
  ending = λ e. refl;
}
  where
    sending_runs : LastSending ≡ Running → ⊥
    sending_runs e = cc

    some_of : (s : State) → Some Ready ≡ Some s → Ready ≡ s
    some_of s e = cc

module _ (p c : ℕ) (next : Phase) (t : Token) (w : Plain) (held : MaySend p c next w) (is : unsent_of w c ≡ Some t) where
  pub unsent_less : taped_of w.routes w.tape c < made_of w.routes w.calls c
  unsent_less = slice_get_within (outs_of w.routes w.calls c) (taped_of w.routes w.tape c) t is

  pub send_in : IsWired w.routes w.counts → HeldIn w → HeldIn (after_send p c next t w)
  send_in wired h = elim held [
    | inl r ↦ let same : w.hands ≡ set_at p (hand c next) w.hands = rw r.2 (sym (ap (λ x. set_at p x w.hands) (sym r.0) ∙ set_at_itself p w.hands)) in
        subst (λ hands. HeldIn (record (after_tape p t w) { hands = hands })) same (send_running_held p c r.0 r.1 unsent_less (send_taped w c t is wired) h)
    | inr k ↦
        let f = from_held p c next w k in
        send_held_held p c f.old next f.in_hand f.calm f.next_calm f.ready f.next_ready (λ e. h.stopping p c f.old f.in_hand (f.ending e)) unsent_less (send_taped w c t is wired) h
  ]

  -- The phase in which the component is in hand.
  its_hand : (f : Phase) × (w.hands p ≡ hand c f)
  its_hand = elim held [ inl r ↦ (Running, r.0) | inr k ↦ ((from_held p c next w k).old, (from_held p c next w k).in_hand) ]

  pub next_hands : is_handing next ≡ true
  next_hands = elim held [ inl r ↦ ap is_handing r.2 | inr k ↦ (from_held p c next w k).handing ]

  pub send_consistent : OwesNothing p w → Consistent w → Consistent (after_send p c next t w)
  send_consistent owes s =
      let u = unsent_is w c t is in
      let written : writes_from 0 w.routes t.channel ≡ Some c = send_written w c t is s.wired in
      let alone : (q : ℕ) → q ≢ p → w.fills q ≢ [] → (w.tokens q).channel ≢ t.channel = λ q other some same.
      let not : (f : Phase) → w.hands q ≡ hand c f → ⊥ = λ f e. other (s.held.one c q p f its_hand.0 e its_hand.1) in
      let its = handing (w.hands q) c (s.delivered.holder q c some (ap (writes_from 0 w.routes) same ∙ written)) in not its.0 its.1 in
      record {
        wired = s.wired;
        held = send_in s.wired s.held;
        called = s.called;
        delivered = tape_delivered p t owes.filled owes.looked owes.cleared alone
            (u.number ∙ ap (λ n. length (on_channel n w.tape) + 1) (sym u.its))
            (λ k x at same. same_output u k x at (s.wired.own_outs k c x u.route at u.at (sym same ∙ u.its)))
            (λ none. absurd (none_some c (sym none ∙ written)))
            (λ k some. ap (λ h. hands_on h k) (set_at_there p (hand c next) w.hands p refl) ∙ ap (hands_on (hand c next)) (sym (one_of (sym written ∙ some))) ∙ hands_its c next next_hands)
            (idle_hand_delivered p (hand c next) owes.filled s.delivered);
        causal = tape_causal t (item_stands s.delivered) s.causal;
        room = send_room w c t is s;
      }
    where
      none_some : (c : ℕ) → None ≡ Some c → ⊥
      none_some c e = cc

      one_of : {m n : ℕ} → Some m ≡ Some n → m ≡ n
      one_of e = cc

      same_output : (u : IsUnsent w c t) (k : ℕ) (x : Route) → slice_get w.routes k ≡ Some x → k ≡ c → slice_get (outs x.out (w.calls k)) (length (on_channel x.out w.tape)) ≡ Some t
      same_output u k x at e =
          let both : Some u.route ≡ Some x = sym u.at ∙ ap (slice_get w.routes) (sym e) ∙ at in
          let same : u.route ≡ x = cc in
          subst (λ (y : Route). slice_get (outs y.out (w.calls k)) (length (on_channel y.out w.tape)) ≡ Some t) same
          (ap (λ n. slice_get (outs u.route.out (w.calls n)) (length (on_channel u.route.out w.tape))) e ∙ u.next)

  -- Then nothing is unsent.
  pub send_all : Consistent w → unsent_of (after_send p c next t w) c ≡ None
  send_all s =
      let u = unsent_is w c t is in
      let one = send_taped w c t is s.wired in
      let few : length (outs u.route.out (w.calls c)) ≤ length (on_channel u.route.out w.tape) + 1 = at_most u (s.delivered.but_last c u.route u.at) in
      let made_few : made_of w.routes w.calls c ≤ taped_of w.routes w.tape c + 1 = rw u.at few in
      ap (slice_get (outs_of w.routes w.calls c)) one.one ∙ slice_get_past (outs_of w.routes w.calls c) (taped_of w.routes w.tape c + 1) made_few
    where
      at_most : (u : IsUnsent w c t) → length (outs u.route.out (take (length (w.calls c) - 1) (w.calls c))) ≤ length (on_channel u.route.out w.tape)
          → length (outs u.route.out (w.calls c)) ≤ length (on_channel u.route.out w.tape) + 1
      at_most u l = omega (arith, l, outs_but_last u.route.out (w.calls c))

-- Who puts a message onto the tape.
use Rattle.std.proofs.Common.{ℕ, ◌≡◌, ◌≢◌, ◌≤◌, refl, sym, ◌∙◌, ap, subst, inl, inr, arith, Option, Some, None, option_map, slice_get}
use Rattle.std.specs.Option.{option_map_or}
use Rattle.cy_msg.specs.declared.token.Token.{Token}
use Rattle.cy_msg.proofs.Lists.{there}
use Rattle.wake_core.specs.declared.world.World.{World}
use Rattle.wake_core.specs.declared.found.Found.{Found}
use Rattle.wake_core.specs.Run.{Route, writes_from}
use Rattle.wake_core.specs.Plain.{Plain, Hand, hand, Phase, Running}
use Rattle.wake_core.specs.Events.{Tapes, Sends, MaySend, after_tape, after_send}
use Rattle.wake_core.specs.WorldOf.{plain_of, to_step}
use Rattle.wake_core.specs.WorldCalls.{in_hand, phase_sent, MayTape, Taped, IsSender, IsStepped}
use Rattle.wake_core.proofs.Reading.{read_within}
use Rattle.wake_core.proofs.HeldLaws.{not_running_of}
use Rattle.wake_core.proofs.Writers.{writes_own}
use Rattle.wake_core.proofs.Taping.{from_held, unsent_is}

none_some : {X : Type 0} {x : X} → None ≡ Some x → ⊥
none_some e = cc

one_of : {X : Type 0} {x y : X} → Some x ≡ Some y → x ≡ y
one_of e = cc

pub no_sender : (w : Plain) (p channel : ℕ) → w.hands p ≡ None → IsSender p channel None w
no_sender w p channel none = record {
  held = λ h e. absurd (none_some e);
  writes = λ h x e. absurd (none_some e);
  others = λ h x e is. absurd (none_some (sym none ∙ is));
}

pub its_sender : (w : Plain) (p channel : ℕ) (h : Hand) → w.hands p ≡ Some h → ((x : Route) → slice_get w.routes h.croutine ≡ Some x → x.out ≡ channel) → IsSender p channel (Some h) w
its_sender w p channel h held own = record {
  held = λ g e. held ∙ e;
  writes = λ g x e at. own x (ap (λ (g : Hand). slice_get w.routes g.croutine) (one_of e) ∙ at);
  others = λ g x e. absurd (none_some (sym e));
}

pub other_sender : (w : Plain) (p channel : ℕ) (h : Hand) → w.hands p ≡ Some h → ((x : Route) → slice_get w.routes h.croutine ≡ Some x → x.out ≢ channel) → IsSender p channel None w
other_sender w p channel h held other = record {
  held = λ g e. absurd (none_some e);
  writes = λ g x e. absurd (none_some e);
  others = λ g x e is at. other x (ap (λ (g : Hand). slice_get w.routes g.croutine) (one_of (sym held ∙ is)) ∙ at);
}

-- An output is in the hand of its component's holder.
abbrev pub SendsAs : (p : ℕ) → Option Hand → Token → Plain → Plain → Type 0
SendsAs p o t w v = Sends p (option_map_or (λ (h : Hand). h.croutine) o 0) (phase_sent o) t w v

holder : (w : Plain) (p c : ℕ) (next : Phase) → MaySend p c next w → (f : Phase) × (w.hands p ≡ hand c f)
holder w p c next may = elim may [ inl r ↦ (Running, r.0) | inr k ↦ let f = from_held p c next w k in (f.old, f.in_hand) ]

module _ (s : World) (p : ℕ) (t : Token) (may : MayTape p t (plain_of s)) where
  pub thread_known : p ≤ 64
  unfolding plain_of
  thread_known = by (writes_from 0 s.fixed.routes.items t.channel) refl
    where
      by : (o : Option ℕ) → writes_from 0 s.fixed.routes.items t.channel ≡ o → p ≤ 64
      by None e = omega (arith, may.player e)
      by (Some c) e =
          let sends = may.sent (λ none. none_some (sym none ∙ e)) in
          let h = holder (plain_of s) p (in_hand p (plain_of s)) (phase_sent ((plain_of s).hands p)) sends.held in
          let within = read_within (λ h. h) None s.hands.items p (λ none. none_some (sym none ∙ h.1)) in
          omega (arith, within, s.sized.hands_fit)

  module _ (h : Hand) (sender : IsSender p t.channel (Some h) (plain_of s)) where
    pub is_written : writes_from 0 (plain_of s).routes t.channel ≢ None
    unfolding plain_of
    is_written none =
        let held = sender.held h refl in
        let x = there s.fixed.routes.items h.croutine (s.sound.consistent.held.known p h.croutine h.phase held) in
        none_some (sym none ∙ ap (writes_from 0 s.fixed.routes.items) (sym (sender.writes h x.0 refl x.1)) ∙ writes_own s.sound.consistent.wired h.croutine x.0 x.1)

    pub may_send : Sends p h.croutine (phase_sent (Some h)) t (plain_of s) (after_send p h.croutine (phase_sent (Some h)) t (plain_of s))
    may_send = subst (λ (o : Option Hand). SendsAs p o t (plain_of s) (after_send p (option_map_or (λ (h : Hand). h.croutine) o 0) (phase_sent o) t (plain_of s))) (sender.held h refl) (may.sent is_written)

    pub sender_stepped : (writes_from 0 (plain_of s).routes t.channel ≢ None → IsStepped p (plain_of s) (to_step s)) → to_step s h.croutine ≡ None
    unfolding plain_of to_step
    sender_stepped stepped = elim may_send.held [
      | inl r ↦
          let same : h.croutine ≡ in_hand p (plain_of s) = ap (λ (o : Option Hand). option_map_or (λ (h : Hand). h.croutine) o 0) (sym (sender.held h refl)) in
          ap (to_step s) same ∙ stepped is_written (r.0 ∙ ap (λ c. hand c Running) same)
      | inr k ↦
          let f = from_held p h.croutine (phase_sent (Some h)) (plain_of s) k in
          ap (option_map (λ (f : Found). f.tuple)) (s.stepping.stepped h.croutine (not_running_of p h.croutine f.old f.in_hand f.calm s.sound.consistent.held))
    ]

    pub taped_sent : (v : Plain) → Sends p h.croutine (phase_sent (Some h)) t (plain_of s) v → Taped p t (plain_of s) v
    taped_sent v sent = record {
      played = λ none. absurd (is_written none);
      sent = λ some. subst (λ (o : Option Hand). SendsAs p o t (plain_of s) v) (sym (sender.held h refl)) sent;
    }

  module _ (sender : IsSender p t.channel None (plain_of s)) where
    is_played : writes_from 0 (plain_of s).routes t.channel ≡ None
    unfolding plain_of
    is_played = by (writes_from 0 s.fixed.routes.items t.channel) refl
      where
        by : (o : Option ℕ) → writes_from 0 s.fixed.routes.items t.channel ≡ o → o ≡ None
        by None e = refl
        by (Some c) e =
            let sends = may.sent (λ none. none_some (sym none ∙ e)) in
            let h = holder (plain_of s) p (in_hand p (plain_of s)) (phase_sent ((plain_of s).hands p)) sends.held in
            let u = unsent_is (plain_of s) (in_hand p (plain_of s)) t sends.unsent in
            absurd (sender.others record { croutine = in_hand p (plain_of s); phase = h.0 } u.route refl h.1 u.at (sym u.its))

    pub may_play : Tapes t (plain_of s) (after_tape 0 t (plain_of s))
    may_play = may.played is_played

    pub taped_played : (v : Plain) → Tapes t (plain_of s) v → Taped p t (plain_of s) v
    taped_played v played = record { played = λ none. played; sent = λ some. absurd (some is_played) }

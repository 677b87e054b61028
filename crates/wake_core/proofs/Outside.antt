-- What is said of numbers that are no component's tells nothing.
use Rattle.std.proofs.Common.{ℕ, zero, suc, ◌-◌, ◌≡◌, ◌≤◌, ◌<◌, ◌⊎◌, true, false, refl, sym, ◌∙◌, ap, ap₂, subst, inl, inr, arith, Option, Some, None, List, [], length, take, slice_get, option_and_then}
use Rattle.std.specs.Option.{option_map_or}
use mathlib.Core.Path.{fun_ext}
use Rattle.std.proofs.lemmas.Option.{slice_get_past, slice_get_within}
use Rattle.cy_msg.specs.declared.token.Token.{Token}
use Rattle.cy_fuse.specs.Fusion.{Arrival, fused}
use Rattle.cy_fuse.specs.Fetch.{fetch}
use Rattle.cy_comp.specs.declared.call.Call.{Call}
use Rattle.cy_comp.specs.declared.call.Outcome.{Outcome}
use Rattle.cy_comp.specs.Calls.{cursor_after, last_outcome, is_last, held_until, outs}
use Rattle.wake_core.specs.Run.{Route}
use Rattle.wake_core.specs.Plain.{Plain, hand, Phase, Ready, DataWait, Sleep, Finished, stops, reads, last_of, made_of, taped_of, tail_at, found_by}
use Rattle.wake_core.specs.Sound.{Held, Called, Delivered, Causal, Room, Wakes, Timely, Obedient, Sound, IsOutput, WasHeld}
use Rattle.wake_core.specs.Laws.{AgreesWithin, SaysNothing}
use Rattle.wake_core.proofs.Delivering.{owes_channel}

none_some : {X : Type 0} {x : X} → None ≡ Some x → ⊥
none_some e = cc

-- A number is a component's, or is none.
abbrev Inside : ℕ → ℕ → Type 0
Inside c n = (c < n) ⊎ (n ≤ c)

side : (c n : ℕ) → Inside c n
side zero zero = inr (omega arith)
side zero (suc n) = inl (omega arith)
side (suc c) zero = inr (omega arith)
side (suc c) (suc n) = elim (side c n) [ inl l ↦ inl (omega arith) | inr l ↦ inr (omega arith) ]

module _ (w v : Plain) (a : AgreesWithin w v) where
  in_range : (c : ℕ) (x : Route) → slice_get w.routes c ≡ Some x → c < length w.routes
  in_range c x at = slice_get_within w.routes c x at

  reads_in : (c j channel : ℕ) → reads w.routes c j ≡ Some channel → c < length w.routes
  reads_in c j channel e = by (slice_get w.routes c) refl e
    where
      by : (o : Option Route) → slice_get w.routes c ≡ o → option_and_then (λ (x : Route). slice_get x.readers j) o ≡ Some channel → c < length w.routes
      by None at e = absurd (none_some e)
      by (Some x) at e = in_range c x at

  last_same : last_of w.routes v.calls ≡ last_of w.routes w.calls
  last_same = fun_ext (λ c. by c (slice_get w.routes c) refl)
    where
      by : (c : ℕ) (o : Option Route) → slice_get w.routes c ≡ o → option_and_then (λ (x : Route). last_outcome x.kind (v.calls c)) o ≡ option_and_then (λ (x : Route). last_outcome x.kind (w.calls c)) o
      by c None at = refl
      by c (Some x) at = ap (last_outcome x.kind) (a.calls c (in_range c x at))

  made_same : made_of w.routes v.calls ≡ made_of w.routes w.calls
  made_same = fun_ext (λ c. ap length (by c (slice_get w.routes c) refl))
    where
      by : (c : ℕ) (o : Option Route) → slice_get w.routes c ≡ o → option_map_or (λ (x : Route). outs x.out (v.calls c)) o [] ≡ option_map_or (λ (x : Route). outs x.out (w.calls c)) o []
      by c None at = refl
      by c (Some x) at = ap (outs x.out) (a.calls c (in_range c x at))

  found_same : (λ c. option_and_then (λ (x : Route). fetch (v.cursors c) (length (fused (v.arrivals c) (length x.readers))) x.queue x.overflow) (slice_get w.routes c)) ≡ found_by w
  found_same = fun_ext (λ c. by c (slice_get w.routes c) refl)
    where
      by : (c : ℕ) (o : Option Route) → slice_get w.routes c ≡ o → option_and_then (λ (x : Route). fetch (v.cursors c) (length (fused (v.arrivals c) (length x.readers))) x.queue x.overflow) o
          ≡ option_and_then (λ (x : Route). fetch (w.cursors c) (length (fused (w.arrivals c) (length x.readers))) x.queue x.overflow) o
      by c None at = refl
      by c (Some x) at = ap₂ (λ (n : ℕ) (l : List Arrival). fetch n (length (fused l (length x.readers))) x.queue x.overflow) (a.cursors c (in_range c x at)) (a.arrivals c (in_range c x at))

  none_last : (c : ℕ) → length w.routes ≤ c → last_of w.routes w.calls c ≡ None
  none_last c out = ap (λ (o : Option Route). option_and_then (λ (x : Route). last_outcome x.kind (w.calls c)) o) (slice_get_past w.routes c out)

  none_made : (c : ℕ) → length w.routes ≤ c → made_of w.routes w.calls c ≡ 0
  none_made c out = ap (λ (o : Option Route). length (option_map_or (λ (x : Route). outs x.out (w.calls c)) o [])) (slice_get_past w.routes c out)

  none_found : (c : ℕ) → length w.routes ≤ c → found_by w c ≡ None
  none_found c out = ap (λ (o : Option Route). option_and_then (λ (x : Route). fetch (w.cursors c) (tail_at x w c) x.queue x.overflow) o) (slice_get_past w.routes c out)

  module _ (bare : SaysNothing (length w.routes) v) where
    false_true : false ≡ true → ⊥
    false_true e = cc

    held : Held (length w.routes) w.hands w.states (last_of w.routes w.calls) (made_of w.routes w.calls) (taped_of w.routes w.tape) (stops w.stop w.raised)
        → Held (length w.routes) w.hands v.states (last_of w.routes w.calls) (made_of w.routes w.calls) (taped_of w.routes w.tape) (stops w.stop w.raised)
    held h = record {
      known = h.known;
      one = h.one;
      phased = λ p c f s e m. a.states c (h.known p c f e) ∙ h.phased p c f s e m;
      stopping = h.stopping;
      sleeps = λ c u e. elim (side c (length w.routes)) [ inl l ↦ h.sleeps c u (sym (a.states c l) ∙ e) | inr o ↦ absurd (never_sleeps u (sym (bare.states c o) ∙ e)) ];
      asleep = λ c u e. elim (side c (length w.routes)) [ inl l ↦ h.asleep c u (sym (a.states c l) ∙ e) | inr o ↦ absurd (never_sleeps u (sym (bare.states c o) ∙ e)) ];
      finished = λ c e. elim (side c (length w.routes)) [ inl l ↦ h.finished c (sym (a.states c l) ∙ e) | inr o ↦ absurd (never_finished (sym (bare.states c o) ∙ e)) ];
      ended = λ c e still. elim (side c (length w.routes)) [ inl l ↦ a.states c l ∙ h.ended c e still | inr o ↦ absurd (false_true (sym (ap is_last (none_last c o)) ∙ e)) ];
      called = h.called;
      holds = h.holds;
      few = h.few;
      held_back = h.held_back;
      resting = λ c l still e. elim (side c (length w.routes)) [ inl i ↦ h.resting c l still (sym (a.states c i) ∙ e) | inr o ↦ never_waits (sym (bare.states c o) ∙ e) ];
      unended = λ c l still e. elim (side c (length w.routes)) [ inl i ↦ h.unended c l still (sym (a.states c i) ∙ e) | inr o ↦ never_finished (sym (bare.states c o) ∙ e) ];
    }
      where
        never_sleeps : (u : ℕ) → Ready ≡ Sleep u → ⊥
        never_sleeps u e = cc

        never_finished : Ready ≡ Finished → ⊥
        never_finished e = cc

        never_waits : Ready ≡ DataWait → ⊥
        never_waits e = cc

    called : Called w.routes w.arrivals w.calls w.cursors → Called w.routes v.arrivals v.calls v.cursors
    called s = record {
      lawful = λ c x at. let l = in_range c x at in rw (a.arrivals c l, a.calls c l) (s.lawful c x at);
      cursor = λ c x at. let l = in_range c x at in a.cursors c l ∙ s.cursor c x at ∙ ap cursor_after (sym (a.calls c l));
    }

    delivered : Delivered w.routes w.hands w.calls w.arrivals w.fills w.news w.clearing w.tokens w.tape → Delivered w.routes w.hands v.calls v.arrivals w.fills w.news w.clearing w.tokens w.tape
    delivered s = record {
      begins = λ c j channel e. rw (a.arrivals c (reads_in c j channel e)) (s.begins c j channel e);
      whole = λ c j channel e filled. rw (a.arrivals c (reads_in c j channel e)) (s.whole c j channel e filled);
      owed = λ p c j e. rw (a.arrivals c (reads_in c j (w.tokens p).channel (owes_channel s p c j e))) (s.owed p c j e);
      known = λ c n m e. elim (side c (length w.routes)) [
        | inl l ↦ s.known c n m (ap (λ (l : List Arrival). slice_get l n) (sym (a.arrivals c l)) ∙ e)
        | inr o ↦ absurd (nothing n m (ap (λ (l : List Arrival). slice_get l n) (sym (bare.arrivals c o)) ∙ e))
      ];
      numbered = s.numbered;
      history = λ c x at. rw (a.calls c (in_range c x at)) (s.history c x at);
      but_last = λ c x at. rw (a.calls c (in_range c x at)) (s.but_last c x at);
      suffix = s.suffix;
      player = s.player;
      holder = s.holder;
      told = s.told;
      looked = s.looked;
    }
      where
        none : List Arrival
        none = []

        nothing : (n : ℕ) (m : Arrival) → slice_get none n ≡ Some m → ⊥
        nothing n m e = none_some (sym (slice_get_past none n (omega arith)) ∙ e)

    output_in : (c : ℕ) (x : Route) (n : ℕ) (call : Call) (t : Token) → c < length w.routes → IsOutput x (v.calls c) n call t → IsOutput x (w.calls c) n call t
    output_in c x n call t l o = subst (λ (cs : List Call). IsOutput x cs n call t) (a.calls c l) o

    causal : Causal w.routes w.arrivals w.calls w.tape → Causal w.routes v.arrivals v.calls w.tape
    causal s = record {
      before = λ c x n call t i at o is k tuple less fuse j m.
          let l = in_range c x at in
          s.before c x n call t i at (output_in c x n call t l o) is k tuple less (ap (λ (ar : List Arrival). slice_get (fused ar (length x.readers)) k) (sym (a.arrivals c l)) ∙ fuse) j m;
      own = λ c x n call at is.
          let l = in_range c x at in
          ap (λ (ar : List Arrival). slice_get (take call.tail (fused ar (length x.readers))) (call.position - 1)) (a.arrivals c l)
          ∙ s.own c x n call at (ap (λ (cs : List Call). slice_get cs n) (sym (a.calls c l)) ∙ is);
    }

    room : Room w.routes w.counts w.calls w.tape → Room w.routes w.counts v.calls w.tape
    room s = record {
      taped = s.taped;
      called = λ c x at. rw (a.calls c (in_range c x at)) (s.called c x at);
      channels = s.channels;
    }

    wakes : Wakes w.hands w.states w.spent (found_by w) w.news w.clearing → Wakes w.hands v.states v.spent (found_by w) w.news w.clearing
    wakes s = record {
      none_lost = λ c spent found unnotified waits unwatched. elim (side c (length w.routes)) [
        | inl l ↦ s.none_lost c (sym (a.spent c l) ∙ spent) found unnotified (sym (a.states c l) ∙ waits) unwatched
        | inr o ↦ found (none_found c o)
      ];
    }

    timely : Timely w.routes w.states w.calls w.tape w.clock → Timely w.routes v.states v.calls w.tape w.clock
    timely s = record {
      rises = s.rises;
      past = s.past;
      awake = λ c u ready less held. elim (side c (length w.routes)) [
        | inl l ↦ s.awake c u (sym (a.states c l) ∙ ready) (subst (λ (f : ℕ → ℕ). taped_of w.routes w.tape c < f c) made_same less) (ap (λ (f : ℕ → Option Outcome). held_until (f c)) (sym last_same) ∙ held)
        | inr o ↦ absurd (none_less (none_made c o) (subst (λ (f : ℕ → ℕ). taped_of w.routes w.tape c < f c) made_same less))
      ];
      over = λ c x n call t i at o was is. let l = in_range c x at in s.over c x n call t i at (output_in c x n call t l o) (subst (λ (cs : List Call). WasHeld x cs n call) (a.calls c l) was) is;
      later = λ c x n call t i at o was is. let l = in_range c x at in s.later c x n call t i at (output_in c x n call t l o) (subst (λ (cs : List Call). WasHeld x cs n call) (a.calls c l) was) is;
    }
      where
        none_less : {m n : ℕ} → n ≡ 0 → m < n → ⊥
        none_less e l = omega (arith, e, l)

    obedient : ((p c : ℕ) (f : Phase) → w.hands p ≡ hand c f → c < length w.routes) → Obedient w.routes w.stop w.raised w.hands w.calls w.tape → Obedient w.routes w.stop w.raised w.hands v.calls w.tape
    obedient known o = record {
      given = o.given;
      few = o.few;
      one = λ s given up l m n x y at_m at_n. o.one s given up l m n x y (called_in s.component l m x at_m) (called_in s.component l n y at_n);
      none_yet = λ s given up p n f x e asks at. o.none_yet s given up p n f x e asks (called_in s.component (known p s.component f e) n x at);
    }
      where
        called_in : (c : ℕ) → c < length w.routes → (n : ℕ) (x : Call) → slice_get (v.calls c) n ≡ Some x → slice_get (w.calls c) n ≡ Some x
        called_in c l n x at = ap (λ (cs : List Call). slice_get cs n) (sym (a.calls c l)) ∙ at

    pub outside_sound : Sound w → Sound v
    outside_sound s = subst Sound (sym a.same) all
      where
        all : Sound record w { states = v.states; spent = v.spent; cursors = v.cursors; calls = v.calls; arrivals = v.arrivals }
        all = record {
          consistent = record {
            wired = s.consistent.wired;
            held = subst (λ (l : ℕ → Option Outcome). Held (length w.routes) w.hands v.states l (made_of w.routes v.calls) (taped_of w.routes w.tape) (stops w.stop w.raised)) (sym last_same)
                (subst (λ (m : ℕ → ℕ). Held (length w.routes) w.hands v.states (last_of w.routes w.calls) m (taped_of w.routes w.tape) (stops w.stop w.raised)) (sym made_same) (held s.consistent.held));
            called = called s.consistent.called;
            delivered = delivered s.consistent.delivered;
            causal = causal s.consistent.causal;
            room = room s.consistent.room;
          };
          wakes = subst (λ (f : ℕ → Option ℕ). Wakes w.hands v.states v.spent f w.news w.clearing) (sym found_same) (wakes s.wakes);
          timely = timely s.timely;
          obedient = obedient s.consistent.held.known s.obedient;
        }

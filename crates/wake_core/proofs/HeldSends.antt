-- Which call's output an unsent one is, and when it may be sent.
use Rattle.std.proofs.Common.{ℕ, ◌+◌, ◌-◌, ◌≡◌, ◌≢◌, ◌≤◌, ◌<◌, refl, sym, ◌∙◌, ap, subst, inl, inr, arith, Some, None, length, take, slice_get, length-append}
use Rattle.std.proofs.lemmas.Option.{slice_get_within}
use Rattle.cy_msg.specs.declared.token.Token.{Token}
use Rattle.cy_msg.proofs.Lists.{take_next}
use Rattle.cy_comp.specs.declared.call.Call.{Call}
use Rattle.cy_comp.specs.declared.call.Out.{Out}
use Rattle.cy_comp.specs.declared.call.Outcome.{Outcome}
use Rattle.cy_comp.specs.declared.call.Outcome.TheVariants.{Emit, Hold, Last}
use Rattle.cy_comp.specs.Step.{outcome_after, out_of}
use Rattle.cy_comp.specs.Calls.{tuples_of, held_until, outs}
use Rattle.wake_core.specs.Run.{Route}
use Rattle.wake_core.specs.Plain.{Plain, Phase, Ready, last_of, unsent_of}
use Rattle.wake_core.specs.Events.{MaySend}
use Rattle.wake_core.specs.Sound.{Consistent, IsOutput, WasHeld, Timely}
use Rattle.wake_core.proofs.Outputs.{put_out, put_out_one, outs_push, outs_take, last_at}
use Rattle.wake_core.specs.TapeLaws.{IsUnsent}
use Rattle.wake_core.proofs.Taping.{unsent_is, unsent_less, from_held}

-- An output that was held back, with its time.
pub record IsHeldTo (outcome : Outcome) (out : Out) : Type 0 where
  pub until : ℕ
  pub is : outcome ≡ Hold until out
  pub held : held_until (Some outcome) ≡ Some until

pub held_to : (outcome : Outcome) (out : Out) → held_until (Some outcome) ≢ None → out_of outcome ≡ Some out → IsHeldTo outcome out
held_to (Emit o) out some e = absurd (some refl)
held_to (Hold until o) out some e = let same : o ≡ out = cc in record { until = until; is = ap (Hold until) same; held = refl }
held_to (Last o) out some e = absurd (some refl)

module _ (w : Plain) (c : ℕ) (t : Token) (is : unsent_of w c ≡ Some t) (s : Consistent w) where
  -- An unsent output is that of the last call.
  last_put : (u : IsUnsent w c t) (n : ℕ) (call : Call) → IsOutput u.route (w.calls c) n call t → n + 1 ≡ length (w.calls c)
  last_put u n call out =
      let inside = slice_get_within (w.calls c) n call out.made in
      let seq : t.seq ≡ length (outs u.route.out (take n (w.calls c))) + 1 = ap (λ (r : Token). r.seq) out.token in
      let more : length (outs u.route.out (take (n + 1) (w.calls c))) ≡ length (outs u.route.out (take n (w.calls c))) + 1 =
      ap (λ l. length (outs u.route.out l)) (take_next (w.calls c) n call out.made)
      ∙ ap length (outs_push u.route.out (take n (w.calls c)) call)
      ∙ length-append (outs u.route.out (take n (w.calls c))) (put_out u.route.out (length (outs u.route.out (take n (w.calls c)))) call.out)
      ∙ ap (λ k. length (outs u.route.out (take n (w.calls c))) + k) (put_out_one u.route.out (length (outs u.route.out (take n (w.calls c)))) call.out out.out out.some) in
      let but = s.delivered.but_last c u.route u.at in
      not_earlier n (length (w.calls c)) inside (λ l.
      let fewer = outs_take u.route.out (w.calls c) (n + 1) (length (w.calls c) - 1) (below n (length (w.calls c)) l) in
      too_many _ _ _ _ _ fewer but more seq u.number)
    where
      below : (n l : ℕ) → n + 1 < l → n + 1 ≤ l - 1
      below n l e = omega arith

      not_earlier : (n l : ℕ) → n < l → (n + 1 < l → ⊥) → n + 1 ≡ l
      not_earlier n l a b = omega (arith, b)

      too_many : (a b d e seq : ℕ) → a ≤ b → b ≤ e → a ≡ d + 1 → seq ≡ d + 1 → seq ≡ e + 1 → ⊥
      too_many a b d e seq p q r x y = omega arith

  -- One that was held back may be sent only when the clock is past its time.
  pub send_past : (p : ℕ) (next : Phase) → MaySend p c next w → Timely w.routes w.states w.calls w.tape w.clock
      → (k : ℕ) (x : Route) (n : ℕ) (call : Call) → slice_get w.routes k ≡ Some x → IsOutput x (w.calls k) n call t → WasHeld x (w.calls k) n call → t.time < w.clock
  send_past p next held timely k x n call at out was =
      let u = unsent_is w c t is in
      let same : c ≡ k = s.wired.own_outs c k u.route x u.at at (sym u.its ∙ ap (λ (r : Token). r.channel) out.token) in
      let route : u.route ≡ x = one_of (sym u.at ∙ ap (slice_get w.routes) same ∙ at) in
      let out' : IsOutput u.route (w.calls c) n call t = subst (λ m. IsOutput u.route (w.calls m) n call t) (sym same) (subst (λ (y : Route). IsOutput y (w.calls k) n call t) (sym route) out) in
      let was' : WasHeld u.route (w.calls c) n call = subst (λ m. WasHeld u.route (w.calls m) n call) (sym same) (subst (λ (y : Route). WasHeld y (w.calls k) n call) (sym route) was) in
      let outcome = outcome_after u.route.kind (tuples_of (take n (w.calls c))) call.tuple in
      let last : last_of w.routes w.calls c ≡ Some outcome = rw u.at (last_at u.route (w.calls c) n call out'.made (last_put u n call out')) in
      let its = held_to outcome out'.out was' (sym ((s.called.lawful c u.route u.at).outputs n call out'.made) ∙ out'.some) in
      let time : t.time ≡ its.until = ap (λ (r : Token). r.time) out'.token ∙ s.wired.held_to_time c u.route (tuples_of (take n (w.calls c))) call.tuple its.until out'.out u.at its.is in
      now outcome its.until last its.held time
    where
      some_none : (n : ℕ) → Some n ≡ None → ⊥
      some_none n e = cc

      one_of : {y z : Route} → Some y ≡ Some z → y ≡ z
      one_of e = cc

      -- The outcome of the last call held the output back until then.
      now : (outcome : Outcome) (until : ℕ) → last_of w.routes w.calls c ≡ Some outcome → held_until (Some outcome) ≡ Some until → t.time ≡ until → t.time < w.clock
      now outcome until last holds time =
          let less = unsent_less p c next t w held is in
          let named : held_until (last_of w.routes w.calls c) ≡ Some until = ap held_until last ∙ holds in
          elim held [
            | inl r ↦ absurd (some_none until (sym named ∙ r.1))
            | inr k ↦
                let f = from_held p c next w k in
                let awake = timely.awake c until (s.held.phased p c f.old Ready f.in_hand f.ready) less named in rw time awake
          ]

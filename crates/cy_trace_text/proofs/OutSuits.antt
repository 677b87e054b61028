-- Where what was played fits 64 bits, so does everything that a sound world has sent and put out.
use Rattle.std.proofs.Common.{ℕ, zero, suc, ◌≡◌, ◌+◌, ◌-◌, ◌≤◌, ◌<◌, List, [], ◌∷◌, length, take, slice_get, Option, Some, None, inl, inr, refl, sym, ap, subst, ◌∙◌, arith}
use Rattle.std.proofs.lemmas.Bool.Decides.{eqb_tells}
use Rattle.std.proofs.lemmas.Option.{same_Some, none-some}
use Rattle.cy_msg.specs.Tokens.{on_channel}
use Rattle.cy_msg.specs.declared.token.Token.{Token}
use Rattle.cy_msg.specs.declared.token.Tuple.{Tuple}
use Rattle.cy_fuse.specs.Fusion.{fused}
use Rattle.cy_comp.specs.declared.call.Call.{Call}
use Rattle.cy_comp.specs.Calls.{tail_after, tuples_of, outs, outs_after, numbered, output}
use Rattle.cy_comp.specs.Laws.{OutcomesAreAnswers}
use Rattle.wake_core.specs.declared.route.Route.{Route}
use Rattle.std.specs.Prelude.{not, is_some}
use Rattle.wake_core.specs.Run.{writes_from, played_of}
use Rattle.wake_core.specs.Plain.{Plain}
use Rattle.wake_core.specs.Sound.{Sound, IsOutput, StandsOn}
use Rattle.wake_core.specs.Bounds.{PlaceLaws}
use Rattle.cy_trace.specs.TraceForm.{IsLong, IsValue}
use Rattle.cy_trace_text.specs.Laws.{Suits}
use Rattle.cy_trace.proofs.OutsMade.{on_each, taken_at, Made, outs_count, outs_made, passing}
use Rattle.cy_trace_text.proofs.StepSuits.{AllSuit, GivenSuit, SuitsOut, outcome_suits}

mapped_at : (calls : List Call) (i : ℕ) (u : Tuple) → slice_get (tuples_of calls) i ≡ Some u → (y : Call) × (slice_get calls i ≡ Some y) × (y.tuple ≡ u)
mapped_at [] i u e = absurd (none-some u e)
mapped_at (y ∷ calls) zero u e = (y, refl, same_Some y.tuple u e)
mapped_at (y ∷ calls) (suc i) u e = mapped_at calls i u e

-- The tail at the last of some calls.
tail_last : (calls : List Call) (m : ℕ) (z : Call) → slice_get calls m ≡ Some z → tail_after (take (suc m) calls) ≡ z.tail
tail_last [] m z e = absurd (none-some z e)
tail_last (x ∷ calls) zero z e = ap (λ (y : Call). y.tail) (same_Some x z e)
tail_last (x ∷ []) (suc m) z e = absurd (none-some z e)
tail_last (x ∷ y ∷ calls) (suc m) z e = tail_last (y ∷ calls) m z e

gone : (calls : List Call) (m : ℕ) (x : Call) → slice_get calls m ≡ None → slice_get calls (suc m) ≡ Some x → ⊥
gone [] m x e at = none-some x at
gone (y ∷ calls) zero x e at = none-some y (sym e)
gone (y ∷ calls) (suc m) x e at = gone calls m x e at

below : (i m : ℕ) → i < suc m → (i ≡ m → ⊥) → i < m
below zero zero l n = absurd (n refl)
below zero (suc m) l n = omega arith
below (suc i) zero l n = absurd (omega (arith, l))
below (suc i) (suc m) l n = let r = below i m (omega (arith, l)) (λ e. n (ap suc e)) in omega (arith, r)

-- Tails never fall.
pub tails_rise : (calls : List Call) → ((n : ℕ) (x : Call) → slice_get calls n ≡ Some x → tail_after (take n calls) ≤ x.tail)
    → (n i : ℕ) (x y : Call) → slice_get calls n ≡ Some x → slice_get calls i ≡ Some y → i < n → y.tail ≤ x.tail
tails_rise calls rise zero i x y at on less = absurd (omega (arith, less))
tails_rise calls rise (suc m) i x y at on less = by (slice_get calls m) refl (tails_rise calls rise m i)
  where
    last : (z : Call) → slice_get calls m ≡ Some z → z.tail ≤ x.tail
    last z is = omega (arith, rise (suc m) x at, tail_last calls m z is)

    by : (o : Option Call) → slice_get calls m ≡ o → ((z w : Call) → slice_get calls m ≡ Some z → slice_get calls i ≡ Some w → i < m → w.tail ≤ z.tail) → y.tail ≤ x.tail
    by None e rest = absurd (gone calls m x e at)
    by (Some z) e rest = elim (eqb_tells i m) [
      | inl h ↦ let same : y ≡ z = same_Some y z (sym on ∙ ap (slice_get calls) h.1 ∙ e) in rw same (last z e)
      | inr h ↦ omega (arith, rest z y e on (below i m less h.1), last z e)
    ]

module _ (answers : OutcomesAreAnswers) (places : PlaceLaws) (w : Plain) (s : Sound w) (played : (n : ℕ) (t : Token) → slice_get (played_of w.routes w.tape) n ≡ Some t → Suits t) (given : (c : ℕ) (x : Route) → slice_get w.routes c ≡ Some x → GivenSuit x.kind) where
  -- A call's output fits where every message does that was fused when it was made.
  call_suits : (c n : ℕ) (x : Route) (call : Call) → slice_get w.routes c ≡ Some x → slice_get (w.calls c) n ≡ Some call
      → ((k : ℕ) (tuple : Tuple) → k < call.tail → slice_get (fused (w.arrivals c) (length x.readers)) k ≡ Some tuple → AllSuit tuple) → SuitsOut call.out
  call_suits c n x call at is all =
      let lawful = s.consistent.called.lawful c x at in
      subst SuitsOut (sym (lawful.outputs n call is)) (outcome_suits answers x.kind (tuples_of (take n (w.calls c))) call.tuple (given c x at) earlier (own n call is (omega arith)))
    where
      own : (i : ℕ) (y : Call) → slice_get (w.calls c) i ≡ Some y → y.tail ≤ call.tail → AllSuit y.tuple
      own i y on less =
          let h = taken_at y.tail (fused (w.arrivals c) (length x.readers)) (y.position - 1) y.tuple (s.consistent.causal.own c x i y at on) in
          all (y.position - 1) y.tuple (omega (arith, h.0, less)) h.1

      earlier : (i : ℕ) (u : Tuple) → slice_get (tuples_of (take n (w.calls c))) i ≡ Some u → AllSuit u
      earlier i u e =
          let y = mapped_at (take n (w.calls c)) i u e in
          let there = taken_at n (w.calls c) i y.0 y.1 in
          subst AllSuit y.2 (own i y.0 there.1 (tails_rise (w.calls c) (s.consistent.called.lawful c x at).tails_rise n i call y.0 is there.1 there.0))

  -- A message on the tape fits where those before it do.
  token_suits : (i : ℕ) (t : Token) → slice_get w.tape i ≡ Some t → ((j : ℕ) (m : Token) → j < i → slice_get w.tape j ≡ Some m → Suits m) → Suits t
  token_suits i t on before = by (writes_from 0 w.routes t.channel) refl
    where
      front : (m : Token) → StandsOn (take i w.tape) m → Suits m
      front m stands = on_each Suits (take i w.tape) (λ n u e. let h = taken_at i w.tape n u e in before n u h.0 h.1) m.channel (m.seq - 1) m stands

      sent : (c : ℕ) (x : Route) → slice_get w.routes c ≡ Some x → x.out ≡ t.channel → Made x.out 0 (w.calls c) t → Suits t
      sent c x at own h =
          let count : 0 + length (outs_after x.out 0 (take h.place (w.calls c))) + 1 ≡ length (outs x.out (take h.place (w.calls c))) + 1 = outs_count x.out (take h.place (w.calls c)) in
          let is : IsOutput x (w.calls c) h.place h.call t = record { made = h.made; out = h.out; some = h.some; token = h.token ∙ ap (λ n. output x.out n h.out) count } in
          let fits = call_suits c h.place x h.call at h.made (λ k tuple less fused j m there. front m (s.consistent.causal.before c x h.place h.call t i at is on k tuple less fused j m there)) in
          let some : IsLong h.out.time × IsValue h.out.whole = subst SuitsOut h.some fits in
          subst Suits (sym h.token) some

      by : (o : Option ℕ) → writes_from 0 w.routes t.channel ≡ o → Suits t
      by None e = let h = passing (λ (u : Token). not (is_some (writes_from 0 w.routes u.channel))) w.tape i t on (ap (λ (o : Option ℕ). not (is_some o)) e) in played h.0 t h.1
      by (Some c) e =
          let writer = places.writer w.routes t.channel c e in
          let x : Route = writer.0 in
          let at : slice_get w.routes c ≡ Some x = writer.1 in
          let writes : x.out ≡ t.channel = writer.2 in
          let stands = places.taped w.tape s.consistent.delivered.numbered i t on in
          let there : slice_get (on_channel x.out w.tape) (t.seq - 1) ≡ Some t = ap (λ n. slice_get (on_channel n w.tape) (t.seq - 1)) writes ∙ stands in
          let made = taken_at (length (on_channel x.out w.tape)) (outs x.out (w.calls c)) (t.seq - 1) t (ap (λ l. slice_get l (t.seq - 1)) (sym (s.consistent.delivered.history c x at)) ∙ there) in
          sent c x at writes (outs_made x.out (w.calls c) (t.seq - 1) t made.1)

  tape_suits : (k i : ℕ) (t : Token) → i < k → slice_get w.tape i ≡ Some t → Suits t
  tape_suits zero i t less on = absurd (omega (arith, less))
  tape_suits (suc k) i t less on = token_suits i t on (λ j m sooner at. tape_suits k j m (omega (arith, sooner, less)) at)

  -- So does all that calls put out.
  pub outs_suit : (c n : ℕ) (x : Route) (call : Call) → slice_get w.routes c ≡ Some x → slice_get (w.calls c) n ≡ Some call → SuitsOut call.out
  outs_suit c n x call at is = call_suits c n x call at is (λ k tuple less there j m on.
      on_each Suits w.tape (λ i t e. tape_suits (suc i) i t (omega arith) e) m.channel (m.seq - 1) m (places.fused_ones w s.consistent c (length x.readers) k tuple there j m on))

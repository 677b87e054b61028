-- A message that is played, with all that its arrival tells.
use Rattle.std.proofs.Common.{ℕ, ◌≡◌, ◌≢◌, Bool, not, refl, sym, ◌∙◌, ap, subst, inl, inr, List, [], ◌∷◌, ◌++◌, Option, Some, None, is_some, slice_get, cond, append-nil}
use Rattle.std.proofs.lemmas.List.Elements.{filter-append}
use mathlib.Core.Path.{fun_ext}
use Rattle.cy_msg.specs.declared.token.Token.{Token}
use Rattle.cy_msg.proofs.Lists.{place}
use Rattle.cy_fuse.specs.Fusion.{Arrival}
use Rattle.cy_comp.specs.declared.call.Call.{Call}
use Rattle.wake_core.specs.Run.{Route, Run, set_at, arrive, readers_of, writes_from, played_of}
use Rattle.wake_core.specs.Serial.{play}
use Rattle.wake_core.specs.Plain.{Plain, State, unsent_of, outs_of}
use Rattle.wake_core.specs.Events.{OwesNothing, Ticks, Tapes, after_tape, is_finished}
use Rattle.wake_core.specs.Laws as event
use Rattle.wake_core.specs.Laws.{IsIdle}
use Rattle.wake_core.specs.Rest.{IsAtRest, run_shown}
use Rattle.wake_core.specs.Turns.{Delivers, PlaysOne, flag_after}
use Rattle.wake_core.proofs.Places.{set_at_same, set_at_there, set_at_other}
use Rattle.wake_core.proofs.Taping.{played_taped}

-- What a world shows is a run where each part of it is, but for what has ended.
pub run_is : (v : Plain) (r : Run) (f : ℕ → Bool) → v.arrivals ≡ r.arrivals → v.calls ≡ r.calls → ((k : ℕ) → is_some (unsent_of v k) ≡ r.unsent k) → v.tape ≡ r.tape → v.clock ≡ r.clock
    → record (run_shown v) { ended = f } ≡ record r { ended = f }
run_is v r f a c u t k =
    ap (λ (x : ℕ → List Arrival). record (run_shown v) { ended = f; arrivals = x }) a
    ∙ ap (λ (x : ℕ → List Call). record (run_shown v) { ended = f; arrivals = r.arrivals; calls = x }) c
    ∙ ap (λ (x : ℕ → Bool). record (run_shown v) { ended = f; arrivals = r.arrivals; calls = r.calls; unsent = x }) (fun_ext u)
    ∙ ap (λ (x : List Token). record r { ended = f; tape = x; clock = v.clock }) t
    ∙ ap (λ (x : ℕ). record r { ended = f; clock = x }) k

-- A state that is stored shows nothing where it says of the end what the one before said.
pub shown_stored : (c : ℕ) (s : State) (w : Plain) → is_finished s ≡ is_finished (w.states c) → run_shown (record w { states = set_at c s w.states }) ≡ run_shown w
shown_stored c s w same = ap (λ (f : ℕ → Bool). record (run_shown w) { ended = f }) (fun_ext by)
  where
    by : (k : ℕ) → is_finished (set_at c s w.states k) ≡ is_finished (w.states k)
    by k = elim (place k c) [
      | inl e ↦ ap is_finished (set_at_there c s w.states k e) ∙ same ∙ ap (λ n. is_finished (w.states n)) (sym e)
      | inr apart ↦ ap is_finished (set_at_other c s w.states k apart)
    ]

-- A thread is idle where it has what an idle one has.
pub idle_by : (q : ℕ) (w v : Plain) → v.hands q ≡ w.hands q → v.fills q ≡ w.fills q → v.news q ≡ w.news q → v.clearing q ≡ w.clearing q → IsIdle q w → IsIdle q v
idle_by q w v h f n c i = record {
  hand = h ∙ i.hand;
  owes = record { filled = f ∙ i.owes.filled; looked = n ∙ i.owes.looked; cleared = c ∙ i.owes.cleared };
}

module _ (p : ℕ) (w v : Plain) (d : Delivers p w v) where
  pub delivered_owes : OwesNothing p v
  delivered_owes = record {
    filled = ap (λ (f : ℕ → List (ℕ × ℕ)). f p) d.fills ∙ set_at_same p [] w.fills;
    looked = ap (λ (f : ℕ → List ℕ). f p) d.news ∙ set_at_same p [] w.news;
    cleared = ap (λ (f : ℕ → List ℕ). f p) d.clearing ∙ set_at_same p [] w.clearing;
  }

  pub delivered_other : (q : ℕ) → q ≢ p → IsIdle q w → IsIdle q v
  delivered_other q other i = idle_by q w v
      (ap (λ (x : Plain). x.hands q) d.same)
      (ap (λ (f : ℕ → List (ℕ × ℕ)). f q) d.fills ∙ set_at_other p [] w.fills q other)
      (ap (λ (f : ℕ → List ℕ). f q) d.news ∙ set_at_other p [] w.news q other)
      (ap (λ (f : ℕ → List ℕ). f q) d.clearing ∙ set_at_other p [] w.clearing q other) i

  -- The message arrives at each reader of its channel.
  pub delivered_arrivals : (t : Token) (m : Plain) → w.fills ≡ set_at p (readers_of m.routes t.channel) m.fills → w.tokens ≡ set_at p t m.tokens → w.arrivals ≡ m.arrivals
      → v.arrivals ≡ arrive (readers_of m.routes t.channel) t m.arrivals
  delivered_arrivals t m f k a =
      d.arrivals
      ∙ ap (λ (l : List (ℕ × ℕ)). arrive l (w.tokens p) w.arrivals) (ap (λ (x : ℕ → List (ℕ × ℕ)). x p) f ∙ set_at_same p (readers_of m.routes t.channel) m.fills)
      ∙ ap (λ (s : Token). arrive (readers_of m.routes t.channel) s w.arrivals) (ap (λ (x : ℕ → Token). x p) k ∙ set_at_same p t m.tokens)
      ∙ ap (arrive (readers_of m.routes t.channel) t) a

is_played : List Route → Token → Bool
is_played routes t = not (is_some (writes_from 0 routes t.channel))

-- A message of a channel that no component writes is one more that was played, ..
pub played_more : (routes : List Route) (tape : List Token) (t : Token) → writes_from 0 routes t.channel ≡ None → played_of routes (tape ++ t ∷ []) ≡ played_of routes tape ++ t ∷ []
played_more routes tape t e =
    filter-append (λ s. not (is_some (writes_from 0 routes s.channel))) tape (t ∷ [])
    ∙ ap (λ (o : Option ℕ). played_of routes tape ++ cond (not (is_some o)) (t ∷ []) []) e

-- .. and an output isn't.
pub played_same : (routes : List Route) (tape : List Token) (t : Token) (c : ℕ) → writes_from 0 routes t.channel ≡ Some c → played_of routes (tape ++ t ∷ []) ≡ played_of routes tape
played_same routes tape t c e =
    filter-append (λ s. not (is_some (writes_from 0 routes s.channel))) tape (t ∷ [])
    ∙ ap (λ (o : Option ℕ). played_of routes tape ++ cond (not (is_some o)) (t ∷ []) []) e
    ∙ append-nil (played_of routes tape)

pub plays_by : (t : Token) (w m n v : Plain) → IsAtRest w → Ticks t.time w m → Tapes t m n → Delivers 0 n v → PlaysOne t w v
plays_by t w m n v rest tick tape d =
    let taped : Plain = after_tape 0 t (record w { clock = t.time }) in
    let is : n ≡ taped = tape.effect ∙ ap (after_tape 0 t) tick.effect in
    let d' : Delivers 0 taped v = subst (λ (x : Plain). Delivers 0 x v) is d in
    let unwritten : writes_from 0 w.routes t.channel ≡ None = ap (λ (x : Plain). writes_from 0 x.routes t.channel) (sym tick.effect) ∙ tape.next.unwritten in
    record {
      events = event.more (event.tick tick) (event.more (event.tape tape) d.events);
      rest = λ q. elim (place q 0) [
        | inl e ↦ record {
          hand = ap (λ (x : Plain). x.hands q) d'.same ∙ (rest q).hand;
          owes = subst (λ k. OwesNothing k v) (sym e) (delivered_owes 0 taped v d');
        }
        | inr e ↦ delivered_other 0 taped v d' q e (idle_by q w taped refl (set_at_other 0 (readers_of w.routes t.channel) w.fills q e) refl refl (rest q))
      ];
      run = ap (λ (x : Plain). record (run_shown v) { ended = λ k. is_finished (x.states k) }) d'.same
          ∙ run_is v (play w.routes t (run_shown w)) (run_shown w).ended
          (delivered_arrivals 0 taped v d' t w refl refl refl)
          (ap (λ (x : Plain). x.calls) d'.same)
          (λ k. ap (λ (x : Plain). is_some (unsent_of x k)) d'.same ∙ ap (λ n. is_some (slice_get (outs_of w.routes w.calls k) n)) (played_taped w t unwritten k))
          (ap (λ (x : Plain). x.tape) d'.same)
          (ap (λ (x : Plain). x.clock) d'.same);
      routes = ap (λ (x : Plain). x.routes) d'.same;
      counts = ap (λ (x : Plain). x.counts) d'.same;
      stop = ap (λ (x : Plain). x.stop) d'.same;
      closing = ap (λ (x : Plain). x.closing) d'.same;
      raised = ap (λ (x : Plain). x.raised) d'.same;
      states = ap (λ (x : Plain). x.states) d'.same;
      unsent = λ k. ap (λ (x : Plain). unsent_of x k) d'.same ∙ ap (slice_get (outs_of w.routes w.calls k)) (played_taped w t unwritten k);
      spent = λ k. d'.spent k ∙ ap (λ (l : List (ℕ × ℕ)). flag_after l w k) (set_at_same 0 (readers_of w.routes t.channel) w.fills);
      played = ap (λ (x : Plain). played_of x.routes x.tape) d'.same ∙ played_more w.routes w.tape t unwritten;
    }

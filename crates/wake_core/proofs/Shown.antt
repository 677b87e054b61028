-- What a world shows of calls that are still to be made, and how a fetch changes it.
use Rattle.std.proofs.Common.{ℕ, ◌+◌, ◌≡◌, ◌≤◌, ◌<◌, refl, sym, ◌∙◌, ap, inl, inr, arith, Option, Some, None, List, [], ◌∷◌, ◌++◌, length, set, slice_get, option_map}
use Rattle.std.proofs.lemmas.Option.{slice_get_past}
use mathlib.Core.Path.{fun_ext}
use Rattle.cy_msg.specs.declared.token.Token.{Token}
use Rattle.cy_msg.proofs.Lists.{place}
use Rattle.cy_comp.specs.declared.call.Call.{Call}
use Rattle.cy_comp.specs.declared.call.Out.{Out}
use Rattle.cy_comp.specs.Calls.{cursor_after, outs, output}
use Rattle.cy_comp.specs.Routine.{RoutineView}
use Rattle.wake_core.specs.declared.found.Found.{Found}
use Rattle.wake_core.specs.Run.{Route, set_at}
use Rattle.wake_core.specs.Plain.{DataWait, Plain, Hand, hand, Asked, Running, taped_of, made_of, outs_of, unsent_of}
use Rattle.wake_core.specs.Sound.{HeldIn}
use Rattle.wake_core.specs.Events.{Fetches, next_call, after_call, after_fetch}
use Rattle.wake_core.specs.Fields.{read, no_routine}
use Rattle.wake_core.specs.private.Shown.{shown_calls, calls_at, IsWaiting, IsStepping}
use Rattle.wake_core.proofs.Places.{set_at_there, set_at_other, set_at_itself}
use Rattle.wake_core.proofs.Reading.{read-set}
use Rattle.wake_core.proofs.HeldLaws.{not_running_of}
use Rattle.wake_core.proofs.Delivering.{phase_of}
use Rattle.wake_core.proofs.Fetching.{cursor_push}

-- What is found for one component changes its calls alone.
pub calls_set : (routines : List RoutineView) (found : List (Option Found)) (c : ℕ) (f : Option Found) → c < length found
    → calls_at routines (set found c f) ≡ set_at c (shown_calls (read (λ r. r) no_routine routines c) f) (calls_at routines found)
calls_set routines found c f lt = fun_ext (λ k. ap (λ (at : ℕ → Option Found). shown_calls (read (λ r. r) no_routine routines k) (at k)) (read-set (λ f. f) None found c f lt) ∙ by k)
  where
    by : (k : ℕ) → shown_calls (read (λ r. r) no_routine routines k) (set_at c f (read (λ f. f) None found) k) ≡ set_at c (shown_calls (read (λ r. r) no_routine routines c) f) (calls_at routines found) k
    by k = elim (place k c) [
      | inl e ↦ ap (shown_calls (read (λ r. r) no_routine routines k)) (set_at_there c f (read (λ f. f) None found) k e) ∙ ap (λ n. shown_calls (read (λ r. r) no_routine routines n) f) e
          ∙ sym (set_at_there c (shown_calls (read (λ r. r) no_routine routines c) f) (calls_at routines found) k e)
      | inr e ↦ ap (shown_calls (read (λ r. r) no_routine routines k)) (set_at_other c f (read (λ f. f) None found) k e) ∙ sym (set_at_other c (shown_calls (read (λ r. r) no_routine routines c) f) (calls_at routines found) k e)
    ]

-- A component that isn't to be stepped has the calls of its routine.
pub calls_stepped : (routines : List RoutineView) (found : List (Option Found)) (c : ℕ) (r : RoutineView) → read (λ r. r) no_routine routines c ≡ r → read (λ f. f) None found c ≡ None → r.calls ≡ calls_at routines found c
calls_stepped routines found c r is none = sym (ap (shown_calls (read (λ r. r) no_routine routines c)) none ∙ ap (λ (r : RoutineView). r.calls) is)

-- A call more of one component.
pub called_world : (w : Plain) (p c : ℕ) (call : Call) {at : ℕ → List Call} {hs : ℕ → Option Hand} → w.cursors ≡ (λ k. cursor_after (w.calls k))
    → at ≡ set_at c (w.calls c ++ call ∷ []) w.calls → hs ≡ set_at p (hand c Running) w.hands
    → record w { cursors = λ k. cursor_after (at k); calls = at; hands = hs } ≡ after_call p c call w
called_world w p c call {at} {hs} cursors calls hands =
    let all = w.calls c ++ call ∷ [] in
    ap (λ (f : ℕ → List Call). record w { cursors = λ k. cursor_after (f k); calls = f; hands = hs }) calls
    ∙ ap (λ (f : ℕ → Option Hand). record w { cursors = λ k. cursor_after (set_at c all w.calls k); calls = set_at c all w.calls; hands = f }) hands
    ∙ ap (λ (f : ℕ → ℕ). record w { cursors = f; calls = set_at c all w.calls; hands = set_at p (hand c Running) w.hands })
    (fun_ext (λ k. by k) ∙ ap (set_at c (call.position + 1)) (sym cursors))
  where
    by : (k : ℕ) → cursor_after (set_at c (w.calls c ++ call ∷ []) w.calls k) ≡ set_at c (call.position + 1) (λ k. cursor_after (w.calls k)) k
    by k = elim (place k c) [
      | inl e ↦ ap cursor_after (set_at_there c (w.calls c ++ call ∷ []) w.calls k e) ∙ cursor_push (w.calls c) call ∙ sym (set_at_there c (call.position + 1) (λ k. cursor_after (w.calls k)) k e)
      | inr e ↦ ap cursor_after (set_at_other c (w.calls c ++ call ∷ []) w.calls k e) ∙ sym (set_at_other c (call.position + 1) (λ k. cursor_after (w.calls k)) k e)
    ]

-- What a fetch comes to.
pub fetches : {p c n : ℕ} {w v : Plain} {o : Option Call} → n ≡ c → w.hands p ≡ hand c Asked → next_call w n ≡ o → v ≡ after_fetch p n o w → Fetches p c w v
fetches {p} {c} {n} {w} {v} {o} e held next effect = record {
  held = held;
  effect = effect ∙ ap (λ (o : Option Call). after_fetch p n o w) (sym next) ∙ ap (λ k. after_fetch p k (next_call w k) w) e;
}

-- Who asks has no unsent output.
pub asked_unsent : (w : Plain) (p c : ℕ) → w.hands p ≡ hand c Asked → HeldIn w → unsent_of w c ≡ None
asked_unsent w p c held h =
    let no = not_running_of p c Asked held (λ e. cc) h in
    slice_get_past (outs_of w.routes w.calls c) (taped_of w.routes w.tape c) (by (λ l. h.resting c l no (h.phased p c Asked DataWait held refl)))
  where
    by : (taped_of w.routes w.tape c < made_of w.routes w.calls c → ⊥) → made_of w.routes w.calls c ≤ taped_of w.routes w.tape c
    by n = omega (arith, n)

-- .. and is not to be stepped.
pub asked_stepped : {found : ℕ → Option Found} (w : Plain) (p c : ℕ) → w.hands p ≡ hand c Asked → HeldIn w → IsStepping w.hands found → found c ≡ None
asked_stepped w p c held h s = s.stepped c (not_running_of p c Asked held (λ e. cc) h)

-- The unsent output of a component that isn't to be stepped is what its routine says waits.
pub waiting_unsent : {routes : List Route} {routines : ℕ → RoutineView} {found : ℕ → Option Found} {sent : ℕ → ℕ} {tape : List Token} (calls : ℕ → List Call) (c : ℕ) (x : Route)
    → IsWaiting routes routines found sent tape → slice_get routes c ≡ Some x → (routines c).calls ≡ calls c
    → slice_get (outs_of routes calls c) (taped_of routes tape c) ≡ option_map (output x.out (sent c + 1)) (routines c).pending
waiting_unsent {routes} {routines} {found} {sent} {tape} calls c x h at same =
    ap (slice_get (outs_of routes calls c)) (sym (h.counted c)) ∙ (rw at (ap (λ (l : List Call). slice_get (outs x.out l) (sent c)) (sym same)) ∙ h.unsent c x at)

none_of : (f : Out → Token) (o : Option Out) → option_map f o ≡ None → o ≡ None
none_of f None e = refl
none_of f (Some x) e = cc

-- Where nothing is unsent, nothing waits.
pub none_waiting : {routes : List Route} {routines : ℕ → RoutineView} {found : ℕ → Option Found} {sent : ℕ → ℕ} {tape : List Token} (calls : ℕ → List Call) (c : ℕ) (x : Route)
    → IsWaiting routes routines found sent tape → slice_get routes c ≡ Some x → (routines c).calls ≡ calls c
    → slice_get (outs_of routes calls c) (taped_of routes tape c) ≡ None → (routines c).pending ≡ None
none_waiting {sent = sent} calls c x h at same none = none_of (output x.out (sent c + 1)) _ (sym (waiting_unsent calls c x h at same) ∙ none)

-- A component is to be stepped, whose routine has no output that waits.
pub found_waiting : {routes : List Route} {routines : ℕ → RoutineView} {found : ℕ → Option Found} {sent : ℕ → ℕ} {tape : List Token} (c : ℕ) (f : Option Found)
    → (routines c).pending ≡ None → IsWaiting routes routines found sent tape → IsWaiting routes routines (set_at c f found) sent tape
found_waiting {routines = routines} {found = found} c f none h = record {
  kinds = h.kinds;
  counted = h.counted;
  unsent = h.unsent;
  none_waits = λ k some. elim (place k c) [
    | inl e ↦ ap (λ n. (routines n).pending) e ∙ none
    | inr e ↦ h.none_waits k (λ is. some (set_at_other c f found k e ∙ is))
  ];
  few = h.few;
}

-- A component is to be stepped, which runs now.
pub found_stepping : {hands : ℕ → Option Hand} {found : ℕ → Option Found} (p c : ℕ) (f : Option Found) → hands p ≡ hand c Asked → IsStepping hands found → IsStepping (set_at p (hand c Running) hands) (set_at c f found)
found_stepping {hands} {found} p c f held h = record {
  stepped = λ k still. elim (place k c) [
    | inl e ↦ absurd (still p (set_at_there p (hand c Running) hands p refl ∙ ap (λ n. hand n Running) (sym e)))
    | inr e ↦ set_at_other c f found k e ∙ h.stepped k (λ q r. elim (place q p) [
      | inl same ↦ asked_running k (sym held ∙ ap hands (sym same) ∙ r)
      | inr other ↦ still q (set_at_other p (hand c Running) hands q other ∙ r)
    ])
  ];
}
  where
    apart : Asked ≡ Running → ⊥
    apart e = cc

    asked_running : (k : ℕ) → hand c Asked ≡ hand k Running → ⊥
    asked_running k e = apart (phase_of c k Asked Running e)

-- The tuple on which a component is still to be stepped.
pub step_set : (found : List (Option Found)) (n c : ℕ) (f : Option Found) → n ≡ c → n < length found
    → (λ k. option_map (λ (f : Found). f.tuple) (read (λ f. f) None (set found n f) k)) ≡ set_at c (option_map (λ (f : Found). f.tuple) f) (λ k. option_map (λ (f : Found). f.tuple) (read (λ f. f) None found k))
step_set found n c f same lt = fun_ext (λ k. ap (λ (at : ℕ → Option Found). option_map (λ (f : Found). f.tuple) (at k)) (read-set (λ f. f) None found n f lt) ∙ elim (place k n) [
  | inl e ↦ ap (option_map (λ (f : Found). f.tuple)) (set_at_there n f (read (λ f. f) None found) k e) ∙ sym (set_at_there c (option_map (λ (f : Found). f.tuple) f) (λ k. option_map (λ (f : Found). f.tuple) (read (λ f. f) None found k)) k (e ∙ same))
  | inr e ↦ ap (option_map (λ (f : Found). f.tuple)) (set_at_other n f (read (λ f. f) None found) k e) ∙ sym (set_at_other c (option_map (λ (f : Found). f.tuple) f) (λ k. option_map (λ (f : Found). f.tuple) (read (λ f. f) None found k)) k (λ is. e (is ∙ sym same)))
])

-- A function that is None at a place is left by a None there.
pub none_there : {X : Type 0} (n c : ℕ) (f : ℕ → Option X) → n ≡ c → f n ≡ None → f ≡ set_at c None f
none_there n c f same none = sym (set_at_itself c f) ∙ ap (λ x. set_at c x f) (ap f (sym same) ∙ none)

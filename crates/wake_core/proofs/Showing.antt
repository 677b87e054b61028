-- What the fields show to readers.
use Rattle.std.proofs.Common.{ℕ, ◌+◌, ◌≡◌, ◌≢◌, ◌≤◌, ◌<◌, refl, sym, ◌∙◌, ap, arith, Option, Some, None, List, [], length, slice_get, map, option_map, option_and_then}
use Rattle.std.specs.Option.{option_map_or}
use Rattle.std.proofs.lemmas.Option.{slice_get_within, slice_get-map, same_Some, none-some}
use Rattle.cy_msg.specs.declared.token.Token.{Token}
use Rattle.cy_msg.specs.Tokens.{on_channel}
use Rattle.cy_msg.proofs.Lists.{get_in}
use Rattle.cy_fuse.specs.Fusion.{Arrival}
use Rattle.cy_comp.specs.declared.call.Call.{Call}
use Rattle.cy_comp.specs.declared.call.Out.{Out}
use Rattle.cy_comp.specs.Calls.{outs, output}
use Rattle.cy_comp.specs.Routine.{RoutineView}
use Rattle.wake_core.specs.declared.found.Found.{Found}
use Rattle.wake_core.specs.declared.entries.TheConstants.{MOST_PLANNED}
use Rattle.wake_core.specs.Run.{Route}
use Rattle.wake_core.specs.Planned.{planned}
use Rattle.wake_core.specs.Plain.{Plain, outs_of, taped_of}
use Rattle.wake_core.specs.Sound.{Sound}
use Rattle.wake_core.specs.WorldCalls.{IsRoutineOf}
use Rattle.wake_core.specs.Fields.{read, no_routine, IsFixed}
use Rattle.wake_core.specs.private.Shown.{shown_calls, calls_at, IsWaiting}
use Rattle.wake_core.proofs.Limits.{count_limit}

-- A component that is stepped shows the calls of its routine.
pub none_found : (o : Option Found) → option_map (λ (f : Found). f.tuple) o ≡ None → o ≡ None
none_found None e = refl
none_found (Some f) e = absurd (cc)

pub calls_stepped : (routines : List RoutineView) (found : List (Option Found)) (c : ℕ) → option_map (λ (f : Found). f.tuple) (read (λ f. f) None found c) ≡ None
    → calls_at routines found c ≡ (read (λ r. r) no_routine routines c).calls
calls_stepped routines found c e = ap (shown_calls (read (λ r. r) no_routine routines c)) (none_found (read (λ f. f) None found c) e)

-- Its unsent output is the one that its routine says waits.
pub unsent_is : (routes : List Route) (calls : ℕ → List Call) {routines : ℕ → RoutineView} {found : ℕ → Option Found} {sent : ℕ → ℕ} (tape : List Token) (c : ℕ) (x : Route) → slice_get routes c ≡ Some x
    → calls c ≡ (routines c).calls → IsWaiting routes routines found sent tape
    → slice_get (outs_of routes calls c) (taped_of routes tape c) ≡ option_map (output x.out (taped_of routes tape c + 1)) (routines c).pending
unsent_is routes calls {routines} {found} {sent} tape c x at is h =
    ap (λ (o : Option Route). slice_get (option_map_or (λ (x : Route). outs x.out (calls c)) o []) (taped_of routes tape c)) at
    ∙ ap (λ (cs : List Call). slice_get (outs x.out cs) (taped_of routes tape c)) is
    ∙ ap (slice_get (outs x.out (routines c).calls)) (sym (h.counted c))
    ∙ h.unsent c x at
    ∙ ap (λ n. option_map (output x.out (n + 1)) (routines c).pending) (h.counted c)

-- There is a component of each number.
pub some_route : (routes : List Route) (c : ℕ) → c < length routes → (X : Type 0) → ((x : Route) → slice_get routes c ≡ Some x → X) → X
some_route routes c l X by = go (slice_get routes c) refl
  where
    go : (o : Option Route) → slice_get routes c ≡ o → X
    go None at = absurd (get_in routes c l at)
    go (Some x) at = by x at

pub unsent_none : (routes : List Route) (calls : ℕ → List Call) {routines : ℕ → RoutineView} {found : ℕ → Option Found} {sent : ℕ → ℕ} (tape : List Token) (c : ℕ) → c < length routes
    → calls c ≡ (routines c).calls → (routines c).pending ≡ None → IsWaiting routes routines found sent tape
    → None ≡ slice_get (outs_of routes calls c) (taped_of routes tape c)
unsent_none routes calls tape c l is none h = some_route routes c l _ (λ x at. sym (unsent_is routes calls tape c x at is h ∙ ap (option_map (output x.out (taped_of routes tape c + 1))) none))

pub unsent_some : (routes : List Route) (calls : ℕ → List Call) {routines : ℕ → RoutineView} {found : ℕ → Option Found} {sent : ℕ → ℕ} (tape : List Token) (c : ℕ) (channel seq : ℕ) (out : Out) (t : Token) → c < length routes
    → calls c ≡ (routines c).calls → (routines c).pending ≡ Some out → ((x : Route) → slice_get routes c ≡ Some x → channel ≡ x.out) → seq ≡ sent c → t ≡ output channel (seq + 1) out
    → IsWaiting routes routines found sent tape
    → Some t ≡ slice_get (outs_of routes calls c) (taped_of routes tape c)
unsent_some routes calls tape c channel seq out t l is some channel_is seq_is t_is h = some_route routes c l _ (λ x at.
    ap Some (t_is ∙ ap (λ k. output k (seq + 1) out) (channel_is x at) ∙ ap (λ n. output x.out (n + 1) out) (seq_is ∙ h.counted c))
    ∙ sym (unsent_is routes calls tape c x at is h ∙ ap (option_map (output x.out (taped_of routes tape c + 1))) some))

-- No component has more outputs on the tape than are planned.
pub sent_limit : (w : Plain) (c sent : ℕ) → c < length w.routes → sent ≡ taped_of w.routes w.tape c → planned w.routes w.counts ≤ MOST_PLANNED → Sound w → sent ≤ MOST_PLANNED
sent_limit w c sent l is limited s = some_route w.routes c l _ (λ x at.
    let taped : taped_of w.routes w.tape c ≡ length (on_channel x.out w.tape) = ap (λ (o : Option Route). length (option_map_or (λ (x : Route). on_channel x.out w.tape) o [])) at in
    let few = s.consistent.room.taped x.out in
    let most = count_limit w.routes w.counts x.out MOST_PLANNED limited (s.consistent.wired.outs_known c x at) in
    omega (arith, is, taped, few, most))

-- What arrived came to one of at most four readers.
pub few_roles : (w : Plain) (c n : ℕ) (a : Arrival) → slice_get (w.arrivals c) n ≡ Some a → IsFixed w.routes w.counts → Sound w → a.0 < 4
few_roles w c n a at fixed s = by (slice_get w.routes c) refl (s.consistent.delivered.known c n a at)
  where
    by : (o : Option Route) → slice_get w.routes c ≡ o → option_and_then (λ (x : Route). slice_get x.readers a.0) o ≢ None → a.0 < 4
    by None at some = absurd (some refl)
    by (Some x) at some = let most = fixed.few_readers c x at in go (slice_get x.readers a.0) refl some most
      where
        go : (o : Option ℕ) → slice_get x.readers a.0 ≡ o → o ≢ None → length x.readers ≤ 4 → a.0 < 4
        go None e some most = absurd (some refl)
        go (Some r) e some most = let within = slice_get_within x.readers a.0 r e in omega (arith, within, most)

-- The same of the numbers of the readers alone.
pub few_mapped : (w : Plain) (c n r : ℕ) → slice_get (map (λ (a : Arrival). a.0) (w.arrivals c)) n ≡ Some r → IsFixed w.routes w.counts → Sound w → r < 4
few_mapped w c n r at fixed s = by (slice_get (w.arrivals c) n) refl (sym (slice_get-map (λ (a : Arrival). a.0) (w.arrivals c) n) ∙ at)
  where
    by : (o : Option Arrival) → slice_get (w.arrivals c) n ≡ o → option_map (λ (a : Arrival). a.0) o ≡ Some r → r < 4
    by None e bad = absurd (none-some r bad)
    by (Some a) e is = let few = few_roles w c n a e fixed s in omega (arith, few, same_Some a.0 r is)

-- The routine that is shown.
pub routine_of : (w : Plain) {found : ℕ → Option Found} {sent : ℕ → ℕ} {routines : ℕ → RoutineView} (c : ℕ) (r : RoutineView) → routines c ≡ r → w.states c ≡ r.state → w.calls c ≡ (routines c).calls
    → IsWaiting w.routes routines found sent w.tape → IsRoutineOf c w r
routine_of w {routines = routines} c r is state calls h = record {
  kind = λ x at. ap (λ (r : RoutineView). r.kind) (sym is) ∙ h.kinds c x at;
  state = sym state;
  calls = sym (calls ∙ ap (λ (r : RoutineView). r.calls) is);
  pending = λ x at. unsent_is w.routes w.calls w.tape c x at calls h ∙ ap (λ (r : RoutineView). option_map (output x.out (taped_of w.routes w.tape c + 1)) r.pending) is;
}

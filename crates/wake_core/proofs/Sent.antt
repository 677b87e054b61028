-- What a message that comes onto the tape changes.
use Rattle.std.proofs.Common.{ℕ, suc, ◌+◌, ◌-◌, ◌*◌, ◌≡◌, ◌≤◌, ◌<◌, ◌==◌, Bool, true, false, cond, refl, sym, ◌∙◌, ap, inl, inr, arith, Option, Some, None, is_some, List, [], ◌∷◌, ◌++◌, length, length-append, get_or, set, slice_get, drop, filter, not, option_map}
use Rattle.std.proofs.lemmas.Option.{slice_get_within}
use Rattle.cy_msg.specs.declared.token.Token.{Token}
use Rattle.cy_fuse.specs.Visitor.{VisitorView}
use Rattle.cy_comp.specs.declared.call.Call.{Call}
use Rattle.cy_comp.specs.declared.call.Out.{Out}
use Rattle.cy_comp.specs.Calls.{cursor_after, outs}
use Rattle.cy_comp.specs.Routine.{RoutineView}
use Rattle.wake_core.specs.declared.owed.Owed.{Owed}
use Rattle.wake_core.specs.declared.found.Found.{Found}
use Rattle.wake_core.specs.Run.{Route, set_at, roles_of, readers_from, readers_of, writes_from, played_of}
use Rattle.wake_core.specs.Plain.{Plain, Hand, hand, State, Phase, blank, taped_of, outs_of}
use Rattle.wake_core.specs.Events.{Tapes, Sends, after_tape, after_send}
use Rattle.wake_core.specs.private.Owing.{HasToFill}
use Rattle.wake_core.specs.Fields.{read, no_routine, IsRoomy}
use Rattle.wake_core.specs.private.Shown.{shown_calls, calls_at, fills_of, IsOwing, IsWaiting}
use Rattle.wake_core.proofs.Places.{set_at_there, set_at_other}
use Rattle.wake_core.proofs.Reading.{read-set, read-set_same, read_is}
use Rattle.wake_core.proofs.HeldCalls.{OneTaped}
use mathlib.Core.Path.{fun_ext}
use Rattle.cy_msg.proofs.Lists.{place}

roles_few : (channel c role : ℕ) (xs : List ℕ) → length (roles_of channel c role xs) ≤ length xs
roles_few channel c role [] = omega arith
roles_few channel c role (r ∷ xs) = by (roles_few channel c (role + 1) xs) (r == channel)
  where
    by : length (roles_of channel c (role + 1) xs) ≤ length xs → (b : Bool) → length (cond b ((c, role) ∷ roles_of channel c (role + 1) xs) (roles_of channel c (role + 1) xs)) ≤ suc (length xs)
    by l true = omega (arith, l)
    by l false = omega (arith, l)

from_few : (channel c : ℕ) (routes : List Route) → ((k : ℕ) (x : Route) → slice_get routes k ≡ Some x → length x.readers ≤ 4) → length (readers_from channel c routes) ≤ 4 * length routes
from_few channel c [] few = omega arith
from_few channel c (x ∷ routes) few =
    let rest = from_few channel (c + 1) routes (λ k y at. few (suc k) y at) in
    omega (arith, rest, roles_few channel c 0 x.readers, few 0 x refl, length-append (roles_of channel c 0 x.readers) (readers_from channel (c + 1) routes))

-- A channel has at most four readers a component.
pub readers_few : (channel : ℕ) (routes : List Route) → ((k : ℕ) (x : Route) → slice_get routes k ≡ Some x → length x.readers ≤ 4) → length (readers_of routes channel) ≤ 4 * length routes
readers_few channel routes few = from_few channel 0 routes few

filter_few : {X : Type 0} (p : X → Bool) (xs : List X) → length (filter p xs) ≤ length xs
filter_few p [] = omega arith
filter_few p (x ∷ xs) = by (filter_few p xs) (p x)
  where
    by : length (filter p xs) ≤ length xs → (b : Bool) → length (cond b (x ∷ filter p xs) (filter p xs)) ≤ suc (length xs)
    by l true = omega (arith, l)
    by l false = omega (arith, l)

-- No more of a component's outputs, and no more played messages, stand on a tape than messages.
pub taped_few : (routes : List Route) (tape : List Token) (c : ℕ) → taped_of routes tape c ≤ length tape
taped_few routes tape c = by (slice_get routes c) refl
  where
    by : (o : Option Route) → slice_get routes c ≡ o → taped_of routes tape c ≤ length tape
    by None at = rw at (omega arith)
    by (Some x) at = rw at (filter_few (λ t. t.channel == x.out) tape)

pub played_few : (routes : List Route) (tape : List Token) → length (played_of routes tape) ≤ length tape
played_few routes tape = filter_few (λ t. not (is_some (writes_from 0 routes t.channel))) tape

-- A thread owes the readers of its message, and nothing else.
pub sent_owing : {routes : List Route} {t : Token} {count : ℕ} {o n : Owed} → HasToFill t count o n → count ≡ length (readers_of routes t.channel) → length (readers_of routes t.channel) ≤ 4 * length routes
    → o.clearing.items ≡ [] → IsOwing routes o → IsOwing routes n
sent_owing {routes} {t} {count} {o} {n} is all few none h = record {
  fills = rw is.token (omega (arith, is.fills, all));
  looked = rw is.looked (omega arith);
  news = rw is.news (omega (arith, is.fills, all, few));
  clearing = rw (is.news, is.clearing, none) (omega (arith, is.fills, all, few));
  news_room = rw is.room h.news_room;
  clearing_room = rw is.clearing h.clearing_room;
}

drop_none : {X : Type 0} (xs : List X) (n : ℕ) → n ≡ length xs → drop (length xs - n) xs ≡ xs
drop_none xs n e = let none : length xs - n ≡ 0 = omega (arith, e) in ap (λ k. drop k xs) none

module _ (routes : List Route) (owed : List Owed) (p : ℕ) (t : Token) (count : ℕ) (o n : Owed) (lt : p < length owed) (at : o ≡ get_or owed p o) (is : HasToFill t count o n) where
  pub fills_sent : count ≡ length (readers_of routes t.channel) → read (fills_of routes) [] (set owed p n) ≡ set_at p (readers_of routes t.channel) (read (fills_of routes) [] owed)
  fills_sent all = read-set (fills_of routes) [] owed p n lt ∙ ap (λ (l : List (ℕ × ℕ)). set_at p l (read (fills_of routes) [] owed))
      (ap (λ (u : Token). drop (length (readers_of routes u.channel) - n.fills) (readers_of routes u.channel)) is.token ∙ drop_none (readers_of routes t.channel) n.fills (is.fills ∙ all))

  pub news_sent : read (λ o. drop o.looked o.news.items) [] owed p ≡ [] → read (λ o. drop o.looked o.news.items) [] (set owed p n) ≡ read (λ o. drop o.looked o.news.items) [] owed
  news_sent none = read-set_same (λ o. drop o.looked o.news.items) [] owed p n o
      (rw (is.looked, is.news) refl ∙ sym none ∙ read_is (λ o. drop o.looked o.news.items) [] owed p o lt at ∙ ap (λ (o : Owed). drop o.looked o.news.items) at)

  pub clearing_sent : read (λ o. o.clearing.items) [] (set owed p n) ≡ read (λ o. o.clearing.items) [] owed
  clearing_sent = read-set_same (λ o. o.clearing.items) [] owed p n o (ap (λ c. c.items) is.clearing ∙ ap (λ (o : Owed). o.clearing.items) at)

  pub tokens_sent : read (λ o. o.token) blank (set owed p n) ≡ set_at p t (read (λ o. o.token) blank owed)
  tokens_sent = read-set (λ o. o.token) blank owed p n lt ∙ ap (λ (u : Token). set_at p u (read (λ o. o.token) blank owed)) is.token

-- The output that waited is sent: the routine is else as it was.
abbrev pub unpended : RoutineView → RoutineView
unpended r = record r { pending = None }

pub shown_unpended : (r : RoutineView) (f : Option Found) → shown_calls (unpended r) f ≡ shown_calls r f
shown_unpended r None = refl
shown_unpended r (Some f) = refl

pub calls_sent : (routines : List RoutineView) (found : List (Option Found)) (c : ℕ) (r new : RoutineView) → c < length routines → read (λ r. r) no_routine routines c ≡ r → new ≡ unpended r
    → calls_at (set routines c new) found ≡ calls_at routines found
calls_sent routines found c r new lt at is = fun_ext (λ k. ap (λ (f : ℕ → RoutineView). shown_calls (f k) (read (λ f. f) None found k)) (read-set (λ r. r) no_routine routines c new lt) ∙ elim (place k c) [
  | inl e ↦ ap (λ (r : RoutineView). shown_calls r (read (λ f. f) None found k)) (set_at_there c new (read (λ r. r) no_routine routines) k e ∙ is) ∙ shown_unpended r (read (λ f. f) None found k)
      ∙ ap (λ (r : RoutineView). shown_calls r (read (λ f. f) None found k)) (sym at ∙ ap (read (λ r. r) no_routine routines) (sym e))
  | inr e ↦ ap (λ (r : RoutineView). shown_calls r (read (λ f. f) None found k)) (set_at_other c new (read (λ r. r) no_routine routines) k e)
])

-- What a world shows after a message came onto the tape.
pub played_world : (w : Plain) (t : Token) {fs : ℕ → List (ℕ × ℕ)} {ns cs : ℕ → List ℕ} {ts : ℕ → Token} {tape : List Token} → fs ≡ set_at 0 (readers_of w.routes t.channel) w.fills → ns ≡ w.news → cs ≡ w.clearing → ts ≡ set_at 0 t w.tokens
    → tape ≡ w.tape ++ t ∷ [] → record w { fills = fs; news = ns; clearing = cs; tokens = ts; tape = tape } ≡ after_tape 0 t w
played_world w t {fs} {ns} {cs} {ts} {tape} f n c k e =
    ap (λ (x : ℕ → List (ℕ × ℕ)). record w { fills = x; news = ns; clearing = cs; tokens = ts; tape = tape }) f
    ∙ ap (λ (x : ℕ → List ℕ). record (after_tape 0 t w) { news = x; clearing = cs; tokens = ts; tape = tape }) n
    ∙ ap (λ (x : ℕ → List ℕ). record (after_tape 0 t w) { clearing = x; tokens = ts; tape = tape }) c
    ∙ ap (λ (x : ℕ → Token). record (after_tape 0 t w) { tokens = x; tape = tape }) k
    ∙ ap (λ (x : List Token). record (after_tape 0 t w) { tape = x }) e

pub sent_world : (w : Plain) (p c : ℕ) (next : Phase) (t : Token) {st : ℕ → State} {at : ℕ → List Call} {hs : ℕ → Option Hand} {fs : ℕ → List (ℕ × ℕ)} {ns cs : ℕ → List ℕ} {ts : ℕ → Token} {tape : List Token}
    → w.cursors ≡ (λ k. cursor_after (w.calls k)) → st ≡ w.states → at ≡ w.calls → hs ≡ set_at p (hand c next) w.hands
    → fs ≡ set_at p (readers_of w.routes t.channel) w.fills → ns ≡ w.news → cs ≡ w.clearing → ts ≡ set_at p t w.tokens → tape ≡ w.tape ++ t ∷ []
    → record w { states = st; cursors = λ k. cursor_after (at k); calls = at; hands = hs; fills = fs; news = ns; clearing = cs; tokens = ts; tape = tape } ≡ after_send p c next t w
sent_world w p c next t {st} {at} {hs} {fs} {ns} {cs} {ts} {tape} cursors s a h f n l k e =
    ap (λ (x : ℕ → State). record w { states = x; cursors = λ k. cursor_after (at k); calls = at; hands = hs; fills = fs; news = ns; clearing = cs; tokens = ts; tape = tape }) s
    ∙ ap (λ (x : ℕ → List Call). record w { cursors = λ k. cursor_after (x k); calls = x; hands = hs; fills = fs; news = ns; clearing = cs; tokens = ts; tape = tape }) a
    ∙ ap (λ (x : ℕ → ℕ). record w { cursors = x; hands = hs; fills = fs; news = ns; clearing = cs; tokens = ts; tape = tape }) (sym cursors)
    ∙ ap (λ (x : ℕ → Option Hand). record w { hands = x; fills = fs; news = ns; clearing = cs; tokens = ts; tape = tape }) h
    ∙ ap (λ (x : ℕ → List (ℕ × ℕ)). record (after_send p c next t w) { fills = x; news = ns; clearing = cs; tokens = ts; tape = tape }) f
    ∙ ap (λ (x : ℕ → List ℕ). record (after_send p c next t w) { news = x; clearing = cs; tokens = ts; tape = tape }) n
    ∙ ap (λ (x : ℕ → List ℕ). record (after_send p c next t w) { clearing = x; tokens = ts; tape = tape }) l
    ∙ ap (λ (x : ℕ → Token). record (after_send p c next t w) { tokens = x; tape = tape }) k
    ∙ ap (λ (x : List Token). record (after_send p c next t w) { tape = x }) e

pub tapes : {t : Token} {w u v : Plain} → Tapes t w u → v ≡ after_tape 0 t w → Tapes t w v
tapes may effect = record { owes = may.owes; raised = may.raised; next = may.next; now = may.now; effect = effect }

pub sends : {p c : ℕ} {next : Phase} {t : Token} {w u v : Plain} → Sends p c next t w u → v ≡ after_send p c next t w → Sends p c next t w v
sends may effect = record { owes = may.owes; held = may.held; unsent = may.unsent; effect = effect }

-- The tape is longer by a message that no component put out.
pub played_waiting : {routes : List Route} {routines : ℕ → RoutineView} {found : ℕ → Option Found} {sent : ℕ → ℕ} {tape : List Token} (t : Token) → ((k : ℕ) → taped_of routes (tape ++ t ∷ []) k ≡ taped_of routes tape k)
    → IsWaiting routes routines found sent tape → IsWaiting routes routines found sent (tape ++ t ∷ [])
played_waiting t same h = record {
  kinds = h.kinds;
  counted = λ k. h.counted k ∙ sym (same k);
  unsent = h.unsent;
  none_waits = h.none_waits;
  few = h.few;
}

-- It is longer by the output of a component that waited, and then none waits.
pub sent_waiting : {routes : List Route} {routines : ℕ → RoutineView} {found : ℕ → Option Found} {sent : ℕ → ℕ} {tape : List Token} (calls : ℕ → List Call) (c : ℕ) (t : Token)
    → OneTaped c (taped_of routes tape) (taped_of routes (tape ++ t ∷ [])) → (routines c).calls ≡ calls c → slice_get (outs_of routes calls c) (taped_of routes tape c) ≡ Some t
    → slice_get (outs_of routes calls c) (taped_of routes (tape ++ t ∷ []) c) ≡ None → IsWaiting routes routines found sent tape
    → IsWaiting routes (set_at c (unpended (routines c)) routines) found (set_at c (sent c + 1) sent) (tape ++ t ∷ [])
sent_waiting {routes} {routines} {found} {sent} {tape} calls c t one same is none h =
    let r : RoutineView = unpended (routines c) in
    record {
      kinds = λ k x at. elim (place k c) [
        | inl e ↦ ap (λ (r : RoutineView). r.kind) (set_at_there c r routines k e) ∙ ap (λ n. (routines n).kind) (sym e) ∙ h.kinds k x at
        | inr e ↦ ap (λ (r : RoutineView). r.kind) (set_at_other c r routines k e) ∙ h.kinds k x at
      ];
      counted = λ k. elim (place k c) [
        | inl e ↦ set_at_there c (sent c + 1) sent k e ∙ ap (λ n. n + 1) (h.counted c) ∙ sym one.one ∙ ap (taped_of routes (tape ++ t ∷ [])) (sym e)
        | inr e ↦ set_at_other c (sent c + 1) sent k e ∙ h.counted k ∙ sym (one.other k e)
      ];
      unsent = λ k x at. elim (place k c) [
        | inl e ↦ rw (e, set_at_there c r routines c refl, set_at_there c (sent c + 1) sent c refl) (last x (ap (slice_get routes) (sym e) ∙ at))
        | inr e ↦ rw (set_at_other c r routines k e, set_at_other c (sent c + 1) sent k e) (h.unsent k x at)
      ];
      none_waits = λ k some. elim (place k c) [
        | inl e ↦ ap (λ (r : RoutineView). r.pending) (set_at_there c r routines k e)
        | inr e ↦ ap (λ (r : RoutineView). r.pending) (set_at_other c r routines k e) ∙ h.none_waits k some
      ];
      few = λ k x at. elim (place k c) [
        | inl e ↦ rw (e, set_at_there c r routines c refl, set_at_there c (sent c + 1) sent c refl) (more x (ap (slice_get routes) (sym e) ∙ at))
        | inr e ↦ rw (set_at_other c r routines k e, set_at_other c (sent c + 1) sent k e) (h.few k x at)
      ];
    }
  where
    its_outs : (x : Route) → slice_get routes c ≡ Some x → outs_of routes calls c ≡ outs x.out (routines c).calls
    its_outs x at = rw at (ap (outs x.out) (sym same))

    last : (x : Route) → slice_get routes c ≡ Some x → slice_get (outs x.out (routines c).calls) (sent c + 1) ≡ None
    last x at = ap (λ (l : List Token). slice_get l (sent c + 1)) (sym (its_outs x at)) ∙ ap (slice_get (outs_of routes calls c)) (ap (λ n. n + 1) (h.counted c) ∙ sym one.one) ∙ none

    more : (x : Route) → slice_get routes c ≡ Some x → sent c + 1 ≤ length (outs x.out (routines c).calls)
    more x at =
        let within = slice_get_within (outs x.out (routines c).calls) (sent c) t (ap (λ (l : List Token). slice_get l (sent c)) (sym (its_outs x at)) ∙ ap (slice_get (outs_of routes calls c)) (h.counted c) ∙ is) in
        omega (arith, within)

pub sent_roomy : {routes : List Route} {counts : List ℕ} {visitors : ℕ → VisitorView} {routines : ℕ → RoutineView} {tape : ℕ} (c : ℕ) → IsRoomy routes counts visitors routines tape
    → IsRoomy routes counts visitors (set_at c (unpended (routines c)) routines) tape
sent_roomy {routes} {counts} {visitors} {routines} {tape} c h = record {
  arrivals = h.arrivals;
  calls = λ k x at. elim (place k c) [
    | inl e ↦ rw (set_at_there c (unpended (routines c)) routines k e) (h.calls c x (ap (slice_get routes) (sym e) ∙ at))
    | inr e ↦ rw (set_at_other c (unpended (routines c)) routines k e) (h.calls k x at)
  ];
  messages = h.messages;
}

-- An output that is unsent waits.
pub some_waits : (f : Out → Token) (o : Option Out) (t : Token) → option_map f o ≡ Some t → is_some o ≡ true
some_waits f None t e = cc
some_waits f (Some x) t e = refl

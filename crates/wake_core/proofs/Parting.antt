-- What the parts of a world show, and the world that is put together of parts.
use Rattle.std.proofs.Common.{ℕ, zero, suc, ◌+◌, ◌-◌, ◌≡◌, ◌≤◌, ◌<◌, ◌⊎◌, ◌==◌, ◌||◌, Bool, true, false, refl, sym, ◌∙◌, ap, subst, inl, inr, arith, Option, Some, None, List, [], ◌∷◌, length, map, filter, drop, replicate, cond, is_some, slice_get, option_map, vec_capacity}
use Rattle.std.specs.Option.{option_map_or}
use Rattle.std.specs.List.{list_any}
use mathlib.Core.Path.{fun_ext}
use Rattle.std.proofs.lemmas.List.{drop_all}
use Rattle.std.proofs.lemmas.Option.{slice_get_within, slice_get-get_or}
use Rattle.cy_msg.specs.declared.token.Token.{Token}
use Rattle.cy_msg.specs.Tokens.{on_channel}
use Rattle.cy_msg.proofs.Lists.{get_in}
use Rattle.cy_fuse.specs.Visitor.{VisitorView}
use Rattle.cy_comp.specs.declared.call.Call.{Call}
use Rattle.cy_comp.specs.declared.call.Out.{Out}
use Rattle.cy_comp.specs.Calls.{cursor_after, numbered, outs_after, outs, output}
use Rattle.cy_comp.specs.Routine.{RoutineView}
use Rattle.wake_core.specs.declared.entries.TheConstants.{MOST_PLANNED}
use Rattle.wake_core.specs.declared.found.Found.{Found}
use Rattle.wake_core.specs.declared.owed.Owed.{Owed}
use Rattle.wake_core.specs.declared.parts.Parts.{Parts}
use Rattle.wake_core.specs.declared.world.World.{World}
use Rattle.wake_core.specs.WorldOf.{plain_of, routes_in, counts_in, stop_in}
use Rattle.wake_core.specs.Run.{Route, readers_of, writes_from}
use Rattle.wake_core.specs.Plain.{Plain, Stop, Hand, Ready, blank, opening_world, outs_of, taped_of}
use Rattle.wake_core.specs.Sound.{Sound}
use Rattle.wake_core.specs.Fields.{read, no_routine, no_visitor, IsFixed, IsVisited, IsRoomy}
use Rattle.wake_core.specs.private.Shown.{calls_at, shown_calls, fills_of, plain_at, IsStepping, IsWaiting}
use Rattle.wake_core.specs.private.Opening.{IsNothing, AreNothing}
use Rattle.wake_core.specs.WorldCalls.{IsRoutineOf}
use Rattle.wake_core.specs.Rest.{IsAtRest, at_rest}
use Rattle.wake_core.specs.Parts.{routine_in, shown_by, AreFit}
use Rattle.wake_core.specs.private.Sent.{outputs_of, waiting_of, sent_count, IsCounted, AreCounted}
use Rattle.wake_core.proofs.Reading.{read_at, read_past}
use Rattle.wake_core.proofs.Limits.{count_limit}
use Rattle.wake_core.proofs.Outputs.{outs_but_last}
use Rattle.wake_core.proofs.Showing.{some_route, routine_of}
use Rattle.wake_core.proofs.Runs.{replaced_sound}
use Rattle.wake_core.proofs.Beginning.{read_all, read_equal, read_made, read_beyond}

-- The plain world of these parts, with calls and threads given.
abbrev pub shown_with : List Route → List ℕ → Option Stop → List VisitorView → List RoutineView → List Bool → List Token → ℕ → Bool → Bool → (ℕ → List Call) → Plain
shown_with routes counts stop visitors routines spent tape clock closing raised calls = record (opening_world routes counts stop) {
  states = read (λ r. r.state) Ready routines;
  spent = read (λ b. b) true spent;
  cursors = λ c. cursor_after (calls c);
  calls = calls;
  arrivals = read (λ v. v.arrivals) [] visitors;
  tape = tape;
  clock = clock;
  closing = closing;
  raised = raised;
}

-- Where no component is to be stepped, each shows the calls of its routine.
calls_are : (routines : List RoutineView) (found : List (Option Found)) → ((c : ℕ) → read (λ f. f) None found c ≡ None) → calls_at routines found ≡ (λ c. (read (λ r. r) no_routine routines c).calls)
calls_are routines found none = fun_ext (λ c. ap (shown_calls (read (λ r. r) no_routine routines c)) (none c))

-- A world at rest is the one that its parts show.
pub rests : (routes : List Route) (counts : List ℕ) (stop : Option Stop) (visitors : List VisitorView) (routines : List RoutineView) (found : List (Option Found)) (spent : List Bool) (hands : List (Option Hand)) (owed : List Owed) (tape : List Token) (clock : ℕ) (closing raised : Bool)
    → ((c : ℕ) → read (λ f. f) None found c ≡ None)
    → shown_with routes counts stop visitors routines spent tape clock closing raised (λ c. (read (λ r. r) no_routine routines c).calls) ≡ at_rest (plain_at routes counts stop visitors routines found spent hands owed tape clock closing raised)
rests routes counts stop visitors routines found spent hands owed tape clock closing raised none =
    ap (shown_with routes counts stop visitors routines spent tape clock closing raised) (sym (calls_are routines found none))

-- Nobody runs where nobody holds a croutine, so no component is to be stepped.
pub none_runs : {hands : ℕ → Option Hand} {found : ℕ → Option Found} → ((p : ℕ) → hands p ≡ None) → IsStepping hands found → (c : ℕ) → found c ≡ None
none_runs free stepping c = stepping.stepped c (λ p e. absurd (none_some (sym (free p) ∙ e)))
  where
    none_some : {h : Hand} → None ≡ Some h → ⊥
    none_some e = cc

-- What the threads of a world that is put together have and owe.
abbrev with_threads : Plain → (ℕ → Option Hand) → (ℕ → List (ℕ × ℕ)) → (ℕ → List ℕ) → (ℕ → List ℕ) → (ℕ → Token) → Plain
with_threads w hs fs ns cl ts = record w { hands = hs; fills = fs; news = ns; clearing = cl; tokens = ts }

-- A world that is put together is the one that its parts show.
pub joined : (routes : List Route) (counts : List ℕ) (stop : Option Stop) (visitors : List VisitorView) (routines : List RoutineView) (n room : ℕ) {found : List (Option Found)} (spent : List Bool) {hands : List (Option Hand)} {owed : List Owed} (tape : List Token) (clock : ℕ) (closing raised : Bool)
    → found ≡ replicate n None → hands ≡ replicate 65 None → AreNothing room 65 owed
    → plain_at routes counts stop visitors routines found spent hands owed tape clock closing raised ≡ shown_with routes counts stop visitors routines spent tape clock closing raised (λ c. (read (λ r. r) no_routine routines c).calls)
joined routes counts stop visitors routines n room {found} spent {hands} {owed} tape clock closing raised is held nothing =
    let none : (c : ℕ) → read (λ f. f) None found c ≡ None = λ c. ap (λ (fs : List (Option Found)). read (λ f. f) None fs c) is ∙ ap (λ (fs : ℕ → Option Found). fs c) (read_equal None n) in
    let w : Plain = shown_with routes counts stop visitors routines spent tape clock closing raised (λ c. (read (λ r. r) no_routine routines c).calls) in
    let hs : read (λ h. h) None hands ≡ (λ p. None) = ap (λ (l : List (Option Hand)). read (λ h. h) None l) held ∙ read_equal None 65 in
    let fs : read (fills_of routes) [] owed ≡ (λ p. []) = read_all (fills_of routes) [] owed (λ i o at. no_fills o (nothing.each i o at)) in
    let ns : read (λ o. drop o.looked o.news.items) [] owed ≡ (λ p. []) = read_all (λ o. drop o.looked o.news.items) [] owed (λ i o at. no_news o (nothing.each i o at)) in
    let cl : read (λ o. o.clearing.items) [] owed ≡ (λ p. []) = read_all (λ o. o.clearing.items) [] owed (λ i o at. (nothing.each i o at).clearing) in
    let ts : read (λ o. o.token) blank owed ≡ (λ p. blank) = read_all (λ o. o.token) blank owed (λ i o at. (nothing.each i o at).token) in
    let threads : Plain → Plain = λ u. with_threads u (read (λ h. h) None hands) (read (fills_of routes) [] owed) (read (λ o. drop o.looked o.news.items) [] owed) (read (λ o. o.clearing.items) [] owed) (read (λ o. o.token) blank owed) in
    ap (λ (cs : ℕ → List Call). threads (shown_with routes counts stop visitors routines spent tape clock closing raised cs)) (calls_are routines found none)
    ∙ ap (λ (h : ℕ → Option Hand). with_threads w h (read (fills_of routes) [] owed) (read (λ o. drop o.looked o.news.items) [] owed) (read (λ o. o.clearing.items) [] owed) (read (λ o. o.token) blank owed)) hs
    ∙ ap (λ (f : ℕ → List (ℕ × ℕ)). with_threads w (λ p. None) f (read (λ o. drop o.looked o.news.items) [] owed) (read (λ o. o.clearing.items) [] owed) (read (λ o. o.token) blank owed)) fs
    ∙ ap (λ (m : ℕ → List ℕ). with_threads w (λ p. None) (λ p. []) m (read (λ o. o.clearing.items) [] owed) (read (λ o. o.token) blank owed)) ns
    ∙ ap (λ (m : ℕ → List ℕ). with_threads w (λ p. None) (λ p. []) (λ p. []) m (read (λ o. o.token) blank owed)) cl
    ∙ ap (λ (m : ℕ → Token). with_threads w (λ p. None) (λ p. []) (λ p. []) (λ p. []) m) ts
  where
    no_fills : (o : Owed) → IsNothing room o → fills_of routes o ≡ []
    no_fills o h = let whole : length (readers_of routes o.token.channel) - o.fills ≡ length (readers_of routes o.token.channel) = rw h.fills (omega arith) in
        ap (λ k. drop k (readers_of routes o.token.channel)) whole ∙ drop_all (length (readers_of routes o.token.channel)) (readers_of routes o.token.channel) (omega arith)

    no_news : (o : Owed) → IsNothing room o → drop o.looked o.news.items ≡ []
    no_news o h = rw (h.looked, h.news) refl

-- A component writes a channel where one of them has it as its own.
pub any_writes : (routes : List Route) (first channel : ℕ) → list_any (λ (x : Route). x.out == channel) routes ≡ is_some (writes_from first routes channel)
any_writes [] first channel = refl
any_writes (x ∷ routes) first channel = by (x.out == channel) (any_writes routes (first + 1) channel)
  where
    by : (b : Bool) → list_any (λ (y : Route). y.out == channel) routes ≡ is_some (writes_from (first + 1) routes channel)
        → (b || list_any (λ (y : Route). y.out == channel) routes) ≡ is_some (cond b (Some first) (writes_from (first + 1) routes channel))
    by true rest = refl
    by false rest = rest

-- What is read of an element is that of the element that is read.
pub read_of : {X Y : Type 0} (g : X → Y) (none : X) (xs : List X) (k : ℕ) → read g (g none) xs k ≡ g (read (λ x. x) none xs k)
unfolding read
read_of g none [] k = refl
read_of g none (x ∷ xs) zero = refl
read_of g none (x ∷ xs) (suc k) = read_of g none xs k

-- The outputs of calls are those that they put out on a channel.
outputs_after : (channel before : ℕ) (calls : List Call) → outputs_of calls ≡ length (outs_after channel before calls)
outputs_after channel before [] = refl
outputs_after channel before (x ∷ calls) = go x.out (outputs_after channel before calls) (outputs_after channel (before + 1) calls)
  where
    go : (o : Option Out) → outputs_of calls ≡ length (outs_after channel before calls) → outputs_of calls ≡ length (outs_after channel (before + 1) calls)
        → length (cond (is_some o) (x ∷ filter (λ (y : Call). is_some y.out) calls) (filter (λ (y : Call). is_some y.out) calls)) ≡ length (numbered channel before o (λ n. outs_after channel n calls))
    go None none some = none
    go (Some out) none some = ap suc some

pub outputs_are : (channel : ℕ) (calls : List Call) → outputs_of calls ≡ length (outs channel calls)
unfolding outs
outputs_are channel calls = outputs_after channel 0 calls

-- Of a list that stands at or past all but the last: whether something is there says where its end is.
waits_at : {X : Type 0} (xs : List Token) (n : ℕ) (f : X → Token) (o : Option X) → slice_get xs n ≡ option_map f o → n ≤ length xs → length xs ≤ n + 1 → length xs ≡ n + cond (is_some o) 1 0
waits_at xs n f None e few most = elim (cases (length xs) n few) [ inl same ↦ omega (arith, same) | inr less ↦ absurd (get_in xs n less e) ]
  where
    cases : (a b : ℕ) → b ≤ a → (a ≡ b) ⊎ (b < a)
    cases zero zero l = inl refl
    cases zero (suc b) l = absurd (omega (arith, l))
    cases (suc a) zero l = inr (omega arith)
    cases (suc a) (suc b) l = elim (cases a b (omega (arith, l))) [ inl e ↦ inl (ap suc e) | inr less ↦ inr (omega (arith, less)) ]
waits_at xs n f (Some y) e few most = let within = slice_get_within xs n (f y) e in omega (arith, within, most)

module _ (p : Parts) (fit : AreFit p) where
  module _ (c : ℕ) (x : Route) (at : slice_get (routes_in p.fixed) c ≡ Some x) where
    within : c < length (routes_in p.fixed)
    within = slice_get_within (routes_in p.fixed) c x at

    its : IsRoutineOf c (shown_by p) (routine_in p c)
    its = fit.routines c within

    taped_is : taped_of (routes_in p.fixed) p.tape.items c ≡ length (on_channel x.out p.tape.items)
    taped_is = ap (λ (o : Option Route). length (option_map_or (λ (x : Route). on_channel x.out p.tape.items) o [])) at

    made_is : outs_of (routes_in p.fixed) (λ c. (routine_in p c).calls) c ≡ outs x.out (routine_in p c).calls
    made_is = ap (λ (o : Option Route). option_map_or (λ (x : Route). outs x.out (routine_in p c).calls) o []) at

    -- Its next output is the one that waits.
    next_waits : slice_get (outs x.out (routine_in p c).calls) (taped_of (routes_in p.fixed) p.tape.items c) ≡ option_map (output x.out (taped_of (routes_in p.fixed) p.tape.items c + 1)) (routine_in p c).pending
    unfolding shown_by
    next_waits = ap (λ l. slice_get l (taped_of (routes_in p.fixed) p.tape.items c)) (sym made_is) ∙ its.pending x at

    few : taped_of (routes_in p.fixed) p.tape.items c ≤ length (outs x.out (routine_in p c).calls)
    unfolding shown_by
    few = subst (λ (l : List Token). taped_of (routes_in p.fixed) p.tape.items c ≤ length l) made_is (fit.sound.consistent.held.few c)

    most : length (outs x.out (routine_in p c).calls) ≤ taped_of (routes_in p.fixed) p.tape.items c + 1
    unfolding shown_by
    most = let all = fit.sound.consistent.delivered.but_last c x at in let one = outs_but_last x.out (routine_in p c).calls in omega (arith, all, one, taped_is)

    -- All its outputs were sent but the one that waits.
    all_sent : length (outs x.out (routine_in p c).calls) ≡ taped_of (routes_in p.fixed) p.tape.items c + waiting_of (routine_in p c)
    all_sent = waits_at (outs x.out (routine_in p c).calls) (taped_of (routes_in p.fixed) p.tape.items c) (output x.out (taped_of (routes_in p.fixed) p.tape.items c + 1)) (routine_in p c).pending next_waits few most

    sent_is : sent_count (routine_in p c) ≡ taped_of (routes_in p.fixed) p.tape.items c
    sent_is = omega (arith, outputs_are x.out (routine_in p c).calls, all_sent)

    counted : IsFixed (routes_in p.fixed) (counts_in p.fixed) → IsCounted (routine_in p c)
    unfolding shown_by
    counted fixed =
        let is = outputs_are x.out (routine_in p c).calls in
        let room = fit.sound.consistent.room.taped x.out in
        let limit = count_limit (routes_in p.fixed) (counts_in p.fixed) x.out MOST_PLANNED fixed.limited (fit.sound.consistent.wired.outs_known c x at) in
        record { waits = omega (arith, is, all_sent); fits = omega (arith, is, most, taped_is, room, limit) }

  routine_there : (c : ℕ) (r : RoutineView) → slice_get p.routines c ≡ Some r → routine_in p c ≡ r
  routine_there c r at = read_at (λ r. r) no_routine p.routines c r (slice_get_within p.routines c r at) ∙ one_of (sym (slice_get-get_or p.routines c r (slice_get_within p.routines c r at)) ∙ at)
    where
      one_of : {a b : RoutineView} → Some a ≡ Some b → a ≡ b
      one_of e = cc

  pub are_counted : IsFixed (routes_in p.fixed) (counts_in p.fixed) → AreCounted p.routines
  are_counted fixed = record {
    each = λ c r at. some_route (routes_in p.fixed) c (omega (arith, slice_get_within p.routines c r at, fit.routines_fit)) (IsCounted r) (λ x here. subst IsCounted (routine_there c r at) (counted c x here fixed));
  }

  pub waiting : {found : List (Option Found)} {sent : List ℕ} (n : ℕ) → found ≡ replicate n None → sent ≡ map sent_count p.routines
      → IsWaiting (routes_in p.fixed) (routine_in p) (read (λ f. f) None found) (read (λ n. n) 0 sent) p.tape.items
  unfolding shown_by
  waiting {found} {sent} n none is = record {
    kinds = λ c x at. (its c x at).kind x at;
    counted = at_each;
    unsent = λ c x at. subst (λ k. slice_get (outs x.out (routine_in p c).calls) k ≡ option_map (output x.out (k + 1)) (routine_in p c).pending) (sym (at_each c)) (next_waits c x at);
    none_waits = λ c some. absurd (some (ap (λ (fs : List (Option Found)). read (λ f. f) None fs c) none ∙ ap (λ (fs : ℕ → Option Found). fs c) (read_equal None n)));
    few = λ c x at. subst (λ k. k ≤ length (outs x.out (routine_in p c).calls)) (sym (at_each c)) (few c x at);
  }
    where
      sent_at : (c : ℕ) → read (λ n. n) 0 (map sent_count p.routines) c ≡ sent_count (routine_in p c)
      sent_at c = by (slice_get p.routines c) refl
        where
          by : (o : Option RoutineView) → slice_get p.routines c ≡ o → read (λ n. n) 0 (map sent_count p.routines) c ≡ sent_count (routine_in p c)
          by (Some r) at = read_made sent_count 0 p.routines c r at ∙ ap sent_count (sym (routine_there c r at))
          by None at = read_beyond sent_count 0 p.routines c at ∙ sym (ap sent_count (read_past (λ r. r) no_routine p.routines c (past at)))
            where
              past : slice_get p.routines c ≡ None → length p.routines ≤ c
              past none = le_of (λ l. get_in p.routines c l none)
                where
                  le_of : (c < length p.routines → ⊥) → length p.routines ≤ c
                  le_of n = omega (arith, n)

      at_each : (c : ℕ) → read (λ n. n) 0 sent c ≡ taped_of (routes_in p.fixed) p.tape.items c
      at_each c = ap (λ l. read (λ n. n) 0 l c) is ∙ sent_at c ∙ by (slice_get (routes_in p.fixed) c) refl
        where
          by : (o : Option Route) → slice_get (routes_in p.fixed) c ≡ o → sent_count (routine_in p c) ≡ taped_of (routes_in p.fixed) p.tape.items c
          by (Some x) at = sent_is c x at
          by None at =
              let nothing : taped_of (routes_in p.fixed) p.tape.items c ≡ 0 = ap (λ (o : Option Route). length (option_map_or (λ (x : Route). on_channel x.out p.tape.items) o [])) at in
              ap sent_count (read_past (λ r. r) no_routine p.routines c (past at)) ∙ sym nothing
            where
              past : slice_get (routes_in p.fixed) c ≡ None → length p.routines ≤ c
              past none = le_of (λ l. get_in (routes_in p.fixed) c l none)
                where
                  le_of : (c < length (routes_in p.fixed) → ⊥) → length p.routines ≤ c
                  le_of n = omega (arith, n, fit.routines_fit)

-- A world that is put together of parts that fit.
module _ (p : Parts) (fit : AreFit p) {visitors : List VisitorView} {routines : List RoutineView} {spent : List Bool} (a : visitors ≡ p.visitors) (b : routines ≡ p.routines) (d : spent ≡ p.spent) where
  pub together_waiting : {found : List (Option Found)} {sent : List ℕ} (n : ℕ) → found ≡ replicate n None → sent ≡ map sent_count p.routines
      → IsWaiting (routes_in p.fixed) (read (λ r. r) no_routine routines) (read (λ f. f) None found) (read (λ n. n) 0 sent) p.tape.items
  together_waiting {found} {sent} n none is = subst (λ (rs : List RoutineView). IsWaiting (routes_in p.fixed) (read (λ r. r) no_routine rs) (read (λ f. f) None found) (read (λ n. n) 0 sent) p.tape.items) (sym b) (waiting p fit n none is)

  pub together_visited : IsVisited (routes_in p.fixed) (counts_in p.fixed) (read (λ v. v) no_visitor visitors)
  together_visited = subst (λ (vs : List VisitorView). IsVisited (routes_in p.fixed) (counts_in p.fixed) (read (λ v. v) no_visitor vs)) (sym a) fit.visited

  pub together_roomy : IsRoomy (routes_in p.fixed) (counts_in p.fixed) (read (λ v. v) no_visitor visitors) (read (λ r. r) no_routine routines) (vec_capacity p.tape)
  together_roomy = subst (λ (vs : List VisitorView). IsRoomy (routes_in p.fixed) (counts_in p.fixed) (read (λ v. v) no_visitor vs) (read (λ r. r) no_routine routines) (vec_capacity p.tape)) (sym a)
      (subst (λ (rs : List RoutineView). IsRoomy (routes_in p.fixed) (counts_in p.fixed) (read (λ v. v) no_visitor p.visitors) (read (λ r. r) no_routine rs) (vec_capacity p.tape)) (sym b) fit.roomy)

  pub together_shown : (n room : ℕ) {found : List (Option Found)} {hands : List (Option Hand)} {owed : List Owed} → found ≡ replicate n None → hands ≡ replicate 65 None → AreNothing room 65 owed
      → plain_at (routes_in p.fixed) (counts_in p.fixed) (stop_in p.fixed) visitors routines found spent hands owed p.tape.items p.clock p.closing p.raised ≡ shown_by p
  unfolding shown_by
  together_shown n room none held nothing =
      joined (routes_in p.fixed) (counts_in p.fixed) (stop_in p.fixed) visitors routines n room spent p.tape.items p.clock p.closing p.raised none held nothing
      ∙ ap (λ (vs : List VisitorView). shown_with (routes_in p.fixed) (counts_in p.fixed) (stop_in p.fixed) vs routines spent p.tape.items p.clock p.closing p.raised (λ c. (read (λ r. r) no_routine routines c).calls)) a
      ∙ ap (λ (rs : List RoutineView). shown_with (routes_in p.fixed) (counts_in p.fixed) (stop_in p.fixed) p.visitors rs spent p.tape.items p.clock p.closing p.raised (λ c. (read (λ r. r) no_routine rs c).calls)) b
      ∙ ap (λ (bs : List Bool). shown_with (routes_in p.fixed) (counts_in p.fixed) (stop_in p.fixed) p.visitors p.routines bs p.tape.items p.clock p.closing p.raised (λ c. (read (λ r. r) no_routine p.routines c).calls)) d

-- A world that is taken apart.
abbrev parts_with : World → List RoutineView → List VisitorView → List Bool → Parts
parts_with s routines visitors spent = record {
  routines = routines;
  visitors = visitors;
  spent = spent;
  tape = s.tape;
  played = s.played;
  clock = s.clock;
  closing = s.closing;
  raised = s.raised;
  fixed = s.fixed;
}

module _ (s : World) (rest : IsAtRest (plain_of s)) where
  none_found : (c : ℕ) → read (λ f. f) None s.found.items c ≡ None
  unfolding plain_of
  none_found = none_runs (λ p. (rest p).hand) s.stepping

  its_rest : shown_by (parts_with s s.routines.items s.visitors.items s.spent.items) ≡ at_rest (plain_of s)
  unfolding plain_of shown_by
  its_rest = rests s.fixed.routes.items s.fixed.counts.items s.fixed.stop s.visitors.items s.routines.items s.found.items s.spent.items s.hands.items s.owed.items s.tape.items s.clock s.closing s.raised none_found

  its_parts : AreFit (parts_with s s.routines.items s.visitors.items s.spent.items)
  unfolding plain_of shown_by
  its_parts = record {
    routines_fit = s.sized.routines_fit;
    visitors_fit = s.sized.visitors_fit;
    spent_fit = s.sized.spent_fit;
    routines = λ c l. routine_of (shown_by (parts_with s s.routines.items s.visitors.items s.spent.items)) c (read (λ r. r) no_routine s.routines.items c) refl (read_of (λ (r : RoutineView). r.state) no_routine s.routines.items c) refl s.waiting;
    visited = s.visited;
    played = s.counted;
    roomy = s.roomy;
    sound = subst Sound (sym its_rest) (replaced_sound (plain_of s) (at_rest (plain_of s)) rest (λ p. record { hand = refl; owes = record { filled = refl; looked = refl; cleared = refl } }) refl s.sound);
  }

  module _ {routines : List RoutineView} {visitors : List VisitorView} {spent : List Bool} (a : routines ≡ s.routines.items) (b : visitors ≡ s.visitors.items) (d : spent ≡ s.spent.items) where
    same_parts : parts_with s s.routines.items s.visitors.items s.spent.items ≡ parts_with s routines visitors spent
    same_parts = sym (ap (λ (rs : List RoutineView). parts_with s rs visitors spent) a ∙ ap (λ (vs : List VisitorView). parts_with s s.routines.items vs spent) b ∙ ap (λ (bs : List Bool). parts_with s s.routines.items s.visitors.items bs) d)

    pub apart_shown : shown_by (parts_with s routines visitors spent) ≡ at_rest (plain_of s)
    apart_shown = subst (λ (p : Parts). shown_by p ≡ at_rest (plain_of s)) same_parts its_rest

    pub apart_fits : AreFit (parts_with s routines visitors spent)
    apart_fits = subst AreFit same_parts its_parts

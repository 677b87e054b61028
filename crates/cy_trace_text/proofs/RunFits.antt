-- The numbers of a sound world fit those of a trace.
use Rattle.std.proofs.Common.{ℕ, zero, suc, ◌≡◌, ◌+◌, ◌-◌, ◌≤◌, ◌<◌, ◌==◌, Bool, cond, is_some, List, [], ◌∷◌, length, map, get_or, slice_get, Option, Some, None, option_map, true, false, refl, sym, ap, subst, ◌∙◌, arith}
use Rattle.std.specs.Prelude.{option_and_then, unwrap_or}
use Rattle.std.specs.List.{flat_map, list_any}
use Rattle.cy_fuse.specs.declared.overflow.Overflow.{Overflow}
use Rattle.cy_fuse.specs.declared.overflow.Overflow.TheVariants.{Newest, Oldest}
use Rattle.std.specs.Str.{IsUtf8}
use Rattle.std.proofs.lemmas.Bool.{or_parts}
use Rattle.std.proofs.lemmas.List.Filters.{length-filter_both}
use Rattle.std.proofs.lemmas.Option.{same_Some, none-some, slice_get_within, slice_get-map, slice_get-get_or}
use Rattle.std.specs.Prelude.{not}
use Rattle.cy_msg.specs.Names.{channel_name}
use Rattle.cy_msg.specs.Tokens.{on_channel}
use Rattle.cy_msg.specs.Tuple.{messages_of}
use Rattle.cy_msg.specs.declared.token.Token.{Token}
use Rattle.cy_fuse.specs.Fusion.{Arrival, fused}
use Rattle.cy_comp.specs.declared.call.Call.{Call}
use Rattle.cy_comp.specs.declared.call.Out.{Out}
use Rattle.cy_comp.specs.declared.plan.Plan.{Plan}
use Rattle.cy_comp.specs.Calls.{cursor_after}
use Rattle.cy_comp.specs.Laws.{OutcomesAreAnswers}
use Rattle.wake_core.specs.declared.route.Route.{Route}
use Rattle.wake_core.specs.Run.{Run, route_of, routes_of, played_of, writes_from}
use Rattle.wake_core.specs.Plain.{Plain}
use Rattle.wake_core.specs.Events.{is_finished}
use Rattle.wake_core.specs.Planned.{planned}
use Rattle.wake_core.specs.Rest.{run_shown}
use Rattle.wake_core.specs.Sound.{Sound, StandsOn}
use Rattle.wake_core.specs.Bounds.{PlaceLaws, BoundLaws}
use Rattle.cy_trace.specs.LineParts.{is_oldest, version_of}
use Rattle.cy_trace.specs.TraceForm.{AreOfVersion, Each, is_version, IsLine, IsLong, IsOutput, IsSeqs, IsShort, IsTrace, IsValue, AreLines, lines_of_component}
use Rattle.cy_trace.specs.TraceOfRun.{output_of_call, trace_call, trace_calls, trace_component, trace_components, tape_entry, trace_of_run}
use Rattle.cy_trace_text.specs.Laws.{IsOf, AreTyped}
use Rattle.cy_trace.specs.declared.line.Line.TheVariants as line
use Rattle.cy_trace.proofs.LineLists.{are_lines-append}
use Rattle.cy_trace_text.proofs.OutSuits.{outs_suit}
use Rattle.cy_trace_text.proofs.StepSuits.{GivenSuit, SuitsOut}

mapped_each : {X : Type 0} (P : ℕ → Type 0) (f : X → ℕ) (xs : List X) → ((n : ℕ) (x : X) → slice_get xs n ≡ Some x → P (f x)) → Each P (map f xs)
mapped_each P f [] all = tt
mapped_each P f (x ∷ xs) all = (all 0 x refl, mapped_each P f xs (λ n. all (suc n)))

length-mapped : {X : Type 0} (f : X → ℕ) (xs : List X) → length (map f xs) ≡ length xs
length-mapped f [] = refl
length-mapped f (x ∷ xs) = ap suc (length-mapped f xs)

-- A call has numbers that fit.
record Fits (x : Call) : Type 0 where
  position : IsLong x.position
  tail : IsLong x.tail
  seqs : IsSeqs (map (λ (m : Token). m.seq) (messages_of x.tuple))
  out : (o : Out) → x.out ≡ Some o → IsLong o.time × IsValue o.whole

call_fits : (before : ℕ) (x : Call) → before + 1 ≤ 4294967295 → Fits x → IsLine (line.Call (trace_call before x))
call_fits before x few f = ((f.position, f.tail), (f.seqs, by x.out f.out))
  where
    by : (o : Option Out) → ((p : Out) → o ≡ Some p → IsLong p.time × IsValue p.whole) → IsOutput (output_of_call before o)
    by None all = tt
    by (Some o) all = (few, all o refl)

calls_fit : (calls : List Call) (before : ℕ) → before + length calls ≤ 4294967295 → ((n : ℕ) (x : Call) → slice_get calls n ≡ Some x → Fits x)
    → AreLines (map line.Call (trace_calls before calls))
calls_fit [] before few all = tt
calls_fit (x ∷ calls) before few all =
    (call_fits before x (omega (arith, few)) (all 0 x refl), calls_fit calls (before + cond (is_some x.out) 1 0) (more (is_some x.out)) (λ n. all (suc n)))
  where
    more : (b : Bool) → before + cond b 1 0 + length calls ≤ 4294967295
    more true = omega (arith, few)
    more false = omega (arith, few)

cursor_fits : (calls : List Call) (k : ℕ) → ((n : ℕ) (x : Call) → slice_get calls n ≡ Some x → x.position ≤ k) → cursor_after calls ≤ k + 1
cursor_fits [] k all = omega arith
cursor_fits (x ∷ []) k all = omega (arith, all 0 x refl)
cursor_fits (x ∷ y ∷ rest) k all = cursor_fits (y ∷ rest) k (λ n. all (suc n))

component_fits : (version : ℕ) (p : Plan) (arrivals : List Arrival) (calls : List Call) (ended : Bool) → IsUtf8 p.name → ((n : ℕ) (a : Arrival) → slice_get arrivals n ≡ Some a → a.0 < 10)
    → length calls ≤ 4294967295 → ((n : ℕ) (x : Call) → slice_get calls n ≡ Some x → Fits x) → cursor_after calls ≤ 18446744073709551615
    → AreLines (lines_of_component version (trace_component p arrivals calls ended))
component_fits version p arrivals calls ended name roles few all next =
    (name, (mapped_each (λ r. r < 10) (λ (a : Arrival). a.0) arrivals roles, are_lines-append (map line.Call (trace_calls 0 calls)) (line.End ended (cursor_after calls) ∷ []) (calls_fit calls 0 (omega (arith, few)) all) (next, tt)))

tape_fits : (names : List (List ℕ)) (tape : List Token) → ((n : ℕ) (t : Token) → slice_get tape n ≡ Some t → IsUtf8 (channel_name names t.channel) × IsShort t.seq)
    → AreLines (map line.Tape (map (tape_entry names) tape))
tape_fits names [] all = tt
tape_fits names (t ∷ tape) all = (all 0 t refl, tape_fits names tape (λ n. all (suc n)))

-- Where some component goes on at the oldest the version isn't the first one.
version_by : (b : Bool) → is_version (cond b 2 1) ≡ true
version_by true = refl
version_by false = refl

first_by : (b : Bool) → cond {A = ℕ} b 2 1 ≡ 1 → b ≡ false
first_by true h = absurd (omega (arith, h))
first_by false h = refl

newest : (o : Overflow) → is_oldest o ≡ false → o ≡ Newest
newest Newest h = refl
newest Oldest h = cc

of_version : (version : ℕ) (w : Run) (c : ℕ) (plans : List Plan) → (version ≡ 1 → list_any (λ (p : Plan). is_oldest p.overflow) plans ≡ false) → AreOfVersion version (trace_components w c plans)
of_version version w c [] first = tt
of_version version w c (p ∷ rest) first =
    let parts = λ (one : version ≡ 1). or_parts (is_oldest p.overflow) (list_any (λ (q : Plan). is_oldest q.overflow) rest) (first one) in
    (λ one. newest p.overflow (parts one).0, of_version version w (c + 1) rest (λ one. (parts one).1))

-- What stands on a channel stands on the tape.
on_known : (k : ℕ) (tape : List Token) → ((n : ℕ) (t : Token) → slice_get tape n ≡ Some t → t.channel < k) → (channel i : ℕ) (m : Token) → slice_get (on_channel channel tape) i ≡ Some m → m.channel < k
on_known k [] known channel i m at = absurd (none-some m at)
on_known k (t ∷ tape) known channel i m at = go (t.channel == channel) (on_known k tape (λ n. known (suc n)) channel) i at
  where
    go : (b : Bool) → ((j : ℕ) (m : Token) → slice_get (on_channel channel tape) j ≡ Some m → m.channel < k) → (i : ℕ) → slice_get (cond b (t ∷ on_channel channel tape) (on_channel channel tape)) i ≡ Some m → m.channel < k
    go true rest zero e = let same : t ≡ m = same_Some t m e in subst (λ (u : Token). u.channel < k) same (known 0 t refl)
    go true rest (suc j) e = rest j m e
    go false rest j e = rest j m e

module _ (answers : OutcomesAreAnswers) (places : PlaceLaws) (bounds : BoundLaws) (names : List (List ℕ)) (plans : List Plan) (w : Plain) (of : IsOf names plans w) (typed : AreTyped names plans w) (s : Sound w) where
  route_at : (c : ℕ) (p : Plan) → slice_get plans c ≡ Some p → slice_get w.routes c ≡ Some (route_of p)
  route_at c p at = ap (λ (rs : List Route). slice_get rs c) of.routes ∙ slice_get-map route_of plans c ∙ ap (option_map route_of) at

  given_suit : (c : ℕ) (x : Route) → slice_get w.routes c ≡ Some x → GivenSuit x.kind
  given_suit c x at = by (slice_get plans c) refl
    where
      by : (o : Option Plan) → slice_get plans c ≡ o → GivenSuit x.kind
      by None e = absurd (none-some x (sym (ap (λ (rs : List Route). slice_get rs c) of.routes ∙ slice_get-map route_of plans c ∙ ap (option_map route_of) e) ∙ at))
      by (Some p) e =
          let same : route_of p ≡ x = same_Some (route_of p) x (sym (route_at c p e) ∙ at) in
          subst (λ (r : Route). GivenSuit r.kind) same (λ a is. typed.answers c p a e is)

  stands_short : (m : Token) → StandsOn w.tape m → IsShort m.seq
  stands_short m on =
      let known = on_known (length w.counts) w.tape s.consistent.room.channels m.channel (m.seq - 1) m on in
      let few = bounds.channel w.routes w.counts m.channel known in
      let limit : planned w.routes w.counts ≤ 16777216 = of.limited in
      omega (arith, slice_get_within (on_channel m.channel w.tape) (m.seq - 1) m on, s.consistent.room.taped m.channel, few, limit)

  fused_fits : (c : ℕ) (p : Plan) → slice_get plans c ≡ Some p → length (fused (w.arrivals c) (length p.readers)) ≤ 16777216
  fused_fits c p at =
      let all = bounds.tuples w c (route_of p) (route_at c p at) s.consistent in
      let one = bounds.trigger w.routes w.counts c (route_of p) (route_at c p at) in
      let limit : planned w.routes w.counts ≤ 16777216 = of.limited in
      omega (arith, all, one, limit)

  calls_few : (c : ℕ) (p : Plan) → slice_get plans c ≡ Some p → length (w.calls c) ≤ 4294967295
  calls_few c p at =
      let all = s.consistent.room.called c (route_of p) (route_at c p at) in
      let one = bounds.trigger w.routes w.counts c (route_of p) (route_at c p at) in
      let limit : planned w.routes w.counts ≤ 16777216 = of.limited in
      omega (arith, all, one, limit)

  position_few : (c n : ℕ) (p : Plan) (x : Call) → slice_get plans c ≡ Some p → slice_get (w.calls c) n ≡ Some x → x.position ≤ 16777217
  position_few c n p x at is =
      let lawful = s.consistent.called.lawful c (route_of p) (route_at c p at) in
      omega (arith, slice_get_within (fused (w.arrivals c) (length p.readers)) (x.position - 1) x.tuple (lawful.tuples n x is), fused_fits c p at)

  call_at : (c n : ℕ) (p : Plan) (x : Call) → slice_get plans c ≡ Some p → slice_get (w.calls c) n ≡ Some x → Fits x
  call_at c n p x at is =
      let lawful = s.consistent.called.lawful c (route_of p) (route_at c p at) in
      let tuple : slice_get (fused (w.arrivals c) (length p.readers)) (x.position - 1) ≡ Some x.tuple = lawful.tuples n x is in
      let size = bounds.messages (length p.readers) (w.arrivals c) (of.wiring.some_reader c p at) (of.wiring.few_readers c p at) (x.position - 1) x.tuple tuple in
      let mapped = length-mapped (λ (m : Token). m.seq) (messages_of x.tuple) in
      record {
        position = omega (arith, position_few c n p x at is);
        tail = omega (arith, lawful.tails_fused n x is, fused_fits c p at);
        seqs = (
          mapped_each IsShort (λ (m : Token). m.seq) (messages_of x.tuple) (λ j m on. stands_short m (places.fused_ones w s.consistent c (length p.readers) (x.position - 1) x.tuple tuple j m on)),
          omega (arith, size, mapped, of.wiring.some_reader c p at),
          omega (arith, size, mapped, of.wiring.few_readers c p at),
        );
        out = λ o e. subst SuitsOut e (outs_suit answers places w s typed.played given_suit c n (route_of p) x (route_at c p at) is);
      }

  role_at : (c n : ℕ) (p : Plan) (a : Arrival) → slice_get plans c ≡ Some p → slice_get (w.arrivals c) n ≡ Some a → a.0 < 10
  role_at c n p a at is = by (slice_get p.readers a.0) refl
    where
      by : (o : Option ℕ) → slice_get p.readers a.0 ≡ o → a.0 < 10
      by None e = absurd (s.consistent.delivered.known c n a is (ap (option_and_then (λ (x : Route). slice_get x.readers a.0)) (route_at c p at) ∙ e))
      by (Some r) e = omega (arith, slice_get_within p.readers a.0 r e, of.wiring.few_readers c p at)

  component_at : (version c : ℕ) (p : Plan) → slice_get plans c ≡ Some p → AreLines (lines_of_component version (trace_component p (w.arrivals c) (w.calls c) (is_finished (w.states c))))
  component_at version c p at =
      let next = cursor_fits (w.calls c) 16777217 (λ n x is. position_few c n p x at is) in
      component_fits version p (w.arrivals c) (w.calls c) (is_finished (w.states c)) (typed.components c p at) (λ n a is. role_at c n p a at is) (calls_few c p at) (λ n x is. call_at c n p x at is) (omega (arith, next))

  components_fit : (version : ℕ) (rest : List Plan) (c : ℕ) → ((i : ℕ) (p : Plan) → slice_get rest i ≡ Some p → slice_get plans (c + i) ≡ Some p)
      → AreLines (flat_map (lines_of_component version) (trace_components (run_shown w) c rest))
  components_fit version [] c at = tt
  components_fit version (p ∷ rest) c at =
      let here : c + 0 ≡ c = omega arith in
      are_lines-append (lines_of_component version (trace_component p (w.arrivals c) (w.calls c) (is_finished (w.states c)))) (flat_map (lines_of_component version) (trace_components (run_shown w) (c + 1) rest))
      (component_at version c p (subst (λ k. slice_get plans k ≡ Some p) here (at 0 p refl)))
      (components_fit version rest (c + 1) (λ i q on. let there : c + suc i ≡ c + 1 + i = omega arith in subst (λ k. slice_get plans k ≡ Some q) there (at (suc i) q on)))

  name_at : (channel : ℕ) → channel < length names → IsUtf8 (channel_name names channel)
  name_at channel inside =
      let at : slice_get names channel ≡ Some (get_or names channel []) = slice_get-get_or names channel [] inside in
      subst IsUtf8 (sym (ap (λ (o : Option (List ℕ)). unwrap_or o []) at)) (typed.channels channel (get_or names channel []) at)

  entry_at : (n : ℕ) (t : Token) → slice_get w.tape n ≡ Some t → IsUtf8 (channel_name names t.channel) × IsShort t.seq
  entry_at n t is =
      let known = s.consistent.room.channels n t is in
      (name_at t.channel (omega (arith, known, of.channels)), stands_short t (places.taped w.tape s.consistent.delivered.numbered n t is))

  played_short : IsShort (length (played_of (routes_of plans) w.tape))
  played_short =
      let both = length-filter_both (λ (t : Token). not (is_some (writes_from 0 (routes_of plans) t.channel))) (λ t. not (not (is_some (writes_from 0 (routes_of plans) t.channel)))) (λ t. refl) w.tape in
      let all = bounds.tape w s.consistent in
      let limit : planned w.routes w.counts ≤ 16777216 = of.limited in
      omega (arith, both, all, limit)

pub run_fits : OutcomesAreAnswers → PlaceLaws → BoundLaws → (names : List (List ℕ)) (plans : List Plan) (shadowed : ℕ) (w : Plain) → IsOf names plans w → AreTyped names plans w → IsShort shadowed → Sound w
    → IsTrace (trace_of_run names plans shadowed (run_shown w))
unfolding IsTrace
run_fits answers places bounds names plans shadowed w of typed short s = (
  (
    version_by (list_any (λ (p : Plan). is_oldest p.overflow) plans),
    (
      (played_short answers places bounds names plans w of typed s, short),
      are_lines-append (flat_map (lines_of_component (version_of plans)) (trace_components (run_shown w) 0 plans)) (map line.Tape (map (tape_entry names) w.tape))
          (components_fit answers places bounds names plans w of typed s (version_of plans) plans 0 (λ i p at. let same : i ≡ 0 + i = omega arith in subst (λ k. slice_get plans k ≡ Some p) same at)) (tape_fits names w.tape (entry_at answers places bounds names plans w of typed s)),
    ),
  ),
  of_version (version_of plans) (run_shown w) 0 plans (first_by (list_any (λ (p : Plan). is_oldest p.overflow) plans)),
)

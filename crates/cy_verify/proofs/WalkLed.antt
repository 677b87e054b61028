-- How the trace of a lawful run leads a walk along its tape.
use Rattle.std.proofs.Common.{ℕ, zero, suc, ◌+◌, ◌-◌, ◌≡◌, ◌≤◌, ◌<◌, Bool, true, false, not, is_some, refl, sym, ◌∙◌, ap, subst, inl, inr, arith, List, [], ◌∷◌, ◌++◌, length, take, map, set, get_or, cond, unwrap_or, vec_capacity, ◌==◌, Some, None, Option, slice_get, length-append}
use Rattle.std.specs.List.{Contains, position}
use Rattle.std.proofs.lemmas.Bool.Decides.{eqb_tells}
use Rattle.std.proofs.lemmas.Option.{slice_get_within}
use Rattle.std.proofs.lemmas.List.{length-map}
use Rattle.std.proofs.lemmas.List.Quantifiers.{position-Some}
use Rattle.cy_msg.specs.declared.token.Token.{Token}
use Rattle.cy_msg.specs.declared.play_list.PlayList.{PlayList}
use Rattle.cy_msg.specs.Tokens.{on_channel}
use Rattle.cy_msg.proofs.Lists.{take_next}
use Rattle.cy_comp.specs.declared.plan.Plan.{Plan}
use Rattle.cy_comp.specs.declared.wiring.Wiring.{Wiring}
use Rattle.wake_core.specs.declared.route.Route.{Route}
use Rattle.wake_core.specs.Plain.{Plain}
use Rattle.wake_core.specs.Run.{played_of, route_of, routes_of, writes_from}
use Rattle.wake_core.specs.WorldOf.{counts_in, stop_in}
use Rattle.wake_core.proofs.Cited.{writes_some, counted_known}
use Rattle.cy_trace.specs.declared.trace.TapeEntry.{TapeEntry}
use Rattle.cy_trace.specs.declared.trace.Trace.{Trace}
use Rattle.cy_trace.specs.declared.trace.TraceComponent.{TraceComponent}
use Rattle.cy_trace.specs.TraceOfRun.{tape_entry}
use Rattle.cy_verify.specs.Verdict.{Task, MayJudge}
use Rattle.cy_verify.specs.declared.follower.Follower.{Follower}
use Rattle.cy_verify.specs.declared.walk.Walk.{Walk}
use Rattle.cy_verify.specs.private.Leading.{Leads, PutsOut}
use Rattle.cy_verify.specs.private.Led.{ended_in, AreLed, IsLed, IsNext}
use Rattle.cy_verify.specs.private.Walking.{IsWalked, task_in, names_it}
use Rattle.cy_verify.proofs.Heard.{there_is, get_there}
use Rattle.cy_verify.proofs.RunLed.{are_led_on}
use Rattle.cy_verify.proofs.Walked.{IsPutTo, get_set, some_one, route_at, same_task, taken_all, writer_out}

-- There is room for the next message.
pub has_room : {t : Task} {told : List TraceComponent} {w : Plain} {v : Walk} {m : Token} → IsLed t told w v → IsNext w v m → length v.tape.items < vec_capacity v.tape
has_room {t} {told} {w} {v} {m} led next = let inside = slice_get_within w.tape (length v.tape.items) m next in omega (arith, inside, led.room)

-- With the next message on the tape of a walk, whose components are led, it is led on.
pub led_on : {t : Task} {told : List TraceComponent} {w : Plain} {v : Walk} (m : Token) → IsNext w v m → IsLed t told w v → (u : Walk) → AreLed t w told u.followers.items (v.tape.items ++ m ∷ []) → u.tape.items ≡ v.tape.items ++ m ∷ []
    → vec_capacity u.tape ≡ vec_capacity v.tape → IsLed t told w u
led_on {t} {told} {w} {v} m next led u followers tape capacity = record {
  counts = led.counts;
  lawful = led.lawful;
  led = rw tape followers;
  begins = rw tape begun;
  room = rw capacity led.room;
}
  where
    begun : v.tape.items ++ m ∷ [] ≡ take (length (v.tape.items ++ m ∷ [])) w.tape
    begun =
        let more : length (v.tape.items ++ m ∷ []) ≡ length v.tape.items + 1 = length-append v.tape.items (m ∷ []) in
        ap (λ l. l ++ m ∷ []) led.begins ∙ sym (take_next w.tape (length v.tape.items) m next) ∙ ap (λ n. take n w.tape) (sym more)

-- A component's output.
module _ (wiring : Wiring) (list : PlayList) (told : List TraceComponent) (v : Walk) (h : IsWalked (task_in wiring list v) told v) (many : length told ≡ length wiring.plans) (c : ℕ) (inside : c < length wiring.plans)
    (p : Plan) (its_plan : p ≡ get_or wiring.plans c p) (k : TraceComponent) (its_told : k ≡ get_or told c k) (f : Follower) (its : f ≡ get_or v.followers.items c f) (w : Plain) (led : IsLed (task_in wiring list v) told w v) (q : Plan) (q_at : slice_get wiring.plans c ≡ Some q) (m : Token) (out : m.channel ≡ q.out) (next : IsNext w v m) where
  plan_at : slice_get wiring.plans c ≡ Some p
  plan_at = there_is wiring.plans c p inside its_plan

  route_is : slice_get (routes_of wiring.plans) c ≡ Some (route_of p)
  route_is = route_at wiring.plans c p plan_at

  told_at : slice_get told c ≡ Some k
  told_at = there_is told c k (omega (arith, many, inside)) its_told

  follower_at : slice_get v.followers.items c ≡ Some f
  follower_at = there_is v.followers.items c f (let routes = length-map wiring.plans route_of in omega (arith, inside, routes, h.are_of.many)) its

  pub leads_now : Leads (route_of p) k (names_it (stop_in v.fixed) c) (ended_in w c) f v.tape.items
  leads_now = led.led c (route_of p) k f route_is told_at follower_at

  pub puts_out : PutsOut (route_of p) (ended_in w c) v.tape.items m
  puts_out = record { next = next; its = out ∙ ap (λ (y : Plan). y.out) (some_one (sym q_at ∙ plan_at)) }

  pub output_led : (g : Follower) → Leads (route_of p) k (names_it (stop_in v.fixed) c) (ended_in w c) g (v.tape.items ++ m ∷ []) → (u : Walk) → u.followers.items ≡ set v.followers.items c g → u.tape.items ≡ v.tape.items ++ m ∷ []
      → vec_capacity u.tape ≡ vec_capacity v.tape → u.fixed ≡ v.fixed → IsLed (task_in wiring list u) told w u
  output_led g leads u followers tape capacity fixed = subst (λ (t : Task). IsLed t told w u) (sym (same_task wiring list v u fixed)) (led_on m next led u (rw followers all) tape capacity)
    where
      all : AreLed (task_in wiring list v) w told (set v.followers.items c g) (v.tape.items ++ m ∷ [])
      all d y k' f' at' its' is' = elim (get_set v.followers.items c d g f' is') [
        | inl e ↦
            let same_x : route_of p ≡ y = some_one (sym route_is ∙ ap (slice_get (routes_of wiring.plans)) (sym e.0) ∙ at') in
            let same_k : k ≡ k' = some_one (sym told_at ∙ ap (slice_get told) (sym e.0) ∙ its') in
            subst (λ (z : Follower). Leads y k' (names_it (stop_in v.fixed) d) (ended_in w d) z (v.tape.items ++ m ∷ [])) e.1
            (subst (λ (z : TraceComponent). Leads y z (names_it (stop_in v.fixed) d) (ended_in w d) g (v.tape.items ++ m ∷ [])) same_k
            (subst (λ (z : Route). Leads z k (names_it (stop_in v.fixed) d) (ended_in w d) g (v.tape.items ++ m ∷ [])) same_x
            (subst (λ (n : ℕ). Leads (route_of p) k (names_it (stop_in v.fixed) n) (ended_in w n) g (v.tape.items ++ m ∷ [])) (sym e.0) leads)))
        | inr e ↦ are_led_on (task_in wiring list v) w told v.followers.items v.tape.items m next led.led d y k' f' at' its' e.1
      ]

-- A played message of a tape is the one among all played ones that comes after those before it.
played_at : (routes : List Route) (tape : List Token) (n : ℕ) (m : Token) → slice_get tape n ≡ Some m → writes_from 0 routes m.channel ≡ None → slice_get (played_of routes tape) (length (played_of routes (take n tape))) ≡ Some m
played_at routes [] n m at none = cc
played_at routes (y ∷ tape) zero m at none =
    let here : y ≡ m = some_one at in
    let unwritten : writes_from 0 routes y.channel ≡ None = ap (λ (z : Token). writes_from 0 routes z.channel) here ∙ none in
    ap (λ (o : Option ℕ). slice_get (cond (not (is_some o)) (y ∷ played_of routes tape) (played_of routes tape)) 0) unwritten ∙ at
played_at routes (y ∷ tape) (suc n) m at none = by (writes_from 0 routes y.channel) (played_at routes tape n m at none)
  where
    by : (o : Option ℕ) → slice_get (played_of routes tape) (length (played_of routes (take n tape))) ≡ Some m
        → slice_get (cond (not (is_some o)) (y ∷ played_of routes tape) (played_of routes tape)) (length (cond (not (is_some o)) (y ∷ played_of routes (take n tape)) (played_of routes (take n tape)))) ≡ Some m
    by None rest = rest
    by (Some c) rest = rest

length_take : {X : Type 0} (xs : List X) (n : ℕ) → n ≤ length xs → length (take n xs) ≡ n
length_take xs zero l = refl
length_take [] (suc n) l = absurd (omega (arith, l))
length_take (x ∷ xs) (suc n) l = ap suc (length_take xs n (omega (arith, l)))

-- A played message.
module _ (wiring : Wiring) (list : PlayList) (told : List TraceComponent) (v : Walk) (h : IsWalked (task_in wiring list v) told v) (w : Plain) (led : IsLed (task_in wiring list v) told w v) (m : Token) (next : IsNext w v m)
    (unwritten : writes_from 0 (routes_of wiring.plans) m.channel ≡ None) where
  pub next_played : slice_get list.tokens v.played ≡ Some m
  next_played =
      let all : played_of (routes_of wiring.plans) w.tape ≡ list.tokens = ap (λ rs. played_of rs w.tape) (sym led.lawful.wired) ∙ led.lawful.exact in
      let before : played_of (routes_of wiring.plans) (take (length v.tape.items) w.tape) ≡ take v.played list.tokens = ap (played_of (routes_of wiring.plans)) (sym led.begins) ∙ h.taped.its in
      let count : length (played_of (routes_of wiring.plans) (take (length v.tape.items) w.tape)) ≡ v.played = ap length before ∙ length_take list.tokens v.played h.taped.few in
      ap (slice_get list.tokens) (sym count) ∙ ap (λ l. slice_get l (length (played_of (routes_of wiring.plans) (take (length v.tape.items) w.tape)))) (sym all) ∙ played_at (routes_of wiring.plans) w.tape (length v.tape.items) m next unwritten

  pub played_led : (u : Walk) → u.followers ≡ v.followers → u.tape.items ≡ v.tape.items ++ m ∷ [] → vec_capacity u.tape ≡ vec_capacity v.tape → u.fixed ≡ v.fixed → IsLed (task_in wiring list u) told w u
  played_led u followers tape capacity fixed =
      subst (λ (t : Task). IsLed t told w u) (sym (same_task wiring list v u fixed)) (led_on m next led u (rw followers (are_led_on (task_in wiring list v) w told v.followers.items v.tape.items m next led.led)) tape capacity)

-- The channel of the next message is one of those that are counted.
pub known_channel : (wiring : Wiring) (list : PlayList) (told : List TraceComponent) (v : Walk) → MayJudge (task_in wiring list v) → IsWalked (task_in wiring list v) told v → (w : Plain) → IsLed (task_in wiring list v) told w v → (m : Token) → IsNext w v m
    → m.channel < length wiring.names
known_channel wiring list told v may h w led m next = by (writes_from 0 (routes_of wiring.plans) m.channel) refl
  where
    counts : m.channel < length (counts_in v.fixed) → m.channel < length wiring.names
    counts l = omega (arith, l, may.many)

    one_of : (channel : ℕ) (tokens : List Token) (n : ℕ) (y : Token) → slice_get tokens n ≡ Some y → y.channel ≡ channel → 1 ≤ length (on_channel channel tokens)
    one_of channel [] n y at same = cc
    one_of channel (x ∷ tokens) zero y at same = elim (eqb_tells x.channel channel) [
      | inl q ↦ rw (ap (λ b. length (cond b (x ∷ on_channel channel tokens) (on_channel channel tokens))) q.0) (omega arith)
      | inr q ↦ absurd (q.1 (ap (λ (z : Token). z.channel) (some_one at) ∙ same))
    ]
    one_of channel (x ∷ tokens) (suc n) y at same = one_more (one_of channel tokens n y at same) (x.channel == channel)
      where
        one_more : 1 ≤ length (on_channel channel tokens) → (b : Bool) → 1 ≤ length (cond b (x ∷ on_channel channel tokens) (on_channel channel tokens))
        one_more l true = omega arith
        one_more l false = l

    by : (o : Option ℕ) → writes_from 0 (routes_of wiring.plans) m.channel ≡ o → m.channel < length wiring.names
    by (Some c) e =
        let is = writes_some (routes_of wiring.plans) 0 m.channel c e in
        counts (subst (λ (n : ℕ). n < length (counts_in v.fixed)) is.writes (h.known.wired.outs_known (c - 0) is.route is.at))
    by None e = counts (counted_known (counts_in v.fixed) m.channel 0 (rw (← may.made.counted m.channel) (one_of m.channel list.tokens v.played m (next_played wiring list told v h w led m next e) refl)))

-- An entry tells of the next message by the name of its channel, ..
pub entry_named : (names : List (List ℕ)) (m : Token) (entry : TapeEntry) → m.channel < length names → tape_entry names m ≡ entry → slice_get names m.channel ≡ Some entry.name
entry_named names m entry l e = named names m.channel l ∙ ap (λ (t : TapeEntry). Some t.name) e
  where
    named : (xs : List (List ℕ)) (n : ℕ) → n < length xs → slice_get xs n ≡ Some (unwrap_or (slice_get xs n) [])
    named [] n l = absurd (omega (arith, l))
    named (x ∷ xs) zero l = refl
    named (x ∷ xs) (suc n) l = named xs n (omega (arith, l))

-- .. which is kept.
pub kept : (xs : List (List ℕ)) (n : ℕ) (x : List ℕ) → slice_get xs n ≡ Some x → Contains xs x
kept xs n x e = (n, slice_get_within xs n x e, get_there xs n x x e)

-- The component that writes a channel.
pub writer_at : (plans : List Plan) (channel n : ℕ) → position (λ (p : Plan). p.out == channel) plans ≡ Some n → (p : Plan) × (slice_get plans n ≡ Some p) × (p.out ≡ channel)
writer_at plans channel n e = let here = find_at plans n (inside plans e) in (here.0, here.1, writer_out plans channel n e here.0 here.1)
  where
    inside : (xs : List Plan) → position (λ (p : Plan). p.out == channel) xs ≡ Some n → n < length xs
    inside [] at = cc
    inside (x ∷ xs) at = (position-Some (λ (p : Plan). p.out == channel) (x ∷ xs) n x at).0

    find_at : (xs : List Plan) (n : ℕ) → n < length xs → (p : Plan) × (slice_get xs n ≡ Some p)
    find_at [] n l = absurd (omega (arith, l))
    find_at (x ∷ xs) zero l = (x, refl)
    find_at (x ∷ xs) (suc n) l = find_at xs n (omega (arith, l))

-- So many entries were put, and a lawful run led the walk along them.
pub record IsPutLed (wiring : Wiring) (list : PlayList) (trace : Trace) (first : Walk) (n : ℕ) (w : Walk) : Type 0 where
  pub to : IsPutTo wiring list trace first n w
  pub led : (p : Plain) → IsLed (task_in wiring list first) trace.components p first → map (tape_entry wiring.names) p.tape ≡ trace.tape → IsLed (task_in wiring list w) trace.components p w

-- The next entry is that of the next message.
pub next_entry : {wiring : Wiring} {list : PlayList} {trace : Trace} {first w : Walk} {n : ℕ} (entry : TapeEntry) → IsPutTo wiring list trace first n w → slice_get trace.tape n ≡ Some entry → (p : Plain) → map (tape_entry wiring.names) p.tape ≡ trace.tape
    → (m : Token) × IsNext p w m × (tape_entry wiring.names m ≡ entry)
next_entry {wiring} {list} {trace} {first} {w} {n} entry h at p told =
    let got = mapped p.tape n (ap (λ l. slice_get l n) told ∙ at) in
    (got.0, ap (slice_get p.tape) count ∙ got.1, got.2)
  where
    mapped : (xs : List Token) (k : ℕ) → slice_get (map (tape_entry wiring.names) xs) k ≡ Some entry → (m : Token) × (slice_get xs k ≡ Some m) × (tape_entry wiring.names m ≡ entry)
    mapped [] k e = cc
    mapped (x ∷ xs) zero e = (x, refl, cc)
    mapped (x ∷ xs) (suc k) e = mapped xs k e

    inside : n ≤ length trace.tape
    inside = let within = slice_get_within trace.tape n entry at in omega (arith, within)

    count : length w.tape.items ≡ n
    count = sym (length-map w.tape.items (tape_entry wiring.names)) ∙ ap length h.told ∙ length_take trace.tape n inside

-- After all entries the whole tape was followed, and all messages were played.
pub put_whole : {wiring : Wiring} {list : PlayList} {trace : Trace} {first w : Walk} {n : ℕ} → IsPutTo wiring list trace first n w → length trace.tape ≤ n → (p : Plain) → map (tape_entry wiring.names) p.tape ≡ trace.tape → IsLed (task_in wiring list w) trace.components p w
    → (w.tape.items ≡ p.tape) × (w.played ≡ length list.tokens)
put_whole {wiring} {list} {trace} {first} {w} {n} h all p told led = (same, count)
  where
    lengths : length w.tape.items ≡ length p.tape
    lengths = sym (length-map w.tape.items (tape_entry wiring.names)) ∙ ap length (h.told ∙ taken_all n trace.tape all ∙ sym told) ∙ length-map p.tape (tape_entry wiring.names)

    same : w.tape.items ≡ p.tape
    same = led.begins ∙ taken_all (length w.tape.items) p.tape (omega (arith, lengths))

    played : take w.played list.tokens ≡ list.tokens
    played = sym h.walked.taped.its ∙ ap (played_of (routes_of wiring.plans)) same ∙ ap (λ rs. played_of rs p.tape) (sym led.lawful.wired) ∙ led.lawful.exact

    count : w.played ≡ length list.tokens
    count = sym (length_take list.tokens w.played h.walked.taped.few) ∙ ap length played

-- The loop over the entries.
pub put_led_first : {wiring : Wiring} {list : PlayList} {trace : Trace} {w : Walk} → IsPutTo wiring list trace w 0 w → IsPutLed wiring list trace w 0 w
put_led_first h = record { to = h; led = λ p led told. led }

pub same_number : (a b : ℕ) → a ≡ b → a == b ≡ true
same_number a b e = elim (eqb_tells a b) [ inl h ↦ h.0 | inr h ↦ absurd (h.1 e) ]

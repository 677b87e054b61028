-- What a message more on the tape keeps of a walk.
use Rattle.std.proofs.Common.{ℕ, zero, suc, ◌+◌, ◌≡◌, ◌≢◌, ◌⊎◌, ◌≤◌, ◌<◌, Bool, true, false, not, is_some, refl, sym, ◌∙◌, ap, subst, inl, inr, arith, List, [], ◌∷◌, ◌++◌, length, take, map, set, get_or, cond, unwrap_or, vec_capacity, ◌==◌, Some, None, Option, slice_get, slice_index, option_map, sum, length-append, length-set, append-nil}
use Rattle.std.specs.List.{position}
use Rattle.std.proofs.lemmas.List.Quantifiers.{position-Some}
use Rattle.std.proofs.lemmas.Bool.Decides.{eqb_tells}
use Rattle.std.proofs.lemmas.List.Elements.{filter-append}
use Rattle.std.proofs.lemmas.Option.{slice_get-map, slice_get_within}
use Rattle.cy_msg.specs.declared.token.Token.{Token}
use Rattle.cy_msg.specs.Tokens.{on_channel, IsNumbered}
use Rattle.cy_comp.specs.declared.plan.Plan.{Plan}
use Rattle.cy_comp.specs.Calls.{outs}
use Rattle.wake_core.specs.declared.route.Route.{Route}
use Rattle.wake_core.specs.declared.entries.TheConstants.{MOST_PLANNED}
use Rattle.wake_core.specs.Planned.{first_reader, planned_count}
use Rattle.wake_core.specs.Run.{played_of, route_of, routes_of, writes_from}
use Rattle.wake_core.proofs.Cited.{planned_trigger, on_channel-own, on_channel-other, outs_few, unwritten_out, writes_own, planned_root, counted_known}
use Rattle.cy_trace.specs.declared.trace.TraceComponent.{TraceComponent}
use Rattle.cy_msg.specs.declared.play_list.PlayList.{PlayList}
use Rattle.cy_comp.specs.declared.wiring.Wiring.{Wiring}
use Rattle.std.proofs.lemmas.List.{length-map, map-append}
use Rattle.cy_msg.proofs.Lists.{snoc_at, get_snoc, take_next, place}
use Rattle.wake_core.specs.declared.fixed.Fixed.{Fixed}
use Rattle.wake_core.specs.WorldOf.{counts_in, stop_in}
use Rattle.cy_trace.specs.TraceOfRun.{tape_entry}
use Rattle.cy_trace.specs.declared.trace.TapeEntry.{TapeEntry}
use Rattle.cy_trace.specs.declared.trace.Trace.{Trace}
use Rattle.cy_verify.specs.Verdict.{Task, MayJudge}
use Rattle.cy_verify.specs.declared.follower.Follower.{Follower}
use Rattle.cy_verify.specs.declared.walk.Walk.{Walk}
use Rattle.cy_verify.specs.private.Following.{IsOf, MayFollow, Follows, Sends, Stays, HasEnded}
use Rattle.cy_verify.specs.private.Walking.{AreOf, AreFollowed, IsTaped, IsKnown, IsWalked, Puts, HasWalked, task_in, names_it}
use Rattle.cy_verify.proofs.TapeGrown.{others_follow}
use Rattle.cy_verify.proofs.Heard.{there_is, get_there}

-- What stands in a list that was set at a place.
pub get_set : {X : Type 0} (xs : List X) (i n : ℕ) (y z : X) → slice_get (set xs i y) n ≡ Some z → ((n ≡ i) × (y ≡ z)) ⊎ ((n ≢ i) × (slice_get xs n ≡ Some z))
get_set [] i n y z e = cc
get_set (x ∷ xs) zero zero y z e = inl (refl, cc)
get_set (x ∷ xs) zero (suc n) y z e = inr ((λ q. cc), e)
get_set (x ∷ xs) (suc i) zero y z e = inr ((λ q. cc), e)
get_set (x ∷ xs) (suc i) (suc n) y z e = elim (get_set xs i n y z e) [ inl h ↦ inl (ap suc h.0, h.1) | inr h ↦ inr ((λ q. h.0 (less n i q)), h.1) ]
  where
    less : (a b : ℕ) → suc a ≡ suc b → a ≡ b
    less a b q = cc

pub some_one : {X : Type 0} {a b : X} → Some a ≡ Some b → a ≡ b
some_one e = cc

-- The route of a component is that of its plan.
pub route_at : (plans : List Plan) (c : ℕ) (p : Plan) → slice_get plans c ≡ Some p → slice_get (routes_of plans) c ≡ Some (route_of p)
route_at plans c p e = slice_get-map route_of plans c ∙ ap (option_map route_of) e

-- A component may be followed along what is taped.
pub may_follow : {t : Task} {fs : List Follower} {n : ℕ} {tape : List Token} → IsKnown t → AreOf t fs → IsTaped t n tape → (c : ℕ) (x : Route) (f : Follower) → slice_get (routes_of t.plans) c ≡ Some x → slice_get fs c ≡ Some f → MayFollow x f tape
may_follow {t} k a h c x f at is = record {
  most = planned_count (routes_of t.plans) t.counts (first_reader x);
  its = a.each c x f at is;
  few = h.room (first_reader x);
  limited = limit (planned_trigger (routes_of t.plans) t.counts c x at) k.its.limited;
  some_reader = k.its.some_reader c x at;
  few_readers = k.its.few_readers c x at;
  needed = k.its.needed c x at;
  buffered = k.its.buffered c x at;
}
  where
    limit : {a b : ℕ} → a ≤ b → b ≤ MOST_PLANNED → a ≤ MOST_PLANNED
    limit p q = omega (arith, p, q)

-- .. and is still of its kind when it was followed further.
pub stays_of : {x : Route} {most : ℕ} {f g : Follower} → Stays f g → IsOf x most f → IsOf x most g
stays_of s h = record {
  kind = s.kind ∙ h.kind;
  roles = s.roles ∙ h.roles;
  overflow = s.overflow ∙ h.overflow;
  queue = s.queue ∙ h.queue;
  calls = rw s.calls h.calls;
}

pub set_of : {t : Task} {fs : List Follower} (c : ℕ) (f g : Follower) → slice_get fs c ≡ Some f → Stays f g → AreOf t fs → AreOf t (set fs c g)
set_of {t} {fs} c f g is s h = record {
  many = length-set fs c g ∙ h.many;
  each = λ d x f' at is'. elim (get_set fs c d g f' is') [
    | inl e ↦ subst (IsOf x (planned_count (routes_of t.plans) t.counts (first_reader x))) e.1 (stays_of s (h.each d x f at (ap (slice_get fs) e.0 ∙ is)))
    | inr e ↦ h.each d x f' at e.1
  ];
  roomy = λ d x f' at is'. elim (get_set fs c d g f' is') [
    | inl e ↦ let old = h.roomy d x f at (ap (slice_get fs) e.0 ∙ is) in subst (λ (z : Follower). sum (map (planned_count (routes_of t.plans) t.counts) x.readers) ≤ length z.visitor.arrivals + z.visitor.spare) e.1 (rw s.arrivals old)
    | inr e ↦ h.roomy d x f' at e.1
  ];
}

played-push : (routes : List Route) (tape : List Token) (m : Token) → played_of routes (tape ++ m ∷ []) ≡ played_of routes tape ++ cond (not (is_some (writes_from 0 routes m.channel))) (m ∷ []) []
played-push routes tape m = filter-append (λ s. not (is_some (writes_from 0 routes s.channel))) tape (m ∷ [])

-- An output is none of what is played, and what is played is one more of it.
output_played : (routes : List Route) (tape : List Token) (m : Token) (c : ℕ) → writes_from 0 routes m.channel ≡ Some c → played_of routes (tape ++ m ∷ []) ≡ played_of routes tape
output_played routes tape m c e = played-push routes tape m ∙ ap (λ (o : Option ℕ). played_of routes tape ++ cond (not (is_some o)) (m ∷ []) []) e ∙ append-nil (played_of routes tape)

message_played : (routes : List Route) (tape : List Token) (m : Token) → writes_from 0 routes m.channel ≡ None → played_of routes (tape ++ m ∷ []) ≡ played_of routes tape ++ m ∷ []
message_played routes tape m e = played-push routes tape m ∙ ap (λ (o : Option ℕ). played_of routes tape ++ cond (not (is_some o)) (m ∷ []) []) e

-- On a channel that no component writes all messages are played ones.
pub all_played : (routes : List Route) (channel : ℕ) (tape : List Token) → writes_from 0 routes channel ≡ None → on_channel channel (played_of routes tape) ≡ on_channel channel tape
all_played routes channel [] none = refl
all_played routes channel (m ∷ tape) none = by (all_played routes channel tape none) (eqb_tells m.channel channel) (writes_from 0 routes m.channel) refl
  where
    some_none : {a : ℕ} → Some a ≡ None → ⊥
    some_none e = cc

    by : on_channel channel (played_of routes tape) ≡ on_channel channel tape → ((m.channel == channel ≡ true) × (m.channel ≡ channel)) ⊎ ((m.channel == channel ≡ false) × (m.channel ≢ channel)) → (o : Option ℕ) → writes_from 0 routes m.channel ≡ o
        → on_channel channel (played_of routes (m ∷ tape)) ≡ on_channel channel (m ∷ tape)
    by rest (inl h) (Some c) e = absurd (some_none (sym e ∙ ap (writes_from 0 routes) h.1 ∙ none))
    by rest (inl h) None e =
        ap (λ (o : Option ℕ). on_channel channel (cond (not (is_some o)) (m ∷ played_of routes tape) (played_of routes tape))) e
        ∙ ap (λ b. cond b (m ∷ on_channel channel (played_of routes tape)) (on_channel channel (played_of routes tape))) h.0
        ∙ ap (λ l. m ∷ l) rest ∙ sym (ap (λ b. cond b (m ∷ on_channel channel tape) (on_channel channel tape)) h.0)
    by rest (inr h) (Some c) e =
        ap (λ (o : Option ℕ). on_channel channel (cond (not (is_some o)) (m ∷ played_of routes tape) (played_of routes tape))) e
        ∙ rest ∙ sym (ap (λ b. cond b (m ∷ on_channel channel tape) (on_channel channel tape)) h.0)
    by rest (inr h) None e =
        ap (λ (o : Option ℕ). on_channel channel (cond (not (is_some o)) (m ∷ played_of routes tape) (played_of routes tape))) e
        ∙ ap (λ b. cond b (m ∷ on_channel channel (played_of routes tape)) (on_channel channel (played_of routes tape))) h.0
        ∙ rest ∙ sym (ap (λ b. cond b (m ∷ on_channel channel tape) (on_channel channel tape)) h.0)

-- A message with the next number of its channel, of which there is room.
grown : {t : Task} {n : ℕ} {tape : List Token} (k : ℕ) (m : Token) → m.seq ≡ length (on_channel m.channel tape) + 1 → played_of (routes_of t.plans) (tape ++ m ∷ []) ≡ take k t.tokens → k ≤ length t.tokens
    → length (on_channel m.channel tape) + 1 ≤ planned_count (routes_of t.plans) t.counts m.channel → m.channel < length t.counts → IsTaped t n tape → IsTaped t k (tape ++ m ∷ [])
grown {t} {n} {tape} k m number its few fits known h = record {
  numbered = snoc_at (λ before (y : Token). y.seq ≡ length (on_channel y.channel before) + 1) tape m h.numbered number;
  its = its;
  few = few;
  room = λ channel. elim (place m.channel channel) [
    | inl e ↦ rw (on_channel-own channel tape m e, sym e) (one_more (on_channel m.channel tape) (planned_count (routes_of t.plans) t.counts m.channel) fits)
    | inr e ↦ rw (on_channel-other channel tape m e) (h.room channel)
  ];
  channels = λ i s at. elim (get_snoc tape m i s at) [
    | inl b ↦ h.channels i s b
    | inr b ↦ subst (λ (y : Token). y.channel < length t.counts) b.1 known
  ];
}
  where
    one_more : (xs : List Token) (most : ℕ) → length xs + 1 ≤ most → length (xs ++ m ∷ []) ≤ most
    one_more xs most l = omega (arith, l, length-append xs (m ∷ []))

-- An output of a component comes onto the tape.
module _ {t : Task} {told : List TraceComponent} {w : Walk} (h : IsWalked t told w) (c : ℕ) (x : Route) (component : TraceComponent) (f g : Follower) (m : Token)
    (at : slice_get (routes_of t.plans) c ≡ Some x) (its : slice_get told c ≡ Some component) (is : slice_get w.followers.items c ≡ Some f) (s : Stays f g) (sends : Sends x component g w.tape.items m) where
  output_taped : IsTaped t w.played (w.tape.items ++ m ∷ [])
  output_taped =
      let written : writes_from 0 (routes_of t.plans) m.channel ≡ Some c = ap (writes_from 0 (routes_of t.plans)) sends.its ∙ writes_own h.known.wired c x at in
      let own : on_channel x.out (w.tape.items ++ m ∷ []) ≡ on_channel x.out w.tape.items ++ m ∷ [] = on_channel-own x.out w.tape.items m sends.its in
      let outputs : length (on_channel x.out w.tape.items) + 1 ≡ length (outs x.out g.routine.calls) = sym (length-append (on_channel x.out w.tape.items) (m ∷ [])) ∙ sym (ap length own) ∙ ap length sends.follows.sent in
      let few : length (on_channel x.out w.tape.items) + 1 ≤ planned_count (routes_of t.plans) t.counts x.out =
      rw (h.known.wired.planned c x at) (fits _ outputs (outs_few x.out g.routine.calls) sends.few (h.taped.room (first_reader x))) in
      grown w.played m (rw sends.its sends.number) (output_played (routes_of t.plans) w.tape.items m c written ∙ h.taped.its) h.taped.few (rw sends.its few) (rw sends.its (h.known.wired.outs_known c x at)) h.taped
    where
      fits : (a : ℕ) {b p q r : ℕ} → a + 1 ≡ b → b ≤ p → p ≤ q → q ≤ r → a + 1 ≤ r
      fits a i j k l = omega (arith, i, j, k, l)

  output_followed : AreFollowed t told (set w.followers.items c g) (w.tape.items ++ m ∷ [])
  output_followed d y k f' at' its' is' = elim (get_set w.followers.items c d g f' is') [
    | inl e ↦
        let same_x : x ≡ y = some_one (sym at ∙ ap (slice_get (routes_of t.plans)) (sym e.0) ∙ at') in
        let same_k : component ≡ k = some_one (sym its ∙ ap (slice_get told) (sym e.0) ∙ its') in
        subst (λ (z : Follower). Follows y k z (w.tape.items ++ m ∷ [])) e.1 (subst (λ (z : TraceComponent). Follows y z g (w.tape.items ++ m ∷ [])) same_k (subst (λ (z : Route). Follows z component g (w.tape.items ++ m ∷ [])) same_x sends.follows))
    | inr e ↦ others_follow y k f' w.tape.items m (λ q. e.0 (h.known.wired.own_outs d c y x at' at (sym q ∙ sends.its))) (h.followed d y k f' at' its' e.1)
  ]

-- A message that is played comes onto the tape.
module _ {t : Task} {told : List TraceComponent} {w : Walk} (h : IsWalked t told w) (may : MayJudge t) (numbered : IsNumbered t.tokens) (m : Token) (is : slice_get t.tokens w.played ≡ Some m) where
  unwritten : writes_from 0 (routes_of t.plans) m.channel ≡ None
  unwritten = may.made.unwritten w.played m is

  so_far : on_channel m.channel w.tape.items ≡ on_channel m.channel (take w.played t.tokens)
  so_far = sym (all_played (routes_of t.plans) m.channel w.tape.items unwritten) ∙ ap (on_channel m.channel) h.taped.its

  played_taped : IsTaped t (w.played + 1) (w.tape.items ++ m ∷ [])
  played_taped =
      let number : m.seq ≡ length (on_channel m.channel w.tape.items) + 1 = numbered w.played m is ∙ ap (λ l. length l + 1) (sym so_far) in
      let inside = slice_get_within t.tokens w.played m is in
      let most : length (on_channel m.channel w.tape.items) + 1 ≤ slice_index t.counts m.channel =
      rw (so_far, ← may.made.counted m.channel) (one_of m.channel t.tokens w.played m is refl) in
      grown (w.played + 1) m number
      (message_played (routes_of t.plans) w.tape.items m unwritten ∙ ap (λ l. l ++ m ∷ []) h.taped.its ∙ sym (take_next t.tokens w.played m is))
      (omega (arith, inside)) (rw (planned_root (routes_of t.plans) t.counts m.channel unwritten) most) (counted_known t.counts m.channel (length (on_channel m.channel w.tape.items)) most) h.taped
    where
      one_of : (channel : ℕ) (tokens : List Token) (n : ℕ) (m : Token) → slice_get tokens n ≡ Some m → m.channel ≡ channel → length (on_channel channel (take n tokens)) + 1 ≤ length (on_channel channel tokens)
      one_of channel [] n m e same = cc
      one_of channel (y ∷ tokens) zero m e same = elim (eqb_tells y.channel channel) [
        | inl q ↦ rw (ap (λ b. length (cond b (y ∷ on_channel channel tokens) (on_channel channel tokens))) q.0) (omega arith)
        | inr q ↦ absurd (q.1 (ap (λ (z : Token). z.channel) (some_one e) ∙ same))
      ]
      one_of channel (y ∷ tokens) (suc n) m e same = by (one_of channel tokens n m e same) (y.channel == channel)
        where
          by : length (on_channel channel (take n tokens)) + 1 ≤ length (on_channel channel tokens) → (b : Bool)
              → length (cond b (y ∷ on_channel channel (take n tokens)) (on_channel channel (take n tokens))) + 1 ≤ length (cond b (y ∷ on_channel channel tokens) (on_channel channel tokens))
          by l true = omega (arith, l)
          by l false = l

  played_followed : AreFollowed t told w.followers.items (w.tape.items ++ m ∷ [])
  played_followed d y k f' at' its' is' = others_follow y k f' w.tape.items m (λ q. unwritten_out (routes_of t.plans) m.channel unwritten d y at' (sym q)) (h.followed d y k f' at' its' is')

-- The entry of a message.
entry_is : (names : List (List ℕ)) (m : Token) (entry : TapeEntry) → slice_get names m.channel ≡ Some entry.name → m.seq ≡ entry.seq → tape_entry names m ≡ entry
entry_is names m entry named number =
    ap (λ (o : Option (List ℕ)). record { name = unwrap_or o []; seq = m.seq }) named ∙ ap (λ (n : ℕ). record { name = entry.name; seq = n }) number

-- The task of a walk is that of another one which was made for the same.
pub same_task : (wiring : Wiring) (list : PlayList) (w v : Walk) → v.fixed ≡ w.fixed → task_in wiring list v ≡ task_in wiring list w
same_task wiring list w v e = ap (λ (f : Fixed). record { names = wiring.names; plans = wiring.plans; counts = counts_in f; tokens = list.tokens; shadowed = list.shadowed; stop = stop_in f }) e

-- After an output.
module _ (wiring : Wiring) (list : PlayList) (told : List TraceComponent) (w : Walk) (h : IsWalked (task_in wiring list w) told w) (many : length told ≡ length wiring.plans) (c : ℕ) (inside : c < length wiring.plans)
    (p : Plan) (its_plan : p ≡ get_or wiring.plans c p) (k : TraceComponent) (its_told : k ≡ get_or told c k) (f : Follower) (its : f ≡ get_or w.followers.items c f) where
  plan_at : slice_get wiring.plans c ≡ Some p
  plan_at = there_is wiring.plans c p inside its_plan

  route_is : slice_get (routes_of wiring.plans) c ≡ Some (route_of p)
  route_is = route_at wiring.plans c p plan_at

  told_at : slice_get told c ≡ Some k
  told_at = there_is told c k (omega (arith, many, inside)) its_told

  inside_routes : c < length (routes_of wiring.plans)
  inside_routes = omega (arith, inside, length-map wiring.plans route_of)

  follower_at : slice_get w.followers.items c ≡ Some f
  follower_at = there_is w.followers.items c f (omega (arith, inside_routes, h.are_of.many)) its

  pub its_may : MayFollow (route_of p) f w.tape.items
  its_may = may_follow h.known h.are_of h.taped c (route_of p) f route_is follower_at

  pub its_follows : Follows (route_of p) k f w.tape.items
  its_follows = h.followed c (route_of p) k f route_is told_at follower_at

  pub output_walks : (g : Follower) (m : Token) → Stays f g → Sends (route_of p) k g w.tape.items m → (v : Walk) → v.followers.items ≡ set w.followers.items c g → v.tape.items ≡ w.tape.items ++ m ∷ [] → vec_capacity v.tape ≡ vec_capacity w.tape
      → v.played ≡ w.played → v.spent ≡ w.spent → v.fixed ≡ w.fixed → IsWalked (task_in wiring list v) told v
  output_walks g m s sends v followers tape capacity played spent fixed = subst (λ (t : Task). IsWalked t told v) (sym (same_task wiring list w v fixed)) record {
    known = h.known;
    are_of = rw followers (set_of c f g follower_at s h.are_of);
    followed = rw (followers, tape) (output_followed h c (route_of p) k f g m route_is told_at follower_at s sends);
    taped = rw (played, tape) (output_taped h c (route_of p) k f g m route_is told_at follower_at s sends);
    spent = spent ∙ h.spent;
    roomy = rw capacity h.roomy;
  }

  pub output_puts : (m : Token) (g : Follower) (entry : TapeEntry) → Sends (route_of p) k g w.tape.items m → slice_get wiring.names p.out ≡ Some entry.name → m.seq ≡ entry.seq → (v : Walk) → v.tape.items ≡ w.tape.items ++ m ∷ [] → Puts wiring.names entry w v
  output_puts m g entry sends named number v tape = record {
    token = m;
    put = tape;
    told = entry_is wiring.names m entry (ap (slice_get wiring.names) sends.its ∙ named) number;
  }

-- After a message that was played.
module _ (wiring : Wiring) (list : PlayList) (told : List TraceComponent) (w : Walk) (h : IsWalked (task_in wiring list w) told w) (may : MayJudge (task_in wiring list w)) (numbered : IsNumbered list.tokens) (m : Token) (is : slice_get list.tokens w.played ≡ Some m) where
  pub played_walks : (v : Walk) → v.followers ≡ w.followers → v.tape.items ≡ w.tape.items ++ m ∷ [] → vec_capacity v.tape ≡ vec_capacity w.tape → v.played ≡ w.played + 1 → v.spent ≡ w.spent → v.fixed ≡ w.fixed → IsWalked (task_in wiring list v) told v
  played_walks v followers tape capacity played spent fixed = subst (λ (t : Task). IsWalked t told v) (sym (same_task wiring list w v fixed)) record {
    known = h.known;
    are_of = rw followers h.are_of;
    followed = rw (followers, tape) (played_followed h may numbered m is);
    taped = rw (played, tape) (played_taped h may numbered m is);
    spent = spent ∙ h.spent;
    roomy = rw capacity h.roomy;
  }

  pub played_puts : (entry : TapeEntry) → slice_get wiring.names m.channel ≡ Some entry.name → m.seq ≡ entry.seq → (v : Walk) → v.tape.items ≡ w.tape.items ++ m ∷ [] → Puts wiring.names entry w v
  played_puts entry named number v tape = record { token = m; put = tape; told = entry_is wiring.names m entry named number }

-- The component that writes a channel has it as its own.
pub writer_out : (plans : List Plan) (channel n : ℕ) → position (λ (p : Plan). p.out == channel) plans ≡ Some n → (p : Plan) → slice_get plans n ≡ Some p → p.out ≡ channel
writer_out plans channel n e p at =
    let found = (position-Some (λ (q : Plan). q.out == channel) plans n p e).1 in
    elim (eqb_tells p.out channel) [
      | inl h ↦ h.1
      | inr h ↦ absurd (true_false (sym found ∙ ap (λ (q : Plan). q.out == channel) (get_there plans n p p at) ∙ h.0))
    ]
  where
    true_false : true ≡ false → ⊥
    true_false q = cc

-- So many entries of a tape were followed.
pub record IsPutTo (wiring : Wiring) (list : PlayList) (trace : Trace) (first : Walk) (n : ℕ) (w : Walk) : Type 0 where
  pub walked : IsWalked (task_in wiring list w) trace.components w
  pub told : map (tape_entry wiring.names) w.tape.items ≡ take n trace.tape
  pub same : w.fixed ≡ first.fixed

pub put_first : {wiring : Wiring} {list : PlayList} {trace : Trace} {w : Walk} → IsWalked (task_in wiring list w) trace.components w → w.tape.items ≡ [] → IsPutTo wiring list trace w 0 w
put_first {wiring} h none = record { walked = h; told = ap (map (tape_entry wiring.names)) none; same = refl }

pub put_next : {wiring : Wiring} {list : PlayList} {trace : Trace} {first v w : Walk} (n : ℕ) (entry : TapeEntry) → slice_get trace.tape n ≡ Some entry → IsPutTo wiring list trace first n v → IsWalked (task_in wiring list w) trace.components w → Puts wiring.names entry v w → w.fixed ≡ v.fixed
    → IsPutTo wiring list trace first (n + 1) w
put_next {wiring} {list} {trace} {first} {v} {w} n entry at h walked puts same = record {
  walked = walked;
  told = ap (map (tape_entry wiring.names)) puts.put ∙ map-append (tape_entry wiring.names) v.tape.items (puts.token ∷ []) ∙ ap (λ l. l ++ tape_entry wiring.names puts.token ∷ []) h.told ∙ ap (λ y. take n trace.tape ++ y ∷ []) puts.told ∙ sym (take_next trace.tape n entry at);
  same = same ∙ h.same;
}

-- What a walk may judge is the same as long as it was made for the same.
pub same_may : (wiring : Wiring) (list : PlayList) (w v : Walk) → v.fixed ≡ w.fixed → MayJudge (task_in wiring list w) → MayJudge (task_in wiring list v)
same_may wiring list w v e h = subst MayJudge (sym (same_task wiring list w v e)) h

pub taken_all : {X : Type 0} (n : ℕ) (xs : List X) → length xs ≤ n → take n xs ≡ xs
taken_all zero [] l = refl
taken_all zero (x ∷ xs) l = absurd (omega (arith, l))
taken_all (suc n) [] l = refl
taken_all (suc n) (x ∷ xs) l = ap (λ ys. x ∷ ys) (taken_all n xs (omega (arith, l)))

-- Components were followed to their end, up to one of them.
pub record IsEndedTo (t : Task) (told : List TraceComponent) (first : Walk) (n : ℕ) (w : Walk) : Type 0 where
  pub are_of : AreOf t w.followers.items
  pub followed : AreFollowed t told w.followers.items w.tape.items
  pub ended : (c : ℕ) (x : Route) (k : TraceComponent) (f : Follower) → c < n → slice_get (routes_of t.plans) c ≡ Some x → slice_get told c ≡ Some k → slice_get w.followers.items c ≡ Some f
      → HasEnded x k (names_it t.stop c) f w.tape.items
  pub same : w ≡ record first { followers = w.followers }

pub ended_first : {t : Task} {told : List TraceComponent} {w : Walk} → IsWalked t told w → IsEndedTo t told w 0 w
ended_first h = record { are_of = h.are_of; followed = h.followed; ended = λ c x k f l. absurd (omega (arith, l)); same = refl }

pub ended_next : {t : Task} {told : List TraceComponent} {first v w : Walk} (n : ℕ) (x : Route) (k : TraceComponent) (f g : Follower) → slice_get (routes_of t.plans) n ≡ Some x → slice_get told n ≡ Some k → slice_get v.followers.items n ≡ Some f
    → IsEndedTo t told first n v → Stays f g → HasEnded x k (names_it t.stop n) g v.tape.items → w ≡ record v { followers = w.followers } → w.followers.items ≡ set v.followers.items n g → IsEndedTo t told first (n + 1) w
ended_next {t} {told} {first} {v} {w} n x k f g at its is h s e only followers = record {
  are_of = rw followers (set_of n f g is s h.are_of);
  followed = λ d y j f' at' its' is'. rw tape (elim (get_set v.followers.items n d g f' (ap (λ l. slice_get l d) (sym followers) ∙ is')) [
    | inl q ↦ subst (λ (z : Follower). Follows y j z v.tape.items) q.1 (same_follows y j (same_x d y q.0 at') (same_k d j q.0 its') e.follows)
    | inr q ↦ h.followed d y j f' at' its' q.1
  ]);
  ended = λ d y j f' l at' its' is'. rw tape (elim (get_set v.followers.items n d g f' (ap (λ l. slice_get l d) (sym followers) ∙ is')) [
    | inl q ↦ subst (λ (z : Follower). HasEnded y j (names_it t.stop d) z v.tape.items) q.1 (subst (λ (z : ℕ). HasEnded y j (names_it t.stop z) g v.tape.items) (sym q.0) (same_ended y j (same_x d y q.0 at') (same_k d j q.0 its') e))
    | inr q ↦ h.ended d y j f' (omega (arith, l, q.0)) at' its' q.1
  ]);
  same = only ∙ ap (λ (z : Walk). record z { followers = w.followers }) h.same;
}
  where
    tape : w.tape.items ≡ v.tape.items
    tape = ap (λ (z : Walk). z.tape.items) only

    same_x : (d : ℕ) (y : Route) → d ≡ n → slice_get (routes_of t.plans) d ≡ Some y → x ≡ y
    same_x d y q at' = some_one (sym at ∙ ap (slice_get (routes_of t.plans)) (sym q) ∙ at')

    same_k : (d : ℕ) (j : TraceComponent) → d ≡ n → slice_get told d ≡ Some j → k ≡ j
    same_k d j q its' = some_one (sym its ∙ ap (slice_get told) (sym q) ∙ its')

    same_follows : (y : Route) (j : TraceComponent) → x ≡ y → k ≡ j → Follows x k g v.tape.items → Follows y j g v.tape.items
    same_follows y j a b p = subst (λ (z : TraceComponent). Follows y z g v.tape.items) b (subst (λ (z : Route). Follows z k g v.tape.items) a p)

    same_ended : (y : Route) (j : TraceComponent) → x ≡ y → k ≡ j → HasEnded x k (names_it t.stop n) g v.tape.items → HasEnded y j (names_it t.stop n) g v.tape.items
    same_ended y j a b p = subst (λ (z : TraceComponent). HasEnded y z (names_it t.stop n) g v.tape.items) b (subst (λ (z : Route). HasEnded z k (names_it t.stop n) g v.tape.items) a p)

-- All of them were.
pub ended_all : {t : Task} {told : List TraceComponent} {first : Walk} {n : ℕ} {w : Walk} → IsWalked t told first → IsEndedTo t told first n w → length (routes_of t.plans) ≤ n → HasWalked t told w
ended_all {t} {told} {first} {n} {w} walked h l = record {
  known = walked.known;
  are_of = h.are_of;
  ended = λ c x k f at its is. h.ended c x k f (less (slice_get_within (routes_of t.plans) c x at) l) at its is;
  taped = rw (ap (λ (z : Walk). z.played) h.same, ap (λ (z : Walk). z.tape.items) h.same) walked.taped;
  spent = ap (λ (z : Walk). z.spent) h.same ∙ walked.spent;
  roomy = rw (ap (λ (z : Walk). vec_capacity z.tape) h.same) walked.roomy;
}
  where
    less : {a b c : ℕ} → a < b → b ≤ c → a < c
    less p q = omega (arith, p, q)

-- A component of a walk whose components are followed to their end one after another.
module _ (wiring : Wiring) (list : PlayList) (told : List TraceComponent) (first v : Walk) (walked : IsWalked (task_in wiring list first) told first) (n : ℕ) (h : IsEndedTo (task_in wiring list first) told first n v) (many : length told ≡ length wiring.plans) (inside : n < length wiring.plans)
    (p : Plan) (its_plan : p ≡ get_or wiring.plans n p) (k : TraceComponent) (its_told : k ≡ get_or told n k) (f : Follower) (its : f ≡ get_or v.followers.items n f) where
  its_route : slice_get (routes_of wiring.plans) n ≡ Some (route_of p)
  its_route = route_at wiring.plans n p (there_is wiring.plans n p inside its_plan)

  its_component : slice_get told n ≡ Some k
  its_component = there_is told n k (omega (arith, many, inside)) its_told

  its_follower : slice_get v.followers.items n ≡ Some f
  its_follower = there_is v.followers.items n f (omega (arith, inside, length-map wiring.plans route_of, h.are_of.many)) its

  same_tape : v.tape.items ≡ first.tape.items
  same_tape = ap (λ (z : Walk). z.tape.items) h.same

  pub end_may : MayFollow (route_of p) f v.tape.items
  end_may = rw same_tape (may_follow walked.known h.are_of walked.taped n (route_of p) f its_route its_follower)

  pub end_numbered : IsNumbered v.tape.items
  end_numbered = rw same_tape walked.taped.numbered

  pub end_follows : Follows (route_of p) k f v.tape.items
  end_follows = h.followed n (route_of p) k f its_route its_component its_follower

  pub end_next : (g : Follower) (w : Walk) (stopped : Bool) → stopped ≡ names_it (stop_in first.fixed) n → Stays f g → HasEnded (route_of p) k stopped g v.tape.items → w ≡ record v { followers = w.followers } → w.followers.items ≡ set v.followers.items n g
      → IsEndedTo (task_in wiring list first) told first (n + 1) w
  end_next g w stopped is s e only followers = ended_next n (route_of p) k f g its_route its_component its_follower h s (subst (λ (b : Bool). HasEnded (route_of p) k b g v.tape.items) is e) only followers

pub end_inside : (wiring : Wiring) (n : ℕ) → n < length wiring.plans → (fs : List Follower) → length fs ≡ length (routes_of wiring.plans) → n < length fs
end_inside wiring n l fs many = omega (arith, l, many, length-map wiring.plans route_of)

pub ended_walks : (wiring : Wiring) (list : PlayList) (told : List TraceComponent) (first : Walk) (n : ℕ) (w : Walk) → IsWalked (task_in wiring list first) told first → IsEndedTo (task_in wiring list first) told first n w → length wiring.plans ≤ n → HasWalked (task_in wiring list w) told w
ended_walks wiring list told first n w walked h l =
    subst (λ (t : Task). HasWalked t told w) (sym (same_task wiring list first w (ap (λ (z : Walk). z.fixed) h.same))) (ended_all walked h (omega (arith, l, length-map wiring.plans route_of)))

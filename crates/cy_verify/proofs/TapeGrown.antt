-- What a message more on the tape keeps of the components that are followed.
use Rattle.std.proofs.Common.{ℕ, zero, suc, ◌+◌, ◌≡◌, ◌≢◌, ◌≤◌, ◌<◌, refl, sym, ◌∙◌, ap, subst, inl, inr, arith, List, [], ◌∷◌, ◌++◌, length, take, drop, map, filter, Some, None, Option, slice_get, slice_index, ◌==◌, Bool, true, false, cond, is_some, if◌then◌else◌, length-append, le_of_lt}
use Rattle.std.proofs.lemmas.Bool.Decides.{eqb_tells}
use Rattle.wake_core.proofs.Cited.{outs_none, on_channel-own, on_channel-other, outs-push, length_outs-push, fused_arrived, tape_stands}
use Rattle.std.proofs.lemmas.List.{take-append-le, take-append-drop, length-take}
use Rattle.std.proofs.lemmas.Option.{slice_get_within}
use Rattle.std.proofs.Math.Seq.{take-append_seam}
use Rattle.cy_msg.specs.declared.token.Token.{Token}
use Rattle.cy_msg.specs.declared.token.Tuple.{Tuple}
use Rattle.cy_msg.specs.Tuple.{messages_of}
use Rattle.cy_msg.specs.Tokens.{on_channel, IsNumbered}
use Rattle.cy_msg.proofs.Lists.{get_snoc, get_append}
use Rattle.cy_fuse.specs.Fusion.{Arrival, fused}
use Rattle.cy_comp.specs.declared.call.Call.{Call}
use Rattle.cy_comp.specs.declared.call.Out.{Out}
use Rattle.cy_comp.specs.Calls.{outs, output}
use Rattle.wake_core.specs.declared.route.Route.{Route}
use Rattle.wake_core.specs.Plain.{of_role}
use Rattle.wake_core.specs.Sound.{IsOutput, StandsOn}
use Rattle.cy_trace.specs.TraceOfRun.{trace_calls}
use Rattle.cy_trace.specs.declared.trace.TraceComponent.{TraceComponent}
use Rattle.cy_verify.specs.declared.follower.Follower.{Follower}
use Rattle.cy_verify.specs.private.Following.{IsSearched, IsLawful, Follows, HasCalled, Sends, Stays}
use Rattle.cy_fuse.specs.Laws.{FetchesFind}
use Rattle.cy_verify.proofs.Heard.{stays_itself, stays_then}
use Rattle.cy_verify.proofs.CallMade.{calls_on}

searched_grown : (x : Route) (arrivals : List Arrival) (searched : List ℕ) (tape : List Token) (t : Token) → IsSearched x arrivals searched tape → IsSearched x arrivals searched (tape ++ t ∷ [])
searched_grown x arrivals searched tape t h = record {
  four = h.four;
  within = λ j. let l = h.within j in omega (arith, l, length-append tape (t ∷ []));
  heard = λ j channel is. h.heard j channel is ∙ ap (on_channel channel) (sym (take-append-le (slice_index searched j) tape (t ∷ []) (h.within j)));
  roles = h.roles;
}

-- What holds of each on a channel holds of each that came to a reader of it.
pub role_each : (P : Token → Type 0) (role : ℕ) (arrivals : List Arrival) → ((n : ℕ) (t : Token) → slice_get (of_role role arrivals) n ≡ Some t → P t)
    → (n : ℕ) (a : Arrival) → slice_get arrivals n ≡ Some a → a.0 ≡ role → P a.1
role_each P role [] all n a e is = cc
role_each P role (b ∷ arrivals) all zero a e is = let same : b ≡ a = cc in elim (eqb_tells b.0 role) [
  | inl h ↦ subst (λ (x : Arrival). P x.1) same (all 0 b.1 (ap (λ c. slice_get (map (λ (x : Arrival). x.1) (cond c (b ∷ filter (λ x. x.0 == role) arrivals) (filter (λ x. x.0 == role) arrivals))) 0) h.0))
  | inr h ↦ absurd (h.1 (ap (λ (x : Arrival). x.0) same ∙ is))
]
role_each P role (b ∷ arrivals) all (suc n) a e is = role_each P role arrivals (rest (b.0 == role) all) n a e is
  where
    rest : (c : Bool) → ((n : ℕ) (t : Token) → slice_get (map (λ (x : Arrival). x.1) (cond c (b ∷ filter (λ x. x.0 == role) arrivals) (filter (λ x. x.0 == role) arrivals))) n ≡ Some t → P t)
        → (n : ℕ) (t : Token) → slice_get (of_role role arrivals) n ≡ Some t → P t
    rest true all n t e = all (suc n) t e
    rest false all n t e = all n t e

filter_each : (P : Token → Type 0) (p : Token → Bool) (tape : List Token) → ((n : ℕ) (t : Token) → slice_get tape n ≡ Some t → P t)
    → (n : ℕ) (t : Token) → slice_get (filter p tape) n ≡ Some t → P t
filter_each P p [] all n t e = cc
filter_each P p (s ∷ tape) all n t e = go (λ m e. filter_each P p tape (λ i u is. all (suc i) u is) m t e) (p s) n e
  where
    go : ((m : ℕ) → slice_get (filter p tape) m ≡ Some t → P t) → (b : Bool) (n : ℕ) → slice_get (cond b (s ∷ filter p tape) (filter p tape)) n ≡ Some t → P t
    go rest true zero e = let same : s ≡ t = cc in subst P same (all 0 s refl)
    go rest true (suc n) e = rest n e
    go rest false n e = rest n e

take_each : {X : Type 0} (P : X → Type 0) (k : ℕ) (xs : List X) → ((n : ℕ) (x : X) → slice_get xs n ≡ Some x → P x) → (n : ℕ) (x : X) → slice_get (take k xs) n ≡ Some x → P x
take_each P k xs all n x e = all n x (ap (λ ys. slice_get ys n) (sym (take-append-drop k xs)) ∙ get_append (take k xs) (drop k xs) n x e)

pub index_of : (xs : List ℕ) (n : ℕ) → n < length xs → (c : ℕ) × (slice_get xs n ≡ Some c)
index_of [] n l = absurd (omega arith)
index_of (x ∷ xs) zero l = (x, refl)
index_of (x ∷ xs) (suc n) l = index_of xs n (omega arith)

-- Every message that came stands on the tape.
pub came_stands : (x : Route) (arrivals : List Arrival) (searched : List ℕ) (tape : List Token) → IsNumbered tape → IsSearched x arrivals searched tape → (n : ℕ) (a : Arrival) → slice_get arrivals n ≡ Some a → StandsOn tape a.1
came_stands x arrivals searched tape numbered h n a e =
    let r = index_of x.readers a.0 (h.roles n a e) in
    role_each (StandsOn tape) a.0 arrivals
    (λ i t is. filter_each (StandsOn tape) (λ s. s.channel == r.0) (take (slice_index searched a.0) tape) (take_each (StandsOn tape) (slice_index searched a.0) tape (tape_stands tape numbered)) i t
    (ap (λ l. slice_get l i) (sym (h.heard a.0 r.0 r.1)) ∙ is))
    n a e refl

-- .. and so does every message of a tuple that was fused.
pub fused_stands : (x : Route) (arrivals : List Arrival) (searched : List ℕ) (tape : List Token) → IsNumbered tape → IsSearched x arrivals searched tape → (k : ℕ) (tuple : Tuple) → slice_get (fused arrivals (length x.readers)) k ≡ Some tuple
    → (j : ℕ) (m : Token) → slice_get (messages_of tuple) j ≡ Some m → StandsOn tape m
fused_stands x arrivals searched tape numbered h k tuple e j m of = fused_arrived (StandsOn tape) (length x.readers) arrivals (came_stands x arrivals searched tape numbered h) k tuple e j m of

-- A message more, of which all that was fused stands before it where it is an output of this component.
lawful_grown : (x : Route) (arrivals : List Arrival) (calls : List Call) (tape : List Token) (t : Token)
    → ((n : ℕ) (call : Call) → IsOutput x calls n call t → (k : ℕ) (tuple : Tuple) → k < call.tail → slice_get (fused arrivals (length x.readers)) k ≡ Some tuple → (j : ℕ) (m : Token) → slice_get (messages_of tuple) j ≡ Some m → StandsOn tape m)
    → IsLawful x arrivals calls tape → IsLawful x arrivals calls (tape ++ t ∷ [])
lawful_grown x arrivals calls tape t new h = record {
  lawful = h.lawful;
  before = λ n call s i out at k tuple l item j m of. elim (get_snoc tape t i s at) [
    | inl b ↦ rw (take-append-le i tape (t ∷ []) (le_of_lt (slice_get_within tape i s b))) (h.before n call s i out b k tuple l item j m of)
    | inr b ↦ rw (b.0, take-append_seam tape (t ∷ [])) (new n call (subst (λ z. IsOutput x calls n call z) (sym b.1) out) k tuple l item j m of)
  ];
  own = h.own;
}

-- A message of another channel comes onto the tape.
pub others_follow : (x : Route) (told : TraceComponent) (f : Follower) (tape : List Token) (t : Token) → t.channel ≢ x.out → Follows x told f tape → Follows x told f (tape ++ t ∷ [])
others_follow x told f tape t other h = record {
  searched = searched_grown x f.visitor.arrivals f.searched tape t h.searched;
  lawful = lawful_grown x f.visitor.arrivals f.routine.calls tape t (λ n call out. absurd (other (ap (λ (s : Token). s.channel) out.token))) h.lawful;
  are_told = h.are_told;
  ended = h.ended;
  outputs = h.outputs;
  sent = on_channel-other x.out tape t other ∙ h.sent;
  none_waits = h.none_waits;
}

-- The output of its last call comes onto the tape.
pub own_follows : FetchesFind → (x : Route) (told : TraceComponent) (f : Follower) (tape : List Token) (out : Out) → 1 ≤ length x.readers → IsNumbered tape → f.routine.pending ≡ Some out → HasCalled x told f tape
    → Sends x told (record f { routine = record f.routine { pending = None }; outputs = f.outputs + 1 }) tape (output x.out (f.outputs + 1) out)
own_follows law x told f tape out some_reader numbered waits h = record {
  its = refl;
  few = calls_on law x f.visitor.arrivals f.searched f.routine.calls tape some_reader h.searched h.lawful;
  number = ap (λ n. n + 1) (h.outputs ∙ ap length (sym h.sent));
  follows = record {
    searched = searched_grown x f.visitor.arrivals f.searched tape t h.searched;
    lawful = lawful_grown x f.visitor.arrivals f.routine.calls tape t (λ n call is k tuple l item j m of. fused_stands x f.visitor.arrivals f.searched tape numbered h.searched k tuple item j m of) h.lawful;
    are_told = h.are_told;
    ended = h.ended;
    outputs = ap (λ n. n + 1) h.outputs ∙ sym (length_outs-push x.out h.earlier h.call out some) ∙ ap (λ (cs : List Call). length (outs x.out cs)) (sym h.made);
    sent = on_channel-own x.out tape t refl ∙ ap (λ l. l ++ t ∷ []) h.sent ∙ ap (λ n. outs x.out h.earlier ++ output x.out (n + 1) out ∷ []) h.outputs ∙ sym (outs-push x.out h.earlier h.call out some) ∙ ap (outs x.out) (sym h.made);
    none_waits = refl;
  };
}
  where
    t : Token
    t = output x.out (f.outputs + 1) out

    some : h.call.out ≡ Some out
    some = sym h.waits ∙ waits

-- A call without an output leaves all as it was.
pub silent_follows : (x : Route) (told : TraceComponent) (f : Follower) (tape : List Token) → f.routine.pending ≡ None → HasCalled x told f tape → Follows x told f tape
silent_follows x told f tape waits h = record {
  searched = h.searched;
  lawful = h.lawful;
  are_told = h.are_told;
  ended = h.ended;
  outputs = h.outputs ∙ ap length (sym none);
  sent = h.sent ∙ sym none;
  none_waits = waits;
}
  where
    none : outs x.out f.routine.calls ≡ outs x.out h.earlier
    none = ap (outs x.out) h.made ∙ outs_none x.out h.earlier h.call (sym h.waits ∙ waits)

-- A component was followed further.
pub record Following (x : Route) (told : TraceComponent) (tape : List Token) (f g : Follower) : Type 0 where
  pub stays : Stays f g
  pub follows : Follows x told g tape

pub following_itself : {x : Route} {told : TraceComponent} {tape : List Token} {f : Follower} → Follows x told f tape → Following x told tape f f
following_itself {f = f} h = record { stays = stays_itself f; follows = h }

-- An output that is taken changes nothing of what stays.
pub sent_stays : {f g : Follower} (n : ℕ) → g ≡ record f { routine = record f.routine { pending = None }; outputs = n } → Stays f g
sent_stays n is = record {
  kind = ap (λ (h : Follower). h.routine.kind) is;
  roles = ap (λ (h : Follower). h.visitor.roles) is;
  overflow = ap (λ (h : Follower). h.visitor.overflow) is;
  queue = ap (λ (h : Follower). h.visitor.queue) is;
  arrivals = ap (λ (h : Follower). length h.visitor.arrivals + h.visitor.spare) is;
  calls = ap (λ (h : Follower). length h.routine.calls + h.routine.spare) is;
}

pub sends_by : FetchesFind → {x : Route} {told : TraceComponent} {tape : List Token} {f g : Follower} {r t : Token} (out : Out) → 1 ≤ length x.readers → IsNumbered tape → f.routine.pending ≡ Some out → HasCalled x told f tape
    → g ≡ record f { routine = record f.routine { pending = None }; outputs = f.outputs + 1 } → r ≡ output x.out (f.outputs + 1) out → Some r ≡ Some t → Sends x told g tape t
sends_by law {x} {told} {tape} {f} {g} {r} {t} out some numbered waits h is its e =
    subst (λ (s : Token). Sends x told g tape s) (sym its ∙ one e) (subst (λ (s : Follower). Sends x told s tape (output x.out (f.outputs + 1) out)) (sym is) (own_follows law x told f tape out some numbered waits h))
  where
    one : {a b : Token} → Some a ≡ Some b → a ≡ b
    one e = cc

-- .. up to so many calls.
pub record FollowingTo (x : Route) (told : TraceComponent) (tape : List Token) (f : Follower) (n : ℕ) (g : Follower) : Type 0 where
  pub following : Following x told tape f g
  pub many : length g.routine.calls ≡ n

pub length_traced : (before : ℕ) (calls : List Call) → length (trace_calls before calls) ≡ length calls
length_traced before [] = refl
length_traced before (y ∷ calls) = ap suc (length_traced (before + (if is_some y.out then 1 else 0)) calls)

calls_told_few : (x : Route) (told : TraceComponent) (tape : List Token) (g : Follower) → Follows x told g tape → length g.routine.calls ≤ length told.calls
calls_told_few x told tape g h =
    let same : length g.routine.calls ≡ length (take (length g.routine.calls) told.calls) = sym (length_traced 0 g.routine.calls) ∙ ap length h.are_told.1 in
    omega (arith, same, length-take (length g.routine.calls) told.calls)

pub all_called : {x : Route} {told : TraceComponent} {tape : List Token} {f g : Follower} {n : ℕ} → FollowingTo x told tape f n g → length told.calls ≤ n → length g.routine.calls ≡ length told.calls
all_called {x} {told} {tape} {f} {g} h l = omega (arith, h.many, l, calls_told_few x told tape g h.following.follows)

pub none_of : {X : Type 0} (o : Option X) → false ≡ is_some o → o ≡ None
none_of None e = refl
none_of (Some x) e = cc

-- A call more without an output.
pub following_more : {x : Route} {told : TraceComponent} {tape : List Token} {f g h : Follower} {n : ℕ} → FollowingTo x told tape f n g → Stays g h → length h.routine.calls ≡ length g.routine.calls + 1 → h.routine.pending ≡ None → HasCalled x told h tape
    → FollowingTo x told tape f (n + 1) h
following_more {x} {told} {tape} {f} {g} {h} {n} i s one none called = record {
  following = record { stays = stays_then i.following.stays s; follows = silent_follows x told h tape none called };
  many = one ∙ ap (λ k. k + 1) i.many;
}

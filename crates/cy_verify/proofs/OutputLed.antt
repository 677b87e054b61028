-- The next message of the tape of a run is put out.
use Rattle.std.proofs.Common.{ℕ, zero, suc, ◌+◌, ◌-◌, ◌≡◌, ◌≤◌, Bool, refl, sym, ◌∙◌, ap, subst, inl, inr, arith, List, [], ◌∷◌, ◌++◌, length, take, Some, None, Option, slice_get, length-append}
use Rattle.std.proofs.lemmas.Option.{slice_get_within}
use Rattle.cy_msg.specs.declared.token.Token.{Token}
use Rattle.cy_msg.specs.Tokens.{on_channel}
use Rattle.cy_msg.proofs.Lists.{place, there, get_last, take_next}
use Rattle.cy_fuse.specs.Fusion.{Arrival}
use Rattle.cy_comp.specs.declared.call.Call.{Call}
use Rattle.cy_comp.specs.declared.call.Out.{Out}
use Rattle.cy_comp.specs.Calls.{LawfulCalls, tail_after, outs_after, outs, output, numbered}
use Rattle.wake_core.specs.declared.route.Route.{Route}
use Rattle.wake_core.specs.Sound.{IsOutput, StandsOn}
use Rattle.wake_core.proofs.Cited.{outs_take, outs-push, length_outs-push, tape_stands}
use Rattle.cy_trace.specs.declared.trace.TraceComponent.{TraceComponent}
use Rattle.cy_verify.specs.declared.follower.Follower.{Follower}
use Rattle.cy_verify.specs.private.Following.{HasCalled}
use Rattle.cy_verify.specs.private.Leading.{Ended, AreHere, Leads, CanCall, PutsOut}
use Rattle.cy_verify.proofs.CallLed.{tail_push}
use Rattle.cy_verify.proofs.TapeGrown.{FollowingTo}
use Rattle.cy_verify.proofs.Placed.{are_here}

one : {X : Type 0} {a b : X} → Some a ≡ Some b → a ≡ b
one e = cc

-- The call that has the k-th output.
record Owner (channel before k : ℕ) (calls : List Call) (t : Token) : Type 0 where
  n : ℕ
  call : Call
  made : slice_get calls n ≡ Some call
  out : Out
  some : call.out ≡ Some out
  count : length (outs_after channel before (take n calls)) ≡ k
  token : t ≡ output channel (before + k + 1) out

owner_from : (channel before : ℕ) (calls : List Call) (k : ℕ) (t : Token) → slice_get (outs_after channel before calls) k ≡ Some t → Owner channel before k calls t
owner_from channel before [] k t e = cc
owner_from channel before (x ∷ calls) k t e =
    by x.out refl (λ i e'. owner_from channel before calls i t e') (λ i e'. owner_from channel (before + 1) calls i t e')
  where
    put : (o : Option Out) → x.out ≡ o → (cs : List Call) → numbered channel before x.out (λ b. outs_after channel b cs) ≡ numbered channel before o (λ b. outs_after channel b cs)
    put o is cs = ap (λ (p : Option Out). numbered channel before p (λ b. outs_after channel b cs)) is

    own : (o : Out) → x.out ≡ Some o → ((i : ℕ) → slice_get (outs_after channel (before + 1) calls) i ≡ Some t → Owner channel (before + 1) i calls t)
        → (i : ℕ) → slice_get (output channel (before + 1) o ∷ outs_after channel (before + 1) calls) i ≡ Some t → Owner channel before i (x ∷ calls) t
    own o is later zero e' = let none : before + 1 ≡ before + 0 + 1 = omega arith in record {
      n = 0;
      call = x;
      made = refl;
      out = o;
      some = is;
      count = refl;
      token = sym (one e') ∙ ap (λ s. output channel s o) none;
    }
    own o is later (suc i) e' =
        let rest = later i e' in
        let more : before + 1 + i + 1 ≡ before + suc i + 1 = omega arith in
        record {
          n = suc rest.n;
          call = rest.call;
          made = rest.made;
          out = rest.out;
          some = rest.some;
          count = ap length (put (Some o) is (take rest.n calls)) ∙ ap suc rest.count;
          token = rest.token ∙ ap (λ s. output channel s rest.out) more;
        }

    by : (o : Option Out) → x.out ≡ o → ((i : ℕ) → slice_get (outs_after channel before calls) i ≡ Some t → Owner channel before i calls t)
        → ((i : ℕ) → slice_get (outs_after channel (before + 1) calls) i ≡ Some t → Owner channel (before + 1) i calls t) → Owner channel before k (x ∷ calls) t
    by None is same later =
        let rest = same k (ap (λ l. slice_get l k) (sym (put None is calls)) ∙ e) in
        record {
          n = suc rest.n;
          call = rest.call;
          made = rest.made;
          out = rest.out;
          some = rest.some;
          count = ap length (put None is (take rest.n calls)) ∙ rest.count;
          token = rest.token;
        }
    by (Some o) is same later = own o is later k (ap (λ l. slice_get l k) (sym (put (Some o) is calls)) ∙ e)

outs_after_prefix : (channel before : ℕ) (calls : List Call) (q k : ℕ) (t : Token) → slice_get (outs_after channel before (take q calls)) k ≡ Some t → slice_get (outs_after channel before calls) k ≡ Some t
outs_after_prefix channel before calls zero k t e = cc
outs_after_prefix channel before [] (suc q) k t e = e
outs_after_prefix channel before (x ∷ calls) (suc q) k t e = by (λ i e'. outs_after_prefix channel before calls q i t e') (λ i e'. outs_after_prefix channel (before + 1) calls q i t e') x.out k e
  where
    by : ((i : ℕ) → slice_get (outs_after channel before (take q calls)) i ≡ Some t → slice_get (outs_after channel before calls) i ≡ Some t)
        → ((i : ℕ) → slice_get (outs_after channel (before + 1) (take q calls)) i ≡ Some t → slice_get (outs_after channel (before + 1) calls) i ≡ Some t)
        → (o : Option Out) (i : ℕ) → slice_get (numbered channel before o (λ b. outs_after channel b (take q calls))) i ≡ Some t → slice_get (numbered channel before o (λ b. outs_after channel b calls)) i ≡ Some t
    by same later None i e' = same i e'
    by same later (Some o) zero e' = e'
    by same later (Some o) (suc i) e' = later i e'

-- What the first calls put out all of them do.
pub outs_prefix : (channel : ℕ) (calls : List Call) (q k : ℕ) (t : Token) → slice_get (outs channel (take q calls)) k ≡ Some t → slice_get (outs channel calls) k ≡ Some t
unfolding outs
outs_prefix channel calls q k t e = outs_after_prefix channel 0 calls q k t e

-- The k-th output is that of a call.
record IsOwner (x : Route) (calls : List Call) (k : ℕ) (t : Token) : Type 0 where
  n : ℕ
  call : Call
  is : IsOutput x calls n call t
  count : length (outs x.out (take n calls)) ≡ k

owner : (x : Route) (calls : List Call) (k : ℕ) (t : Token) → slice_get (outs x.out calls) k ≡ Some t → IsOwner x calls k t
unfolding outs
owner x calls k t e =
    let o = owner_from x.out 0 calls k t e in
    let same : 0 + k + 1 ≡ length (outs_after x.out 0 (take o.n calls)) + 1 = omega (arith, o.count) in
    record {
      n = o.n;
      call = o.call;
      is = record { made = o.made; out = o.out; some = o.some; token = o.token ∙ ap (λ s. output x.out s o.out) same };
      count = o.count;
    }

-- The tails never fall.
tails_rise : (x : Route) (arrivals : List Arrival) (calls : List Call) → LawfulCalls x.kind arrivals (length x.readers) x.queue x.overflow calls
    → (m n : ℕ) (a b : Call) → slice_get calls n ≡ Some a → slice_get calls m ≡ Some b → n ≤ m → a.tail ≤ b.tail
tails_rise x arrivals calls l zero n a b at at' less =
    let none : n ≡ 0 = omega (arith, less) in
    let same : a ≡ b = one (sym at ∙ ap (slice_get calls) none ∙ at') in
    rw same (omega arith)
tails_rise x arrivals calls l (suc m) n a b at at' less = elim (place n (suc m)) [
  | inl e ↦
      let same : a ≡ b = one (sym at ∙ ap (slice_get calls) e ∙ at') in
      rw same (omega arith)
  | inr e ↦
      let before = there calls m (omega (arith, slice_get_within calls (suc m) b at')) in
      let more : suc m ≡ m + 1 = omega arith in
      let last : tail_after (take (suc m) calls) ≡ before.0.tail = ap (λ i. tail_after (take i calls)) more ∙ ap tail_after (take_next calls m before.0 before.1) ∙ tail_push (take m calls) before.0 in
      let rises = l.tails_rise (suc m) b at' in
      let rest = tails_rise x arrivals calls l m n a before.0 at before.1 (omega (arith, less, e)) in
      omega (arith, rest, last, rises)
]

-- A component was followed as a run leads, whose next message it puts out.
module _ (x : Route) (told : TraceComponent) (stopped : Bool) (r : Ended) (tape : List Token) (t : Token) (f : Follower) (lead : Leads x told stopped r f tape) (puts : PutsOut x r tape t) where
  tape_taken : take (length tape) r.tape ≡ tape
  tape_taken = sym lead.begins

  -- It is the output behind those on the tape.
  next_output : slice_get (outs x.out r.calls) (length (on_channel x.out tape)) ≡ Some t
  next_output =
      let stands = tape_stands r.tape lead.run.numbered (length tape) t puts.next in
      let number : t.seq - 1 ≡ length (on_channel t.channel (take (length tape) r.tape)) = omega (arith, lead.run.numbered (length tape) t puts.next) in
      ap (λ l. slice_get l (length (on_channel x.out tape))) (sym lead.run.sent)
      ∙ ap (λ l. slice_get (on_channel x.out r.tape) (length (on_channel x.out l))) (sym tape_taken)
      ∙ ap (λ c. slice_get (on_channel c r.tape) (length (on_channel c (take (length tape) r.tape)))) (sym puts.its)
      ∙ ap (slice_get (on_channel t.channel r.tape)) (sym number) ∙ stands

  -- The calls up to that one can be made.
  pub can_call : length x.readers ≤ 4 → on_channel x.out tape ≡ outs x.out f.routine.calls → CanCall x r f tape
  can_call few sent =
      let own = owner x r.calls (length (on_channel x.out tape)) t next_output in
      let count : length (outs x.out (take own.n r.calls)) ≡ length (outs x.out (take (length f.routine.calls) r.calls)) = own.count ∙ ap length sent ∙ ap (λ (cs : List Call). length (outs x.out cs)) lead.made in
      let one_more : length (outs x.out (take (own.n + 1) r.calls)) ≡ length (outs x.out (take own.n r.calls)) + 1 =
      ap (λ (cs : List Call). length (outs x.out cs)) (take_next r.calls own.n own.call own.is.made) ∙ length_outs-push x.out (take own.n r.calls) own.call own.is.out own.is.some in
      let late : length f.routine.calls ≤ own.n = not_before own.n count one_more (λ l. outs_take x.out r.calls (own.n + 1) (length f.routine.calls) l) in
      let next = there r.calls (length f.routine.calls) (omega (arith, late, slice_get_within r.calls own.n own.call own.is.made)) in
      let rises = tails_rise x r.arrivals r.calls lead.run.lawful.lawful own.n (length f.routine.calls) next.0 own.call next.1 own.is.made late in
      let reached = lead.run.lawful.lawful.tails_fused own.n own.call own.is.made in
      let here : AreHere x r.arrivals tape own.call.tail =
      are_here x told stopped r lead.run tape lead.begins few own.call.tail reached
      (λ i tuple l at j m of. subst (λ (l : List Token). StandsOn l m) tape_taken (lead.run.lawful.before own.n own.call t (length tape) own.is puts.next i tuple l at j m of)) in
      record {
        call = next.0;
        next = next.1;
        here = λ n a at l. here n a at (omega (arith, l, rises));
      }
    where
      not_before : (n : ℕ) → length (outs x.out (take n r.calls)) ≡ length (outs x.out (take (length f.routine.calls) r.calls))
          → length (outs x.out (take (n + 1) r.calls)) ≡ length (outs x.out (take n r.calls)) + 1
          → (n + 1 ≤ length f.routine.calls → length (outs x.out (take (n + 1) r.calls)) ≤ length (outs x.out (take (length f.routine.calls) r.calls)))
          → length f.routine.calls ≤ n
      not_before n count more rises = grind (arith, count, more, rises)

  -- .. and where it has an output, this is it.
  pub puts_it : (out : Out) → f.routine.pending ≡ Some out → HasCalled x told f tape → output x.out (f.outputs + 1) out ≡ t
  puts_it out waits h =
      let some : h.call.out ≡ Some out = sym h.waits ∙ waits in
      let pushed : outs x.out (take (length f.routine.calls) r.calls) ≡ outs x.out h.earlier ++ output x.out (length (outs x.out h.earlier) + 1) out ∷ [] =
      ap (outs x.out) (sym lead.made ∙ h.made) ∙ outs-push x.out h.earlier h.call out some in
      let at : slice_get (outs x.out (take (length f.routine.calls) r.calls)) (length (outs x.out h.earlier)) ≡ Some (output x.out (length (outs x.out h.earlier) + 1) out) =
      ap (λ l. slice_get l (length (outs x.out h.earlier))) pushed ∙ get_last (outs x.out h.earlier) (output x.out (length (outs x.out h.earlier) + 1) out) in
      ap (λ n. output x.out (n + 1) out) h.outputs
      ∙ one (sym (outs_prefix x.out r.calls (length f.routine.calls) (length (outs x.out h.earlier)) (output x.out (length (outs x.out h.earlier) + 1) out) at)
      ∙ ap (λ l. slice_get (outs x.out r.calls) (length l)) (sym h.sent) ∙ next_output)

  -- It stands on the tape then.
  grown : tape ++ t ∷ [] ≡ take (length (tape ++ t ∷ [])) r.tape
  grown =
      let more : length (tape ++ t ∷ []) ≡ length tape + 1 = length-append tape (t ∷ []) in
      ap (λ l. l ++ t ∷ []) lead.begins ∙ sym (take_next r.tape (length tape) t puts.next) ∙ ap (λ n. take n r.tape) (sym more)

  pub leads_sent : (g : Follower) (n : ℕ) → g ≡ record f { routine = record f.routine { pending = None }; outputs = n } → Leads x told stopped r g (tape ++ t ∷ [])
  leads_sent g n is = subst (λ (h : Follower). Leads x told stopped r h (tape ++ t ∷ [])) (sym is) record {
    run = lead.run;
    begins = grown;
    came = lead.came;
    made = lead.made;
    tails = lead.tails;
    room = lead.room;
  }

-- Another message leaves it led.
pub leads_on : (x : Route) (told : TraceComponent) (stopped : Bool) (r : Ended) (tape : List Token) (t : Token) (f : Follower) → Leads x told stopped r f tape → slice_get r.tape (length tape) ≡ Some t → Leads x told stopped r f (tape ++ t ∷ [])
leads_on x told stopped r tape t f lead next = record {
  run = lead.run;
  begins = grown_on;
  came = lead.came;
  made = lead.made;
  tails = lead.tails;
  room = lead.room;
}
  where
    grown_on : tape ++ t ∷ [] ≡ take (length (tape ++ t ∷ [])) r.tape
    grown_on =
        let more : length (tape ++ t ∷ []) ≡ length tape + 1 = length-append tape (t ∷ []) in
        ap (λ l. l ++ t ∷ []) lead.begins ∙ sym (take_next r.tape (length tape) t next) ∙ ap (λ n. take n r.tape) (sym more)

-- A component was followed further, as each run leads that puts out a message next.
pub record LedTo (x : Route) (told : TraceComponent) (tape : List Token) (f : Follower) (n : ℕ) (g : Follower) : Type 0 where
  pub to : FollowingTo x told tape f n g
  pub leads : (stopped : Bool) (r : Ended) (t : Token) → Leads x told stopped r f tape → PutsOut x r tape t → Leads x told stopped r g tape

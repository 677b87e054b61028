-- Two ended runs with one trace have one tape.
use Rattle.std.proofs.Common.{ℕ, zero, suc, ◌≡◌, ◌≢◌, ◌≤◌, ◌<◌, ◌-◌, ◌==◌, inl, inr, true, is_some, List, [], length, take, map, get_or, slice_get, Option, Some, None, refl, sym, ap, subst, ◌∙◌, arith}
use Rattle.std.specs.Prelude.{not}
use Rattle.std.proofs.lemmas.Bool.{eqb-true}
use Rattle.std.proofs.lemmas.Bool.Decides.{eqb_tells}
use Rattle.std.proofs.lemmas.Option.{same_Some, slice_get-get_or, unwrap_or-slice_get}
use Rattle.cy_msg.specs.Names.{channel_name}
use Rattle.cy_msg.specs.Once.{IsOnce}
use Rattle.cy_msg.specs.Tokens.{on_channel, IsNumbered}
use Rattle.cy_msg.specs.Tuple.{messages_of}
use Rattle.cy_msg.specs.declared.token.Token.{Token}
use Rattle.cy_msg.specs.declared.token.Tuple.{Tuple}
use Rattle.cy_fuse.specs.Fusion.{Arrival, fused}
use Rattle.cy_comp.specs.declared.call.Call.{Call}
use Rattle.cy_comp.specs.Calls.{LawfulCalls, outs}
use Rattle.wake_core.specs.declared.route.Route.{Route}
use Rattle.wake_core.specs.Run.{writes_from, played_of}
use Rattle.wake_core.specs.Plain.{reads, of_role}
use Rattle.wake_core.specs.Sound.{Causal, IsOutput}
use Rattle.wake_core.specs.Bounds.{PlaceLaws}
use Rattle.cy_trace.specs.declared.trace.TapeEntry.{TapeEntry}
use Rattle.cy_trace.specs.TraceOfRun.{tape_entry, trace_calls}
use Rattle.cy_trace_text.proofs.FusedRoles.{EachOf, fused_each, in_role}
use Rattle.cy_trace.proofs.OutsMade.{Made, outs_made, taken_at}
use Rattle.cy_trace_text.proofs.OutSuits.{tails_rise}
use Rattle.cy_trace_text.proofs.Places.{all_taken, mapped_like, mapped_past, passed, passes_next, take_next}
use Rattle.cy_trace_text.proofs.SameCalls.{Stand, begin_alike, made_output, other_put, same_put, same_tuple}

-- What is used of the world that a lawful run has come to: all is sent, and all has arrived.
pub record Ended (routes : List Route) (tokens : List Token) (arrivals : ℕ → List Arrival) (calls : ℕ → List Call) (tape : List Token) : Type 0 where
  pub numbered : IsNumbered tape
  pub played : played_of routes tape ≡ tokens
  pub sent : (c : ℕ) (x : Route) → slice_get routes c ≡ Some x → on_channel x.out tape ≡ outs x.out (calls c)
  pub arrived : (c j channel : ℕ) → reads routes c j ≡ Some channel → of_role j (arrivals c) ≡ on_channel channel tape
  pub known : (c n : ℕ) (a : Arrival) → slice_get (arrivals c) n ≡ Some a → reads routes c a.0 ≢ None
  pub lawful : (c : ℕ) (x : Route) → slice_get routes c ≡ Some x → LawfulCalls x.kind (arrivals c) (length x.readers) x.queue x.overflow (calls c)
  pub causal : Causal routes arrivals calls tape

module _ {routes : List Route} {tokens : List Token} {arrivals : ℕ → List Arrival} {calls : ℕ → List Call} {tape : List Token} (ended : Ended routes tokens arrivals calls tape) where
  -- A message arrives where its channel is read.
  reads_own : (c n : ℕ) (a : Arrival) → slice_get (arrivals c) n ≡ Some a → reads routes c a.0 ≡ Some a.1.channel
  reads_own c n a at = by (reads routes c a.0) refl
    where
      by : (o : Option ℕ) → reads routes c a.0 ≡ o → reads routes c a.0 ≡ Some a.1.channel
      by None e = absurd (ended.known c n a at e)
      by (Some channel) e =
          let k = in_role (arrivals c) n a at in
          let on : slice_get (on_channel channel tape) k.0 ≡ Some a.1 = ap (λ l. slice_get l k.0) (sym (ended.arrived c a.0 channel e)) ∙ k.1 in
          let is : (a.1.channel == channel) ≡ true = passed (λ t. t.channel == channel) tape k.0 a.1 on in
          e ∙ ap (λ k. Some k) (sym (eqb-true a.1.channel channel is))

  -- So each message of a tuple is one of the channel that its place reads.
  messages_read : (c roles n : ℕ) (tuple : Tuple) → slice_get (fused (arrivals c) roles) n ≡ Some tuple → EachOf (λ j m. reads routes c j ≡ Some m.channel) tuple
  messages_read c roles n tuple at = fused_each (λ j m. reads routes c j ≡ Some m.channel) roles (arrivals c) (λ n a. reads_own c n a) n tuple at

  -- The messages of a call's tuple stand before what it and each later call put out.
  own_stand : (c n : ℕ) (x : Route) (call : Call) (t : Token) (i : ℕ) → slice_get routes c ≡ Some x → IsOutput x (calls c) n call t → slice_get tape i ≡ Some t
      → (k : ℕ) (y : Call) → k < suc n → slice_get (calls c) k ≡ Some y → Stand (reads routes c) (take i tape) (messages_of y.tuple)
  own_stand c n x call t i at is on k y less there j m has =
      let h = taken_at y.tail (fused (arrivals c) (length x.readers)) (y.position - 1) y.tuple (ended.causal.own c x k y at there) in
      let place : y.position - 1 < call.tail = omega (arith, h.0, tail) in (
        messages_read c (length x.readers) (y.position - 1) y.tuple h.1 j m has,
        ended.causal.before c x n call t i at is on (y.position - 1) y.tuple place h.1 j m has,
      )
    where
      tail : y.tail ≤ call.tail
      tail = elim (eqb_tells k n) [
        | inl e ↦ let same : y ≡ call = same_Some y call (sym there ∙ ap (slice_get (calls c)) e.1 ∙ is.made) in subst (λ (z : Call). y.tail ≤ z.tail) same (omega arith)
        | inr e ↦ tails_rise (calls c) (ended.lawful c x at).tails_rise n k call y is.made there (omega (arith, less, e.1))
      ]

  -- A message on a component's channel is among what its calls put out.
  put_out : PlaceLaws → (c : ℕ) (x : Route) → slice_get routes c ≡ Some x → (i : ℕ) (t : Token) → slice_get tape i ≡ Some t → x.out ≡ t.channel → slice_get (outs x.out (calls c)) (t.seq - 1) ≡ Some t
  put_out places c x at i t on writes =
      ap (λ l. slice_get l (t.seq - 1)) (sym (ended.sent c x at)) ∙ ap (λ n. slice_get (on_channel n tape) (t.seq - 1)) writes ∙ places.taped tape ended.numbered i t on

-- A name tells its channel, where each name is given once.
name_tells : (names : List (List ℕ)) → IsOnce names → (m n : ℕ) → m < length names → n < length names → channel_name names m ≡ channel_name names n → m ≡ n
name_tells names once m n one other same =
    let first : slice_get names m ≡ Some (get_or names m []) = slice_get-get_or names m [] one in
    let second : slice_get names n ≡ Some (get_or names n []) = slice_get-get_or names n [] other in
    let name : get_or names n [] ≡ get_or names m [] = sym (unwrap_or-slice_get names n []) ∙ sym same ∙ unwrap_or-slice_get names m [] in
    once m n (get_or names m []) first (second ∙ ap (λ l. Some l) name)

module _ (places : PlaceLaws) (routes : List Route) (tokens : List Token) (aw av : ℕ → List Arrival) (cw cv : ℕ → List Call) (tw tv : List Token) (one : Ended routes tokens aw cw tw) (other : Ended routes tokens av cv tv)
    (traced : (c : ℕ) (x : Route) → slice_get routes c ≡ Some x → trace_calls 0 (cw c) ≡ trace_calls 0 (cv c)) where
  -- What was played next is the same.
  played_next : (i : ℕ) (t u : Token) → slice_get tw i ≡ Some t → slice_get tv i ≡ Some u → t.channel ≡ u.channel → take i tw ≡ take i tv → writes_from 0 routes t.channel ≡ None → t ≡ u
  played_next i t u at on channel begins free =
      let first : not (is_some (writes_from 0 routes t.channel)) ≡ true = ap (λ (o : Option ℕ). not (is_some o)) free in
      let second : not (is_some (writes_from 0 routes u.channel)) ≡ true = ap (λ k. not (is_some (writes_from 0 routes k))) (sym channel) ∙ first in
      let mine = passes_next (λ (s : Token). not (is_some (writes_from 0 routes s.channel))) tw i t at first in
      let yours = passes_next (λ (s : Token). not (is_some (writes_from 0 routes s.channel))) tv i u on second in
      let tape : played_of routes tw ≡ played_of routes tv = one.played ∙ sym other.played in
      same_Some t u (sym mine ∙ ap (λ l. slice_get (played_of routes tw) (length (played_of routes l))) begins ∙ ap (λ l. slice_get l (length (played_of routes (take i tv)))) tape ∙ yours)

  -- So is what a component put out next: the tuples of its calls so far stand before it.
  sent_next : (i : ℕ) (t u : Token) → slice_get tw i ≡ Some t → slice_get tv i ≡ Some u → t.channel ≡ u.channel → t.seq ≡ u.seq → take i tw ≡ take i tv
      → (c : ℕ) (x : Route) → slice_get routes c ≡ Some x → x.out ≡ t.channel → t ≡ u
  sent_next i t u at on channel seq begins c x is writes =
      let same = traced c x is in
      let h : Made x.out 0 (cw c) t = outs_made x.out (cw c) (t.seq - 1) t (put_out one places c x is i t at writes) in
      let mine : IsOutput x (cw c) h.place h.call t = made_output x (cw c) t h in
      let yours = other_put x (cw c) (cv c) same h.place h.call t u mine seq (put_out other places c x is i u on (writes ∙ channel)) in
      same_put x (cw c) (cv c) same h.place h.call yours.0 t u mine yours.1
      (begin_alike x.kind (cw c) (cv c) (one.lawful c x is).outputs (other.lawful c x is).outputs same (suc h.place)
      (λ k a b less mine_at yours_at alike. same_tuple (reads routes c) (take i tw) a.tuple b.tuple (own_stand one c h.place x h.call t i is mine at k a less mine_at)
      (subst (λ l. Stand (reads routes c) l (messages_of b.tuple)) (sym begins) (own_stand other c h.place x yours.0 u i is yours.1 on k b less yours_at)) alike.seqs)
      (suc h.place) (omega arith))

  -- So is whatever was sent next.
  entry_next : (i : ℕ) (t u : Token) → slice_get tw i ≡ Some t → slice_get tv i ≡ Some u → t.channel ≡ u.channel → t.seq ≡ u.seq → take i tw ≡ take i tv → t ≡ u
  entry_next i t u at on channel seq begins = by (writes_from 0 routes t.channel) refl
    where
      by : (o : Option ℕ) → writes_from 0 routes t.channel ≡ o → t ≡ u
      by None e = played_next i t u at on channel begins e
      by (Some c) e = let w = places.writer routes t.channel c e in sent_next i t u at on channel seq begins c w.0 w.1 w.2

  module _ (names : List (List ℕ)) (once : IsOnce names) (named : (n : ℕ) (t : Token) → slice_get tw n ≡ Some t → t.channel < length names)
      (other_named : (n : ℕ) (t : Token) → slice_get tv n ≡ Some t → t.channel < length names) (same : map (tape_entry names) tw ≡ map (tape_entry names) tv) where
    -- So the tapes begin alike as far as you will.
    tapes_taken : (i : ℕ) → take i tw ≡ take i tv
    tapes_taken zero = refl
    tapes_taken (suc i) = by (slice_get tw i) refl (tapes_taken i)
      where
        by : (o : Option Token) → slice_get tw i ≡ o → take i tw ≡ take i tv → take (suc i) tw ≡ take (suc i) tv
        by None at begins = take_next i tw tv begins (at ∙ sym (mapped_past (tape_entry names) tw tv same i at))
        by (Some t) at begins =
            let like = mapped_like (tape_entry names) tw tv same i t at in
            let channel : t.channel ≡ like.0.channel = name_tells names once t.channel like.0.channel (named i t at) (other_named i like.0 like.1) (ap (λ (e : TapeEntry). e.name) like.2) in
            let seq : t.seq ≡ like.0.seq = ap (λ (e : TapeEntry). e.seq) like.2 in
            take_next i tw tv begins (at ∙ ap (λ s. Some s) (entry_next i t like.0 at like.1 channel seq begins) ∙ sym like.1)

    pub same_tapes : tw ≡ tv
    same_tapes = all_taken tw tv tapes_taken

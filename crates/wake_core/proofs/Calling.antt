-- What a call more, and an arrival more, keep of lawful calls and of causes.
use Rattle.std.proofs.Common.{ℕ, zero, suc, ◌+◌, ◌-◌, ◌≡◌, ◌≤◌, ◌<◌, false, refl, sym, ◌∙◌, ap, subst, inl, inr, arith, List, [], ◌∷◌, ◌++◌, length, take, drop, Some, slice_get, ◌==◌, length-append, le_trans, le-add_right, le_of_lt}
use Rattle.std.proofs.Math.Seq.{take-length, take-append_seam}
use Rattle.std.proofs.lemmas.List.{take-append-le, take-append-drop}
use Rattle.std.proofs.lemmas.List.Elements.{filter-append}
use Rattle.std.proofs.lemmas.Option.{slice_get_within}
use Rattle.cy_msg.specs.declared.token.Token.{Token}
use Rattle.cy_msg.specs.declared.token.Tuple.{Tuple}
use Rattle.cy_msg.specs.Tuple.{messages_of}
use Rattle.cy_msg.specs.Tokens.{on_channel, IsNumbered}
use Rattle.cy_msg.proofs.Lists.{place, get_append, get_snoc, snoc_at, take_next}
use Rattle.cy_fuse.specs.Fusion.{Arrival, added, fused}
use Rattle.cy_fuse.specs.Fetch.{fetch}
use Rattle.cy_comp.specs.declared.call.Call.{Call}
use Rattle.cy_comp.specs.Step.{outcome_after, out_of}
use Rattle.cy_comp.specs.Calls.{cursor_after, tail_after, tuples_of, last_outcome, is_last, outs, output, LawfulCalls}
use Rattle.wake_core.specs.Run.{Route, set_at}
use Rattle.wake_core.specs.Sound.{Called, Causal, IsOutput, StandsOn}
use Rattle.wake_core.proofs.Places.{set_at_there, set_at_other}
use Rattle.wake_core.proofs.Arrived.{on_channel-own, fused-append}
use Rattle.wake_core.proofs.Fetching.{cursor_push}

-- A call fits behind others.
pub record IsNextCall (x : Route) (arrivals : List Arrival) (calls : List Call) (call : Call) : Type 0 where
  pub position : fetch (cursor_after calls) call.tail x.queue x.overflow ≡ Some call.position
  pub tail : call.tail ≡ length (fused arrivals (length x.readers))
  pub rises : tail_after calls ≤ call.tail
  pub tuple : slice_get (fused arrivals (length x.readers)) (call.position - 1) ≡ Some call.tuple
  pub out : call.out ≡ out_of (outcome_after x.kind (tuples_of calls) call.tuple)
  pub unfinished : is_last (last_outcome x.kind calls) ≡ false

pub lawful_call : (x : Route) (arrivals : List Arrival) (calls : List Call) (call : Call) → IsNextCall x arrivals calls call
    → LawfulCalls x.kind arrivals (length x.readers) x.queue x.overflow calls → LawfulCalls x.kind arrivals (length x.readers) x.queue x.overflow (calls ++ call ∷ [])
lawful_call x arrivals calls call is l = record {
  positions = snoc_at (λ before (y : Call). fetch (cursor_after before) y.tail x.queue x.overflow ≡ Some y.position) calls call l.positions is.position;
  tails_rise = snoc_at (λ before (y : Call). tail_after before ≤ y.tail) calls call l.tails_rise is.rises;
  tails_fused = snoc_at (λ before (y : Call). y.tail ≤ length (fused arrivals (length x.readers))) calls call l.tails_fused (omega (arith, is.tail));
  tuples = snoc_at (λ before (y : Call). slice_get (fused arrivals (length x.readers)) (y.position - 1) ≡ Some y.tuple) calls call l.tuples is.tuple;
  outputs = snoc_at (λ before (y : Call). y.out ≡ out_of (outcome_after x.kind (tuples_of before) y.tuple)) calls call l.outputs is.out;
  no_call_after_last = snoc_at (λ before (y : Call). is_last (last_outcome x.kind before) ≡ false) calls call l.no_call_after_last is.unfinished;
}

lawful_arrival : (x : Route) (arrivals : List Arrival) (calls : List Call) (a : Arrival)
    → LawfulCalls x.kind arrivals (length x.readers) x.queue x.overflow calls → LawfulCalls x.kind (arrivals ++ a ∷ []) (length x.readers) x.queue x.overflow calls
lawful_arrival x arrivals calls a l = record {
  positions = l.positions;
  tails_rise = l.tails_rise;
  outputs = l.outputs;
  no_call_after_last = l.no_call_after_last;
  tails_fused = λ n y e. rw (fused-append (length x.readers) arrivals a, length-append) (le_trans (l.tails_fused n y e) (le-add_right (length (fused arrivals (length x.readers))) (length (added (length x.readers) arrivals a))));
  tuples = λ n y e. rw (fused-append (length x.readers) arrivals a) (get_append (fused arrivals (length x.readers)) (added (length x.readers) arrivals a) (y.position - 1) y.tuple (l.tuples n y e));
}

module _ {routes : List Route} {arrivals : ℕ → List Arrival} {calls : ℕ → List Call} {cursors : ℕ → ℕ} where
  pub call_called : (c : ℕ) (call : Call) → ((x : Route) → slice_get routes c ≡ Some x → IsNextCall x (arrivals c) (calls c) call)
      → Called routes arrivals calls cursors → Called routes arrivals (set_at c (calls c ++ call ∷ []) calls) (set_at c (call.position + 1) cursors)
  call_called c call is h = record {
    lawful = λ k x at. elim (place k c) [
      | inl e ↦
          let at' = rw e at at in
          rw (set_at_there c (calls c ++ call ∷ []) calls k e, e) (lawful_call x (arrivals c) (calls c) call (is x at') (h.lawful c x at'))
      | inr e ↦ rw (set_at_other c (calls c ++ call ∷ []) calls k e) (h.lawful k x at)
    ];
    cursor = λ k x at. elim (place k c) [
      | inl e ↦ rw (set_at_there c (calls c ++ call ∷ []) calls k e, set_at_there c (call.position + 1) cursors k e) (sym (cursor_push (calls c) call))
      | inr e ↦ rw (set_at_other c (calls c ++ call ∷ []) calls k e, set_at_other c (call.position + 1) cursors k e) (h.cursor k x at)
    ];
  }

  pub arrival_called : (v : ℕ) (a : Arrival) → Called routes arrivals calls cursors → Called routes (set_at v (arrivals v ++ a ∷ []) arrivals) calls cursors
  arrival_called v a h = record {
    lawful = λ k x at. elim (place k v) [
      | inl e ↦ let at' = rw e at at in rw (set_at_there v (arrivals v ++ a ∷ []) arrivals k e, e) (lawful_arrival x (arrivals v) (calls v) a (h.lawful v x at'))
      | inr e ↦ rw (set_at_other v (arrivals v ++ a ∷ []) arrivals k e) (h.lawful k x at)
    ];
    cursor = h.cursor;
  }

-- The number of a message on a tape is at most how many of its channel stand there.
pub seq_inside : (tape : List Token) → IsNumbered tape → (i : ℕ) (t : Token) → slice_get tape i ≡ Some t → t.seq ≤ length (on_channel t.channel tape)
seq_inside tape numbered i t e =
    let own : on_channel t.channel (take (i + 1) tape) ≡ on_channel t.channel (take i tape) ++ t ∷ [] =
    ap (on_channel t.channel) (take_next tape i t e) ∙ on_channel-own t.channel (take i tape) t refl in
    let whole : on_channel t.channel tape ≡ on_channel t.channel (take (i + 1) tape) ++ on_channel t.channel (drop (i + 1) tape) =
    ap (on_channel t.channel) (sym (take-append-drop (i + 1) tape)) ∙ filter-append (λ s. s.channel == t.channel) (take (i + 1) tape) (drop (i + 1) tape) in
    let one : length (on_channel t.channel (take (i + 1) tape)) ≡ length (on_channel t.channel (take i tape)) + 1 =
    ap length own ∙ length-append (on_channel t.channel (take i tape)) (t ∷ []) in
    let parts : length (on_channel t.channel tape) ≡ length (on_channel t.channel (take (i + 1) tape)) + length (on_channel t.channel (drop (i + 1) tape)) =
    ap length whole ∙ length-append (on_channel t.channel (take (i + 1) tape)) (on_channel t.channel (drop (i + 1) tape)) in
    omega (arith, numbered i t e, one, parts)

-- What a call more puts out doesn't stand on the tape: an output that does is of an earlier call.
pub earlier_output : (x : Route) (calls : List Call) (call : Call) (tape : List Token) → IsNumbered tape
    → length (on_channel x.out tape) ≤ length (outs x.out calls) → (n : ℕ) (y : Call) (t : Token) (i : ℕ)
    → IsOutput x (calls ++ call ∷ []) n y t → slice_get tape i ≡ Some t → IsOutput x calls n y t × (take n (calls ++ call ∷ []) ≡ take n calls)
earlier_output x calls call tape numbered few n y t i is at = elim (get_snoc calls call n y is.made) [
  | inl h ↦
      let l : n ≤ length calls = le_of_lt (slice_get_within calls n y h) in
      let same : take n (calls ++ call ∷ []) ≡ take n calls = take-append-le n calls (call ∷ []) l in
      (record { made = h; out = is.out; some = is.some; token = is.token ∙ ap (λ l. output x.out (length (outs x.out l) + 1) is.out) same }, same)
  | inr h ↦
      let same : take n (calls ++ call ∷ []) ≡ calls = ap (λ k. take k (calls ++ call ∷ [])) h.0 ∙ take-append_seam calls (call ∷ []) in
      let token : t ≡ output x.out (length (outs x.out calls) + 1) is.out = is.token ∙ ap (λ l. output x.out (length (outs x.out l) + 1) is.out) same in
      let seq : t.seq ≡ length (outs x.out calls) + 1 = ap (λ (s : Token). s.seq) token in
      let channel : t.channel ≡ x.out = ap (λ (s : Token). s.channel) token in
      absurd (too_many (seq_inside tape numbered i t at) (ap (λ n. length (on_channel n tape)) channel) seq few)
]
  where
    too_many : {a b c d : ℕ} → d ≤ a → a ≡ b → d ≡ c + 1 → b ≤ c → ⊥
    too_many p q r s = omega arith

get_front : {X : Type 0} (xs ys : List X) (k : ℕ) (x : X) → k < length xs → slice_get (xs ++ ys) k ≡ Some x → slice_get xs k ≡ Some x
get_front [] ys k x l e = absurd (omega arith)
get_front (z ∷ xs) ys zero x l e = e
get_front (z ∷ xs) ys (suc k) x l e = get_front xs ys k x (omega arith) e

module _ {routes : List Route} {arrivals : ℕ → List Arrival} {calls : ℕ → List Call} {tape : List Token} where
  pub call_causal : (c : ℕ) (call : Call) → ((x : Route) → slice_get routes c ≡ Some x → IsNextCall x (arrivals c) (calls c) call)
      → IsNumbered tape → ((x : Route) → slice_get routes c ≡ Some x → length (on_channel x.out tape) ≤ length (outs x.out (calls c)))
      → Causal routes arrivals calls tape → Causal routes arrivals (set_at c (calls c ++ call ∷ []) calls) tape
  call_causal c call is numbered few h = record {
    before = λ k x n y t i at out on e tuple l item j m of. elim (place k c) [
      | inl s ↦
          let at' = rw s at at in
          let old = earlier_output x (calls c) call tape numbered (few x at') n y t i (subst (λ l. IsOutput x l n y t) (set_at_there c (calls c ++ call ∷ []) calls k s) out) on in
          h.before c x n y t i at' old.0 on e tuple l (ap (λ a. slice_get (fused (arrivals a) (length x.readers)) e) (sym s) ∙ item) j m of
      | inr s ↦ h.before k x n y t i at (subst (λ l. IsOutput x l n y t) (set_at_other c (calls c ++ call ∷ []) calls k s) out) on e tuple l item j m of
    ];
    own = λ k x n y at made. elim (place k c) [
      | inl s ↦
          let at' = rw s at at in
          rw s (elim (get_snoc (calls c) call n y (ap (λ l. slice_get l n) (sym (set_at_there c (calls c ++ call ∷ []) calls k s)) ∙ made)) [
            | inl b ↦ h.own c x n y at' b
            | inr b ↦ subst (λ (z : Call). slice_get (take z.tail (fused (arrivals c) (length x.readers))) (z.position - 1) ≡ Some z.tuple) b.1
                (ap (λ l. slice_get l (call.position - 1)) (ap (λ a. take a (fused (arrivals c) (length x.readers))) (is x at').tail ∙ take-length (fused (arrivals c) (length x.readers))) ∙ (is x at').tuple)
          ])
      | inr s ↦ h.own k x n y at (ap (λ l. slice_get l n) (sym (set_at_other c (calls c ++ call ∷ []) calls k s)) ∙ made)
    ];
  }

  pub arrival_causal : (v : ℕ) (a : Arrival) → ((x : Route) → slice_get routes v ≡ Some x → LawfulCalls x.kind (arrivals v) (length x.readers) x.queue x.overflow (calls v))
      → Causal routes arrivals calls tape → Causal routes (set_at v (arrivals v ++ a ∷ []) arrivals) calls tape
  arrival_causal v a lawful h = record {
    before = λ k x n y t i at out on e tuple l item j m of. elim (place k v) [
      | inl s ↦
          let at' = rw s at at in
          let inside = (lawful x at').tails_fused n y (ap (λ b. slice_get (calls b) n) (sym s) ∙ out.made) in
          let old : slice_get (fused (arrivals v) (length x.readers)) e ≡ Some tuple =
          get_front (fused (arrivals v) (length x.readers)) (added (length x.readers) (arrivals v) a) e tuple (below l inside)
          (ap (λ b. slice_get b e) (sym (fused-append (length x.readers) (arrivals v) a)) ∙ ap (λ b. slice_get (fused b (length x.readers)) e) (sym (set_at_there v (arrivals v ++ a ∷ []) arrivals k s)) ∙ item) in
          h.before k x n y t i at out on e tuple l (ap (λ b. slice_get (fused (arrivals b) (length x.readers)) e) s ∙ old) j m of
      | inr s ↦ h.before k x n y t i at out on e tuple l (ap (λ b. slice_get (fused b (length x.readers)) e) (sym (set_at_other v (arrivals v ++ a ∷ []) arrivals k s)) ∙ item) j m of
    ];
    own = λ k x n y at made. elim (place k v) [
      | inl s ↦
          let at' = rw s at at in
          let made' = ap (λ b. slice_get (calls b) n) (sym s) ∙ made in
          rw (set_at_there v (arrivals v ++ a ∷ []) arrivals k s, fused-append (length x.readers) (arrivals v) a)
          (ap (λ b. slice_get b (y.position - 1)) (take-append-le y.tail (fused (arrivals v) (length x.readers)) (added (length x.readers) (arrivals v) a) ((lawful x at').tails_fused n y made')) ∙ h.own v x n y at' made')
      | inr s ↦ rw (set_at_other v (arrivals v ++ a ∷ []) arrivals k s) (h.own k x n y at made)
    ];
  }
    where
      below : {e n m : ℕ} → e < n → n ≤ m → e < m
      below p q = omega arith

  -- A message comes onto the tape, on which all that was fused stands.
  pub tape_causal : (t : Token) → ((c readers n : ℕ) (tuple : Tuple) → slice_get (fused (arrivals c) readers) n ≡ Some tuple → (j : ℕ) (m : Token) → slice_get (messages_of tuple) j ≡ Some m → StandsOn tape m)
      → Causal routes arrivals calls tape → Causal routes arrivals calls (tape ++ t ∷ [])
  tape_causal t stands h = record {
    before = λ k x n y s i at out on e tuple l item j m of. elim (get_snoc tape t i s on) [
      | inl b ↦ rw (take-append-le i tape (t ∷ []) (le_of_lt (slice_get_within tape i s b))) (h.before k x n y s i at out b e tuple l item j m of)
      | inr b ↦ rw (b.0, take-append_seam tape (t ∷ [])) (stands k (length x.readers) e tuple item j m of)
    ];
    own = h.own;
  }

-- Calls are told by their trace and by the tuples that they took.
use Rattle.std.proofs.Common.{ℕ, zero, suc, ◌≡◌, ◌≤◌, ◌<◌, ◌+◌, ◌-◌, true, cond, is_some, List, [], ◌∷◌, length, take, map, slice_get, Option, Some, None, refl, sym, ap, subst, ◌∙◌, arith}
use Rattle.std.proofs.lemmas.Option.{same_Some, none-some}
use Rattle.cy_msg.specs.Tokens.{on_channel}
use Rattle.cy_msg.specs.Tuple.{messages_of}
use Rattle.cy_msg.specs.declared.token.Token.{Token}
use Rattle.cy_msg.specs.declared.token.Tuple.{Tuple}
use Rattle.cy_msg.specs.declared.token.Tuple.TheVariants.{One, Two, Three, Four}
use Rattle.cy_comp.specs.declared.call.Call.{Call}
use Rattle.cy_comp.specs.declared.call.Out.{Out}
use Rattle.cy_comp.specs.declared.kind.Kind.{Kind}
use Rattle.cy_comp.specs.Calls.{tuples_of, outs, outs_after, numbered, output}
use Rattle.cy_comp.specs.Step.{outcome_after, out_of}
use Rattle.wake_core.specs.declared.route.Route.{Route}
use Rattle.wake_core.specs.Sound.{IsOutput, StandsOn}
use Rattle.cy_trace.specs.declared.trace.TraceCall.{TraceCall}
use Rattle.cy_trace.specs.TraceOfRun.{output_of_call, trace_call, trace_calls}
use Rattle.cy_trace.proofs.OutsMade.{Made, outs_count}
use Rattle.cy_trace_text.proofs.Places.{among_first, heads_same, tails_same, nil_not, take_next, all_taken}

-- Two calls look alike in a trace, but for what they put out.
pub record Alike (a b : Call) : Type 0 where
  pub position : a.position ≡ b.position
  pub tail : a.tail ≡ b.tail
  pub seqs : map (λ (m : Token). m.seq) (messages_of a.tuple) ≡ map (λ (m : Token). m.seq) (messages_of b.tuple)
  pub puts : is_some a.out ≡ is_some b.out

puts_alike : (m n : ℕ) (o p : Option Out) → output_of_call m o ≡ output_of_call n p → is_some o ≡ is_some p
puts_alike m n None None h = refl
puts_alike m n (Some o) (Some p) h = refl
puts_alike m n None (Some p) h = cc
puts_alike m n (Some o) None h = cc

call_alike : (m n : ℕ) (a b : Call) → trace_call m a ≡ trace_call n b → Alike a b
call_alike m n a b h = record {
  position = ap (λ (c : TraceCall). c.position) h;
  tail = ap (λ (c : TraceCall). c.tail) h;
  seqs = ap (λ (c : TraceCall). c.seqs) h;
  puts = puts_alike m n a.out b.out (ap (λ (c : TraceCall). c.out) h);
}

-- How many outputs there are behind a call.
abbrev behind : ℕ → Call → ℕ
behind before x = before + cond (is_some x.out) 1 0

-- Each call of the one has its like in the other.
pub calls_alike : (m n : ℕ) (xs ys : List Call) → trace_calls m xs ≡ trace_calls n ys → (k : ℕ) (a : Call) → slice_get xs k ≡ Some a → (b : Call) × (slice_get ys k ≡ Some b) × Alike a b
calls_alike m n [] ys same k a at = absurd (none-some a at)
calls_alike m n (x ∷ xs) [] same k a at = absurd (nil_not (trace_call m x) (trace_calls (behind m x) xs) (sym same))
calls_alike m n (x ∷ xs) (y ∷ ys) same zero a at =
    (y, refl, subst (λ c. Alike c y) (same_Some x a at) (call_alike m n x y (heads_same (trace_call m x) (trace_call n y) (trace_calls (behind m x) xs) (trace_calls (behind n y) ys) same)))
calls_alike m n (x ∷ xs) (y ∷ ys) same (suc k) a at =
    calls_alike (behind m x) (behind n y) xs ys (tails_same (trace_call m x) (trace_call n y) (trace_calls (behind m x) xs) (trace_calls (behind n y) ys) same) k a at

-- Past the end of the one is past the end of the other.
pub calls_past : (m n : ℕ) (xs ys : List Call) → trace_calls m xs ≡ trace_calls n ys → (k : ℕ) → slice_get xs k ≡ None → slice_get ys k ≡ None
calls_past m n xs [] same k at = refl
calls_past m n [] (y ∷ ys) same k at = absurd (nil_not (trace_call n y) (trace_calls (behind n y) ys) same)
calls_past m n (x ∷ xs) (y ∷ ys) same zero at = absurd (none-some x (sym at))
calls_past m n (x ∷ xs) (y ∷ ys) same (suc k) at =
    calls_past (behind m x) (behind n y) xs ys (tails_same (trace_call m x) (trace_call n y) (trace_calls (behind m x) xs) (trace_calls (behind n y) ys) same) k at

-- As many were put out by the first so many of the one as of the other.
counted : (channel d e : ℕ) (o p : Option Out) (f g : ℕ → List Token) → is_some o ≡ is_some p → ((a b : ℕ) → length (f a) ≡ length (g b)) → length (numbered channel d o f) ≡ length (numbered channel e p g)
counted channel d e None None f g same rest = rest d e
counted channel d e (Some o) (Some p) f g same rest = ap suc (rest (d + 1) (e + 1))
counted channel d e None (Some p) f g same rest = cc
counted channel d e (Some o) None f g same rest = cc

counts_alike : (channel m n : ℕ) (xs ys : List Call) → trace_calls m xs ≡ trace_calls n ys → (k d e : ℕ) → length (outs_after channel d (take k xs)) ≡ length (outs_after channel e (take k ys))
counts_alike channel m n [] [] same k d e = by k
  where
    by : (k : ℕ) → length (outs_after channel d (take k [])) ≡ length (outs_after channel e (take k []))
    by zero = refl
    by (suc k) = refl
counts_alike channel m n [] (y ∷ ys) same k d e = absurd (nil_not (trace_call n y) (trace_calls (behind n y) ys) same)
counts_alike channel m n (x ∷ xs) [] same k d e = absurd (nil_not (trace_call m x) (trace_calls (behind m x) xs) (sym same))
counts_alike channel m n (x ∷ xs) (y ∷ ys) same zero d e = refl
counts_alike channel m n (x ∷ xs) (y ∷ ys) same (suc k) d e =
    let like = call_alike m n x y (heads_same (trace_call m x) (trace_call n y) (trace_calls (behind m x) xs) (trace_calls (behind n y) ys) same) in
    let rest = tails_same (trace_call m x) (trace_call n y) (trace_calls (behind m x) xs) (trace_calls (behind n y) ys) same in
    counted channel d e x.out y.out (λ a. outs_after channel a (take k xs)) (λ a. outs_after channel a (take k ys)) like.puts
    (λ a b. counts_alike channel (behind m x) (behind n y) xs ys rest k a b)

pub outs_alike : (channel : ℕ) (xs ys : List Call) → trace_calls 0 xs ≡ trace_calls 0 ys → (k : ℕ) → length (outs channel (take k xs)) ≡ length (outs channel (take k ys))
unfolding outs
outs_alike channel xs ys same k = counts_alike channel 0 0 xs ys same k 0 0

-- An output stands among those that calls put out, behind those of the first so many.
abbrev Puts : (channel : ℕ) (xs : List Call) (n : ℕ) → Out → (before : ℕ) → Type 0
Puts channel xs n o before = slice_get (outs_after channel before xs) (length (outs_after channel before (take n xs))) ≡ Some (output channel (before + length (outs_after channel before (take n xs)) + 1) o)

-- What a call puts out stands behind what those before it did.
put_after : (channel before : ℕ) (xs : List Call) (n : ℕ) (x : Call) (o : Out) → slice_get xs n ≡ Some x → x.out ≡ Some o → Puts channel xs n o before
put_after channel before [] n x o at is = absurd (none-some x at)
put_after channel before (y ∷ xs) zero x o at is =
    let out : y.out ≡ Some o = ap (λ (c : Call). c.out) (same_Some y x at) ∙ is in
    ap (λ p. slice_get (numbered channel before p (λ n. outs_after channel n xs)) 0) out ∙ ap (λ n. Some (output channel (n + 1) o)) (omega arith)
put_after channel before (y ∷ xs) (suc n) x o at is = by y.out (put_after channel before xs n x o at is) (put_after channel (before + 1) xs n x o at is)
  where
    by : (p : Option Out) → Puts channel xs n o before → Puts channel xs n o (before + 1)
        → slice_get (numbered channel before p (λ n. outs_after channel n xs)) (length (numbered channel before p (λ k. outs_after channel k (take n xs))))
        ≡ Some (output channel (before + length (numbered channel before p (λ k. outs_after channel k (take n xs))) + 1) o)
    by None same more = same
    by (Some p) same more = more ∙ ap (λ k. Some (output channel (k + 1) o)) (omega arith)

pub put_at : (channel : ℕ) (xs : List Call) (n : ℕ) (x : Call) (o : Out) → slice_get xs n ≡ Some x → x.out ≡ Some o
    → slice_get (outs channel xs) (length (outs channel (take n xs))) ≡ Some (output channel (length (outs channel (take n xs)) + 1) o)
unfolding outs
put_at channel xs n x o at is = put_after channel 0 xs n x o at is ∙ ap (λ k. Some (output channel (k + 1) o)) (omega arith)

some_out : (o : Option Out) → is_some o ≡ true → (p : Out) × (o ≡ Some p)
some_out None h = cc
some_out (Some p) h = (p, refl)

-- What was made by calls is an output of one of them.
pub made_output : (x : Route) (calls : List Call) (t : Token) → (h : Made x.out 0 calls t) → IsOutput x calls h.place h.call t
made_output x calls t h = record { made = h.made; out = h.out; some = h.some; token = h.token ∙ ap (λ n. output x.out n h.out) (outs_count x.out (take h.place calls)) }

-- Where calls look alike, a message with the number of one's output is the output of the other's call at the same place.
pub other_put : (x : Route) (xs ys : List Call) → trace_calls 0 xs ≡ trace_calls 0 ys → (n : ℕ) (a : Call) (t u : Token) → IsOutput x xs n a t → t.seq ≡ u.seq → slice_get (outs x.out ys) (u.seq - 1) ≡ Some u
    → (b : Call) × IsOutput x ys n b u
other_put x xs ys same n a t u is seq there =
    let like = calls_alike 0 0 xs ys same n a is.made in
    let out = some_out like.0.out (sym like.2.puts ∙ ap is_some is.some) in
    let number : t.seq ≡ length (outs x.out (take n xs)) + 1 = ap (λ (s : Token). s.seq) is.token in
    let place : u.seq - 1 ≡ length (outs x.out (take n ys)) = omega (arith, number, seq, outs_alike x.out xs ys same n) in
    let put = put_at x.out ys n like.0 out.0 like.1 out.1 in
    let token = same_Some u (output x.out (length (outs x.out (take n ys)) + 1) out.0) (sym there ∙ ap (slice_get (outs x.out ys)) place ∙ put) in
    (like.0, record { made = like.1; out = out.0; some = out.1; token = token })

-- Where the calls up to there are the same, so are the outputs.
pub same_put : (x : Route) (xs ys : List Call) → trace_calls 0 xs ≡ trace_calls 0 ys → (n : ℕ) (a b : Call) (t u : Token) → IsOutput x xs n a t → IsOutput x ys n b u → take (suc n) xs ≡ take (suc n) ys → t ≡ u
same_put x xs ys same n a b t u one other begins =
    let call : a ≡ b = same_Some a b (sym (among_first xs n a one.made) ∙ ap (λ (l : List Call). slice_get l n) begins ∙ among_first ys n b other.made) in
    let out : one.out ≡ other.out = same_Some one.out other.out (sym one.some ∙ ap (λ (k : Call). k.out) call ∙ other.some) in
    one.token ∙ ap (λ k. output x.out (k + 1) one.out) (outs_alike x.out xs ys same n) ∙ ap (λ o. output x.out (length (outs x.out (take n ys)) + 1) o) out ∙ sym other.token

-- A message that stands on a tape is told by its channel and its number.
told_by_number : (tape : List Token) (m n : Token) → m.channel ≡ n.channel → m.seq ≡ n.seq → StandsOn tape m → StandsOn tape n → m ≡ n
told_by_number tape m n channel seq one other =
    same_Some m n (sym one ∙ ap (λ c. slice_get (on_channel c tape) (m.seq - 1)) channel ∙ ap (λ s. slice_get (on_channel n.channel tape) (s - 1)) seq ∙ other)

-- The messages stand on a tape, each on the channel of its place.
abbrev pub Stand : (ℕ → Option ℕ) → List Token → List Token → Type 0
Stand reads tape ms = (j : ℕ) (m : Token) → slice_get ms j ≡ Some m → (reads j ≡ Some m.channel) × StandsOn tape m

same_messages : (reads : ℕ → Option ℕ) (tape ms ns : List Token) → Stand reads tape ms → Stand reads tape ns → map (λ (m : Token). m.seq) ms ≡ map (λ (m : Token). m.seq) ns → ms ≡ ns
same_messages reads tape [] [] ones others seqs = refl
same_messages reads tape [] (n ∷ ns) ones others seqs = absurd (nil_not n.seq (map (λ (m : Token). m.seq) ns) seqs)
same_messages reads tape (m ∷ ms) [] ones others seqs = absurd (nil_not m.seq (map (λ (m : Token). m.seq) ms) (sym seqs))
same_messages reads tape (m ∷ ms) (n ∷ ns) ones others seqs =
    let one = ones 0 m refl in
    let other = others 0 n refl in
    let seq = heads_same m.seq n.seq (map (λ (m : Token). m.seq) ms) (map (λ (m : Token). m.seq) ns) seqs in
    let rest = tails_same m.seq n.seq (map (λ (m : Token). m.seq) ms) (map (λ (m : Token). m.seq) ns) seqs in
    ap (λ t. t ∷ ms) (told_by_number tape m n (same_Some m.channel n.channel (sym one.0 ∙ other.0)) seq one.1 other.1)
    ∙ ap (λ ts. n ∷ ts) (same_messages (λ j. reads (suc j)) tape ms ns (λ j. ones (suc j)) (λ j. others (suc j)) rest)

tuple_with : List Token → Option Tuple
tuple_with (a ∷ []) = Some (One a)
tuple_with (a ∷ b ∷ []) = Some (Two a b)
tuple_with (a ∷ b ∷ c ∷ []) = Some (Three a b c)
tuple_with (a ∷ b ∷ c ∷ d ∷ []) = Some (Four a b c d)
tuple_with _ = None

with_messages : (tuple : Tuple) → tuple_with (messages_of tuple) ≡ Some tuple
unfolding tuple_with
with_messages (One a) = refl
with_messages (Two a b) = refl
with_messages (Three a b c) = refl
with_messages (Four a b c d) = refl

pub same_tuple : (reads : ℕ → Option ℕ) (tape : List Token) (a b : Tuple) → Stand reads tape (messages_of a) → Stand reads tape (messages_of b)
    → map (λ (m : Token). m.seq) (messages_of a) ≡ map (λ (m : Token). m.seq) (messages_of b) → a ≡ b
same_tuple reads tape a b one other seqs =
    same_Some a b (sym (with_messages a) ∙ ap tuple_with (same_messages reads tape (messages_of a) (messages_of b) one other seqs) ∙ with_messages b)

-- What the calls put out is what the class answers.
abbrev pub Answers : Kind → List Call → Type 0
Answers kind calls = (n : ℕ) (x : Call) → slice_get calls n ≡ Some x → x.out ≡ out_of (outcome_after kind (tuples_of (take n calls)) x.tuple)

module _ (kind : Kind) (xs ys : List Call) (ones : Answers kind xs) (others : Answers kind ys) (same : trace_calls 0 xs ≡ trace_calls 0 ys) where
  same_call : (n : ℕ) (a b : Call) → slice_get xs n ≡ Some a → slice_get ys n ≡ Some b → Alike a b → take n xs ≡ take n ys → a.tuple ≡ b.tuple → a ≡ b
  same_call n a b at on like begins tuple =
      let out : a.out ≡ b.out =
      ones n a at ∙ ap (λ (l : List Call). out_of (outcome_after kind (tuples_of l) a.tuple)) begins ∙ ap (λ (t : Tuple). out_of (outcome_after kind (tuples_of (take n ys)) t)) tuple ∙ sym (others n b on) in
      made a b like.position like.tail tuple out
    where
      made : (a b : Call) → a.position ≡ b.position → a.tail ≡ b.tail → a.tuple ≡ b.tuple → a.out ≡ b.out → a ≡ b
      made a b p t u o =
          ap (λ k. record a { position = k }) p ∙ ap (λ k. record a { position = b.position; tail = k }) t ∙ ap (λ k. record b { tuple = k; out = a.out }) u ∙ ap (λ k. record b { out = k }) o

  -- Calls whose first tuples are the same begin alike.
  pub begin_alike : (most : ℕ) → ((n : ℕ) (a b : Call) → n < most → slice_get xs n ≡ Some a → slice_get ys n ≡ Some b → Alike a b → a.tuple ≡ b.tuple) → (i : ℕ) → i ≤ most → take i xs ≡ take i ys
  begin_alike most tuples zero few = refl
  begin_alike most tuples (suc i) few = by (slice_get xs i) refl (begin_alike most tuples i (omega (arith, few)))
    where
      by : (o : Option Call) → slice_get xs i ≡ o → take i xs ≡ take i ys → take (suc i) xs ≡ take (suc i) ys
      by None at begins = take_next i xs ys begins (at ∙ sym (calls_past 0 0 xs ys same i at))
      by (Some a) at begins =
          let like = calls_alike 0 0 xs ys same i a at in
          take_next i xs ys begins (at ∙ ap (λ c. Some c) (same_call i a like.0 at like.1 like.2 begins (tuples i a like.0 (omega (arith, few)) at like.1 like.2)) ∙ sym like.1)

  pub same_calls : ((n : ℕ) (a b : Call) → slice_get xs n ≡ Some a → slice_get ys n ≡ Some b → Alike a b → a.tuple ≡ b.tuple) → xs ≡ ys
  same_calls tuples = all_taken xs ys (λ i. begin_alike i (λ n a b less. tuples n a b) i (omega arith))

-- Messages with ticks among them are a play list.
use Rattle.std.proofs.Common.{ℕ, suc, ◌+◌, ◌*◌, ◌≡◌, ◌≤◌, ◌<◌, Bool, cond, List, [], ◌∷◌, ◌++◌, length, map, slice_get, refl, sym, ap, ◌∙◌, subst, arith, append_assoc, append-nil, length-append, Some, None, inl, inr, ◌-◌}
use Rattle.std.specs.Prelude.{◌==◌, sum_by}
use Rattle.std.specs.List.{flat_map}
use Rattle.std.proofs.lemmas.Bool.Decides.{eqb_tells}
use Rattle.std.proofs.lemmas.List.Concat.{length-flat_map}
use Rattle.std.proofs.lemmas.List.Elements.{filter-append}
use Rattle.std.proofs.lemmas.Option.{none-some, same_Some}
use Rattle.cy_msg.specs.Once.{IsOnce}
use Rattle.cy_msg.specs.Tokens.{AreOf, IsNumbered, IsTimed, on_channel}
use Rattle.cy_msg.specs.declared.token.Token.{Token}
use Rattle.cy_timer.specs.Merged.{merged, with_ticks}
use Rattle.cy_timer.specs.Ticks.{last_time, multiples, ticks_at, ticks_between, ticks_of}
use Rattle.cy_timer.specs.Timers.{AreApart, AreTimers}
use Rattle.cy_timer.specs.private.Sources.{AreTimed, span_of}
use Rattle.cy_timer.specs.declared.timer.Timer.{Timer}
use Rattle.cy_timer.proofs.Numbering.{Counts, counted, numbered}
use Rattle.cy_timer.proofs.Sorting.{Each, From, Rises, by_time-same, each-append, each-at, each-by_time, each-from, filter-by_time, length-by_time, rises-by_time, rises-filter, rises-from_timed, timed-from_rises}
use Rattle.cy_timer.proofs.Ticking.{counts-ticks, each-ticks, on-other, on-own, rises-between}

-- the last message isn't before the first
last-from : (low : ℕ) (t : Token) (rest : List Token) → low ≤ t.time → Each (From low) rest → low ≤ last_time t rest
last-from low t [] here all = here
last-from low t (u ∷ rest) here all = last-from low u rest all.0 all.1

pub span-order : (t : Token) (rest : List Token) → IsTimed (t ∷ rest) → t.time ≤ last_time t rest
span-order t rest timed = last-from t.time t rest (omega arith) (rises-from_timed (t ∷ rest) timed).0

-- each channel's messages rise and count up
record IsGood (xs : List Token) (c : ℕ) : Type 0 where
  rises : Rises (on_channel c xs)
  counts : Counts 1 (on_channel c xs)

-- none of these stands on a channel
abbrev NoneOn : ℕ → List Token → Type 0
NoneOn c xs = Each (λ (u : Token). u.channel ≡ c → ⊥) xs

none-found : (c : ℕ) (xs : List Token) → NoneOn c xs → on_channel c xs ≡ []
none-found c [] none = refl
none-found c (x ∷ xs) none = elim (eqb_tells x.channel c) [
  | inl same ↦ absurd (none.0 same.1)
  | inr other ↦ ap (λ (b : Bool). cond b (x ∷ on_channel c xs) (on_channel c xs)) other.0 ∙ none-found c xs none.1
]

good-more : (xs : List Token) (channel : ℕ) (times : List ℕ) → ((c : ℕ) → IsGood xs c) → NoneOn channel xs → Rises (ticks_at channel 1 times) → (c : ℕ) → IsGood (xs ++ ticks_at channel 1 times) c
good-more xs channel times good none rises c = elim (eqb_tells channel c) [
  | inl same ↦
      let own : on_channel channel (xs ++ ticks_at channel 1 times) ≡ ticks_at channel 1 times
      = filter-append (λ (t : Token). t.channel == channel) xs (ticks_at channel 1 times)
      ∙ ap (λ (ts : List Token). ts ++ on_channel channel (ticks_at channel 1 times)) (none-found channel xs none) ∙ on-own channel 1 times in
      subst (λ (n : ℕ). IsGood (xs ++ ticks_at channel 1 times) n) same.1 (record { rises = subst Rises (sym own) rises; counts = subst (Counts 1) (sym own) (counts-ticks channel 1 times) })
  | inr other ↦
      let others : on_channel c (xs ++ ticks_at channel 1 times) ≡ on_channel c xs
      = filter-append (λ (t : Token). t.channel == c) xs (ticks_at channel 1 times)
      ∙ ap (λ (ts : List Token). on_channel c xs ++ ts) (on-other c channel 1 times other.1) ∙ append-nil (on_channel c xs) in
      record { rises = subst Rises (sym others) (good c).rises; counts = subst (Counts 1) (sym others) (good c).counts }
]

-- timers with channels of their own, on which none of these stands
abbrev Free : List Token → List Timer → Type 0
Free xs timers = Each (λ (t : Timer). NoneOn t.channel xs) timers

once-rest : (t : Timer) (rest : List Timer) → IsOnce (map (λ (u : Timer). u.channel) (t ∷ rest)) → IsOnce (map (λ (u : Timer). u.channel) rest)
once-rest t rest once m n x a b = let same = once (suc m) (suc n) x a b in omega (arith, same)

others-differ : (c : ℕ) (rest : List Timer) → ((n : ℕ) → slice_get (map (λ (u : Timer). u.channel) rest) n ≡ Some c → ⊥) → Each (λ (u : Timer). c ≡ u.channel → ⊥) rest
others-differ c [] none = tt
others-differ c (u ∷ rest) none = (λ same. none 0 (ap Some (sym same)), others-differ c rest (λ n. none (suc n)))

still-free : (xs : List Token) (channel : ℕ) (times : List ℕ) (rest : List Timer) → Free xs rest → Each (λ (u : Timer). channel ≡ u.channel → ⊥) rest → Free (xs ++ ticks_at channel 1 times) rest
still-free xs channel times [] free differ = tt
still-free xs channel times (u ∷ rest) free differ = (
  each-append (λ (v : Token). v.channel ≡ u.channel → ⊥) xs (ticks_at channel 1 times) free.0
      (each-ticks (λ (v : Token). v.channel ≡ u.channel → ⊥) channel (λ v on from same. differ.0 (sym on ∙ same)) 1 times),
  still-free xs channel times rest free.1 differ.1,
)

module _ (begin end : ℕ) (order : begin ≤ end) where
  all-good : (xs : List Token) (timers : List Timer) → ((c : ℕ) → IsGood xs c) → Each (λ (t : Timer). 1 ≤ t.interval) timers → IsOnce (map (λ (t : Timer). t.channel) timers) → Free xs timers
      → (c : ℕ) → IsGood (xs ++ flat_map (ticks_between begin end) timers) c
  all-good xs [] good some once free c = subst (λ (ys : List Token). IsGood ys c) (sym (append-nil xs)) (good c)
  all-good xs (t ∷ rest) good some once free c =
      let more = xs ++ ticks_between begin end t in
      let differ = others-differ t.channel rest (λ n e. let same = once 0 (suc n) t.channel refl e in omega (arith, same)) in
      subst (λ (ys : List Token). IsGood ys c) (append_assoc xs (ticks_between begin end t) (flat_map (ticks_between begin end) rest))
      (all-good more rest (good-more xs t.channel (multiples (t.interval * 1000000) begin end) good free.0 (rises-between begin end t some.0 order))
      some.1 (once-rest t rest once) (still-free xs t.channel (multiples (t.interval * 1000000) begin end) rest free.1 differ) c)

  pub all-rise : (timers : List Timer) → Each (λ (t : Timer). 1 ≤ t.interval) timers → Each Rises (map (ticks_between begin end) timers)
  all-rise [] some = tt
  all-rise (t ∷ rest) some = (rises-between begin end t some.0 order, all-rise rest some.1)

-- what is asked of timers, and of messages apart from them
pub intervals-of : (timers : List Timer) → AreTimers timers → Each (λ (t : Timer). 1 ≤ t.interval) timers
intervals-of timers are = each-from (λ (t : Timer). 1 ≤ t.interval) timers are.intervals

apart-none : (messages : List Token) (t : Timer) (rest : List Timer) → AreApart messages (t ∷ rest) → NoneOn t.channel messages
apart-none messages t rest apart =
    each-from (λ (u : Token). u.channel ≡ t.channel → ⊥) messages (λ n u at same. apart n u at (0, omega arith, sym same))

apart-rest : (messages : List Token) (t : Timer) (rest : List Timer) → AreApart messages (t ∷ rest) → AreApart messages rest
apart-rest messages t rest apart n u at found = let less = found.1 in apart n u at (suc found.0, omega (arith, less), found.2)

free-of : (messages : List Token) (timers : List Timer) → AreApart messages timers → Free messages timers
free-of messages [] apart = tt
free-of messages (t ∷ rest) apart = (apart-none messages t rest apart, free-of messages rest (apart-rest messages t rest apart))

no-ticks : (timers : List Timer) → flat_map (ticks_of []) timers ≡ []
no-ticks [] = refl
no-ticks (t ∷ rest) = no-ticks rest

module _ (messages : List Token) (timers : List Timer) (timed : IsTimed messages) (number : IsNumbered messages) (are : AreTimers timers) (apart : AreApart messages timers) where
  messages-good : (c : ℕ) → IsGood messages c
  messages-good c = record {
    rises = rises-filter (λ (t : Token). t.channel == c) messages (rises-from_timed messages timed);
    counts = counted messages number c;
  }

  with-good : (ms : List Token) → ms ≡ messages → (c : ℕ) → IsGood (ms ++ flat_map (ticks_of ms) timers) c
  with-good [] is c = subst (λ (ys : List Token). IsGood ys c) (sym (no-ticks timers)) (subst (λ (ys : List Token). IsGood ys c) (sym is) (messages-good c))
  with-good (first ∷ rest) is c =
      all-good first.time (last_time first rest) (span-order first rest (subst IsTimed (sym is) timed)) (first ∷ rest) timers (λ d. subst (λ (ys : List Token). IsGood ys d) (sym is) (messages-good d))
      (intervals-of timers are) are.apart (subst (λ (ys : List Token). Free ys timers) (sym is) (free-of messages timers apart)) c

  pub merged-numbered : IsNumbered (merged messages timers)
  merged-numbered = numbered (merged messages timers) (λ c.
      let good = with-good messages refl c in
      subst (Counts 1) (sym (filter-by_time (λ (t : Token). t.channel == c) (with_ticks messages timers) ∙ by_time-same (on_channel c (with_ticks messages timers)) good.rises)) good.counts)

pub merged-timed : (messages : List Token) (timers : List Timer) → IsTimed (merged messages timers)
merged-timed messages timers = timed-from_rises (merged messages timers) (rises-by_time (with_ticks messages timers))

-- ticks come from no message
abbrev IsFrom : ℕ → Token → Type 0
IsFrom n t = (o : ℕ) → t.origin ≡ Some o → o < n

from-none : (n : ℕ) (t : Token) → t.origin ≡ None → IsFrom n t
from-none n t none o e = absurd (none-some o (sym none ∙ e))

ticks-none : (n : ℕ) (messages : List Token) (timers : List Timer) → Each (IsFrom n) (flat_map (ticks_of messages) timers)
ticks-none n messages [] = tt
ticks-none n messages (t ∷ rest) = each-append (IsFrom n) (ticks_of messages t) (flat_map (ticks_of messages) rest) (by_messages messages) (ticks-none n messages rest)
  where
    by_messages : (ms : List Token) → Each (IsFrom n) (ticks_of ms t)
    by_messages [] = tt
    by_messages (first ∷ more) = each-ticks (IsFrom n) t.channel (λ u on none. from-none n u none) 1 (multiples (t.interval * 1000000) first.time (last_time first more))

pub merged-origins : (n : ℕ) (messages : List Token) (timers : List Timer) → AreOf n messages → AreOf n (merged messages timers)
merged-origins n messages timers of k o t at from =
    each-at (IsFrom n) (merged messages timers) k t
    (each-by_time (IsFrom n) (with_ticks messages timers)
    (each-append (IsFrom n) messages (flat_map (ticks_of messages) timers) (each-from (IsFrom n) messages (λ i u there p e. of i p u there e)) (ticks-none n messages timers))) at o from

-- how many there are
pub length-merged : (messages : List Token) (timers : List Timer) → length (merged messages timers) ≡ length messages + sum_by (λ t. length (ticks_of messages t)) timers
length-merged messages timers =
    let whole = length-by_time (with_ticks messages timers) in
    let parts = length-append messages (flat_map (ticks_of messages) timers) in
    let ticks = length-flat_map (ticks_of messages) timers in
    omega (arith, whole, parts, ticks)

-- the times of the first and the last message
last-is : (t : Token) (rest : List Token) (last : Token) → Some last ≡ slice_get (t ∷ rest) (length rest) → last.time ≡ last_time t rest
last-is t [] last is = ap (λ (u : Token). u.time) (same_Some last t is)
last-is t (u ∷ rest) last is = last-is u rest last is

pub span-is : (messages : List Token) (first last : Token) → Some first ≡ slice_get messages 0 → Some last ≡ slice_get messages (length messages - 1) → Some (first.time, last.time) ≡ span_of messages
span-is [] first last is ends = absurd (none-some first (sym is))
span-is (t ∷ rest) first last is ends =
    let one : suc (length rest) - 1 ≡ length rest = omega arith in
    let end = last-is t rest last (ends ∙ ap (slice_get (t ∷ rest)) one) in
    (λ i. Some (ap (λ (u : Token). u.time) (same_Some first t is) i, end i))

-- between these times
pub spanned-order : (messages : List Token) (begin end : ℕ) → Some (begin, end) ≡ span_of messages → IsTimed messages → begin ≤ end
spanned-order [] begin end is timed = absurd (none-some (begin, end) (sym is))
spanned-order (t ∷ rest) begin end is timed =
    let same = same_Some (begin, end) (t.time, last_time t rest) is in
    let first : begin ≡ t.time = ap (λ (p : ℕ × ℕ). p.0) same in
    let last : end ≡ last_time t rest = ap (λ (p : ℕ × ℕ). p.1) same in
    let order = span-order t rest timed in
    omega (arith, first, last, order)

pub spanned-ticks : (messages : List Token) (begin end : ℕ) → Some (begin, end) ≡ span_of messages → (timers : List Timer) → flat_map (ticks_of messages) timers ≡ flat_map (ticks_between begin end) timers
spanned-ticks [] begin end is timers = absurd (none-some (begin, end) (sym is))
spanned-ticks (t ∷ rest) begin end is timers =
    ap (λ (p : ℕ × ℕ). flat_map (ticks_between p.0 p.1) timers) (sym (same_Some (begin, end) (t.time, last_time t rest) is))

pub no-span : (messages : List Token) → None ≡ span_of messages → messages ≡ []
no-span [] is = refl
no-span (t ∷ rest) is = absurd (none-some (t.time, last_time t rest) is)

pub count-some : (messages : List Token) (timers : List Timer) (begin end count : ℕ) → Some (begin, end) ≡ span_of messages → count ≡ sum_by (λ t. length (ticks_between begin end t)) timers
    → length messages + count ≡ length (merged messages timers)
count-some messages timers begin end count is counts =
    let whole = length-by_time (with_ticks messages timers) in
    let parts = length-append messages (flat_map (ticks_of messages) timers) in
    let ticks = ap length (spanned-ticks messages begin end is timers) in
    let sums = length-flat_map (ticks_between begin end) timers in
    omega (arith, whole, parts, ticks, sums, counts)

pub count-none : (messages : List Token) (timers : List Timer) → None ≡ span_of messages → 0 ≡ length (merged messages timers)
count-none messages timers is =
    let none : with_ticks messages timers ≡ [] = ap (λ (ms : List Token). with_ticks ms timers) (no-span messages is) ∙ no-ticks timers in
    sym (length-by_time (with_ticks messages timers) ∙ ap length none)

flat-map : (begin end : ℕ) (timers : List Timer) → flat_map (λ (ts : List Token). ts) (map (ticks_between begin end) timers) ≡ flat_map (ticks_between begin end) timers
flat-map begin end [] = refl
flat-map begin end (t ∷ rest) = ap (λ (ts : List Token). ticks_between begin end t ++ ts) (flat-map begin end rest)

pub during-ticks : (messages : List Token) (timers : List Timer) (begin end : ℕ) (ticks : List (List Token)) → Some (begin, end) ≡ span_of messages → ticks ≡ map (ticks_between begin end) timers
    → flat_map (λ (ts : List Token). ts) ticks ≡ flat_map (ticks_of messages) timers
during-ticks messages timers begin end ticks is made =
    ap (flat_map (λ (ts : List Token). ts)) made ∙ flat-map begin end timers ∙ sym (spanned-ticks messages begin end is timers)

pub during-timed : (messages : List Token) (timers : List Timer) (begin end : ℕ) (ticks : List (List Token)) → IsTimed messages → AreTimers timers → Some (begin, end) ≡ span_of messages
    → ticks ≡ map (ticks_between begin end) timers → AreTimed ticks
during-timed messages timers begin end ticks timed are is made k ts at =
    timed-from_rises ts (each-at Rises ticks k ts (subst (Each Rises) (sym made) (all-rise begin end (spanned-order messages begin end is timed) timers (intervals-of timers are))) at)

pub during-none : (messages : List Token) (timers : List Timer) (ticks : List (List Token)) → None ≡ span_of messages → ticks ≡ [] → flat_map (λ (ts : List Token). ts) ticks ≡ flat_map (ticks_of messages) timers
during-none messages timers ticks is none =
    ap (flat_map (λ (ts : List Token). ts)) none ∙ sym (ap (λ (ms : List Token). flat_map (ticks_of ms) timers) (no-span messages is) ∙ no-ticks timers)

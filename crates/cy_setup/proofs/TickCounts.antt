-- How many ticks are given while messages are played: by the times of a record, and by those of its play list.
use Rattle.std.proofs.Common.{ℕ, ℤ, Option, ◌+◌, ◌*◌, ◌≡◌, ◌≤◌, Bool, true, false, cond, List, [], ◌∷◌, ◌++◌, length, map, min, max, refl, sym, ap, subst, ◌∙◌, inl, inr, arith, All, length-append}
use Rattle.std.specs.Prelude.{◌==◌, filter, if◌then◌else◌, sum_by}
use Rattle.std.specs.List.{flat_map}
use Rattle.std.specs.List.Sorted.{IsPermutation}
use Rattle.std.proofs.lemmas.Bool.{eq-eqb}
use Rattle.std.proofs.lemmas.Bool.Decides.{eqb_tells}
use Rattle.std.proofs.lemmas.List.Elements.{All-nil, All-cons, All-head, All-tail, All-weaker, filter-append}
use Rattle.std.proofs.lemmas.List.Sorted.{All-permutation, IsPermutation-map, IsPermutation-sym, length_permutation}
use Rattle.std.proofs.lemmas.List.Sums.{sum_by-cons}
use Rattle.cy_msg.specs.Tokens.{IsTimed, on_channel}
use Rattle.cy_msg.specs.declared.play_list.PlayList.{PlayList}
use Rattle.cy_msg.specs.declared.token.Token.{Token}
use Rattle.cy_info.specs.Info.{greatest, least}
use Rattle.cy_reader.specs.Record.{Contents}
use Rattle.cy_play_list.specs.Play.{Choice, IsPlayList, chosen, number_at, time_at, tokens_behind, value_at}
use Rattle.cy_play_list.proofs.Playing.{length-tokens}
use Rattle.cy_timer.specs.Merged.{merged, with_ticks}
use Rattle.cy_timer.specs.Ticks.{last_time, multiples, ticks_at, ticks_between, ticks_of}
use Rattle.cy_timer.specs.declared.timer.Timer.{Timer}
use Rattle.cy_timer.proofs.AllPlayed.{length-merged}
use Rattle.cy_timer.proofs.Sorting.{Each, From, Rises, filter-by_time, length-by_time, rises-from_timed}
use Rattle.cy_timer.proofs.Ticking.{on-other, on-own}
use Rattle.cy_setup.specs.Listing.{all_count, played_on, tick_number, ticks_on, times_of}
use Rattle.cy_setup.proofs.Playable.{on-list}

-- the least of some times is not above any of them, and not below what none of them is below
least_under : (t : ℕ) (ts : List ℕ) → All (λ u. least (t ∷ ts) ≤ u) (t ∷ ts)
least_under t [] = All-cons (λ u. t ≤ u) t [] (omega arith) (All-nil (λ u. t ≤ u))
least_under t (u ∷ us) =
    let low = least (u ∷ us) in
    All-cons (λ v. min t low ≤ v) t (u ∷ us) (omega arith) (All-weaker (λ v. low ≤ v) (λ v. min t low ≤ v) (λ v below. omega (arith, below)) (u ∷ us) (least_under u us))

under_least : (x t : ℕ) (ts : List ℕ) → All (λ u. x ≤ u) (t ∷ ts) → x ≤ least (t ∷ ts)
under_least x t [] all = All-head (λ u. x ≤ u) t [] all
under_least x t (u ∷ us) all =
    let here = All-head (λ v. x ≤ v) t (u ∷ us) all in
    let rest = under_least x u us (All-tail (λ v. x ≤ v) t (u ∷ us) all) in
    omega (arith, here, rest)

greatest_over : (ts : List ℕ) → All (λ u. u ≤ greatest ts) ts
greatest_over [] = All-nil (λ u. u ≤ 0)
greatest_over (t ∷ ts) =
    let high = greatest ts in
    All-cons (λ v. v ≤ max t high) t ts (omega arith) (All-weaker (λ v. v ≤ high) (λ v. v ≤ max t high) (λ v above. omega (arith, above)) ts (greatest_over ts))

over_greatest : (x : ℕ) (ts : List ℕ) → All (λ u. u ≤ x) ts → greatest ts ≤ x
over_greatest x [] all = omega arith
over_greatest x (t ∷ ts) all =
    let here = All-head (λ v. v ≤ x) t ts all in
    let rest = over_greatest x ts (All-tail (λ v. v ≤ x) t ts all) in
    omega (arith, here, rest)

-- so both stay where the times are moved
same_least : (t u : ℕ) (ts us : List ℕ) → IsPermutation (t ∷ ts) (u ∷ us) → least (t ∷ ts) ≡ least (u ∷ us)
same_least t u ts us moved =
    let there = under_least (least (t ∷ ts)) u us (All-permutation (λ v. least (t ∷ ts) ≤ v) (t ∷ ts) (u ∷ us) moved (least_under t ts)) in
    let back = under_least (least (u ∷ us)) t ts (All-permutation (λ v. least (u ∷ us) ≤ v) (u ∷ us) (t ∷ ts) (IsPermutation-sym (t ∷ ts) (u ∷ us) moved) (least_under u us)) in
    omega (arith, there, back)

same_greatest : (ts us : List ℕ) → IsPermutation ts us → greatest ts ≡ greatest us
same_greatest ts us moved =
    let there = over_greatest (greatest ts) us (All-permutation (λ v. v ≤ greatest ts) ts us moved (greatest_over ts)) in
    let back = over_greatest (greatest us) ts (All-permutation (λ v. v ≤ greatest us) us ts (IsPermutation-sym ts us moved) (greatest_over us)) in
    omega (arith, there, back)

same_number : (timer : Timer) (ts us : List ℕ) → IsPermutation ts us → tick_number ts timer ≡ tick_number us timer
same_number timer [] [] moved = refl
same_number timer [] (u ∷ us) moved = let long = length_permutation [] (u ∷ us) moved in absurd (omega (arith, long))
same_number timer (t ∷ ts) [] moved = let long = length_permutation (t ∷ ts) [] moved in absurd (omega (arith, long))
same_number timer (t ∷ ts) (u ∷ us) moved =
    ap (λ (begin : ℕ). length (ticks_between begin (greatest (t ∷ ts)) timer)) (same_least t u ts us moved)
    ∙ ap (λ (end : ℕ). length (ticks_between (least (u ∷ us)) end timer)) (same_greatest (t ∷ ts) (u ∷ us) moved)

-- of messages whose times never fall the first has the least, and the last the greatest
abbrev times : List Token → List ℕ
times tokens = map (λ (t : Token). t.time) tokens

least_from : (low : ℕ) (t : Token) (rest : List Token) → low ≤ t.time → Each (From low) rest → low ≤ least (times (t ∷ rest))
least_from low t [] here all = here
least_from low t (u ∷ rest) here all = let more = least_from low u rest all.0 all.1 in omega (arith, here, more)

first_least : (t : Token) (rest : List Token) → Each (From t.time) rest → least (times (t ∷ rest)) ≡ t.time
first_least t [] all = refl
first_least t (u ∷ rest) all = let more = least_from t.time u rest all.0 all.1 in omega (arith, more)

last_greatest : (t : Token) (rest : List Token) → Rises (t ∷ rest) → greatest (times (t ∷ rest)) ≡ last_time t rest
last_greatest t [] rises = omega arith
last_greatest t (u ∷ rest) rises =
    let more = last_greatest u rest rises.1 in
    let order = rises.0.0 in
    omega (arith, more, order)

listed_number : (timer : Timer) (tokens : List Token) → Rises tokens → tick_number (times tokens) timer ≡ length (ticks_of tokens timer)
listed_number timer [] rises = refl
listed_number timer (t ∷ rest) rises =
    ap (λ (begin : ℕ). length (ticks_between begin (greatest (times (t ∷ rest))) timer)) (first_least t rest rises.0)
    ∙ ap (λ (end : ℕ). length (ticks_between t.time end timer)) (last_greatest t rest rises)

times_behind : (number : ℕ → ℕ) (value : ℕ → Option ℤ) (whole : Contents) (before places : List ℕ) → times (tokens_behind number value whole before places) ≡ map (time_at whole) places
times_behind number value whole before [] = refl
times_behind number value whole before (place ∷ rest) = ap (λ (ts : List ℕ). time_at whole place ∷ ts) (times_behind number value whole (before ++ place ∷ []) rest)

-- sums of what is alike
sums_alike : {X : Type 0} (f g : X → ℕ) → ((x : X) → f x ≡ g x) → (xs : List X) → sum_by f xs ≡ sum_by g xs
sums_alike f g alike [] = refl
sums_alike f g alike (x ∷ xs) =
    let here = sum_by-cons f x xs in
    let there = sum_by-cons g x xs in
    let rest = sums_alike f g alike xs in
    omega (arith, here, there, rest, alike x)

-- the ticks of a timer stand on its channel
none_either : (b : Bool) → (let none : ℕ = 0 in none ≡ (if b then none else none))
none_either true = refl
none_either false = refl

ticks_alone : (channel : ℕ) (timer : Timer) (tokens : List Token) → length (on_channel channel (ticks_of tokens timer)) ≡ (if timer.channel == channel then length (ticks_of tokens timer) else 0)
ticks_alone channel timer [] = none_either (timer.channel == channel)
ticks_alone channel timer (first ∷ rest) =
    let at = multiples (timer.interval * 1000000) first.time (last_time first rest) in
    elim (eqb_tells timer.channel channel) [
      | inl same ↦
          ap (λ (c : ℕ). length (on_channel c (ticks_at timer.channel 1 at))) (sym same.1) ∙ ap (λ (ts : List Token). length ts) (on-own timer.channel 1 at)
          ∙ sym (ap (λ (b : Bool). if b then length (ticks_at timer.channel 1 at) else 0) same.0)
      | inr other ↦
          ap (λ (ts : List Token). length ts) (on-other channel timer.channel 1 at other.1) ∙ sym (ap (λ (b : Bool). if b then length (ticks_at timer.channel 1 at) else 0) other.0)
    ]

ticks_there : (channel : ℕ) (tokens : List Token) (timers : List Timer) → length (on_channel channel (flat_map (ticks_of tokens) timers)) ≡ sum_by (λ t. if t.channel == channel then length (ticks_of tokens t) else 0) timers
ticks_there channel tokens [] = refl
ticks_there channel tokens (t ∷ rest) =
    let parts = ap (λ (ts : List Token). length ts) (filter-append (λ (u : Token). u.channel == channel) (ticks_of tokens t) (flat_map (ticks_of tokens) rest)) in
    let long = length-append (on_channel channel (ticks_of tokens t)) (on_channel channel (flat_map (ticks_of tokens) rest)) in
    let one = ticks_alone channel t tokens in
    let more = ticks_there channel tokens rest in
    let sum = sum_by-cons (λ (u : Timer). if u.channel == channel then length (ticks_of tokens u) else 0) t rest in
    omega (arith, parts, long, one, more, sum)

-- what is played on a channel
on-merged : (channel : ℕ) (tokens : List Token) (timers : List Timer) → length (on_channel channel (merged tokens timers)) ≡ length (on_channel channel tokens) + sum_by (λ t. if t.channel == channel then length (ticks_of tokens t) else 0) timers
on-merged channel tokens timers =
    let p : Token → Bool = λ u. u.channel == channel in
    let ordered = ap (λ (ts : List Token). length ts) (filter-by_time p (with_ticks tokens timers)) ∙ length-by_time (filter p (with_ticks tokens timers)) in
    let parts = ap (λ (ts : List Token). length ts) (filter-append p tokens (flat_map (ticks_of tokens) timers)) in
    let long = length-append (on_channel channel tokens) (on_channel channel (flat_map (ticks_of tokens) timers)) in
    let ticks = ticks_there channel tokens timers in
    omega (arith, ordered, parts, long, ticks)

module _ (whole : Contents) (choice : Choice) (list : PlayList) (is : IsPlayList whole choice list) where
  number_is : (timer : Timer) → length (ticks_of list.tokens timer) ≡ tick_number (times_of whole choice) timer
  number_is timer =
      sym (listed_number timer list.tokens (rises-from_timed list.tokens list.timed))
      ∙ ap (λ (ts : List Token). tick_number (times ts) timer) is.tokens
      ∙ ap (λ (ts : List ℕ). tick_number ts timer) (times_behind (number_at whole choice) (value_at whole choice) whole [] list.places)
      ∙ sym (same_number timer (times_of whole choice) (map (time_at whole) list.places) (IsPermutation-map (time_at whole) (chosen whole choice) list.places is.order.same))

  -- how many messages and ticks there are
  pub count_all : (timers : List Timer) → length (merged list.tokens timers) ≡ all_count whole choice timers
  count_all timers =
      let parts = length-merged list.tokens timers in
      let messages = ap (λ (ts : List Token). length ts) is.tokens ∙ length-tokens (number_at whole choice) (value_at whole choice) whole [] list.places in
      let moved = length_permutation (chosen whole choice) list.places is.order.same in
      let ticks = sums_alike (λ (t : Timer). length (ticks_of list.tokens t)) (tick_number (times_of whole choice)) number_is timers in
      omega (arith, parts, messages, moved, ticks)

  -- and how many on each channel
  only_own : (channel : ℕ) (timer : Timer) → (if timer.channel == channel then length (ticks_of list.tokens timer) else 0) ≡ (if timer.channel == channel then tick_number (times_of whole choice) timer else 0)
  only_own channel timer = ap (λ (n : ℕ). if timer.channel == channel then n else 0) (number_is timer)

  pub count_on : (timers : List Timer) (channel : ℕ) → length (on_channel channel (merged list.tokens timers)) ≡ played_on whole choice channel + ticks_on (times_of whole choice) timers channel
  count_on timers channel =
      let parts = on-merged channel list.tokens timers in
      let messages = on-list whole choice list is channel in
      let ticks = sums_alike (λ (t : Timer). if t.channel == channel then length (ticks_of list.tokens t) else 0) (λ (t : Timer). if t.channel == channel then tick_number (times_of whole choice) t else 0) (only_own channel) timers in
      omega (arith, parts, messages, ticks)

-- The timers of a wiring's components.
use Rattle.std.proofs.Common.{ℕ, zero, suc, ◌≡◌, ◌≤◌, List, [], ◌∷◌, ◌++◌, length, map, slice_get, refl, sym, ap, ◌∙◌, arith, length-append, Option, Some, None}
use Rattle.std.specs.Prelude.{option_map, option_to_list, slice_index}
use Rattle.std.proofs.lemmas.Option.{none-some, same_Some, slice_get-get_or}
use Rattle.cy_msg.specs.Once.{IsOnce}
use Rattle.cy_comp.specs.Wiring.{IsWiring}
use Rattle.cy_comp.specs.declared.plan.Plan.{Plan}
use Rattle.cy_timer.specs.Timers.{AreTimers, timer_of, timers_of}
use Rattle.cy_timer.specs.declared.timer.Timer.{Timer}
use Rattle.cy_timer.proofs.Sorting.{Each, each-at}

-- the timer of an interval, if there is one, on a channel
abbrev made : ℕ → ℕ → Timer
made channel interval = record { channel = channel; interval = interval }

abbrev of_one : ℕ → Option ℕ → List Timer
of_one channel o = option_to_list (option_map (made channel) o)

abbrev channels : List Timer → List ℕ
channels timers = map (λ (t : Timer). t.channel) timers

few-one : (channel : ℕ) (o : Option ℕ) → length (of_one channel o) ≤ 1
few-one channel None = omega arith
few-one channel (Some n) = omega arith

few-timers : (plans : List Plan) → length (timers_of plans) ≤ length plans
few-timers [] = omega arith
few-timers (p ∷ rest) =
    let one = few-one (slice_index p.readers 0) p.interval in
    let more = few-timers rest in
    let parts = length-append (timer_of p) (timers_of rest) in
    omega (arith, one, more, parts)

-- each has an interval
some-more : (channel : ℕ) (o : Option ℕ) (ts : List Timer) → ((n : ℕ) → o ≡ Some n → 1 ≤ n) → Each (λ (t : Timer). 1 ≤ t.interval) ts → Each (λ (t : Timer). 1 ≤ t.interval) (of_one channel o ++ ts)
some-more channel None ts some all = all
some-more channel (Some n) ts some all = (some n refl, all)

all-some : (plans : List Plan) → ((i n : ℕ) (p : Plan) → slice_get plans i ≡ Some p → p.interval ≡ Some n → 1 ≤ n) → Each (λ (t : Timer). 1 ≤ t.interval) (timers_of plans)
all-some [] some = tt
all-some (p ∷ rest) some =
    some-more (slice_index p.readers 0) p.interval (timers_of rest) (λ n. some 0 n p refl) (all-some rest (λ i. some (suc i)))

-- the component of a timer
pub record TimedAt (plans : List Plan) (channel : ℕ) : Type 0 where
  pub place : ℕ
  pub interval : ℕ
  pub plan : Plan
  pub here : slice_get plans place ≡ Some plan
  pub ticks : plan.interval ≡ Some interval
  pub reads : slice_index plan.readers 0 ≡ channel

later : (p : Plan) (rest : List Plan) (channel : ℕ) → TimedAt rest channel → TimedAt (p ∷ rest) channel
later p rest channel at = record { place = suc at.place; interval = at.interval; plan = at.plan; here = at.here; ticks = at.ticks; reads = at.reads }

found-more : (p : Plan) (rest : List Plan) (o : Option ℕ) → p.interval ≡ o → ((k c : ℕ) → slice_get (channels (timers_of rest)) k ≡ Some c → TimedAt rest c)
    → (k c : ℕ) → slice_get (channels (of_one (slice_index p.readers 0) o ++ timers_of rest)) k ≡ Some c → TimedAt (p ∷ rest) c
found-more p rest None is found k c e = later p rest c (found k c e)
found-more p rest (Some n) is found zero c e = record { place = 0; interval = n; plan = p; here = refl; ticks = is; reads = same_Some (slice_index p.readers 0) c e }
found-more p rest (Some n) is found (suc k) c e = later p rest c (found k c e)

pub found : (plans : List Plan) (k c : ℕ) → slice_get (channels (timers_of plans)) k ≡ Some c → TimedAt plans c
found [] k c e = absurd (none-some c e)
found (p ∷ rest) k c e = found-more p rest p.interval refl (found rest) k c e

-- none has the channel of another one
once-more : (c : ℕ) (cs : List ℕ) → IsOnce cs → ((k : ℕ) → slice_get cs k ≡ Some c → ⊥) → IsOnce (c ∷ cs)
once-more c cs once none zero zero x a b = refl
once-more c cs once none zero (suc n) x a b = absurd (none n (b ∙ ap Some (sym (same_Some c x a))))
once-more c cs once none (suc m) zero x a b = absurd (none m (a ∙ ap Some (sym (same_Some c x b))))
once-more c cs once none (suc m) (suc n) x a b = ap suc (once m n x a b)

-- Two components whose first readers are one channel are one.
abbrev Apart : List Plan → Type 0
Apart plans = (i j m n : ℕ) (a b : Plan) → slice_get plans i ≡ Some a → slice_get plans j ≡ Some b → a.interval ≡ Some m → b.interval ≡ Some n → slice_index a.readers 0 ≡ slice_index b.readers 0 → i ≡ j

apart-more : (p : Plan) (rest : List Plan) (o : Option ℕ) → p.interval ≡ o → Apart (p ∷ rest) → IsOnce (channels (timers_of rest)) → IsOnce (channels (of_one (slice_index p.readers 0) o ++ timers_of rest))
apart-more p rest None is apart once = once
apart-more p rest (Some n) is apart once =
    once-more (slice_index p.readers 0) (channels (timers_of rest)) once (λ k e.
    let at = found rest k (slice_index p.readers 0) e in
    let same = apart 0 (suc at.place) n at.interval p at.plan refl at.here is at.ticks (sym at.reads) in
    absurd (omega (arith, same)))

all-apart : (plans : List Plan) → Apart plans → IsOnce (channels (timers_of plans))
all-apart [] apart = λ m n x a b. absurd (none-some x a)
all-apart (p ∷ rest) apart =
    apart-more p rest p.interval refl apart (all-apart rest (λ i j m n a b h k s t e. let same = apart (suc i) (suc j) m n a b h k s t e in omega (arith, same)))

pub are-timers : (names : List (List ℕ)) (plans : List Plan) → IsWiring names plans → AreTimers (timers_of plans)
are-timers names plans wired =
    let most = few-timers plans in
    let few = wired.few in
    record {
      few = omega (arith, most, few);
      intervals = λ i t e. each-at (λ (u : Timer). 1 ≤ u.interval) (timers_of plans) i t (all-some plans (λ k n p h s. (wired.timers k n p h s).some)) e;
      apart = all-apart plans (λ i j m n a b h k s t e.
          let one = (wired.timers i m a h s).reader in
          let also = (wired.timers j n b k t).reader in
          wired.own_ticks i j m n (slice_index a.readers 0) a b h k s t (slice_get-get_or a.readers 0 0 (omega (arith, one)))
          (slice_get-get_or b.readers 0 0 (omega (arith, also)) ∙ ap Some (sym e)));
    }

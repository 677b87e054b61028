-- What calls put out, with one call more; the outcome of the last; and where an output stands among them.
use Rattle.std.proofs.Common.{ℕ, zero, suc, ◌+◌, ◌-◌, ◌≡◌, ◌≢◌, ◌≤◌, refl, sym, ◌∙◌, ap, arith, List, [], ◌∷◌, ◌++◌, length, length-append, take, Some, None, Option, slice_get, append_assoc, append-nil, subst, option_map}
use Rattle.std.proofs.Math.Seq.{take-length}
use Rattle.cy_msg.specs.declared.token.Token.{Token}
use Rattle.cy_msg.specs.declared.token.Tuple.{Tuple}
use Rattle.cy_msg.proofs.Lists.{take_next}
use Rattle.cy_comp.specs.declared.call.Call.{Call}
use Rattle.cy_comp.specs.declared.call.Out.{Out}
use Rattle.cy_comp.specs.declared.call.Outcome.{Outcome}
use Rattle.cy_comp.specs.declared.call.Outcome.TheVariants.{Emit, Hold, Last}
use Rattle.cy_comp.specs.Step.{outcome_after, out_of}
use Rattle.cy_comp.specs.Calls.{tuples_of, last_after, last_outcome, held_until, output, numbered, outs_after, outs}
use Rattle.wake_core.specs.Run.{Route}

-- What a call puts out behind so many outputs.
pub put_out : (channel before : ℕ) → Option Out → List Token
put_out channel before None = []
put_out channel before (Some out) = output channel (before + 1) out ∷ []

outs_after_push : (channel before : ℕ) (calls : List Call) (x : Call)
    → outs_after channel before (calls ++ x ∷ []) ≡ outs_after channel before calls ++ put_out channel (before + length (outs_after channel before calls)) x.out
unfolding put_out
outs_after_push channel before [] x = go x.out
  where
    go : (o : Option Out) → numbered channel before o (λ n. []) ≡ put_out channel (before + 0) o
    go None = refl
    go (Some out) = let same : before + 1 ≡ before + 0 + 1 = omega arith in ap (λ n. output channel n out ∷ []) same
outs_after_push channel before (y ∷ calls) x = go (outs_after_push channel before calls x) (outs_after_push channel (before + 1) calls x) y.out
  where
    go : outs_after channel before (calls ++ x ∷ []) ≡ outs_after channel before calls ++ put_out channel (before + length (outs_after channel before calls)) x.out
        → outs_after channel (before + 1) (calls ++ x ∷ []) ≡ outs_after channel (before + 1) calls ++ put_out channel (before + 1 + length (outs_after channel (before + 1) calls)) x.out
        → (o : Option Out) → numbered channel before o (λ n. outs_after channel n (calls ++ x ∷ []))
        ≡ numbered channel before o (λ n. outs_after channel n calls) ++ put_out channel (before + length (numbered channel before o (λ n. outs_after channel n calls))) x.out
    go none some None = none
    go none some (Some p) =
        let more : ℕ = length (outs_after channel (before + 1) calls) in
        let same : before + 1 + more ≡ before + suc more = omega arith in
        ap (λ l. output channel (before + 1) p ∷ l) some ∙ ap (λ n. output channel (before + 1) p ∷ outs_after channel (before + 1) calls ++ put_out channel n x.out) same

-- A call more puts out what it puts out, behind the others.
pub outs_push : (channel : ℕ) (calls : List Call) (x : Call) → outs channel (calls ++ x ∷ []) ≡ outs channel calls ++ put_out channel (length (outs channel calls)) x.out
unfolding outs
outs_push channel calls x = let same : 0 + length (outs_after channel 0 calls) ≡ length (outs_after channel 0 calls) = omega arith in
    outs_after_push channel 0 calls x ∙ ap (λ n. outs_after channel 0 calls ++ put_out channel n x.out) same

pub put_out_few : (channel before : ℕ) (o : Option Out) → length (put_out channel before o) ≤ 1
unfolding put_out
put_out_few channel before None = omega arith
put_out_few channel before (Some out) = omega arith

pub put_out_one : (channel before : ℕ) (o : Option Out) (out : Out) → o ≡ Some out → length (put_out channel before o) ≡ 1
unfolding put_out
put_out_one channel before None out e = cc
put_out_one channel before (Some p) out e = refl

-- An outcome that holds an output back has one.
pub held_puts : (channel before : ℕ) (outcome : Outcome) → held_until (Some outcome) ≢ None → length (put_out channel before (out_of outcome)) ≡ 1
held_puts channel before (Emit out) some = absurd (some refl)
held_puts channel before (Hold until out) some = put_out_one channel before (Some out) out refl
held_puts channel before (Last out) some = absurd (some refl)

outs_after_few : (channel before : ℕ) (calls : List Call) → length (outs_after channel before calls) ≤ length calls
outs_after_few channel before [] = omega arith
outs_after_few channel before (x ∷ calls) = go (outs_after_few channel before calls) (outs_after_few channel (before + 1) calls) x.out
  where
    go : length (outs_after channel before calls) ≤ length calls → length (outs_after channel (before + 1) calls) ≤ length calls
        → (o : Option Out) → length (numbered channel before o (λ n. outs_after channel n calls)) ≤ suc (length calls)
    go none some None = omega arith
    go none some (Some out) = omega arith

-- Calls have no more outputs than there are calls.
pub outs_few : (channel : ℕ) (calls : List Call) → length (outs channel calls) ≤ length calls
unfolding outs
outs_few channel calls = outs_after_few channel 0 calls

-- An output's channel and number.
pub record IsAt (channel n : ℕ) (t : Token) : Type 0 where
  pub its : t.channel ≡ channel
  pub number : t.seq ≡ n + 1

outs_after_at : (channel before : ℕ) (calls : List Call) (n : ℕ) (t : Token) → slice_get (outs_after channel before calls) n ≡ Some t → IsAt channel (before + n) t
outs_after_at channel before [] n t e = cc
outs_after_at channel before (x ∷ calls) n t e = go (λ m e. outs_after_at channel before calls m t e) (λ m e. outs_after_at channel (before + 1) calls m t e) x.out n e
  where
    go : ((m : ℕ) → slice_get (outs_after channel before calls) m ≡ Some t → IsAt channel (before + m) t)
        → ((m : ℕ) → slice_get (outs_after channel (before + 1) calls) m ≡ Some t → IsAt channel (before + 1 + m) t)
        → (o : Option Out) (n : ℕ) → slice_get (numbered channel before o (λ n. outs_after channel n calls)) n ≡ Some t → IsAt channel (before + n) t
    go none some None n e = none n e
    go none some (Some out) zero e =
        let same : output channel (before + 1) out ≡ t = cc in
        let none : before + 1 ≡ before + 0 + 1 = omega arith in
        record { its = ap (λ (s : Token). s.channel) (sym same); number = ap (λ (s : Token). s.seq) (sym same) ∙ none }
    go none some (Some out) (suc n) e = let is = some n e in record { its = is.its; number = omega (arith, is.number) }

pub outs_at : (channel : ℕ) (calls : List Call) (n : ℕ) (t : Token) → slice_get (outs channel calls) n ≡ Some t → IsAt channel n t
unfolding outs
outs_at channel calls n t e = let is = outs_after_at channel 0 calls n t e in record { its = is.its; number = omega (arith, is.number) }

last_after_push : (x : Route) (earlier : List Tuple) (calls : List Call) (call : Call)
    → last_after x.kind earlier (calls ++ call ∷ []) ≡ Some (outcome_after x.kind (earlier ++ tuples_of calls) call.tuple)
last_after_push x earlier [] call = ap (λ l. Some (outcome_after x.kind l call.tuple)) (sym (append-nil earlier))
last_after_push x earlier (y ∷ []) call = refl
last_after_push x earlier (y ∷ z ∷ calls) call =
    last_after_push x (earlier ++ y.tuple ∷ []) (z ∷ calls) call ∙ ap (λ l. Some (outcome_after x.kind l call.tuple)) (append_assoc earlier (y.tuple ∷ []) (tuples_of (z ∷ calls)))

-- The last outcome is that of the last call.
pub last_push : (x : Route) (calls : List Call) (call : Call) → last_outcome x.kind (calls ++ call ∷ []) ≡ Some (outcome_after x.kind (tuples_of calls) call.tuple)
unfolding last_outcome
last_push x calls call = last_after_push x [] calls call

-- The outcome of a last call.
pub last_at : (x : Route) (calls : List Call) (n : ℕ) (call : Call) → slice_get calls n ≡ Some call → n + 1 ≡ length calls
    → last_outcome x.kind calls ≡ Some (outcome_after x.kind (tuples_of (take n calls)) call.tuple)
last_at x calls n call at last =
    let whole : calls ≡ take n calls ++ call ∷ [] = sym (take-length calls) ∙ ap (λ k. take k calls) (sym last) ∙ take_next calls n call at in
    ap (last_outcome x.kind) whole ∙ last_push x (take n calls) call

outs_after_take : (channel before : ℕ) (calls : List Call) (m n : ℕ) → m ≤ n → length (outs_after channel before (take m calls)) ≤ length (outs_after channel before (take n calls))
outs_after_take channel before calls zero n l = omega arith
outs_after_take channel before [] (suc m) n l = omega arith
outs_after_take channel before (x ∷ calls) (suc m) zero l = absurd (omega arith)
outs_after_take channel before (x ∷ calls) (suc m) (suc n) l = go (outs_after_take channel before calls m n (omega arith)) (outs_after_take channel (before + 1) calls m n (omega arith)) x.out
  where
    go : length (outs_after channel before (take m calls)) ≤ length (outs_after channel before (take n calls))
        → length (outs_after channel (before + 1) (take m calls)) ≤ length (outs_after channel (before + 1) (take n calls))
        → (o : Option Out) → length (numbered channel before o (λ k. outs_after channel k (take m calls))) ≤ length (numbered channel before o (λ k. outs_after channel k (take n calls)))
    go none some None = none
    go none some (Some out) = omega arith

-- More calls have no fewer outputs.
pub outs_take : (channel : ℕ) (calls : List Call) (m n : ℕ) → m ≤ n → length (outs channel (take m calls)) ≤ length (outs channel (take n calls))
unfolding outs
outs_take channel calls m n l = outs_after_take channel 0 calls m n l

all_but_last : {X : Type 0} (xs : List X) → length xs ≢ 0 → (x : X) × (xs ≡ take (length xs - 1) xs ++ x ∷ [])
all_but_last [] some = absurd (some refl)
all_but_last (x ∷ []) some = (x, refl)
all_but_last (x ∷ y ∷ xs) some =
    let rest = all_but_last (y ∷ xs) (λ e. none (length xs) e) in
    let n : length (x ∷ y ∷ xs) - 1 ≡ suc (length (y ∷ xs) - 1) = omega arith in
    (rest.0, ap (λ l. x ∷ l) rest.1 ∙ ap (λ k. take k (x ∷ y ∷ xs) ++ rest.0 ∷ []) (sym n))
  where
    none : (n : ℕ) → suc n ≡ 0 → ⊥
    none n e = cc

-- The last call puts out one at most.
pub outs_but_last : (channel : ℕ) (calls : List Call) → length (outs channel calls) ≤ length (outs channel (take (length calls - 1) calls)) + 1
outs_but_last channel [] = omega arith
outs_but_last channel (x ∷ calls) =
    let l = all_but_last (x ∷ calls) (λ e. none (length calls) e) in
    let before : List Call = take (length (x ∷ calls) - 1) (x ∷ calls) in
    let whole : length (outs channel (x ∷ calls)) ≡ length (outs channel before) + length (put_out channel (length (outs channel before)) l.0.out) =
    ap (λ c. length (outs channel c)) l.1 ∙ ap length (outs_push channel before l.0) ∙ length-append (outs channel before) (put_out channel (length (outs channel before)) l.0.out) in
    omega (arith, whole, put_out_few channel (length (outs channel before)) l.0.out)
  where
    none : (n : ℕ) → suc n ≡ 0 → ⊥
    none n e = cc

behind : (xs : List Token) (channel before : ℕ) (o : Option Out) → slice_get (xs ++ put_out channel before o) (length xs) ≡ option_map (output channel (before + 1)) o
unfolding put_out
behind [] channel before None = refl
behind [] channel before (Some out) = refl
behind (x ∷ xs) channel before o = behind xs channel before o

-- What a call puts out stands behind all before it.
pub next_out : (channel : ℕ) (xs : List Token) (o : Option Out) (n : ℕ) → n ≡ length xs → slice_get (xs ++ put_out channel (length xs) o) n ≡ option_map (output channel (n + 1)) o
next_out channel xs o n e = subst (λ n. slice_get (xs ++ put_out channel (length xs) o) n ≡ option_map (output channel (n + 1)) o) (sym e) (behind xs channel (length xs) o)

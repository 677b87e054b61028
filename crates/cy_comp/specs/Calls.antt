-- The calls of a component: which are lawful, and what they put out.
use Rattle.std.specs.Prelude.{ℕ, ◌+◌, ◌-◌, ◌≡◌, ◌≤◌, Bool, true, false, List, [], ◌∷◌, ◌++◌, length}
use Rattle.std.specs.Prelude.{take, map, slice_get, Option, Some, None}
use Rattle.cy_msg.specs.declared.token.Token.{Token}
use Rattle.cy_msg.specs.declared.token.Tuple.{Tuple}
use Rattle.cy_fuse.specs.declared.overflow.Overflow.{Overflow}
use Rattle.cy_fuse.specs.Fusion.{Arrival, fused}
use Rattle.cy_fuse.specs.Fetch.{fetch}
use Rattle.cy_comp.specs.declared.kind.Kind.{Kind}
use Rattle.cy_comp.specs.declared.call.Out.{Out}
use Rattle.cy_comp.specs.declared.call.Call.{Call}
use Rattle.cy_comp.specs.declared.call.Outcome.{Outcome}
use Rattle.cy_comp.specs.declared.call.Outcome.TheVariants.{Emit, Hold, Last}
use Rattle.cy_comp.specs.Step.{outcome_after, out_of}

-- Where the next fetch of a component begins: at 0 before its first call, then behind its last
-- position.
abbrev pub cursor_after : List Call → ℕ
cursor_after [] = 0
cursor_after (x ∷ []) = x.position + 1
cursor_after (x ∷ y ∷ rest) = cursor_after (y ∷ rest)

-- The tail at its last call.
abbrev pub tail_after : List Call → ℕ
tail_after [] = 0
tail_after (x ∷ []) = x.tail
tail_after (x ∷ y ∷ rest) = tail_after (y ∷ rest)

-- The tuples that calls took.
abbrev pub tuples_of : List Call → List Tuple
tuples_of calls = map (λ x. x.tuple) calls

-- The outcome of the last of some calls, of which those before it had these tuples.
abbrev pub last_after : Kind → List Tuple → List Call → Option Outcome
last_after k earlier [] = None
last_after k earlier (x ∷ []) = Some (outcome_after k earlier x.tuple)
last_after k earlier (x ∷ y ∷ rest) = last_after k (earlier ++ x.tuple ∷ []) (y ∷ rest)

-- The outcome of the last call, where there is one.
unfoldable pub last_outcome : Kind → List Call → Option Outcome
last_outcome k calls = last_after k [] calls

-- Whether an outcome is a component's last.
abbrev pub is_last : Option Outcome → Bool
is_last None = false
is_last (Some (Emit out)) = false
is_last (Some (Hold until out)) = false
is_last (Some (Last out)) = true

-- Until when an outcome holds its output back, where it does.
abbrev pub held_until : Option Outcome → Option ℕ
held_until None = None
held_until (Some (Emit out)) = None
held_until (Some (Hold until out)) = Some until
held_until (Some (Last out)) = None

-- An output as a message of a channel, with its number there.
abbrev pub output : ℕ → ℕ → Out → Token
output channel seq out = record {
  channel = channel;
  seq = seq;
  time = out.time;
  whole = out.whole;
  origin = out.origin;
}

-- An output, where there is one, and what later calls put out.
abbrev pub numbered : ℕ → ℕ → Option Out → (ℕ → List Token) → List Token
numbered channel before None later = later before
numbered channel before (Some out) later = output channel (before + 1) out ∷ later (before + 1)

-- What calls put out on a channel that has so many outputs already; a call without an output adds
-- nothing.
abbrev pub outs_after : ℕ → ℕ → List Call → List Token
outs_after channel before [] = []
outs_after channel before (x ∷ rest) =
    numbered channel before x.out (λ n. outs_after channel n rest)

-- What the calls of a component put out on its channel, numbered from 1.
unfoldable pub outs : ℕ → List Call → List Token
outs channel calls = outs_after channel 0 calls

-- The calls are lawful for a component of a class that keeps `queue` tuples of so many readers and
-- goes on in this way where one isn't kept any more: each takes the tuple that the fetch rule gives
-- where the last one left off, with a tail that never falls and is no more than what the arrivals
-- fuse to, and puts out what the class answers, at once or held back; and none follows the
-- component's last outcome.
pub record LawfulCalls (k : Kind) (arrivals : List Arrival) (readers queue : ℕ)
    (overflow : Overflow) (calls : List Call) : Type 0 where
  pub positions : (n : ℕ) (x : Call) → slice_get calls n ≡ Some x
      → fetch (cursor_after (take n calls)) x.tail queue overflow ≡ Some x.position
  pub tails_rise : (n : ℕ) (x : Call) → slice_get calls n ≡ Some x
      → tail_after (take n calls) ≤ x.tail
  pub tails_fused : (n : ℕ) (x : Call) → slice_get calls n ≡ Some x
      → x.tail ≤ length (fused arrivals readers)
  pub tuples : (n : ℕ) (x : Call) → slice_get calls n ≡ Some x
      → slice_get (fused arrivals readers) (x.position - 1) ≡ Some x.tuple
  pub outputs : (n : ℕ) (x : Call) → slice_get calls n ≡ Some x
      → x.out ≡ out_of (outcome_after k (tuples_of (take n calls)) x.tuple)
  pub no_call_after_last : (n : ℕ) (x : Call) → slice_get calls n ≡ Some x
      → is_last (last_outcome k (take n calls)) ≡ false

-- What the components of all classes have in common.
use Rattle.std.specs.Prelude.{ℕ, ◌≡◌, ◌≢◌, ◌≤◌, ◌<◌, ◌⊎◌, ◌↔◌, ℤ, true, List, [], ◌∷◌, ◌++◌}
use Rattle.std.specs.Prelude.{slice_get, Some, None}
use Rattle.std.specs.List.{Contains}
use Rattle.cy_msg.specs.declared.token.Token.{Token}
use Rattle.cy_msg.specs.declared.token.Tuple.{Tuple}
use Rattle.cy_msg.specs.Tuple.{first_of, messages_of}
use Rattle.cy_fuse.specs.declared.overflow.Overflow.{Overflow}
use Rattle.cy_fuse.specs.Fusion.{Arrival}
use Rattle.cy_comp.specs.declared.answers.Answer.{Answer}
use Rattle.cy_comp.specs.declared.kind.Kind.{Kind}
use Rattle.cy_comp.specs.declared.kind.Kind.TheVariants.{External}
use Rattle.cy_comp.specs.declared.call.Call.{Call}
use Rattle.cy_comp.specs.declared.call.Outcome.{Outcome}
use Rattle.cy_comp.specs.declared.call.Outcome.TheVariants.{Emit, Hold, Last}
use Rattle.cy_comp.specs.Kind.{holds_outputs}
use Rattle.cy_comp.specs.Calls.{held_until, LawfulCalls}
use Rattle.cy_comp.specs.Step.{held_within, passed_at, made_at, answer_at, last_wake}
use Rattle.cy_comp.specs.Step.{outcome_after}

-- A message of a tuple.
pub record IsOf (tuple : Tuple) (m : Token) : Type 0 where
  pub place : ℕ
  pub there : slice_get (messages_of tuple) place ≡ Some m

-- The value of the first message of one of these tuples.
pub record CameWith (tuples : List Tuple) (value : ℤ) : Type 0 where
  pub place : ℕ
  pub tuple : Tuple
  pub there : slice_get tuples place ≡ Some tuple
  pub whole : (first_of tuple).whole ≡ Some value

-- A value that is made of tuples: one that came with them, or one that is held within the signed
-- numbers of 64 bits.
abbrev pub IsMade : List Tuple → ℤ → Type 0
IsMade tuples value = CameWith tuples value ⊎ ((exact : ℤ) × (value ≡ held_within exact))

-- An answer that a class has from a file.
pub record IsGiven (k : Kind) (a : Answer) : Type 0 where
  pub answers : List Answer
  pub kind : k ≡ External answers
  pub among : Contains answers a

-- What a component of a class may answer to a tuple, the last of these: it puts out nothing, a
-- message of the tuple, a value that it makes or an answer that its class has from a file, at the
-- time of the first message; it holds a message back until the output's own time; or it passes one
-- on as its last output.
pub data IsAnswer (k : Kind) (tuples : List Tuple) (tuple : Tuple) : Outcome → Type 0 where
  no_output : IsAnswer k tuples tuple (Emit None)
  passes_on : {m : Token} → IsOf tuple m
      → IsAnswer k tuples tuple (Emit (Some (passed_at (first_of tuple).time m)))
  makes_value : {value : ℤ} → IsMade tuples value
      → IsAnswer k tuples tuple (Emit (Some (made_at (first_of tuple).time value)))
  gives_answer : {a : Answer} → IsGiven k a
      → IsAnswer k tuples tuple (Emit (Some (answer_at (first_of tuple).time a)))
  holds_back : {until : ℕ} {m : Token} → until ≤ last_wake → IsOf tuple m
      → IsAnswer k tuples tuple (Hold until (passed_at until m))
  ends_with : {m : Token} → IsOf tuple m
      → IsAnswer k tuples tuple (Last (Some (passed_at (first_of tuple).time m)))

-- Whatever its class, a component answers so to a tuple after calls with others.
abbrev pub OutcomesAreAnswers : Type 0
OutcomesAreAnswers = (k : Kind) (earlier : List Tuple) (tuple : Tuple)
    → IsAnswer k (earlier ++ tuple ∷ []) tuple (outcome_after k earlier tuple)

-- Whatever its class, an output of a component is held back exactly where the class says so.
abbrev pub HoldsByClass : Type 0
HoldsByClass = (k : Kind) (earlier : List Tuple) (tuple : Tuple)
    → (held_until (Some (outcome_after k earlier tuple)) ≢ None) ↔ (holds_outputs k ≡ true)

-- Lawful calls take their tuples in order, each at most once.
abbrev pub PositionsRise : Type 0
PositionsRise = (k : Kind) (arrivals : List Arrival) (readers queue : ℕ) (overflow : Overflow)
    (calls : List Call) → LawfulCalls k arrivals readers queue overflow calls
    → (m n : ℕ) (x y : Call) → slice_get calls m ≡ Some x → slice_get calls n ≡ Some y → m < n
    → x.position < y.position

-- What a component of each class answers to a tuple, and what it keeps for its next calls.
use Rattle.std.specs.Prelude.{ℕ, ◌+◌, ◌-◌, ◌^◌, ◌==◌, min, ◌&&◌, if◌then◌else◌, Bool, false, ℤ, pos}
use Rattle.std.specs.Prelude.{◌+ℤ◌, int_le, List, [], ◌∷◌, ◌++◌, Option, Some, None, option_map}
use Rattle.std.specs.Prelude.{option_and_then}
use Rattle.std.specs.Int.{int_max, saturate_to_bits}
use Rattle.std.specs.Ordering.{int_eq}
use Rattle.circular_buffer.specs.Buffer.{keep_last}
use Rattle.cy_msg.specs.declared.token.Token.{Token}
use Rattle.cy_msg.specs.declared.token.Tuple.{Tuple}
use Rattle.cy_msg.specs.declared.token.Tuple.TheVariants.{One, Two, Three, Four}
use Rattle.cy_msg.specs.Tuple.{first_of, messages_of}
use Rattle.cy_comp.specs.declared.answers.Answer.{Answer}
use Rattle.cy_comp.specs.declared.kind.Kind.{Kind}
use Rattle.cy_comp.specs.declared.kind.Kind.TheVariants as kind
use Rattle.cy_comp.specs.declared.call.Out.{Out}
use Rattle.cy_comp.specs.declared.call.Outcome.{Outcome}
use Rattle.cy_comp.specs.declared.call.Outcome.TheVariants.{Emit, Hold, Last}
use Rattle.cy_comp.specs.Answers.{answered}

-- What a component keeps from its earlier calls, each class but what it needs: how many calls there
-- were, the greatest value, the last values, and the value that passed last.
pub record Kept : Type 0 where
  pub calls : ℕ
  pub greatest : Option ℤ
  pub last : List ℤ
  pub passed : Option ℤ

-- What it keeps before its first call.
abbrev pub opening_of : Kind → Kept
opening_of k = record { calls = 0; greatest = None; last = []; passed = None }

-- A message passed on at a time: an output with its value and its content.
abbrev pub passed_at : ℕ → Token → Out
passed_at time m = record { time = time; whole = m.whole; origin = m.origin }

-- A message passed on: an output with its time, its value and its content.
abbrev pub passed : Token → Out
passed m = passed_at m.time m

-- A value of its own, whose content is the written form of the value.
abbrev pub made_at : ℕ → ℤ → Out
made_at time value = record { time = time; whole = Some value; origin = None }

-- An answer put out at a time: with its value and its content.
abbrev pub answer_at : ℕ → Answer → Out
answer_at time a = record { time = time; whole = a.whole; origin = Some a.origin }

-- A value, held within the signed numbers of 64 bits.
abbrev pub held_within : ℤ → ℤ
held_within value = saturate_to_bits 63 value

-- The exact sum of values.
abbrev pub sum_of : List ℤ → ℤ
sum_of [] = pos 0
sum_of (v ∷ rest) = v +ℤ sum_of rest

-- The sum of values, held within the same numbers.
abbrev pub held_sum : List ℤ → ℤ
held_sum values = held_within (sum_of values)

-- The values of messages, where each has one.
abbrev pub values_of : List Token → Option (List ℤ)
values_of [] = Some []
values_of (m ∷ rest) = option_and_then (λ v. option_map (λ vs. v ∷ vs) (values_of rest)) m.whole

-- Whether a value is in a range.
abbrev pub is_between : (lo hi v : ℤ) → Bool
is_between lo hi v = int_le lo v && int_le v hi

-- The greater of a value and those before, where there were any.
abbrev pub greater_of : Option ℤ → ℤ → ℤ
greater_of None v = v
greater_of (Some before) v = int_max before v

-- Whether a value is the one that passed last.
abbrev pub is_last_passed : Option ℤ → ℤ → Bool
is_last_passed None v = false
is_last_passed (Some before) v = int_eq before v

-- The number of calls, with one more. It stands still at the greatest signed number of 64 bits.
abbrev pub counted : ℕ → ℕ
counted calls = min (calls + 1) (2 ^ 63 - 1)

-- The messages of the second and the third reader, where there are so many readers.
abbrev pub second_of : Tuple → Token
second_of (One a) = a
second_of (Two a b) = b
second_of (Three a b c) = b
second_of (Four a b c d) = b

abbrev pub third_of : Tuple → Token
third_of (One a) = a
third_of (Two a b) = b
third_of (Three a b c) = c
third_of (Four a b c d) = c

-- The message that the value of the first one chooses.
abbrev pub chosen : ℤ → Tuple → Token
chosen v tuple = if int_eq v (pos 0) then second_of tuple else third_of tuple

-- Outcomes: nothing is put out, a message is passed on, and a value is put out at the time of a
-- message.
abbrev pub nothing : Outcome
nothing = Emit None

abbrev pub passes : Token → Outcome
passes m = Emit (Some (passed m))

abbrev pub makes : Token → ℤ → Outcome
makes m value = Emit (Some (made_at m.time value))

-- An answer to a value; where there is none, nothing is put out and nothing changes.
abbrev pub on_value : Kept → Option ℤ → (ℤ → Kept × Outcome) → Kept × Outcome
on_value kept None answer = (kept, nothing)
on_value kept (Some v) answer = answer v

-- The greatest time until which an output is held back: the clock can still be past it.
abbrev pub last_wake : ℕ
last_wake = 2 ^ 64 - 2

-- What a component keeps after a call on a tuple, of which m is the first message, and what it
-- answers.
abbrev pub answer_of : Kind → Kept → Token → Tuple → Kept × Outcome
answer_of kind.Pass kept m tuple = (kept, passes m)
answer_of (kind.Filter lo hi) kept m tuple =
    on_value kept m.whole (λ v. (kept, if is_between lo hi v then passes m else nothing))
answer_of kind.Sum kept m tuple =
    (kept, Emit (option_map (λ vs. made_at m.time (held_sum vs)) (values_of (messages_of tuple))))
answer_of kind.Count kept m tuple =
    let calls = counted kept.calls in (record kept { calls = calls }, makes m (pos calls))
answer_of kind.Max kept m tuple =
    on_value kept m.whole (λ v. let most = greater_of kept.greatest v in
    (record kept { greatest = Some most }, makes m most))
answer_of (kind.Window n) kept m tuple =
    on_value kept m.whole (λ v. let last = keep_last n (kept.last ++ v ∷ []) in
    (record kept { last = last }, makes m (held_sum last)))
answer_of kind.Change kept m tuple =
    on_value kept m.whole (λ v. if is_last_passed kept.passed v then (kept, nothing)
    else (record kept { passed = Some v }, passes m))
answer_of kind.Select kept m tuple =
    on_value kept m.whole (λ v. (kept, Emit (Some (passed_at m.time (chosen v tuple)))))
answer_of (kind.Hold delay) kept m tuple =
    let until = min (m.time + delay) last_wake in (kept, Hold until (passed_at until m))
answer_of (kind.Take n) kept m tuple =
    let calls = counted kept.calls in
    (record kept { calls = calls }, if calls == n then Last (Some (passed m)) else passes m)
answer_of (kind.External answers) kept m tuple =
    let calls = counted kept.calls in
    (record kept { calls = calls }, Emit (option_map (answer_at m.time) (answered answers calls)))

-- What a component keeps after a call, and what it answers. An output has the time of the first
-- message, but a held one.
abbrev pub step : Kind → Kept → Tuple → Kept × Outcome
step k kept tuple = answer_of k kept (first_of tuple) tuple

-- What it keeps after calls with these tuples, from its opening.
abbrev pub kept_after : Kind → Kept → List Tuple → Kept
kept_after k kept [] = kept
kept_after k kept (tuple ∷ rest) = kept_after k (step k kept tuple).0 rest

-- What a component of a class answers to a tuple after calls with these.
unfoldable pub outcome_after : Kind → List Tuple → Tuple → Outcome
outcome_after k earlier tuple = (step k (kept_after k (opening_of k) earlier) tuple).1

-- What an outcome puts out, now or later.
abbrev pub out_of : Outcome → Option Out
out_of (Emit out) = out
out_of (Hold until out) = Some out
out_of (Last out) = out

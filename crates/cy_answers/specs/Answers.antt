-- The answers that a record has for a component, and the first cause for which it is refused.
use Rattle.std.specs.Prelude.{ℕ, ◌+◌, ◌*◌, ◌≡◌, ◌==◌, nat_lt, if◌then◌else◌, ⊤, Bool, List, []}
use Rattle.std.specs.Prelude.{◌∷◌, length, filter, Option, Some, None}
use Rattle.std.specs.Option.{option_or}
use Rattle.std.specs.Str.{bytes_eq}
use Rattle.cy_msg.specs.Tokens.{most_played}
use Rattle.cy_wire.specs.Whole.{whole_value}
use Rattle.cy_reader.specs.Named.{name_in}
use Rattle.cy_reader.specs.Record.{Contents, Message}
use Rattle.cy_comp.specs.declared.answers.Answer.{Answer}
use Rattle.cy_answers.specs.declared.error.AnswersError.{AnswersError}
use Rattle.cy_answers.specs.declared.error.AnswersError.TheVariants as error

-- The messages of a record on the channel of a name, in file order.
abbrev pub is_on : Contents → List ℕ → Message → Bool
is_on whole name m = bytes_eq (name_in whole.channels m.channel) name

abbrev pub messages_on : List ℕ → Contents → List Message
messages_on name whole = filter (is_on whole name) whole.messages

-- The time of a message is refused that is not above that of the one before.
abbrev pub time_refusal : Option ℕ → ℕ → Option AnswersError
time_refusal None time = None
time_refusal (Some before) time =
    if time == before then Some (error.AnswerTwice time)
    else (if nat_lt time before then Some (error.AnswersFall time) else None)

abbrev pub times_refusal : Option ℕ → List Message → Option AnswersError
times_refusal before [] = None
times_refusal before (m ∷ rest) =
    option_or (time_refusal before m.time) (times_refusal (Some m.time) rest)

-- More answers than there can be calls.
abbrev pub count_refusal : ℕ → Option AnswersError
count_refusal count =
    if nat_lt most_played count then Some (error.TooManyAnswers count) else None

-- The first cause for which messages are no answers.
abbrev pub answers_refusal : List Message → Option AnswersError
answers_refusal messages = option_or (times_refusal None messages) (count_refusal (length messages))

-- What is due is answered, or want of memory.
abbrev pub IsDue : Option AnswersError → AnswersError → Type 0
IsDue due error.Memory = ⊤
IsDue due e = due ≡ Some e

-- Messages with the content of an answer come from no played message, so their origins are behind
-- those: the answers of each component are numbered from a place of its own on.
abbrev pub first_origin : (component : ℕ) → ℕ
first_origin component = (component + 1) * most_played

-- A message as the answer of the call that has its time as a number.
abbrev pub answer_of : (origin : ℕ) → Message → Answer
answer_of origin m = record {
  call = m.time;
  whole = whole_value m.content;
  origin = origin;
  content = m.content;
}

abbrev pub answers_from : (origin : ℕ) → List Message → List Answer
answers_from origin [] = []
answers_from origin (m ∷ rest) = answer_of origin m ∷ answers_from (origin + 1) rest

-- All answers that a record has for the component of a number, on the channel of a name.
abbrev pub answers_of : Contents → (channel : List ℕ) → (component : ℕ) → List Answer
answers_of whole channel component =
    answers_from (first_origin component) (messages_on channel whole)

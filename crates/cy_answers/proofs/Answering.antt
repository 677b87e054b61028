-- The messages on a channel, one after another, and the answers that they are.
use Rattle.std.proofs.Common.{ℕ, zero, suc, ◌≡◌, ◌+◌, ◌<◌, ◌≤◌, eqb, Bool, true, false, cond, List, [], ◌∷◌, ◌++◌, length, drop, Option, Some, None, refl, sym, ap, subst, ◌∙◌, arith, append_assoc, append-nil}
use Rattle.std.specs.Prelude.{IfSome, filter, nat_le, nat_lt, slice_get, option_map, slice_index_or}
use Rattle.std.specs.List.{list_all}
use Rattle.std.specs.Option.{option_or, unwrap_or}
use Rattle.std.proofs.lemmas.List.{drop_all, drop_more, length_push}
use Rattle.std.proofs.lemmas.Option.{none-some, slice_get-get_or}
use Rattle.std.proofs.lemmas.Bool.Decides.{nat_tests}
use Rattle.cy_msg.specs.Tokens.{most_played}
use Rattle.cy_reader.specs.Named.{message_at}
use Rattle.cy_reader.specs.Record.{Contents, Message}
use Rattle.cy_comp.specs.Answers.{call_at, CallsRise}
use Rattle.cy_comp.specs.Kind.{is_kind_in_range}
use Rattle.cy_comp.specs.declared.answers.Answer.{Answer}
use Rattle.cy_comp.specs.declared.kind.Kind.TheVariants.{External}
use Rattle.cy_answers.specs.declared.error.AnswersError.{AnswersError}
use Rattle.cy_answers.specs.Answers.{answer_of, answers_from, is_on, messages_on, time_refusal, times_refusal}

-- the messages on a channel from a place on
abbrev pub rest_on : Contents → List ℕ → ℕ → List Message
rest_on whole name place = filter (is_on whole name) (drop place whole.messages)

abbrev nothing : Message
nothing = record { channel = 0; time = 0; content = [] }

module _ (whole : Contents) (name : List ℕ) (place : ℕ) (within : place < length whole.messages) where
  next : (b : Bool) → is_on whole name (message_at whole place) ≡ b → rest_on whole name place ≡ cond b (message_at whole place ∷ rest_on whole name (place + 1)) (rest_on whole name (place + 1))
  next b is = ap (filter (is_on whole name)) (drop_more whole.messages place nothing within) ∙ ap (λ c. cond c (message_at whole place ∷ rest_on whole name (place + 1)) (rest_on whole name (place + 1))) is

-- the time of a message, as it is read
pub time_read : (whole : Contents) (place channel time : ℕ) → place < length whole.messages → IfSome (slice_get whole.messages place) (λ m. (channel ≡ m.channel) × (time ≡ m.time)) → time ≡ (message_at whole place).time
time_read whole place channel time within read = (subst (λ o. IfSome o (λ (m : Message). (channel ≡ m.channel) × (time ≡ m.time))) (slice_get-get_or whole.messages place nothing within) read).1

-- So many of the messages were judged, and the time of the last one is that.
pub record AreJudged (whole : Contents) (name : List ℕ) (place : ℕ) (before : Option ℕ) (count : ℕ) : Type 0 where
  pub times : times_refusal None (messages_on name whole) ≡ times_refusal before (rest_on whole name place)
  pub many : length (messages_on name whole) ≡ count + length (rest_on whole name place)
  pub few : count ≤ place

pub none_judged : (whole : Contents) (name : List ℕ) → AreJudged whole name 0 None 0
none_judged whole name = record { times = refl; many = omega arith; few = omega arith }

module _ (whole : Contents) (name : List ℕ) (place : ℕ) (before : Option ℕ) (count : ℕ) (within : place < length whole.messages) (j : AreJudged whole name place before count) where
  pub other_judged : is_on whole name (message_at whole place) ≡ false → AreJudged whole name (place + 1) before count
  other_judged off = let e = next whole name place within false off in record {
    times = j.times ∙ ap (times_refusal before) e;
    many = j.many ∙ ap (λ (l : List Message). count + length l) e;
    few = omega (arith, j.few);
  }

  pub one_judged : is_on whole name (message_at whole place) ≡ true → time_refusal before (message_at whole place).time ≡ None → AreJudged whole name (place + 1) (Some (message_at whole place).time) (count + 1)
  one_judged on accepted = let e = next whole name place within true on in record {
    times = j.times ∙ ap (times_refusal before) e ∙ ap (λ o. option_or o (times_refusal (Some (message_at whole place).time) (rest_on whole name (place + 1)))) accepted;
    many = let h = ap (λ (l : List Message). length l) e in omega (arith, j.many, h);
    few = omega (arith, j.few);
  }

  pub refused_there : is_on whole name (message_at whole place) ≡ true → (e : AnswersError) → time_refusal before (message_at whole place).time ≡ Some e → times_refusal None (messages_on name whole) ≡ Some e
  refused_there on e refused = j.times ∙ ap (times_refusal before) (next whole name place within true on) ∙ ap (λ o. option_or o (times_refusal (Some (message_at whole place).time) (rest_on whole name (place + 1)))) refused

pub all_judged : (whole : Contents) (name : List ℕ) (place : ℕ) (before : Option ℕ) (count : ℕ) → length whole.messages ≤ place → AreJudged whole name place before count
    → record { accepted : times_refusal None (messages_on name whole) ≡ None; count : count ≡ length (messages_on name whole) }
all_judged whole name place before count end j =
    let e : rest_on whole name place ≡ [] = ap (filter (is_on whole name)) (drop_all place whole.messages end) in
    record {
      accepted = j.times ∙ ap (times_refusal before) e;
      count = let h = ap (λ (l : List Message). length l) e in omega (arith, j.many, h);
    }

-- So many of the messages were made answers.
pub record AreMade (whole : Contents) (name : List ℕ) (first place : ℕ) (done : List Answer) : Type 0 where
  pub answers : done ++ answers_from (first + length done) (rest_on whole name place) ≡ answers_from first (messages_on name whole)
  pub many : length done + length (rest_on whole name place) ≡ length (messages_on name whole)

pub none_made : (whole : Contents) (name : List ℕ) (first : ℕ) → AreMade whole name first 0 []
none_made whole name first = record { answers = ap (λ n. answers_from n (messages_on name whole)) (omega arith); many = omega arith }

module _ (whole : Contents) (name : List ℕ) (first place : ℕ) (done : List Answer) (within : place < length whole.messages) (m : AreMade whole name first place done) where
  pub other_made : is_on whole name (message_at whole place) ≡ false → AreMade whole name first (place + 1) done
  other_made off = let e = next whole name place within false off in record {
    answers = ap (λ (l : List Message). done ++ answers_from (first + length done) l) (sym e) ∙ m.answers;
    many = ap (λ (l : List Message). length done + length l) (sym e) ∙ m.many;
  }

  pub one_made : is_on whole name (message_at whole place) ≡ true → (a : Answer) → a ≡ answer_of (first + length done) (message_at whole place) → AreMade whole name first (place + 1) (done ++ a ∷ [])
  one_made on a is =
      let e = next whole name place within true on in
      let longer : length (done ++ a ∷ []) ≡ length done + 1 = length_push done a in
      record {
        answers = ap (λ n. (done ++ a ∷ []) ++ answers_from n (rest_on whole name (place + 1))) (omega (arith, longer))
            ∙ append_assoc done (a ∷ []) (answers_from (first + length done + 1) (rest_on whole name (place + 1)))
            ∙ ap (λ (x : Answer). done ++ x ∷ answers_from (first + length done + 1) (rest_on whole name (place + 1))) is
            ∙ ap (λ (l : List Message). done ++ answers_from (first + length done) l) (sym e) ∙ m.answers;
        many = let h = ap (λ (l : List Message). length l) e in omega (arith, m.many, h, longer);
      }

  -- and there is an origin for the next one
  pub room : is_on whole name (message_at whole place) ≡ true → length done + 1 ≤ length (messages_on name whole)
  room on = let h = ap (λ (l : List Message). length l) (next whole name place within true on) in omega (arith, m.many, h)

pub all_made : (whole : Contents) (name : List ℕ) (first place : ℕ) (done : List Answer) → length whole.messages ≤ place → AreMade whole name first place done → done ≡ answers_from first (messages_on name whole)
all_made whole name first place done end m =
    sym (append-nil done) ∙ ap (λ (l : List Message). done ++ answers_from (first + length done) l) (sym (ap (filter (is_on whole name)) (drop_all place whole.messages end))) ∙ m.answers

-- Answers of messages whose times rise are of later and later calls.
above : (before time : ℕ) → time_refusal (Some before) time ≡ None → before < time
above before time e = grind (arith, nat_tests)

or_first : {A : Type 0} (o p : Option A) → option_or o p ≡ None → o ≡ None
or_first None p e = refl
or_first (Some x) p e = e

or_second : {A : Type 0} (o p : Option A) → option_or o p ≡ None → p ≡ None
or_second None p e = e
or_second (Some x) p e = absurd (none-some x (sym e))

all_above : (origin before : ℕ) (messages : List Message) → times_refusal (Some before) messages ≡ None → (j : ℕ) → j < length (answers_from origin messages) → before < call_at (answers_from origin messages) j
all_above origin before [] e j lt = absurd (omega (arith, lt))
all_above origin before (m ∷ rest) e zero lt = above before m.time (or_first _ _ e)
all_above origin before (m ∷ rest) e (suc j) lt =
    let first = above before m.time (or_first _ _ e) in
    let later : m.time < call_at (answers_from (origin + 1) rest) j = all_above (origin + 1) m.time rest (or_second (time_refusal (Some before) m.time) (times_refusal (Some m.time) rest) e) j (omega (arith, lt)) in
    omega (arith, first, later)

rise_behind : (origin : ℕ) (before : Option ℕ) (messages : List Message) → times_refusal before messages ≡ None → CallsRise (answers_from origin messages)
rise_behind origin before [] e i j less lt = absurd (omega (arith, lt))
rise_behind origin before (m ∷ rest) e zero zero less lt = absurd (omega (arith, less))
rise_behind origin before (m ∷ rest) e zero (suc j) less lt = all_above (origin + 1) m.time rest (or_second (time_refusal before m.time) _ e) j (omega (arith, lt))
rise_behind origin before (m ∷ rest) e (suc i) zero less lt = absurd (omega (arith, less))
rise_behind origin before (m ∷ rest) e (suc i) (suc j) less lt = rise_behind (origin + 1) (Some m.time) rest (or_second (time_refusal before m.time) _ e) i j (omega (arith, less)) (omega (arith, lt))

pub calls_rise : (origin : ℕ) (messages : List Message) → times_refusal None messages ≡ None → CallsRise (answers_from origin messages)
calls_rise origin messages e = rise_behind origin None messages e

-- Their origins are behind those of played messages.
pub behind_played : (origin : ℕ) (messages : List Message) → most_played ≤ origin → is_kind_in_range (External (answers_from origin messages)) ≡ true
behind_played origin [] low = refl
behind_played origin (m ∷ rest) low = grind (arith, nat_tests, behind_played (origin + 1) rest (omega (arith, low)))

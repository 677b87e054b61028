use Rattle.std.proofs.Common.{◌≡◌, ◌∙◌, ◌==◌, ℕ, List, Option, Some, None, true, false, if◌then◌else◌, length, option_map, refl, sym, ap, arith, rules}
use Rattle.std.specs.Path.{rsplit_once}
use Rattle.cy_msg.specs.Request.{StopAt, stop_at_of}
use Rattle.cy_args.specs.FilterWords.{◌>>=◌, spelled_number}
use Rattle.cy_args.specs.PlayWords.{stop_at}
use Rattle.cy_args.proofs.LastSign.{parts_shown, split_last}
use Rattle.cy_args.proofs.play_words.stop_at.Goals as goal

-- the stop of a name and a time that is a number
abbrev named : List ℕ → ℕ → Option StopAt
named name time = if length name == 0 then None else Some record { component = name; time = time }

abbrev of_parts : Option (List ℕ × List ℕ) → Option StopAt
of_parts split = split >>= λ parts. spelled_number parts.1 >>= λ time. named parts.0 time

-- by the parts that were found
of_time : (text name time : List ℕ) (number : Option ℕ) → Some (name, time) ≡ rsplit_once 64 text → number ≡ spelled_number time → (number >>= λ n. named name n) ≡ stop_at text
of_time text name time number split is = ap (λ o. o >>= λ n. named name n) is ∙ ap of_parts split

nameless : (name : List ℕ) (n : ℕ) → (length name == 0) ≡ true → named name n ≡ None
nameless name n e = rw e refl

with_name : (name : List ℕ) (n : ℕ) → (length name == 0) ≡ false → named name n ≡ Some record { component = name; time = n }
with_name name n e = rw e refl

pub returns-in_err-component : goal.returns-in_err-component
returns-in_err-component c =
    let split = split_last 64 c.args.text.now c.rsplit_once.result (omega arith) c.rsplit_once.ensures.cases in
    let none : c.from_residual.result ≡ None = search rules in
    let parts : None ≡ rsplit_once 64 c.args.text.now = ap parts_shown (sym c.in_err-component.was) ∙ split in
    ap (option_map stop_at_of) none ∙ ap of_parts parts

pub returns-in_err-time : goal.returns-in_err-time
returns-in_err-time c =
    let split = split_last 64 c.args.text.now c.rsplit_once.result (omega arith) c.rsplit_once.ensures.cases in
    let none : c.from_residual-in_err-time.result ≡ None = search rules in
    let parts = ap parts_shown (sym c.in_ok-component.was) ∙ split in
    ap (option_map stop_at_of) none ∙ of_time c.args.text.now _ _ None parts (sym c.in_err-time.was ∙ c.spelled_number.ensures)

pub returns-then-is_empty : goal.returns-then-is_empty
returns-then-is_empty c =
    let split = split_last 64 c.args.text.now c.rsplit_once.result (omega arith) c.rsplit_once.ensures.cases in
    let parts = ap parts_shown (sym c.in_ok-component.was) ∙ split in
    let name = c.in_ok-component.component.now in
    let empty : (length name == 0) ≡ true = search rules in
    sym (nameless name c.in_ok-time.time empty) ∙ of_time c.args.text.now _ _ (Some c.in_ok-time.time) parts (sym c.in_ok-time.was ∙ c.spelled_number.ensures)

pub returns : goal.returns
returns c =
    let split = split_last 64 c.args.text.now c.rsplit_once.result (omega arith) c.rsplit_once.ensures.cases in
    let parts = ap parts_shown (sym c.in_ok-component.was) ∙ split in
    let name = c.in_ok-component.component.now in
    let some : (length name == 0) ≡ false = search rules in
    sym (with_name name c.in_ok-time.time some) ∙ of_time c.args.text.now _ _ (Some c.in_ok-time.time) parts (sym c.in_ok-time.was ∙ c.spelled_number.ensures)

use Rattle.std.proofs.Common.{rules, arith, ◌≡◌, ◌<◌, ◌+◌, ◌++◌, ◌∙◌, ap, sym, List, ℕ, suc, length, set, get_or, take, drop}
use Rattle.std.specs.Prelude.{map}
use Rattle.cy_reader.specs.declared.loading.Message.{Message}
use Rattle.cy_reader.specs.private.Uniting.{shifted}
use Rattle.cy_reader.proofs.Shifted.{not_yet, shift_more}
use Rattle.cy_reader.proofs.uniting.shift_messages.Goals as goal

pub loop-message-preserved : goal.loop-message-preserved
loop-message-preserved c =
    let f = shifted c.args.bodies c.args.numbers.now in
    let ms = c.args.later.now.items in
    let i = c.loop-message.message-index in
    let d : Message = record { channel = 0; body = 0; time = 0; start = 0; length = 0 } in
    let within : i < length ms = search rules in
    let next : i + 1 ≡ suc i = omega arith in
    ap (λ (l : List Message). set l i (f (get_or l i d))) c.loop-message.invariant
    ∙ ap (λ (m : Message). set (map f (take i ms) ++ drop i ms) i (f m)) (not_yet f ms i d within)
    ∙ shift_more f ms i d within
    ∙ ap (λ (n : ℕ). map f (take n ms) ++ drop n ms) (sym next)

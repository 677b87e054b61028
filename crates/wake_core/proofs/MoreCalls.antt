-- What a call more changes.
use Rattle.std.proofs.Common.{ℕ, suc, ◌+◌, ◌≡◌, refl, ap, ◌∙◌, List, [], ◌∷◌, ◌++◌, length, Some, None, arith, add-zero, length-append}
use Rattle.cy_comp.specs.declared.call.Call.{Call}
use Rattle.cy_comp.specs.declared.call.Out.{Out}
use Rattle.cy_comp.specs.Calls.{cursor_after, outs_after, outs, output, numbered}

pub cursor_after-push : (calls : List Call) (x : Call) → cursor_after (calls ++ x ∷ []) ≡ x.position + 1
cursor_after-push [] x = refl
cursor_after-push (y ∷ []) x = refl
cursor_after-push (y ∷ z ∷ rest) x = cursor_after-push (z ∷ rest) x

pub outs_after-push : (channel before : ℕ) (calls : List Call) (x : Call) (o : Out) → x.out ≡ Some o
    → outs_after channel before (calls ++ x ∷ []) ≡ outs_after channel before calls ++ output channel (before + length (outs_after channel before calls) + 1) o ∷ []
outs_after-push channel before [] x o e = rw (e, add-zero) refl
outs_after-push channel before (y ∷ calls) x o e =
    elim y.out as (λ r. numbered channel before r (λ n. outs_after channel n (calls ++ x ∷ []))
    ≡ numbered channel before r (λ n. outs_after channel n calls)
    ++ output channel (before + length (numbered channel before r (λ n. outs_after channel n calls)) + 1) o ∷ []) [
      | None ↦ outs_after-push channel before calls x o e
      | Some p ↦
          let more = length (outs_after channel (before + 1) calls) in
          let same : before + 1 + more + 1 ≡ before + (suc more) + 1 = omega arith in
          ap (λ l. output channel (before + 1) p ∷ l) (outs_after-push channel (before + 1) calls x o e)
          ∙ ap (λ n. output channel (before + 1) p ∷ outs_after channel (before + 1) calls ++ output channel n o ∷ []) same
    ]

-- A call with an output adds it, with the next number.
pub outs-push : (channel : ℕ) (calls : List Call) (x : Call) (o : Out) → x.out ≡ Some o
    → outs channel (calls ++ x ∷ []) ≡ outs channel calls ++ output channel (length (outs channel calls) + 1) o ∷ []
unfolding outs
outs-push channel calls x o e = outs_after-push channel 0 calls x o e ∙ ap (λ n. outs_after channel 0 calls ++ output channel n o ∷ []) (omega arith)

pub length_outs-push : (channel : ℕ) (calls : List Call) (x : Call) (o : Out) → x.out ≡ Some o
    → length (outs channel (calls ++ x ∷ [])) ≡ length (outs channel calls) + 1
length_outs-push channel calls x o e = ap length (outs-push channel calls x o e) ∙ length-append (outs channel calls) (output channel (length (outs channel calls) + 1) o ∷ [])

-- A routine after one more call.
use Rattle.std.proofs.Common.{ℕ, ◌+◌, ◌-◌, ◌≡◌, List, [], ◌∷◌, ◌++◌, Option, refl, sym, ap, ◌∙◌}
use Rattle.cy_msg.specs.declared.token.Tuple.{Tuple}
use Rattle.cy_comp.specs.declared.kind.Kind.{Kind}
use Rattle.cy_comp.specs.declared.state.State.{State}
use Rattle.cy_comp.specs.declared.call.Call.{Call}
use Rattle.cy_comp.specs.declared.call.Out.{Out}
use Rattle.cy_comp.specs.declared.call.Outcome.{Outcome}
use Rattle.cy_comp.specs.Step.{Kept, opening_of, step, kept_after, outcome_after, out_of}
use Rattle.cy_comp.specs.Calls.{tuples_of, cursor_after}
use Rattle.cy_comp.specs.Body.{BodyView}
use Rattle.cy_comp.specs.Routine.{RoutineView, taken}
use Rattle.cy_comp.specs.private.Keeping.{IsRoutine}

kept_after-push : (k : Kind) (kept : Kept) (tuples : List Tuple) (t : Tuple) → kept_after k kept (tuples ++ t ∷ []) ≡ (step k (kept_after k kept tuples) t).0
kept_after-push k kept [] t = refl
kept_after-push k kept (u ∷ rest) t = kept_after-push k (step k kept u).0 rest t

tuples_of-push : (calls : List Call) (x : Call) → tuples_of (calls ++ x ∷ []) ≡ tuples_of calls ++ x.tuple ∷ []
tuples_of-push [] x = refl
tuples_of-push (y ∷ rest) x = ap (λ ts. y.tuple ∷ ts) (tuples_of-push rest x)

pub cursor_after-push : (calls : List Call) (x : Call) → cursor_after (calls ++ x ∷ []) ≡ x.position + 1
cursor_after-push [] x = refl
cursor_after-push (y ∷ []) x = refl
cursor_after-push (y ∷ z ∷ rest) x = cursor_after-push (z ∷ rest) x

-- what the component answers
pub answered : (b : BodyView) (calls : List Call) (tuple : Tuple) (outcome : Outcome) → b.kept ≡ kept_after b.kind (opening_of b.kind) (tuples_of calls)
    → outcome ≡ (step b.kind b.kept tuple).1 → outcome ≡ outcome_after b.kind (tuples_of calls) tuple
unfolding outcome_after
answered b calls tuple outcome kept e = e ∙ ap (λ k. (step b.kind k tuple).1) kept

-- what a routine is seen as
abbrev pub seen_as : Kind → State → List Call → Option Out → ℕ → RoutineView
seen_as k s calls pending spare = record { kind = k; state = s; calls = calls; pending = pending; spare = spare }

-- what it is seen as after the call
pub taken_is : (k j : Kind) (s : State) (calls items : List Call) (pending out : Option Out) (spare position tail : ℕ) (tuple : Tuple) (outcome : Outcome)
    → j ≡ k → out ≡ out_of outcome → outcome ≡ outcome_after k (tuples_of calls) tuple
    → items ≡ calls ++ record { position = position; tail = tail; tuple = tuple; out = out } ∷ []
    → seen_as j s items out (spare - 1) ≡ taken (seen_as k s calls pending spare) tuple position tail
taken_is k j s calls items pending out spare position tail tuple outcome kind puts answers more =
    let same : out ≡ out_of (outcome_after k (tuples_of calls) tuple) = puts ∙ ap out_of answers in
    ap (λ i. seen_as i s items out (spare - 1)) kind ∙ ap (λ l. seen_as k s l out (spare - 1)) more
    ∙ ap (λ (o : Option Out). seen_as k s (calls ++ record { position = position; tail = tail; tuple = tuple; out = o } ∷ []) o (spare - 1)) same

-- what its fields keep
pub keeps : (b next : BodyView) (cursor after : ℕ) (calls items : List Call) (x : Call) → IsRoutine b cursor calls
    → next.kind ≡ b.kind → next.kept ≡ (step b.kind b.kept x.tuple).0 → items ≡ calls ++ x ∷ [] → after ≡ x.position + 1
    → IsRoutine next after items
keeps b next cursor after calls items x r kind kept more at = record {
  kept = kept ∙ ap (λ k. (step b.kind k x.tuple).0) r.kept ∙ sym (kept_after-push b.kind (opening_of b.kind) (tuples_of calls) x.tuple)
      ∙ ap (λ ts. kept_after b.kind (opening_of b.kind) ts) (sym (ap tuples_of more ∙ tuples_of-push calls x))
      ∙ ap (λ k. kept_after k (opening_of k) (tuples_of items)) (sym kind);
  behind = at ∙ sym (ap cursor_after more ∙ cursor_after-push calls x);
}

-- Which output an unsent one is, in the words of the serial run.
use Rattle.std.proofs.Common.{ℕ, zero, suc, ◌+◌, ◌-◌, ◌≡◌, ◌≢◌, ◌≤◌, refl, sym, ◌∙◌, ap, subst, arith, List, [], ◌∷◌, ◌++◌, length, length-append, take, Option, Some, None, slice_get}
use Rattle.std.proofs.lemmas.Option.{slice_get_within}
use Rattle.std.proofs.Math.Seq.{take-append_seam}
use Rattle.cy_msg.specs.declared.token.Token.{Token}
use Rattle.cy_msg.specs.Tokens.{on_channel}
use Rattle.cy_msg.proofs.Lists.{get_last}
use Rattle.cy_comp.specs.declared.call.Call.{Call}
use Rattle.cy_comp.specs.declared.call.Out.{Out}
use Rattle.cy_comp.specs.Step.{outcome_after, out_of}
use Rattle.cy_comp.specs.Calls.{tuples_of, last_outcome, output, numbered, outs_after, outs}
use Rattle.wake_core.specs.Run.{Route}
use Rattle.wake_core.specs.Serial.{last_out}
use Rattle.wake_core.specs.Plain.{Plain}
use Rattle.wake_core.specs.Sound.{Consistent}
use Rattle.wake_core.proofs.Outputs.{last_push, outs_few}
use Rattle.wake_core.specs.TapeLaws.{IsUnsent}
use Rattle.wake_core.proofs.MoreCalls.{outs-push, length_outs-push}

outs_after_none : (channel before : ℕ) (calls : List Call) (x : Call) → x.out ≡ None → outs_after channel before (calls ++ x ∷ []) ≡ outs_after channel before calls
outs_after_none channel before [] x e = ap (λ o. numbered channel before o (λ n. [])) e
outs_after_none channel before (y ∷ calls) x e = by (outs_after_none channel before calls x e) (outs_after_none channel (before + 1) calls x e) y.out
  where
    by : outs_after channel before (calls ++ x ∷ []) ≡ outs_after channel before calls → outs_after channel (before + 1) (calls ++ x ∷ []) ≡ outs_after channel (before + 1) calls
        → (o : Option Out) → numbered channel before o (λ n. outs_after channel n (calls ++ x ∷ [])) ≡ numbered channel before o (λ n. outs_after channel n calls)
    by none some None = none
    by none some (Some out) = ap (λ l. output channel (before + 1) out ∷ l) some

-- A call without an output adds nothing.
pub outs_none : (channel : ℕ) (calls : List Call) (x : Call) → x.out ≡ None → outs channel (calls ++ x ∷ []) ≡ outs channel calls
unfolding outs
outs_none channel calls x e = outs_after_none channel 0 calls x e

-- What stands behind a list.
pub get_behind : {X : Type 0} (xs : List X) (y : X) (n : ℕ) (z : X) → slice_get (xs ++ y ∷ []) n ≡ Some z → length xs ≤ n → (y ≡ z) × (n ≡ length xs)
get_behind [] y zero z e l = (cc, refl)
get_behind [] y (suc n) z e l = cc
get_behind (x ∷ xs) y zero z e l = absurd (omega arith)
get_behind (x ∷ xs) y (suc n) z e l = let h = get_behind xs y n z e (omega arith) in (h.0, ap suc h.1)

-- A message is the output of the last call.
pub record IsPut (x : Route) (calls : List Call) (t : Token) : Type 0 where
  pub out : Out
  pub last : last_out (last_outcome x.kind calls) ≡ Some out
  pub is : t ≡ output x.out (length (outs x.out calls)) out

-- An output behind those of the calls before is the last call's.
put_last : (x : Route) (before : List Call) (call : Call) (n : ℕ) (t : Token) → call.out ≡ out_of (outcome_after x.kind (tuples_of before) call.tuple)
    → slice_get (outs x.out (before ++ call ∷ [])) n ≡ Some t → length (outs x.out before) ≤ n → IsPut x (before ++ call ∷ []) t
put_last x before call n t lawful at behind = by call.out refl
  where
    none_there : (o : Option Out) → call.out ≡ o → o ≡ None → ⊥
    none_there o e none =
        let inside = slice_get_within (outs x.out (before ++ call ∷ [])) n t at in
        let same : length (outs x.out (before ++ call ∷ [])) ≡ length (outs x.out before) = ap length (outs_none x.out before call (e ∙ none)) in
        omega (arith, inside, same, behind)

    by : (o : Option Out) → call.out ≡ o → IsPut x (before ++ call ∷ []) t
    by None e = absurd (none_there None e refl)
    by (Some o) e =
        let longer = outs-push x.out before call o e in
        let h = get_behind (outs x.out before) (output x.out (length (outs x.out before) + 1) o) n t (sym (ap (λ l. slice_get l n) longer) ∙ at) behind in
        let last : last_outcome x.kind (before ++ call ∷ []) ≡ Some (outcome_after x.kind (tuples_of before) call.tuple) = last_push x before call in
        record {
          out = o;
          last = ap last_out last ∙ sym lawful ∙ e;
          is = sym h.0 ∙ ap (λ k. output x.out k o) (sym (length_outs-push x.out before call o e));
        }

-- Where some list isn't empty it has a last element.
pub ends_in : {X : Type 0} (xs : List X) → length xs ≢ 0 → (before : List X) × (x : X) × (xs ≡ before ++ x ∷ [])
ends_in [] some = absurd (some refl)
ends_in (x ∷ []) some = ([], x, refl)
ends_in (x ∷ y ∷ xs) some = let h = ends_in (y ∷ xs) (λ e. never (length xs) e) in (x ∷ h.0, h.1, ap (λ l. x ∷ l) h.2)
  where
    never : (n : ℕ) → suc n ≡ 0 → ⊥
    never n e = cc

-- An unsent output is that of the last call.
pub unsent_put : (w : Plain) (c : ℕ) (t : Token) (u : IsUnsent w c t) → Consistent w → IsPut u.route (w.calls c) t
unsent_put w c t u s = by (ends_in (w.calls c) some)
  where
    some : length (w.calls c) ≢ 0
    some none = let inside = slice_get_within (outs u.route.out (w.calls c)) (length (on_channel u.route.out w.tape)) t u.next in omega (arith, inside, none, outs_few u.route.out (w.calls c))

    by : (before : List Call) × (call : Call) × (w.calls c ≡ before ++ call ∷ []) → IsPut u.route (w.calls c) t
    by h =
        let but = s.delivered.but_last c u.route u.at in
        let count : length (w.calls c) - 1 ≡ length h.0 = omega (arith, ap length h.2, length-append h.0 (h.1 ∷ [])) in
        let earlier : take (length (w.calls c) - 1) (w.calls c) ≡ h.0 = ap (λ n. take n (w.calls c)) count ∙ ap (take (length h.0)) h.2 ∙ take-append_seam h.0 (h.1 ∷ []) in
        let made : slice_get (w.calls c) (length h.0) ≡ Some h.1 = ap (λ l. slice_get l (length h.0)) h.2 ∙ get_last h.0 h.1 in
        let seam : take (length h.0) (w.calls c) ≡ h.0 = ap (take (length h.0)) h.2 ∙ take-append_seam h.0 (h.1 ∷ []) in
        let lawful = (s.called.lawful c u.route u.at).outputs (length h.0) h.1 made ∙ ap (λ l. out_of (outcome_after u.route.kind (tuples_of l) h.1.tuple)) seam in
        subst (λ l. IsPut u.route l t) (sym h.2) (put_last u.route h.0 h.1 (length (on_channel u.route.out w.tape)) t lawful (sym (ap (λ l. slice_get (outs u.route.out l) (length (on_channel u.route.out w.tape))) h.2) ∙ u.next) (rw earlier at but))

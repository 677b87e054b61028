-- What outputs that are held back have to do with the times on a tape.
use Rattle.std.proofs.Common.{ℕ, ◌≡◌, ◌<◌, ◌==◌, true, sym, ◌∙◌, ap, inl, inr, List, length, take, Some, None, slice_get}
use Rattle.std.proofs.lemmas.Bool.Decides.{eqb_tells}
use Rattle.cy_msg.specs.declared.token.Token.{Token}
use Rattle.cy_msg.specs.Tokens.{on_channel}
use Rattle.cy_msg.proofs.Lists.{get_taken}
use Rattle.cy_comp.specs.declared.plan.Plan.{Plan}
use Rattle.cy_comp.specs.declared.call.Call.{Call}
use Rattle.cy_comp.specs.Calls.{tuples_of, outs, output}
use Rattle.wake_core.specs.declared.route.Route.{Route}
use Rattle.wake_core.specs.Run.{route_of, routes_of, writes_from}
use Rattle.wake_core.specs.Plain.{Plain}
use Rattle.wake_core.specs.Sound.{IsOutput, WasHeld, Sound}
use Rattle.cy_trace.proofs.OutsMade.{Made, outs_made, outs_count, passing}
use Rattle.cy_verify.specs.private.Passes.{held_on, IsApart}
use Rattle.cy_comp.proofs.Holding.{held_holds, holds_held}
use Rattle.cy_verify.proofs.Written.{HasOwnOuts, held_by, held_own, route_at, unheld_unwritten, unwritten_unheld}

some_is : {X : Type 0} {a b : X} → Some a ≡ Some b → a ≡ b
some_is e = cc

-- What calls put out is the output of one of them.
made_output : (x : Route) (calls : List Call) (t : Token) (m : Made x.out 0 calls t) → IsOutput x calls m.place m.call t
made_output x calls t m = record {
  made = m.made;
  out = m.out;
  some = m.some;
  token = m.token ∙ ap (λ n. output x.out n m.out) (outs_count x.out (take m.place calls));
}

-- On a tape whose times lie apart each played message behind an output that was held back has a later time.
pub later_of_apart : (plans : List Plan) → HasOwnOuts (routes_of plans) → (calls : ℕ → List Call) (tape : List Token) → IsApart plans tape → (c : ℕ) (x : Route) (n : ℕ) (call : Call) (t : Token) (i : ℕ) → slice_get (routes_of plans) c ≡ Some x
    → IsOutput x (calls c) n call t → WasHeld x (calls c) n call → slice_get tape i ≡ Some t
    → (j : ℕ) (r : Token) → slice_get tape j ≡ Some r → i < j → writes_from 0 (routes_of plans) r.channel ≡ None → t.time < r.time
later_of_apart plans own calls tape apart c x n call t i at out was on j r there behind none =
    let its : held_on plans t.channel ≡ held_on plans x.out = ap (λ (s : Token). held_on plans s.channel) out.token in
    let holds = held_holds x.kind (tuples_of (take n (calls c))) call.tuple was in
    apart i j t r on there behind (its ∙ held_own plans own c x at ∙ ap (λ b. Some b) holds) (unwritten_unheld plans r.channel none)

module _ (plans : List Plan) (calls : ℕ → List Call) (tape : List Token) where
  -- Each played message behind an output that was held back has a later time.
  abbrev pub AreLater : Type 0
  AreLater = (c : ℕ) (x : Route) (n : ℕ) (call : Call) (t : Token) (i : ℕ) → slice_get (routes_of plans) c ≡ Some x
      → IsOutput x (calls c) n call t → WasHeld x (calls c) n call → slice_get tape i ≡ Some t
      → (j : ℕ) (r : Token) → slice_get tape j ≡ Some r → i < j → writes_from 0 (routes_of plans) r.channel ≡ None → t.time < r.time

  -- .. and then its times lie apart, where all that it has of a component's channel is what the component's calls put out.
  sent_apart : ((c : ℕ) (x : Route) → slice_get (routes_of plans) c ≡ Some x → (k : ℕ) (t : Token) → slice_get (on_channel x.out tape) k ≡ Some t → slice_get (outs x.out (calls c)) k ≡ Some t) → AreLater → IsApart plans tape
  sent_apart sent later i j t r on there behind is none =
      let h = held_by plans t.channel true is in
      let x = route_of h.plan in
      let at : slice_get (routes_of plans) h.place ≡ Some x = route_at plans h.place h.plan h.at in
      let k = passing (λ (s : Token). s.channel == x.out) tape i t on (itself t.channel x.out (sym h.writes)) in
      let made = outs_made x.out (calls h.place) k.0 t (sent h.place x at k.0 t k.1) in
      let out : IsOutput x (calls h.place) made.place made.call t = made_output x (calls h.place) t made in
      later h.place x made.place made.call t i at out (holds_held x.kind (tuples_of (take made.place (calls h.place))) made.call.tuple h.is) on j r there behind (unheld_unwritten plans r.channel none)
    where
      itself : (a b : ℕ) → a ≡ b → (a == b) ≡ true
      itself a b e = elim (eqb_tells a b) [ inl h ↦ h.0 | inr h ↦ absurd (h.1 e) ]

  pub apart_of_later : ((c : ℕ) (x : Route) → slice_get (routes_of plans) c ≡ Some x → on_channel x.out tape ≡ outs x.out (calls c)) → AreLater → IsApart plans tape
  apart_of_later sent later = sent_apart (λ c x at k t e. ap (λ (l : List Token). slice_get l k) (sym (sent c x at)) ∙ e) later

-- In a sound world they lie apart.
pub sound_apart : (plans : List Plan) (w : Plain) → w.routes ≡ routes_of plans → Sound w → IsApart plans w.tape
sound_apart plans w is s = sent_apart plans w.calls w.tape
    (λ c x at k t e. get_taken (outs x.out (w.calls c)) (length (on_channel x.out w.tape)) k t (ap (λ (l : List Token). slice_get l k) (sym (s.consistent.delivered.history c x (there c x at))) ∙ e))
    (λ c x n call t i at out was on j r on' behind none. s.timely.later c x n call t i (there c x at) out was on j r on' behind (ap (λ (l : List Route). writes_from 0 l r.channel) is ∙ none))
  where
    there : (c : ℕ) (x : Route) → slice_get (routes_of plans) c ≡ Some x → slice_get w.routes c ≡ Some x
    there c x at = ap (λ (l : List Route). slice_get l c) is ∙ at

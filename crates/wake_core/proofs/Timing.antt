-- What each event keeps of the times.
use Rattle.std.proofs.Common.{ℕ, ◌+◌, ◌≡◌, ◌≢◌, ◌≤◌, ◌<◌, sym, ◌∙◌, ap, subst, inl, inr, arith, Option, Some, None, List, [], ◌∷◌, ◌++◌, length, take, slice_get, not, is_some, cond, append-nil, le_trans}
use Rattle.std.proofs.lemmas.List.Elements.{filter-append}
use Rattle.std.proofs.lemmas.Option.{slice_get_within}
use Rattle.cy_msg.specs.declared.token.Token.{Token}
use Rattle.cy_msg.specs.Tokens.{on_channel, IsNumbered, IsTimed}
use Rattle.cy_msg.proofs.Lists.{place, get_snoc}
use Rattle.cy_comp.specs.declared.call.Call.{Call}
use Rattle.cy_comp.specs.Step.{outcome_after}
use Rattle.cy_comp.specs.Calls.{tuples_of, held_until, outs}
use Rattle.wake_core.specs.Run.{Route, set_at, writes_from, played_of}
use Rattle.wake_core.specs.Plain.{State, Ready, taped_of, made_of, last_of}
use Rattle.wake_core.specs.Sound.{IsOutput, WasHeld, Timely}
use Rattle.wake_core.proofs.Places.{set_at_is, set_at_there, set_at_other}
use Rattle.wake_core.proofs.Calling.{earlier_output}

-- A played message more is the last of the played ones, ..
pub played-own : (routes : List Route) (tape : List Token) (t : Token) → writes_from 0 routes t.channel ≡ None → played_of routes (tape ++ t ∷ []) ≡ played_of routes tape ++ t ∷ []
played-own routes tape t e = filter-append (λ s. not (is_some (writes_from 0 routes s.channel))) tape (t ∷ []) ∙ ap (λ (o : Option ℕ). played_of routes tape ++ cond (not (is_some o)) (t ∷ []) []) e

-- .. and an output is none of them.
pub played-other : (routes : List Route) (tape : List Token) (t : Token) (c : ℕ) → writes_from 0 routes t.channel ≡ Some c → played_of routes (tape ++ t ∷ []) ≡ played_of routes tape
played-other routes tape t c e = filter-append (λ s. not (is_some (writes_from 0 routes s.channel))) tape (t ∷ []) ∙ ap (λ (o : Option ℕ). played_of routes tape ++ cond (not (is_some o)) (t ∷ []) []) e ∙ append-nil (played_of routes tape)

-- Times never fall where the last is none below another.
timed_more : (xs : List Token) (t : Token) → IsTimed xs → ((n : ℕ) (s : Token) → slice_get xs n ≡ Some s → s.time ≤ t.time) → IsTimed (xs ++ t ∷ [])
timed_more xs t timed all n s r at next = elim (get_snoc xs t (n + 1) r next) [
  | inl h ↦ elim (get_snoc xs t n s at) [ inl g ↦ timed n s r g h | inr g ↦ absurd (past n xs r (ap (λ k. k) g.0) h) ]
  | inr h ↦ elim (get_snoc xs t n s at) [ inl g ↦ let l = all n s g in rw (sym h.1) l | inr g ↦ absurd (twice n (length xs) g.0 h.0) ]
]
  where
    twice : (n l : ℕ) → n ≡ l → n + 1 ≡ l → ⊥
    twice n l a b = omega arith

    past : (n : ℕ) (xs : List Token) (r : Token) → n ≡ length xs → slice_get xs (n + 1) ≡ Some r → ⊥
    past n xs r e h = omega (arith, slice_get_within xs (n + 1) r h)

module _ {routes : List Route} {states : ℕ → State} {calls : ℕ → List Call} {tape : List Token} {clock : ℕ} where
  pub tick_timely : (time : ℕ) → clock ≤ time → Timely routes states calls tape clock → Timely routes states calls tape time
  tick_timely time l h = record {
    rises = h.rises;
    past = λ n t at. le_trans (h.past n t at) l;
    awake = λ c u is some held. let was = h.awake c u is some held in omega arith;
    over = λ c x n call t i at out was on. let before = h.over c x n call t i at out was on in omega arith;
    later = h.later;
  }

  -- A state that is READY only where the clock is past may be stored.
  pub store_timely : (c : ℕ) (state : State) → ((u : ℕ) → state ≡ Ready → taped_of routes tape c < made_of routes calls c → held_until (last_of routes calls c) ≡ Some u → u < clock)
      → Timely routes states calls tape clock → Timely routes (set_at c state states) calls tape clock
  store_timely c state past h = record {
    rises = h.rises;
    past = h.past;
    awake = λ k u is some held. elim (set_at_is c state states k Ready is) [
      | inl e ↦ past u e.1 (rw e.0 at some) (ap (λ n. held_until (last_of routes calls n)) (sym e.0) ∙ held)
      | inr e ↦ h.awake k u e.1 some held
    ];
    over = h.over;
    later = h.later;
  }

  -- A call more of a component that isn't READY and has no unsent output.
  pub call_timely : (c : ℕ) (call : Call) → states c ≢ Ready → IsNumbered tape
      → ((x : Route) → slice_get routes c ≡ Some x → length (on_channel x.out tape) ≤ length (outs x.out (calls c)))
      → Timely routes states calls tape clock → Timely routes states (set_at c (calls c ++ call ∷ []) calls) tape clock
  call_timely c call waits numbered few h = record {
    rises = h.rises;
    past = h.past;
    awake = λ k u is some held. elim (place k c) [
      | inl e ↦ absurd (waits (ap states (sym e) ∙ is))
      | inr e ↦ h.awake k u is
          (subst (λ l. taped_of routes tape k < made_of routes (λ n. l) k) (set_at_other c (calls c ++ call ∷ []) calls k e) some)
          (subst (λ l. held_until (last_of routes (λ n. l) k) ≡ Some u) (set_at_other c (calls c ++ call ∷ []) calls k e) held)
    ];
    over = λ k x n y t i at out was on. elim (place k c) [
      | inl e ↦
          let at' = rw e at at in
          let old = earlier_output x (calls c) call tape numbered (few x at') n y t i (subst (λ l. IsOutput x l n y t) (set_at_there c (calls c ++ call ∷ []) calls k e) out) on in
          h.over c x n y t i at' old.0 (earlier_held x n y old.1 (subst (λ l. WasHeld x l n y) (set_at_there c (calls c ++ call ∷ []) calls k e) was)) on
      | inr e ↦ h.over k x n y t i at (subst (λ l. IsOutput x l n y t) (set_at_other c (calls c ++ call ∷ []) calls k e) out) (subst (λ l. WasHeld x l n y) (set_at_other c (calls c ++ call ∷ []) calls k e) was) on
    ];
    later = λ k x n y t i at out was on. elim (place k c) [
      | inl e ↦
          let at' = rw e at at in
          let old = earlier_output x (calls c) call tape numbered (few x at') n y t i (subst (λ l. IsOutput x l n y t) (set_at_there c (calls c ++ call ∷ []) calls k e) out) on in
          h.later c x n y t i at' old.0 (earlier_held x n y old.1 (subst (λ l. WasHeld x l n y) (set_at_there c (calls c ++ call ∷ []) calls k e) was)) on
      | inr e ↦ h.later k x n y t i at (subst (λ l. IsOutput x l n y t) (set_at_other c (calls c ++ call ∷ []) calls k e) out) (subst (λ l. WasHeld x l n y) (set_at_other c (calls c ++ call ∷ []) calls k e) was) on
    ];
  }
    where
      earlier_held : (x : Route) (n : ℕ) (y : Call) → take n (calls c ++ call ∷ []) ≡ take n (calls c) → WasHeld x (calls c ++ call ∷ []) n y → WasHeld x (calls c) n y
      earlier_held x n y same was = λ none. was (ap (λ l. held_until (Some (outcome_after x.kind (tuples_of l) y.tuple))) same ∙ none)

  -- A message is played, at the clock.
  pub tape_timely : (t : Token) → writes_from 0 routes t.channel ≡ None → t.time ≡ clock → ((k : ℕ) → taped_of routes (tape ++ t ∷ []) k ≡ taped_of routes tape k)
      → ((c : ℕ) (x : Route) → slice_get routes c ≡ Some x → x.out ≢ t.channel)
      → Timely routes states calls tape clock → Timely routes states calls (tape ++ t ∷ []) clock
  tape_timely t unwritten now same outs_other h =
      let own = played-own routes tape t unwritten in
      record {
        rises = subst IsTimed (sym own) (timed_more (played_of routes tape) t h.rises (λ n s at. let l = h.past n s at in omega arith));
        past = λ n s at. elim (get_snoc (played_of routes tape) t n s (ap (λ l. slice_get l n) (sym own) ∙ at)) [
          | inl e ↦ h.past n s e
          | inr e ↦ let is : s.time ≡ t.time = ap (λ (r : Token). r.time) (sym e.1) in omega arith
        ];
        awake = λ k u is some held. h.awake k u is (rw (same k) at some) held;
        over = λ k x n y s i at out was on. elim (get_snoc tape t i s on) [
          | inl e ↦ h.over k x n y s i at out was e
          | inr e ↦ absurd (outs_other k x at (sym (ap (λ (r : Token). r.channel) (out.token)) ∙ ap (λ (r : Token). r.channel) (sym e.1)))
        ];
        later = λ k x n y s i at out was on j r on' l none. elim (get_snoc tape t i s on) [
          | inl e ↦ elim (get_snoc tape t j r on') [
            | inl g ↦ h.later k x n y s i at out was e j r g l none
            | inr g ↦ let before = h.over k x n y s i at out was e in let is : r.time ≡ t.time = ap (λ (q : Token). q.time) (sym g.1) in omega arith
          ]
          | inr e ↦ absurd (outs_other k x at (sym (ap (λ (r : Token). r.channel) (out.token)) ∙ ap (λ (r : Token). r.channel) (sym e.1)))
        ];
      }

  -- An output is sent; where it was held back, the clock is past its time.
  pub send_timely : (c : ℕ) (t : Token) → writes_from 0 routes t.channel ≡ Some c
      → ((k : ℕ) → taped_of routes tape k ≤ taped_of routes (tape ++ t ∷ []) k)
      → ((k : ℕ) (x : Route) (n : ℕ) (call : Call) → slice_get routes k ≡ Some x → IsOutput x (calls k) n call t → WasHeld x (calls k) n call → t.time < clock)
      → Timely routes states calls tape clock → Timely routes states calls (tape ++ t ∷ []) clock
  send_timely c t written fewer past h =
      let other = played-other routes tape t c written in
      record {
        rises = subst IsTimed (sym other) h.rises;
        past = λ n s at. h.past n s (ap (λ l. slice_get l n) (sym other) ∙ at);
        awake = λ k u is some held. h.awake k u is (less k some (fewer k)) held;
        over = λ k x n y s i at out was on. elim (get_snoc tape t i s on) [
          | inl e ↦ h.over k x n y s i at out was e
          | inr e ↦ let l = past k x n y at (subst (IsOutput x (calls k) n y) (sym e.1) out) was in rw (sym e.1) l
        ];
        later = λ k x n y s i at out was on j r on' l none. elim (get_snoc tape t j r on') [
          | inl g ↦ elim (get_snoc tape t i s on) [
            | inl e ↦ h.later k x n y s i at out was e j r g l none
            | inr e ↦ absurd (behind i j (length tape) e.0 l (slice_get_within tape j r g))
          ]
          | inr g ↦ absurd (some_none (sym written ∙ ap (λ (q : Token). writes_from 0 routes q.channel) g.1 ∙ none))
        ];
      }
    where
      some_none : Some c ≡ None → ⊥
      some_none e = cc

      less : (k : ℕ) → taped_of routes (tape ++ t ∷ []) k < made_of routes calls k → taped_of routes tape k ≤ taped_of routes (tape ++ t ∷ []) k → taped_of routes tape k < made_of routes calls k
      less k a b = omega arith

      behind : (i j l : ℕ) → i ≡ l → i < j → j < l → ⊥
      behind i j l a b d = omega arith

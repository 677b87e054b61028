-- What a message that is played comes to, event by event.
use Rattle.std.proofs.Common.{ℕ, ◌≡◌, ◌≢◌, refl, sym, ◌∙◌, ap, subst, Bool, true, List, [], ◌∷◌, ◌++◌, slice_get, Option, None}
use Rattle.cy_msg.specs.declared.token.Token.{Token}
use Rattle.cy_msg.specs.declared.token.Tuple.{Tuple}
use Rattle.wake_core.specs.Run.{set_at, readers_of, writes_from}
use Rattle.wake_core.specs.Plain.{Plain, lists}
use Rattle.wake_core.specs.Events.{Ticks, Fills, Looks, Clears, is_waiting, after_tape, after_fill, after_look, after_clear}
use Rattle.wake_core.specs.WorldCalls.{MayTape, Taped, MayFill, MayLook, IsStepped}
use Rattle.wake_core_tests.specs.Groups.{MayCome, MayTell, after_message, after_news}

-- The worlds between.
abbrev ticked : Token → Plain → Plain
ticked t w = record w { clock = t.time }

abbrev taped : Token → Plain → Plain
taped t w = after_tape 0 t (ticked t w)

abbrev filled : Token → Plain → Plain
filled t w = after_fill 0 0 0 [] (taped t w)

may_tape_then : (t : Token) (w : Plain) → MayCome t w → MayTape 0 t (ticked t w)
may_tape_then t w m = record {
  player = λ _. refl;
  played = λ _. record {
    owes = record { filled = m.owes.filled; looked = m.owes.looked; cleared = m.owes.cleared };
    raised = m.raised;
    next = record { unwritten = m.next.unwritten; next = m.next.next; within = m.next.within };
    now = refl;
    effect = refl;
  };
  sent = λ written. absurd (written m.next.unwritten);
}

-- One component that is first among those that are left has none behind it.
none_behind : {X : Type 0} (x : X) (xs later : List X) → xs ≡ x ∷ [] → xs ≡ x ∷ later → later ≡ []
none_behind x xs later is there = cc

module _ (t : Token) (w a : Plain) (m : MayCome t w) (tick : Ticks t.time w a) where
  pub may_tape : MayTape 0 t a
  may_tape = subst (MayTape 0 t) (sym tick.effect) (may_tape_then t w m)

  pub tape_stepped : (f : ℕ → Option Tuple) → writes_from 0 a.routes t.channel ≢ None → IsStepped 0 a f
  tape_stepped f written = absurd (written (ap (λ (x : Plain). writes_from 0 x.routes t.channel) tick.effect ∙ m.next.unwritten))

  module _ (b : Plain) (tape : Taped 0 t a b) where
    taped_is : b ≡ taped t w
    taped_is = let h : Taped 0 t (ticked t w) b = subst (λ x. Taped 0 t x b) tick.effect tape in (h.played m.next.unwritten).effect

    pub may_fill : MayFill 0 0 0 t b
    unfolding set_at
    may_fill =
        let here : MayFill 0 0 0 t (taped t w) = record { first = ap (λ l. slice_get l 0) m.read; token = refl } in
        subst (MayFill 0 0 0 t) (sym taped_is) here

    module _ (d : Plain) (fill : Fills 0 0 0 b d) where
      filled_is : d ≡ filled t w
      unfolding set_at
      filled_is =
          let h : Fills 0 0 0 (taped t w) d = subst (λ x. Fills 0 0 0 x d) taped_is fill in
          let none : h.later ≡ [] = none_behind (0, 0) (readers_of w.routes t.channel) h.later m.read h.first in
          h.effect ∙ ap (λ l. after_fill 0 0 0 l (taped t w)) none

      pub may_look : MayLook 0 0 d
      unfolding set_at
      may_look =
          let here : MayLook 0 0 (filled t w) = record { filled = refl; first = ap (λ l. slice_get (l ++ 0 ∷ []) 0) m.owes.looked } in
          subst (MayLook 0 0) (sym filled_is) here

      pub looked_answer : (answer : Bool) → answer ≡ is_waiting (d.states 0) → answer ≡ is_waiting (w.states 0)
      looked_answer answer is = is ∙ ap (λ (x : Plain). is_waiting (x.states 0)) filled_is

      pub came : (v : Plain) → Looks 0 0 d v → v ≡ after_message t w
      unfolding set_at
      came v look =
          let h : Looks 0 0 (filled t w) v = subst (λ x. Looks 0 0 x v) filled_is look in
          let none : h.later ≡ [] = none_behind 0 (w.news 0 ++ 0 ∷ []) h.later (ap (λ l. l ++ 0 ∷ []) m.owes.looked) h.first in
          h.effect ∙ ap (λ l. after_look 0 0 l (filled t w)) none

-- The flag that is cleared.
listed : (l : List ℕ) → l ≡ 0 ∷ [] → lists 0 l ≡ true
listed l is = ap (lists 0) is

alone_there : (before after : List ℕ) → before ++ 0 ∷ after ≡ 0 ∷ [] → before ++ after ≡ []
alone_there [] after is = cc
alone_there (x ∷ []) after is = absurd cc
alone_there (x ∷ y ∷ rest) after is = absurd cc

module _ (t : Token) (w a : Plain) (m : MayTell t w) (comes : a ≡ after_message t w) where
  pub may_clear : lists 0 (a.clearing 0) ≡ true
  may_clear = listed (a.clearing 0) (ap (λ (x : Plain). x.clearing 0) comes ∙ m.told)

  pub woke : (v : Plain) → Clears 0 0 a v → v ≡ after_news t w
  woke v clear =
      let h : Clears 0 0 (after_message t w) v = subst (λ x. Clears 0 0 x v) comes clear in
      let none : h.before ++ h.after ≡ [] = alone_there h.before h.after (sym h.there ∙ m.told) in
      h.effect ∙ ap (λ l. after_clear 0 0 l (after_message t w)) none

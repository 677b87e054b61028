-- What the calls of a world need and give where thread 0 has a croutine in hand.
use Rattle.std.proofs.Common.{ℕ, ◌≡◌, true, false, refl, ap, subst, inl, arith, Option, None}
use Rattle.std.proofs.lemmas.Bool.Decides.{nat_tests}
use Rattle.std.specs.Option.{option_map_or}
use Rattle.wake_core.specs.Plain.{Plain, Hand, hand, State, Ready, DataWait, Sleep, Finished, Phase, Done}
use Rattle.wake_core.specs.Run.{set_at}
use Rattle.wake_core.specs.Events.{Releases, IsDue, after_yield, after_release}
use Rattle.wake_core.specs.WorldCalls.{in_hand}
use Rattle.wake_core.specs.Sound.{Sound}
use Rattle.wake_core.specs.Turns.{is_due, MayGiveBack, GivesBack}
use Rattle.wake_core.proofs.Places.{set_at_same, set_at_again}
use Rattle.wake_core.proofs.Sounding.{yield_sound, release_sound}

pub in_hand_is : (c : ℕ) (f : Phase) (w : Plain) → w.hands 0 ≡ hand c f → in_hand 0 w ≡ c
in_hand_is c f w e = ap (λ (h : Option Hand). option_map_or (λ (x : Hand). x.croutine) h 0) e

pub is_due_says : (s : State) (clock : ℕ) → is_due s clock ≡ true → IsDue s clock
is_due_says Ready clock e = cc
is_due_says DataWait clock e = cc
is_due_says (Sleep until) clock e = grind (arith, nat_tests, e)
is_due_says Finished clock e = cc

pub not_due_says : (s : State) (clock : ℕ) → is_due s clock ≡ false → IsDue s clock → ⊥
not_due_says Ready clock e due = due
not_due_says DataWait clock e due = due
not_due_says (Sleep until) clock e due = grind (arith, nat_tests, e, due)
not_due_says Finished clock e due = due

-- The world in which the croutine in hand stored a state, and was given back.
abbrev pub given_world : State → Plain → Plain
given_world state w = record w { states = set_at (in_hand 0 w) state w.states; hands = set_at 0 None w.hands }

-- The croutine in hand yields, and is given back.
module _ (state : State) (w : Plain) (may : MayGiveBack state w) (s : Sound w) where
  abbrev yielded : Plain
  yielded = after_yield 0 (in_hand 0 w) state w

  released : Releases 0 (in_hand 0 w) yielded (after_release 0 yielded)
  released = record { held = inl (set_at_same 0 (hand (in_hand 0 w) Done) w.hands); effect = refl }

  pub given_back : GivesBack state w (given_world state w) × Sound (given_world state w)
  given_back = subst (λ (v : Plain). GivesBack state w v × Sound v)
      (ap (λ (h : ℕ → Option Hand). record w { states = set_at (in_hand 0 w) state w.states; hands = h }) (set_at_again 0 (hand (in_hand 0 w) Done) None w.hands))
      (record { between = yielded; yields = may; releases = released }, release_sound 0 (in_hand 0 w) yielded (after_release 0 yielded) released (yield_sound 0 (in_hand 0 w) state w yielded may s))

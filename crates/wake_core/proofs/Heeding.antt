-- What keeps a world heeding a stop that was raised.
use Rattle.std.proofs.Common.{ℕ, ◌+◌, ◌≡◌, ◌≢◌, ◌≤◌, ◌<◌, ◌⊎◌, ◌==◌, ◌&&◌, ◌||◌, Bool, true, false, true≢false, not, nat_lt, refl, sym, ◌∙◌, ap, subst, inl, inr, arith, List, [], ◌∷◌, ◌++◌, length, Option, Some, None, is_some, length-append}
use Rattle.std.proofs.lemmas.Bool.Decides.{nat_tests, eqb_tells}
use Rattle.cy_msg.specs.declared.token.Token.{Token}
use Rattle.cy_msg.proofs.Lists.{place}
use Rattle.cy_fuse.specs.Fusion.{Arrival}
use Rattle.wake_core.specs.Run.{set_at, arrive}
use Rattle.wake_core.specs.Plain.{Plain, Stop, State, Ready, DataWait, Sleep, Finished, stops, lists, lists_reader, of_role, unsent_of}
use Rattle.wake_core.specs.Events.{is_waiting, is_finished, IsDue}
use Rattle.wake_core.specs.Serial.{Raised, heard_by, is_roused}
use Rattle.wake_core.specs.Rest.{Heeds, is_loose}
use Rattle.wake_core.specs.Turns.{flag_after, Keeps, Takes, Passes, is_woken, is_ready}
use Rattle.wake_core.proofs.Places.{set_at_other}
use Rattle.wake_core.proofs.Arrived.{role_own, role_other}
use Rattle.wake_core.proofs.Obeying.{named_stops}
use Rattle.wake_core.proofs.Parking.{unsent_some}
use Rattle.wake_core.specs.Sound.{Sound}

-- One message is heard where it comes to the first reader of the component.
hears_one : (r : ℕ × ℕ) (t : Token) (at : ℕ → List Arrival) (k : ℕ) → r.0 ≡ k → r.1 ≡ 0 → heard_by (set_at r.0 (at r.0 ++ (r.1, t) ∷ []) at k) ≡ heard_by (at k) + 1
hears_one r t at k e z = subst (λ v. heard_by (set_at v (at v ++ (r.1, t) ∷ []) at k) ≡ heard_by (at k) + 1) (sym e)
    (subst (λ j. heard_by (set_at k (at k ++ (j, t) ∷ []) at k) ≡ heard_by (at k) + 1) (sym z)
    (ap length (role_own at k 0 t) ∙ length-append (of_role 0 (at k)) (t ∷ [])))

hears_none : (r : ℕ × ℕ) (t : Token) (at : ℕ → List Arrival) (k : ℕ) → ((r.0 ≡ k) × (r.1 ≡ 0) → ⊥) → heard_by (set_at r.0 (at r.0 ++ (r.1, t) ∷ []) at k) ≡ heard_by (at k)
hears_none r t at k other = ap length (role_other at r.0 r.1 k 0 t other)

-- Whether a reader is the first of a component.
data Side (r : ℕ × ℕ) (k : ℕ) : Type 0 where
  its : r.0 ≡ k → r.1 ≡ 0 → (r.0 == k && r.1 == 0) ≡ true → Side r k
  apart : ((r.0 ≡ k) × (r.1 ≡ 0) → ⊥) → (r.0 == k && r.1 == 0) ≡ false → Side r k

side : (r : ℕ × ℕ) (k : ℕ) → Side r k
side r k = elim (eqb_tells r.0 k) [
  | inl a ↦ elim (eqb_tells r.1 0) [
    | inl b ↦ its a.1 b.1 (ap (λ x. x && r.1 == 0) a.0 ∙ b.0)
    | inr b ↦ apart (λ both. b.1 both.1) (ap (λ x. x && r.1 == 0) a.0 ∙ b.0)
  ]
  | inr a ↦ apart (λ both. a.1 both.0) (ap (λ x. x && r.1 == 0) a.0)
]

-- The arrivals after one message more.
abbrev one_more : (r : ℕ × ℕ) → Token → (ℕ → List Arrival) → ℕ → List Arrival
one_more r t at = set_at r.0 (at r.0 ++ (r.1, t) ∷ []) at

more_by : (r : ℕ × ℕ) (t : Token) (at : ℕ → List Arrival) (k n : ℕ) → heard_by (one_more r t at k) ≤ n → Side r k → heard_by (at k) ≤ n
more_by r t at k n later (its a b e) = let one = hears_one r t at k a b in omega (arith, later, one)
more_by r t at k n later (apart other e) = let none = hears_none r t at k other in omega (arith, later, none)

pub hears_more : (rs : List (ℕ × ℕ)) (t : Token) (at : ℕ → List Arrival) (k : ℕ) → heard_by (at k) ≤ heard_by (arrive rs t at k)
hears_more [] t at k = omega arith
hears_more (r ∷ rest) t at k = more_by r t at k (heard_by (arrive rest t (one_more r t at) k)) (hears_more rest t (one_more r t at) k) (side r k)

-- A component hears of a message exactly where its first reader is among those that it comes to.
it_by : (r : ℕ × ℕ) (rest : List (ℕ × ℕ)) (t : Token) (at : ℕ → List Arrival) (k n : ℕ) → heard_by (one_more r t at k) ≤ n → (lists_reader k 0 rest ≡ true → heard_by (one_more r t at k) < n)
    → lists_reader k 0 (r ∷ rest) ≡ true → Side r k → heard_by (at k) < n
it_by r rest t at k n later more e (its a b is) = let one = hears_one r t at k a b in omega (arith, later, one)
it_by r rest t at k n later more e (apart other is) =
    let none = hears_none r t at k other in
    let over = more (sym (ap (λ b. b || lists_reader k 0 rest) is) ∙ e) in
    omega (arith, over, none)

hears_it : (rs : List (ℕ × ℕ)) (t : Token) (at : ℕ → List Arrival) (k : ℕ) → lists_reader k 0 rs ≡ true → heard_by (at k) < heard_by (arrive rs t at k)
hears_it [] t at k e = cc
hears_it (r ∷ rest) t at k e = it_by r rest t at k (heard_by (arrive rest t (one_more r t at) k)) (hears_more rest t (one_more r t at) k) (λ x. hears_it rest t (one_more r t at) k x) e (side r k)

not_by : (r : ℕ × ℕ) (rest : List (ℕ × ℕ)) (t : Token) (at : ℕ → List Arrival) (k n : ℕ) → (lists_reader k 0 rest ≡ false → n ≡ heard_by (one_more r t at k)) → lists_reader k 0 (r ∷ rest) ≡ false → Side r k → n ≡ heard_by (at k)
not_by r rest t at k n same e (its a b is) = absurd (true≢false (sym (ap (λ b. b || lists_reader k 0 rest) is) ∙ e))
not_by r rest t at k n same e (apart other is) = same (sym (ap (λ b. b || lists_reader k 0 rest) is) ∙ e) ∙ hears_none r t at k other

hears_not : (rs : List (ℕ × ℕ)) (t : Token) (at : ℕ → List Arrival) (k : ℕ) → lists_reader k 0 rs ≡ false → heard_by (arrive rs t at k) ≡ heard_by (at k)
hears_not [] t at k e = refl
hears_not (r ∷ rest) t at k e = not_by r rest t at k (heard_by (arrive rest t (one_more r t at) k)) (λ x. hears_not rest t (one_more r t at) k x) e (side r k)

or_true : (b : Bool) → (b || true) ≡ true
or_true true = refl
or_true false = refl

-- It has the same state, flag, arrivals and output.
pub record SameAt (k : ℕ) (w v : Plain) : Type 0 where
  pub arrivals : v.arrivals k ≡ w.arrivals k
  pub states : v.states k ≡ w.states k
  pub spent : v.spent k ≡ w.spent k
  pub unsent : unsent_of v k ≡ unsent_of w k

or_false : (b : Bool) → (b || false) ≡ b
or_false true = refl
or_false false = refl

pub same_keeps : (k : ℕ) (w v : Plain) → SameAt k w v → Keeps k w v
same_keeps k w v s = record {
  more = false;
  heard = let e = ap heard_by s.arrivals in omega (arith, e);
  hears = λ e. absurd (true≢false (sym e));
  silent = λ e. ap heard_by s.arrivals;
  went_on = λ e. sym (ap is_finished s.states) ∙ e;
  held_none = λ e. sym s.unsent ∙ e;
  looser = λ e u. ap (λ (x : State). is_loose x (v.spent k)) s.states ∙ ap (is_loose (w.states k)) s.spent ∙ sym (or_false (is_loose (w.states k) (w.spent k)));
}

pub same_then : (k : ℕ) (w m v : Plain) → Keeps k w m → SameAt k m v → Keeps k w v
same_then k w m v a s = record {
  more = a.more;
  heard = let e = ap heard_by s.arrivals in let h = a.heard in omega (arith, e, h);
  hears = λ is. let e = ap heard_by s.arrivals in let h = a.hears is in omega (arith, e, h);
  silent = λ is. ap heard_by s.arrivals ∙ a.silent is;
  went_on = λ e. a.went_on (sym (ap is_finished s.states) ∙ e);
  held_none = λ e. a.held_none (sym s.unsent ∙ e);
  looser = λ e u. ap (λ (x : State). is_loose x (v.spent k)) s.states ∙ ap (is_loose (m.states k)) s.spent
      ∙ a.looser (sym (ap is_finished s.states) ∙ e) (sym s.unsent ∙ u);
}

pub same_before : (k : ℕ) (w m v : Plain) → SameAt k w m → Keeps k m v → Keeps k w v
same_before k w m v s a = record {
  more = a.more;
  heard = let e = ap heard_by s.arrivals in let h = a.heard in omega (arith, e, h);
  hears = λ is. let e = ap heard_by s.arrivals in let h = a.hears is in omega (arith, e, h);
  silent = λ is. a.silent is ∙ ap heard_by s.arrivals;
  went_on = λ e. sym (ap is_finished s.states) ∙ a.went_on e;
  held_none = λ e. sym s.unsent ∙ a.held_none e;
  looser = λ e u. a.looser e u ∙ ap (λ b. b || a.more) (ap (λ (x : State). is_loose x (m.spent k)) s.states ∙ ap (is_loose (w.states k)) s.spent);
}

-- A message came to the readers of a channel, and those who wait were told.
pub told_keeps : (k : ℕ) (rs : List (ℕ × ℕ)) (t : Token) (w v : Plain) → v.arrivals ≡ arrive rs t w.arrivals → v.states k ≡ w.states k → v.spent k ≡ flag_after rs w k → unsent_of v k ≡ unsent_of w k
    → ((u : ℕ) → w.states k ≡ Sleep u → unsent_of w k ≢ None) → Keeps k w v
told_keeps k rs t w v arrivals states spent unsent sleeps = record {
  more = lists_reader k 0 rs;
  heard = let e = ap (λ (f : ℕ → List Arrival). heard_by (f k)) arrivals in let h = hears_more rs t w.arrivals k in omega (arith, e, h);
  hears = λ is. let e = ap (λ (f : ℕ → List Arrival). heard_by (f k)) arrivals in let h = hears_it rs t w.arrivals k is in omega (arith, e, h);
  silent = λ is. ap (λ (f : ℕ → List Arrival). heard_by (f k)) arrivals ∙ hears_not rs t w.arrivals k is;
  went_on = λ e. sym (ap is_finished states) ∙ e;
  held_none = λ e. sym unsent ∙ e;
  looser = λ e u. ap (λ (x : State). is_loose x (v.spent k)) states ∙ ap (is_loose (w.states k)) spent
      ∙ by (w.states k) (w.spent k) (lists_reader k 0 rs) (sym (ap is_finished states) ∙ e) (λ n is. sleeps n is (sym unsent ∙ u));
}
  where
    by : (s : State) (b l : Bool) → is_finished s ≡ false → ((n : ℕ) → s ≡ Sleep n → ⊥) → is_loose s (b && not (is_waiting s && l)) ≡ (is_loose s b || l)
    by Ready b l e awake = refl
    by DataWait true true e awake = refl
    by DataWait true false e awake = refl
    by DataWait false true e awake = refl
    by DataWait false false e awake = refl
    by (Sleep n) b l e awake = absurd (awake n refl)
    by Finished b l e awake = absurd (true≢false e)

-- A world that keeps the component of the stop heeds it still.
pub heeds_on : (stop : Option Raised) (w v : Plain) → v.stop ≡ w.stop → v.raised ≡ w.raised → ((k : ℕ) → heard_by (w.arrivals k) ≤ heard_by (v.arrivals k)) → ((k : ℕ) → stops w.stop w.raised k ≡ true → Keeps k w v ⊎ (v.states k ≡ Finished)) → Heeds stop w → Heeds stop v
heeds_on None w v given up hears keeps h = λ c. ap (λ (s : Option Stop). stops s v.raised c) given ∙ ap (λ b. stops w.stop b c) up ∙ h c
heeds_on (Some r) w v given up hears keeps h = record {
  given = given ∙ h.given;
  raised = up ∙ h.raised;
  heard = let a = h.heard in let b = hears c in omega (arith, a, b);
  roused = λ goes none. elim (keeps c (named_stops w.stop w.raised r.stop h.given h.raised)) [
    | inl kept ↦ kept.looser goes none ∙ ap (λ b. b || kept.more) (h.roused (kept.went_on goes) (kept.held_none none)) ∙ by kept kept.more refl
    | inr ended ↦ absurd (true≢false (sym (ap is_finished ended) ∙ goes))
  ];
}
  where
    c : ℕ
    c = r.stop.component

    over : (n a b : ℕ) → n ≤ a → a < b → nat_lt n b ≡ true
    over n a b l m = grind (arith, nat_tests, l, m)

    by : (kept : Keeps c w v) (m : Bool) → kept.more ≡ m → (is_roused r (w.arrivals c) || kept.more) ≡ is_roused r (v.arrivals c)
    by kept true is =
        ap (λ b. is_roused r (w.arrivals c) || b) is ∙ or_true (is_roused r (w.arrivals c))
        ∙ sym (ap (λ b. r.stop.after == 0 || b) (over r.heard (heard_by (w.arrivals c)) (heard_by (v.arrivals c)) h.heard (kept.hears is)) ∙ or_true (r.stop.after == 0))
    by kept false is =
        ap (λ b. is_roused r (w.arrivals c) || b) is ∙ or_false (is_roused r (w.arrivals c))
        ∙ ap (λ n. r.stop.after == 0 || nat_lt r.heard n) (sym (kept.silent is))

-- One that sleeps holds an output back.
pub sleeper_holds : (w : Plain) → Sound w → (k u : ℕ) → w.states k ≡ Sleep u → unsent_of w k ≢ None
sleeper_holds w s k u is none = true≢false (sym (unsent_some w k (s.consistent.held.asleep k u is)) ∙ ap is_some none)

-- Croutines that are passed by, ..
pub passes_keeps : (order : List ℕ) (w v : Plain) → Sound v → Passes order w v → (k : ℕ) → Keeps k w v
passes_keeps order w v s p k = record {
  more = false;
  heard = let e = ap (λ (x : Plain). heard_by (x.arrivals k)) p.effect in omega (arith, e);
  hears = λ e. absurd (true≢false (sym e));
  silent = λ e. ap (λ (x : Plain). heard_by (x.arrivals k)) p.effect;
  went_on = λ e. sym (ap is_finished states) ∙ e;
  held_none = λ e. sym (ap (λ (x : Plain). unsent_of x k) p.effect) ∙ e;
  looser = λ e u. ap (λ (x : State). is_loose x (v.spent k)) states ∙ among (lists k order) refl (sym (ap is_finished states) ∙ e) u ∙ sym (or_false (is_loose (w.states k) (w.spent k)));
}
  where
    states : v.states k ≡ w.states k
    states = ap (λ (x : Plain). x.states k) p.effect

    by : (x : State) → w.states k ≡ x → is_finished x ≡ false → unsent_of v k ≡ None → lists k order ≡ true → is_loose x (v.spent k) ≡ is_loose x (w.spent k)
    by Ready is e u l = refl
    by DataWait is e u l = ap (is_loose DataWait) ((p.parked k l).spent ∙ sym (spent (w.spent k) (ap (λ (x : State). is_woken x (w.spent k)) (sym is) ∙ p.waited k l)))
      where
        spent : (b : Bool) → is_woken DataWait b ≡ false → b ≡ true
        spent true e = refl
        spent false e = absurd (true≢false e)
    by (Sleep n) is e u l = absurd (sleeper_holds v s k n (states ∙ is) u)
    by Finished is e u l = absurd (true≢false e)

    among : (b : Bool) → lists k order ≡ b → is_finished (w.states k) ≡ false → unsent_of v k ≡ None → is_loose (w.states k) (v.spent k) ≡ is_loose (w.states k) (w.spent k)
    among true l e u = by (w.states k) refl e u l
    among false l e u = ap (is_loose (w.states k)) (p.others k l)

-- .. or one that is taken, are as loose as they were.
pub takes_keeps : (c : ℕ) (w v : Plain) → Sound w → Takes c w v → (k : ℕ) → Keeps k w v
takes_keeps c w v s t k = elim (place k c) [
  | inr other ↦ same_keeps k w v record {
    arrivals = ap (λ (x : Plain). x.arrivals k) t.same;
    states = ap (λ (f : ℕ → State). f k) t.states ∙ set_at_other c (v.states c) w.states k other;
    spent = ap (λ (f : ℕ → Bool). f k) t.spent ∙ set_at_other c (v.spent c) w.spent k other;
    unsent = ap (λ (x : Plain). unsent_of x k) t.same;
  }
  | inl same ↦ subst (λ n. Keeps n w v) (sym same) its
]
  where
    ready : (x : State) → is_ready x ≡ true → x ≡ Ready
    ready Ready e = refl
    ready DataWait e = absurd (true≢false (sym e))
    ready (Sleep n) e = absurd (true≢false (sym e))
    ready Finished e = absurd (true≢false (sym e))

    other : (x : State) → is_ready x ≡ false → x ≢ Ready
    other x e is = true≢false (sym (ap is_ready is) ∙ e)

    -- It is READY, or as it was.
    by : (x : State) → w.states c ≡ x → is_finished x ≡ false → unsent_of v c ≡ None → (b : Bool) → is_ready (v.states c) ≡ b → is_loose (v.states c) (v.spent c) ≡ is_loose x (w.spent c)
    by Ready is e u true r = ap (λ a. a || not (v.spent c)) r
    by Ready is e u false r = absurd (other (v.states c) r ((t.parked (other (v.states c) r)).1 ∙ is))
    by DataWait is e u true r =
        let clear : w.spent c ≡ false = elim (t.woken (ready (v.states c) r) late) [ inl h ↦ absurd (waits_ready (sym is ∙ h)) | inr h ↦ h ] in
        ap (λ a. a || not (v.spent c)) r ∙ sym (ap not clear)
      where
        late : IsDue (w.states c) w.clock → ⊥
        late due = subst (λ (y : State). IsDue y w.clock) is due

        waits_ready : DataWait ≡ Ready → ⊥
        waits_ready e = cc
    by DataWait is e u false r =
        let p = t.parked (other (v.states c) r) in
        let flags : v.spent c ≡ w.spent c = p.0.spent ∙ sym (spent (w.spent c) refl) in
        ap (λ a. a || not (v.spent c)) r ∙ ap not flags
      where
        spent : (b : Bool) → w.spent c ≡ b → b ≡ true
        spent true is' = refl
        spent false is' = absurd (other (v.states c) r (t.wakes (ap (λ (x : State). is_woken x (w.spent c)) is ∙ ap (is_woken DataWait) is')))
    by (Sleep n) is e u b r = absurd (sleeper_holds w s c n is (sym (ap (λ (x : Plain). unsent_of x c) t.same) ∙ u))
    by Finished is e u b r = absurd (true≢false e)

    its : Keeps c w v
    its = record {
      more = false;
      heard = let e = ap (λ (x : Plain). heard_by (x.arrivals c)) t.same in omega (arith, e);
      hears = λ e. absurd (true≢false (sym e));
      silent = λ e. ap (λ (x : Plain). heard_by (x.arrivals c)) t.same;
      went_on = λ e. sym t.ended ∙ e;
      held_none = λ e. sym (ap (λ (x : Plain). unsent_of x c) t.same) ∙ e;
      looser = λ e u. by (w.states c) refl (sym t.ended ∙ e) u (is_ready (v.states c)) refl ∙ sym (or_false (is_loose (w.states c) (w.spent c)));
    }

-- Croutines that are taken in turn, until one is READY.
use Rattle.std.proofs.Common.{ℕ, ◌≡◌, ◌≢◌, ◌⊎◌, Bool, true, false, not, ◌&&◌, ◌||◌, refl, sym, ◌∙◌, ap, subst, inl, inr, List, [], ◌∷◌, ◌++◌, Option, None, append_assoc, if◌then◌else◌, length, ◌<◌}
use Rattle.std.proofs.lemmas.Bool.Decides.{eqb_tells}
use Rattle.cy_msg.proofs.Lists.{place, either}
use Rattle.wake_core.specs.Run.{set_at}
use Rattle.wake_core.specs.Plain.{Plain, Hand, hand, State, Ready, DataWait, Sleep, Finished, Fresh, Woken, Known, lists}
use Rattle.wake_core.specs.Events.{Acquires, Spends, Readies, Releases, IsDue, is_waiting, is_finished, phase_after_spend, after_ready}
use Rattle.wake_core.specs.Laws as event
use Rattle.wake_core.specs.Laws.{Events}
use Rattle.wake_core.specs.Sound.{Sound}
use Rattle.wake_core.specs.Rest.{IsAtRest}
use Rattle.wake_core.specs.Turns.{Takes, IsParked, Passes, Finds, IsInHand, is_woken}
use Rattle.wake_core.proofs.Places.{set_at_same, set_at_other, set_at_again, set_at_itself}
use Rattle.wake_core.proofs.Listing.{lists-append, lists_snoc}
use Rattle.wake_core.proofs.Playing.{idle_by}
use Rattle.wake_core.proofs.Ways.{one, linked}

takes_is : (c : ℕ) (w v : Plain) (s : State) (b : Bool) → c < length w.routes → v ≡ record w { hands = set_at 0 (hand c Known) w.hands; states = set_at c s w.states; spent = set_at c b w.spent }
    → (w.spent c ≡ true → b ≡ true) → (s ≡ Ready → (IsDue (w.states c) w.clock → ⊥) → (w.states c ≡ Ready) ⊎ (w.spent c ≡ false)) → ((IsDue (w.states c) w.clock → ⊥) → b ≡ true) → (IsDue (w.states c) w.clock → b ≡ w.spent c) → (s ≢ Ready → (b ≡ true) × (s ≡ w.states c) × (IsDue s w.clock → ⊥)) → is_finished s ≡ is_finished (w.states c) → (is_woken (w.states c) (w.spent c) ≡ true → s ≡ Ready) → Events w v → Takes c w v
takes_is c w v s b known e spends woken fresh due parked ended wakes events =
    let state : v.states c ≡ s = ap (λ (x : Plain). x.states c) e ∙ set_at_same c s w.states in
    let flag : v.spent c ≡ b = ap (λ (x : Plain). x.spent c) e ∙ set_at_same c b w.spent in
    let clock : v.clock ≡ w.clock = ap (λ (x : Plain). x.clock) e in
    record {
      events = events;
      known = known;
      same = e ∙ ap (λ (x : Plain). record w { hands = x.hands; states = x.states; spent = x.spent }) (sym e);
      hands = ap (λ (x : Plain). x.hands) e;
      states = ap (λ (x : Plain). x.states) e ∙ ap (λ (y : State). set_at c y w.states) (sym state);
      spent = ap (λ (x : Plain). x.spent) e ∙ ap (λ (y : Bool). set_at c y w.spent) (sym flag);
      spends = λ was. flag ∙ spends was;
      flag = λ late. flag ∙ fresh late;
      due = λ late. flag ∙ due late;
      woken = λ ready late. woken (sym state ∙ ready) late;
      parked = λ other.
          let is = parked (λ r. other (state ∙ r)) in (
            record { spent = flag ∙ is.0; resting = other; not_due = subst (λ n. IsDue (v.states c) n → ⊥) (sym clock) (subst (λ (y : State). IsDue y w.clock → ⊥) (sym state) is.2) },
            state ∙ is.1,
          );
      ended = ap is_finished state ∙ ended;
      wakes = λ woke. state ∙ wakes woke;
    }

-- Whatever is due or was woken hasn't ended.
due_goes_on : (s : State) (clock : ℕ) → IsDue s clock → false ≡ is_finished s
due_goes_on Ready clock due = refl
due_goes_on DataWait clock due = refl
due_goes_on (Sleep until) clock due = refl
due_goes_on Finished clock due = absurd due

woken_goes_on : (s : State) (b : Bool) → is_waiting s && not b ≡ true → false ≡ is_finished s
woken_goes_on Ready b e = refl
woken_goes_on DataWait b e = refl
woken_goes_on (Sleep until) b e = refl
woken_goes_on Finished b e = cc

-- Whatever was woken had a clear flag.
clear : (s : State) (b : Bool) → is_waiting s && not b ≡ true → b ≡ false
clear s false e = refl
clear s true e = absurd (true_false (sym e ∙ never (is_waiting s)))
  where
    never : (b : Bool) → b && not true ≡ false
    never true = refl
    never false = refl

    true_false : true ≡ false → ⊥
    true_false e = cc

true_false : true ≡ false → ⊥
true_false e = cc

module _ (c : ℕ) (w m : Plain) (a : Acquires 0 c w m) where
  -- It is due.
  pub takes_due : (v : Plain) → Readies 0 c m v → IsDue (w.states c) w.clock → Takes c w v × (v.states c ≡ Ready)
  takes_due v r due =
      let e : v ≡ record w { hands = set_at 0 (hand c Known) w.hands; states = set_at c Ready w.states; spent = set_at c (w.spent c) w.spent } =
      r.effect ∙ ap (after_ready 0 c) a.effect
      ∙ ap (λ (h : ℕ → Option Hand). record w { hands = h; states = set_at c Ready w.states }) (set_at_again 0 (hand c Fresh) (hand c Known) w.hands)
      ∙ ap (λ (b : ℕ → Bool). record w { hands = set_at 0 (hand c Known) w.hands; states = set_at c Ready w.states; spent = b }) (sym (set_at_itself c w.spent)) in (
        takes_is c w v Ready (w.spent c) a.known e (λ was. was) (λ is late. absurd (late due)) (λ late. absurd (late due)) (λ is. refl) (λ other. absurd (other refl)) (due_goes_on (w.states c) w.clock due) (λ woke. refl) (event.more (event.acquire a) (one (event.ready r))),
        ap (λ (x : Plain). x.states c) e ∙ set_at_same c Ready w.states,
      )

  module _ (n : Plain) (s : Spends 0 c m.clock m n) where
    spent_hands : n.hands ≡ set_at 0 (hand c (phase_after_spend (m.states c) (m.spent c))) w.hands
    spent_hands = ap (λ (x : Plain). x.hands) s.effect
        ∙ ap (λ (x : Plain). set_at 0 (hand c (phase_after_spend (m.states c) (m.spent c))) x.hands) a.effect
        ∙ set_at_again 0 (hand c Fresh) (hand c (phase_after_spend (m.states c) (m.spent c))) w.hands

    spent_is : n ≡ record w { hands = n.hands; spent = set_at c true w.spent }
    spent_is = s.effect ∙ ap (λ (x : Plain). record m { hands = x.hands; spent = set_at c true m.spent }) (sym s.effect)
        ∙ ap (λ (x : Plain). record x { hands = n.hands; spent = set_at c true x.spent }) a.effect

    not_due : IsDue (w.states c) w.clock → ⊥
    not_due = subst (λ (x : Plain). IsDue (x.states c) x.clock → ⊥) a.effect s.not_due

    -- It is woken.
    pub takes_woken : (v : Plain) → is_waiting (m.states c) && not (m.spent c) ≡ true → Readies 0 c n v → Takes c w v × (v.states c ≡ Ready)
    takes_woken v waits r =
        let woke : is_waiting (w.states c) && not (w.spent c) ≡ true = sym (ap (λ (x : Plain). is_waiting (x.states c) && not (x.spent c)) a.effect) ∙ waits in
        let e : v ≡ record w { hands = set_at 0 (hand c Known) w.hands; states = set_at c Ready w.states; spent = set_at c true w.spent } =
        r.effect
        ∙ ap (λ (h : ℕ → Option Hand). record n { hands = set_at 0 (hand c Known) h; states = set_at c Ready n.states }) spent_hands
        ∙ ap (λ (h : ℕ → Option Hand). record n { hands = h; states = set_at c Ready n.states }) (set_at_again 0 (hand c (phase_after_spend (m.states c) (m.spent c))) (hand c Known) w.hands)
        ∙ ap (λ (x : Plain). record x { hands = set_at 0 (hand c Known) w.hands; states = set_at c Ready x.states }) spent_is in (
          takes_is c w v Ready true a.known e (λ was. refl) (λ is late. inr (clear (w.states c) (w.spent c) woke)) (λ late. refl) (λ due. absurd (not_due due)) (λ other. absurd (other refl)) (woken_goes_on (w.states c) (w.spent c) woke) (λ woke. refl)
              (event.more (event.acquire a) (event.more (event.spend s) (one (event.ready r)))),
          ap (λ (x : Plain). x.states c) e ∙ set_at_same c Ready w.states,
        )

    -- It is neither: its state stays.
    pub takes_known : is_waiting (m.states c) && not (m.spent c) ≡ false → Takes c w n
    takes_known not =
        let e : n ≡ record w { hands = set_at 0 (hand c Known) w.hands; states = set_at c (w.states c) w.states; spent = set_at c true w.spent } =
        spent_is
        ∙ ap (λ (h : ℕ → Option Hand). record w { hands = h; spent = set_at c true w.spent }) (spent_hands ∙ ap (λ (b : Bool). set_at 0 (hand c (if b then Woken else Known)) w.hands) not)
        ∙ ap (λ (t : ℕ → State). record w { hands = set_at 0 (hand c Known) w.hands; states = t; spent = set_at c true w.spent }) (sym (set_at_itself c w.states)) in
        takes_is c w n (w.states c) true a.known e (λ was. refl) (λ is late. inl is) (λ late. refl) (λ due. absurd (not_due due)) (λ other. (refl, refl, not_due)) refl (λ woke. absurd (true_false (sym woke ∙ sym (ap (λ (x : Plain). is_woken (x.states c) (x.spent c)) a.effect) ∙ not)))
        (event.more (event.acquire a) (one (event.spend s)))

-- Whoever takes one at rest has it in hand.
pub takes_hand : (c : ℕ) (w v : Plain) → IsAtRest w → Takes c w v → IsInHand c Known v
takes_hand c w v rest t = record {
  alone = λ q other. idle_by q w v (ap (λ (h : ℕ → Option Hand). h q) t.hands ∙ set_at_other 0 (hand c Known) w.hands q other)
      (ap (λ (x : Plain). x.fills q) t.same) (ap (λ (x : Plain). x.news q) t.same) (ap (λ (x : Plain). x.clearing q) t.same) (rest q);
  held = ap (λ (h : ℕ → Option Hand). h 0) t.hands ∙ set_at_same 0 (hand c Known) w.hands;
  owes = record {
    filled = ap (λ (x : Plain). x.fills 0) t.same ∙ (rest 0).owes.filled;
    looked = ap (λ (x : Plain). x.news 0) t.same ∙ (rest 0).owes.looked;
    cleared = ap (λ (x : Plain). x.clearing 0) t.same ∙ (rest 0).owes.cleared;
  };
}

pub passes_rest : (order : List ℕ) (w v : Plain) → IsAtRest w → Passes order w v → IsAtRest v
passes_rest order w v rest t q = idle_by q w v
    (ap (λ (x : Plain). x.hands q) t.effect) (ap (λ (x : Plain). x.fills q) t.effect) (ap (λ (x : Plain). x.news q) t.effect) (ap (λ (x : Plain). x.clearing q) t.effect) (rest q)

never : true ≡ false → ⊥
never e = cc

listed : (c k : ℕ) → c ≡ k → lists k (c ∷ []) ≡ true
listed c k e = elim (eqb_tells c k) [ inl h ↦ ap (λ b. b || false) h.0 | inr h ↦ absurd (h.1 e) ]

neither : (a b : Bool) → (a || b) ≡ false → (a ≡ false) × (b ≡ false)
neither true b e = absurd (never e)
neither false b e = (refl, e)

unwoken : (b : Bool) → (b ≡ true → ⊥) → b ≡ false
unwoken true not = absurd (not refl)
unwoken false not = refl

-- One more that isn't READY is given back.
pub passes_one : (c : ℕ) (w m v : Plain) → IsAtRest w → Takes c w m → m.states c ≢ Ready → Releases 0 c m v → Passes (c ∷ []) w v
passes_one c w m v rest t other r =
    let is = t.parked other in
    let states : m.states ≡ w.states = t.states ∙ ap (λ (s : State). set_at c s w.states) is.1 ∙ set_at_itself c w.states in
    let hands : set_at 0 None m.hands ≡ w.hands = ap (set_at 0 None) t.hands ∙ set_at_again 0 (hand c Known) None w.hands
    ∙ ap (λ (h : Option Hand). set_at 0 h w.hands) (sym (rest 0).hand) ∙ set_at_itself 0 w.hands in
    let e : v ≡ record w { spent = m.spent } = r.effect
    ∙ ap (λ (h : ℕ → Option Hand). record m { hands = h }) hands
    ∙ ap (λ (x : Plain). record x { hands = w.hands }) t.same
    ∙ ap (λ (s : ℕ → State). record w { states = s; spent = m.spent }) states in
    let flag : (k : ℕ) → k ≡ c → v.spent k ≡ true = λ k same. ap (λ (x : Plain). x.spent k) e ∙ ap m.spent same ∙ is.0.spent in
    record {
      events = linked t.events (one (event.release r));
      effect = e ∙ ap (λ (x : Plain). record w { spent = x.spent }) (sym e);
      spends = λ k was. elim (place k c) [
        | inl same ↦ flag k same
        | inr apart ↦ ap (λ (x : Plain). x.spent k) e ∙ ap (λ (f : ℕ → Bool). f k) t.spent ∙ set_at_other c (m.spent c) w.spent k apart ∙ was
      ];
      parked = λ k among. elim (lists_snoc k c [] among) [
        | inl none ↦ cc
        | inr same ↦ record {
          spent = flag k same;
          resting = λ ready. other (ap (λ (f : ℕ → State). f c) states ∙ ap w.states (sym same) ∙ sym (ap (λ (x : Plain). x.states k) e) ∙ ready);
          not_due = λ due. is.0.not_due (subst (λ (x : State). IsDue x m.clock) (ap (λ (x : Plain). x.states k) e ∙ ap w.states same ∙ sym is.1)
              (subst (λ n. IsDue (v.states k) n) (ap (λ (x : Plain). x.clock) e ∙ sym (ap (λ (x : Plain). x.clock) t.same)) due));
        }
      ];
      waited = λ k among. elim (lists_snoc k c [] among) [
        | inl none ↦ cc
        | inr same ↦ unwoken (is_woken (w.states k) (w.spent k)) (λ woke. other (t.wakes (ap (λ n. is_woken (w.states n) (w.spent n)) (sym same) ∙ woke)))
      ];
      others = λ k none. elim (place k c) [
        | inl same ↦ absurd (never (sym (listed c k (sym same)) ∙ none))
        | inr apart ↦ ap (λ (x : Plain). x.spent k) e ∙ ap (λ (f : ℕ → Bool). f k) t.spent ∙ set_at_other c (m.spent c) w.spent k apart
      ];
    }

-- What is parked stays so while others are taken and given back.
parked_on : (order : List ℕ) (c : ℕ) (w v : Plain) → Passes order w v → IsParked c w → IsParked c v
parked_on order c w v t p =
    let state : v.states c ≡ w.states c = ap (λ (x : Plain). x.states c) t.effect in
    record {
      spent = t.spends c p.spent;
      resting = λ ready. p.resting (sym state ∙ ready);
      not_due = λ due. p.not_due (subst (λ (x : State). IsDue x w.clock) state (subst (λ n. IsDue (v.states c) n) (ap (λ (x : Plain). x.clock) t.effect) due));
    }

pub passes_none : (w : Plain) → Passes [] w w
passes_none w = record { events = event.none; effect = refl; spends = λ c was. was; parked = λ c among. cc; waited = λ c among. cc; others = λ c none. refl }

pub passes_more : (xs ys : List ℕ) (w m v : Plain) → Passes xs w m → Passes ys m v → Passes (xs ++ ys) w v
passes_more xs ys w m v a b = record {
  events = linked a.events b.events;
  effect = b.effect ∙ ap (λ (x : Plain). record x { spent = v.spent }) a.effect;
  spends = λ c was. b.spends c (a.spends c was);
  parked = λ c among. elim (either (lists c xs) (lists c ys) (sym (lists-append c xs ys) ∙ among)) [
    | inl e ↦ parked_on ys c m v b (a.parked c e)
    | inr e ↦ b.parked c e
  ];
  waited = λ c among. elim (either (lists c xs) (lists c ys) (sym (lists-append c xs ys) ∙ among)) [
    | inl e ↦ a.waited c e
    | inr e ↦ by c (lists c xs) refl e
  ];
  others = λ c none. let e = neither (lists c xs) (lists c ys) (sym (lists-append c xs ys) ∙ none) in b.others c e.1 ∙ a.others c e.0;
}
  where
    by : (c : ℕ) (b : Bool) → lists c xs ≡ b → lists c ys ≡ true → is_woken (w.states c) (w.spent c) ≡ false
    by c true is among = a.waited c is
    by c false is among =
        ap (λ (s : State). is_woken s (w.spent c)) (sym (ap (λ (x : Plain). x.states c) a.effect)) ∙ ap (is_woken (m.states c)) (sym (a.others c is)) ∙ b.waited c among

pub finds_here : (before after : List ℕ) (c : ℕ) (w m v : Plain) → Passes before w m → Sound m → Takes c m v → v.states c ≡ Ready → Finds (before ++ c ∷ after) c w v
finds_here before after c w m v p s t ready = record { before = before; after = after; there = refl; between = m; sound = s; passes = p; takes = t; ready = ready }

pub finds_later : (xs ys : List ℕ) (c : ℕ) (w m v : Plain) → Passes xs w m → Finds ys c m v → Finds (xs ++ ys) c w v
finds_later xs ys c w m v p f = record {
  before = xs ++ f.before;
  after = f.after;
  there = ap (λ l. xs ++ l) f.there ∙ sym (append_assoc xs f.before (c ∷ f.after));
  between = f.between;
  sound = f.sound;
  passes = passes_more xs f.before w m f.between p f.passes;
  takes = f.takes;
  ready = f.ready;
}

pub finds_first : (xs ys : List ℕ) (c : ℕ) (w v : Plain) → Finds xs c w v → Finds (xs ++ ys) c w v
finds_first xs ys c w v f = record {
  before = f.before;
  after = f.after ++ ys;
  there = ap (λ l. l ++ ys) f.there ∙ append_assoc f.before (c ∷ f.after) ys;
  between = f.between;
  sound = f.sound;
  passes = f.passes;
  takes = f.takes;
  ready = f.ready;
}

-- The opening world, any events one after another, and threads that hold and owe nothing.
use Rattle.std.proofs.Common.{ℕ, ◌-◌, ap₂, drop, false, ◌≡◌, ◌⊎◌, ◌<◌, true, refl, sym, ◌∙◌, ap, subst, inl, inr, arith, Option, Some, None, List, [], ◌∷◌, ◌++◌, length, take, slice_get}
use Rattle.std.proofs.Math.Seq.{take-length, take-append_seam}
use mathlib.Core.Path.{fun_ext}
use Rattle.cy_msg.specs.declared.token.Token.{Token}
use Rattle.cy_msg.proofs.Lists.{place}
use Rattle.cy_fuse.specs.Laws.{FetchesFind}
use Rattle.cy_comp.specs.declared.call.Call.{Call}
use Rattle.cy_comp.specs.Calls.{last_outcome, outs, is_last}
use Rattle.wake_core.specs.Run.{Route, set_at, readers_of}
use Rattle.wake_core.specs.Plain.{Plain, Stop, Hand, Ready, DataWait, Sleep, Running, blank, opening_world, lists, lists_reader, made_of, taped_of, last_of}
use Rattle.wake_core.specs.Events.{OwesNothing, next_call, after_fetch, Fetches}
use Rattle.wake_core.specs.Sound.{IsWired, HeldIn, Consistent, Sound}
use Rattle.wake_core.specs.LawfulRun.{Lost}
use Rattle.wake_core.specs.Laws.{KeepsCalls, Event, acquire, spend, ready, check, stop, ask, fetch, tape, send, fill, look, clear, yield_as, release, tick, close, Events, none, more, IsIdle, with_idle}
use Rattle.wake_core.proofs.Places.{set_at_there, set_at_other, set_at_itself}
use Rattle.wake_core.proofs.Sounding.{acquire_sound, spend_sound, ready_sound, check_sound, stop_sound, ask_sound, fetch_sound, tape_sound, send_sound, fill_sound, look_sound, clear_sound, yield_sound, release_sound, tick_sound, close_sound}

-- Before any call there is no outcome, and nothing is put out.
opening_last : (routes : List Route) (c : ℕ) → last_of routes (λ k. []) c ≡ None
unfolding last_outcome
opening_last routes c = by (slice_get routes c) refl
  where
    by : (o : Option Route) → slice_get routes c ≡ o → last_of routes (λ k. []) c ≡ None
    by None e = rw e refl
    by (Some x) e = rw e refl

opening_made : (routes : List Route) (c : ℕ) → made_of routes (λ k. []) c ≡ 0
unfolding outs
opening_made routes c = by (slice_get routes c) refl
  where
    by : (o : Option Route) → slice_get routes c ≡ o → made_of routes (λ k. []) c ≡ 0
    by None e = rw e refl
    by (Some x) e = rw e refl

opening_taped : (routes : List Route) (c : ℕ) → taped_of routes [] c ≡ 0
opening_taped routes c = by (slice_get routes c) refl
  where
    by : (o : Option Route) → slice_get routes c ≡ o → taped_of routes [] c ≡ 0
    by None e = rw e refl
    by (Some x) e = rw e refl

drop_all : {X : Type 0} (xs : List X) → drop (length xs - 0) xs ≡ []
drop_all xs = let n : length xs - 0 ≡ length xs = omega arith in ap (λ k. drop k xs) n ∙ go xs
  where
    go : {X : Type 0} (xs : List X) → drop (length xs) xs ≡ []
    go [] = refl
    go (x ∷ xs) = go xs

none_some : {X : Type 0} (x : X) → None ≡ Some x → ⊥
none_some x e = cc

false_true : false ≡ true → ⊥
false_true e = cc

ready_waits : Ready ≡ DataWait → ⊥
ready_waits e = cc

nothing : {X : Type 0} (n : ℕ) (x : X) → slice_get [] n ≡ Some x → ⊥
nothing n x e = cc

module _ (routes : List Route) (counts : List ℕ) (stop : Option Stop) (wired : IsWired routes counts) where
  none_made : (c : ℕ) → taped_of routes [] c < made_of routes (λ k. []) c → ⊥
  none_made c l = none (taped_of routes [] c) (made_of routes (λ k. []) c) (opening_made routes c) l
    where
      none : (a b : ℕ) → b ≡ 0 → a < b → ⊥
      none a b e l = omega arith

  none_last : (c : ℕ) → is_last (last_of routes (λ k. []) c) ≡ true → ⊥
  none_last c l = false_true (ap is_last (sym (opening_last routes c)) ∙ l)

  opening_held : HeldIn (opening_world routes counts stop)
  opening_held = record {
    known = λ p c f e. absurd (none_some record { croutine = c; phase = f } e);
    one = λ c p q f g e. absurd (none_some record { croutine = c; phase = f } e);
    phased = λ p c f s e. absurd (none_some record { croutine = c; phase = f } e);
    stopping = λ p c f e. absurd (none_some record { croutine = c; phase = f } e);
    sleeps = λ c u e. cc;
    asleep = λ c u e. absurd (ready_sleeps u e);
    finished = λ c e n. cc;
    ended = λ c l no. absurd (none_last c l);
    called = λ p c e. absurd (none_some record { croutine = c; phase = Running } e);
    holds = λ p c u e. absurd (none_some record { croutine = c; phase = Running } e);
    few = λ c. omega (arith, opening_taped routes c);
    held_back = λ c l no. absurd (none_made c l);
    resting = λ c l no. absurd (none_made c l);
    unended = λ c l no. absurd (none_made c l);
  }
    where
      ready_sleeps : (u : ℕ) → Ready ≡ Sleep u → ⊥
      ready_sleeps u e = cc

  opening_consistent : Consistent (opening_world routes counts stop)
  unfolding outs
  opening_consistent = record {
    wired = wired;
    held = opening_held;
    called = record {
      lawful = λ c x at. record {
        positions = λ n y e. cc;
        tails_rise = λ n y e. absurd (nothing n y e);
        tails_fused = λ n y e. absurd (nothing n y e);
        tuples = λ n y e. cc;
        outputs = λ n y e. absurd (nothing n y e);
        no_call_after_last = λ n y e. absurd (nothing n y e);
      };
      cursor = λ c x at. refl;
    };
    delivered = record {
      begins = λ v j channel is. refl;
      whole = λ v j channel is free. refl;
      owed = λ p v j l. absurd (false_true l);
      known = λ v n a e. absurd (nothing n a e);
      numbered = λ n t e. absurd (nothing n t e);
      history = λ c x at. refl;
      but_last = λ c x at. omega arith;
      suffix = λ p. drop_all (readers_of routes blank.channel);
      player = λ p some. absurd (some refl);
      holder = λ p c some. absurd (some refl);
      told = λ p v l. absurd (false_true l);
      looked = λ p v l. absurd (false_true l);
    };
    causal = record {
      before = λ c x n y t i at out. absurd (nothing n y out.made);
      own = λ c x n y at made. absurd (nothing n y made);
    };
    room = record {
      taped = λ channel. omega arith;
      called = λ c x at. omega arith;
      channels = λ n t e. absurd (nothing n t e);
    };
  }

  pub opening_sound : Sound (opening_world routes counts stop)
  opening_sound = record {
    consistent = opening_consistent;
    wakes = record { none_lost = λ c is_spent some quiet waiting un. ready_waits waiting };
    timely = record {
      rises = λ n s t e. absurd (nothing n s e);
      past = λ n t e. absurd (nothing n t e);
      awake = λ c u is some. absurd (none_made c some);
      over = λ c x n y t i at out. absurd (nothing n y out.made);
      later = λ c x n y t i at out. absurd (nothing n y out.made);
    };
    obedient = record {
      given = λ up. absurd (false_true up);
      few = λ s given down. omega arith;
      one = λ s given up. absurd (false_true up);
      none_yet = λ s given up. absurd (false_true up);
    };
  }

-- No croutine is lost: a free one is in no phase.
pub none_lost : (w : Plain) → Sound w → (c : ℕ) → Lost w c → ⊥
none_lost w s c l = s.wakes.none_lost c l.spent l.unfetched l.untold l.waits (λ p. (l.free p _, l.free p _, l.free p _))

pub event_sound : FetchesFind → (w v : Plain) → Event w v → Sound w → Sound v
event_sound law w v (acquire {p} {c} e) s = acquire_sound p c w v e s
event_sound law w v (spend {p} {c} {seen} e) s = spend_sound p c seen w v e s
event_sound law w v (ready {p} {c} e) s = ready_sound p c w v e s
event_sound law w v (check {p} {c} e) s = check_sound p c w v e s
event_sound law w v (stop e) s = stop_sound w v e s
event_sound law w v (ask {p} {c} e) s = ask_sound p c w v e s
event_sound law w v (fetch {p} {c} e) s = fetch_sound law p c w v e s
event_sound law w v (tape {t} e) s = tape_sound t w v e s
event_sound law w v (send {p} {c} {next} {t} e) s = send_sound p c next t w v e s
event_sound law w v (fill {p} {u} {j} e) s = fill_sound p u j w v e s
event_sound law w v (look {p} {c} e) s = look_sound p c w v e s
event_sound law w v (clear {p} {c} e) s = clear_sound p c w v e s
event_sound law w v (yield_as {p} {c} {state} e) s = yield_sound p c state w v e s
event_sound law w v (release {p} {c} e) s = release_sound p c w v e s
event_sound law w v (tick {time} e) s = tick_sound time w v e s
event_sound law w v (close e) s = close_sound w v e s

pub events_sound : FetchesFind → (w v : Plain) → Events w v → Sound w → Sound v
events_sound law w v none s = s
events_sound law w v (more {m} e rest) s = events_sound law m v rest (event_sound law w m e s)

-- An event that makes no call leaves the calls as they were.
pub same_calls : (w v : Plain) → v.calls ≡ w.calls → (c : ℕ) → take (length (w.calls c)) (v.calls c) ≡ w.calls c
same_calls w v same c = ap (λ (f : ℕ → List Call). take (length (w.calls c)) (f c)) same ∙ take-length (w.calls c)

pub fetch_calls : (p c : ℕ) → KeepsCalls (Fetches p c)
fetch_calls p c w v e k = ap (λ (u : Plain). take (length (w.calls k)) (u.calls k)) e.effect ∙ by (next_call w c)
  where
    by : (o : Option Call) → take (length (w.calls k)) ((after_fetch p c o w).calls k) ≡ w.calls k
    by None = take-length (w.calls k)
    by (Some call) = elim (place k c) [
      | inl s ↦ ap (take (length (w.calls k))) (set_at_there c (w.calls c ++ call ∷ []) w.calls k s ∙ ap (λ n. w.calls n ++ call ∷ []) (sym s)) ∙ take-append_seam (w.calls k) (call ∷ [])
      | inr s ↦ ap (take (length (w.calls k))) (set_at_other c (w.calls c ++ call ∷ []) w.calls k s) ∙ take-length (w.calls k)
    ]

event_calls : (w v : Plain) → Event w v → (c : ℕ) → take (length (w.calls c)) (v.calls c) ≡ w.calls c
event_calls w v (acquire e) = same_calls w v (ap (λ (u : Plain). u.calls) e.effect)
event_calls w v (spend e) = same_calls w v (ap (λ (u : Plain). u.calls) e.effect)
event_calls w v (ready e) = same_calls w v (ap (λ (u : Plain). u.calls) e.effect)
event_calls w v (check e) = same_calls w v (ap (λ (u : Plain). u.calls) e.effect)
event_calls w v (stop e) = same_calls w v (ap (λ (u : Plain). u.calls) e.effect)
event_calls w v (ask e) = same_calls w v (ap (λ (u : Plain). u.calls) e.effect)
event_calls w v (fetch {p} {c} e) = fetch_calls p c w v e
event_calls w v (tape e) = same_calls w v (ap (λ (u : Plain). u.calls) e.effect)
event_calls w v (send e) = same_calls w v (ap (λ (u : Plain). u.calls) e.effect)
event_calls w v (fill e) = same_calls w v (ap (λ (u : Plain). u.calls) e.effect)
event_calls w v (look e) = same_calls w v (ap (λ (u : Plain). u.calls) e.effect)
event_calls w v (clear e) = same_calls w v (ap (λ (u : Plain). u.calls) e.effect)
event_calls w v (yield_as e) = same_calls w v (ap (λ (u : Plain). u.calls) e.effect)
event_calls w v (release e) = same_calls w v (ap (λ (u : Plain). u.calls) e.effect)
event_calls w v (tick e) = same_calls w v (ap (λ (u : Plain). u.calls) e.effect)
event_calls w v (close e) = same_calls w v (ap (λ (u : Plain). u.calls) e.effect)

begins_through : {X : Type 0} (xs ys zs : List X) → take (length xs) ys ≡ xs → take (length ys) zs ≡ ys → take (length xs) zs ≡ xs
begins_through [] ys zs a b = refl
begins_through (x ∷ xs) [] zs a b = cc
begins_through (x ∷ xs) (y ∷ ys) [] a b = cc
begins_through (x ∷ xs) (y ∷ ys) (z ∷ zs) a b =
    let first : y ≡ x = cc in
    let second : z ≡ y = cc in
    let rest : take (length xs) ys ≡ xs = cc in
    let later : take (length ys) zs ≡ ys = cc in
    ap₂ (λ h l. h ∷ l) (second ∙ first) (begins_through xs ys zs rest later)

pub events_calls : (w v : Plain) → Events w v → (c : ℕ) → take (length (w.calls c)) (v.calls c) ≡ w.calls c
events_calls w v none c = take-length (w.calls c)
events_calls w v (more {m} e rest) c = begins_through (w.calls c) (m.calls c) (v.calls c) (event_calls w m e c) (events_calls m v rest c)

-- What is written where it stood already changes nothing.
unchanged : {X : Type 0} (p : ℕ) (x : X) (f : ℕ → X) → f p ≡ x → set_at p x f ≡ f
unchanged p x f e = ap (λ y. set_at p y f) (sym e) ∙ set_at_itself p f

-- An idle thread in the place of an idle one.
idle_same : (p : ℕ) (t : Token) (w : Plain) → IsIdle p w → with_idle p t w ≡ record w { tokens = set_at p t w.tokens }
idle_same p t w idle = rw (unchanged p None w.hands idle.hand, unchanged p [] w.fills idle.owes.filled, unchanged p [] w.news idle.owes.looked, unchanged p [] w.clearing idle.owes.cleared) refl

-- Messages of threads that owe nothing may be others.
retoken : (tokens : ℕ → Token) (w : Plain) → ((p : ℕ) → (tokens p ≡ w.tokens p) ⊎ OwesNothing p w) → Consistent w → Consistent record w { tokens = tokens }
retoken tokens w same s = record {
  wired = s.wired;
  held = s.held;
  called = s.called;
  delivered = record {
    begins = s.delivered.begins;
    whole = s.delivered.whole;
    owed = λ p v j l. elim (same p) [
      | inl e ↦ rw e (s.delivered.owed p v j l)
      | inr o ↦ absurd (false_true (sym (ap (lists_reader v j) o.filled) ∙ l))
    ];
    known = s.delivered.known;
    numbered = s.delivered.numbered;
    history = s.delivered.history;
    but_last = s.delivered.but_last;
    suffix = λ p. elim (same p) [
      | inl e ↦ rw e (s.delivered.suffix p)
      | inr o ↦ rw o.filled (drop_all (readers_of w.routes (tokens p).channel))
    ];
    player = λ p some none. elim (same p) [ inl e ↦ s.delivered.player p some (rw e at none) | inr o ↦ absurd (some o.filled) ];
    holder = λ p c some by. elim (same p) [ inl e ↦ s.delivered.holder p c some (rw e at by) | inr o ↦ absurd (some o.filled) ];
    told = λ p v l. elim (same p) [ inl e ↦ rw e (s.delivered.told p v l) | inr o ↦ absurd (false_true (sym (ap (lists v) o.looked) ∙ l)) ];
    looked = λ p v l. elim (same p) [ inl e ↦ rw e (s.delivered.looked p v l) | inr o ↦ absurd (false_true (sym (ap (lists v) o.cleared) ∙ l)) ];
  };
  causal = s.causal;
  room = s.room;
}

retoken_sound : (tokens : ℕ → Token) (w : Plain) → ((p : ℕ) → (tokens p ≡ w.tokens p) ⊎ OwesNothing p w) → Sound w → Sound record w { tokens = tokens }
retoken_sound tokens w same s = record { consistent = retoken tokens w same s.consistent; wakes = s.wakes; timely = s.timely; obedient = s.obedient }

one_token : (p : ℕ) (t : Token) (w : Plain) → OwesNothing p w → (q : ℕ) → (set_at p t w.tokens q ≡ w.tokens q) ⊎ OwesNothing q w
one_token p t w owes q = elim (place q p) [ inl e ↦ inr (subst (λ n. OwesNothing n w) (sym e) owes) | inr e ↦ inl (set_at_other p t w.tokens q e) ]

pub idle_held : (p : ℕ) (t : Token) (w : Plain) → IsIdle p w → HeldIn w → HeldIn (with_idle p t w)
idle_held p t w idle h = subst HeldIn (sym (idle_same p t w idle)) h

pub idle_consistent : (p : ℕ) (t : Token) (w : Plain) → IsIdle p w → Consistent w → Consistent (with_idle p t w)
idle_consistent p t w idle s = subst Consistent (sym (idle_same p t w idle)) (retoken (set_at p t w.tokens) w (one_token p t w idle.owes) s)

pub idle_sound : (p : ℕ) (t : Token) (w : Plain) → IsIdle p w → Sound w → Sound (with_idle p t w)
idle_sound p t w idle s = subst Sound (sym (idle_same p t w idle)) (retoken_sound (set_at p t w.tokens) w (one_token p t w idle.owes) s)

pub replaced_sound : (w v : Plain) → ((p : ℕ) → IsIdle p w) → ((p : ℕ) → IsIdle p v)
    → v ≡ record w { hands = v.hands; fills = v.fills; news = v.news; clearing = v.clearing; tokens = v.tokens } → Sound w → Sound v
replaced_sound w v idle idle' same s =
    let hands : v.hands ≡ w.hands = fun_ext (λ p. (idle' p).hand ∙ sym (idle p).hand) in
    let fills : v.fills ≡ w.fills = fun_ext (λ p. (idle' p).owes.filled ∙ sym (idle p).owes.filled) in
    let news : v.news ≡ w.news = fun_ext (λ p. (idle' p).owes.looked ∙ sym (idle p).owes.looked) in
    let clearing : v.clearing ≡ w.clearing = fun_ext (λ p. (idle' p).owes.cleared ∙ sym (idle p).owes.cleared) in
    subst Sound (sym (same ∙ ap (λ (h : ℕ → Option Hand). record w { hands = h; fills = v.fills; news = v.news; clearing = v.clearing; tokens = v.tokens }) hands
    ∙ ap (λ (f : ℕ → List (ℕ × ℕ)). record w { fills = f; news = v.news; clearing = v.clearing; tokens = v.tokens }) fills
    ∙ ap (λ (n : ℕ → List ℕ). record w { news = n; clearing = v.clearing; tokens = v.tokens }) news
    ∙ ap (λ (n : ℕ → List ℕ). record w { clearing = n; tokens = v.tokens }) clearing))
    (retoken_sound v.tokens w (λ p. inr (idle p).owes) s)

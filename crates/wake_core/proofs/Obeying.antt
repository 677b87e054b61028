-- What each event keeps of obedience to the stop.
use Rattle.std.proofs.Common.{ℕ, ◌+◌, ◌-◌, ◌≡◌, ◌≢◌, ◌≤◌, ◌<◌, ◌==◌, ◌&&◌, Bool, true, false, true≢false, refl, sym, ◌∙◌, ap, subst, inl, inr, arith, Option, Some, None, List, [], ◌∷◌, ◌++◌, length, take, drop, slice_get, length-append, if◌then◌else◌, is_some, not}
use Rattle.std.proofs.lemmas.List.{take-append-le, take-append-drop}
use Rattle.std.proofs.lemmas.List.Elements.{filter-append}
use Rattle.std.proofs.lemmas.Bool.Decides.{eqb_tells}
use Rattle.std.proofs.lemmas.Option.{slice_get_within, slice_get_cases}
use Rattle.cy_msg.specs.declared.token.Token.{Token}
use Rattle.cy_msg.specs.Tuple.{messages_of}
use Rattle.cy_msg.specs.Tokens.{on_channel}
use Rattle.cy_msg.proofs.Lists.{place, get_snoc, get_taken}
use Rattle.cy_fuse.specs.Fusion.{fused}
use Rattle.cy_comp.specs.declared.call.Call.{Call}
use Rattle.wake_core.specs.Run.{Route, set_at, writes_from, played_of}
use Rattle.wake_core.specs.Plain.{Plain, Stop, Hand, hand, Phase, Checked, Stopping, Asked, Running, stops}
use Rattle.wake_core.specs.Sound.{StandsOn, IsLate, HasLate, Obedient, Consistent, is_asking}
use Rattle.wake_core.proofs.Places.{set_at_is, set_at_there, set_at_other}
use Rattle.wake_core.proofs.Standing.{item_stands}

pub same_hand : (c k : ℕ) (f g : Phase) → hand c f ≡ hand k g → (c ≡ k) × (f ≡ g)
same_hand c k f g e = (grind (arith, e), grind (arith, e))

-- One that the stop names is stopped once it is raised.
pub named_stops : (stop : Option Stop) (raised : Bool) (s : Stop) → stop ≡ Some s → raised ≡ true → stops stop raised s.component ≡ true
named_stops stop raised s given is = ap (λ o. stops o raised s.component) given ∙ ap (λ b. b && s.component == s.component) is ∙ elim (eqb_tells s.component s.component) [ inl i ↦ i.0 | inr i ↦ absurd (i.1 refl) ]

-- Among the first messages of a tape no more are played than on all of it.
few_played : (routes : List Route) (n : ℕ) (tape : List Token) → length (played_of routes (take n tape)) ≤ length (played_of routes tape)
few_played routes n tape = let parts = ap length (sym (filter-append (λ t. not (is_some (writes_from 0 routes t.channel))) (take n tape) (drop n tape)) ∙ ap (played_of routes) (take-append-drop n tape)) in
    omega (arith, parts, length-append (played_of routes (take n tape)) (played_of routes (drop n tape)))

-- A message that stood on the tape before another one came is late afterwards only where it was.
late_before : (routes : List Route) (after : ℕ) (tape : List Token) (t m : Token) → t.seq ≡ length (on_channel t.channel tape) + 1 → StandsOn tape m → IsLate routes after (tape ++ t ∷ []) m → IsLate routes after tape m
late_before routes after tape t m next stands l = elim (get_snoc tape t l.place m l.there) [
  | inl i ↦
      let inside : l.place + 1 ≤ length tape = within (slice_get_within tape l.place m i) in
      record { place = l.place; there = i; late = subst (λ (xs : List Token). after < length (played_of routes xs)) (take-append-le (l.place + 1) tape (t ∷ []) inside) l.late }
  | inr i ↦ absurd (past (slice_get_within (on_channel t.channel tape) (t.seq - 1) t (subst (StandsOn tape) (sym i.1) stands)))
]
  where
    within : l.place < length tape → l.place + 1 ≤ length tape
    within e = omega arith

    past : t.seq - 1 < length (on_channel t.channel tape) → ⊥
    past e = omega (arith, next)

module _ {routes : List Route} {stop : Option Stop} {raised : Bool} {hands : ℕ → Option Hand} {calls : ℕ → List Call} {tape : List Token} where
  -- A hand changes to one that is in no phase between the look for the stop and the fetch.
  pub calm_obedient : (p : ℕ) (new : Option Hand) → ((k : ℕ) (f : Phase) → new ≡ hand k f → is_asking f ≡ false)
      → Obedient routes stop raised hands calls tape → Obedient routes stop raised (set_at p new hands) calls tape
  calm_obedient p new calm o = record {
    given = o.given;
    few = o.few;
    one = o.one;
    none_yet = λ s given up q n f x e asks at late. elim (set_at_is p new hands q (hand s.component f) e) [
      | inl i ↦ true≢false (sym asks ∙ calm s.component f i.1)
      | inr i ↦ o.none_yet s given up q n f x i.1 asks at late
    ];
  }

  pub phase_obedient : (p c : ℕ) (new : Phase) → is_asking new ≡ false → Obedient routes stop raised hands calls tape → Obedient routes stop raised (set_at p (hand c new) hands) calls tape
  phase_obedient p c new calm o = calm_obedient p (hand c new) (λ k f e. ap is_asking (sym (same_hand c k new f e).1) ∙ calm) o

  pub free_obedient : (p : ℕ) → Obedient routes stop raised hands calls tape → Obedient routes stop raised (set_at p None hands) calls tape
  free_obedient p o = calm_obedient p None (λ k f e. absurd (none_hand k f e)) o
    where
      none_hand : (k : ℕ) (f : Phase) → None ≡ hand k f → ⊥
      none_hand k f e = cc

  -- A component that the raised stop names isn't Checked by the look for it.
  pub check_obedient : (p c : ℕ) → Obedient routes stop raised hands calls tape
      → Obedient routes stop raised (set_at p (hand c (if stops stop raised c then Stopping else Checked)) hands) calls tape
  check_obedient p c o = record {
    given = o.given;
    few = o.few;
    one = o.one;
    none_yet = λ s given up q n f x e asks at late. elim (set_at_is p (hand c (if stops stop raised c then Stopping else Checked)) hands q (hand s.component f) e) [
      | inl i ↦
          let same = same_hand c s.component (if stops stop raised c then Stopping else Checked) f i.1 in
          let named : stops stop raised c ≡ true = ap (stops stop raised) same.0 ∙ named_stops stop raised s given up in
          stopping_asks (ap is_asking (sym (ap (λ b. if b then Stopping else Checked) named) ∙ same.1) ∙ asks)
      | inr i ↦ o.none_yet s given up q n f x i.1 asks at late
    ];
  }
    where
      stopping_asks : is_asking Stopping ≡ true → ⊥
      stopping_asks e = cc

  pub ask_obedient : (p c : ℕ) → hands p ≡ hand c Checked → Obedient routes stop raised hands calls tape → Obedient routes stop raised (set_at p (hand c Asked) hands) calls tape
  ask_obedient p c held o = record {
    given = o.given;
    few = o.few;
    one = o.one;
    none_yet = λ s given up q n f x e asks at late. elim (set_at_is p (hand c Asked) hands q (hand s.component f) e) [
      | inl i ↦ o.none_yet s given up p n Checked x (held ∙ ap (λ k. hand k Checked) (same_hand c s.component Asked f i.1).0) refl at late
      | inr i ↦ o.none_yet s given up q n f x i.1 asks at late
    ];
  }

  -- A call more of a component that has none yet with a late message where the stop names it.
  pub call_obedient : (p c : ℕ) (call : Call) → hands p ≡ hand c Asked → ((c p q : ℕ) (f g : Phase) → hands p ≡ hand c f → hands q ≡ hand c g → p ≡ q)
      → Obedient routes stop raised hands calls tape → Obedient routes stop raised (set_at p (hand c Running) hands) (set_at c (calls c ++ call ∷ []) calls) tape
  call_obedient p c call held alone o = record {
    given = o.given;
    few = o.few;
    one = λ s given up known m n x y at_m at_n late_x late_y. elim (place s.component c) [
      | inr i ↦ o.one s given up known m n x y (other s i m x at_m) (other s i n y at_n) late_x late_y
      | inl i ↦ last s given up i m x at_m late_x ∙ sym (last s given up i n y at_n late_y)
    ];
    none_yet = λ s given up q n f x e asks at late. elim (set_at_is p (hand c Running) hands q (hand s.component f) e) [
      | inl i ↦ running_asks (ap is_asking (same_hand c s.component Running f i.1).1 ∙ asks)
      | inr i ↦ elim (place s.component c) [
        | inl j ↦ i.0 (alone c q p f Asked (i.1 ∙ ap (λ k. hand k f) j) held)
        | inr j ↦ o.none_yet s given up q n f x i.1 asks (other s j n x at) late
      ]
    ];
  }
    where
      running_asks : is_asking Running ≡ true → ⊥
      running_asks e = cc

      other : (s : Stop) → s.component ≢ c → (n : ℕ) (x : Call) → slice_get (set_at c (calls c ++ call ∷ []) calls s.component) n ≡ Some x → slice_get (calls s.component) n ≡ Some x
      other s i n x at = ap (λ (l : List Call). slice_get l n) (sym (set_at_other c (calls c ++ call ∷ []) calls s.component i)) ∙ at

      last : (s : Stop) → stop ≡ Some s → raised ≡ true → s.component ≡ c → (n : ℕ) (x : Call) → slice_get (set_at c (calls c ++ call ∷ []) calls s.component) n ≡ Some x → HasLate routes s.after tape x → n ≡ length (calls c)
      last s given up i n x at late = elim (get_snoc (calls c) call n x (ap (λ (l : List Call). slice_get l n) (sym (set_at_there c (calls c ++ call ∷ []) calls s.component i)) ∙ at)) [
        | inl old ↦ absurd (o.none_yet s given up p n Asked x (held ∙ ap (λ k. hand k Asked) (sym i)) refl (ap (λ k. slice_get (calls k) n) i ∙ old) late)
        | inr new ↦ new.0
      ]

  -- A message more on the tape, which stands in no call yet.
  pub tape_obedient : (t : Token) → t.seq ≡ length (on_channel t.channel tape) + 1 → ((c : ℕ) (x : Call) (n j : ℕ) (m : Token) → c < length routes → slice_get (calls c) n ≡ Some x → slice_get (messages_of x.tuple) j ≡ Some m → StandsOn tape m)
      → ((p c : ℕ) (f : Phase) → hands p ≡ hand c f → c < length routes)
      → ((s : Stop) → stop ≡ Some s → raised ≡ false → length (played_of routes (tape ++ t ∷ [])) ≤ s.after)
      → Obedient routes stop raised hands calls tape → Obedient routes stop raised hands calls (tape ++ t ∷ [])
  tape_obedient t next stands known few o = record {
    given = o.given;
    few = few;
    one = λ s given up within m n x y at_m at_n late_x late_y. o.one s given up within m n x y at_m at_n (before s within m x at_m late_x) (before s within n y at_n late_y);
    none_yet = λ s given up q n f x e asks at late. o.none_yet s given up q n f x e asks at (before s (known q s.component f e) n x at late);
  }
    where
      before : (s : Stop) → s.component < length routes → (n : ℕ) (x : Call) → slice_get (calls s.component) n ≡ Some x → HasLate routes s.after (tape ++ t ∷ []) x → HasLate routes s.after tape x
      before s within n x at l = record {
        place = l.place;
        message = l.message;
        there = l.there;
        late = late_before routes s.after tape t l.message next (stands s.component x n l.place l.message within at l.there) l.late;
      }

  -- When the stop is raised nothing is late yet.
  pub stop_obedient : (s : Stop) → stop ≡ Some s → length (played_of routes tape) ≡ s.after → Obedient routes stop raised hands calls tape → Obedient routes stop true hands calls tape
  stop_obedient s given all o = record {
    given = λ up none. no_stop (sym none ∙ given);
    few = λ r is up. absurd (true≢false up);
    one = λ r is up within m n x y at_m at_n late_x late_y. absurd (none r is x late_x);
    none_yet = λ r is up q n f x e asks at late. none r is x late;
  }
    where
      no_stop : None ≡ Some s → ⊥
      no_stop e = cc

      none : (r : Stop) → stop ≡ Some r → (x : Call) → HasLate routes r.after tape x → ⊥
      none r is x l = let same : s ≡ r = one_of (sym given ∙ is) in past (l.late.late) (few_played routes (l.late.place + 1) tape) (all ∙ ap (λ (q : Stop). q.after) same)
        where
          one_of : {a b : Stop} → Some a ≡ Some b → a ≡ b
          one_of e = cc

          past : {after few many : ℕ} → after < few → few ≤ many → many ≡ after → ⊥
          past a b c = omega arith

-- The messages of a component's calls stand on the tape.
pub calls_stand : (w : Plain) → Consistent w → (c : ℕ) (x : Call) (n j : ℕ) (m : Token) → c < length w.routes → slice_get (w.calls c) n ≡ Some x → slice_get (messages_of x.tuple) j ≡ Some m → StandsOn w.tape m
calls_stand w s c x n j m known at there = elim (slice_get_cases w.routes c).1 [
  | inl r ↦ item_stands s.delivered c (length r.0.readers) (x.position - 1) x.tuple (get_taken (fused (w.arrivals c) (length r.0.readers)) x.tail (x.position - 1) x.tuple (s.causal.own c r.0 n x r.2 at)) j m there
  | inr past ↦ absurd (outside past.0)
]
  where
    outside : length w.routes ≤ c → ⊥
    outside past = omega (arith, known)

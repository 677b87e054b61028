-- Where arrivals and messages stand among those of their reader and channel.
use Rattle.std.proofs.Common.{ℕ, zero, suc, ◌+◌, ◌-◌, ◌≡◌, ◌≢◌, ◌⊎◌, ◌≤◌, ◌<◌, Bool, true, false, refl, sym, ◌∙◌, ap, subst, inl, inr, arith, List, [], ◌∷◌, ◌++◌, length, take, drop, map, filter, Some, slice_get, ◌==◌, cond}
use Rattle.std.proofs.lemmas.Bool.Decides.{nat_tests, eqb_tells}
use Rattle.std.proofs.lemmas.List.{take-append-drop}
use Rattle.std.proofs.lemmas.List.Elements.{filter-append}
use Rattle.std.proofs.lemmas.Option.{slice_get_within}
use Rattle.cy_msg.specs.declared.token.Token.{Token}
use Rattle.cy_msg.specs.declared.token.Tuple.{Tuple}
use Rattle.cy_msg.specs.Tuple.{messages_of}
use Rattle.cy_msg.specs.Tokens.{on_channel, IsNumbered}
use Rattle.cy_msg.proofs.Lists.{there}
use Rattle.cy_fuse.specs.Fusion.{Arrival, fused}
use Rattle.wake_core.specs.declared.route.Route.{Route}
use Rattle.wake_core.specs.Plain.{of_role}
use Rattle.wake_core.specs.Sound.{StandsOn}
use Rattle.wake_core.proofs.Cited.{IsAt}
use Rattle.cy_trace.specs.declared.trace.TraceComponent.{TraceComponent}
use Rattle.cy_verify.specs.private.Leading.{Ended, IsRun, IsHere, AreHere}
use Rattle.cy_verify.proofs.Heard.{get_front}
use Rattle.cy_verify.proofs.Fusing.{came_first}

itself : (n : ℕ) → (n == n) ≡ true
itself n = grind (arith, nat_tests)

-- An arrival's message stands among those of its reader behind all that came to it before.
pub placed : (arrivals : List Arrival) (n : ℕ) (a : Arrival) → slice_get arrivals n ≡ Some a → slice_get (of_role a.0 arrivals) (length (of_role a.0 (take n arrivals))) ≡ Some a.1
placed [] n a e = cc
placed (b ∷ arrivals) zero a e =
    let same : b ≡ a = cc in
    ap (λ (c : Bool). slice_get (map (λ (x : Arrival). x.1) (cond c (b ∷ filter (λ x. x.0 == a.0) arrivals) (filter (λ x. x.0 == a.0) arrivals))) 0) (ap (λ (x : Arrival). x.0 == a.0) same ∙ itself a.0) ∙ ap (λ (x : Arrival). Some x.1) same
placed (b ∷ arrivals) (suc n) a e = later (placed arrivals n a e) (b.0 == a.0)
  where
    later : slice_get (of_role a.0 arrivals) (length (of_role a.0 (take n arrivals))) ≡ Some a.1 → (c : Bool)
        → slice_get (map (λ (x : Arrival). x.1) (cond c (b ∷ filter (λ x. x.0 == a.0) arrivals) (filter (λ x. x.0 == a.0) arrivals))) (length (map (λ (x : Arrival). x.1) (cond c (b ∷ filter (λ x. x.0 == a.0) (take n arrivals)) (filter (λ x. x.0 == a.0) (take n arrivals))))) ≡ Some a.1
    later rest true = rest
    later rest false = rest

-- Fewer arrivals have no more of a role.
of_role_rises : (j : ℕ) (arrivals : List Arrival) (n q : ℕ) → n ≤ q → length (of_role j (take n arrivals)) ≤ length (of_role j (take q arrivals))
of_role_rises j arrivals zero q l = omega arith
of_role_rises j [] (suc n) q l = omega arith
of_role_rises j (b ∷ arrivals) (suc n) zero l = absurd (omega (arith, l))
of_role_rises j (b ∷ arrivals) (suc n) (suc q) l = by (of_role_rises j arrivals n q (omega (arith, l))) (b.0 == j)
  where
    by : length (of_role j (take n arrivals)) ≤ length (of_role j (take q arrivals)) → (c : Bool)
        → length (map (λ (x : Arrival). x.1) (cond c (b ∷ filter (λ x. x.0 == j) (take n arrivals)) (filter (λ x. x.0 == j) (take n arrivals)))) ≤ length (map (λ (x : Arrival). x.1) (cond c (b ∷ filter (λ x. x.0 == j) (take q arrivals)) (filter (λ x. x.0 == j) (take q arrivals))))
    by rest true = omega (arith, rest)
    by rest false = rest

channel_at : (channel base : ℕ) (xs : List Token) → ((n : ℕ) (t : Token) → slice_get xs n ≡ Some t → t.channel ≡ channel → t.seq ≡ base + length (on_channel channel (take n xs)) + 1)
    → (k : ℕ) (t : Token) → slice_get (on_channel channel xs) k ≡ Some t → IsAt channel (base + k) t
channel_at channel base [] h k t e = cc
channel_at channel base (x ∷ xs) h k t e =
    by (λ h' i e'. channel_at channel base xs h' i t e') (λ h' i e'. channel_at channel (base + 1) xs h' i t e') (eqb_tells x.channel channel)
  where
    shifted : (m : ℕ) → base + suc m + 1 ≡ base + 1 + m + 1
    shifted m = omega arith

    Rest : ℕ → Type 0
    Rest b = ((n : ℕ) (u : Token) → slice_get xs n ≡ Some u → u.channel ≡ channel → u.seq ≡ b + length (on_channel channel (take n xs)) + 1) → (i : ℕ) → slice_get (on_channel channel xs) i ≡ Some t → IsAt channel (b + i) t

    own : Rest (base + 1) → (x.channel == channel) ≡ true → x.channel ≡ channel → (i : ℕ) → slice_get (x ∷ on_channel channel xs) i ≡ Some t → IsAt channel (base + i) t
    own later is its zero e' =
        let same : x ≡ t = cc in
        subst (λ (u : Token). IsAt channel (base + 0) u) same record { its = its; number = h 0 x refl its }
    own later is its (suc i) e' =
        let rest = later (λ n u at its'. h (suc n) u at its' ∙ ap (λ (b : Bool). base + length (cond b (x ∷ on_channel channel (take n xs)) (on_channel channel (take n xs))) + 1) is ∙ shifted (length (on_channel channel (take n xs)))) i e' in
        record { its = rest.its; number = omega (arith, rest.number) }

    by : Rest base → Rest (base + 1) → ((x.channel == channel ≡ true) × (x.channel ≡ channel)) ⊎ ((x.channel == channel ≡ false) × (x.channel ≢ channel)) → IsAt channel (base + k) t
    by same later (inl i) = own later i.0 i.1 k (ap (λ (b : Bool). slice_get (cond b (x ∷ on_channel channel xs) (on_channel channel xs)) k) (sym i.0) ∙ e)
    by same later (inr i) =
        same (λ n u at its. h (suc n) u at its ∙ ap (λ (b : Bool). base + length (cond b (x ∷ on_channel channel (take n xs)) (on_channel channel (take n xs))) + 1) i.0) k
        (ap (λ (b : Bool). slice_get (cond b (x ∷ on_channel channel xs) (on_channel channel xs)) k) (sym i.0) ∙ e)

-- The k-th message of a channel has that number.
pub numbered_at : (tape : List Token) → IsNumbered tape → (channel k : ℕ) (t : Token) → slice_get (on_channel channel tape) k ≡ Some t → IsAt channel k t
numbered_at tape numbered channel k t e =
    let is = channel_at channel 0 tape (λ n u at its. numbered n u at ∙ ap (λ c. length (on_channel c (take n tape)) + 1) its ∙ zero_plus (length (on_channel channel (take n tape)))) k t e in
    record { its = is.its; number = omega (arith, is.number) }
  where
    zero_plus : (n : ℕ) → n + 1 ≡ 0 + n + 1
    zero_plus n = omega arith

-- What a beginning of a tape has of a channel begins what the tape has.
pub on_beginning : (tape whole : List Token) → tape ≡ take (length tape) whole → (channel : ℕ) → on_channel channel whole ≡ on_channel channel tape ++ on_channel channel (drop (length tape) whole)
on_beginning tape whole e channel =
    ap (on_channel channel) (sym (take-append-drop (length tape) whole)) ∙ filter-append (λ t. t.channel == channel) (take (length tape) whole) (drop (length tape) whole)
    ∙ ap (λ l. on_channel channel l ++ on_channel channel (drop (length tape) whole)) (sym e)

-- Of a run, and a beginning of its tape.
module _ (x : Route) (told : TraceComponent) (stopped : Bool) (r : Ended) (run : IsRun x told stopped r) where
  -- Each arrival stands on the whole tape.
  pub here_whole : (n : ℕ) (a : Arrival) → slice_get r.arrivals n ≡ Some a → IsHere x r.arrivals r.tape n a
  here_whole n a at =
      let reader = there x.readers a.0 (run.known n a at) in
      let on : slice_get (on_channel reader.0 r.tape) (length (of_role a.0 (take n r.arrivals))) ≡ Some a.1 =
      ap (λ l. slice_get l (length (of_role a.0 (take n r.arrivals)))) (sym (run.whole a.0 reader.0 reader.1)) ∙ placed r.arrivals n a at in
      let is = numbered_at r.tape run.numbered reader.0 (length (of_role a.0 (take n r.arrivals))) a.1 on in
      record {
        reads = reader.1 ∙ ap (λ c. Some c) (sym is.its);
        stands = ap (λ c. slice_get (on_channel c r.tape) (length (of_role a.0 (take n r.arrivals)))) is.its ∙ on;
      }

  pub number_whole : (n : ℕ) (a : Arrival) → slice_get r.arrivals n ≡ Some a → a.1.seq - 1 ≡ length (of_role a.0 (take n r.arrivals))
  number_whole n a at =
      let here = here_whole n a at in
      let is = numbered_at r.tape run.numbered a.1.channel (length (of_role a.0 (take n r.arrivals))) a.1 here.stands in
      omega (arith, is.number)

  module _ (tape : List Token) (begins : tape ≡ take (length tape) r.tape) where
    pub stands_here : (n : ℕ) (a : Arrival) → slice_get r.arrivals n ≡ Some a → StandsOn tape a.1 → IsHere x r.arrivals tape n a
    stands_here n a at stands = record {
      reads = (here_whole n a at).reads;
      stands = ap (slice_get (on_channel a.1.channel tape)) (sym (number_whole n a at)) ∙ stands;
    }

    one : {a b : ℕ} → Some a ≡ Some b → a ≡ b
    one e = cc

    -- Where a later one of its reader stands on the beginning, an arrival does.
    earlier_stands : (n q : ℕ) (a b : Arrival) → slice_get r.arrivals n ≡ Some a → slice_get r.arrivals q ≡ Some b → n ≤ q → b.0 ≡ a.0 → StandsOn tape b.1 → StandsOn tape a.1
    earlier_stands n q a b at at' l same stands =
        let ha = here_whole n a at in
        let hb = here_whole q b at' in
        let channels : b.1.channel ≡ a.1.channel = one (sym hb.reads ∙ ap (slice_get x.readers) same ∙ ha.reads) in
        let behind : slice_get (on_channel a.1.channel tape) (length (of_role a.0 (take q r.arrivals))) ≡ Some b.1 =
        ap (λ c. slice_get (on_channel c tape) (length (of_role a.0 (take q r.arrivals)))) (sym channels) ∙ ap (λ j. slice_get (on_channel b.1.channel tape) (length (of_role j (take q r.arrivals)))) (sym same)
        ∙ ap (slice_get (on_channel b.1.channel tape)) (sym (number_whole q b at')) ∙ stands in
        let inside : length (of_role a.0 (take n r.arrivals)) < length (on_channel a.1.channel tape) =
        omega (arith, slice_get_within (on_channel a.1.channel tape) (length (of_role a.0 (take q r.arrivals))) b.1 behind, of_role_rises a.0 r.arrivals n q l) in
        ap (slice_get (on_channel a.1.channel tape)) (number_whole n a at)
        ∙ get_front (on_channel a.1.channel tape) (on_channel a.1.channel (drop (length tape) r.tape)) (length (of_role a.0 (take n r.arrivals))) a.1 inside
        (ap (λ l. slice_get l (length (of_role a.0 (take n r.arrivals)))) (sym (on_beginning tape r.tape begins a.1.channel)) ∙ ha.stands)

    -- Where the messages of the first so many tuples stand on the beginning, all that came before they were fused does.
    pub are_here : length x.readers ≤ 4 → (tail : ℕ) → tail ≤ length (fused r.arrivals (length x.readers))
        → ((i : ℕ) (tuple : Tuple) → i < tail → slice_get (fused r.arrivals (length x.readers)) i ≡ Some tuple → (j : ℕ) (m : Token) → slice_get (messages_of tuple) j ≡ Some m → StandsOn tape m)
        → AreHere x r.arrivals tape tail
    are_here few tail reached all n a at l = stands_here n a at (came_first (StandsOn tape) (length x.readers) few r.arrivals earlier_stands run.known tail reached all n a at l)

  -- On the whole tape it does anyway.
  pub all_here : (tape : List Token) → tape ≡ r.tape → (n : ℕ) (a : Arrival) → slice_get r.arrivals n ≡ Some a → IsHere x r.arrivals tape n a
  all_here tape same n a at = subst (λ (l : List Token). IsHere x r.arrivals l n a) (sym same) (here_whole n a at)

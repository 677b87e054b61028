-- The room that all messages, and all arrivals at a component, take.
use Rattle.std.proofs.Common.{ℕ, zero, suc, ◌+◌, ◌≡◌, ◌≢◌, ◌≤◌, ◌<◌, Bool, true, false, refl, sym, ◌∙◌, ap, subst, inl, inr, arith, Option, Some, None, List, [], ◌∷◌, ◌++◌, length, take, slice_get, filter, map, sum, ◌==◌, not, cond, length-append, le_trans}
use Rattle.std.proofs.lemmas.Bool.Decides.{eqb_tells}
use Rattle.std.proofs.lemmas.List.{length-take, length-map}
use Rattle.std.proofs.lemmas.List.Sums.{sum_by-cons}
use Rattle.std.proofs.lemmas.Option.{slice_get_within}
use Rattle.cy_msg.specs.declared.token.Token.{Token}
use Rattle.cy_msg.specs.Tokens.{on_channel}
use Rattle.cy_msg.proofs.Lists.{place, get_snoc}
use Rattle.cy_fuse.specs.Fusion.{Arrival}
use Rattle.wake_core.specs.Run.{Route}
use Rattle.cy_fuse.specs.Laws.{FetchesFind}
use Rattle.cy_comp.specs.declared.call.Call.{Call}
use Rattle.wake_core.specs.Planned.{planned_count, counts_from, first_reader}
use Rattle.wake_core.specs.Plain.{Plain, hand, Asked, reads, of_role, lists_reader, unsent_of}
use Rattle.wake_core.specs.Events.{IsNext, next_call}
use Rattle.wake_core.specs.Sound.{Room, Consistent}
use Rattle.wake_core.proofs.Arrived.{of_role_own, of_role_other}
use Rattle.wake_core.proofs.Delivering.{owes_channel}
use Rattle.wake_core.proofs.Making.{call_made, fits}
use Rattle.wake_core.proofs.Taping.{send_room, message_room}

-- A list is those that pass a test, and those that don't.
split : {X : Type 0} (p : X → Bool) (xs : List X) → length xs ≡ length (filter p xs) + length (filter (λ x. not (p x)) xs)
split p [] = refl
split p (x ∷ xs) = go (split p xs) (p x)
  where
    go : length xs ≡ length (filter p xs) + length (filter (λ x. not (p x)) xs) → (b : Bool)
        → suc (length xs) ≡ length (cond b (x ∷ filter p xs) (filter p xs)) + length (cond (not b) (x ∷ filter (λ x. not (p x)) xs) (filter (λ x. not (p x)) xs))
    go e true = omega arith
    go e false = omega arith

-- Fewer pass a test among some than among all.
fewer : {X : Type 0} (p q : X → Bool) (xs : List X) → length (filter p (filter q xs)) ≤ length (filter p xs)
fewer p q [] = omega arith
fewer p q (x ∷ xs) = go (fewer p q xs) (q x)
  where
    within : length (filter p (filter q xs)) ≤ length (filter p xs) → (b : Bool) → length (filter p (filter q xs)) ≤ length (cond b (x ∷ filter p xs) (filter p xs))
    within e true = omega arith
    within e false = e

    both : length (filter p (filter q xs)) ≤ length (filter p xs) → (b : Bool) → length (cond b (x ∷ filter p (filter q xs)) (filter p (filter q xs))) ≤ length (cond b (x ∷ filter p xs) (filter p xs))
    both e true = omega arith
    both e false = e

    go : length (filter p (filter q xs)) ≤ length (filter p xs) → (b : Bool) → length (filter p (cond b (x ∷ filter q xs) (filter q xs))) ≤ length (filter p (x ∷ xs))
    go e true = both e (p x)
    go e false = within e (p x)

-- What stands among those that pass a test stands among all, and passes it.
passed_at : {X : Type 0} (p : X → Bool) (xs : List X) (n : ℕ) (x : X) → slice_get (filter p xs) n ≡ Some x → (i : ℕ) × (slice_get xs i ≡ Some x) × (p x ≡ true)
passed_at p [] n x e = cc
passed_at p (y ∷ xs) n x e = go (λ m e. passed_at p xs m x e) (p y) refl n e
  where
    later : (i : ℕ) × (slice_get xs i ≡ Some x) × (p x ≡ true) → (i : ℕ) × (slice_get (y ∷ xs) i ≡ Some x) × (p x ≡ true)
    later h = (suc h.0, h.1, h.2)

    go : ((m : ℕ) → slice_get (filter p xs) m ≡ Some x → (i : ℕ) × (slice_get xs i ≡ Some x) × (p x ≡ true)) → (b : Bool) → p y ≡ b → (n : ℕ) → slice_get (cond b (y ∷ filter p xs) (filter p xs)) n ≡ Some x
        → (i : ℕ) × (slice_get (y ∷ xs) i ≡ Some x) × (p x ≡ true)
    go rest true is zero e = let same : y ≡ x = cc in (zero, e, ap p (sym same) ∙ is)
    go rest true is (suc n) e = later (rest n e)
    go rest false is n e = later (rest n e)

-- Numbers from one on, of which one is another, are from the next on.
from_next : (m first more : ℕ) → first ≤ m → m < first + suc more → m ≢ first → (suc first ≤ m) × (m < suc first + more)
from_next m first more a b n = (omega arith, omega arith)

module _ (routes : List Route) (counts : List ℕ) where
  tape_total : (first more : ℕ) (tape : List Token) → ((n : ℕ) (t : Token) → slice_get tape n ≡ Some t → (first ≤ t.channel) × (t.channel < first + more))
      → ((channel : ℕ) → length (on_channel channel tape) ≤ planned_count routes counts channel) → length tape ≤ counts_from routes counts first more
  tape_total first zero [] known few = omega arith
  tape_total first zero (t ∷ tape) known few = let k = known 0 t refl in absurd (none t.channel first k.0 k.1)
    where
      none : (m n : ℕ) → n ≤ m → m < n + 0 → ⊥
      none m n a b = omega arith
  tape_total first (suc more) tape known few =
      let others : List Token = filter (λ t. not (t.channel == first)) tape in
      let rest : length others ≤ counts_from routes counts (suc first) more = tape_total (suc first) more others
      (λ n t e. let h = passed_at (λ (t : Token). not (t.channel == first)) tape n t e in let k = known h.0 t h.1 in from_next t.channel first more k.0 k.1 (apart t h.2))
      (λ channel. le_trans (fewer (λ (t : Token). t.channel == channel) (λ t. not (t.channel == first)) tape) (few channel)) in
      let here = few first in
      omega (arith, split (λ (t : Token). t.channel == first) tape, rest, here)
    where
      apart : (t : Token) → not (t.channel == first) ≡ true → t.channel ≢ first
      apart t e is = elim (eqb_tells t.channel first) [ inl h ↦ false_true (sym (ap not h.0) ∙ e) | inr h ↦ h.1 is ]
        where
          false_true : false ≡ true → ⊥
          false_true e = cc

  roles_total : (readers : List ℕ) (first : ℕ) (arrivals : List Arrival) → ((n : ℕ) (a : Arrival) → slice_get arrivals n ≡ Some a → (first ≤ a.0) × (a.0 < first + length readers))
      → ((j channel : ℕ) → slice_get readers j ≡ Some channel → length (of_role (first + j) arrivals) ≤ planned_count routes counts channel)
      → length arrivals ≤ sum (map (planned_count routes counts) readers)
  roles_total [] first [] known few = omega arith
  roles_total [] first (a ∷ arrivals) known few = let k = known 0 a refl in absurd (none a.0 first k.0 k.1)
    where
      none : (m n : ℕ) → n ≤ m → m < n + 0 → ⊥
      none m n a b = omega arith
  roles_total (r ∷ readers) first arrivals known few =
      let others : List Arrival = filter (λ a. not (a.0 == first)) arrivals in
      let rest : length others ≤ sum (map (planned_count routes counts) readers) = roles_total readers (suc first) others
      (λ n a e. let h = passed_at (λ (a : Arrival). not (a.0 == first)) arrivals n a e in let k = known h.0 a h.1 in from_next a.0 first (length readers) k.0 k.1 (apart a h.2))
      (λ j channel at. less j channel (few (suc j) channel at)) in
      let here : length (of_role first arrivals) ≤ planned_count routes counts r = first_few (few 0 r refl) in
      let cons : sum (map (planned_count routes counts) (r ∷ readers)) ≡ planned_count routes counts r + sum (map (planned_count routes counts) readers) =
      sum_by-cons (λ n. n) (planned_count routes counts r) (map (planned_count routes counts) readers) in
      omega (arith, cons, split (λ (a : Arrival). a.0 == first) arrivals, rest, here, length-map (filter (λ a. a.0 == first) arrivals) (λ (a : Arrival). a.1))
    where
      apart : (a : Arrival) → not (a.0 == first) ≡ true → a.0 ≢ first
      apart a e is = elim (eqb_tells a.0 first) [ inl h ↦ false_true (sym (ap not h.0) ∙ e) | inr h ↦ h.1 is ]
        where
          false_true : false ≡ true → ⊥
          false_true e = cc

      first_few : length (of_role (first + 0) arrivals) ≤ planned_count routes counts r → length (of_role first arrivals) ≤ planned_count routes counts r
      first_few l = let same : first + 0 ≡ first = omega arith in subst (λ n. length (of_role n arrivals) ≤ planned_count routes counts r) same l

      less : (j channel : ℕ) → length (of_role (first + suc j) arrivals) ≤ planned_count routes counts channel → length (of_role (suc first + j) (filter (λ a. not (a.0 == first)) arrivals)) ≤ planned_count routes counts channel
      less j channel l =
          let same : first + suc j ≡ suc first + j = omega arith in
          let all = subst (λ n. length (of_role n arrivals) ≤ planned_count routes counts channel) same l in
          omega (
            arith,
            all,
            fewer (λ (a : Arrival). a.0 == suc first + j) (λ a. not (a.0 == first)) arrivals,
            length-map (filter (λ a. a.0 == suc first + j) arrivals) (λ (a : Arrival). a.1),
            length-map (filter (λ a. a.0 == suc first + j) (filter (λ a. not (a.0 == first)) arrivals)) (λ (a : Arrival). a.1),
          )

  -- Where each channel has room, so has the tape.
  pub room_total : {calls : ℕ → List Call} (tape : List Token) (t : Token) → Room routes counts calls (tape ++ t ∷ []) → length tape < counts_from routes counts 0 (length counts)
  room_total tape t room =
      let all = tape_total 0 (length counts) (tape ++ t ∷ []) (λ n s e. let l = room.channels n s e in (omega arith, omega arith)) room.taped in
      omega (arith, all, length-append tape (t ∷ []))

-- The tape has no more messages than are planned.
pub tape_planned : (w : Plain) → Consistent w → length w.tape ≤ counts_from w.routes w.counts 0 (length w.counts)
tape_planned w s = tape_total w.routes w.counts 0 (length w.counts) w.tape (λ n t e. let l = s.room.channels n t e in (omega arith, omega arith)) s.room.taped

pub output_room : (w : Plain) (c : ℕ) (t : Token) → unsent_of w c ≡ Some t → Consistent w → length w.tape < counts_from w.routes w.counts 0 (length w.counts)
output_room w c t is s = room_total w.routes w.counts w.tape t (send_room w c t is s)

pub message_total : (w : Plain) (t : Token) → IsNext t w → Consistent w → length w.tape < counts_from w.routes w.counts 0 (length w.counts)
message_total w t next s = room_total w.routes w.counts w.tape t (message_room t w next s)

pub arrival_room : (w : Plain) (p v j : ℕ) (x : Route) → lists_reader v j (w.fills p) ≡ true → slice_get w.routes v ≡ Some x → Consistent w
    → length (w.arrivals v) < sum (map (planned_count w.routes w.counts) x.readers)
arrival_room w p v j x owes at s =
    let t = w.tokens p in
    let all : length (w.arrivals v ++ (j, t) ∷ []) ≤ sum (map (planned_count w.routes w.counts) x.readers) = roles_total w.routes w.counts x.readers 0 (w.arrivals v ++ (j, t) ∷ [])
    (λ n a e. (omega arith, within n a e))
    (λ i channel is. each i channel is) in
    omega (arith, all, length-append (w.arrivals v) ((j, t) ∷ []))
  where
    role_of : (i : ℕ) → reads w.routes v i ≢ None → i < length x.readers
    role_of i some = by (slice_get x.readers i) refl
      where
        by : (o : Option ℕ) → slice_get x.readers i ≡ o → i < length x.readers
        by None e = absurd (some (rw at e))
        by (Some r) e = slice_get_within x.readers i r e

    some_none : (n : ℕ) → Some n ≡ None → ⊥
    some_none n e = cc

    within : (n : ℕ) (a : Arrival) → slice_get (w.arrivals v ++ (j, w.tokens p) ∷ []) n ≡ Some a → a.0 < 0 + length x.readers
    within n a e = elim (get_snoc (w.arrivals v) (j, w.tokens p) n a e) [
      | inl h ↦ let l = role_of a.0 (s.delivered.known v n a h) in omega arith
      | inr h ↦
          let l = role_of j (λ none. some_none (w.tokens p).channel (sym (owes_channel s.delivered p v j owes) ∙ none)) in
          let is : j ≡ a.0 = ap (λ (b : Arrival). b.0) h.1 in omega arith
    ]

    one_of : {m n : ℕ} → Some m ≡ Some n → m ≡ n
    one_of e = cc

    shorter : (xs ys : List Token) (most : ℕ) → xs ≡ take (length xs) ys → length ys ≤ most → length xs ≤ most
    shorter xs ys most e l = omega (arith, length-take (length xs) ys, ap length e)

    each : (i channel : ℕ) → slice_get x.readers i ≡ Some channel → length (of_role (0 + i) (w.arrivals v ++ (j, w.tokens p) ∷ [])) ≤ planned_count w.routes w.counts channel
    each i channel is = let same : 0 + i ≡ i = omega arith in subst (λ n. length (of_role n (w.arrivals v ++ (j, w.tokens p) ∷ [])) ≤ planned_count w.routes w.counts channel) (sym same) (elim (place j i) [
      | inl e ↦
          let reading : reads w.routes v j ≡ Some channel = rw (at, e) is in
          let same_channel : (w.tokens p).channel ≡ channel = one_of (sym (owes_channel s.delivered p v j owes) ∙ reading) in
          let own : of_role i (w.arrivals v ++ (j, w.tokens p) ∷ []) ≡ on_channel channel w.tape =
          ap (λ n. of_role n (w.arrivals v ++ (j, w.tokens p) ∷ [])) (sym e) ∙ of_role_own j (w.arrivals v) (w.tokens p) ∙ s.delivered.owed p v j owes ∙ ap (λ n. on_channel n w.tape) same_channel in
          let l = s.room.taped channel in rw own l
      | inr n ↦
          let reading : reads w.routes v i ≡ Some channel = rw at is in
          let begun = s.delivered.begins v i channel reading in
          let l = s.room.taped channel in
          rw (of_role_other j i (w.arrivals v) (w.tokens p) n) (shorter (of_role i (w.arrivals v)) (on_channel channel w.tape) (planned_count w.routes w.counts channel) begun l)
    ])

pub call_in_room : FetchesFind → (w : Plain) (p c : ℕ) (x : Route) (call : Call) → w.hands p ≡ hand c Asked → next_call w c ≡ Some call → slice_get w.routes c ≡ Some x → Consistent w
    → length (w.calls c) < planned_count w.routes w.counts (first_reader x)
call_in_room law w p c x call held some at s = let all = fits p c w call held (call_made w c call some) law s x at in omega (arith, all, length-append (w.calls c) (call ∷ []))
